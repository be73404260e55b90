-- Which packed bytes decide the tables of an image, from what reading these returned.
use Rattle.std.proofs.Common.{◌≡◌, ℕ, Bool, true, false, List, ◌++◌, length, Option, None, Some, Result, Ok, Err, refl, sym, ◌∙◌, ap, inl, inr}
use Rattle.std.specs.Prelude.{OnErr, is_some, is_none, option_map, map}
use Rattle.std.specs.Option.{option_or}
use Rattle.std.proofs.lemmas.Bool.{cases_Bool, and_from, and_left, and_right}
use Rattle.pe_view.specs.Faults.{Test, first_standing}
use Rattle.pe_view.specs.FirstStanding.{first-append}
use Rattle.pe_view.specs.declared.fault.Fault.{Fault}
use Rattle.pe_head.specs.declared.headers.Headers.{Headers}
use Rattle.pe_layout.specs.Image.{LaidOut, image_from}
use Rattle.pe_layout.specs.Layout.{can_lay_out}
use Rattle.pe_tables.specs.ExportFaults.{export_tests}
use Rattle.pe_tables.specs.Exports.{exports_of}
use Rattle.pe_tables.specs.ExportsView.{exports_view}
use Rattle.pe_tables.specs.FixupFaults.{fixup_tests}
use Rattle.pe_tables.specs.Fixups.{fixups_of}
use Rattle.pe_tables.specs.ImportFaults.{import_tests}
use Rattle.pe_tables.specs.Imports.{imports_of}
use Rattle.pe_tables.specs.ImportView.{import_view}
use Rattle.pe_image.specs.ImageOf.{unless, AreTablesOf}
use Rattle.pe_image.specs.ImageTests.{import_slots, relocation_tests, table_tests}
use Rattle.pe_image.specs.declared.tables.Tables.{Tables}
use Rattle.pe_parts.specs.AtHand.{tables_at_hand, can_decide_tables}

map_some : {X Y : Type 0} (f : X → Y) (o : Option X) → is_some (option_map f o) ≡ is_some o
map_some f None = refl
map_some f (Some x) = refl

unless_some : {X : Type 0} (tests : List Test) (x : X) → is_some (unless tests x) ≡ is_none (first_standing tests)
unless_some tests x = elim (cases_Bool (is_none (first_standing tests))) [
  | inl e ↦ rw e refl
  | inr e ↦ rw e refl
]

-- a fault of the first tests is one of all
or_some : (a b : Option Fault) → is_none a ≡ false → is_none (option_or a b) ≡ false
or_some None b e = absurd cc
or_some (Some x) b e = refl

first_fails : (front rest : List Test) → is_none (first_standing front) ≡ false → is_none (first_standing (front ++ rest)) ≡ false
first_fails front rest e = ap is_none (first-append front rest) ∙ or_some (first_standing front) (first_standing rest) e

or_some_on : (a b d : Option Fault) → is_none (option_or a b) ≡ false → is_none (option_or a (option_or b d)) ≡ false
or_some_on None b d e = or_some b d e
or_some_on (Some x) b d e = refl

fails_on : (front mid rest : List Test) → is_none (first_standing (front ++ mid)) ≡ false → is_none (first_standing (front ++ (mid ++ rest))) ≡ false
fails_on front mid rest e =
    let both : is_none (option_or (first_standing front) (first_standing mid)) ≡ false = ap is_none (sym (first-append front mid)) ∙ e in
    ap is_none (first-append front (mid ++ rest) ∙ ap (λ (o : Option Fault). option_or (first_standing front) o) (first-append mid rest))
    ∙ or_some_on (first_standing front) (first_standing mid) (first_standing rest) both

-- a table that is not there has a fault, or one before it does
module _ {A : Type 0} (i : LaidOut) (t : Tables A) (are : AreTablesOf i t) where
  pub no_exports : t.exports ≡ None → is_none (first_standing (table_tests i)) ≡ false
  unfolding table_tests
  no_exports none =
      first_fails (export_tests i) (relocation_tests i)
      (sym (unless_some (export_tests i) (exports_of i)) ∙ sym (ap is_some are.exports) ∙ map_some exports_view t.exports ∙ ap is_some none)

  pub no_imports : t.imports ≡ None → is_none (first_standing (table_tests i)) ≡ false
  unfolding table_tests
  no_imports none =
      fails_on (export_tests i) (import_tests i) (fixup_tests i (import_slots i))
      (sym (unless_some (export_tests i ++ import_tests i) (imports_of i)) ∙ sym (ap is_some are.imports) ∙ map_some (λ imports. map import_view imports.items) t.imports ∙ ap is_some none)

  pub fixups_are : is_some t.fixups ≡ is_none (first_standing (table_tests i))
  fixups_are = sym (map_some (λ fixups. fixups.items) t.fixups) ∙ ap is_some are.fixups ∙ unless_some (table_tests i) (fixups_of i)

module _ (n : ℕ) (p : Headers) (c : List ℕ) where
  pub faulty : is_none (first_standing (table_tests (image_from n p c))) ≡ false → can_decide_tables n p c ≡ false
  faulty fails = and_right _ _ (and_left _ _ fails)

  pub absent : tables_at_hand p (image_from n p c) ≡ false → can_decide_tables n p c ≡ false
  absent fails = and_right _ _ (and_right _ _ fails)

  pub decided : can_lay_out n p (length c) ≡ true → is_none (first_standing (table_tests (image_from n p c))) ≡ true → tables_at_hand p (image_from n p c) ≡ true → can_decide_tables n p c ≡ true
  decided lay sound hand = and_from _ _ lay (and_from _ _ sound hand)

-- a fault that is there, or not
pub some_stands : (o : Option Fault) → is_some o ≡ true → is_none o ≡ false
some_stands None e = absurd cc
some_stands (Some x) e = refl

pub none_stands : (o : Option Fault) → is_some o ≡ false → is_none o ≡ true
none_stands None e = refl
none_stands (Some x) e = absurd cc

-- what holds where an error may stand holds of it
pub on_err : {T E P : Type 0} (r : Result T E) → P → OnErr r P
on_err (Ok x) p = tt
on_err (Err e) p = p
