-- An object that is written plain needs no big form.
use Rattle.std.proofs.Common.{◌≡◌, ◌∙◌, ℕ, false, List, [], ◌∷◌, length, None, refl, ap}
use Rattle.std.specs.Prelude.{◌==◌, ◌||◌, nat_lt}
use Rattle.std.specs.List.{list_any, AllByRecursion}
use Rattle.std.proofs.lemmas.Bool.{or_parts, le-ltb}
use Rattle.pe_view.specs.Faults.{first_standing}
use Rattle.coff_read.specs.FormRecords.{last_number, is_bad_number, is_bad_aux, is_bad_symbol}
use Rattle.coff_read.specs.Forms.{Plain}
use Rattle.coff_read.specs.Records.{Symbol, Object}
use Rattle.coff_read.specs.declared.symbol.SymbolSection.{SymbolSection}
use Rattle.coff_read.specs.declared.symbol.SymbolSection.TheVariants as belongs
use Rattle.coff_object.specs.NeededForm.{is_past_number, is_past_plain, needs_big_form}
use Rattle.coff_object.specs.WriteFaults.{write_tests}
use Rattle.coff_object.proofs.PlainWritten.{same_write_tests}
use Rattle.coff_object.proofs.Writable.{Accepted, accepted}

plain_number : (count : ℕ) (section : SymbolSection) → is_bad_number Plain count section ≡ false → is_past_number section ≡ false
plain_number count belongs.Undefined good = refl
plain_number count belongs.Absolute good = refl
plain_number count belongs.Debug good = refl
plain_number count (belongs.Section k) good =
    let some = or_parts (k == 0) (nat_lt count k || nat_lt (last_number Plain) k) good in
    (or_parts (nat_lt count k) (nat_lt (last_number Plain) k) some.1).1

plain_numbers : (count : ℕ) (ss : List Symbol) → AllByRecursion (λ (s : Symbol). is_bad_symbol Plain count s ≡ false) ss
    → list_any is_past_plain ss ≡ false
plain_numbers count [] good = refl
plain_numbers count (s ∷ ss) good =
    let own = or_parts (is_bad_number Plain count s.section) (is_bad_aux Plain (length s.aux)) good.0 in
    rw (plain_number count s.section own.0) (plain_numbers count ss good.1)

pub plain_suffices : (o : Object) → first_standing (write_tests o) ≡ None → needs_big_form o.sections o.symbols ≡ false
plain_suffices o none =
    let a : Accepted Plain o = accepted Plain o (ap first_standing (same_write_tests o) ∙ none) in
    rw (le-ltb 65535 (length o.sections) a.count) (plain_numbers (length o.sections) o.symbols a.symbols)
