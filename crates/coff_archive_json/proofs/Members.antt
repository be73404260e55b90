-- The members of a line as code adds them.
use Rattle.std.proofs.Common.{◌≡◌, ◌∙◌, ℕ, List, [], ◌∷◌, ◌++◌, codes, Option, None, Some, map, refl, sym, ap, append_assoc, append-nil}
use Rattle.std.specs.Option.{option_or}
use Rattle.json.specs.Print.{quoted}
use Rattle.pe_view.specs.declared.fault.Fault.{Fault}
use Rattle.pe_detail.specs.declared.detail.Detail.{Detail}
use Rattle.coff_archive.specs.Symbols.{Symbol}
use Rattle.pe_text.specs.declared.text_writer.TextWriter.{TextWriter}
use Rattle.pe_text.specs.TextWriter.{Adds}
use Rattle.pe_json.specs.JsonText.{member, list, with_commas}
use Rattle.pe_json.specs.Listed.{more}
use Rattle.pe_json.proofs.Objects.{also, also_none}
use Rattle.coff_archive_json.specs.Line.{verdict}
use Rattle.coff_archive_json.specs.MemberLine.{told}
use Rattle.coff_archive_json.specs.SymbolRows.{symbol_row, symbols_if, symbols_value_if}

or_none : {X : Type 0} (a : Option X) → option_or a None ≡ a
or_none None = refl
or_none (Some x) = refl

-- the list of symbols, where a constant stands for a comma, its key, the colon and the bracket
pub symbols_given : (constant key : List ℕ) (symbols : Option (List Symbol)) → constant ≡ codes "," ++ (quoted key ++ codes ":[") → symbols_value_if constant symbols ≡ more (symbols_if key symbols)
unfolding symbols_if member list more
symbols_given constant key None is = refl
symbols_given constant key (Some symbols) is =
    let rows = with_commas (map symbol_row symbols) ++ codes "]" in
    ap (λ (xs : List ℕ). xs ++ rows) is
    ∙ ap (λ (xs : List ℕ). 44 ∷ xs) (append_assoc (quoted key) (codes ":[") rows ∙ sym (append_assoc (quoted key) (codes ":") (codes "[" ++ rows)))
    ∙ sym (append-nil (44 ∷ ((quoted key ++ codes ":") ++ (codes "[" ++ rows))))

module _ {W : Type 0} {taken : W → List ℕ} {failures : W → ℕ} where
  -- what a member holds is told if it has no fault of its own
  pub held_told : {a b c : TextWriter W} (of_name own : Option (Fault × Option Detail)) (held : List (List ℕ)) → own ≡ None
      → Adds taken failures a b (more (verdict of_name)) → Adds taken failures b c (more held) → Adds taken failures a c (more (told of_name own held))
  held_told {a = a} {c = c} of_name own held none p q =
      rw (none, or_none of_name) (also (verdict of_name) held p q)

  -- and is not if it has one
  pub fault_told : {a b : TextWriter W} (of_name own : Option (Fault × Option Detail)) (held : List (List ℕ)) (refusal : Fault × Option Detail) → own ≡ Some refusal
      → Adds taken failures a b (more (verdict (option_or of_name (Some refusal)))) → Adds taken failures a b (more (told of_name own held))
  fault_told of_name own held refusal some p = rw some (also_none _ p)

  -- of a member that is not read there is nothing
  pub nothing_told : {a b : TextWriter W} (of_name own : Option (Fault × Option Detail)) (held : List (List ℕ)) → own ≡ None → held ≡ []
      → Adds taken failures a b (more (verdict of_name)) → Adds taken failures a b (more (told of_name own held))
  nothing_told of_name own held none nothing p = rw (none, nothing, or_none of_name) (also_none _ p)
