-- An import looked up by its slot, import by import.
use Rattle.std.proofs.Common.{◌≡◌, ◌∙◌, ℕ, ◌+◌, ◌<◌, ◌≤◌, List, ◌∷◌, map, drop, length, get_or, Some, None, sym}
use Rattle.std.proofs.lemmas.Bool.{eq-eqb, ne_eqb}
use Rattle.std.proofs.lemmas.List.{at_drop_more, drop_all}
use Rattle.std.specs.List.{find}
use Rattle.std.specs.Prelude.{Option, ◌==◌}
use Rattle.pe_tables.specs.Imports as table
use Rattle.pe_tables.specs.ImportView.{import_view}
use Rattle.pe_tables.specs.declared.import.Import.{Import}

abbrev found : ℕ → List Import → Option table.Import
found slot imports = find (λ (m : table.Import). m.slot == slot) (map import_view imports)

module _ (imports : List Import) (slot i : ℕ) (d : Import) (all : Option table.Import) (below : i < length imports) (left : found slot (drop i imports) ≡ all) where
  here : found slot (get_or imports i d ∷ drop (i + 1) imports) ≡ all
  here = sym (at_drop_more (found slot) imports i d below) ∙ left

  -- import i has the slot
  pub slot_found : (get_or imports i d).slot ≡ slot → Some (import_view (get_or imports i d)) ≡ all
  slot_found is = rw (eq-eqb (get_or imports i d).slot slot is) at here

  -- it has not
  pub slot_passed : ((get_or imports i d).slot ≡ slot → ⊥) → found slot (drop (i + 1) imports) ≡ all
  slot_passed not = rw (ne_eqb (get_or imports i d).slot slot not) at here

-- no import has it
pub no_slot : (imports : List Import) (slot i : ℕ) (all : Option table.Import) → length imports ≤ i → found slot (drop i imports) ≡ all → None ≡ all
no_slot imports slot i all past left = rw (drop_all i imports past) at left
