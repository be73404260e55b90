-- A set has as many images as entries.
use Rattle.std.proofs.Common.{◌≡◌, ◌∙◌, ◌≤◌, ◌+◌, ℕ, List, [], ◌∷◌, length, ap, sym, subst, refl, arith}
use Rattle.std.proofs.lemmas.List.{length-map}
use Rattle.pe_set.specs.Set.{Entry, modules_from, modules_of}
use Rattle.pe_set.specs.SetView.{entry_view, entries_of, module_view, modules_view}
use Rattle.pe_set.specs.declared.entry.SetEntry.{SetEntry}
use Rattle.pe_set.specs.declared.reading.Module as code_module

pub few_images : (set : List SetEntry) → length (entries_of set) ≤ 256 → length set ≤ 256
few_images set few = subst (λ (n : ℕ). n ≤ 256) (length-map set entry_view) few

pub count_from : (n : ℕ) (es : List Entry) → length (modules_from n es) ≡ length es
count_from n [] = refl
count_from n (e ∷ es) = let more = count_from (n + 1) es in omega (arith, more)

pub count_modules : {A : Type 0} (set : List SetEntry) (ms : List (code_module.Module A)) → modules_view ms ≡ modules_of (entries_of set) → length ms ≡ length set
unfolding modules_of
count_modules set ms is = sym (length-map ms module_view) ∙ ap length is ∙ count_from 0 (entries_of set) ∙ length-map set entry_view

pub modules_count : (es : List Entry) → length (modules_of es) ≡ length es
unfolding modules_of
modules_count es = count_from 0 es
