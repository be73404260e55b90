-- The lines of images are the same with their delay-loaded imports.
use Rattle.std.proofs.Common.{◌≡◌, ◌∙◌, ℕ, ◌+◌, List, [], ◌∷◌, ◌++◌, length, map, refl, sym, ap}
use Rattle.std.proofs.lemmas.Simd.{map-map}
use Rattle.pe_set.specs.DelayedImports.{delayed_in, with_delayed, with_imports}
use Rattle.pe_set.specs.Placement.{Placement}
use Rattle.pe_set.specs.Set as sets
use Rattle.pe_set.specs.Set.{Module, modules_of}
use Rattle.pe_set.specs.SetView.{entry_view, entries_of}
use Rattle.pe_set.specs.declared.entry.SetEntry.{SetEntry}
use Rattle.pe_space.proofs.Judged as judged
use Rattle.pe_text.specs.Text.{numbered}
use Rattle.pe_map_lines.specs.MapReport.{image_line, told_line}
use Rattle.pe_map_lines.proofs.Mapped.{images_told}
use Rattle.pe_map_lines.proofs.Reported.{AreToldAs, count_of}

placements_delayed : (s : List Module) → map sets.placement_of (with_delayed s) ≡ map sets.placement_of s
unfolding with_delayed
placements_delayed s = map-map sets.placement_of (λ (m : Module). with_imports (delayed_in s m) m) s

lines_from : (all s : List Module) (n : ℕ) → numbered (λ (number : ℕ) (m : Module). image_line number m.name m.base m.image.size) n (map (λ (m : Module). with_imports (delayed_in all m) m) s)
    ≡ numbered (λ (number : ℕ) (m : Module). image_line number m.name m.base m.image.size) n s
lines_from all [] n = refl
lines_from all (m ∷ s) n = ap (λ (lines : List ℕ). image_line n m.name m.base m.image.size ++ lines) (lines_from all s (n + 1))

lines_delayed : (s : List Module) → numbered (λ (number : ℕ) (m : Module). image_line number m.name m.base m.image.size) 0 (with_delayed s)
    ≡ numbered (λ (number : ℕ) (m : Module). image_line number m.name m.base m.image.size) 0 s
unfolding with_delayed
lines_delayed s = lines_from s s 0

pub delayed_told : (set : List SetEntry) → AreToldAs set (with_delayed (modules_of (entries_of set)))
delayed_told set =
    let s = modules_of (entries_of set) in
    ap (λ (ps : List Placement). numbered (λ (number : ℕ) (e : SetEntry). told_line ps number (entry_view e)) 0 set) (placements_delayed s)
    ∙ images_told set
    ∙ sym (lines_delayed s)

pub count_delayed : (set : List SetEntry) → length (with_delayed (modules_of (entries_of set))) ≡ length set
count_delayed set = judged.count_delayed (modules_of (entries_of set)) ∙ count_of set
