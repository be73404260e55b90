-- The text of a detail, part by part.
use Rattle.std.proofs.Common.{◌≡◌, List, [], ◌∷◌, ◌++◌, map, refl, ap}
use Rattle.std.specs.Prelude.{ℕ, flat_map}
use Rattle.pe_detail.specs.declared.words.DetailPart.{DetailPart}
use Rattle.pe_detail.specs.DetailWords.{part_view, words_text, part_text}

pub flat_map_of_parts : (parts : List DetailPart) → flat_map words_text (map part_view parts) ≡ flat_map part_text parts
flat_map_of_parts [] = refl
flat_map_of_parts (part ∷ parts) = ap (λ (text : List ℕ). part_text part ++ text) (flat_map_of_parts parts)
