-- Sets whose files may differ, but not in what decides a set.
use Rattle.std.specs.Prelude.{◌≡◌, List, [], ◌∷◌}
use Rattle.pe_set.specs.Set.{Entry}
use Rattle.pe_reach.specs.Reach.{SameAnswers}

-- entry by entry, two sets have the same names and bases, and files with the same headers, faults and image
abbrev pub AreSameSets : List Entry → List Entry → Type 0
AreSameSets [] [] = Unit {0}
AreSameSets [] (f ∷ fs) = ⊥
AreSameSets (e ∷ es) [] = ⊥
AreSameSets (e ∷ es) (f ∷ fs) = (e.name ≡ f.name) × (e.base ≡ f.base) × SameAnswers e.file f.file × AreSameSets es fs
