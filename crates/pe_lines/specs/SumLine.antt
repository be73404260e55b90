-- The output of the engine `sum` for an image's file.
use Rattle.std.specs.Prelude.{ℕ, ◌+◌, List, [], ◌∷◌, codes}
use Rattle.pe_head.specs.Head.{head_of}
use Rattle.pe_head.specs.HeaderFaults.{head_tests}
use Rattle.pe_text.specs.Engine.{IsFileText}
use Rattle.pe_text.specs.Part.{joined}
use Rattle.pe_text.specs.Text.{hex}
use Rattle.pe_text.specs.declared.outcome.Outcome.{Outcome}
use Rattle.pe_trust.specs.CheckSum.{check_sum_of}

-- the line: the field CheckSum, and what it is to be
unfoldable pub sum_line : ℕ → ℕ → List ℕ
sum_line field computed = joined (codes "check sum 0x" ∷ hex 8 field ∷ codes " computed 0x" ∷ hex 8 computed ∷ codes "\n" ∷ [])

-- the output of `sum` for a file
abbrev pub IsSumText : List ℕ → Outcome → List ℕ → Type 0
IsSumText = IsFileText (head_tests 0) (λ file. let h = head_of file in sum_line h.check_sum (check_sum_of file (h.pe_offset + 88)))
