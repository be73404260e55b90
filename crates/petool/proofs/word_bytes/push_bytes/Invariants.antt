use Rattle.std.proofs.Common.{ℕ, List, ◌<◌, ◌++◌, All, take, string_bytes}
use Rattle.petool.specs.WordBytes.{Spells}
use Rattle.petool.proofs.word_bytes.push_bytes.Given as goal

abbrev pub invariant-loop-byte : goal.invariant-loop-byte
invariant-loop-byte g l =
    (done : List ℕ) → All (λ byte. 0 < byte) l.bytes → Spells (string_bytes l.initial.word) done → Spells (string_bytes l.word) (done ++ take l.byte-index l.bytes)
