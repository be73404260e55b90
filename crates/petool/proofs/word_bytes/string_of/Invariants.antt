use Rattle.std.proofs.Common.{ℕ, List, ◌≡◌, ◌<◌, ◌++◌, All, string_bytes}
use Rattle.std.specs.Str.Chunks.{utf8_chunks_rest}
use Rattle.petool.specs.WordBytes.{Spells}
use Rattle.petool.proofs.word_bytes.string_of.Given as goal

abbrev pub invariant-loop-chunk : goal.invariant-loop-chunk
invariant-loop-chunk g l =
    (done : List ℕ) × (done ++ utf8_chunks_rest l.chunk-iterator ≡ l.bytes) × (All (λ byte. 0 < byte) l.bytes → Spells (string_bytes l.word) done)
