-- Behind the digest are zeros.
use Rattle.std.proofs.Common.{◌∙◌, ◌++◌, ℕ, List, length, drop, replicate, ap}
use Rattle.std.proofs.lemmas.List.{drop-replicate}
use Rattle.c_tables.specs.declared.digest.DigestRecord.{DigestRecord}
use Rattle.c_tables.proofs.digest.DigestRecord.of.Goals as goal

abbrev told : List ℕ → List ℕ → ℕ → DigestRecord
told front rest len = record { bytes = front ++ rest; len = len }

pub returns : goal.returns
returns c =
    let digest = c.args.digest.now in
    ap (λ (front : List ℕ). told front (drop (length digest) (replicate 64 0)) (length digest)) c.copy_from_slice.ensures.after
    ∙ ap (λ (rest : List ℕ). told digest rest (length digest)) (drop-replicate (length digest) 64 0)
