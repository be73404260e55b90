use Rattle.std.proofs.Common.{ℕ, ◌==◌, refl, rules}
use Rattle.petool.proofs.WordBytes.{no_mark}
use Rattle.petool.proofs.word_bytes.is_marked.Goals as goal

pub returns-clause-plain : goal.returns-clause-plain
returns-clause-plain c none = no_mark (λ (byte : ℕ). byte == 0) refl c.args.word.now (search rules)
