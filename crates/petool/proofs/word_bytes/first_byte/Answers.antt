use Rattle.std.proofs.Common.{◌≡◌, ◌-◌, slice_index_or, rules}
use Rattle.petool.proofs.WordBytes.{begins_marked, begins_other, begins_short}
use Rattle.petool.proofs.word_bytes.first_byte.Goals as goal
use Rattle.petool.proofs.word_bytes.first_byte.Goals.{then-rest-lt-MARKED_LEN-via-then-rest-lt-MARKED_LEN, then-rest-lt-MARKED_LEN-via-else-rest-lt-MARKED_LEN+then-rest-ne0}

pub returns-then-rest-lt-MARKED_LEN-clause-value : goal.returns-then-rest-lt-MARKED_LEN-clause-value
returns-then-rest-lt-MARKED_LEN-clause-value c =
    let bs = c.args.rest.now in
    elim c.then-rest-lt-MARKED_LEN.branch [
      | then-rest-lt-MARKED_LEN-via-then-rest-lt-MARKED_LEN w ↦ begins_short bs 0 c.requires (search rules)
      | then-rest-lt-MARKED_LEN-via-else-rest-lt-MARKED_LEN+then-rest-ne0 w ↦ begins_other bs 0 c.requires (search rules)
    ]

pub returns-clause-value : goal.returns-clause-value
returns-clause-value c =
    let bs = c.args.rest.now in
    let high : c.saturating_sub-high.result ≡ slice_index_or bs 1 0 - 0xc2 = search rules in
    rw high (begins_marked bs 0 (search rules) (search rules))
