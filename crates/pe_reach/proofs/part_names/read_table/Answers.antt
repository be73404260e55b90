use Rattle.std.proofs.Common.{◌++◌, ◌∙◌, ℕ, List, ap, subst, append_assoc}
use Rattle.pe_reach.specs.Parts.{Part, HasPart}
use Rattle.pe_reach.specs.PartsRead.{FailsToRead}
use Rattle.pe_reach.proofs.PartBytes.{all_rest, early_on}
use Rattle.pe_reach.proofs.ShortTable.{if_ok_more, match_both}
use Rattle.pe_reach.proofs.part_names.read_table.Goals as goal

pub returns-in-Some-false-clause-early : goal.returns-in-Some-false-clause-early
returns-in-Some-false-clause-early g c =
    let first = c.in_ok-read_short_table.ensures.reads in
    if_ok_more _ _ c.read_whole_table-in-Some-false.result (λ has_all early. λ ended. early_on _ _ _ _ first.0 first.1 (early ended)) c.read_whole_table-in-Some-false.ensures.early

pub returns-in-Some-false-clause-reads : goal.returns-in-Some-false-clause-reads
returns-in-Some-false-clause-reads g c =
    let first = c.in_ok-read_short_table.ensures.reads in
    let named = rw c.in-Some-false.is at first.2.1 in
    let same = named.1 c.in-Some-false.field-0-test in
    let rest = c.read_whole_table-in-Some-false.ensures.reads in (
      first.0 ++ rest.0,
      rest.1 ∙ ap (λ (ps : List Part). ps ++ rest.0) first.1 ∙ append_assoc (g.R.PartSource.parts c.args.reader.now) first.0 rest.0,
      match_both _ _ _ _ c.read_whole_table-in-Some-false.result
          (λ has_all m. (
            m.0 ∙ first.2.0,
            λ yes.
                let all = rw same at (m.1 yes) in
                (all.0, all.1, all.2, λ file has. all.3 file (all_rest (HasPart file) first.0 rest.0 has)),
          ))
          (λ error fails. subst (λ (count : ℕ). FailsToRead count (g.R.PartSource.failures c.read_whole_table-in-Some-false.new.reader) error) first.2.0 fails)
          rest.2,
    )
