-- One more certificate of those that are left.
use Rattle.std.proofs.Common.{◌≤◌, ◌∙◌, length, arith}
use Rattle.pe_records_c.proofs.Left.{first_left, none_left}
use Rattle.pe_trust.specs.SignersView.{signer_view, signers_left}
use Rattle.c_tables.specs.SignerRows.{signer_row, signer_text}
use Rattle.c_tables.proofs.FewRows.{few_signers, got_within}
use Rattle.c_tables.proofs.FilledRows.{filled_all, row_stored}
use Rattle.c_tables.proofs.signer.put_signers.Goals as goal

pub loop-signer-preserved : goal.loop-signer-preserved
loop-signer-preserved c =
    let i = c.loop-signer.invariant in
    let all = signers_left c.args.signers in
    let shown = signer_view c.in-Some.signer in
    let next = first_left all c.loop-signer.count shown (signers_left c.next.new.self) (i.left ∙ c.in-Some.ensures.steps) in
    record {
      told = row_stored signer_text signer_row all _ c.loop-signer.rows c.put_row.new.rows c.loop-signer.count shown c.of.result next.0 i.told c.of.ensures c.put_row.ensures;
      left = next.1;
      within = got_within all c.loop-signer.count shown next.0;
    }

pub overflow_add-count : goal.overflow_add-count
overflow_add-count c =
    let within = (loop-signer-preserved c).within in
    let bytes = c.args.signers.bytes.now in
    let few = few_signers (length bytes) bytes in
    let fits = c.ranges.signers.0 in
    omega (arith, within, few, fits)

pub returns-clause-rows : goal.returns-clause-rows
returns-clause-rows c =
    let i = c.loop-signer.invariant in
    let all = signers_left c.args.signers in
    let end : length all ≤ c.loop-signer.count = none_left all c.loop-signer.count (i.left ∙ c.in-None.ensures.steps.0) in
    i.told ∙ filled_all signer_row all _ c.loop-signer.count end

pub returns-clause-count : goal.returns-clause-count
returns-clause-count c =
    let i = c.loop-signer.invariant in
    let all = signers_left c.args.signers in
    let end : length all ≤ c.loop-signer.count = none_left all c.loop-signer.count (i.left ∙ c.in-None.ensures.steps.0) in
    let within = i.within in
    omega (arith, end, within)
