use Rattle.std.proofs.Common.{length, ap, sym, ◌∙◌}
use Rattle.pe_detail.specs.DetailWords.{part_view}
use Rattle.pe_detail.specs.FaultDetail.{fault_detail}
use Rattle.pe_records_c.specs.ValueRows.{value_text, value_of, parts_in}
use Rattle.pe_records_c.proofs.Rows.{table_told}
use Rattle.pe_records_c.proofs.value.tell_values.Goals as goal

pub returns-in-Some : goal.returns-in-Some
returns-in-Some c =
    let asked = sym c.in-Some.is ∙ c.fault_detail.ensures
    ∙ ap (λ f. fault_detail f (length c.args.file.now) c.fault_of.result) c.new.ensures
    ∙ ap (fault_detail c.args.file.now (length c.args.file.now)) c.fault_of.ensures in
    table_told value_text part_view value_of c.parts.result _ _ _ _ _ (c.parts.ensures ∙ ap parts_in asked) c.put_table.ensures.rows c.put_table.ensures.count c.put_table.ensures.status
