use Rattle.std.proofs.Common.{◌∙◌, arith}
use Rattle.pe_head.specs.Checked.{checked_file}
use Rattle.pe_head.specs.Head.{coff_field}
use Rattle.pe_layout.proofs.Begun.{count_of, row_is}
use Rattle.pe_layout.proofs.sections.file_section.Goals as goal

pub returns : goal.returns
returns c = λ d.
    let file = checked_file c.args.headers.now in
    c.of_row.ensures ∙ row_is file c.rows.result.now (coff_field file 2 2) c.rows.ensures.count c.rows.ensures.sections c.args.index _ d (omega (arith, c.requires, count_of file))
