-- The zero bytes, or a beginning of them; and then the raw data, or a beginning of these.
use Rattle.std.proofs.Common.{◌-◌, subst}
use Rattle.std.specs.Prelude.{replicate}
use Rattle.std.proofs.lemmas.Result.{err_from_is_err_and}
use Rattle.pe_view.specs.Number.{part}
use Rattle.pe_view.specs.View.{bytes_of}
use Rattle.pe_head.specs.Section.{rawlen}
use Rattle.pe_text.specs.TextWriter.{WritesAll}
use Rattle.pe_layout_file.proofs.Writing.{both, in_first}
use Rattle.pe_layout_file.proofs.image_writer.write_section.Goals as goal

pub returns-in_err-write_zeros : goal.returns-in_err-write_zeros
returns-in_err-write_zeros g c =
    let p = err_from_is_err_and c.from_residual.result c.from_residual.ensures.1 in
    let failed = c.in_err-write_zeros.ensures in
    let s = c.args.section.now in
    rw p.1 (in_first _ _ _ (part (bytes_of c.args.file) s.pointer_to_raw_data (rawlen s)) failed.0.0 failed.0.1, failed.1)

pub returns : goal.returns
returns g c =
    let s = c.args.section.now in
    let first = c.in_ok-write_zeros.ensures in
    both _ _ _ (replicate (s.virtual_address - c.args.rva) 0) (part (bytes_of c.args.file) s.pointer_to_raw_data (rawlen s)) _ _ _ c.write_all.result first.0 first.1
    (subst (WritesAll _ _ _ _ c.write_all.result) c.raw_data.ensures c.write_all.ensures)
