-- The zero bytes, or a beginning of them; and then the raw data, or a beginning of these.
use Rattle.std.proofs.Common.{◌∙◌, ◌-◌, ℕ, List, [], length, replicate, take, refl, sym, append-nil}
use Rattle.pe_view.specs.Number.{part}
use Rattle.pe_head.specs.Section.{rawlen}
use Rattle.pe_layout_file.specs.Pieces.{IsHeld}
use Rattle.pe_layout_file.proofs.Moving.{begins_on, begins_take, range_counted, then_moves}
use Rattle.pe_layout_file.proofs.Writing.{wrote_all, wrote_some}
use Rattle.pe_layout_file.proofs.parts_writer.write_section_parts.Goals as goal

pub returns-then-is_err-clause-copies : goal.returns-then-is_err-clause-copies
returns-then-is_err-clause-copies g c =
    let s = c.args.section.now in
    let zeros : List ℕ = replicate (s.virtual_address - c.args.rva) 0 in
    let some = wrote_some _ _ zeros _ _ c.write_zeros.result (sym c.is_err.ensures.value ∙ c.if-is_err.true) c.write_zeros.ensures in (
      [],
      take some.0 zeros,
      sym (append-nil _),
      some.1,
      λ file fits has. begins_on (take some.0 zeros) zeros (part file s.pointer_to_raw_data (rawlen s)) (begins_take some.0 zeros),
    )

pub returns-clause-copies : goal.returns-clause-copies
returns-clause-copies g c =
    let s = c.args.section.now in
    let zeros : List ℕ = replicate (s.virtual_address - c.args.rva) 0 in
    let all = wrote_all _ _ zeros _ _ c.write_zeros.result (sym c.is_err.ensures.value ∙ c.if-is_err.false) c.write_zeros.ensures in
    let copied = range_counted s.pointer_to_raw_data _ _ (g.R.PartSource.parts c.args.reader.now) (g.R.PartSource.parts c.copy_range.new.reader) (g.W.Sink.taken c.write_zeros.new.writer) (g.W.Sink.taken c.copy_range.new.writer) c.copy_range.result c.rawlen.ensures c.copy_range.ensures.copies in
    then_moves (λ file. IsHeld (length file) s) (λ file. zeros) (λ file. part file s.pointer_to_raw_data (rawlen s)) _ _ _ _ _ _ c.copy_range.result
    ([], zeros, sym (append-nil _), all, λ file fits has. refl) copied
