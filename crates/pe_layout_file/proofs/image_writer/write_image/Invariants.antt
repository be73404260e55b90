use Rattle.std.proofs.Common.{◌≡◌, ◌++◌}
use Rattle.pe_view.specs.View.{bytes_of}
use Rattle.pe_layout.specs.Plain.{plain_bytes}
use Rattle.pe_layout_file.proofs.Sections.{IsBetween}
use Rattle.pe_layout_file.proofs.image_writer.write_image.Given as goal

abbrev pub invariant-loop-section : goal.invariant-loop-section
invariant-loop-section g l = record {
  taken : g.W.Sink.taken l.writer ≡ g.W.Sink.taken l.fn.writer ++ plain_bytes l.headers (bytes_of l.file) 0 l.rva;
  count : g.W.Sink.failures l.writer ≡ g.W.Sink.failures l.fn.writer;
  between : IsBetween l.headers (bytes_of l.file) l.section-index l.rva;
}
