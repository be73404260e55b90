use Rattle.std.proofs.Common.{◌≡◌, ℕ, List, Ok, true, length, take}
use Rattle.pe_layout.specs.Plain.{plain_bytes}
use Rattle.pe_layout_file.specs.ByParts.{Moves, WritesOf}
use Rattle.pe_layout_file.specs.Pieces.{BeginsWith}
use Rattle.pe_layout_file.proofs.Sections.{IsBetween}
use Rattle.pe_layout_file.proofs.parts_writer.write_image_parts.Given as goal

-- the image was written up to the RVA, which is behind the sections so far
abbrev pub invariant-loop-section : goal.invariant-loop-section
invariant-loop-section g l = record {
  copies : Moves (g.R.PartSource.parts l.fn.reader) (g.R.PartSource.parts l.reader) (g.W.Sink.taken l.fn.writer) (g.W.Sink.taken l.writer)
      (WritesOf (BeginsWith l.len (take 4096 l.fn.buffer)) (λ file. plain_bytes l.headers file 0 l.rva) (Ok true));
  reads : g.R.PartSource.failures l.reader ≡ g.R.PartSource.failures l.fn.reader;
  writes : g.W.Sink.failures l.writer ≡ g.W.Sink.failures l.fn.writer;
  room : length l.buffer ≡ length l.fn.buffer;
  between : (file : List ℕ) → BeginsWith l.len (take 4096 l.fn.buffer) file → IsBetween l.headers file l.section-index l.rva;
}
