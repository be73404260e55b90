use Rattle.std.proofs.Common.{◌≡◌, ◌++◌, take}
use Rattle.std.specs.Prelude.{flat_map}
use Rattle.pe_resource_files.proofs.file.write_parts.Given as goal

abbrev pub invariant-loop-part : goal.invariant-loop-part
invariant-loop-part g l = record {
  taken : g.W.Sink.taken l.writer ≡ g.W.Sink.taken l.initial.writer ++ flat_map (λ part. part.now) (take l.part-index l.parts);
  count : g.W.Sink.failures l.writer ≡ g.W.Sink.failures l.initial.writer;
}
