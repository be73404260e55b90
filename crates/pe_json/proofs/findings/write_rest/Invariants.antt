use Rattle.std.proofs.Common.{take, ◌++◌, codes}
use Rattle.std.specs.Prelude.{flat_map}
use Rattle.pe_text.specs.TextWriter.{Adds}
use Rattle.pe_json.specs.FindingRows.{finding_row}
use Rattle.pe_json.proofs.findings.write_rest.Given as goal

abbrev pub invariant-loop-finding : goal.invariant-loop-finding
invariant-loop-finding g l = record {
  adds : Adds g.W.Sink.taken g.W.Sink.failures l.initial.text l.text (flat_map (λ f. codes "," ++ finding_row f) (take l.finding-index l.findings));
}
