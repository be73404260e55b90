use Rattle.std.proofs.Common.{◌∙◌, ap, length}
use Rattle.pe_text.proofs.Reports.{Ran-unread}
use Rattle.pe_json.specs.JsonReport.{IsLineOf}
use Rattle.pe_json.proofs.Sized.{ran_whole}
use Rattle.pe_json.proofs.engine.json.Goals as goal

pub returns-clause-ran : goal.returns-clause-ran
returns-clause-ran g c =
    let read = c.in_ok-file.ensures in
    let same = c.whole.ensures.seen ∙ c.deref.ensures.value ∙ read.2.0 in
    ran_whole c.args.beyond c.args.name.now _ _ _ _ _ _ _ _ c.print_line.result _ read.0 same (c.whole.ensures.told ∙ ap length (c.deref.ensures.value ∙ read.2.0)) read.1 read.2.1 read.3 c.print_line.ensures.puts c.print_line.ensures.memory

pub returns-in_err-file-clause-ran : goal.returns-in_err-file-clause-ran
returns-in_err-file-clause-ran g c =
    Ran-unread (IsLineOf c.args.beyond c.args.name.now) _ _ _ _ _ _ _ c.from_residual.result c.from_residual.ensures.1 (rw c.in_err-file.was at c.read_whole.ensures)
