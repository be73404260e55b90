-- A file whose headers have no fault is not empty, nor too large.
use Rattle.std.proofs.Common.{ℕ, List, sym, ap, subst}
use Rattle.std.specs.Prelude.{is_none}
use Rattle.pe_reach.specs.Views.{seen_of, told_of}
use Rattle.pe_text.specs.TextWriter.{Adds}
use Rattle.pe_json.specs.Refused.{refused_line}
use Rattle.pe_json.proofs.HeadBytes.{head_has_bytes, head_is_small, on_any}
use Rattle.pe_json.proofs.Members.{own_none, own_unlaid}
use Rattle.pe_json.proofs.engine.write_refused.Goals as goal

pub returns-in_default-clause-adds : goal.returns-in_default-clause-adds
returns-in_default-clause-adds g c =
    let file = seen_of c.args.file in
    subst (λ (xs : List (List ℕ)). Adds g.W.Sink.taken g.W.Sink.failures c.args.text.now c.refuse.new.text (refused_line c.args.name.now file (told_of c.args.file) c.args.fault.now xs))
    (sym (own_none c.args.beyond file (ap is_none c.in_default.ensures))) c.refuse.ensures

pub returns-in_err-findings-clause-memory : goal.returns-in_err-findings-clause-memory
returns-in_err-findings-clause-memory g c = on_any c.from_residual.result _ (head_has_bytes 0 (seen_of c.args.file) c.in-Ok.ensures.0)

pub write_laid_out-requires-clause-small : goal.write_laid_out-requires-clause-small
write_laid_out-requires-clause-small g c = head_is_small 0 (seen_of c.args.file) c.in-Ok.ensures.0

pub refuse_unlaid-requires-clause-small : goal.refuse_unlaid-requires-clause-small
refuse_unlaid-requires-clause-small g c = head_is_small 0 (seen_of c.args.file) c.in-Ok.ensures.0

pub returns-clause-adds : goal.returns-clause-adds
returns-clause-adds g c =
    let file = seen_of c.args.file in
    subst (λ (xs : List (List ℕ)). Adds g.W.Sink.taken g.W.Sink.failures c.args.text.now c.refuse_unlaid.new.text (refused_line c.args.name.now file (told_of c.args.file) c.args.fault.now xs))
    (own_unlaid c.args.beyond file c.in-Ok.headers c.in-Ok.ensures.1 c.in-Ok.ensures.0 (ap is_none c.in-Err.ensures)) c.refuse_unlaid.ensures

pub returns-in-Ok-lay_out-clause-memory : goal.returns-in-Ok-lay_out-clause-memory
returns-in-Ok-lay_out-clause-memory g c = on_any c.write_laid_out.result _ (head_has_bytes 0 (seen_of c.args.file) c.in-Ok.ensures.0)
