use Rattle.std.proofs.Common.{◌∙◌, ◌+◌, ◌*◌, ℕ, Some, ap, sym, arith}
use Rattle.pe_view.specs.View.{bytes_of}
use Rattle.coff_read.specs.Reading.{relocation_at}
use Rattle.coff_read.proofs.Walk.{made_at, made_none}
use Rattle.coff_read.proofs.relocations.Relocations.get.Goals as goal

pub returns-then-index-self : goal.returns-then-index-self
returns-then-index-self c =
    let r = c.args.self.now in
    let past = c.if-index-self.true in
    sym (made_none (λ (k : ℕ). relocation_at (bytes_of r.view) (r.start + 10 * k)) 0 r.count c.args.index (omega (arith, past)))

pub returns : goal.returns
returns c =
    let r = c.args.self.now in
    let under = c.if-index-self.false in
    ap Some c.relocation_at.ensures ∙ sym (made_at (λ (k : ℕ). relocation_at (bytes_of r.view) (r.start + 10 * k)) r.count c.args.index (omega (arith, under)))
