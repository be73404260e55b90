-- The field begins after all others, or was compared with them.
use Rattle.std.proofs.Common.{◌∙◌, sym}
use Rattle.pe_tables.specs.Fixups.{width_of}
use Rattle.pe_tables.proofs.RisingFields.{behind-apart, ends-later}
use Rattle.pe_tables.proofs.Settled.{is_some-met}
use Rattle.pe_tables.proofs.found_fixups.FoundFixups.add_refused.Goals.{then-self-via-then-self, then-self-via-else-self+then-is_some}
use Rattle.pe_tables.proofs.found_fixups.FoundFixups.add_refused.Goals as goal

pub returns-then-self-clause-apart : goal.returns-then-self-clause-apart
returns-then-self-clause-apart g c = λ settled.
    let found = c.args.self.now in
    let f = c.args.fixup in
    elim c.then-self.branch [
      | then-self-via-then-self w ↦ behind-apart f.field (width_of f.kind) found.fixups.items (ends-later found.end f.field found.fixups.items (c.requires.tells w.if-self.true) c.requires.indexed.ends)
      | then-self-via-else-self+then-is_some w ↦ is_some-met found f (sym w.is_some.ensures ∙ w.if-is_some.true) c.requires.unmet
    ]
