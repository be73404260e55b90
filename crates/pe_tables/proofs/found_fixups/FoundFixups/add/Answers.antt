-- The field can be added to the others, and is then one of them.
use Rattle.std.proofs.Common.{ℕ, refl, subst}
use Rattle.pe_tables.specs.FixupReading.{GainsAny}
use Rattle.pe_tables.proofs.RisingFields.{fits-any, reads-more}
use Rattle.pe_tables.proofs.Settled.{keeps-none, still-indexed, unmet}
use Rattle.pe_tables.proofs.found_fixups.FoundFixups.add.Goals as goal

pub add_field-requires : goal.add_field-requires
add_field-requires g c =
    let found = c.args.self.now in
    rw c.width-width.ensures (fits-any found.fields found.fixups.items c.args.fixup c.requires.indexed.fields c.requires.unmet)

reads : goal.returns-clause-reads
reads g c =
    let found = c.args.self.now in
    let f = c.args.fixup in
    let gains = subst (λ (width : ℕ). GainsAny found.fields c.add_field.new.fields (f.field, width)) c.width-width.ensures c.in_ok-add_field.ensures.gains in
    let end = rw (c.from.ensures, c.from-2.ensures, c.width-width.ensures) at c.max-self.ensures in
    reads-more found _ f c.requires.indexed c.requires.tells c.in_ok-push.ensures.items end refl gains

pub returns-clause-reads : goal.returns-clause-reads
returns-clause-reads g c = reads g c

pub returns-clause-keeps : goal.returns-clause-keeps
returns-clause-keeps g c =
    let all = reads g c in
    record { more = _; fixups = all.fixups; fields = c.add_field.ensures.same; indexed = λ _. all.indexed }

pub returns-clause-apart : goal.returns-clause-apart
returns-clause-apart g c = unmet c.args.self.now c.args.fixup c.add_field.new.fields c.push.new.self.items c.add_field.ensures.same c.in_ok-push.ensures.items c.requires.unmet

pub returns-in_err-add_field-clause-keeps : goal.returns-in_err-add_field-clause-keeps
returns-in_err-add_field-clause-keeps g c = keeps-none c.args.self.now _ refl c.add_field.ensures.same (still-indexed c.args.self.now _ c.requires.indexed refl refl refl c.add_field.ensures.same)

pub returns-in_err-push-clause-keeps : goal.returns-in_err-push-clause-keeps
returns-in_err-push-clause-keeps g c = keeps-none c.args.self.now _ c.in_err-push.ensures.items c.add_field.ensures.same (still-indexed c.args.self.now _ c.requires.indexed c.in_err-push.ensures.items refl refl c.add_field.ensures.same)
