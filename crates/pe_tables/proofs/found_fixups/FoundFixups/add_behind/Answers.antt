-- The field is one of the others, and ends last.
use Rattle.std.proofs.Common.{◌≡◌, ℕ, ◌+◌, None, Option, refl, arith}
use Rattle.std.specs.Prelude.{max}
use Rattle.pe_tables.specs.Fixups.{width_of, range_of}
use Rattle.pe_tables.specs.FixupReading.{GainsAny}
use Rattle.pe_ranges.specs.declared.ranges.Ranges.{Ranges}
use Rattle.pe_tables.proofs.RisingFields.{reads-more}
use Rattle.pe_tables.proofs.Settled.{keeps-none, still-indexed}
use Rattle.pe_tables.proofs.found_fixups.FoundFixups.add_behind.Goals as goal

none_gained : {A : Type 0} (fields : Option (Ranges A)) (range : ℕ × ℕ) → fields ≡ None → GainsAny fields fields range
none_gained fields range none = rw none refl

reads : goal.returns-clause-reads
reads g c =
    let found = c.args.self.now in
    let f = c.args.fixup in
    let behind = c.requires.behind in
    let ends = c.requires.end in
    let end : c.args.end ≡ max found.end (f.field + width_of f.kind) = omega (arith, behind, ends) in
    reads-more found _ f c.requires.indexed (λ _. behind) c.in_ok-push.ensures.items end refl (none_gained found.fields (range_of f) c.requires.no_ranges)

pub returns-clause-reads : goal.returns-clause-reads
returns-clause-reads g c = reads g c

pub returns-clause-keeps : goal.returns-clause-keeps
returns-clause-keeps g c = let all = reads g c in record { more = _; fixups = all.fixups; fields = refl; indexed = λ _. all.indexed }

pub returns-in_err-push-clause-keeps : goal.returns-in_err-push-clause-keeps
returns-in_err-push-clause-keeps g c = keeps-none c.args.self.now _ c.in_err-push.ensures.items refl (still-indexed c.args.self.now _ c.requires.indexed c.in_err-push.ensures.items refl refl refl)
