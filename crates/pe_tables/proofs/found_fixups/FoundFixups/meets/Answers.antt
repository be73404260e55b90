-- A field that begins after all others meets none.
use Rattle.std.proofs.Common.{◌≡◌, ℕ, ◌≤◌, Bool, true, refl, sym, ◌∙◌}
use Rattle.std.specs.Prelude.{nat_le}
use Rattle.std.proofs.lemmas.Bool.{leb-true, true≢false}
use Rattle.pe_tables.proofs.Settled.{behind-met}
use Rattle.pe_tables.proofs.found_fixups.FoundFixups.meets.Goals as goal

behind : (end field : ℕ) (test : Bool) → test ≡ nat_le end field → test ≡ true → end ≤ field
behind end field test is passes = leb-true end field (sym is ∙ passes)

pub returns-then-is_behind : goal.returns-then-is_behind
returns-then-is_behind g c =
    let found = c.args.self.now in
    let le = behind found.end c.args.field _ c.is_behind.ensures c.if-is_behind.true in
    record {
      kept = record { fixups = refl; fields = refl; indexed = c.requires.indexed };
      tells = λ _. le;
      met = behind-met found c.args.field c.args.width c.requires.indexed le;
    }

pub returns : goal.returns
returns g c =
    let old = c.requires.indexed in
    record {
      kept = record { fixups = refl; fields = refl; indexed = record { ends = old.ends; rising = λ yes. absurd (true≢false (sym yes)); fields = old.fields } };
      tells = λ yes. absurd (true≢false (sym yes));
      met = c.meets_range.ensures;
    }
