-- The range continues the run, or is inserted among the others.
use Rattle.std.proofs.Common.{◌≡◌, ◌<◌, List, ℕ, Ok, Err, Result, subst, sym}
use Rattle.std.specs.Prelude.{All, OnOk, OnErr}
use Rattle.std.specs.Ordering.{nat_cmp}
use Rattle.std.specs.BTreeMap.{insert_entry}
use Rattle.pe_ranges.specs.Ranges.{IsAscending, FitsBeside}
use Rattle.pe_ranges.specs.RangesView.{ranges_in}
use Rattle.pe_ranges.proofs.Neighbours.{gains-insert_entry, ascending-insert_entry}
use Rattle.pe_ranges.proofs.Runs.{ascending-pushed, fits_run, fits_others, gains-push, gains-others}
use Rattle.pe_ranges.proofs.ranges.Ranges.add.Goals as goal

-- either way the others ascend
ascends : {T E : Type 0} (r : Result T E) (start len : ℕ) (old new : List (ℕ × ℕ)) → OnOk r (new ≡ insert_entry nat_cmp old start len) → OnErr r (new ≡ old) → All (FitsBeside start len) old → IsAscending old → IsAscending new
ascends (Ok v) start len old new ok err fits ascending = subst IsAscending (sym ok) (ascending-insert_entry start len old fits ascending)
ascends (Err e) start len old new ok err fits ascending = subst IsAscending (sym err) ascending

pub invariant_of-self : goal.invariant_of-self
unfolding ranges_in
invariant_of-self g c =
    let ranges = c.args.self.now in
    let below : All (λ (range : ℕ × ℕ). range.0 < c.args.start) ranges.run.items = subst (λ (run : List (ℕ × ℕ)). All (λ (range : ℕ × ℕ). range.0 < c.args.start) run) c.as_slice.ensures.value (c.all_below.ensures.0 c.if-all_below.true) in
    record {
      run_ascending = ascending-pushed _ ranges.run.items c.push.new.self.items c.args.start c.args.len c.push.ensures.items ranges.run_ascending below (fits_run (FitsBeside c.args.start c.args.len) ranges.run.items ranges.others.entries c.requires);
      others_ascending = ranges.others_ascending;
    }

pub invariant_of-self-else-all_below : goal.invariant_of-self-else-all_below
unfolding ranges_in
invariant_of-self-else-all_below g c =
    let ranges = c.args.self.now in
    record {
      run_ascending = ranges.run_ascending;
      others_ascending = ascends c.insert.result c.args.start c.args.len ranges.others.entries c.insert.new.self.entries c.insert.ensures.entries c.insert.ensures.err (fits_others (FitsBeside c.args.start c.args.len) ranges.run.items ranges.others.entries c.requires) ranges.others_ascending;
    }

pub returns-in_ok-push : goal.returns-in_ok-push
unfolding ranges_in
returns-in_ok-push g c =
    let ranges = c.args.self.now in
    rw c.in_ok-push.ensures.items (gains-push ranges.run.items ranges.others.entries (c.args.start, c.args.len))

pub returns-in_ok-insert : goal.returns-in_ok-insert
unfolding ranges_in
returns-in_ok-insert g c =
    let ranges = c.args.self.now in
    let fits = fits_others (FitsBeside c.args.start c.args.len) ranges.run.items ranges.others.entries c.requires in
    rw c.in_ok-insert.ensures.entries (gains-others ranges.run.items ranges.others.entries _ (c.args.start, c.args.len) (gains-insert_entry c.args.start c.args.len ranges.others.entries fits))
