-- Entry by entry.
use Rattle.std.proofs.Common.{◌≡◌, ◌∙◌, ◌+◌, ◌*◌, ◌/◌, ◌<◌, ◌++◌, ℕ, List, drop, sym, ap, arith}
use Rattle.std.specs.Prelude.{option_to_list}
use Rattle.std.specs.List.{filter_map}
use Rattle.pe_view.specs.Faults.{first_standing}
use Rattle.pe_view.specs.Number.{num, byte_of}
use Rattle.pe_view.specs.View.{bytes_of, size_of}
use Rattle.pe_layout.specs.Layout.{image_of}
use Rattle.pe_ranges.specs.RangesView.{ranges_in}
use Rattle.pe_tables.specs.Fixups.{Entry, entry_of, entries_at, fixup_of}
use Rattle.pe_tables.specs.FixupFaults.{entries_tests}
use Rattle.pe_tables.specs.declared.fixups.Fixup.{Fixup}
use Rattle.pe_tables.proofs.Entries.{entries-past, fixups-past, number_of_part}
use Rattle.pe_tables.proofs.Settled.{keeps-trans}
use Rattle.pe_tables.proofs.entry_run.read_run.Goals as goal

pub read_rising-requires-clause-value : goal.read_rising-requires-clause-value
read_rising-requires-clause-value g c =
    let i = image_of c.args.layout.now in
    let k : ℕ = c.loop-index.index in
    let n : ℕ = size_of c.args.bytes in
    let from : c.from.result ≡ k = c.from.ensures in
    let len : c.len.result ≡ n = c.len.ensures in
    let lt : k < n / 2 = rw len at c.loop-index-test.true in
    (rw c.unwrap-entry.ensures at c.u16_at.ensures).1 ∙ ap (λ (m : ℕ). num (byte_of (bytes_of c.args.bytes)) (2 * m) 2) from
    ∙ number_of_part i c.args.rva n (bytes_of c.args.bytes) c.requires.bytes 2 (2 * k) (omega arith)

pub loop-index-preserved : goal.loop-index-preserved
loop-index-preserved g c =
    let i = image_of c.args.layout.now in
    let entry : ℕ → Entry = λ k. entry_of i c.args.page (c.args.rva + 2 * k) in
    let slots = ranges_in c.args.slots.now in
    let n : ℕ = size_of c.args.bytes / 2 in
    let k : ℕ = c.loop-index.index in
    let before = c.loop-index.found.fixups.items in
    let left : List Entry = drop (k + 1) (entries_at i c.args.page c.args.rva n) in
    let answered = c.in_ok-read_rising.ensures.read c.if-not-branch.false in
    let more : c.read_rising.new.found.fixups.items ≡ before ++ option_to_list (fixup_of (entry k)) = answered.1.fixups in
    let lt : k < n = rw c.len.ensures at c.loop-index-test.true in
    record {
      read = record {
        indexed = answered.1.indexed;
        tests = ap (λ (fs : List Fixup). first_standing (entries_tests i slots fs left)) more ∙ sym (entries-past i slots entry n k lt before answered.0) ∙ c.loop-index.invariant.read.tests;
        fixups = ap (λ (fs : List Fixup). fs ++ filter_map fixup_of left) more ∙ sym (fixups-past i slots entry n k lt before) ∙ c.loop-index.invariant.read.fixups;
      };
      no_ranges = c.read_rising.ensures.no_ranges;
      keeps = keeps-trans c.args.found.now c.loop-index.found c.read_rising.new.found c.loop-index.invariant.keeps c.read_rising.ensures.keeps;
    }
