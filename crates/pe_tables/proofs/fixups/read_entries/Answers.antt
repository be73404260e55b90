-- Entry by entry.
use Rattle.std.proofs.Common.{◌≡◌, ◌∙◌, ◌+◌, ◌*◌, ◌/◌, ◌<◌, ◌≤◌, ◌++◌, ℕ, List, drop, sym, ap, arith}
use Rattle.std.specs.Prelude.{option_to_list}
use Rattle.std.specs.List.{filter_map}
use Rattle.std.proofs.lemmas.Result.{err_from_is_err_and}
use Rattle.pe_view.specs.Faults.{first_standing}
use Rattle.pe_view.specs.Number.{num, byte_of}
use Rattle.pe_view.specs.View.{bytes_of, size_of}
use Rattle.pe_layout.specs.Layout.{image_of}
use Rattle.pe_ranges.specs.RangesView.{ranges_in}
use Rattle.pe_tables.specs.Fixups.{Entry, entry_of, entries_at, fixup_of}
use Rattle.pe_tables.specs.FixupFaults.{entry_tests, entries_tests}
use Rattle.pe_tables.specs.declared.fixups.Fixup.{Fixup}
use Rattle.pe_tables.proofs.Entries.{entries-past, entries-in, fixups-past, entries-end, fixups-end, number_of_part}
use Rattle.pe_tables.proofs.Refusing.{refuses-whole}
use Rattle.pe_tables.proofs.Settled.{keeps-trans, settled-before}
use Rattle.pe_tables.proofs.fixups.read_entries.Goals as goal

pub read_entry-requires-clause-value : goal.read_entry-requires-clause-value
read_entry-requires-clause-value g c =
    let i = image_of c.args.layout.now in
    let k : ℕ = c.loop-index.index in
    let n : ℕ = size_of c.args.bytes in
    let from : c.from.result ≡ k = c.from.ensures in
    let len : c.len.result ≡ n = c.len.ensures in
    let lt : k < n / 2 = rw len at c.loop-index-test.true in
    (rw c.unwrap-entry.ensures at c.u16_at.ensures).1 ∙ ap (λ (m : ℕ). num (byte_of (bytes_of c.args.bytes)) (2 * m) 2) from
    ∙ number_of_part i c.args.rva n (bytes_of c.args.bytes) c.requires.bytes 2 (2 * k) (omega arith)

pub returns-in_err-read_entry-clause-keeps : goal.returns-in_err-read_entry-clause-keeps
returns-in_err-read_entry-clause-keeps g c = keeps-trans c.args.found.now c.loop-index.found c.read_entry.new.found c.loop-index.invariant.keeps c.read_entry.ensures.keeps

pub returns-in_err-read_entry-clause-exact : goal.returns-in_err-read_entry-clause-exact
returns-in_err-read_entry-clause-exact g c = λ settled.
    let i = image_of c.args.layout.now in
    let entry : ℕ → Entry = λ k. entry_of i c.args.page (c.args.rva + 2 * k) in
    let slots = ranges_in c.args.slots.now in
    let n : ℕ = size_of c.args.bytes / 2 in
    let k : ℕ = c.loop-index.index in
    let before = c.loop-index.found.fixups.items in
    let lt : k < n = rw c.len.ensures at c.loop-index-test.true in
    let tests = c.loop-index.invariant.tests (settled-before c.loop-index.found c.read_entry.new.found c.read_entry.ensures.keeps settled) in
    let p = err_from_is_err_and c.from_residual-in_err-read_entry.result c.from_residual-in_err-read_entry.ensures.1 in
    rw (p.1, p.2)
    (refuses-whole (entry_tests i slots before (entry k)) (entries_tests i slots c.args.found.now.fixups.items (entries_at i c.args.page c.args.rva n))
    (λ y some. sym tests ∙ entries-in i slots entry n k lt before y some)
    c.in_err-read_entry.field-0.0 (c.in_err-read_entry.ensures.exact settled))

pub loop-index-preserved : goal.loop-index-preserved
loop-index-preserved g c =
    let i = image_of c.args.layout.now in
    let entry : ℕ → Entry = λ k. entry_of i c.args.page (c.args.rva + 2 * k) in
    let slots = ranges_in c.args.slots.now in
    let n : ℕ = size_of c.args.bytes / 2 in
    let k : ℕ = c.loop-index.index in
    let before = c.loop-index.found.fixups.items in
    let left : List Entry = drop (k + 1) (entries_at i c.args.page c.args.rva n) in
    let more : c.read_entry.new.found.fixups.items ≡ before ++ option_to_list (fixup_of (entry k)) = c.in_ok-read_entry.ensures.reads.fixups in
    let lt : k < n = rw c.len.ensures at c.loop-index-test.true in
    record {
      keeps = keeps-trans c.args.found.now c.loop-index.found c.read_entry.new.found c.loop-index.invariant.keeps c.read_entry.ensures.keeps;
      indexed = c.in_ok-read_entry.ensures.reads.indexed;
      fixups = ap (λ (fs : List Fixup). fs ++ filter_map fixup_of left) more ∙ sym (fixups-past i slots entry n k lt before) ∙ c.loop-index.invariant.fixups;
      tests = λ settled. (
          let answered = c.in_ok-read_entry.ensures.exact settled in
          let tests = c.loop-index.invariant.tests (settled-before c.loop-index.found c.read_entry.new.found c.read_entry.ensures.keeps settled) in
          ap (λ (fs : List Fixup). first_standing (entries_tests i slots fs left)) more ∙ sym (entries-past i slots entry n k lt before answered.0) ∙ tests);
    }

pub returns-clause-reads : goal.returns-clause-reads
returns-clause-reads g c =
    let i = image_of c.args.layout.now in
    let entry : ℕ → Entry = λ k. entry_of i c.args.page (c.args.rva + 2 * k) in
    let n : ℕ = size_of c.args.bytes / 2 in
    let le : n ≤ c.loop-index.index = rw c.len.ensures at c.loop-index-test.false in
    record {
      fixups = sym (fixups-end entry n c.loop-index.index c.loop-index.found.fixups.items le) ∙ c.loop-index.invariant.fixups;
      indexed = c.loop-index.invariant.indexed;
    }

pub returns-clause-exact : goal.returns-clause-exact
returns-clause-exact g c = λ settled.
    let i = image_of c.args.layout.now in
    let entry : ℕ → Entry = λ k. entry_of i c.args.page (c.args.rva + 2 * k) in
    let n : ℕ = size_of c.args.bytes / 2 in
    let le : n ≤ c.loop-index.index = rw c.len.ensures at c.loop-index-test.false in
    (sym (c.loop-index.invariant.tests settled) ∙ entries-end i (ranges_in c.args.slots.now) entry n c.loop-index.index c.loop-index.found.fixups.items le, tt)
