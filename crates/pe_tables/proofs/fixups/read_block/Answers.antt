-- Some entries at a time.
use Rattle.std.proofs.Common.{◌≡◌, ◌∙◌, ◌+◌, ◌-◌, ◌*◌, ◌/◌, ◌≤◌, ◌++◌, ℕ, List, None, drop, sym, ap, arith}
use Rattle.std.specs.List.{filter_map}
use Rattle.std.proofs.lemmas.Result.{err_from_is_err_and}
use Rattle.pe_view.specs.Faults.{first_standing}
use Rattle.pe_layout.specs.Layout.{image_of}
use Rattle.pe_ranges.specs.RangesView.{ranges_in}
use Rattle.pe_tables.specs.Fixups.{Entry, block_at, entry_at, entries_at, entries_of, fixup_of}
use Rattle.pe_tables.specs.FixupFaults.{entries_tests}
use Rattle.pe_tables.specs.declared.fixups.Fixup.{Fixup}
use Rattle.pe_tables.proofs.Entries.{part-past, part-in, part-fixups, block-parts, entries-end, fixups-end}
use Rattle.pe_tables.proofs.Refusing.{refuses-whole}
use Rattle.pe_tables.proofs.Settled.{keeps-trans, settled-before}
use Rattle.pe_tables.proofs.fixups.read_block.Goals as goal

pub returns-in_err-read_some_entries-clause-keeps : goal.returns-in_err-read_some_entries-clause-keeps
returns-in_err-read_some_entries-clause-keeps g c = keeps-trans c.args.found.now c.loop-index.found c.read_some_entries.new.found c.loop-index.invariant.keeps c.read_some_entries.ensures.keeps

pub returns-in_err-read_some_entries-clause-exact : goal.returns-in_err-read_some_entries-clause-exact
returns-in_err-read_some_entries-clause-exact g c = λ settled.
    let i = image_of c.args.layout.now in
    let b = block_at i c.args.rva in
    let slots = ranges_in c.args.slots.now in
    let k : ℕ = c.loop-index.index in
    let some : ℕ = c.min-some.result in
    let before = c.loop-index.found.fixups.items in
    let page : c.unwrap-page.result ≡ b.page = (rw c.unwrap-page.ensures at c.u32_at.ensures).1 in
    let least = c.min-some.ensures in
    let within : k + some ≤ (b.size - 8) / 2 = rw (← c.requires.its_size) (omega (arith, least)) in
    let here : List Entry = entries_at i b.page (b.rva + 8 + 2 * k) some in
    let left : List Entry = drop (k + some) (entries_of i b) in
    let parts : drop k (entries_of i b) ≡ here ++ left = block-parts i b k some within in
    let tests = c.loop-index.invariant.tests (settled-before c.loop-index.found c.read_some_entries.new.found c.read_some_entries.ensures.keeps settled) in
    let p = err_from_is_err_and c.from_residual.result c.from_residual.ensures.1 in
    rw (p.1, p.2)
    (refuses-whole (entries_tests i slots before here) (entries_tests i slots c.args.found.now.fixups.items (entries_of i b))
    (λ y stands. sym tests ∙ ap (λ (es : List Entry). first_standing (entries_tests i slots before es)) parts ∙ part-in i slots before here left y stands)
    c.in_err-read_some_entries.field-0.0 (rw page at c.in_err-read_some_entries.ensures.exact settled))

pub loop-index-preserved : goal.loop-index-preserved
loop-index-preserved g c =
    let i = image_of c.args.layout.now in
    let b = block_at i c.args.rva in
    let slots = ranges_in c.args.slots.now in
    let k : ℕ = c.loop-index.index in
    let some : ℕ = c.min-some.result in
    let before = c.loop-index.found.fixups.items in
    let page : c.unwrap-page.result ≡ b.page = (rw c.unwrap-page.ensures at c.u32_at.ensures).1 in
    let least = c.min-some.ensures in
    let within : k + some ≤ (b.size - 8) / 2 = rw (← c.requires.its_size) (omega (arith, least)) in
    let here : List Entry = entries_at i b.page (b.rva + 8 + 2 * k) some in
    let left : List Entry = drop (k + some) (entries_of i b) in
    let parts : drop k (entries_of i b) ≡ here ++ left = block-parts i b k some within in
    let more : c.read_some_entries.new.found.fixups.items ≡ before ++ filter_map fixup_of here = rw page at c.in_ok-read_some_entries.ensures.reads.fixups in
    record {
      within = omega (arith, least);
      keeps = keeps-trans c.args.found.now c.loop-index.found c.read_some_entries.new.found c.loop-index.invariant.keeps c.read_some_entries.ensures.keeps;
      indexed = c.in_ok-read_some_entries.ensures.reads.indexed;
      fixups =
          ap (λ (fs : List Fixup). fs ++ filter_map fixup_of left) more ∙ sym (part-fixups i slots before here left)
          ∙ ap (λ (es : List Entry). before ++ filter_map fixup_of es) (sym parts) ∙ c.loop-index.invariant.fixups;
      tests = λ settled. (
          let answered = c.in_ok-read_some_entries.ensures.exact settled in
          let none : first_standing (entries_tests i slots before here) ≡ None = rw page at answered.0 in
          ap (λ (fs : List Fixup). first_standing (entries_tests i slots fs left)) more ∙ sym (part-past i slots before here left none)
          ∙ ap (λ (es : List Entry). first_standing (entries_tests i slots before es)) (sym parts)
          ∙ c.loop-index.invariant.tests (settled-before c.loop-index.found c.read_some_entries.new.found c.read_some_entries.ensures.keeps settled));
    }

pub returns-clause-reads : goal.returns-clause-reads
returns-clause-reads g c =
    let i = image_of c.args.layout.now in
    let b = block_at i c.args.rva in
    let le : (b.size - 8) / 2 ≤ c.loop-index.index = rw (← c.requires.its_size) c.loop-index-test.false in
    record {
      fixups = sym (fixups-end (entry_at i b) ((b.size - 8) / 2) c.loop-index.index c.loop-index.found.fixups.items le) ∙ c.loop-index.invariant.fixups;
      indexed = c.loop-index.invariant.indexed;
    }

pub returns-clause-exact : goal.returns-clause-exact
returns-clause-exact g c = λ settled.
    let i = image_of c.args.layout.now in
    let b = block_at i c.args.rva in
    let le : (b.size - 8) / 2 ≤ c.loop-index.index = rw (← c.requires.its_size) c.loop-index-test.false in
    (sym (c.loop-index.invariant.tests settled) ∙ entries-end i (ranges_in c.args.slots.now) (entry_at i b) ((b.size - 8) / 2) c.loop-index.index c.loop-index.found.fixups.items le, tt)
