use Rattle.std.proofs.Common.{◌≡◌, ◌∙◌, ◌+◌, ◌*◌, ◌∷◌, [], Bool, not, ap, sym, subst, arith}
use Rattle.pe_layout.specs.Layout.{image_of}
use Rattle.pe_ranges.specs.RangesView.{ranges_in}
use Rattle.pe_resources.specs.Walk.{asked, finding, directory_tests, order_tests, whole_len, is_shared}
use Rattle.pe_resources.specs.Found.{Shows}
use Rattle.pe_resources.specs.Order.{is_ascending}
use Rattle.pe_resources.specs.Section.{whole_count}
use Rattle.pe_resources.proofs.Steps.{whole_is, shared_is, directory_asked, entered_is, ranges_more, all_beside}
use Rattle.pe_resources.proofs.found.Found.enter.Goals as goal

pub returns-then-is_shared-clause-shows : goal.returns-then-is_shared-clause-shows
returns-then-is_shared-clause-shows g c = λ w shown.
    let i = image_of c.args.section.layout.now in
    let s = c.args.section.start in
    let o = c.args.offset in
    let there = c.if-not-holds.false in
    let shared : c.meets-is_shared.result ≡ is_shared i s w.before o = shared_is i s o (ranges_in c.args.self.now.entered) w.before c.whole_count-count.result _ c.meets-is_shared.ensures c.whole_count-count.ensures.value shown.before in (
      entered_is i s o w.before _ _ c.holds.ensures there shared ∙ ap not c.if-is_shared.true,
      directory_asked c.find-3.new.self i s o w _ _ _ c.entry_count.result c.holds.ensures there (whole_is i s o c.whole_count-count.result c.entry_count.result (sym c.holds.ensures ∙ there) c.whole_count-count.ensures.value c.entry_count.ensures.value) c.entry_count.ensures.value shared
          (c.in_ok-find-3.ensures.shows _ (c.in_ok-find-2.ensures.shows w shown)),
    )

pub add-requires : goal.add-requires
add-requires g c =
    let same : c.find-4.new.self.entered ≡ c.args.self.now.entered = c.in_ok-find-4.ensures.entered ∙ c.in_ok-find-3.ensures.entered ∙ c.in_ok-find-2.ensures.entered in
    rw same (all_beside c.args.offset (16 + 8 * c.whole_count-count.result) (ranges_in c.args.self.now.entered) (sym c.meets-is_shared.ensures ∙ c.if-is_shared.false) c.requires.some (omega arith))

pub returns-clause-shows : goal.returns-clause-shows
returns-clause-shows g c = λ w shown.
    let i = image_of c.args.section.layout.now in
    let s = c.args.section.start in
    let o = c.args.offset in
    let there = c.if-not-holds.false in
    let shared : c.meets-is_shared.result ≡ is_shared i s w.before o = shared_is i s o (ranges_in c.args.self.now.entered) w.before c.whole_count-count.result _ c.meets-is_shared.ensures c.whole_count-count.ensures.value shown.before in
    let first = directory_asked c.find-3.new.self i s o w _ _ _ c.entry_count.result c.holds.ensures there (whole_is i s o c.whole_count-count.result c.entry_count.result (sym c.holds.ensures ∙ there) c.whole_count-count.ensures.value c.entry_count.ensures.value) c.entry_count.ensures.value shared
    (c.in_ok-find-3.ensures.shows _ (c.in_ok-find-2.ensures.shows w shown)) in
    let ascends : c.is_ascending-is_ascending.result ≡ is_ascending i s o (whole_count i s o) = c.is_ascending-is_ascending.ensures ∙ ap (is_ascending i s o) c.whole_count-count.ensures.value in
    let all : Shows c.find-4.new.self (asked (order_tests i s o) (asked (directory_tests i s w.before o) w)) =
    subst (λ (b : Bool). Shows c.find-4.new.self (asked (finding i s 189 o (not b) ∷ []) (asked (directory_tests i s w.before o) w))) ascends (c.in_ok-find-4.ensures.shows _ first) in (
      entered_is i s o w.before _ _ c.holds.ensures there shared ∙ ap not c.if-is_shared.false,
      c.whole_count-count.ensures.value,
      record {
        leaves = all.leaves;
        findings = all.findings;
        before = ranges_more (ranges_in c.find-4.new.self.entered) (ranges_in c.add.new.self) w.before o (16 + 8 * c.whole_count-count.result) (whole_len i s o) c.in_ok-add.ensures (ap (λ (n : _). 16 + 8 * n) c.whole_count-count.ensures.value) all.before;
      },
    )
