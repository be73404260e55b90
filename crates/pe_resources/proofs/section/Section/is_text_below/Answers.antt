-- The units are compared until two differ, or one text ends.
use Rattle.std.proofs.Common.{◌∙◌, ◌+◌, ◌*◌, ◌-◌, ℕ, ap, sym, arith}
use Rattle.std.specs.Prelude.{nat_lt}
use Rattle.pe_layout.specs.Layout.{image_of}
use Rattle.pe_layout.specs.Image.{number_at}
use Rattle.pe_resources.specs.Order.{units_below}
use Rattle.pe_resources.proofs.Ascending.{second_ended, first_ended, units_differ, units_agree, units_done, from_start}
use Rattle.pe_resources.proofs.section.Section.is_text_below.Goals as goal

pub loop-index-init : goal.loop-index-init
loop-index-init c =
    from_start (image_of c.args.self.layout.now) c.args.self.start c.args.first c.args.second c.text_units-first_count.result c.text_units-second_count.result c.text_units-first_count.ensures.value c.text_units-second_count.ensures.value

pub returns-then-index-second_count : goal.returns-then-index-second_count
returns-then-index-second_count c =
    let k : ℕ = c.loop-index.index in
    let some = c.loop-index-test.true in
    let past = c.if-index-second_count.true in
    sym (c.loop-index.invariant ∙ second_ended (image_of c.args.self.layout.now) c.args.self.start (64 - k) (c.args.first + 2 + 2 * k) (c.text_units-first_count.result - k) (c.args.second + 2 + 2 * k) (c.text_units-second_count.result - k) (omega (arith, some)) (omega (arith, past)))

pub returns-then-index-first_count : goal.returns-then-index-first_count
returns-then-index-first_count c =
    let k : ℕ = c.loop-index.index in
    let more = c.if-index-second_count.false in
    let past = c.if-index-first_count.true in
    sym (c.loop-index.invariant ∙ first_ended (image_of c.args.self.layout.now) c.args.self.start (64 - k) (c.args.first + 2 + 2 * k) (c.text_units-first_count.result - k) (c.args.second + 2 + 2 * k) (c.text_units-second_count.result - k) (λ none. omega (arith, more, none)) (omega (arith, past)))

pub returns-then-one-other : goal.returns-then-one-other
returns-then-one-other c =
    let i = image_of c.args.self.layout.now in
    let s : ℕ = c.args.self.start in
    let k : ℕ = c.loop-index.index in
    let some = c.loop-index-test.true in
    let more = c.if-index-second_count.false in
    let has = c.if-index-first_count.false in
    let one = c.u16_at-one.ensures in
    let other = c.u16_at-other.ensures in
    sym (c.loop-index.invariant ∙ units_differ i s (64 - k) (c.args.first + 2 + 2 * k) (c.text_units-first_count.result - k) (c.args.second + 2 + 2 * k) (c.text_units-second_count.result - k)
    (omega (arith, some)) (λ none. omega (arith, more, none)) (λ none. omega (arith, has, none)) (λ same. c.if-one-other.true (one ∙ same ∙ sym other))
    ∙ ap (λ (x : ℕ). nat_lt x (number_at 2 i (s + (c.args.second + 2 + 2 * k)))) (sym one) ∙ ap (λ (x : ℕ). nat_lt c.u16_at-one.result x) (sym other))

pub loop-index-preserved : goal.loop-index-preserved
loop-index-preserved c =
    let i = image_of c.args.self.layout.now in
    let s : ℕ = c.args.self.start in
    let k : ℕ = c.loop-index.index in
    let n : ℕ = c.text_units-first_count.result in
    let m : ℕ = c.text_units-second_count.result in
    let some = c.loop-index-test.true in
    let more = c.if-index-second_count.false in
    let has = c.if-index-first_count.false in
    c.loop-index.invariant
    ∙ units_agree i s (64 - k) (c.args.first + 2 + 2 * k) (n - k) (c.args.second + 2 + 2 * k) (m - k)
    (omega (arith, some)) (λ none. omega (arith, more, none)) (λ none. omega (arith, has, none)) (sym c.u16_at-one.ensures ∙ c.if-one-other.false ∙ c.u16_at-other.ensures)
    ∙ ap (λ (j : ℕ). units_below i s j (c.args.first + 2 + 2 * k + 2) (n - k - 1) (c.args.second + 2 + 2 * k + 2) (m - k - 1)) (omega (arith, some))
    ∙ ap (λ (j : ℕ). units_below i s (64 - (k + 1)) j (n - k - 1) (c.args.second + 2 + 2 * k + 2) (m - k - 1)) (omega arith)
    ∙ ap (λ (j : ℕ). units_below i s (64 - (k + 1)) (c.args.first + 2 + 2 * (k + 1)) j (c.args.second + 2 + 2 * k + 2) (m - k - 1)) (omega arith)
    ∙ ap (λ (j : ℕ). units_below i s (64 - (k + 1)) (c.args.first + 2 + 2 * (k + 1)) (n - (k + 1)) j (m - k - 1)) (omega arith)
    ∙ ap (λ (j : ℕ). units_below i s (64 - (k + 1)) (c.args.first + 2 + 2 * (k + 1)) (n - (k + 1)) (c.args.second + 2 + 2 * (k + 1)) j) (omega arith)

pub returns : goal.returns
returns c =
    let k : ℕ = c.loop-index.index in
    let past = c.loop-index-test.false in
    let i = image_of c.args.self.layout.now in
    sym (c.loop-index.invariant
    ∙ ap (λ (j : ℕ). units_below i c.args.self.start j (c.args.first + 2 + 2 * k) (c.text_units-first_count.result - k) (c.args.second + 2 + 2 * k) (c.text_units-second_count.result - k)) (omega (arith, past))
    ∙ units_done i c.args.self.start (c.args.first + 2 + 2 * k) (c.text_units-first_count.result - k) (c.args.second + 2 + 2 * k) (c.text_units-second_count.result - k))
