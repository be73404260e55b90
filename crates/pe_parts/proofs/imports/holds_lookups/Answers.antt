use Rattle.std.proofs.Common.{◌≡◌, ◌∙◌, ◌+◌, ◌<◌, ◌≤◌, true, false, sym, arith, inl, inr}
use Rattle.std.specs.Prelude.{◌==◌}
use Rattle.std.proofs.lemmas.Bool.{ne_eqb}
use Rattle.pe_layout.specs.Image.{number_at}
use Rattle.pe_layout.specs.Layout.{headers_of, image_of}
use Rattle.pe_parts.specs.AtHand.{held_end, has_name, is_before}
use Rattle.pe_parts.proofs.AtHand.{zero_ends, lookup_there, lookups_end, lookups_on}
use Rattle.pe_parts.proofs.Walks.{lookups_begin, lookups_outside, lookups_unnamed, lookups_null, lookups_more}
use Rattle.pe_parts.proofs.imports.holds_lookups.Goals as goal

pub loop-value-init : goal.loop-value-init
loop-value-init c = record {
  low = omega arith;
  on = λ b t agree all. all;
  left = lookups_begin (headers_of c.args.layout.now) (image_of c.args.layout.now) c.args.first c.args.first;
}

pub returns-then-not-holds_name-clause-exact : goal.returns-then-not-holds_name-clause-exact
returns-then-not-holds_name-clause-exact c =
    let p = headers_of c.args.layout.now in
    let i = image_of c.args.layout.now in
    let rva = c.loop-value.rva in
    let no : has_name p i (number_at i.slot_width i rva) ≡ false = rw c.value_at-value.ensures at (sym c.holds_name.ensures.exact ∙ c.if-not-holds_name.true) in
    sym (lookups_unnamed p i c.args.first rva c.loop-value.invariant.left no)

pub returns-then-value-eq0-clause-have : goal.returns-then-value-eq0-clause-have
returns-then-value-eq0-clause-have c =
    let p = headers_of c.args.layout.now in
    let i = image_of c.args.layout.now in
    let rva = c.loop-value.rva in
    let fits : rva + i.slot_width ≤ c.held_end-end.result = rw c.slot_width-width.ensures.value at (c.is_before.ensures.before c.loop-value-test.true) in
    let name = rw c.value_at-value.ensures at (c.holds_name.ensures.text c.if-not-holds_name.false) in
    let zero = rw c.value_at-value.ensures at c.if-value-eq0.true in
    λ yes b t agree. c.loop-value.invariant.on b t agree (lookups_end i b t rva (lookup_there p i b t agree c.args.first c.held_end-end.result rva c.held_end-end.ensures.there c.loop-value.invariant.low fits name) (zero_ends i rva zero))

pub returns-then-value-eq0-clause-exact : goal.returns-then-value-eq0-clause-exact
returns-then-value-eq0-clause-exact c =
    let p = headers_of c.args.layout.now in
    let i = image_of c.args.layout.now in
    let rva = c.loop-value.rva in
    let before : is_before i (held_end p c.args.first) rva i.slot_width ≡ true = rw (c.slot_width-width.ensures.value, c.held_end-end.ensures.exact) at (sym c.is_before.ensures.exact ∙ c.loop-value-test.true) in
    let name : has_name p i (number_at i.slot_width i rva) ≡ true = rw c.value_at-value.ensures at (sym c.holds_name.ensures.exact ∙ c.if-not-holds_name.false) in
    let zero = rw c.value_at-value.ensures at c.if-value-eq0.true in
    sym (lookups_null p i c.args.first rva before name c.loop-value.invariant.left zero)

pub loop-value-smaller : goal.loop-value-smaller
loop-value-smaller c =
    let small = c.is_before.ensures.small c.loop-value-test.true in
    elim c.slot_width-width.ensures.width [
      | inl four ↦ omega (arith, four, small)
      | inr eight ↦ omega (arith, eight, small)
    ]

pub loop-value-preserved : goal.loop-value-preserved
loop-value-preserved c =
    let p = headers_of c.args.layout.now in
    let i = image_of c.args.layout.now in
    let rva = c.loop-value.rva in
    let width = c.slot_width-width.ensures.value in
    let fits : rva + i.slot_width ≤ c.held_end-end.result = rw width at (c.is_before.ensures.before c.loop-value-test.true) in
    let name = rw c.value_at-value.ensures at (c.holds_name.ensures.text c.if-not-holds_name.false) in
    let low = c.loop-value.invariant.low in
    let before : is_before i (held_end p c.args.first) rva i.slot_width ≡ true = rw (width, c.held_end-end.ensures.exact) at (sym c.is_before.ensures.exact ∙ c.loop-value-test.true) in
    let named : has_name p i (number_at i.slot_width i rva) ≡ true = rw c.value_at-value.ensures at (sym c.holds_name.ensures.exact ∙ c.if-not-holds_name.false) in
    let more : (number_at i.slot_width i rva == 0) ≡ false = ne_eqb _ _ (rw c.value_at-value.ensures at c.if-value-eq0.false) in
    let some : 0 < i.slot_width = elim c.slot_width-width.ensures.width [
      | inl four ↦ omega (arith, four, width)
      | inr eight ↦ omega (arith, eight, width)
    ] in
    record {
      low = omega (arith, low);
      on = rw width (λ b t agree rest. c.loop-value.invariant.on b t agree
          (lookups_on i b t rva (lookup_there p i b t agree c.args.first c.held_end-end.result rva c.held_end-end.ensures.there low fits name) rest));
      left = rw width (lookups_more p i c.args.first rva before named c.loop-value.invariant.left more some);
    }

pub returns-clause-exact : goal.returns-clause-exact
returns-clause-exact c =
    let p = headers_of c.args.layout.now in
    let i = image_of c.args.layout.now in
    let rva = c.loop-value.rva in
    let no : is_before i (held_end p c.args.first) rva i.slot_width ≡ false = rw (c.slot_width-width.ensures.value, c.held_end-end.ensures.exact) at (sym c.is_before.ensures.exact ∙ c.loop-value-test.false) in
    sym (lookups_outside p i c.args.first rva c.loop-value.invariant.left no)
