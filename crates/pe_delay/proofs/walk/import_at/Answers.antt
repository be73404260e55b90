-- The import of the entry at the index.
use Rattle.std.proofs.Common.{◌∙◌, ℕ, sym, ap, arith}
use Rattle.pe_layout.specs.Layout.{image_of, size_small}
use Rattle.pe_tables.specs.Key.{key_view}
use Rattle.pe_delay.specs.Entries.{entry_at, is_placed, key_in, lacks_name}
use Rattle.pe_delay.proofs.Choices.{kept, lost, there}
use Rattle.pe_delay.proofs.Steps.{imports_next, imports_unnamed, placed_inside, placed_slot}
use Rattle.pe_delay.proofs.walk.import_at.Goals as goal

pub returns-in_err-key-clause-next : goal.returns-in_err-key-clause-next
returns-in_err-key-clause-next g c =
    let i = image_of c.args.layout.now in
    let t = c.args.tables.now in
    let k : ℕ = c.args.index in
    let l = entry_at i t k in
    let placed = there (is_placed i t l) l.value c.in_ok-value.value c.in_ok-value.ensures in
    let lacks = lost (lacks_name i t c.in_ok-value.value) (key_in i t c.in_ok-value.value) c.in_err-key.ensures.key in
    let none = imports_unnamed i t c.args.«module».now c.args.most k c.if-index-most.false (ap (lacks_name i t) (sym placed.1) ∙ lacks) in
    rw c.from_residual-in_err-key.ensures none

pub overflow_cast-result : goal.overflow_cast-result
overflow_cast-result g c =
    let i = image_of c.args.layout.now in
    let t = c.args.tables.now in
    let l = entry_at i t c.args.index in
    let placed = there (is_placed i t l) l.value c.in_ok-value.value c.in_ok-value.ensures in
    let inside = placed_slot i t l placed.0 in
    let at = c.slot_rva.ensures.value in
    let small = size_small c.args.layout.now in
    omega (arith, inside, at, small)

pub returns-clause-next : goal.returns-clause-next
returns-clause-next g c =
    let i = image_of c.args.layout.now in
    let t = c.args.tables.now in
    let k : ℕ = c.args.index in
    let l = entry_at i t k in
    let under = c.if-index-most.false in
    let placed = there (is_placed i t l) l.value c.in_ok-value.value c.in_ok-value.ensures in
    let named = kept (lacks_name i t c.in_ok-value.value) (key_in i t c.in_ok-value.value) (key_view c.in_ok-key.key) c.in_ok-key.ensures.key in (
      under,
      placed_inside i t l placed.0,
      imports_next i t c.args.«module».now c.args.most k (key_view c.in_ok-key.key) c.in_ok-value.value c.slot_rva.result under placed.0 placed.1 named.0 named.1 c.slot_rva.ensures.value,
    )
