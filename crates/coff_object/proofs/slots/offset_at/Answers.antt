-- A slot names the entry before its number.
use Rattle.std.proofs.Common.{◌≡◌, suc, Some, sym, arith, refl}
use Rattle.std.specs.Prelude.{slice_get}
use Rattle.std.proofs.lemmas.Option.{slice_get_read}
use Rattle.coff_object.proofs.Telling.{told}
use Rattle.coff_object.proofs.slots.offset_at.Goals as goal

pub returns-then-eq : goal.returns-then-eq
returns-then-eq c =
    let there = c.in_ok-entry.ensures.lookup in
    let next : c.args.slot ≡ suc c.in_ok-index.index = omega (arith, c.in_ok-index.ensures) in
    let at : slice_get c.args.entries.now c.in_ok-index.index ≡ Some c.in_ok-entry.entry.now = slice_get_read _ _ _ _ refl there.3.0 there.1 in
    let same = sym c.if-eq.ensures in
    rw (told c.args.entries.now c.args.text.now c.args.slot c.in_ok-index.index c.in_ok-entry.entry.now next at) (rw same refl)

pub returns-else-eq : goal.returns-else-eq
returns-else-eq c =
    let there = c.in_ok-entry.ensures.lookup in
    let next : c.args.slot ≡ suc c.in_ok-index.index = omega (arith, c.in_ok-index.ensures) in
    let at : slice_get c.args.entries.now c.in_ok-index.index ≡ Some c.in_ok-entry.entry.now = slice_get_read _ _ _ _ refl there.3.0 there.1 in
    let other = sym c.if-eq.ensures in
    rw (told c.args.entries.now c.args.text.now c.args.slot c.in_ok-index.index c.in_ok-entry.entry.now next at) (rw other refl)
