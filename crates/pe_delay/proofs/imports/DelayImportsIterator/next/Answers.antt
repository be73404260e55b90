-- The import of the entry at the index, and the next index.
use Rattle.std.proofs.Common.{rules, ◌∙◌, length, sym, ap, arith}
use Rattle.pe_layout.specs.Layout.{image_of, size_small}
use Rattle.pe_tables.specs.Key.{key_view}
use Rattle.pe_delay.specs.Entries.{entry_at, is_placed, key_in, lacks_name}
use Rattle.pe_delay.proofs.Choices.{kept, lost, there}
use Rattle.pe_delay.proofs.Steps.{imports_next, imports_unnamed, placed_slot}
use Rattle.pe_delay.proofs.imports.DelayImportsIterator.next.Goals as goal

pub returns-in_err-key-clause-steps : goal.returns-in_err-key-clause-steps
returns-in_err-key-clause-steps c =
    let s = c.args.self.now in
    let i = image_of s.layout.now in
    let l = entry_at i s.tables s.index in
    let placed = there (is_placed i s.tables l) l.value c.in_ok-value.value c.in_ok-value.ensures in
    let lacks = lost (lacks_name i s.tables c.in_ok-value.value) (key_in i s.tables c.in_ok-value.value) c.in_err-key.ensures in
    let none = imports_unnamed i s.tables s.«module».now s.most s.index c.if-self.false (ap (lacks_name i s.tables) (sym placed.1) ∙ lacks) in
    rw c.from_residual-in_err-key.ensures (none, none)

pub overflow_cast-slot : goal.overflow_cast-slot
overflow_cast-slot c =
    let s = c.args.self.now in
    let i = image_of s.layout.now in
    let l = entry_at i s.tables s.index in
    let placed = there (is_placed i s.tables l) l.value c.in_ok-value.value c.in_ok-value.ensures in
    let inside = placed_slot i s.tables l placed.0 in
    let at = c.slot_rva-slot.ensures.value in
    let small = size_small s.layout.now in
    omega (arith, inside, at, small)

pub returns-clause-steps : goal.returns-clause-steps
returns-clause-steps c =
    let s = c.args.self.now in
    let i = image_of s.layout.now in
    let l = entry_at i s.tables s.index in
    let placed = there (is_placed i s.tables l) l.value c.in_ok-value.value c.in_ok-value.ensures in
    let named = kept (lacks_name i s.tables c.in_ok-value.value) (key_in i s.tables c.in_ok-value.value) (key_view c.in_ok-key.key) c.in_ok-key.ensures in
    imports_next i s.tables s.«module».now s.most s.index (key_view c.in_ok-key.key) c.in_ok-value.value c.slot_rva-slot.result c.if-self.false placed.0 placed.1 named.0 named.1 c.slot_rva-slot.ensures.value

pub returns-clause-goes : goal.returns-clause-goes
returns-clause-goes c =
    let shorter = ap length (returns-clause-steps c) in
    search rules
