use Rattle.std.proofs.Common.{◌∙◌, ◌≤◌, ℕ, length, ap, sym, arith}
use Rattle.std.specs.Prelude.{ℤ, pos, ◌-ℤ◌}
use Rattle.std.proofs.lemmas.List.{take_rest}
use Rattle.byteorder.specs.Endian.{little_from}
use Rattle.pe_tables.specs.Fixups.{width_of}
use Rattle.pe_tables.specs.Relocated.{shift}
use Rattle.pe_tables.specs.declared.fixups.FixupKind.{FixupKind}
use Rattle.pe_tables.proofs.Patching.{field_shifted, written_from}
use Rattle.pe_tables.proofs.bytes.shift_field.Goals as goal

pub returns-in-High : goal.returns-in-High
returns-in-High c =
    let xs = c.args.memory.now in
    let place = c.args.place in
    let d : ℤ = pos c.args.to -ℤ pos c.args.from in
    let v : ℕ = c.read_u16-number.result in
    let n : ℕ = c.shift_high.result in
    let inside = c.requires in
    let le : place ≤ length xs = omega (arith, inside) in
    let is = c.in-High.is in
    written_from xs c.write_u16.new.buf place 2 n le c.write_u16.ensures
    ∙ field_shifted xs c.args.kind place v 2 n d (ap width_of (sym is)) (c.read_u16-number.ensures ∙ ap (little_from 0 2) (take_rest xs place))
    (c.shift_high.ensures ∙ ap (λ (k : FixupKind). shift k v d) (sym is))

pub returns-in-Low : goal.returns-in-Low
returns-in-Low c =
    let xs = c.args.memory.now in
    let place = c.args.place in
    let d : ℤ = pos c.args.to -ℤ pos c.args.from in
    let v : ℕ = c.read_u16-number-in-Low.result in
    let n : ℕ = c.shift_low.result in
    let inside = c.requires in
    let le : place ≤ length xs = omega (arith, inside) in
    let is = c.in-Low.is in
    written_from xs c.write_u16-in-Low.new.buf place 2 n le c.write_u16-in-Low.ensures
    ∙ field_shifted xs c.args.kind place v 2 n d (ap width_of (sym is)) (c.read_u16-number-in-Low.ensures ∙ ap (little_from 0 2) (take_rest xs place))
    (c.shift_low.ensures ∙ ap (λ (k : FixupKind). shift k v d) (sym is))

pub returns-in-Bits32 : goal.returns-in-Bits32
returns-in-Bits32 c =
    let xs = c.args.memory.now in
    let place = c.args.place in
    let d : ℤ = pos c.args.to -ℤ pos c.args.from in
    let v : ℕ = c.read_u32-number.result in
    let n : ℕ = c.shift_32.result in
    let inside = c.requires in
    let le : place ≤ length xs = omega (arith, inside) in
    let is = c.in-Bits32.is in
    written_from xs c.write_u32.new.buf place 4 n le c.write_u32.ensures
    ∙ field_shifted xs c.args.kind place v 4 n d (ap width_of (sym is)) (c.read_u32-number.ensures ∙ ap (little_from 0 4) (take_rest xs place))
    (c.shift_32.ensures ∙ ap (λ (k : FixupKind). shift k v d) (sym is))

pub returns-in-Bits64 : goal.returns-in-Bits64
returns-in-Bits64 c =
    let xs = c.args.memory.now in
    let place = c.args.place in
    let d : ℤ = pos c.args.to -ℤ pos c.args.from in
    let v : ℕ = c.read_u64-number.result in
    let n : ℕ = c.shift_64.result in
    let inside = c.requires in
    let le : place ≤ length xs = omega (arith, inside) in
    let is = c.in-Bits64.is in
    written_from xs c.write_u64.new.buf place 8 n le c.write_u64.ensures
    ∙ field_shifted xs c.args.kind place v 8 n d (ap width_of (sym is)) (c.read_u64-number.ensures ∙ ap (little_from 0 8) (take_rest xs place))
    (c.shift_64.ensures ∙ ap (λ (k : FixupKind). shift k v d) (sym is))
