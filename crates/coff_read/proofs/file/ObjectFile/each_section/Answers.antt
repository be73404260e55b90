-- No section of an accepted file has a fault.
use Rattle.std.proofs.Common.{arith, ap}
use Rattle.std.specs.Prelude.{ℕ, ◌-◌, ◌≡◌, map}
use Rattle.std.specs.List.{range_with_len}
use Rattle.coff_read.specs.Field.{field}
use Rattle.coff_read.specs.ObjectFile.{file_of}
use Rattle.coff_read.specs.Reading.{section_in, section_start}
use Rattle.coff_read.proofs.WholeTable.{table_stands}
use Rattle.coff_read.proofs.file.ObjectFile.each_section.Goals as goal

pub invariant_of-result : goal.invariant_of-result
invariant_of-result g c =
    let o = c.args.self.now in
    record { stand = o.stand; within = omega arith; sound = (table_stands (file_of o) o.accepted).sections; known = c.new.ensures (file_of o) }

pub returns : goal.returns
returns g c =
    let o = c.args.self.now in
    let file = file_of o in
    let sections = o.stand.sections in
    let all : o.tables.sections - 0 ≡ field file 0 2 2 = omega (arith, sections) in
    ap (λ (n : ℕ). map (section_in file) (map (section_start file) (range_with_len 0 n))) all
