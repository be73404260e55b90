-- No section of an accepted file has a fault.
use Rattle.std.proofs.Common.{arith, ap}
use Rattle.std.specs.Prelude.{ℕ, ◌-◌, ◌≡◌, map}
use Rattle.std.specs.List.{range_with_len}
use Rattle.coff_read.specs.Forms.{Big, section_count}
use Rattle.coff_read.specs.BigObjectFile.{big_file_of}
use Rattle.coff_read.specs.FormReading.{section_in, section_start}
use Rattle.coff_read.proofs.FormTable.{form_stands}
use Rattle.coff_read.proofs.big_file.BigObjectFile.each_section.Goals as goal

pub invariant_of-result : goal.invariant_of-result
invariant_of-result g c =
    let o = c.args.self.now in
    record { stand = o.stand; within = omega arith; sound = (form_stands Big (big_file_of o) o.accepted).sections; known = c.new.ensures (big_file_of o) }

pub returns : goal.returns
returns g c =
    let o = c.args.self.now in
    let file = big_file_of o in
    let sections = o.stand.sections in
    let all : o.tables.sections - 0 ≡ section_count Big file = omega (arith, sections) in
    ap (λ (n : ℕ). map (section_in Big file) (map (section_start Big file) (range_with_len 0 n))) all
