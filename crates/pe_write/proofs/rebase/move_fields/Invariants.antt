use Rattle.std.proofs.Common.{◌≡◌, drop}
use Rattle.std.specs.Prelude.{pos, ◌-ℤ◌}
use Rattle.pe_view.specs.Faults.{first_standing}
use Rattle.pe_write.specs.RebaseFaults.{fields_tests}
use Rattle.pe_write.specs.Rewriting.{IsHolder}
use Rattle.pe_write.specs.Rebase.{moved_all}
use Rattle.pe_write.proofs.rebase.move_fields.Given as goal

abbrev pub invariant-loop-fixup : goal.invariant-loop-fixup
invariant-loop-fixup l =
    let h = l.headers in
    let d = pos l.base -ℤ pos h.image_base in
    record {
      holder : IsHolder h l.section;
      tests : first_standing (fields_tests h (drop l.fixup-index l.fixups)) ≡ first_standing (fields_tests h l.fixups);
      bytes : moved_all h d (drop l.fixup-index l.fixups) l.bytes ≡ moved_all h d l.fixups l.fn.bytes;
    }
