use Rattle.std.proofs.Common.{◌≡◌, ◌++◌, drop, length, vec_len}
use Rattle.pe_write.specs.PlanFile.{data_from, file_end}
use Rattle.pe_write.proofs.plan_data.push_data.Given as goal

abbrev pub invariant-loop-section : goal.invariant-loop-section
invariant-loop-section g l =
    record {
      whole : length l.bytes.items ≡ vec_len l.bytes;
      items : l.bytes.items ++ data_from l.alignment (vec_len l.bytes) (drop l.section-index l.sections) ≡ l.fn.bytes.items ++ data_from l.alignment (vec_len l.fn.bytes) l.sections;
      end : file_end l.alignment (vec_len l.bytes) (drop l.section-index l.sections) ≡ file_end l.alignment (vec_len l.fn.bytes) l.sections;
    }
