use Rattle.std.proofs.Common.{◌≡◌, ◌<◌, ◌≤◌, ◌^◌, ◌++◌, drop}
use Rattle.std.specs.List.{flat_map, AllByRecursion}
use Rattle.pe_write.specs.PlanFile.{file_end, headers_from}
use Rattle.pe_write.specs.PlanFits.{IsRow}
use Rattle.pe_write.specs.PlanHeaders.{section_bytes}
use Rattle.pe_write.proofs.plan_headers.push_table.Given as goal

abbrev pub invariant-loop-section : goal.invariant-loop-section
invariant-loop-section g l = record {
  behind : 0 < l.end;
  held : file_end l.alignment l.end (drop l.section-index l.sections) ≤ 2 ^ 32;
  told : AllByRecursion IsRow (headers_from l.alignment l.end (drop l.section-index l.sections)) → AllByRecursion IsRow (headers_from l.alignment l.headers l.sections);
  bytes :
      l.bytes.items ++ flat_map section_bytes (headers_from l.alignment l.end (drop l.section-index l.sections))
      ≡ l.initial.bytes.items ++ flat_map section_bytes (headers_from l.alignment l.headers l.sections);
}
