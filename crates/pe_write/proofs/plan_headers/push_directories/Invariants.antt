use Rattle.std.proofs.Common.{◌≡◌, ◌++◌, drop}
use Rattle.std.specs.List.{flat_map, AllByRecursion}
use Rattle.pe_numbers.specs.Numbers.{NumberFits, numbers_bytes}
use Rattle.pe_write.specs.PlanHeaders.{directory_numbers}
use Rattle.pe_write.proofs.plan_headers.push_directories.Given as goal

abbrev pub invariant-loop-directory : goal.invariant-loop-directory
invariant-loop-directory g l = record {
  told : AllByRecursion NumberFits (flat_map directory_numbers (drop l.directory-index l.directories)) → AllByRecursion NumberFits (flat_map directory_numbers l.directories);
  bytes : l.bytes.items ++ numbers_bytes (flat_map directory_numbers (drop l.directory-index l.directories)) ≡ l.initial.bytes.items ++ numbers_bytes (flat_map directory_numbers l.directories);
}
