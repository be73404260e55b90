use Rattle.std.proofs.Common.{◌≡◌, ◌≤◌, ◌+◌, ◌++◌, drop}
use Rattle.std.specs.List.{AllByRecursion}
use Rattle.std.specs.Vec.{vec_capacity, vec_len}
use Rattle.pe_numbers.specs.Numbers.{NumberFits, numbers_bytes, numbers_size}
use Rattle.pe_numbers.proofs.number.push_numbers.Given as goal

abbrev pub invariant-loop-number : goal.invariant-loop-number
invariant-loop-number g l = record {
  told : AllByRecursion NumberFits (drop l.number-index l.numbers) → AllByRecursion NumberFits l.numbers;
  bytes : l.bytes.items ++ numbers_bytes (drop l.number-index l.numbers) ≡ l.initial.bytes.items ++ numbers_bytes l.numbers;
  capacity : vec_capacity l.initial.bytes ≤ vec_capacity l.bytes;
  len : vec_len l.bytes + numbers_size (drop l.number-index l.numbers) ≡ vec_len l.initial.bytes + numbers_size l.numbers;
}
