use Rattle.std.proofs.Common.{◌≡◌, ◌+◌, ◌++◌, length, take, drop}
use Rattle.std.specs.List.{AllByRecursion}
use Rattle.pe_numbers.specs.Numbers.{NumberFits, numbers_bytes, numbers_size}
use Rattle.pe_numbers.proofs.number.write_numbers.Given as goal

abbrev pub invariant-loop-number : goal.invariant-loop-number
invariant-loop-number l = record {
  told : AllByRecursion NumberFits (drop l.number-index l.numbers) → AllByRecursion NumberFits l.numbers;
  left : length l.room ≡ l.start + numbers_size (drop l.number-index l.numbers);
  bytes : take l.start l.room ++ numbers_bytes (drop l.number-index l.numbers) ≡ numbers_bytes l.numbers;
}
