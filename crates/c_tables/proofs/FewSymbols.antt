-- An image has few symbols, since its header counts their records in four bytes.
use Rattle.std.proofs.Common.{ℕ, zero, suc, ◌+◌, ◌-◌, ◌*◌, ◌^◌, ◌<◌, ◌≤◌, List, length, Option, arith}
use Rattle.std.specs.Prelude.{option_map}
use Rattle.pe_view.specs.View.{bytes_of}
use Rattle.coff_read.specs.Field.{field}
use Rattle.coff_read.specs.ImageNames.{table_of}
use Rattle.coff_read.specs.ImageSymbols.{image_symbols_from}
use Rattle.coff_read.specs.ImageSymbolsLeft.{image_symbols_left}
use Rattle.coff_read.specs.declared.image_symbols.ImageSymbols.{ImageSymbols}

few_from : (file : List ℕ) (strings : Option (List ℕ)) (start k left skip : ℕ) → length (image_symbols_from file strings start k left skip) ≤ left
few_from file strings start k zero skip = omega arith
few_from file strings start k (suc left) zero = let few = few_from file strings start (k + 1) left (field file (start + 18 * k) 17 1) in omega (arith, few)
few_from file strings start k (suc left) (suc skip) = let few = few_from file strings start (k + 1) left skip in omega (arith, few)

pub few_symbols : {A : Type 0} (s : ImageSymbols A) → length (image_symbols_left s) < 2 ^ 32
few_symbols s =
    let from = few_from (bytes_of s.view) (option_map table_of s.strings) s.start s.next (s.records - s.next) 0 in
    let few = s.few in
    omega (arith, from, few)
