-- An archive has few members and few symbols, since they lie in its file.
use Rattle.std.proofs.Common.{ℕ, zero, suc, ◌+◌, ◌-◌, ◌≤◌, Bool, List, [], ◌∷◌, length, Result, Ok, Err, inl, inr, arith}
use Rattle.std.specs.Option.{unwrap_or}
use Rattle.std.specs.Prelude.{is_none, nat_le}
use Rattle.std.proofs.lemmas.Bool.{cases_Bool}
use Rattle.pe_view.specs.Faults.{first_standing}
use Rattle.pe_view.specs.View.{bytes_of}
use Rattle.pe_view.specs.declared.fault.Fault.{Fault}
use Rattle.coff_archive.specs.Members.{Member, header_tests, members, next_of, walk_from}
use Rattle.coff_archive.specs.Symbols.{name_from, symbols_from}
use Rattle.coff_archive.specs.SymbolsLeft.{symbols_left}
use Rattle.coff_archive.specs.declared.linker.Linker.{Linker}
use Rattle.coff_archive.specs.declared.symbols.Symbols.{Symbols}
use Rattle.c_tables.specs.MemberRows.{whole, whole_members}

few_whole : (reads : List (Result Member Fault)) → length (whole reads) ≤ length reads
few_whole [] = omega arith
few_whole (Ok m ∷ reads) = let few = few_whole reads in omega (arith, few)
few_whole (Err fault ∷ reads) = let few = few_whole reads in omega (arith, few)

few_reads : (thin : Bool) (file : List ℕ) (most at : ℕ) → length (walk_from thin file most at) ≤ most
few_reads thin file zero at = omega arith
few_reads thin file (suc most) at = elim (cases_Bool (nat_le (length file) at)) [
  | inl past ↦ rw past (omega arith)
  | inr here ↦ rw here (elim (cases_Bool (is_none (first_standing (header_tests thin file at)))) [
    | inl none ↦ let few = few_reads thin file most (next_of thin file at) in rw none (omega (arith, few))
    | inr some ↦ rw some (omega arith)
  ])
]

pub few_members : (thin : Bool) (file : List ℕ) → length (whole_members thin file) ≤ length file
few_members thin file =
    let reads = few_reads thin file (length file - 8) 8 in
    let read = few_whole (members thin file) in
    omega (arith, reads, read)

few_names : (linker : Linker) (table : List ℕ) (left k at : ℕ) → length (symbols_from linker table left k at) ≤ left
few_names linker table zero k at = omega arith
few_names linker table (suc left) k at = elim (cases_Bool (is_none (name_from table at))) [
  | inl none ↦ rw none (omega arith)
  | inr some ↦ let few = few_names linker table left (k + 1) (at + length (unwrap_or (name_from table at) []) + 1) in rw some (omega (arith, few))
]

pub few_symbols : (s : Symbols) → length (symbols_left s) ≤ s.count
few_symbols s = let few = few_names s.linker (bytes_of s.table) (s.count - s.next) s.next s.at in omega (arith, few)
