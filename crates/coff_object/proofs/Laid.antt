-- Where the parts of a written object stand.
use Rattle.std.proofs.Common.{◌≡◌, ℕ, ◌+◌, ◌*◌, true, false, List, [], ◌∷◌, ◌++◌, length, refl, ap, ◌∙◌, length-append, arith}
use Rattle.std.specs.List.{flat_map, AllByRecursion}
use Rattle.pe_numbers.specs.Numbers.{number_bytes}
use Rattle.pe_numbers.specs.StandsAt.{StandsAt, stands_whole, stands-front, stands-back}
use Rattle.coff_read.specs.Records.{Section, Symbol, Object}
use Rattle.coff_object.specs.WriteFaults.{is_far}
use Rattle.coff_object.specs.Written.{strings_of, section_body, section_table, string_table}
use Rattle.coff_read.specs.FormRecords.{records_of, is_bad_symbol}
use Rattle.coff_read.specs.Forms.{Form, header_len, symbol_len}
use Rattle.coff_object.specs.FormWritten.{symbol_bytes, optional_of, bodies_start, symbols_start, coff_header, canon}
use Rattle.coff_object.proofs.SectionsBack.{length-table}
use Rattle.coff_object.proofs.SymbolsBack.{length-symbol}

-- where the string table begins
abbrev pub end_of_symbols : Form → Object → ℕ
end_of_symbols big o = symbols_start big o + symbol_len big * records_of big o.symbols

pub record Laid (big : Form) (file : List ℕ) (o : Object) : Type 0 where
  pub header : StandsAt file 0 (coff_header big o)
  pub optional : StandsAt file (header_len big) (optional_of big o)
  pub table : StandsAt file (header_len big + length (optional_of big o)) (section_table (strings_of o) (bodies_start big o) o.sections)
  pub bodies : StandsAt file (bodies_start big o) (flat_map section_body o.sections)
  pub symbols : StandsAt file (symbols_start big o) (flat_map (symbol_bytes big (strings_of o)) o.symbols)
  pub strings : StandsAt file (end_of_symbols big o) (string_table o)
  pub size : length file ≡ end_of_symbols big o + length (string_table o)

length-symbols : (big : Form) (strings : List (List ℕ)) (count : ℕ) (ss : List Symbol) → AllByRecursion (λ (s : Symbol). is_bad_symbol big count s ≡ false) ss → length (flat_map (symbol_bytes big strings) ss) ≡ symbol_len big * records_of big ss
length-symbols big strings count [] good = omega arith
length-symbols big strings count (s ∷ ss) good =
    let both : length (symbol_bytes big strings s ++ flat_map (symbol_bytes big strings) ss) ≡ length (symbol_bytes big strings s) + length (flat_map (symbol_bytes big strings) ss) = length-append (symbol_bytes big strings s) (flat_map (symbol_bytes big strings) ss) in
    let here = length-symbol big strings count s good.0 in
    let later = length-symbols big strings count ss good.1 in
    omega arith

pub length-coff : (big : Form) (o : Object) → length (coff_header big o) ≡ header_len big
unfolding number_bytes
length-coff false o = refl
length-coff true o = refl

pub laid : (big : Form) (o : Object) → AllByRecursion (λ (s : Section). is_far (strings_of o) s ≡ false) o.sections → AllByRecursion (λ (s : Symbol). is_bad_symbol big (length o.sections) s ≡ false) o.symbols → Laid big (canon big o) o
unfolding canon
laid big o near good =
    let strings : List (List ℕ) = strings_of o in
    let table : List ℕ = section_table strings (bodies_start big o) o.sections in
    let bodies : List ℕ = flat_map section_body o.sections in
    let symbols : List ℕ = flat_map (symbol_bytes big strings) o.symbols in
    let a4 : List ℕ = symbols ++ string_table o in
    let a3 : List ℕ = bodies ++ a4 in
    let a2 : List ℕ = table ++ a3 in
    let a1 : List ℕ = (optional_of big o) ++ a2 in
    let table_len = length-table strings (bodies_start big o) o.sections near in
    let symbols_len = length-symbols big strings (length o.sections) o.symbols good in
    let h0 : StandsAt (canon big o) 0 (coff_header big o ++ a1) = stands_whole (canon big o) in
    let h1 : StandsAt (canon big o) (header_len big) a1 = stands-back (canon big o) 0 (header_len big) (coff_header big o) a1 h0 (let e = length-coff big o in omega (arith, e)) in
    let h2 : StandsAt (canon big o) (header_len big + length (optional_of big o)) a2 = stands-back (canon big o) (header_len big) (header_len big + length (optional_of big o)) (optional_of big o) a2 h1 refl in
    let h3 : StandsAt (canon big o) (bodies_start big o) a3 = stands-back (canon big o) (header_len big + length (optional_of big o)) (bodies_start big o) table a3 h2 (omega arith) in
    let h4 : StandsAt (canon big o) (symbols_start big o) a4 = stands-back (canon big o) (bodies_start big o) (symbols_start big o) bodies a4 h3 refl in
    let h5 : StandsAt (canon big o) (end_of_symbols big o) (string_table o) = stands-back (canon big o) (symbols_start big o) (end_of_symbols big o) symbols (string_table o) h4 (omega arith) in
    let l0 : length (coff_header big o ++ a1) ≡ header_len big + length a1 = length-append (coff_header big o) a1 ∙ ap (λ (n : ℕ). n + length a1) (length-coff big o) in
    let l1 : length a1 ≡ length (optional_of big o) + length a2 = length-append (optional_of big o) a2 in
    let l2 : length a2 ≡ length table + length a3 = length-append table a3 in
    let l3 : length a3 ≡ length bodies + length a4 = length-append bodies a4 in
    let l4 : length a4 ≡ length symbols + length (string_table o) = length-append symbols (string_table o) in
    record {
      header = stands-front (canon big o) 0 (coff_header big o) a1 h0;
      optional = stands-front (canon big o) (header_len big) (optional_of big o) a2 h1;
      table = stands-front (canon big o) (header_len big + length (optional_of big o)) table a3 h2;
      bodies = stands-front (canon big o) (bodies_start big o) bodies a4 h3;
      symbols = stands-front (canon big o) (symbols_start big o) symbols (string_table o) h4;
      strings = h5;
      size = omega arith;
    }
