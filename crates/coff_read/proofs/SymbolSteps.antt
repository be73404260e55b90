-- The symbols of a table in which none has a fault, one symbol more.
use Rattle.std.proofs.Common.{◌≡◌, ℕ, ◌+◌, ◌-◌, ◌*◌, ◌/◌, ◌<◌, ◌≤◌, List, ◌∷◌, length, None, refl, ap, arith}
use Rattle.std.specs.List.{flat_map}
use Rattle.std.proofs.Math.Nat.{mul-le-mul_left}
use Rattle.std.proofs.lemmas.Bool.{ltb-false}
use Rattle.pe_view.specs.Faults.{first_standing}
use Rattle.pe_view.specs.FirstStanding.{none_stands}
use Rattle.coff_read.specs.FormFaults.{symbol_tests}
use Rattle.coff_read.specs.FormReading.{record_count, record_start, aux_of, aux_count, symbols_from}
use Rattle.coff_read.specs.Field.{field}
use Rattle.coff_read.specs.Forms.{Form, Plain, symbol_len}
use Rattle.coff_read.specs.TablesPlace.{AreTables}
use Rattle.coff_read.specs.declared.tables.Tables.{Tables}
use Rattle.coff_read.proofs.Walk.{symbols_next, symbols_some, first_none}

-- a record and its auxiliary ones lie in the table, whatever their size
pub records_inside : (start len k aux records end : ℕ) → k + 1 + aux ≤ records → start + len * records ≤ end → start + len * k + len + len * aux ≤ end
records_inside start len k aux records end within inside =
    let more : len * (k + 1 + aux) ≤ len * records = mul-le-mul_left len within in
    omega (arith, more, inside)

module _ (big : Form) (file : List ℕ) (t : Tables) (stand : AreTables big file t) (k : ℕ) (lt : k < t.records)
    (unrefused : first_standing (flat_map (symbol_tests big file) (symbols_from big file k (t.records - k) 0)) ≡ None) where
  pub at_record : t.symbols + symbol_len big * k ≡ record_start big file k
  at_record = let pointer = stand.symbols in omega (arith, pointer)

  aux_is : aux_of big file (t.symbols + symbol_len big * k) ≡ aux_count big file k
  aux_is = ap (λ (n : ℕ). aux_of big file n) at_record

  within : k + 1 + aux_count big file k ≤ t.records
  within =
      let none = first_none (symbol_tests big file) k _ _ (symbols_some big file k t.records lt) unrefused in
      let under = ltb-false (record_count big file) (k + 1 + aux_count big file k) (none_stands (symbol_tests big file k) 1 _ none.0 refl) in
      let records = stand.records in
      omega (arith, records, under)

  pub record_inside : t.symbols + symbol_len big * k + symbol_len big + symbol_len big * aux_of big file (t.symbols + symbol_len big * k) ≤ length file
  record_inside =
      let under = within in
      let aux = aux_is in
      records_inside t.symbols (symbol_len big) k (aux_of big file (t.symbols + symbol_len big * k)) t.records (length file) (omega (arith, under, aux)) stand.symbols_inside

  -- what holds after the auxiliary records
  pub record IsStep (next : ℕ) : Type 0 where
    pub within : next ≤ t.records
    pub further : k < next
    pub left : symbols_from big file k (t.records - k) 0 ≡ k ∷ symbols_from big file next (t.records - next) 0
    pub sound : first_standing (flat_map (symbol_tests big file) (symbols_from big file next (t.records - next) 0)) ≡ None

  pub symbol_step : (next : ℕ) → next ≡ k + 1 + aux_of big file (t.symbols + symbol_len big * k) → IsStep next
  symbol_step next is =
      let aux = aux_is in
      let under = within in
      let next_is : next ≡ k + 1 + aux_count big file k = omega (arith, aux, is) in
      let inside : next ≤ t.records = omega (arith, next_is, under) in
      let step = symbols_next big file k next t.records next_is inside in
      record { within = inside; further = omega (arith, next_is); left = step; sound = (first_none (symbol_tests big file) k _ _ step unrefused).1 }

-- of a plain object, whose auxiliary records have so many bytes
pub plain_step : (file : List ℕ) (t : Tables) (stand : AreTables Plain file t) (k : ℕ) (lt : k < t.records)
    (unrefused : first_standing (flat_map (symbol_tests Plain file) (symbols_from Plain file k (t.records - k) 0)) ≡ None) (len next : ℕ)
    → len ≡ 18 * field file (t.symbols + 18 * k) 17 1 → next ≡ k + 1 + len / 18 → IsStep Plain file t stand k lt unrefused next
plain_step file t stand k lt unrefused len next bytes is =
    let next_is : next ≡ k + 1 + field file (t.symbols + 18 * k) 17 1 = omega (arith, bytes, is) in
    symbol_step Plain file t stand k lt unrefused next next_is
