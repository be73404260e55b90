-- The tables of the linker members, read back.
use Rattle.std.proofs.Common.{◌≡◌, ◌∙◌, ℕ, zero, suc, ◌+◌, ◌-◌, ◌/◌, ◌%◌, ◌^◌, ◌<◌, ◌≤◌, Bool, true, false, List, [], ◌∷◌, ◌++◌, length, take, drop, get_or, Some, refl, sym, ap, subst, arith, length-append, length-drop, append_assoc, append-nil}
use Rattle.std.specs.Prelude.{map, ◌==◌, ◌||◌, not, nat_le, slice_index}
use Rattle.std.specs.List.{list_any, AllByRecursion}
use Rattle.std.proofs.lemmas.Bool.{le-leb, eq-eqb, or_parts}
use Rattle.std.proofs.lemmas.List.{drop_at, drop-drop, take_all, length-map}
use Rattle.byteorder.specs.Endian.{big_bytes}
use Rattle.pe_numbers.specs.declared.number.Number.TheVariants.{U16, U32}
use Rattle.pe_numbers.specs.Numbers.{number_bytes}
use Rattle.pe_numbers.specs.ReadBack.{number_read}
use Rattle.pe_numbers.specs.StandsAt.{StandsAt, stands_byte}
use Rattle.pe_view.specs.Digits.{num_of_own_digits}
use Rattle.pe_view.specs.Number.{num, byte_of, digit}
use Rattle.pe_view.specs.Text.{zero_ended}
use Rattle.coff_archive.specs.Bytes.{big}
use Rattle.coff_archive.specs.Symbols.{symbol_count, symbol_member, name_from, symbols_from, symbols_place, names_start, has_fields, symbols, is_cut}
use Rattle.coff_archive.specs.declared.linker.Linker.{Linker}
use Rattle.coff_library.specs.ReadBack.{located}
use Rattle.coff_library.specs.Symbols.{Symbol}
use Rattle.coff_library.specs.Written.{symbol_names}

-- a text without a zero byte
abbrev pub NoZero : List ℕ → Type 0
NoZero text = list_any (λ byte. byte == 0) text ≡ false

text_ends : (text rest : List ℕ) → NoZero text → zero_ended (text ++ 0 ∷ rest) ≡ Some text
text_ends [] rest none = refl
text_ends (zero ∷ text) rest none = absurd cc
text_ends (suc b ∷ text) rest none =
    let parts = or_parts (suc b == 0) (list_any (λ byte. byte == 0) text) none in
    rw (text_ends text rest parts.1) refl

-- the text at a place where it stands with its zero byte
name_at : (t : List ℕ) (at : ℕ) (text rest : List ℕ) → NoZero text → drop at t ≡ (text ++ 0 ∷ []) ++ rest → name_from t at ≡ Some text
name_at t at text rest none is =
    let in_table : nat_le (length t) (length t) ≡ true = le-leb (length t) (length t) (omega arith) in
    let left = length-drop at t in
    let all : take (length t - at) (drop at t) ≡ drop at t = take_all (length t - at) (drop at t) (omega (arith, left)) in
    rw in_table (ap zero_ended (all ∙ is ∙ append_assoc text (0 ∷ []) rest) ∙ text_ends text rest none)

module _ (linker : Linker) (t offsets : List ℕ) where
  -- the names stand behind the fields, and each symbol leads to its member
  pub symbols_are : (ss : List Symbol) (k at : ℕ) → AllByRecursion (λ (s : Symbol). NoZero s.name) ss → drop at t ≡ symbol_names ss
      → ((j : ℕ) (d : Symbol) → j < length ss → symbol_member linker t (k + j) ≡ Some (slice_index offsets (get_or ss j d).member))
      → symbols_from linker t (length ss) k at ≡ map (located offsets) ss
  symbols_are [] k at none there member = refl
  symbols_are (s ∷ ss) k at none there member =
      let name = name_at t at s.name (symbol_names ss) none.0 there in
      let here : symbol_member linker t k ≡ Some (slice_index offsets s.member) = ap (symbol_member linker t) (let e : k ≡ k + 0 = omega arith in e) ∙ member 0 s (omega arith) in
      let size = length-append s.name (0 ∷ []) in
      let next : drop (at + length s.name + 1) t ≡ symbol_names ss =
      ap (λ (n : ℕ). drop n t) (let e : at + length s.name + 1 ≡ at + length (s.name ++ 0 ∷ []) = omega (arith, size) in e)
      ∙ sym (drop-drop (length (s.name ++ 0 ∷ [])) at t) ∙ ap (λ (bs : List ℕ). drop (length (s.name ++ 0 ∷ [])) bs) there ∙ drop_at (s.name ++ 0 ∷ []) (symbol_names ss) (length (s.name ++ 0 ∷ [])) refl in
      let rest = symbols_are ss (k + 1) (at + length s.name + 1) none.1 next
      (λ j d lt. ap (symbol_member linker t) (let e : k + 1 + j ≡ k + suc j = omega arith in e) ∙ member (suc j) d (omega arith)) in
      rw (name, here, rest) refl

  -- a table with its fields, and its names behind them
  pub record IsTable (ss : List Symbol) : Type 0 where
    pub place : 4 ≤ symbols_place linker t
    pub count : symbol_count linker t ≡ length ss
    pub names : drop (names_start linker t) t ≡ symbol_names ss
    pub inside : names_start linker t ≤ length t
    pub members : (j : ℕ) (d : Symbol) → j < length ss → symbol_member linker t j ≡ Some (slice_index offsets (get_or ss j d).member)

  fields_in : (ss : List Symbol) → IsTable ss → has_fields linker t ≡ true
  fields_in ss is =
      let place = is.place in
      let inside = is.inside in
      let one : nat_le 4 (length t) ≡ true = le-leb 4 (length t) (omega (arith, place, inside)) in
      let two : nat_le (symbols_place linker t) (length t) ≡ true = le-leb (symbols_place linker t) (length t) (omega (arith, inside)) in
      let three : nat_le (names_start linker t) (length t) ≡ true = le-leb (names_start linker t) (length t) inside in
      rw (one, two, three) refl

  pub table_read : (ss : List Symbol) → AllByRecursion (λ (s : Symbol). NoZero s.name) ss → IsTable ss → symbols linker t ≡ map (located offsets) ss
  table_read ss none is =
      let all = symbols_are ss 0 (names_start linker t) none is.names (λ j d lt. ap (symbol_member linker t) (let e : 0 + j ≡ j = omega arith in e) ∙ is.members j d lt) in
      rw (fields_in ss is) (ap (λ (n : ℕ). symbols_from linker t n 0 (names_start linker t)) is.count ∙ all)

  pub table_whole : (ss : List Symbol) → AllByRecursion (λ (s : Symbol). NoZero s.name) ss → IsTable ss → is_cut linker t ≡ false
  table_whole ss none is =
      let all = ap length (table_read ss none is) ∙ length-map ss (located offsets) ∙ sym is.count in
      let same : (length (symbols linker t) == symbol_count linker t) ≡ true = rw all (eq-eqb _ _ refl) in
      ap (λ (b : Bool). not b || not (length (symbols linker t) == symbol_count linker t)) (fields_in ss is) ∙ ap (λ (b : Bool). not true || not b) same

-- numbers at a place
byte_is : (v k : ℕ) → k < 4 → byte_of (big_bytes 4 v) (3 - k) ≡ digit v k
byte_is v zero lt = ap (λ (n : ℕ). n % 256) (let e : v ≡ v / 256 ^ 0 = omega arith in e)
byte_is v (suc zero) lt = refl
byte_is v (suc (suc zero)) lt = refl
byte_is v (suc (suc (suc zero))) lt = refl
byte_is v (suc (suc (suc (suc k)))) lt = absurd (omega (arith, lt))

pub big_read : (t : List ℕ) (at v : ℕ) → v < 2 ^ 32 → StandsAt t at (big_bytes 4 v) → big t at ≡ v
big_read t at v small there =
    num_of_own_digits (λ k. byte_of t (at + 3 - k)) 0 4 v small
    (λ k lt. ap (byte_of t) (let e : at + 3 - (0 + k) ≡ at + (3 - k) = omega (arith, lt) in e) ∙ stands_byte t at (big_bytes 4 v) (3 - k) there (omega (arith, lt)) ∙ byte_is v k lt)

pub four_read : (t : List ℕ) (at v : ℕ) → v < 2 ^ 32 → StandsAt t at (number_bytes (U32 v)) → num (byte_of t) at 4 ≡ v
four_read t at v small there =
    ap (λ (p : ℕ). num (byte_of t) p 4) (let e : at ≡ at + 0 = omega arith in e)
    ∙ number_read t at (U32 v ∷ []) 0 (U32 v) (small, tt) (subst (λ (bs : List ℕ). StandsAt t at bs) (sym (append-nil (number_bytes (U32 v)))) there) refl

pub two_read : (t : List ℕ) (at v : ℕ) → v < 2 ^ 16 → StandsAt t at (number_bytes (U16 v)) → num (byte_of t) at 2 ≡ v
two_read t at v small there =
    ap (λ (p : ℕ). num (byte_of t) p 2) (let e : at ≡ at + 0 = omega arith in e)
    ∙ number_read t at (U16 v ∷ []) 0 (U16 v) (small, tt) (subst (λ (bs : List ℕ). StandsAt t at bs) (sym (append-nil (number_bytes (U16 v)))) there) refl
