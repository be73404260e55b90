-- The rows of a list, written one after the other.
use Rattle.std.proofs.Common.{◌≡◌, ◌∙◌, ◌==◌, ℕ, zero, suc, ◌+◌, ◌*◌, ◌<◌, ◌≤◌, Bool, true, false, List, [], ◌∷◌, ◌++◌, length, take, drop, map, get_or, add-one, Some, codes, refl, sym, ap, arith, take-append-drop, append_assoc}
use Rattle.std.specs.Prelude.{slice_get}
use Rattle.std.proofs.lemmas.Bool.{ne_eqb, lt-ltb}
use Rattle.coff_read.specs.Auxiliary.{AuxRecord}
use Rattle.coff_read.specs.FormAuxiliary.{aux_of, aux_record}
use Rattle.coff_read.specs.FormReading.{section_in}
use Rattle.coff_read.specs.FormRecords.{aux_records}
use Rattle.coff_read.specs.Forms.{Form, symbol_len}
use Rattle.coff_read.specs.Headers.{section_header}
use Rattle.coff_read.specs.Records.{Section, Symbol}
use Rattle.pe_head.specs.declared.section.SectionHeader.{SectionHeader}
use Rattle.pe_view.specs.Number.{part}
use Rattle.pe_json.specs.JsonText.{member, numbered_rows}
use Rattle.pe_json.specs.Listed.{is_nil, items_text, more}
use Rattle.pe_json.specs.ObjectLine.{aux_list, aux_list_members}
use Rattle.pe_json.proofs.Objects.{items_more}

take_suc : (rows : List (List ℕ)) (i : ℕ) (row : List ℕ) → i < length rows → take (suc i) rows ≡ take i rows ++ get_or rows i row ∷ []
take_suc [] i row below = absurd (omega arith)
take_suc (r ∷ rows) zero row below = refl
take_suc (r ∷ rows) (suc i) row below = ap (λ (xs : List (List ℕ)). r ∷ xs) (take_suc rows i row (omega arith))

nothing_taken : (rows : List (List ℕ)) (i : ℕ) → i < length rows → is_nil (take i rows) ≡ (i == 0)
nothing_taken [] i below = absurd (omega arith)
nothing_taken (r ∷ rows) zero below = refl
nothing_taken (r ∷ rows) (suc i) below = sym (ne_eqb (suc i) 0 (λ e. absurd (omega (arith, e))))

-- one more row
pub row_next : (rows : List (List ℕ)) (i : ℕ) (row : List ℕ) → i < length rows → get_or rows i row ≡ row
    → items_text true (take (i + 1) rows) ≡ items_text true (take i rows) ++ items_text (i == 0) (row ∷ [])
row_next rows i row below is =
    ap (items_text true) (ap (λ (n : ℕ). take n rows) (add-one i) ∙ take_suc rows i row below ∙ ap (λ (r : List ℕ). take i rows ++ r ∷ []) is)
    ∙ items_more true (take i rows) (row ∷ [])
    ∙ ap (λ (first : Bool). items_text true (take i rows) ++ items_text first (row ∷ [])) (nothing_taken rows i below)

-- a row that is there, whatever stands for one that is not
pub row_at : (rows : List (List ℕ)) (i : ℕ) (d : List ℕ) → i < length rows → get_or rows i d ≡ get_or rows i []
row_at [] i d below = absurd (omega arith)
row_at (r ∷ rows) zero d below = refl
row_at (r ∷ rows) (suc i) d below = row_at rows i d (omega arith)

-- the rows that are not written yet
pub rows_rest : (rows : List (List ℕ)) (i : ℕ) → items_text true (take i rows) ++ items_text (is_nil (take i rows)) (drop i rows) ≡ items_text true rows
rows_rest rows i = sym (items_more true (take i rows) (drop i rows)) ∙ ap (items_text true) (take-append-drop i rows)

-- all of them
pub rows_taken : (rows : List (List ℕ)) (i : ℕ) → length rows ≤ i → take i rows ≡ rows
rows_taken [] zero past = refl
rows_taken [] (suc i) past = refl
rows_taken (r ∷ rows) zero past = absurd (omega arith)
rows_taken (r ∷ rows) (suc i) past = ap (λ (xs : List (List ℕ)). r ∷ xs) (rows_taken rows i (omega arith))

-- the row of an item that was found
pub mapped_at : {X : Type 0} (row : X → List ℕ) (xs : List X) (i : ℕ) (x : X) (d : List ℕ) → Some x ≡ slice_get xs i → get_or (map row xs) i d ≡ row x
mapped_at row [] i x d is = absurd cc
mapped_at row (y ∷ xs) zero x d is = ap row (sym (some_is x y is))
  where
    some_is : {X : Type 0} (a b : X) → Some a ≡ Some b → a ≡ b
    some_is a b e = cc
mapped_at row (y ∷ xs) (suc i) x d is = mapped_at row xs i x d is

-- the rows of what comes one by one: one more, none that is left, and that the next is not the first
pub row_more : {X : Type 0} (row : X → List ℕ) (written : List (List ℕ)) (x : X) (now left : List X) (all : List (List ℕ)) → now ≡ x ∷ left → written ++ map row now ≡ all
    → (written ++ row x ∷ []) ++ map row left ≡ all
row_more {X = X} row written x now left all is old = append_assoc written (row x ∷ []) (map row left) ∙ ap (λ (xs : List X). written ++ map row xs) (sym is) ∙ old

pub not_first : (written : List (List ℕ)) (row : List ℕ) → false ≡ is_nil (written ++ row ∷ [])
not_first [] row = refl
not_first (r ∷ written) row = refl

-- the auxiliary record that was found
pub record_told : (big : Form) (s : Symbol) (k : ℕ) (aux : AuxRecord) → k < aux_records big s → Some aux ≡ aux_record big s k
    → aux ≡ aux_of big s (part s.aux (symbol_len big * k) (symbol_len big))
record_told big s k aux below is =
    let e : Some aux ≡ Some (aux_of big s (part s.aux (symbol_len big * k) (symbol_len big))) = rw (lt-ltb k (aux_records big s) below) at is in
    cc

-- the section that was found, with its header
pub section_at : (big : Form) (row : ℕ → SectionHeader × Section → List ℕ) (file : List ℕ) (starts : List ℕ) (n i : ℕ) (header : SectionHeader) (section : Section) (d : List ℕ)
    → Some header ≡ slice_get (map (section_header file) starts) i → Some section ≡ slice_get (map (section_in big file) starts) i
    → get_or (numbered_rows row n (map (λ h. (section_header file h, section_in big file h)) starts)) i d ≡ row (n + i) (header, section)
section_at big row file [] n i header section d has found = absurd cc
section_at big row file (h ∷ starts) n zero header section d has found = here (section_header file h) (section_in big file h) header section has found
  where
    here : (a : SectionHeader) (b : Section) (x : SectionHeader) (y : Section) → Some x ≡ Some a → Some y ≡ Some b → row n (a, b) ≡ row (n + 0) (x, y)
    here a b x y e f =
        let p : x ≡ a = cc in
        let q : y ≡ b = cc in
        let none : n ≡ n + 0 = omega arith in
        λ i. row (none i) (sym p i, sym q i)
section_at big row file (h ∷ starts) n (suc i) header section d has found =
    section_at big row file starts (n + 1) i header section d has found
    ∙ ap (λ (k : ℕ). row k (header, section)) (omega arith)

pub as_many : (big : Form) (row : ℕ → SectionHeader × Section → List ℕ) (file : List ℕ) (starts : List ℕ) (n : ℕ)
    → length (numbered_rows row n (map (λ h. (section_header file h, section_in big file h)) starts)) ≡ length (map (section_in big file) starts)
as_many big row file [] n = refl
as_many big row file (h ∷ starts) n = ap suc (as_many big row file starts (n + 1))

-- a symbol with auxiliary records, and one without
pub no_records : (big : Form) (n index : ℕ) (s : Symbol) → n ≡ 0 → more (aux_list_members big n index s) ≡ []
unfolding more
no_records big zero index s none = refl
no_records big (suc n) index s none = absurd (omega (arith, none))

pub some_records : (big : Form) (n index : ℕ) (s : Symbol) → (n ≡ 0 → ⊥) → more (aux_list_members big n index s) ≡ more (member (codes "auxiliary_records") (aux_list big index s) ∷ [])
some_records big zero index s some = absurd (some refl)
some_records big (suc n) index s some = refl

-- rows of items that are taken one by one
pub mapped-next : {X : Type 0} (row : X → List ℕ) (item : X) (left more : List X) (written all : List (List ℕ)) → left ≡ item ∷ more → written ++ map row left ≡ all
    → (written ++ row item ∷ []) ++ map row more ≡ all
mapped-next row item left more written all is e = append_assoc written (row item ∷ []) (map row more) ∙ ap (λ (items : List _). written ++ map row items) (sym is) ∙ e

pub not_nil : (ts : List (List ℕ)) (t : List ℕ) → is_nil (ts ++ t ∷ []) ≡ false
not_nil [] t = refl
not_nil (u ∷ ts) t = refl
