-- The entries of a block, entry by entry.
use Rattle.std.proofs.Common.{◌≡◌, ℕ, zero, suc, ◌+◌, ◌-◌, ◌*◌, ◌/◌, ◌<◌, ◌≤◌, List, [], ◌∷◌, ◌++◌, length, drop, get_or, Option, Some, None, refl, sym, ap, ◌∙◌, append_assoc, append-nil, arith}
use Rattle.std.specs.Prelude.{map, option_to_list}
use Rattle.std.specs.List.{filter_map, cons_option, range_with_len}
use Rattle.std.proofs.lemmas.List.{drop_more, drop_all, map-append}
use Rattle.std.proofs.Math.Seq.{drop-append_seam}
use Rattle.std.proofs.lemmas.List.Elements.{filter_map-append}
use Rattle.std.proofs.lemmas.List.FromFn.{length-map-range_with_len, get_or-map-range_with_len}
use Rattle.pe_view.specs.declared.fault.Fault.{Fault}
use Rattle.pe_view.specs.Faults.{Test, first_standing}
use Rattle.pe_view.specs.Number.{num, byte_of}
use Rattle.pe_view.specs.FirstStanding.{first-past, first-in}
use Rattle.pe_layout.specs.Image.{LaidOut, number_at, bytes_at}
use Rattle.pe_tables.specs.Fixups.{Block, Entry, entry_at, entry_of, entries_at, entries_of, fixup_of}
use Rattle.pe_tables.specs.FixupFaults.{entry_tests, entries_tests}
use Rattle.pe_tables.specs.declared.fixups.Fixup.{Fixup}

-- the rest of the list of a function's values, from an index on
pub drop-given : {X : Type 0} (f : ℕ → X) (n k : ℕ) → k < n → drop k (map f (range_with_len 0 n)) ≡ f k ∷ drop (k + 1) (map f (range_with_len 0 n))
drop-given f n k lt =
    let xs = map f (range_with_len 0 n) in
    let inside : k < length (map f (range_with_len 0 n)) = omega (arith, length-map-range_with_len f 0 n) in
    let here : get_or (map f (range_with_len 0 n)) k (f k) ≡ f k = get_or-map-range_with_len f 0 n k k (f k) lt (omega arith) in
    drop_more (map f (range_with_len 0 n)) k (f k) inside ∙ ap (λ (x : _). x ∷ drop (k + 1) (map f (range_with_len 0 n))) here

pub drop-given-end : {X : Type 0} (f : ℕ → X) (n k : ℕ) → n ≤ k → drop k (map f (range_with_len 0 n)) ≡ []
drop-given-end f n k le = drop_all k (map f (range_with_len 0 n)) (omega (arith, length-map-range_with_len f 0 n))

cons_option-list : {Y : Type 0} (o : Option Y) (ys : List Y) → cons_option o ys ≡ option_to_list o ++ ys
cons_option-list None ys = refl
cons_option-list (Some y) ys = refl

pub filter_map-cons : {X Y : Type 0} (f : X → Option Y) (x : X) (xs : List X) → filter_map f (x ∷ xs) ≡ option_to_list (f x) ++ filter_map f xs
filter_map-cons f x xs = cons_option-list (f x) (filter_map f xs)

module _ (i : LaidOut) (slots : List (ℕ × ℕ)) (f : ℕ → Entry) (n k : ℕ) (lt : k < n) (before : List Fixup) where
  -- an entry without a fault
  pub entries-past : first_standing (entry_tests i slots before (f k)) ≡ None
      → first_standing (entries_tests i slots before (drop k (map f (range_with_len 0 n)))) ≡ first_standing (entries_tests i slots (before ++ option_to_list (fixup_of (f k))) (drop (k + 1) (map f (range_with_len 0 n))))
  unfolding entries_tests
  entries-past none =
      ap (λ es. first_standing (entries_tests i slots before es)) (drop-given f n k lt)
      ∙ first-past (entry_tests i slots before (f k)) (entries_tests i slots (before ++ option_to_list (fixup_of (f k))) (drop (k + 1) (map f (range_with_len 0 n)))) none

  -- an entry with one
  pub entries-in : (y : Fault) → first_standing (entry_tests i slots before (f k)) ≡ Some y → first_standing (entries_tests i slots before (drop k (map f (range_with_len 0 n)))) ≡ Some y
  unfolding entries_tests
  entries-in y some =
      ap (λ es. first_standing (entries_tests i slots before es)) (drop-given f n k lt)
      ∙ first-in (entry_tests i slots before (f k)) (entries_tests i slots (before ++ option_to_list (fixup_of (f k))) (drop (k + 1) (map f (range_with_len 0 n)))) y some

  -- the fixups read and those left
  pub fixups-past : before ++ filter_map fixup_of (drop k (map f (range_with_len 0 n))) ≡ (before ++ option_to_list (fixup_of (f k))) ++ filter_map fixup_of (drop (k + 1) (map f (range_with_len 0 n)))
  fixups-past =
      ap (λ es. before ++ filter_map fixup_of es) (drop-given f n k lt)
      ∙ ap (λ fs. before ++ fs) (filter_map-cons fixup_of (f k) (drop (k + 1) (map f (range_with_len 0 n))))
      ∙ sym (append_assoc before (option_to_list (fixup_of (f k))) (filter_map fixup_of (drop (k + 1) (map f (range_with_len 0 n)))))

pub entries-end : (i : LaidOut) (slots : List (ℕ × ℕ)) (f : ℕ → Entry) (n k : ℕ) (before : List Fixup) → n ≤ k → first_standing (entries_tests i slots before (drop k (map f (range_with_len 0 n)))) ≡ None
unfolding entries_tests
entries-end i slots f n k before le = ap (λ es. first_standing (entries_tests i slots before es)) (drop-given-end f n k le)

pub fixups-end : (f : ℕ → Entry) (n k : ℕ) (before : List Fixup) → n ≤ k → before ++ filter_map fixup_of (drop k (map f (range_with_len 0 n))) ≡ before
fixups-end f n k before le = ap (λ es. before ++ filter_map fixup_of es) (drop-given-end f n k le) ∙ append-nil before

-- a number in bytes of an image that were read as a part
byte_of_part : (i : LaidOut) (rva n k : ℕ) (bytes : List ℕ) → bytes ≡ bytes_at i rva n → k < n → byte_of bytes k ≡ i.byte (rva + k)
byte_of_part i rva n k bytes is lt = ap (λ (bs : List ℕ). byte_of bs k) is ∙ get_or-map-range_with_len i.byte rva n k (rva + k) 0 lt refl

pub number_of_part : (i : LaidOut) (rva n : ℕ) (bytes : List ℕ) → bytes ≡ bytes_at i rva n → (width k : ℕ) → k + width ≤ n → num (byte_of bytes) k width ≡ number_at width i (rva + k)
number_of_part i rva n bytes is zero k le = refl
number_of_part i rva n bytes is (suc width) k le =
    let at : rva + (k + 1) ≡ rva + k + 1 = omega arith in
    let low = byte_of_part i rva n k bytes is (omega (arith, le)) in
    let rest : num (byte_of bytes) (k + 1) width ≡ num i.byte (rva + k + 1) width = number_of_part i rva n bytes is width (k + 1) (omega (arith, le)) ∙ ap (λ (r : ℕ). num i.byte r width) at in
    rw (low, rest) refl

-- entries in two parts
entries-split : (i : LaidOut) (slots : List (ℕ × ℕ)) (before : List Fixup) (xs ys : List Entry)
    → entries_tests i slots before (xs ++ ys) ≡ entries_tests i slots before xs ++ entries_tests i slots (before ++ filter_map fixup_of xs) ys
unfolding entries_tests
entries-split i slots before [] ys = ap (λ (fs : List Fixup). entries_tests i slots fs ys) (sym (append-nil before))
entries-split i slots before (x ∷ xs) ys =
    let more : List Fixup = before ++ option_to_list (fixup_of x) in
    let found : more ++ filter_map fixup_of xs ≡ before ++ filter_map fixup_of (x ∷ xs) =
    append_assoc before (option_to_list (fixup_of x)) (filter_map fixup_of xs) ∙ ap (λ (fs : List Fixup). before ++ fs) (sym (filter_map-cons fixup_of x xs)) in
    ap (λ (ts : List Test). entry_tests i slots before x ++ ts) (entries-split i slots more xs ys ∙ ap (λ (fs : List Fixup). entries_tests i slots more xs ++ entries_tests i slots fs ys) found)
    ∙ sym (append_assoc (entry_tests i slots before x) (entries_tests i slots more xs) (entries_tests i slots (before ++ filter_map fixup_of (x ∷ xs)) ys))

module _ (i : LaidOut) (slots : List (ℕ × ℕ)) (before : List Fixup) (xs ys : List Entry) where
  pub part-past : first_standing (entries_tests i slots before xs) ≡ None → first_standing (entries_tests i slots before (xs ++ ys)) ≡ first_standing (entries_tests i slots (before ++ filter_map fixup_of xs) ys)
  part-past none = ap first_standing (entries-split i slots before xs ys) ∙ first-past (entries_tests i slots before xs) (entries_tests i slots (before ++ filter_map fixup_of xs) ys) none

  pub part-in : (y : Fault) → first_standing (entries_tests i slots before xs) ≡ Some y → first_standing (entries_tests i slots before (xs ++ ys)) ≡ Some y
  part-in y some = ap first_standing (entries-split i slots before xs ys) ∙ first-in (entries_tests i slots before xs) (entries_tests i slots (before ++ filter_map fixup_of xs) ys) y some

  pub part-fixups : before ++ filter_map fixup_of (xs ++ ys) ≡ (before ++ filter_map fixup_of xs) ++ filter_map fixup_of ys
  part-fixups = ap (λ (fs : List Fixup). before ++ fs) (filter_map-append fixup_of xs ys) ∙ sym (append_assoc before (filter_map fixup_of xs) (filter_map fixup_of ys))

range-apart : (from m n : ℕ) → range_with_len from (m + n) ≡ range_with_len from m ++ range_with_len (from + m) n
range-apart from zero n = let a : zero + n ≡ n = omega arith in let b : from + zero ≡ from = omega arith in rw (a, b) refl
range-apart from (suc m) n =
    let a : suc m + n ≡ suc (m + n) = omega arith in
    let b : from + 1 + m ≡ from + suc m = omega arith in
    rw a (ap (λ (ks : List ℕ). from ∷ ks) (range-apart (from + 1) m n ∙ rw b refl))

-- a function's values from one number on are its values at later numbers
shifted_range : {X : Type 0} (f g : ℕ → X) (from m n : ℕ) → ((k : ℕ) → f (from + k) ≡ g (m + k)) → map f (range_with_len from n) ≡ map g (range_with_len m n)
shifted_range f g from m zero same = refl
shifted_range f g from m (suc n) same =
    let here : f from ≡ g m = ap f (omega arith) ∙ same 0 ∙ ap g (omega arith) in
    let later = shifted_range f g (from + 1) (m + 1) n (λ k. ap f (omega arith) ∙ same (suc k) ∙ ap g (omega arith)) in
    ap (λ (x : _). x ∷ map f (range_with_len (from + 1) n)) here ∙ ap (λ (xs : List _). g m ∷ xs) later

-- the entries of a block from index k on: some, and those after them
pub block-parts : (i : LaidOut) (b : Block) (k some : ℕ) → k + some ≤ (b.size - 8) / 2
    → drop k (entries_of i b) ≡ entries_at i b.page (b.rva + 8 + 2 * k) some ++ drop (k + some) (entries_of i b)
block-parts i b k some le =
    let f : ℕ → Entry = entry_at i b in
    let n : ℕ = (b.size - 8) / 2 in
    let left : ℕ = n - k - some in
    let parts : n ≡ k + (some + left) = omega arith in
    let nearer : n ≡ (k + some) + left = omega arith in
    let cut : map f (range_with_len 0 n) ≡ map f (range_with_len 0 k) ++ map f (range_with_len k (some + left)) = front_of f n k (some + left) parts in
    let later : map f (range_with_len 0 n) ≡ map f (range_with_len 0 (k + some)) ++ map f (range_with_len (k + some) left) = front_of f n (k + some) left nearer in
    let here : map f (range_with_len k some) ≡ entries_at i b.page (b.rva + 8 + 2 * k) some =
    shifted_range f (λ (j : ℕ). entry_of i b.page (b.rva + 8 + 2 * k + 2 * j)) k 0 some (λ j. let at : b.rva + 8 + 2 * (k + j) ≡ b.rva + 8 + 2 * k + 2 * (0 + j) = omega arith in ap (entry_of i b.page) at) in
    ap (λ (es : List Entry). drop k es) cut ∙ drop_front k (map f (range_with_len 0 k)) (map f (range_with_len k (some + left))) (length-map-range_with_len f 0 k)
    ∙ ap (map f) (range-apart k some left) ∙ map-append f (range_with_len k some) (range_with_len (k + some) left)
    ∙ ap (λ (es : List Entry). es ++ map f (range_with_len (k + some) left)) here
    ∙ ap (λ (es : List Entry). entries_at i b.page (b.rva + 8 + 2 * k) some ++ es)
    (sym (ap (λ (es : List Entry). drop (k + some) es) later ∙ drop_front (k + some) (map f (range_with_len 0 (k + some))) (map f (range_with_len (k + some) left)) (length-map-range_with_len f 0 (k + some))))
  where
    front_of : (f : ℕ → Entry) (n m left : ℕ) → n ≡ m + left → map f (range_with_len 0 n) ≡ map f (range_with_len 0 m) ++ map f (range_with_len m left)
    front_of f n m left e = ap (λ (j : ℕ). map f (range_with_len 0 j)) e ∙ ap (map f) (range-apart 0 m left) ∙ map-append f (range_with_len 0 m) (range_with_len (0 + m) left) ∙ (let at : 0 + m ≡ m = omega arith in rw at refl)

    drop_front : {X : Type 0} (n : ℕ) (xs ys : List X) → length xs ≡ n → drop n (xs ++ ys) ≡ ys
    drop_front n xs ys e = ap (λ (m : ℕ). drop m (xs ++ ys)) (sym e) ∙ drop-append_seam xs ys
