-- The bytes of a word, one after the other.
use Rattle.std.proofs.Common.{◌≡◌, ◌∙◌, ◌≤◌, ◌<◌, ◌+◌, ◌-◌, ◌/◌, ◌%◌, ℕ, zero, suc, Bool, true, false, List, [], ◌∷◌, ◌++◌, length, drop, get_or, map, slice_index_or, ap, refl, sym, arith, append_assoc, rules}
use Rattle.std.specs.Char.{encode_utf8}
use Rattle.std.specs.List.{All, list_any, range_with_len}
use Rattle.std.proofs.lemmas.List.Elements.{All-cons, All-head, All-tail}
use Rattle.std.proofs.lemmas.List.FromFn.{get_or-map-range_with_len}
use Rattle.petool.specs.WordBytes.{marked_byte, word_bytes, Spells}

-- a word that begins with a mark
pub begins_marked : (bs : List ℕ) (d : ℕ) → 3 ≤ length bs → slice_index_or bs 0 d ≡ 0
    → word_bytes bs ≡ marked_byte (slice_index_or bs 1 d) (slice_index_or bs 2 d) ∷ word_bytes (drop 3 bs)
unfolding word_bytes
begins_marked [] d long mark = absurd (omega (arith, long))
begins_marked (a ∷ []) d long mark = absurd (omega (arith, long))
begins_marked (a ∷ b ∷ []) d long mark = absurd (omega (arith, long))
begins_marked (zero ∷ b ∷ c ∷ rest) d long mark = refl
begins_marked (suc a ∷ b ∷ c ∷ rest) d long mark = absurd (omega (arith, mark))

-- a word that begins with a byte of UTF-8
pub begins_other : (bs : List ℕ) (d : ℕ) → 0 < length bs → 0 < slice_index_or bs 0 d → word_bytes bs ≡ slice_index_or bs 0 d ∷ word_bytes (drop 1 bs)
unfolding word_bytes
begins_other [] d some other = absurd (omega (arith, some))
begins_other (zero ∷ bs) d some other = absurd (omega (arith, other))
begins_other (suc b ∷ []) d some other = refl
begins_other (suc b ∷ c ∷ []) d some other = refl
begins_other (suc b ∷ c ∷ e ∷ rest) d some other = refl

-- a word of fewer bytes than a mark and its character have
pub begins_short : (bs : List ℕ) (d : ℕ) → 0 < length bs → length bs < 3 → word_bytes bs ≡ slice_index_or bs 0 d ∷ word_bytes (drop 1 bs)
unfolding word_bytes
begins_short [] d some short = absurd (omega (arith, some))
begins_short (a ∷ []) d some short = refl
begins_short (a ∷ b ∷ []) d some short = refl
begins_short (a ∷ b ∷ c ∷ rest) d some short = absurd (omega (arith, short))

-- a string without a zero byte is its word
pub no_mark : (is_zero : ℕ → Bool) → is_zero 0 ≡ true → (bs : List ℕ) → list_any is_zero bs ≡ false → word_bytes bs ≡ bs
unfolding word_bytes
no_mark is_zero at_zero [] none = refl
no_mark is_zero at_zero (zero ∷ bs) none = absurd (search rules)
no_mark is_zero at_zero (suc b ∷ bs) none = begins_other (suc b ∷ bs) 0 (omega arith) (omega arith) ∙ ap (λ (l : List ℕ). suc b ∷ l) (no_mark is_zero at_zero bs (search rules))

-- bytes that are not zero are of the word
before : (text more : List ℕ) → All (λ b. 0 < b) text → word_bytes (text ++ more) ≡ text ++ word_bytes more
before [] more positive = refl
before (b ∷ text) more positive =
    let first = All-head (λ (x : ℕ). 0 < x) b text positive in
    begins_other (b ∷ (text ++ more)) 0 (omega arith) first ∙ ap (λ (l : List ℕ). b ∷ l) (before text more (All-tail (λ (x : ℕ). 0 < x) b text positive))

pub spells_text : (string done text : List ℕ) → All (λ b. 0 < b) text → Spells string done → Spells (string ++ text) (done ++ text)
spells_text string done text positive spells more =
    ap word_bytes (append_assoc string text more) ∙ spells (text ++ more) ∙ ap (λ (l : List ℕ). done ++ l) (before text more positive) ∙ sym (append_assoc done text (word_bytes more))

-- the two bytes of a character from U+0080 to U+00FF
character : (b : ℕ) → 0x80 ≤ b → b < 0x100 → encode_utf8 b ≡ (0xc0 + b / 64) ∷ (0x80 + b % 64) ∷ []
unfolding encode_utf8
character b low high =
    let i = b - 0x80 in
    let left : get_or (map encode_utf8 (range_with_len 0x80 128)) i [] ≡ encode_utf8 b = get_or-map-range_with_len encode_utf8 0x80 128 i b [] (omega (arith, low, high)) (omega (arith, low)) in
    let right : get_or (map (λ (c : ℕ). (0xc0 + c / 64) ∷ (0x80 + c % 64) ∷ []) (range_with_len 0x80 128)) i [] ≡ (0xc0 + b / 64) ∷ (0x80 + b % 64) ∷ []
    = get_or-map-range_with_len (λ (c : ℕ). (0xc0 + c / 64) ∷ (0x80 + c % 64) ∷ []) 0x80 128 i b [] (omega (arith, low, high)) (omega (arith, low)) in
    sym left ∙ right

-- its number
number : (b : ℕ) → 0x80 ≤ b → b < 0x100 → marked_byte (0xc0 + b / 64) (0x80 + b % 64) ≡ b
number b low high =
    let i = b - 0x80 in
    let left : get_or (map (λ (c : ℕ). marked_byte (0xc0 + c / 64) (0x80 + c % 64)) (range_with_len 0x80 128)) i 0 ≡ marked_byte (0xc0 + b / 64) (0x80 + b % 64)
    = get_or-map-range_with_len (λ (c : ℕ). marked_byte (0xc0 + c / 64) (0x80 + c % 64)) 0x80 128 i b 0 (omega (arith, low, high)) (omega (arith, low)) in
    let right : get_or (map (λ (c : ℕ). c) (range_with_len 0x80 128)) i 0 ≡ b = get_or-map-range_with_len (λ (c : ℕ). c) 0x80 128 i b 0 (omega (arith, low, high)) (omega (arith, low)) in
    sym left ∙ right

pub spells_marked : (string done : List ℕ) (b : ℕ) → 0x80 ≤ b → b < 0x100 → Spells string done → Spells ((string ++ 0 ∷ []) ++ encode_utf8 b) (done ++ b ∷ [])
unfolding word_bytes
spells_marked string done b low high spells more =
    let lead = 0xc0 + b / 64 in
    let trail = 0x80 + b % 64 in
    let regrouped : ((string ++ 0 ∷ []) ++ lead ∷ trail ∷ []) ++ more ≡ string ++ 0 ∷ lead ∷ trail ∷ more
    = append_assoc (string ++ 0 ∷ []) (lead ∷ trail ∷ []) more ∙ append_assoc string (0 ∷ []) (lead ∷ trail ∷ more) in
    let marked : word_bytes (0 ∷ lead ∷ trail ∷ more) ≡ b ∷ word_bytes more = ap (λ (x : ℕ). x ∷ word_bytes more) (number b low high) in
    ap (λ (e : List ℕ). word_bytes (((string ++ 0 ∷ []) ++ e) ++ more)) (character b low high)
    ∙ ap word_bytes regrouped ∙ spells (0 ∷ lead ∷ trail ∷ more) ∙ ap (λ (l : List ℕ). done ++ l) marked ∙ sym (append_assoc done (b ∷ []) (word_bytes more))

-- one byte that is not zero
pub one_byte : (b : ℕ) → 0 < b → All (λ x. 0 < x) (b ∷ [])
one_byte b positive zero d inside = positive
one_byte b positive (suc k) d inside = absurd (omega (arith, inside))

-- what holds of all bytes of two strings holds of those of each
pub all_first : (xs ys : List ℕ) → All (λ b. 0 < b) (xs ++ ys) → All (λ b. 0 < b) xs
all_first [] ys all = λ k d inside. absurd (omega (arith, inside))
all_first (x ∷ xs) ys all = All-cons (λ (b : ℕ). 0 < b) x xs (All-head (λ (b : ℕ). 0 < b) x (xs ++ ys) all) (all_first xs ys (All-tail (λ (b : ℕ). 0 < b) x (xs ++ ys) all))

pub all_second : (xs ys : List ℕ) → All (λ b. 0 < b) (xs ++ ys) → All (λ b. 0 < b) ys
all_second [] ys all = all
all_second (x ∷ xs) ys all = all_second xs ys (All-tail (λ (b : ℕ). 0 < b) x (xs ++ ys) all)

pub no_bytes : (bs : List ℕ) → length bs ≡ 0 → bs ≡ []
no_bytes [] none = refl
no_bytes (b ∷ bs) none = absurd (omega (arith, none))
