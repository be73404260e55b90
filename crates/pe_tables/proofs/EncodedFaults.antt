-- The faults that an encoded table may have as a whole directory.
use Rattle.std.proofs.Common.{◌≡◌, ◌⊎◌, ℕ, zero, suc, ◌+◌, ◌-◌, ◌*◌, ◌/◌, ◌%◌, ◌^◌, ◌<◌, ◌≤◌, Bool, true, false, cond, List, [], ◌∷◌, ◌++◌, length, Option, Some, None, refl, sym, ap, subst, ◌∙◌, length-append, append_assoc, arith, inl, inr}
use Rattle.std.specs.Prelude.{map, not, replicate, All, ◌==◌, nat_lt, option_to_list}
use Rattle.std.specs.List.{flat_map, range_with_len}
use Rattle.std.proofs.lemmas.Bool.{le-ltb}
use Rattle.std.proofs.lemmas.Option.{same_Some}
use Rattle.pe_view.specs.declared.fault.Fault.{Fault}
use Rattle.pe_view.specs.Faults.{Test, first_standing}
use Rattle.pe_view.specs.Number.{little}
use Rattle.pe_head.specs.declared.directory.Directory.{Directory}
use Rattle.pe_layout.specs.Image.{LaidOut, number_at}
use Rattle.pe_tables.specs.Fixups.{Block, Entry, block_at, blocks_from, blocks_of, entry_of, entries_of, fixup_of, fixups_in, is_known}
use Rattle.pe_tables.specs.FixupFaults.{field_tests, entry_tests, entries_tests, is_bad_size, blocks_tests, fixup_tests_at}
use Rattle.pe_tables.specs.Encoded.{Page, pages_of, type_of, entry_bytes, block_size, block_bytes, encoded}
use Rattle.pe_tables.specs.Standing.{StandsAt, IsFieldFault}
use Rattle.pe_tables.specs.declared.fixups.Fixup.{Fixup}
use Rattle.pe_tables.specs.declared.fixups.FixupKind.{FixupKind}
use Rattle.pe_tables.specs.declared.fixups.FixupKind.TheVariants.{Bits32, Bits64, High, Low}
use Rattle.pe_tables.proofs.Blocks.{blocks-step}
use Rattle.pe_tables.proofs.Decoded.{stands-front, stands-back, byte_at, reads_2, type_small, IsBlockOf, block_read, length-block, goes_on, AllPages, all-pages}

-- of these tests only those of a field or of the whole directory hold
abbrev Spares : List Test → Type 0
Spares [] = Unit {0}
Spares (t ∷ ts) = ((t.stands ≡ false) ⊎ IsFieldFault t.fault.number) × Spares ts

spares-append : (xs ys : List Test) → Spares xs → Spares ys → Spares (xs ++ ys)
spares-append [] ys s r = r
spares-append (x ∷ xs) ys s r = (s.0, spares-append xs ys s.1 r)

first_of : (t : Test) (rest : Option Fault) (y : Fault) → (rest ≡ Some y → IsFieldFault y.number) → (t.stands ≡ false) ⊎ IsFieldFault t.fault.number → (b : Bool) → t.stands ≡ b → cond b (Some t.fault) rest ≡ Some y → IsFieldFault y.number
first_of t rest y later (inl passes) true stands first = let no = sym stands ∙ passes in absurd cc
first_of t rest y later (inr its) true stands first = subst (λ (f : Fault). IsFieldFault f.number) (same_Some _ _ first) its
first_of t rest y later s false stands first = later first

spares-first : (tests : List Test) (y : Fault) → Spares tests → first_standing tests ≡ Some y → IsFieldFault y.number
spares-first [] y s first = absurd cc
spares-first (t ∷ tests) y s first = first_of t (first_standing tests) y (spares-first tests y s.1) s.0 t.stands refl first

field-spares : (i : LaidOut) (slots : List (ℕ × ℕ)) (before : List Fixup) (o : Option Fixup) → Spares (field_tests i slots before o)
field-spares i slots before None = tt
field-spares i slots before (Some f) = (inr (inr (inl refl)), (inr (inr (inr (inl refl))), (inr (inr (inr (inr refl))), tt)))

-- entries of known types
abbrev Known : List Entry → Type 0
Known [] = Unit {0}
Known (e ∷ es) = (is_known e.kind ≡ true) × Known es

entries-spare : (i : LaidOut) (slots : List (ℕ × ℕ)) (before : List Fixup) (es : List Entry) → Known es → Spares (entries_tests i slots before es)
unfolding entries_tests
entries-spare i slots before [] known = tt
entries-spare i slots before (e ∷ es) known =
    spares-append (entry_tests i slots before e) (entries_tests i slots (before ++ option_to_list (fixup_of e)) es)
    (inl (ap not known.0), field-spares i slots before (fixup_of e))
    (entries-spare i slots (before ++ option_to_list (fixup_of e)) es known.1)

pub type_known : (kind : FixupKind) → is_known (type_of kind) ≡ true
type_known High = refl
type_known Low = refl
type_known Bits32 = refl
type_known Bits64 = refl

entry_known : (i : LaidOut) (rva : ℕ) (f : Fixup) → StandsAt i rva (entry_bytes f) → is_known (number_at 2 i rva / 4096) ≡ true
entry_known i rva f stands =
    let small = type_small f.kind in
    let v : ℕ = 4096 * type_of f.kind + f.field % 4096 in
    let read : number_at 2 i rva ≡ v = reads_2 i rva v (omega arith) stands in
    let kind : number_at 2 i rva / 4096 ≡ type_of f.kind = omega arith in
    ap is_known kind ∙ type_known f.kind

padding_known : (i : LaidOut) (rva : ℕ) → StandsAt i rva (0 ∷ 0 ∷ []) → is_known (number_at 2 i rva / 4096) ≡ true
padding_known i rva stands =
    let b0 : i.byte rva ≡ 0 = byte_at i rva rva 0 (0 ∷ 0 ∷ []) stands (omega arith) (omega arith) in
    let b1 : i.byte (rva + 1) ≡ 0 = byte_at i rva (rva + 1) 1 (0 ∷ 0 ∷ []) stands (omega arith) (omega arith) in
    rw (b0, b1) refl

-- the entries of a page from index k on, and at most one that fills the block up
entries_known : (i : LaidOut) (page rva k m : ℕ) (fs : List Fixup) → m < 2 → StandsAt i (rva + 2 * k) (flat_map entry_bytes fs ++ replicate (2 * m) 0)
    → Known (map (λ j. entry_of i page (rva + 2 * j)) (range_with_len k (length fs + m)))
entries_known i page rva k zero [] lt stands = tt
entries_known i page rva k (suc zero) [] lt stands = (padding_known i (rva + 2 * k) stands, tt)
entries_known i page rva k (suc (suc m)) [] lt stands = absurd (omega arith)
entries_known i page rva k m (f ∷ fs) lt stands =
    let rest : List ℕ = flat_map entry_bytes fs ++ replicate (2 * m) 0 in
    let joined : StandsAt i (rva + 2 * k) (entry_bytes f ++ rest) = subst (StandsAt i (rva + 2 * k)) (append_assoc (entry_bytes f) (flat_map entry_bytes fs) (replicate (2 * m) 0)) stands in
    let at : rva + 2 * k + 2 ≡ rva + 2 * (k + 1) = omega arith in
    let later : StandsAt i (rva + 2 * (k + 1)) rest = subst (λ (n : ℕ). StandsAt i n rest) at (stands-back i (rva + 2 * k) (entry_bytes f) rest joined) in
    let count : suc (length fs + m) ≡ suc (length fs) + m = omega arith in
    subst (λ (n : ℕ). Known (map (λ j. entry_of i page (rva + 2 * j)) (range_with_len k n))) count
    (entry_known i (rva + 2 * k) f (stands-front i (rva + 2 * k) (entry_bytes f) rest joined), entries_known i page rva (k + 1) m fs lt later)

block_known : (i : LaidOut) (rva : ℕ) (p : Page) → StandsAt i rva (block_bytes p) → (block_at i rva).size ≡ block_size (length p.fixups) → Known (entries_of i (block_at i rva))
block_known i rva p stands size =
    let n : ℕ = length p.fixups in
    let entries : List ℕ = flat_map entry_bytes p.fixups ++ replicate (2 * (n % 2)) 0 in
    let tail : List ℕ = little 4 (block_size n) ++ entries in
    let after : StandsAt i (rva + 4) tail = stands-back i rva (little 4 (4096 * p.page)) tail stands in
    let last : StandsAt i (rva + 4 + 4) entries = stands-back i (rva + 4) (little 4 (block_size n)) entries after in
    let at : rva + 4 + 4 ≡ rva + 8 + 2 * 0 = omega arith in
    let count : n + n % 2 ≡ ((block_at i rva).size - 8) / 2 = omega arith in
    subst (λ (m : ℕ). Known (map (λ j. entry_of i (block_at i rva).page (rva + 8 + 2 * j)) (range_with_len 0 m))) count
    (entries_known i (block_at i rva).page (rva + 8) 0 (n % 2) p.fixups (omega arith) (subst (λ (x : ℕ). StandsAt i x entries) at last))

even : (n : ℕ) → ((8 + 2 * n) % 2 == 1) ≡ false
even n = let e : (8 + 2 * n) % 2 ≡ 0 = omega arith in rw e refl

good_size : (end rva n : ℕ) → rva + block_size n ≤ end → is_bad_size end rva (block_size n) ≡ false
good_size end rva n le =
    let odd : (block_size n % 2 == 1) ≡ false = even (n + n % 2) in
    let small : nat_lt (block_size n) 8 ≡ false = le-ltb _ _ (omega arith) in
    let past : nat_lt end (rva + block_size n) ≡ false = le-ltb _ _ le in
    rw (odd, small, past) refl

chain-spares : (i : LaidOut) (slots : List (ℕ × ℕ)) (end rva : ℕ) (before : List Fixup) (ps : List Page) → StandsAt i rva (flat_map block_bytes ps) → end ≡ rva + length (flat_map block_bytes ps)
    → length (flat_map block_bytes ps) < 2 ^ 32 → AllPages ps → Spares (blocks_tests i slots end before (blocks_from (end - rva) i end rva))
unfolding blocks_tests
chain-spares i slots end rva before [] stands is small all =
    let none : end - rva ≡ 0 = omega arith in
    subst (λ (n : ℕ). Spares (blocks_tests i slots end before (blocks_from n i end rva))) (sym none) tt
chain-spares i slots end rva before (p ∷ ps) stands is small all =
    let rest : List ℕ = flat_map block_bytes ps in
    let total : length (block_bytes p ++ rest) ≡ length (block_bytes p) + length rest = length-append (block_bytes p) rest in
    let len : length (block_bytes p) ≡ block_size (length p.fixups) = length-block p in
    let own : StandsAt i rva (block_bytes p) = stands-front i rva (block_bytes p) rest stands in
    let b : IsBlockOf i rva p = block_read i rva p own all.0 (omega arith) all.1 in
    let size : (block_at i rva).size ≡ length (block_bytes p) = b.size_is ∙ sym len in
    let goes = goes_on i end rva (length (block_bytes p)) (omega arith) size (omega arith) in
    let later : StandsAt i (rva + (block_at i rva).size) rest = subst (λ (n : ℕ). StandsAt i (rva + n) rest) (sym size) (stands-back i rva (block_bytes p) rest stands) in
    let fits : rva + block_size (length p.fixups) ≤ end = omega arith in
    let sized : is_bad_size end rva (block_at i rva).size ≡ false = ap (is_bad_size end rva) b.size_is ∙ good_size end rva (length p.fixups) fits in
    let left = blocks_from (end - (rva + (block_at i rva).size)) i end (rva + (block_at i rva).size) in
    subst (λ (bs : List Block). Spares (blocks_tests i slots end before bs)) (sym (blocks-step i end rva goes)) (
      inl sized,
      spares-append (entries_tests i slots before (entries_of i (block_at i rva))) (blocks_tests i slots end (before ++ fixups_in i (block_at i rva)) left)
          (entries-spare i slots before (entries_of i (block_at i rva)) (block_known i rva p own b.size_is))
          (chain-spares i slots end (rva + (block_at i rva).size) (before ++ fixups_in i (block_at i rva)) ps later (omega arith) (omega arith) all.2),
    )

pub table-spares : (i : LaidOut) (d : Directory) (slots : List (ℕ × ℕ)) (fs : List Fixup) (y : Fault) → All (λ (f : Fixup). f.field < 2 ^ 32) fs → StandsAt i d.rva (encoded fs) → d.size ≡ length (encoded fs) → d.size < 2 ^ 32
    → first_standing (fixup_tests_at i slots (Some d)) ≡ Some y → IsFieldFault y.number
table-spares i d slots fs y low stands size small first =
    let fuel : d.rva + d.size - d.rva ≡ d.size = omega arith in
    let blocks : Spares (blocks_tests i slots (d.rva + d.size) [] (blocks_of i d)) =
    subst (λ (n : ℕ). Spares (blocks_tests i slots (d.rva + d.size) [] (blocks_from n i (d.rva + d.size) d.rva))) fuel
    (chain-spares i slots (d.rva + d.size) d.rva [] (pages_of fs) stands (omega arith) (omega arith) (all-pages fs low)) in
    spares-first (fixup_tests_at i slots (Some d)) y (inr (inl refl), blocks) first
