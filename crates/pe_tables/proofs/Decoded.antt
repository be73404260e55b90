-- The blocks of an encoded table, read back.
use Rattle.std.proofs.Common.{◌≡◌, ℕ, zero, suc, ◌+◌, ◌-◌, ◌*◌, ◌/◌, ◌%◌, ◌^◌, ◌<◌, ◌≤◌, true, false, List, [], ◌∷◌, ◌++◌, length, get_or, Option, Some, None, refl, sym, ap, subst, ◌∙◌, length-append, append_assoc, lit<, arith, inl, inr}
use Rattle.std.specs.Prelude.{map, replicate, All, ◌==◌, nat_lt}
use Rattle.std.specs.List.{flat_map, filter_map, cons_option, range_with_len}
use Rattle.std.proofs.lemmas.Bool.{lt-ltb, le-ltb, eqb-true, cases_Bool}
use Rattle.std.proofs.lemmas.List.Elements.{All-head, All-tail}
use Rattle.std.proofs.Math.ListN.{get_or-append}
use Rattle.pe_tables.proofs.Blocks.{blocks-end, blocks-step, not_equal_zero}
use Rattle.pe_tables.proofs.FixupPlaces.{type_kind}
use Rattle.std.proofs.Math.Seq.{get_or-append_right}
use Rattle.pe_layout.specs.Image.{LaidOut, number_at}
use Rattle.pe_tables.specs.Fixups.{Block, Entry, block_at, blocks_from, ends_table, entry_of, fixup_of, fixup_by, fixups_at, fixups_in, kind_of}
use Rattle.pe_head.specs.declared.directory.Directory.{Directory}
use Rattle.pe_view.specs.Number.{little}
use Rattle.pe_tables.specs.Encoded.{Page, page_of, before_pages, pages_of, type_of, entry_bytes, block_size, block_bytes, encoded}
use Rattle.pe_tables.specs.Standing.{StandsAt, view}
use Rattle.pe_tables.specs.declared.fixups.Fixup.{Fixup}
use Rattle.pe_tables.specs.declared.fixups.FixupKind.{FixupKind}
use Rattle.pe_tables.specs.declared.fixups.FixupKind.TheVariants.{Bits32, Bits64, High, Low}

pub stands-front : (i : LaidOut) (rva : ℕ) (xs ys : List ℕ) → StandsAt i rva (xs ++ ys) → StandsAt i rva xs
stands-front i rva xs ys stands = λ k lt. stands k (omega (arith, length-append xs ys)) ∙ get_or-append xs ys 0 k lt

pub stands-back : (i : LaidOut) (rva : ℕ) (xs ys : List ℕ) → StandsAt i rva (xs ++ ys) → StandsAt i (rva + length xs) ys
stands-back i rva xs ys stands = λ k lt.
    let at : rva + (length xs + k) ≡ rva + length xs + k = omega arith in
    let past : length xs + k - length xs ≡ k = omega arith in
    ap i.byte (sym at) ∙ stands (length xs + k) (omega (arith, length-append xs ys)) ∙ get_or-append_right xs ys (length xs + k) 0 (omega arith) ∙ ap (λ (n : ℕ). get_or ys n 0) past

pub byte_at : (i : LaidOut) (rva at k : ℕ) (bytes : List ℕ) → StandsAt i rva bytes → k < length bytes → at ≡ rva + k → i.byte at ≡ get_or bytes k 0
byte_at i rva at k bytes stands lt e = ap i.byte e ∙ stands k lt

-- a number of 2 or of 4 bytes, read back
pub reads_2 : (i : LaidOut) (rva v : ℕ) → v < 65536 → StandsAt i rva (little 2 v) → number_at 2 i rva ≡ v
reads_2 i rva v lt stands =
    let b0 : i.byte rva ≡ v / 1 % 256 = byte_at i rva rva 0 (little 2 v) stands (omega arith) (omega arith) in
    let b1 : i.byte (rva + 1) ≡ v / 256 % 256 = byte_at i rva (rva + 1) 1 (little 2 v) stands (omega arith) (omega arith) in
    rw (b0, b1) (omega arith)

pub reads_4 : (i : LaidOut) (rva v : ℕ) → v < 2 ^ 32 → StandsAt i rva (little 4 v) → number_at 4 i rva ≡ v
reads_4 i rva v lt stands =
    let b0 : i.byte rva ≡ v / 1 % 256 = byte_at i rva rva 0 (little 4 v) stands (omega arith) (omega arith) in
    let b1 : i.byte (rva + 1) ≡ v / 256 % 256 = byte_at i rva (rva + 1) 1 (little 4 v) stands (omega arith) (omega arith) in
    let b2 : i.byte (rva + 1 + 1) ≡ v / 65536 % 256 = byte_at i rva (rva + 1 + 1) 2 (little 4 v) stands (omega arith) (omega arith) in
    let b3 : i.byte (rva + 1 + 1 + 1) ≡ v / 16777216 % 256 = byte_at i rva (rva + 1 + 1 + 1) 3 (little 4 v) stands (omega arith) (omega arith) in
    rw (b0, b1, b2, b3) (omega arith)

-- all fixups are of a page
abbrev pub AllOfPage : ℕ → List Fixup → Type 0
AllOfPage page [] = Unit {0}
AllOfPage page (f ∷ fs) = (page_of f ≡ page) × AllOfPage page fs

pub type_small : (kind : FixupKind) → type_of kind < 16
type_small High = lit< tt
type_small Low = lit< tt
type_small Bits32 = lit< tt
type_small Bits64 = lit< tt

-- an entry, read back
entry_read : (i : LaidOut) (page rva : ℕ) (f : Fixup) → page_of f ≡ page → StandsAt i rva (entry_bytes f)
    → fixup_of (entry_of i (4096 * page) rva) ≡ Some (record { entry = rva; field = f.field; kind = f.kind })
entry_read i page rva f same stands =
    let small = type_small f.kind in
    let v : ℕ = 4096 * type_of f.kind + f.field % 4096 in
    let read : number_at 2 i rva ≡ v = reads_2 i rva v (omega arith) stands in
    let kind : number_at 2 i rva / 4096 ≡ type_of f.kind = omega arith in
    let field : 4096 * page + number_at 2 i rva % 4096 ≡ f.field = omega arith in
    ap (fixup_by (entry_of i (4096 * page) rva)) (ap kind_of kind ∙ type_kind f.kind)
    ∙ ap (λ (n : ℕ). Some (record { entry = rva; field = n; kind = f.kind })) field

-- the entry that fills a block up
padding_read : (i : LaidOut) (page rva : ℕ) → StandsAt i rva (0 ∷ 0 ∷ []) → fixup_of (entry_of i page rva) ≡ None
padding_read i page rva stands =
    let b0 : i.byte rva ≡ 0 = byte_at i rva rva 0 (0 ∷ 0 ∷ []) stands (omega arith) (omega arith) in
    let b1 : i.byte (rva + 1) ≡ 0 = byte_at i rva (rva + 1) 1 (0 ∷ 0 ∷ []) stands (omega arith) (omega arith) in
    rw (b0, b1) refl

abbrev views : List Entry → List (ℕ × FixupKind)
views es = map view (filter_map fixup_of es)

views-some : (e : Entry) (es : List Entry) (f : Fixup) → fixup_of e ≡ Some f → views (e ∷ es) ≡ view f ∷ views es
views-some e es f is = ap (λ (o : Option Fixup). map view (cons_option o (filter_map fixup_of es))) is

views-none : (e : Entry) (es : List Entry) → fixup_of e ≡ None → views (e ∷ es) ≡ views es
views-none e es is = ap (λ (o : Option Fixup). map view (cons_option o (filter_map fixup_of es))) is

-- the entries of a page from index k on, and at most one that fills the block up
entries_read : (i : LaidOut) (rva page k m : ℕ) (fs : List Fixup) → AllOfPage page fs → m < 2 → StandsAt i (rva + 2 * k) (flat_map entry_bytes fs ++ replicate (2 * m) 0)
    → views (map (λ j. entry_of i (4096 * page) (rva + 2 * j)) (range_with_len k (length fs + m))) ≡ map view fs
entries_read i rva page k zero [] all lt stands = refl
entries_read i rva page k (suc zero) [] all lt stands = views-none (entry_of i (4096 * page) (rva + 2 * k)) [] (padding_read i (4096 * page) (rva + 2 * k) stands)
entries_read i rva page k (suc (suc m)) [] all lt stands = absurd (omega arith)
entries_read i rva page k m (f ∷ fs) all lt stands =
    let rest : List ℕ = flat_map entry_bytes fs ++ replicate (2 * m) 0 in
    let joined : StandsAt i (rva + 2 * k) (entry_bytes f ++ rest) = subst (StandsAt i (rva + 2 * k)) (append_assoc (entry_bytes f) (flat_map entry_bytes fs) (replicate (2 * m) 0)) stands in
    let here : StandsAt i (rva + 2 * k) (entry_bytes f) = stands-front i (rva + 2 * k) (entry_bytes f) rest joined in
    let at : rva + 2 * k + 2 ≡ rva + 2 * (k + 1) = omega arith in
    let later : StandsAt i (rva + 2 * (k + 1)) rest = subst (λ (n : ℕ). StandsAt i n rest) at (stands-back i (rva + 2 * k) (entry_bytes f) rest joined) in
    let count : suc (length fs) + m ≡ suc (length fs + m) = omega arith in
    let g : ℕ → Entry = λ j. entry_of i (4096 * page) (rva + 2 * j) in
    ap (λ (n : ℕ). views (map g (range_with_len k n))) count
    ∙ views-some (g k) (map g (range_with_len (k + 1) (length fs + m))) _ (entry_read i page (rva + 2 * k) f all.0 here)
    ∙ ap (λ (vs : List (ℕ × FixupKind)). view f ∷ vs) (entries_read i rva page (k + 1) m fs all.1 lt later)

-- a block, read back
pub record IsBlockOf (i : LaidOut) (rva : ℕ) (p : Page) : Type 0 where
  pub size_is : (block_at i rva).size ≡ block_size (length p.fixups)
  pub fixups_are : map view (fixups_in i (block_at i rva)) ≡ map view p.fixups

pub block_read : (i : LaidOut) (rva : ℕ) (p : Page) → StandsAt i rva (block_bytes p) → p.page < 2 ^ 20 → block_size (length p.fixups) < 2 ^ 32 → AllOfPage p.page p.fixups → IsBlockOf i rva p
block_read i rva p stands low small all =
    let n : ℕ = length p.fixups in
    let entries : List ℕ = flat_map entry_bytes p.fixups ++ replicate (2 * (n % 2)) 0 in
    let tail : List ℕ = little 4 (block_size n) ++ entries in
    let page_bytes : StandsAt i rva (little 4 (4096 * p.page)) = stands-front i rva (little 4 (4096 * p.page)) tail stands in
    let after : StandsAt i (rva + 4) tail = stands-back i rva (little 4 (4096 * p.page)) tail stands in
    let size_bytes : StandsAt i (rva + 4) (little 4 (block_size n)) = stands-front i (rva + 4) (little 4 (block_size n)) entries after in
    let last : StandsAt i (rva + 4 + 4) entries = stands-back i (rva + 4) (little 4 (block_size n)) entries after in
    let at : rva + 4 + 4 ≡ rva + 8 + 2 * 0 = omega arith in
    let entry_at_0 : StandsAt i (rva + 8 + 2 * 0) entries = subst (λ (x : ℕ). StandsAt i x entries) at last in
    let page : (block_at i rva).page ≡ 4096 * p.page = reads_4 i rva (4096 * p.page) (omega arith) page_bytes in
    let size : (block_at i rva).size ≡ block_size n = reads_4 i (rva + 4) (block_size n) small size_bytes in
    let count : ((block_at i rva).size - 8) / 2 ≡ n + n % 2 = omega arith in
    record {
      size_is = size;
      fixups_are =
          ap (λ (x : ℕ). views (map (λ j. entry_of i x (rva + 8 + 2 * j)) (range_with_len 0 (((block_at i rva).size - 8) / 2)))) page
          ∙ ap (λ (x : ℕ). views (map (λ j. entry_of i (4096 * p.page) (rva + 8 + 2 * j)) (range_with_len 0 x))) count
          ∙ entries_read i (rva + 8) p.page 0 (n % 2) p.fixups all (omega arith) entry_at_0;
    }

length-entries : (fs : List Fixup) → length (flat_map entry_bytes fs) ≡ 2 * length fs
length-entries [] = refl
length-entries (f ∷ fs) = omega (arith, length-entries fs)

length-padding : (n : ℕ) → length {A = ℕ} (replicate n 0) ≡ n
length-padding zero = refl
length-padding (suc n) = omega (arith, length-padding n)

pub length-block : (p : Page) → length (block_bytes p) ≡ block_size (length p.fixups)
length-block p =
    let n : ℕ = length p.fixups in
    let pads : List ℕ = replicate (2 * (n % 2)) 0 in
    let padding : length pads ≡ 2 * (n % 2) = length-padding (2 * (n % 2)) in
    let both : length (flat_map entry_bytes p.fixups ++ pads) ≡ length (flat_map entry_bytes p.fixups) + length pads = length-append (flat_map entry_bytes p.fixups) pads in
    omega (arith, both, length-entries p.fixups, padding)

-- pages whose fixups are theirs, of the first 2^32 bytes
abbrev pub AllPages : List Page → Type 0
AllPages [] = Unit {0}
AllPages (p ∷ ps) = (p.page < 2 ^ 20) × AllOfPage p.page p.fixups × AllPages ps

map-append : {X Y : Type 0} (f : X → Y) (xs ys : List X) → map f (xs ++ ys) ≡ map f xs ++ map f ys
map-append f [] ys = refl
map-append f (x ∷ xs) ys = ap (λ (zs : List _). f x ∷ zs) (map-append f xs ys)

pub goes_on : (i : LaidOut) (end rva n : ℕ) → rva + 8 ≤ end → (block_at i rva).size ≡ n → 0 < n → ends_table i end rva ≡ false
goes_on i end rva n le size some =
    let room : nat_lt end (rva + 8) ≡ false = le-ltb _ _ le in
    let more : ((block_at i rva).size == 0) ≡ false = ap (λ (x : ℕ). x == 0) size ∙ not_equal_zero n some in
    rw room more

-- a chain of blocks, read back
pub chain_read : (i : LaidOut) (end rva : ℕ) (ps : List Page) → StandsAt i rva (flat_map block_bytes ps) → end ≡ rva + length (flat_map block_bytes ps) → length (flat_map block_bytes ps) < 2 ^ 32 → AllPages ps
    → map view (flat_map (fixups_in i) (blocks_from (end - rva) i end rva)) ≡ map view (flat_map (λ p. p.fixups) ps)
chain_read i end rva [] stands is small all =
    let ends : ends_table i end rva ≡ true = (let e : nat_lt end (rva + 8) ≡ true = lt-ltb _ _ (omega arith) in rw e refl) in
    ap (λ (bs : List Block). map view (flat_map (fixups_in i) bs)) (blocks-end i end rva (end - rva) ends)
chain_read i end rva (p ∷ ps) stands is small all =
    let rest : List ℕ = flat_map block_bytes ps in
    let total : length (block_bytes p ++ rest) ≡ length (block_bytes p) + length rest = length-append (block_bytes p) rest in
    let len : length (block_bytes p) ≡ block_size (length p.fixups) = length-block p in
    let b : IsBlockOf i rva p = block_read i rva p (stands-front i rva (block_bytes p) rest stands) all.0 (omega arith) all.1 in
    let size : (block_at i rva).size ≡ length (block_bytes p) = b.size_is ∙ sym len in
    let goes : ends_table i end rva ≡ false = goes_on i end rva (length (block_bytes p)) (omega arith) size (omega arith) in
    let later : StandsAt i (rva + (block_at i rva).size) rest = subst (λ (n : ℕ). StandsAt i (rva + n) rest) (sym size) (stands-back i rva (block_bytes p) rest stands) in
    let left = blocks_from (end - (rva + (block_at i rva).size)) i end (rva + (block_at i rva).size) in
    ap (λ (bs : List Block). map view (flat_map (fixups_in i) bs)) (blocks-step i end rva goes)
    ∙ map-append view (fixups_in i (block_at i rva)) (flat_map (fixups_in i) left)
    ∙ ap (λ (vs : List (ℕ × FixupKind)). vs ++ map view (flat_map (fixups_in i) left)) b.fixups_are
    ∙ ap (λ (vs : List (ℕ × FixupKind)). map view p.fixups ++ vs) (chain_read i end (rva + (block_at i rva).size) ps later (omega arith) (omega arith) all.2)
    ∙ sym (map-append view p.fixups (flat_map (λ (q : Page). q.fixups) ps))

-- the pages of fixups hold them, in order
pages-before : (f : Fixup) (ps : List Page) → flat_map (λ (p : Page). p.fixups) (before_pages f ps) ≡ f ∷ flat_map (λ (p : Page). p.fixups) ps
pages-before f [] = refl
pages-before f (p ∷ ps) = elim (cases_Bool (p.page == page_of f)) [
  | inl same ↦ (let e : before_pages f (p ∷ ps) ≡ record { page = p.page; fixups = f ∷ p.fixups } ∷ ps = rw same refl in ap (flat_map (λ (q : Page). q.fixups)) e)
  | inr other ↦ (let e : before_pages f (p ∷ ps) ≡ record { page = page_of f; fixups = f ∷ [] } ∷ p ∷ ps = rw other refl in ap (flat_map (λ (q : Page). q.fixups)) e)
]

pub pages-all : (fs : List Fixup) → flat_map (λ (p : Page). p.fixups) (pages_of fs) ≡ fs
pages-all [] = refl
pages-all (f ∷ fs) = pages-before f (pages_of fs) ∙ ap (λ (gs : List Fixup). f ∷ gs) (pages-all fs)

all-before : (f : Fixup) (ps : List Page) → f.field < 2 ^ 32 → AllPages ps → AllPages (before_pages f ps)
all-before f [] low all = (omega arith, (refl, tt), tt)
all-before f (p ∷ ps) low all = elim (cases_Bool (p.page == page_of f)) [
  | inl same ↦
      (let e : before_pages f (p ∷ ps) ≡ record { page = p.page; fixups = f ∷ p.fixups } ∷ ps = rw same refl in
      subst AllPages (sym e) (all.0, (sym (eqb-true _ _ same), all.1), all.2))
  | inr other ↦
      (let e : before_pages f (p ∷ ps) ≡ record { page = page_of f; fixups = f ∷ [] } ∷ p ∷ ps = rw other refl in
      subst AllPages (sym e) (omega arith, (refl, tt), all))
]

pub all-pages : (fs : List Fixup) → All (λ (f : Fixup). f.field < 2 ^ 32) fs → AllPages (pages_of fs)
all-pages [] low = tt
all-pages (f ∷ fs) low = all-before f (pages_of fs) (All-head (λ (g : Fixup). g.field < 2 ^ 32) f fs low) (all-pages fs (All-tail (λ (g : Fixup). g.field < 2 ^ 32) f fs low))

-- a table that is a whole directory, read back
pub table_read : (i : LaidOut) (d : Directory) (fs : List Fixup) → All (λ (f : Fixup). f.field < 2 ^ 32) fs → StandsAt i d.rva (encoded fs) → d.size ≡ length (encoded fs) → d.size < 2 ^ 32
    → map view (fixups_at i (Some d)) ≡ map view fs
table_read i d fs low stands size small =
    let fuel : d.size ≡ d.rva + d.size - d.rva = omega arith in
    ap (λ (n : ℕ). map view (flat_map (fixups_in i) (blocks_from n i (d.rva + d.size) d.rva))) fuel
    ∙ chain_read i (d.rva + d.size) d.rva (pages_of fs) stands (omega arith) (omega arith) (all-pages fs low)
    ∙ ap (map view) (pages-all fs)
