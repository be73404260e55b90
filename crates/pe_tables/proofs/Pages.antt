-- The pages of fixups, from the first on.
use Rattle.std.proofs.Common.{◌≡◌, ◌≢◌, ℕ, zero, suc, ◌+◌, ◌-◌, ◌<◌, ◌≤◌, Bool, true, false, List, [], ◌∷◌, length, take, drop, get_or, refl, sym, ap, subst, ◌∙◌, arith, inl, inr}
use Rattle.std.specs.Prelude.{◌==◌, All, AllPairs}
use Rattle.std.proofs.lemmas.Bool.{eqb-true, eqb-false, cases_Bool}
use Rattle.std.proofs.lemmas.List.Elements.{All-nil, All-cons, All-head, All-tail}
use Rattle.std.proofs.lemmas.List.Kept.{AllPairs-cons}
use Rattle.std.proofs.lemmas.Bool.Decides.{nat_tests}
use Rattle.std.proofs.lemmas.List.{get_or-drop, length-drop}
use Rattle.pe_tables.specs.Encoded.{Page, IsPage, FieldsAscend, page_of, before_pages, pages_of}
use Rattle.pe_tables.specs.declared.fixups.Fixup.{Fixup}

-- the first page is that of the first fixup
pub record BeginsWith (f : Fixup) (ps : List Page) : Type 0 where
  pub first : Page
  pub rest : List Page
  pub is : ps ≡ first ∷ rest
  pub its_page : first.page ≡ page_of f

equal_self : (n : ℕ) → (n == n) ≡ true
equal_self n = grind (arith, nat_tests)

unequal : (m n : ℕ) → m ≢ n → (m == n) ≡ false
unequal m n ne = grind (arith, nat_tests)

by_test : (f : Fixup) (p : Page) (ps : List Page) (b : Bool) → (p.page == page_of f) ≡ b → BeginsWith f (before_pages f (p ∷ ps))
by_test f p ps true test = record { first = record { page = p.page; fixups = f ∷ p.fixups }; rest = ps; is = rw test refl; its_page = eqb-true _ _ test }
by_test f p ps false test = record { first = record { page = page_of f; fixups = f ∷ [] }; rest = p ∷ ps; is = rw test refl; its_page = refl }

begins_by : (f : Fixup) (ps : List Page) → BeginsWith f (before_pages f ps)
begins_by f [] = record { first = record { page = page_of f; fixups = f ∷ [] }; rest = []; is = refl; its_page = refl }
begins_by f (p ∷ ps) = by_test f p ps (p.page == page_of f) refl

begins : (f : Fixup) (fs : List Fixup) → BeginsWith f (pages_of (f ∷ fs))
begins f fs = begins_by f (pages_of fs)

-- a fixup before one of another page
alone : (f : Fixup) (fs : List Fixup) → ((d : Fixup) → 0 < length fs → page_of (get_or fs 0 d) ≢ page_of f) → pages_of (f ∷ fs) ≡ record { page = page_of f; fixups = f ∷ [] } ∷ pages_of fs
alone f [] other = refl
alone f (g ∷ fs) other =
    let b = begins g fs in
    let differs : b.first.page ≢ page_of f = λ e. other f (omega arith) (sym b.its_page ∙ e) in
    let test : (b.first.page == page_of f) ≡ false = unequal b.first.page (page_of f) differs in
    let step : before_pages f (b.first ∷ b.rest) ≡ record { page = page_of f; fixups = f ∷ [] } ∷ b.first ∷ b.rest = rw test refl in
    ap (before_pages f) b.is ∙ step ∙ ap (λ (ps : List Page). record { page = page_of f; fixups = f ∷ [] } ∷ ps) (sym b.is)

-- a fixup before others of its page
joins : (f : Fixup) (page : ℕ) (fs : List Fixup) (ps : List Page) → page ≡ page_of f → before_pages f (record { page = page; fixups = fs } ∷ ps) ≡ record { page = page; fixups = f ∷ fs } ∷ ps
joins f page fs ps e = let test : (page == page_of f) ≡ true = ap (λ (n : ℕ). n == page_of f) e ∙ equal_self (page_of f) in rw test refl

-- the first n fixups, which are all those of the first page
pub pages-span : (n : ℕ) (xs : List Fixup) (d : Fixup) → 0 < n → n ≤ length xs → ((k : ℕ) (f : Fixup) → k < n → page_of (get_or xs k f) ≡ page_of (get_or xs 0 f))
    → ((f : Fixup) → n < length xs → page_of (get_or xs n f) ≢ page_of (get_or xs 0 f)) → pages_of xs ≡ record { page = page_of (get_or xs 0 d); fixups = take n xs } ∷ pages_of (drop n xs)
pages-span zero xs d some le same other = absurd (omega arith)
pages-span (suc n) [] d some le same other = absurd (omega arith)
pages-span (suc zero) (f ∷ xs) d some le same other = alone f xs (λ e lt. other e (omega arith))
pages-span (suc (suc n)) (f ∷ xs) d some le same other =
    let second : page_of (get_or xs 0 d) ≡ page_of f = same 1 d (omega arith) in
    let rest = pages-span (suc n) xs d (omega arith) (omega arith)
    (λ k e lt. same (suc k) e (omega arith) ∙ sym (same 1 e (omega arith)))
    (λ e lt eq. other e (omega arith) (eq ∙ same 1 e (omega arith))) in
    ap (before_pages f) rest
    ∙ joins f (page_of (get_or xs 0 d)) (take (suc n) xs) (pages_of (drop (suc n) xs)) second
    ∙ ap (λ (page : ℕ). record { page = page; fixups = f ∷ take (suc n) xs } ∷ pages_of (drop (suc n) xs)) second

-- fields ascend by at least one
rises : (xs : List Fixup) (k : ℕ) (d : Fixup) → FieldsAscend xs → k < length xs → (get_or xs 0 d).field + k ≤ (get_or xs k d).field
rises xs zero d ascend lt = omega arith
rises xs (suc k) d ascend lt =
    let before = rises xs k d ascend (omega arith) in
    let step = ascend k (suc k) d (omega arith) lt in
    omega arith

-- so a page has few
pub few : (xs : List Fixup) (n : ℕ) (d : Fixup) → FieldsAscend xs → 0 < n → n ≤ length xs → page_of (get_or xs (n - 1) d) ≡ page_of (get_or xs 0 d) → n ≤ 4096
few xs n d ascend some le same = let up = rises xs (n - 1) d ascend (omega arith) in omega arith

pub ascend-drop : (xs : List Fixup) (n : ℕ) → FieldsAscend xs → FieldsAscend (drop n xs)
ascend-drop xs n ascend = λ i j d lt below.
    let inside : n + j < length xs = omega (arith, length-drop n xs) in
    let step = ascend (n + i) (n + j) d (omega arith) inside in
    let low : get_or (drop n xs) i d ≡ get_or xs (n + i) d = get_or-drop n xs i d in
    let high : get_or (drop n xs) j d ≡ get_or xs (n + j) d = get_or-drop n xs j d in
    rw (low, high) step

-- pages ascend, from a number on
abbrev Rising : ℕ → List Page → Type 0
Rising from [] = Unit {0}
Rising from (p ∷ ps) = (from ≤ p.page) × Rising (p.page + 1) ps

rising-before : (f : Fixup) (from : ℕ) (ps : List Page) → page_of f ≤ from → Rising from ps → Rising (page_of f) (before_pages f ps)
rising-before f from [] le rising = (omega arith, tt)
rising-before f from (p ∷ ps) le rising = elim (cases_Bool (p.page == page_of f)) [
  | inl same ↦
      (let e : before_pages f (p ∷ ps) ≡ record { page = p.page; fixups = f ∷ p.fixups } ∷ ps = rw same refl in
      let equal : p.page ≡ page_of f = eqb-true _ _ same in
      subst (Rising (page_of f)) (sym e) (omega arith, rising.1))
  | inr other ↦
      (let e : before_pages f (p ∷ ps) ≡ record { page = page_of f; fixups = f ∷ [] } ∷ p ∷ ps = rw other refl in
      let low = rising.0 in
      let differs : p.page ≢ page_of f = eqb-false _ _ other in
      subst (Rising (page_of f)) (sym e) (omega arith, (omega (arith, differs), rising.1)))
]

pages_rise : (f : Fixup) (fs : List Fixup) → FieldsAscend (f ∷ fs) → Rising (page_of f) (pages_of (f ∷ fs))
pages_rise f [] ascend = (omega arith, tt)
pages_rise f (g ∷ fs) ascend =
    let step : f.field < g.field = ascend 0 1 f (omega arith) (omega arith) in
    let later : FieldsAscend (g ∷ fs) = ascend-drop (f ∷ g ∷ fs) 1 ascend in
    rising-before f (page_of g) (pages_of (g ∷ fs)) (omega arith) (pages_rise g fs later)

all_later : (n from : ℕ) (ps : List Page) → n < from → Rising from ps → All (λ (p : Page). n < p.page) ps
all_later n from [] lt rising = λ k d within. absurd (omega arith)
all_later n from (p ∷ ps) lt rising = let low = rising.0 in All-cons (λ (q : Page). n < q.page) p ps (omega arith) (all_later n (p.page + 1) ps (omega arith) rising.1)

ascends : (from : ℕ) (ps : List Page) → Rising from ps → AllPairs (λ (p q : Page). p.page < q.page) ps
ascends from [] rising = λ i j d lt within. absurd (omega arith)
ascends from (p ∷ ps) rising = AllPairs-cons (λ (p q : Page). p.page < q.page) p ps (all_later p.page (p.page + 1) ps (omega arith) rising.1) (ascends (p.page + 1) ps rising.1)

pub pages_ascend : (fs : List Fixup) → FieldsAscend fs → AllPairs (λ (p q : Page). p.page < q.page) (pages_of fs)
pages_ascend [] ascend = λ i j d lt within. absurd (omega arith)
pages_ascend (f ∷ fs) ascend = ascends (page_of f) (pages_of (f ∷ fs)) (pages_rise f fs ascend)

one : (f : Fixup) → IsPage (record { page = page_of f; fixups = f ∷ [] })
one f = (omega arith, All-cons (λ (g : Fixup). page_of g ≡ page_of f) f [] refl (All-nil (λ (g : Fixup). page_of g ≡ page_of f)))

own-before : (f : Fixup) (ps : List Page) → All IsPage ps → All IsPage (before_pages f ps)
own-before f [] own = All-cons IsPage (record { page = page_of f; fixups = f ∷ [] }) [] (one f) own
own-before f (p ∷ ps) own = elim (cases_Bool (p.page == page_of f)) [
  | inl same ↦
      (let e : before_pages f (p ∷ ps) ≡ record { page = p.page; fixups = f ∷ p.fixups } ∷ ps = rw same refl in
      let h = All-head IsPage p ps own in
      let joined : IsPage (record { page = p.page; fixups = f ∷ p.fixups }) = (omega arith, All-cons (λ (g : Fixup). page_of g ≡ p.page) f p.fixups (sym (eqb-true _ _ same)) h.1) in
      subst (All IsPage) (sym e) (All-cons IsPage (record { page = p.page; fixups = f ∷ p.fixups }) ps joined (All-tail IsPage p ps own)))
  | inr other ↦
      (let e : before_pages f (p ∷ ps) ≡ record { page = page_of f; fixups = f ∷ [] } ∷ p ∷ ps = rw other refl in
      subst (All IsPage) (sym e) (All-cons IsPage (record { page = page_of f; fixups = f ∷ [] }) (p ∷ ps) (one f) own))
]

pub pages_own : (fs : List Fixup) → All IsPage (pages_of fs)
pages_own [] = All-nil IsPage
pages_own (f ∷ fs) = own-before f (pages_of fs) (pages_own fs)
