-- Bytes at a place of a file, part by part.
use Rattle.std.proofs.Common.{◌≡◌, ℕ, suc, zero, ◌+◌, ◌-◌, ◌*◌, ◌<◌, ◌≤◌, List, [], ◌∷◌, ◌++◌, length, take, drop, get_or, min, refl, sym, ap, subst, ◌∙◌, arith, length-append, length-drop}
use Rattle.std.specs.List.{flat_map, AllByRecursion}
use Rattle.std.proofs.Math.Nat.{mul-suc}
use Rattle.std.proofs.Math.Seq.{take-append_seam, take-length}
use Rattle.std.proofs.lemmas.List.{take-take, get_or-take, get_or-drop, drop_at, drop-drop, drop-take, length-take}
use Rattle.pe_view.specs.Number.{byte_of, num, part}

-- the file has these bytes there
abbrev pub StandsAt : List ℕ → ℕ → List ℕ → Type 0
StandsAt file place bytes = part file place (length bytes) ≡ bytes

pub stands_whole : (file : List ℕ) → StandsAt file 0 file
stands_whole file = take-length file

-- after bytes that end where they begin
pub stands_behind : (before bytes rest : List ℕ) (place : ℕ) → length before ≡ place → StandsAt (before ++ (bytes ++ rest)) place bytes
stands_behind before bytes rest place len = ap (λ (bs : List ℕ). take (length bytes) bs) (drop_at before (bytes ++ rest) place len) ∙ take-append_seam bytes rest

pub stands-front : (file : List ℕ) (place : ℕ) (xs ys : List ℕ) → StandsAt file place (xs ++ ys) → StandsAt file place xs
stands-front file place xs ys stands =
    sym (take-take (length xs) (length (xs ++ ys)) (drop place file) (omega (arith, length-append xs ys)))
    ∙ ap (λ (bs : List ℕ). take (length xs) bs) stands ∙ take-append_seam xs ys

pub stands-back : (file : List ℕ) (place next : ℕ) (xs ys : List ℕ) → StandsAt file place (xs ++ ys) → next ≡ place + length xs → StandsAt file next ys
stands-back file place next xs ys stands is =
    ap (λ (n : ℕ). take (length ys) (drop n file)) is
    ∙ ap (λ (bs : List ℕ). take (length ys) bs) (sym (drop-drop (length xs) place file))
    ∙ sym (drop-take (length xs) (length ys) (drop place file))
    ∙ ap (λ (n : ℕ). drop (length xs) (take n (drop place file))) (sym (length-append xs ys))
    ∙ ap (λ (bs : List ℕ). drop (length xs) bs) stands ∙ drop_at xs ys (length xs) refl

pub stands_part : (file : List ℕ) (place len : ℕ) (bytes : List ℕ) → StandsAt file place bytes → len ≡ length bytes → part file place len ≡ bytes
stands_part file place len bytes stands is = ap (λ (n : ℕ). part file place n) is ∙ stands

-- bytes at a place, of which there is at least one, end inside the file
pub stands_inside : (file : List ℕ) (place : ℕ) (bytes : List ℕ) → StandsAt file place bytes → 0 < length bytes → place + length bytes ≤ length file
stands_inside file place bytes stands some =
    let least : min (length bytes) (length file - place) ≡ length bytes =
    ap (λ (n : ℕ). min (length bytes) n) (sym (length-drop place file)) ∙ sym (length-take (length bytes) (drop place file)) ∙ ap length stands in
    omega (arith, least, some)

pub stands_byte : (file : List ℕ) (place : ℕ) (bytes : List ℕ) (k : ℕ) → StandsAt file place bytes → k < length bytes → byte_of file (place + k) ≡ byte_of bytes k
stands_byte file place bytes k stands lt =
    sym (get_or-drop place file k 0) ∙ sym (get_or-take (length bytes) (drop place file) k 0 lt) ∙ ap (λ (bs : List ℕ). byte_of bs k) stands

pub stands_num : (file : List ℕ) (place : ℕ) (bytes : List ℕ) (offset width : ℕ) → StandsAt file place bytes → offset + width ≤ length bytes → num (byte_of file) (place + offset) width ≡ num (byte_of bytes) offset width
stands_num file place bytes offset zero stands inside = refl
stands_num file place bytes offset (suc width) stands inside =
    let here = stands_byte file place bytes offset stands (omega (arith, inside)) in
    let next : place + offset + 1 ≡ place + (offset + 1) = omega arith in
    let rest : num (byte_of file) (place + offset + 1) width ≡ num (byte_of bytes) (offset + 1) width = rw next (stands_num file place bytes (offset + 1) width stands (omega (arith, inside))) in
    rw (here, rest) refl

-- one of many of equal size
module _ {X : Type 0} (bytes : X → List ℕ) (size : ℕ) (Ok : X → Type 0) (long : (x : X) → Ok x → length (bytes x) ≡ size) where
  pub stands_each : (file : List ℕ) (place k : ℕ) (xs : List X) (d : X) → AllByRecursion Ok xs → StandsAt file place (flat_map bytes xs) → k < length xs → StandsAt file (place + size * k) (bytes (get_or xs k d))
  stands_each file place k [] d ok stands lt = absurd (omega arith)
  stands_each file place zero (x ∷ xs) d ok stands lt =
      let here : place ≡ place + size * 0 = omega arith in
      subst (λ (at : ℕ). StandsAt file at (bytes x)) here (stands-front file place (bytes x) (flat_map bytes xs) stands)
  stands_each file place (suc k) (x ∷ xs) d ok stands lt =
      let there : place + size + size * k ≡ place + size * suc k = (let e = mul-suc size k in omega arith) in
      let len = long x ok.0 in
      subst (λ (at : ℕ). StandsAt file at (bytes (get_or xs k d))) there
      (stands_each file (place + size) k xs d ok.1 (stands-back file place (place + size) (bytes x) (flat_map bytes xs) stands (omega (arith, len))) (omega arith))
