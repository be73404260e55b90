-- Rows that are filled in parts.
use Rattle.std.proofs.Common.{◌≡◌, ℕ, zero, suc, ◌+◌, ◌-◌, ◌≤◌, ◌<◌, List, [], ◌∷◌, ◌++◌, length, take, drop, get_or, refl, sym, ap, subst, ◌∙◌, arith, min, append-nil}
use Rattle.std.proofs.lemmas.List.{length-drop, drop_all, take_rest}
use borrow.Rule.Slice.PartMut.{mid_of, post_of, put_mid}
use Rattle.pe_records_c.specs.Rows.{Fills}

drop_both : {X : Type 0} (n : ℕ) (xs ys : List X) → drop n (xs ++ ys) ≡ drop n xs ++ drop (n - length xs) ys
drop_both zero xs ys = let none : 0 - length xs ≡ 0 = omega arith in rw none refl
drop_both (suc n) [] ys = let all : suc n - 0 ≡ suc n = omega arith in rw all refl
drop_both (suc n) (x ∷ xs) ys =
    let same : suc n - length (x ∷ xs) ≡ n - length xs = omega arith in
    rw same (drop_both n xs ys)

told_cons : {T R : Type 0} (tells : T → R → Type 0) (x : T) (r : R) (xs : List T) (rows : List R) → tells x r
    → ((item : T) (row : R) (k : ℕ) → k < length xs → k < length rows → tells (get_or xs k item) (get_or rows k row))
    → (item : T) (row : R) (k : ℕ) → k < length (x ∷ xs) → k < length (r ∷ rows) → tells (get_or (x ∷ xs) k item) (get_or (r ∷ rows) k row)
told_cons tells x r xs rows here rest item row zero a b = here
told_cons tells x r xs rows here rest item row (suc k) a b = rest item row k (omega (arith, a)) (omega (arith, b))

-- rows of some items, and after them of more, are rows of all
pub fills_more : {T R : Type 0} (tells : T → R → Type 0) (first more : List T) (old rows part : List R) (start : ℕ) → start ≡ min (length first) (length rows)
    → Fills tells first old rows → Fills tells more (drop start rows) part → Fills tells (first ++ more) old (take start rows ++ part)
fills_more tells [] more old rows part zero is f m = subst (λ (o : List _). Fills tells more o part) f.others m
fills_more tells [] more old rows part (suc start) is f m = absurd (omega (arith, is))
fills_more tells (x ∷ first) more old [] part zero is f m =
    let len : length part ≡ 0 = m.len in
    let old_len : 0 ≡ length old = f.len in
    record {
      told = λ item row k a b. absurd (omega (arith, b, len));
      len = len ∙ old_len;
      others = drop_all (length (x ∷ (first ++ more))) part (omega (arith, len)) ∙ sym (drop_all (length (x ∷ (first ++ more))) old (omega (arith, old_len)));
    }
fills_more tells (x ∷ first) more old [] part (suc start) is f m = absurd (omega (arith, is))
fills_more tells (x ∷ first) more old (r ∷ rows) part zero is f m = absurd (omega (arith, is))
fills_more tells (x ∷ first) more [] (r ∷ rows) part (suc start) is f m = absurd cc f.len
fills_more tells (x ∷ first) more (o ∷ old) (r ∷ rows) part (suc start) is f m =
    let tail : Fills tells first old rows = record {
      told = λ item row k a b. f.told item row (suc k) (omega (arith, a)) (omega (arith, b));
      len = omega (arith, f.len);
      others = f.others;
    } in
    let filled = fills_more tells first more old rows part start (omega (arith, is)) tail m in
    record {
      told = told_cons tells x r (first ++ more) (take start rows ++ part) (f.told x r 0 (omega arith) (omega arith)) filled.told;
      len = ap suc filled.len;
      others = filled.others;
    }

-- after n items of a list, those that are passed now, and the rest after them
pub record Passed {X : Type 0} (all now rest : List X) (n : ℕ) : Type 0 where
  pub before : take (n + length now) all ≡ take n all ++ now
  pub behind : drop (n + length now) all ≡ rest
  pub within : n + length now ≤ length all

passed_now : {X : Type 0} (now rest : List X) → Passed (now ++ rest) now rest 0
passed_now [] rest = record { before = refl; behind = refl; within = omega arith }
passed_now (x ∷ now) rest =
    let tail = passed_now now rest in
    let next : 0 + length (x ∷ now) ≡ suc (0 + length now) = omega arith in
    record {
      before = rw next (ap (λ (xs : List _). x ∷ xs) tail.before);
      behind = rw next tail.behind;
      within = omega (arith, tail.within);
    }

pub passed_more : {X : Type 0} (all now rest : List X) (n : ℕ) → n ≤ length all → drop n all ≡ now ++ rest → Passed all now rest n
passed_more all now rest zero le is = subst (λ (xs : List _). Passed xs now rest 0) (sym is) (passed_now now rest)
passed_more [] now rest (suc n) le is = absurd (omega (arith, le))
passed_more (x ∷ all) now rest (suc n) le is =
    let tail = passed_more all now rest n (omega (arith, le)) is in
    let next : suc n + length now ≡ suc (n + length now) = omega arith in
    record {
      before = rw next (ap (λ (xs : List _). x ∷ xs) tail.before);
      behind = rw next tail.behind;
      within = omega (arith, tail.within);
    }

-- rows from a start on that were filled through a slice
pub part_filled : {T R : Type 0} (tells : T → R → Type 0) (first more : List T) (old rows part : List R) (skipped start : ℕ) → start ≡ min (length first - skipped) (length rows)
    → Fills tells (drop skipped first) old rows → Fills tells (drop (skipped - length first) more) (mid_of start (length rows - start) rows) part
    → Fills tells (drop skipped (first ++ more)) old (put_mid start (length rows - start) rows part)
part_filled tells first more old rows part skipped start is f m =
    let less = length-drop skipped first in
    let all = fills_more tells (drop skipped first) (drop (skipped - length first) more) old rows part start (omega (arith, is, less)) f
    (subst (λ (rs : List _). Fills tells (drop (skipped - length first) more) rs part) (take_rest rows start) m) in
    let none : post_of start (length rows - start) rows ≡ [] = drop_all (length rows - start) (drop start rows) (omega (arith, length-drop start rows)) in
    let back : take start rows ++ part ≡ put_mid start (length rows - start) rows part = ap (λ (rs : List _). take start rows ++ rs) (sym (append-nil part) ∙ ap (λ (rs : List _). part ++ rs) (sym none)) in
    subst (λ (rs : List _). Fills tells (drop skipped (first ++ more)) old rs) back
    (subst (λ (ts : List _). Fills tells ts old (take start rows ++ part)) (sym (drop_both skipped first more)) all)

-- unchanged rows are those of no item
pub nothing_told : {T R : Type 0} (tells : T → R → Type 0) (rows : List R) → Fills tells [] rows rows
nothing_told tells rows = record {
  told = λ item row k a b. absurd (omega (arith, a));
  len = refl;
  others = refl;
}
