-- The first leaf of a type for each id, with one leaf more.
use Rattle.std.proofs.Common.{◌≡◌, ◌∙◌, ◌<◌, ◌^◌, ℕ, suc, ◌+◌, Bool, List, [], ◌∷◌, ◌++◌, length, take, get_or, Option, None, Some, false, ap, sym, refl, subst, arith}
use Rattle.std.specs.Prelude.{if◌then◌else◌, replicate}
use Rattle.std.specs.Option.{option_or}
use Rattle.std.proofs.Math.Seq.{take-suc}
use Rattle.std.proofs.lemmas.List.{length-replicate, get_or-replicate}
use Rattle.std.proofs.lemmas.List.Folds.{find-append}
use Rattle.pe_resources.specs.declared.leaf.Leaf.{Leaf}
use Rattle.pe_resource_files.specs.ById.{IsById}
use Rattle.pe_resource_files.specs.Pictures.{is_called}

pub one_more : (kind : ℕ) (before : List Leaf) (leaf : Leaf) (old new : List (Option Leaf)) → IsById kind before old → length new ≡ 2 ^ 16
    → ((id : ℕ) → id < 2 ^ 16 → get_or new id None ≡ option_or (get_or old id None) (if is_called kind id leaf then Some leaf else None))
    → IsById kind (before ++ leaf ∷ []) new
one_more kind before leaf old new is count each = record {
  count = count;
  first = λ id lt.
      each id lt ∙ ap (λ (o : Option Leaf). option_or o (if is_called kind id leaf then Some leaf else None)) (is.first id lt)
      ∙ sym (find-append (is_called kind id) before (leaf ∷ []));
}

or-none : (o : Option Leaf) → o ≡ option_or o None
or-none None = refl
or-none (Some leaf) = refl

pub no_more : (kind : ℕ) (before : List Leaf) (leaf : Leaf) (old : List (Option Leaf)) → IsById kind before old
    → ((id : ℕ) → id < 2 ^ 16 → is_called kind id leaf ≡ false) → IsById kind (before ++ leaf ∷ []) old
no_more kind before leaf old is other = one_more kind before leaf old old is is.count
    (λ id lt. or-none (get_or old id None) ∙ ap (λ (b : Bool). option_or (get_or old id None) (if b then Some leaf else None)) (sym (other id lt)))

abbrev no_leaf : Option Leaf
no_leaf = None

pub none_yet : (kind : ℕ) (firsts : List (Option Leaf)) → firsts ≡ replicate (2 ^ 16) None → IsById kind [] firsts
none_yet kind firsts all = record {
  count = ap (λ (xs : List (Option Leaf)). length xs) all ∙ length-replicate (2 ^ 16) no_leaf;
  first = λ id lt. ap (λ (xs : List (Option Leaf)). get_or xs id None) all ∙ get_or-replicate (2 ^ 16) id no_leaf no_leaf lt;
}

-- what is related to no leaf is none
pub is_none_by : (R : Option Leaf → Type 0) → ((leaf : Leaf) → R (Some leaf) → ⊥) → (o : Option Leaf) → R o → o ≡ None
is_none_by R some None related = refl
is_none_by R some (Some leaf) related = absurd (some leaf related)

-- with the leaves up to the next
pub next : (kind : ℕ) (leaves : List Leaf) (i : ℕ) (d : Leaf) (firsts : List (Option Leaf)) → i < length leaves
    → IsById kind (take i leaves ++ get_or leaves i d ∷ []) firsts → IsById kind (take (i + 1) leaves) firsts
next kind leaves i d firsts lt is =
    subst (λ (before : List Leaf). IsById kind before firsts) (sym (ap (λ (k : ℕ). take k leaves) (let e : i + 1 ≡ suc i = omega arith in e) ∙ take-suc leaves i d lt)) is
