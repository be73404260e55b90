-- The symbols of members in another order.
use Rattle.std.proofs.Common.{◌≡◌, ◌∙◌, ℕ, ◌+◌, ◌^◌, ◌<◌, List, [], ◌∷◌, length, refl, sym, ap, subst, arith}
use Rattle.std.specs.List.{All, AllByRecursion, sum_by}
use Rattle.std.specs.List.Sorted.{IsPermutation}
use Rattle.std.proofs.lemmas.List.Sorted.{length_permutation, sum_by-IsPermutation}
use Rattle.std.proofs.lemmas.List.Sums.{sum_by-cons}
use Rattle.coff_library.specs.Members.{Member}
use Rattle.coff_library.specs.Symbols.{Symbol, symbols_of, IsAscending}
use Rattle.coff_library.specs.Written.{names_size, second_size, member_offsets, members_start}
use Rattle.coff_library.proofs.NoZeros.{IsSound, sound, sound_order, at_each}
use Rattle.coff_library.proofs.Writable.{length-offsets}

-- the names of symbols take the same bytes in another order
names_sum : (ss : List Symbol) → names_size ss ≡ sum_by (λ (s : Symbol). length s.name + 1) ss
names_sum [] = refl
names_sum (s ∷ ss) = let rest = names_sum ss in let more = sum_by-cons (λ (x : Symbol). length x.name + 1) s ss in omega (arith, rest, more)

pub same_size : (xs ys : List Symbol) → IsPermutation xs ys → names_size ys ≡ names_size xs
same_size xs ys same = names_sum ys ∙ sum_by-IsPermutation (λ (s : Symbol). length s.name + 1) xs ys same ∙ sym (names_sum xs)

pub members_below : (count : ℕ) (ss : List Symbol) → AllByRecursion (IsSound count) ss → AllByRecursion (λ (s : Symbol). s.member < count) ss
members_below count [] all = tt
members_below count (s ∷ ss) all = (all.0.member, members_below count ss all.1)

pub count_is : (ms : List Member) (offs : List ℕ) → offs ≡ member_offsets ms → length offs ≡ length ms
unfolding member_offsets
count_is ms offs is = ap length is ∙ length-offsets (members_start ms) ms

-- each symbol is of one of the members
pub all_below : (ms : List Member) (offs : List ℕ) (ss : List Symbol) → offs ≡ member_offsets ms → ss ≡ symbols_of ms → All (λ (s : Symbol). s.member < length offs) ss
all_below ms offs ss is same =
    let count = count_is ms offs is in
    let below = members_below (length ms) (symbols_of ms) (sound ms) in
    let all : AllByRecursion (λ (s : Symbol). s.member < length offs) (symbols_of ms) = subst (λ (n : ℕ). AllByRecursion (λ (s : Symbol). s.member < n) (symbols_of ms)) (sym count) below in
    at_each (λ (s : Symbol). s.member < length offs) ss (subst (λ (xs : List Symbol). AllByRecursion (λ (s : Symbol). s.member < length offs) xs) (sym same) all)

pub order_below : (ms : List Member) (offs : List ℕ) (order : List Symbol) → offs ≡ member_offsets ms → IsAscending (symbols_of ms) order → All (λ (s : Symbol). s.member < length offs) order
order_below ms offs order is asc =
    let count = count_is ms offs is in
    let below = members_below (length ms) order (sound_order (length ms) (symbols_of ms) order asc.same (sound ms)) in
    at_each (λ (s : Symbol). s.member < length offs) order (subst (λ (n : ℕ). AllByRecursion (λ (s : Symbol). s.member < n) order) (sym count) below)

pub second_fits : (ms : List Member) (offs : List ℕ) (order : List Symbol) → offs ≡ member_offsets ms → IsAscending (symbols_of ms) order → second_size (length ms) (symbols_of ms) < 2 ^ 32 → second_size (length offs) order < 2 ^ 32
second_fits ms offs order is asc small =
    let count = count_is ms offs is in
    let names = same_size (symbols_of ms) order asc.same in
    let len = length_permutation (symbols_of ms) order asc.same in
    omega (arith, count, names, len, small)
