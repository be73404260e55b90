-- An image that was read, and how a search continues from it.
use Rattle.std.proofs.Common.{◌≡◌, ◌∙◌, ◌<◌, ◌+◌, ℕ, suc, List, [], ◌∷◌, Bool, true, false, not, cond, length, map, get_or, Option, None, Some, refl, sym, ap, arith}
use Rattle.std.specs.Prelude.{option_map, nat_lt, position, ◌||◌}
use Rattle.std.specs.List.{list_any, position_or_len, prefix_len}
use Rattle.std.specs.Str.{bytes_eq, str_to_ascii_lowercase}
use Rattle.std.specs.Option.{option_and_then}
use Rattle.std.proofs.lemmas.Slice.Eq.{bytes_eq-Decides}
use Rattle.std.proofs.lemmas.Option.{slice_get-map, slice_get_read}
use Rattle.std.proofs.lemmas.List.{length-map}
use Rattle.std.proofs.lemmas.List.Quantifiers.{position-Some}
use Rattle.pe_tables.specs.ImportView.{import_view}
use Rattle.pe_tables.specs.Key.{Key, Target, Rva, Forward}
use Rattle.pe_tables.specs.Exports.{target_at}
use Rattle.pe_set.specs.Set.{Module, named, forwarded_name}
use Rattle.pe_set.specs.Search.{target_in, from_target, from_image, resolve_in, stand_at, onward, step, steps}
use Rattle.pe_set.specs.NamesView.{lowered, found}
use Rattle.pe_set.specs.SetView.{module_view, modules_view}
use Rattle.pe_set.specs.declared.reading.Module as code_module
use Rattle.pe_set.specs.declared.search.Resolution.TheVariants.{Bound, Missing, Unknown}

pub own_imports : {A : Type 0} (m : code_module.Module A) → (module_view m).imports ≡ map import_view m.image.imports.items
unfolding module_view
own_imports m = refl

pub own_base : {A : Type 0} (m : code_module.Module A) → (module_view m).base ≡ m.base
unfolding module_view
own_base m = refl

pub own_name : {A : Type 0} (m : code_module.Module A) → (module_view m).name ≡ m.name.now
unfolding module_view
own_name m = refl

-- ---- places in lists that are made of others
prefix_len-map : {X Y : Type 0} (p : Y → Bool) (f : X → Y) (xs : List X) → prefix_len p (map f xs) ≡ prefix_len (λ x. p (f x)) xs
prefix_len-map p f [] = refl
prefix_len-map p f (x ∷ xs) = ap (λ n. cond (p (f x)) (1 + n) 0) (prefix_len-map p f xs)

pub position-map : {X Y : Type 0} (p : Y → Bool) (f : X → Y) (xs : List X) → position p (map f xs) ≡ position (λ x. p (f x)) xs
position-map p f xs =
    ap (λ n. cond (nat_lt n (length (map f xs))) (Some n) None) (prefix_len-map (λ y. not (p y)) f xs)
    ∙ ap (λ n. cond (nat_lt (position_or_len (λ x. p (f x)) xs) n) (Some (position_or_len (λ x. p (f x)) xs)) None) (length-map xs f)

pub list_any-map : {X Y : Type 0} (p : Y → Bool) (f : X → Y) (xs : List X) → list_any p (map f xs) ≡ list_any (λ x. p (f x)) xs
list_any-map p f [] = refl
list_any-map p f (x ∷ xs) = ap (λ (b : Bool). p (f x) || b) (list_any-map p f xs)

-- ---- one step of a search
module _ (s : List Module) (name : List ℕ) (key : Key) (n : ℕ) where
  pub resolve_missing : named s name ≡ None → resolve_in (suc n) s name key ≡ Some Missing
  resolve_missing nowhere = ap (from_image s (resolve_in n s) key) nowhere

  module _ (i : ℕ) (here : named s name ≡ Some i) where
    pub resolve_unknown : target_in s key i ≡ None → resolve_in (suc n) s name key ≡ Some Unknown
    resolve_unknown lacks = ap (from_image s (resolve_in n s) key) here ∙ ap (from_target (resolve_in n s) i) lacks

    pub resolve_bound : (rva : ℕ) → target_in s key i ≡ Some (Rva rva) → resolve_in (suc n) s name key ≡ Some (Bound i rva)
    resolve_bound rva is = ap (from_image s (resolve_in n s) key) here ∙ ap (from_target (resolve_in n s) i) is

    pub resolve_hop : (to : List ℕ) (next : Key) → target_in s key i ≡ Some (Forward to next) → resolve_in (suc n) s name key ≡ resolve_in n s (forwarded_name to) next
    resolve_hop to next is = ap (from_image s (resolve_in n s) key) here ∙ ap (from_target (resolve_in n s) i) is

    pub stand_step : (to : List ℕ) (next : Key) → target_in s key i ≡ Some (Forward to next) → steps s (suc n) (stand_at s name key) ≡ steps s n (stand_at s (forwarded_name to) next)
    stand_step to next is = ap (λ o. steps s n (option_and_then (step s) (option_map (λ i. (i, key)) o))) here ∙ ap (λ t. steps s n (onward s t)) is

-- what image number i exports
pub target_is : {A : Type 0} (ms : List (code_module.Module A)) (m : code_module.Module A) (i : ℕ) (key : Key) (o : Option Target) → i < length ms → m ≡ get_or ms i m
    → o ≡ target_at (module_view m).exports key → target_in (modules_view ms) key i ≡ o
target_is ms m i key o lt is found =
    ap (option_and_then (λ (m : Module). target_at m.exports key)) (slice_get-map module_view ms i ∙ ap (option_map module_view) (slice_get_read ms (length ms) i m refl lt is))
    ∙ sym found

-- there are as many names as images
pub names_count : {A : Type 0} (ms : List (code_module.Module A)) (names : List (List ℕ)) → names ≡ lowered (modules_view ms) → length names ≡ length ms
names_count ms names is = ap length is ∙ length-map (modules_view ms) (λ (m : Module). str_to_ascii_lowercase m.name) ∙ length-map ms module_view

-- the number by which a name is found is that of the image
pub found_named : {A : Type 0} (ms : List (code_module.Module A)) (names : List (List ℕ)) (name : List ℕ) → names ≡ lowered (modules_view ms) → found names name ≡ named (modules_view ms) name
found_named ms names name is =
    ap (λ ns. position (λ other. bytes_eq (str_to_ascii_lowercase name) other) ns) is
    ∙ position-map (λ other. bytes_eq (str_to_ascii_lowercase name) other) (λ (m : Module). str_to_ascii_lowercase m.name) (modules_view ms)

-- it is that of one of the set
pub number_within : {A : Type 0} (ms : List (code_module.Module A)) (name : List ℕ) (i : ℕ) → named (modules_view ms) name ≡ Some i → i < length ms
number_within ms name i is =
    let names = lowered (modules_view ms) in
    let lt = (position-Some (λ other. bytes_eq (str_to_ascii_lowercase name) other) names i [] (found_named ms names name refl ∙ is)).0 in
    let count = names_count ms names refl in
    omega (arith, lt, count)

-- strings that compare as not different are equal
not_false : (b : Bool) → not b ≡ false → b ≡ true
not_false true is = refl
not_false false is = absurd cc

pub same_text : (a b : List ℕ) → not (bytes_eq a b) ≡ false → a ≡ b
same_text a b is = (bytes_eq-Decides a b).0 (not_false (bytes_eq a b) is)
