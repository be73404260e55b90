-- Facts about an accepted set, for callers that turn its images into others one by one.
use Rattle.std.proofs.Common.{◌≡◌, ◌∙◌, ◌≤◌, ◌++◌, [], ◌∷◌, ℕ, List, map, length, ap, sym, refl, append_assoc, append-nil, arith, length-append}
use Rattle.std.proofs.lemmas.List.{length-map}
use Rattle.pe_set.specs.Bindings.{bindings_of}
use Rattle.pe_set.specs.DelayedImports.{delayed_in, with_imports, with_delayed}
use Rattle.pe_set.specs.Set.{Module, modules_of}
use Rattle.pe_set.specs.SetView.{entry_view, entries_of, module_view, modules_view}
use Rattle.pe_set.specs.Sound.{IsSound}
use Rattle.pe_set.specs.declared.entry.SetEntry.{SetEntry}
use Rattle.pe_set.specs.declared.reading.Module as code_module
use Rattle.pe_space.specs.Unbound.{unbound}
use Rattle.pe_space.specs.Content.{Content}
use Rattle.pe_space.specs.SetContent.{laid_out, content_of}
use Rattle.pe_space.proofs.Images.{modules_count}

pub none_left : {X : Type 0} (xs : List X) → length xs ≡ 0 → xs ≡ []
none_left [] e = refl
none_left (x ∷ xs) e = absurd (omega (arith, e))

-- with 0 in its bound slots, what is laid out is the set's content
pub content_is : (c : Content) (s : List Module) → c ≡ laid_out s → unbound c ≡ content_of s
unfolding content_of
content_is c s is = ap unbound is

-- it has at most 256 entries, and as many images
pub few_entries : (set : List SetEntry) → IsSound (modules_of (entries_of set)) → length set ≤ 256
few_entries set sound =
    let few = sound.few in
    let count = modules_count (entries_of set) ∙ length-map set entry_view in
    omega (arith, few, count)

pub count_modules : {A : Type 0} (set : List SetEntry) (ms : List (code_module.Module A)) → modules_view ms ≡ modules_of (entries_of set) → length ms ≡ length set
count_modules set ms is = sym (length-map ms module_view) ∙ ap length is ∙ modules_count (entries_of set) ∙ length-map set entry_view

-- with its delay-loaded imports as many
pub count_delayed : (s : List Module) → length (with_delayed s) ≡ length s
unfolding with_delayed
count_delayed s = length-map s (λ (m : Module). with_imports (delayed_in s m) m)

pub few_delayed : (set : List SetEntry) → IsSound (with_delayed (modules_of (entries_of set))) → length set ≤ 256
few_delayed set sound =
    let few = sound.few in
    let delayed = count_delayed (modules_of (entries_of set)) in
    let count = modules_count (entries_of set) ∙ length-map set entry_view in
    omega (arith, few, delayed, count)

pub count_delayed_modules : {A : Type 0} (set : List SetEntry) (ms : List (code_module.Module A)) → modules_view ms ≡ with_delayed (modules_of (entries_of set)) → length ms ≡ length set
count_delayed_modules set ms is = sym (length-map ms module_view) ∙ ap length is ∙ count_delayed (modules_of (entries_of set)) ∙ modules_count (entries_of set) ∙ length-map set entry_view

-- no images have no bound slot
pub no_bindings : (s : List Module) → length s ≡ 0 → length (bindings_of s) ≡ 0
unfolding bindings_of
no_bindings [] none = refl
no_bindings (m ∷ s) none = absurd (omega (arith, none))

-- ---- images that are made one by one, each by `make`
module _ {A Y : Type 0} (make : Module → Y) where
  -- the images that are made, and those that are left
  abbrev pub made_and_left : List Y → List (code_module.Module A) → List Y
  made_and_left made left = made ++ map make (modules_view left)

  -- one more image is made
  pub one_more : (made after : List Y) (own : code_module.Module A) (left rest : List (code_module.Module A)) (y : Y) (all : List Y) → made_and_left made left ≡ all
      → left ≡ own ∷ rest → y ≡ make (module_view own) → after ≡ made ++ y ∷ [] → made_and_left after rest ≡ all
  one_more made after own left rest y all so_far next is added =
      ap (λ (ys : List Y). made_and_left ys rest) added
      ∙ append_assoc made (y ∷ []) (map make (modules_view rest))
      ∙ ap (λ (x : Y). made ++ x ∷ map make (modules_view rest)) is
      ∙ ap (made_and_left made) (sym next)
      ∙ so_far

  -- all images are made
  pub all_made : (made : List Y) (left : List (code_module.Module A)) (n : ℕ) (s : List Module) → made_and_left made left ≡ map make s → length left ≡ n → n ≡ 0 → made ≡ map make s
  all_made made left n s so_far count none = sym (append-nil made) ∙ ap (made_and_left made) (sym (none_left left (count ∙ none))) ∙ so_far

  -- no image is left of an empty set
  pub none_to_make : (s : List Module) (made : List Y) (left : List (code_module.Module A)) → made_and_left made left ≡ map make s → length s ≡ 0 → length left ≡ 0
  none_to_make s made left so_far none =
      let whole = ap length so_far ∙ length-map s make in
      let parts = length-append made (map make (modules_view left)) in
      let rest = length-map (modules_view left) make ∙ length-map left module_view in
      omega (arith, whole, parts, rest, none)
