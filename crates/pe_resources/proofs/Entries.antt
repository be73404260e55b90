-- One entry of a directory after the other.
use Rattle.std.proofs.Common.{◌≡◌, ◌∙◌, refl, ℕ, suc, ◌+◌, Bool, true, false, [], ◌∷◌, Option, Some, inl, inr, sym, subst, arith}
use Rattle.std.specs.Prelude.{if◌then◌else◌, ◌==◌}
use Rattle.std.proofs.lemmas.Bool.{cases_Bool}
use Rattle.pe_layout.specs.Image.{LaidOut}
use Rattle.pe_resources.specs.declared.entry.Entry.{Entry}
use Rattle.pe_resources.specs.declared.found.Found.{Found}
use Rattle.pe_resources.specs.declared.leaf.Path.{Path}
use Rattle.pe_resources.specs.Entry.{is_directory, offset_of}
use Rattle.pe_resources.specs.Found.{Shows}
use Rattle.pe_resources.specs.Path.{named, no_path}
use Rattle.pe_resources.specs.Section.{entry_at, whole_count, is_held, start_of}
use Rattle.pe_resources.specs.Walk.{Walk, asked, name_tests, read_leaf, read_entry, read_entries, read_directory, is_entered, entered, nothing, finding, walk_from, walk_at, walk_of}

-- the name of one level takes the place of another
pub named_again : (below n m : ℕ) (path : Path) → named below n (named below m path) ≡ named below n path
named_again below n m path = elim (cases_Bool (below == 2)) [
  | inl two ↦ rw two refl
  | inr other ↦ (elim (cases_Bool (below == 1)) [
    | inl one ↦ rw (other, one) refl
    | inr last ↦ rw (other, last) refl
  ])
]

-- an entry that leads to a directory
pub directory_read : {A : Type 0} (found : Found A) (i : LaidOut) (start below offset n : ℕ) (directory : Path → ℕ → Walk → Walk) (path onward : Path) (e : Entry) (target : ℕ) (w : Walk)
    → e ≡ entry_at i start offset n → is_directory e ≡ true → onward ≡ named below e.name path → target ≡ offset_of e.target
    → Shows found (directory onward target (asked (name_tests i start e) (read_entries i start (read_entry i start below directory path) offset n w)))
    → Shows found (read_entries i start (read_entry i start below directory path) offset (n + 1) w)
directory_read found i start below offset n directory path onward e target w is leads name there shown =
    let next : n + 1 ≡ suc n = omega arith in
    let v : Walk = read_entries i start (read_entry i start below directory path) offset n w in
    let here : Shows found (read_entry i start below directory path e v) = rw (leads, ← name, ← there) shown in
    subst (λ (m : ℕ). Shows found (read_entries i start (read_entry i start below directory path) offset m w)) (sym next)
    (subst (λ (x : Entry). Shows found (read_entry i start below directory path x v)) is here)

-- an entry that leads to a leaf
pub leaf_read : {A : Type 0} (found : Found A) (i : LaidOut) (start below offset n : ℕ) (directory : Path → ℕ → Walk → Walk) (path onward : Path) (e : Entry) (target : ℕ) (w : Walk)
    → e ≡ entry_at i start offset n → is_directory e ≡ false → onward ≡ named below e.name path → target ≡ offset_of e.target
    → Shows found (read_leaf i start below onward target (asked (name_tests i start e) (read_entries i start (read_entry i start below directory path) offset n w)))
    → Shows found (read_entries i start (read_entry i start below directory path) offset (n + 1) w)
leaf_read found i start below offset n directory path onward e target w is leads name there shown =
    let next : n + 1 ≡ suc n = omega arith in
    let v : Walk = read_entries i start (read_entry i start below directory path) offset n w in
    let here : Shows found (read_entry i start below directory path e v) = rw (leads, ← name, ← there) shown in
    subst (λ (m : ℕ). Shows found (read_entries i start (read_entry i start below directory path) offset m w)) (sym next)
    (subst (λ (x : Entry). Shows found (read_entry i start below directory path x v)) is here)

-- all entries of a directory that was entered
pub directory_whole : {A : Type 0} (found : Found A) (i : LaidOut) (start levels below offset n : ℕ) (path : Path) (w : Walk)
    → levels ≡ suc below → is_entered i start w.before offset ≡ true → n ≡ whole_count i start offset
    → Shows found (read_entries i start (read_entry i start below (read_directory i start below) path) offset n (entered i start offset w))
    → Shows found (read_directory i start levels path offset w)
directory_whole found i start levels below offset n path w level enters all shown =
    let full : Shows found (read_entries i start (read_entry i start below (read_directory i start below) path) offset (whole_count i start offset) (entered i start offset w)) =
    subst (λ (m : ℕ). Shows found (read_entries i start (read_entry i start below (read_directory i start below) path) offset m (entered i start offset w))) all shown in
    let here : Shows found (read_directory i start (suc below) path offset w) = rw enters full in
    subst (λ (m : ℕ). Shows found (read_directory i start m path offset w)) (sym level) here

taken : {A : Type 0} (found : Found A) (b : Bool) (x y : Walk) → b ≡ true → Shows found x → Shows found (if b then x else y)
taken found true x y e shown = shown
taken found false x y e shown = absurd cc

passed : {A : Type 0} (found : Found A) (b : Bool) (x y : Walk) → b ≡ false → Shows found y → Shows found (if b then x else y)
passed found false x y e shown = shown
passed found true x y e shown = absurd cc

-- a tree whose root is held
pub tree_held : {A : Type 0} (found : Found A) (i j : LaidOut) (start : ℕ) (held : Bool)
    → start_of i ≡ Some start → j ≡ i → held ≡ is_held j start 0 16 → held ≡ true
    → Shows found (read_directory j start 3 no_path 0 nothing)
    → Shows found (walk_of i)
tree_held found i j start held present same is there shown =
    let here : is_held j start 0 16 ≡ true = sym is ∙ there in
    let from : Shows found (walk_from j start) = taken found (is_held j start 0 16) (read_directory j start 3 no_path 0 nothing) (asked (finding j start 181 0 true ∷ []) nothing) here shown in
    subst (λ (o : Option ℕ). Shows found (walk_at i o)) (sym present) (subst (λ (k : LaidOut). Shows found (walk_from k start)) same from)

-- a tree whose root is not
pub tree_missing : {A : Type 0} (found : Found A) (i j : LaidOut) (start : ℕ) (held : Bool)
    → start_of i ≡ Some start → j ≡ i → held ≡ is_held j start 0 16 → held ≡ false
    → Shows found (asked (finding j start 181 0 true ∷ []) nothing)
    → Shows found (walk_of i)
tree_missing found i j start held present same is missing shown =
    let gone : is_held j start 0 16 ≡ false = sym is ∙ missing in
    let from : Shows found (walk_from j start) = passed found (is_held j start 0 16) (read_directory j start 3 no_path 0 nothing) (asked (finding j start 181 0 true ∷ []) nothing) gone shown in
    subst (λ (o : Option ℕ). Shows found (walk_at i o)) (sym present) (subst (λ (k : LaidOut). Shows found (walk_from k start)) same from)
