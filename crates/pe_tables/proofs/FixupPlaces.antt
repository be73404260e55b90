-- The fixups of a table are the entries of its chain of blocks that name a field.
use Rattle.std.proofs.Common.{◌≡◌, ◌≢◌, ℕ, zero, suc, ◌+◌, ◌-◌, ◌*◌, ◌/◌, ◌%◌, ◌<◌, ◌≤◌, Bool, true, false, List, [], ◌∷◌, Option, Some, None, refl, sym, ap, subst, ◌∙◌, arith, inl, inr}
use Rattle.std.specs.Prelude.{map, nat_lt, ◌==◌, Contains}
use Rattle.std.specs.List.{flat_map, filter_map, range_with_len}
use Rattle.std.proofs.lemmas.Bool.{cases_Bool, cases_eq, eqb-true, ltb-false, le-ltb, or_parts}
use Rattle.std.proofs.lemmas.Bool.Decides.{nat_tests}
use Rattle.std.proofs.lemmas.Option.{none-some, same_Some}
use Rattle.std.proofs.lemmas.List.Elements.{Contains-append_left, Contains-append_right, Contains-append_cases}
use Rattle.pe_head.specs.declared.directory.Directory.{Directory}
use Rattle.pe_layout.specs.Image.{LaidOut, number_at}
use Rattle.pe_tables.specs.Fixups.{Block, Entry, block_at, blocks_from, ends_table, entry_at, fixup_of, fixup_by, fixups_at, fixups_in, kind_of}
use Rattle.pe_tables.specs.Encoded.{type_of}
use Rattle.pe_tables.specs.FixupPlaces.{page_rva, block_size_at, HasBlock, LeadsTo, here, past, IsEntry, IsNamed}
use Rattle.pe_tables.specs.declared.fixups.Fixup.{Fixup}
use Rattle.pe_tables.specs.declared.fixups.FixupKind.{FixupKind}
use Rattle.pe_tables.specs.declared.fixups.FixupKind.TheVariants.{Bits32, Bits64, High, Low}
use Rattle.pe_tables.proofs.Blocks.{blocks-step, not_equal_zero}
use Rattle.pe_tables.proofs.Holding.{nothing, onto_cases, onto_here, onto_later}

-- the type of a kind
abbrev KindIs : ℕ → Option FixupKind → Type 0
KindIs t None = Unit {0}
KindIs t (Some kind) = t ≡ type_of kind

kind_by : (t : ℕ) (first second third fourth : Bool) → (t == 1) ≡ first → (t == 2) ≡ second → (t == 3) ≡ third → (t == 10) ≡ fourth → KindIs t (kind_of t)
kind_by t true second third fourth is _ _ _ = subst (KindIs t) (sym (let e : kind_of t ≡ Some High = rw is refl in e)) (eqb-true _ _ is)
kind_by t false true third fourth not_1 is _ _ = subst (KindIs t) (sym (let e : kind_of t ≡ Some Low = rw (not_1, is) refl in e)) (eqb-true _ _ is)
kind_by t false false true fourth not_1 not_2 is _ = subst (KindIs t) (sym (let e : kind_of t ≡ Some Bits32 = rw (not_1, not_2, is) refl in e)) (eqb-true _ _ is)
kind_by t false false false true not_1 not_2 not_3 is = subst (KindIs t) (sym (let e : kind_of t ≡ Some Bits64 = rw (not_1, not_2, not_3, is) refl in e)) (eqb-true _ _ is)
kind_by t false false false false not_1 not_2 not_3 not_10 = subst (KindIs t) (sym (let e : kind_of t ≡ None = rw (not_1, not_2, not_3, not_10) refl in e)) tt

kind_is : (t : ℕ) → KindIs t (kind_of t)
kind_is t = kind_by t (t == 1) (t == 2) (t == 3) (t == 10) refl refl refl refl

pub type_kind : (kind : FixupKind) → kind_of (type_of kind) ≡ Some kind
type_kind High = refl
type_kind Low = refl
type_kind Bits32 = refl
type_kind Bits64 = refl

-- an entry is a fixup
abbrev Is : Entry → Fixup → Type 0
Is e f = (f.entry ≡ e.rva) × (e.kind ≡ type_of f.kind) × (f.field ≡ e.field)

is_by : (e : Entry) (f : Fixup) (kind : Option FixupKind) → KindIs e.kind kind → fixup_by e kind ≡ Some f → Is e f
is_by e f None k same = absurd (none-some f same)
is_by e f (Some kind) k same =
    let all = same_Some _ _ same in
    (sym (ap (λ (g : Fixup). g.entry) all), k ∙ ap (λ (g : Fixup). type_of g.kind) all, sym (ap (λ (g : Fixup). g.field) all))

is_fixup : (e : Entry) (f : Fixup) → fixup_of e ≡ Some f → Is e f
is_fixup e f = is_by e f (kind_of e.kind) (kind_is e.kind)

fixup_is : (e : Entry) (f : Fixup) → Is e f → fixup_of e ≡ Some f
fixup_is e f is =
    ap (fixup_by e) (ap kind_of is.1 ∙ type_kind f.kind)
    ∙ ap (λ (n : ℕ). Some (record { entry = n; field = e.field; kind = f.kind })) (sym is.0)
    ∙ ap (λ (n : ℕ). Some (record { entry = f.entry; field = n; kind = f.kind })) (sym is.2)

module _ (g : ℕ → Entry) (f : Fixup) where
  entry_among : (a n k : ℕ) → a ≤ k → k < a + n → fixup_of (g k) ≡ Some f → Contains (filter_map fixup_of (map g (range_with_len a n))) f
  entry_among a zero k low high is = absurd (omega arith)
  entry_among a (suc n) k low high is = elim (cases_eq k a) [
    | inl e ↦ onto_here (fixup_of (g a)) (filter_map fixup_of (map g (range_with_len (a + 1) n))) f (ap (λ (j : ℕ). fixup_of (g j)) (sym e) ∙ is)
    | inr ne ↦ onto_later (fixup_of (g a)) (filter_map fixup_of (map g (range_with_len (a + 1) n))) f (entry_among (a + 1) n k (omega arith) (omega arith) is)
  ]

  among_entry : (a n : ℕ) → Contains (filter_map fixup_of (map g (range_with_len a n))) f → (k : ℕ) × (k < a + n) × (fixup_of (g k) ≡ Some f)
  among_entry a zero has = absurd (nothing f has)
  among_entry a (suc n) has = elim (onto_cases (fixup_of (g a)) (filter_map fixup_of (map g (range_with_len (a + 1) n))) f has) [
    | inl is ↦ (a, omega arith, is)
    | inr later ↦ (let w = among_entry (a + 1) n later in let lt = w.1 in (w.0, omega arith, w.2))
  ]

has_block : (i : LaidOut) (end rva : ℕ) → ends_table i end rva ≡ false → HasBlock i end rva
has_block i end rva goes = let p = or_parts _ _ goes in (ltb-false end (rva + 8) p.0, λ e. not_both _ p.1 e)
  where
    not_both : (n : ℕ) → (n == 0) ≡ false → n ≡ 0 → ⊥
    not_both n unequal e = grind (arith, nat_tests)

goes_on : (i : LaidOut) (end rva : ℕ) → HasBlock i end rva → ends_table i end rva ≡ false
goes_on i end rva has =
    let room : nat_lt end (rva + 8) ≡ false = le-ltb _ _ has.0 in
    let more : (number_at 4 i (rva + 4) == 0) ≡ false = not_equal_zero (number_at 4 i (rva + 4)) (positive _ has.1) in
    rw (room, more) refl
  where
    positive : (n : ℕ) → n ≢ 0 → 0 < n
    positive zero ne = absurd (ne refl)
    positive (suc n) ne = omega arith

-- an entry of the block at an RVA, in the list or in the image
in_block : (i : LaidOut) (rva : ℕ) (f : Fixup) → Contains (fixups_in i (block_at i rva)) f → (k : ℕ) × IsEntry i rva k f
in_block i rva f has =
    let w = among_entry (entry_at i (block_at i rva)) f 0 ((block_size_at i rva - 8) / 2) has in
    let k : ℕ = w.0 in
    let is = is_fixup (entry_at i (block_at i rva) k) f w.2 in
    let within : k < 0 + (block_size_at i rva - 8) / 2 = w.1 in
    let at : rva + 8 + 2 * k ≡ f.entry = sym is.0 in
    (k, (omega arith, is.0, ap (λ (n : ℕ). number_at 2 i n / 4096) (sym at) ∙ is.1, is.2 ∙ ap (λ (n : ℕ). page_rva i rva + number_at 2 i n % 4096) at))

of_block : (i : LaidOut) (rva k : ℕ) (f : Fixup) → IsEntry i rva k f → Contains (fixups_in i (block_at i rva)) f
of_block i rva k f is =
    let at : f.entry ≡ rva + 8 + 2 * k = is.1 in
    let inside = is.0 in
    entry_among (entry_at i (block_at i rva)) f 0 ((block_size_at i rva - 8) / 2) k (omega arith) (omega arith)
    (fixup_is (entry_at i (block_at i rva) k) f (at, ap (λ (n : ℕ). number_at 2 i n / 4096) (sym at) ∙ is.2, is.3 ∙ ap (λ (n : ℕ). page_rva i rva + number_at 2 i n % 4096) at))

module _ (i : LaidOut) (end : ℕ) (f : Fixup) where
  -- a block to which an RVA leads has the fixup
  abbrev Below : ℕ → Type 0
  Below from = (rva : ℕ) × (k : ℕ) × (LeadsTo i end from rva × HasBlock i end rva) × IsEntry i rva k f

  chain_to : (n from : ℕ) → Contains (flat_map (fixups_in i) (blocks_from n i end from)) f → Below from
  chain_to zero from has = absurd (nothing f has)
  chain_to (suc n) from has = elim (cases_Bool (ends_table i end from)) [
    | inl ends ↦ absurd (nothing f (subst (λ (bs : List Block). Contains (flat_map (fixups_in i) bs) f) (let e : blocks_from (suc n) i end from ≡ [] = rw ends refl in e) has))
    | inr goes ↦
        (let left : List Block = blocks_from n i end (from + block_size_at i from) in
        let stands = has_block i end from goes in
        let e : blocks_from (suc n) i end from ≡ block_at i from ∷ left = rw goes refl in
        elim (Contains-append_cases (fixups_in i (block_at i from)) (flat_map (fixups_in i) left) f (subst (λ (bs : List Block). Contains (flat_map (fixups_in i) bs) f) e has)) [
          | inl first ↦ (let w = in_block i from f first in (from, w.0, (here from, stands), w.1))
          | inr later ↦ (let w = chain_to n (from + block_size_at i from) later in (w.0, w.1, (past from w.0 stands w.2.0, w.2.1), w.3))
        ])
  ]

  chain_from : (from rva k : ℕ) → LeadsTo i end from rva → HasBlock i end rva → IsEntry i rva k f → Contains (flat_map (fixups_in i) (blocks_from (end - from) i end from)) f
  chain_from from rva k (here _) has is =
      let left : List Block = blocks_from (end - (rva + block_size_at i rva)) i end (rva + block_size_at i rva) in
      subst (λ (bs : List Block). Contains (flat_map (fixups_in i) bs) f) (sym (blocks-step i end rva (goes_on i end rva has)))
      (Contains-append_left (fixups_in i (block_at i rva)) (flat_map (fixups_in i) left) f (of_block i rva k f is))
  chain_from from rva k (past _ _ stands leads) has is =
      let left : List Block = blocks_from (end - (from + block_size_at i from)) i end (from + block_size_at i from) in
      subst (λ (bs : List Block). Contains (flat_map (fixups_in i) bs) f) (sym (blocks-step i end from (goes_on i end from stands)))
      (Contains-append_right (fixups_in i (block_at i from)) (flat_map (fixups_in i) left) f (chain_from (from + block_size_at i from) rva k leads has is))

pub named : (i : LaidOut) (d : Directory) (f : Fixup) → Contains (fixups_at i (Some d)) f → IsNamed i d f
named i d f has = chain_to i (d.rva + d.size) f d.size d.rva has

pub contained : (i : LaidOut) (d : Directory) (f : Fixup) → IsNamed i d f → Contains (fixups_at i (Some d)) f
contained i d f named =
    let fuel : d.rva + d.size - d.rva ≡ d.size = omega arith in
    subst (λ (n : ℕ). Contains (flat_map (fixups_in i) (blocks_from n i (d.rva + d.size) d.rva)) f) fuel
    (chain_from i (d.rva + d.size) f d.rva named.0 named.1 named.2.0 named.2.1 named.3)
