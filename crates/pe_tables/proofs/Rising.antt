-- The fixups of a table ascend by the RVAs of their entries.
use Rattle.std.proofs.Common.{◌≡◌, ℕ, zero, suc, ◌+◌, ◌-◌, ◌*◌, ◌/◌, ◌<◌, ◌≤◌, List, [], ◌∷◌, ◌++◌, Option, Some, None, refl, sym, subst, arith, inl, inr}
use Rattle.std.specs.Prelude.{map, All, AllPairs}
use Rattle.std.specs.List.{flat_map, filter_map, cons_option, range_with_len}
use Rattle.std.proofs.lemmas.Bool.{cases_Bool}
use Rattle.std.proofs.lemmas.List.Elements.{All-cons}
use Rattle.std.proofs.lemmas.List.Kept.{AllPairs-cons}
use Rattle.pe_head.specs.declared.directory.Directory.{Directory}
use Rattle.pe_layout.specs.Image.{LaidOut}
use Rattle.pe_tables.specs.Fixups.{Block, Entry, block_at, blocks_from, ends_table, entry_at, fixup_of, fixup_by, fixups_at, fixups_in, kind_of}
use Rattle.pe_tables.specs.declared.fixups.Fixup.{Fixup}
use Rattle.pe_tables.specs.declared.fixups.FixupKind.{FixupKind}

-- entries ascend, from an RVA on
abbrev Rising : ℕ → List Fixup → Type 0
Rising from [] = Unit {0}
Rising from (f ∷ fs) = (from ≤ f.entry) × Rising (f.entry + 1) fs

-- entries ascend, between two RVAs
abbrev Between : ℕ → ℕ → List Fixup → Type 0
Between from to [] = Unit {0}
Between from to (f ∷ fs) = (from ≤ f.entry) × (f.entry < to) × Between (f.entry + 1) to fs

rising-earlier : (from later : ℕ) (fs : List Fixup) → from ≤ later → Rising later fs → Rising from fs
rising-earlier from later [] le h = tt
rising-earlier from later (f ∷ fs) le h = let low = h.0 in (omega arith, h.1)

between-earlier : (from later to : ℕ) (fs : List Fixup) → from ≤ later → Between later to fs → Between from to fs
between-earlier from later to [] le h = tt
between-earlier from later to (f ∷ fs) le h = let low = h.0 in (omega arith, h.1, h.2)

rising-append : (from to : ℕ) (fs gs : List Fixup) → from ≤ to → Between from to fs → Rising to gs → Rising from (fs ++ gs)
rising-append from to [] gs le h after = rising-earlier from to gs le after
rising-append from to (f ∷ fs) gs le h after = let low = h.1 in (h.0, rising-append (f.entry + 1) to fs gs (omega arith) h.2 after)

all_later : (n from : ℕ) (fs : List Fixup) → n < from → Rising from fs → All (λ (g : Fixup). n < g.entry) fs
all_later n from [] lt h = λ k d within. absurd (omega arith)
all_later n from (f ∷ fs) lt h = let low = h.0 in All-cons (λ (g : Fixup). n < g.entry) f fs (omega arith) (all_later n (f.entry + 1) fs (omega arith) h.1)

ascends : (from : ℕ) (fs : List Fixup) → Rising from fs → AllPairs (λ (f g : Fixup). f.entry < g.entry) fs
ascends from [] h = λ i j d lt within. absurd (omega arith)
ascends from (f ∷ fs) h = AllPairs-cons (λ (a b : Fixup). a.entry < b.entry) f fs (all_later f.entry (f.entry + 1) fs (omega arith) h.1) (ascends (f.entry + 1) fs h.1)

-- the fixup of an entry, before those of later entries
onto : (e : Entry) (kind : Option FixupKind) (to : ℕ) (fs : List Fixup) → e.rva < to → Between (e.rva + 1) to fs → Between e.rva to (cons_option (fixup_by e kind) fs)
onto e None to fs lt h = between-earlier e.rva (e.rva + 1) to fs (omega arith) h
onto e (Some kind) to fs lt h = (omega arith, lt, h)

entries_between : (i : LaidOut) (b : Block) (a n : ℕ) → Between (b.rva + 8 + 2 * a) (b.rva + 8 + 2 * (a + n)) (filter_map fixup_of (map (entry_at i b) (range_with_len a n)))
entries_between i b a zero = tt
entries_between i b a (suc n) =
    let fs : List Fixup = filter_map fixup_of (map (entry_at i b) (range_with_len (a + 1) n)) in
    let to : b.rva + 8 + 2 * (a + 1 + n) ≡ b.rva + 8 + 2 * (a + suc n) = omega arith in
    let rest : Between (b.rva + 8 + 2 * (a + 1)) (b.rva + 8 + 2 * (a + suc n)) fs = subst (λ (m : ℕ). Between (b.rva + 8 + 2 * (a + 1)) m fs) to (entries_between i b (a + 1) n) in
    onto (entry_at i b a) (kind_of (entry_at i b a).kind) (b.rva + 8 + 2 * (a + suc n)) fs (omega arith)
    (between-earlier (b.rva + 8 + 2 * a + 1) (b.rva + 8 + 2 * (a + 1)) (b.rva + 8 + 2 * (a + suc n)) fs (omega arith) rest)

between-later : (from to end : ℕ) (fs : List Fixup) → to ≤ end → Between from to fs → Between from end fs
between-later from to end [] le h = tt
between-later from to end (f ∷ fs) le h = let lt = h.1 in (h.0, omega arith, between-later (f.entry + 1) to end fs le h.2)

block_by : (i : LaidOut) (b : Block) (n : ℕ) → (b.size - 8) / 2 ≡ n → Between b.rva (b.rva + b.size) (filter_map fixup_of (map (entry_at i b) (range_with_len 0 n)))
block_by i b zero e = tt
block_by i b (suc n) e =
    let fs : List Fixup = filter_map fixup_of (map (entry_at i b) (range_with_len 0 (suc n))) in
    between-earlier b.rva (b.rva + 8 + 2 * 0) (b.rva + b.size) fs (omega arith)
    (between-later (b.rva + 8 + 2 * 0) (b.rva + 8 + 2 * (0 + suc n)) (b.rva + b.size) fs (omega arith) (entries_between i b 0 (suc n)))

block_between : (i : LaidOut) (b : Block) → Between b.rva (b.rva + b.size) (fixups_in i b)
block_between i b = block_by i b ((b.size - 8) / 2) refl

chain_rises : (n : ℕ) (i : LaidOut) (end rva : ℕ) → Rising rva (flat_map (fixups_in i) (blocks_from n i end rva))
chain_rises zero i end rva = tt
chain_rises (suc n) i end rva = elim (cases_Bool (ends_table i end rva)) [
  | inl ends ↦ subst (λ (bs : List Block). Rising rva (flat_map (fixups_in i) bs)) (sym (let e : blocks_from (suc n) i end rva ≡ [] = rw ends refl in e)) tt
  | inr goes ↦
      (let b : Block = block_at i rva in
      let left : List Block = blocks_from n i end (rva + b.size) in
      let e : blocks_from (suc n) i end rva ≡ b ∷ left = rw goes refl in
      subst (λ (bs : List Block). Rising rva (flat_map (fixups_in i) bs)) (sym e)
      (rising-append rva (rva + b.size) (fixups_in i b) (flat_map (fixups_in i) left) (omega arith) (block_between i b) (chain_rises n i end (rva + b.size))))
]

pub ascend : (i : LaidOut) (d : Directory) → AllPairs (λ (f g : Fixup). f.entry < g.entry) (fixups_at i (Some d))
ascend i d = ascends d.rva (fixups_at i (Some d)) (chain_rises d.size i (d.rva + d.size) d.rva)
