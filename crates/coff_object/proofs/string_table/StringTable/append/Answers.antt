-- The new string has a slot, or is one of the others.
use Rattle.std.proofs.Common.{◌≡◌, ◌∙◌, ◌+◌, ◌≤◌, ◌<◌, ◌++◌, ◌∷◌, [], ℕ, List, length, Some, sym, ap, subst, arith}
use Rattle.std.specs.Prelude.{slice_get, slice_set}
use Rattle.std.proofs.lemmas.Bool.{true≢false}
use Rattle.std.proofs.lemmas.Option.{slice_get_within}
use Rattle.coff_object.specs.Slots.{Entry, base, IsOpen}
use Rattle.coff_object.specs.StringTableView.{IsTable, counted}
use Rattle.coff_object.proofs.TableFinds.{with_slot, with_other}
use Rattle.coff_object.proofs.string_table.StringTable.append.Goals as goal
use Rattle.coff_object.proofs.string_table.StringTable.append.Goals.{then-is_open, else-is_open+in_ok-insert}

pub index_mut-requires : goal.index_mut-requires
index_mut-requires g c =
    let table = c.args.self.now in
    let h = c.free_slot-free.ensures.free in
    let i = table.slots.ok.0 in
    let j : c.free_slot-free.result < length c.as_slice-then-is_open.result.now = slice_get_within c.as_slice-then-is_open.result.now c.free_slot-free.result 0 h in
    let k = c.as_slice-then-is_open.ensures.len in
    omega arith

pub invariant_of-self-2 : goal.invariant_of-self-2
invariant_of-self-2 g c =
    let table = c.args.self.now in
    let text = c.args.text in
    let sum = c.saturating_add-self.ensures ∙ ap (λ (n : ℕ). counted (n + 1)) c.saturating_add.ensures in
    let first : c.base-first.result ≡ base table.slots.items text.now = c.base-first.ensures.first ∙ ap (λ (ss : List ℕ). base ss text.now) c.as_slice.ensures.value in
    elim c.if-is_open.branch [
      | then-is_open w ↦
          (let free = w.free_slot-free.result in
          let from : base table.slots.items text.now ≤ free = omega (arith, first, w.free_slot-free.ensures.from) in
          let near : free < base table.slots.items text.now + 4 = omega (arith, first, w.free_slot-free.ensures.near) in
          let at : slice_get table.slots.items free ≡ Some 0 = ap (λ (ss : List ℕ). slice_get ss free) (sym w.as_slice-then-is_open.ensures.value) ∙ w.free_slot-free.ensures.free in
          let whole = with_slot table.entries.items table.slots.items table.others table.size table.whole c.saturating_add-self.result text c.requires sum free from near at in
          let items = c.push_reserved.ensures.items ∙ ap (λ (es : List Entry). es ++ (text, table.size) ∷ []) c.in_ok-reserve.ensures.items in
          let n : c.len-before.result ≡ length table.entries.items = c.len-before.ensures ∙ c.in_ok-reserve.ensures.len ∙ table.entries.ok.0 in
          let longer : List Entry = table.entries.items ++ (text, table.size) ∷ [] in
          record {
            whole =
                subst (λ (es : List Entry). IsTable es c.if-is_open.self.1.1.0.items c.if-is_open.self.1.1.1.0 c.saturating_add-self.result) (sym items)
                (subst (λ s. IsTable longer s.1.1.0.items s.1.1.1.0 c.saturating_add-self.result) (sym w.self-is)
                (subst (λ (k : ℕ). IsTable longer (slice_set table.slots.items free (k + 1)) table.others c.saturating_add-self.result) (sym n) whole));
          })
      | else-is_open+in_ok-insert w ↦
          (let taken : IsOpen table.slots.items (base table.slots.items text.now) (length table.entries.items) → ⊥ = λ free.
          let is = w.if-is_open.ensures.1 (
            ap (λ (ss : List ℕ). slice_get ss (c.base-first.result + 3)) c.as_slice-2.ensures.value ∙ ap (λ (k : ℕ). slice_get table.slots.items (k + 3)) first ∙ free.0,
            (let few = free.1 in let n = c.len-before.ensures in let m = c.in_ok-reserve.ensures.len in let k = table.entries.ok.0 in omega arith),
          ) in
          absurd (true≢false (sym is)) in
          let whole = with_other table.entries.items table.slots.items table.others table.size table.whole c.saturating_add-self.result text c.requires sum w.insert.new.self taken w.in_ok-insert.ensures.updates in
          let items = c.push_reserved.ensures.items ∙ ap (λ (es : List Entry). es ++ (text, table.size) ∷ []) c.in_ok-reserve.ensures.items in
          let longer : List Entry = table.entries.items ++ (text, table.size) ∷ [] in
          record {
            whole =
                subst (λ (es : List Entry). IsTable es c.if-is_open.self.1.1.0.items c.if-is_open.self.1.1.1.0 c.saturating_add-self.result) (sym items)
                (subst (λ s. IsTable longer s.1.1.0.items s.1.1.1.0 c.saturating_add-self.result) (sym w.self-is) whole);
          })
    ]
