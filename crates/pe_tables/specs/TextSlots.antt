-- Places for strings that are to come. No contract of a public function cites it.
use Rattle.std.specs.Prelude.{◌≡◌, ℕ, ◌&&◌, All, Bool, List, Option, None, Some, is_none, if◌then◌else◌}
use Rattle.std.specs.Borrow.{Bor}
use Rattle.std.specs.Str.{bytes_eq}
use Rattle.pe_tables.specs.TextMap.{found}
use Rattle.pe_tables.specs.TextMapView.{entries_in}
use Rattle.pe_tables.specs.declared.key.Target.{Target}
use Rattle.pe_tables.specs.declared.text_map.TextMap.{TextMap}
use Rattle.pe_tables.specs.declared.text_slots.TextSlots.{TextSlots}

-- what was added for a string that has a place, or else what a map has for it
abbrev pub slot_or : {X : Type 0} → Option (Option X) → Option X → Option X
slot_or (Some slot) other = slot
slot_or None other = other

-- each of these strings has what a map has for it
abbrev pub HoldAs : {A : Type 0} → TextMap A → List (Bor (List ℕ) × Option (Option Target)) → Type 0
HoldAs map slots = All (λ slot. slot.1 ≡ found slot.0.now (entries_in map)) slots

-- with these places each string has what a map has for it
abbrev pub AreSlotsOf : {A : Type 0} → TextMap A → TextSlots A → Type 0
AreSlotsOf map slots = (text : List ℕ) → slot_or (found text slots.slots.items) (found text (entries_in map)) ≡ found text (entries_in map)

-- a string that has a place was added there, unless it was before
abbrev pub Fills : {A : Type 0} → List ℕ → Option Target → TextSlots A → TextSlots A → Option Bool → Type 0
Fills text target old new None = (found text old.slots.items ≡ None) × (new.slots ≡ old.slots)
Fills text target old new (Some is_new) =
    (slot : Option (Option Target)) × (found text old.slots.items ≡ Some slot) × (is_new ≡ is_none slot)
    × ((other : List ℕ) → found other new.slots.items ≡ (if is_new && bytes_eq other text then Some (Some target) else found other old.slots.items))
