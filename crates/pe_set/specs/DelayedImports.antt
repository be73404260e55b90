-- Delay-loaded imports that are bound together with the imports of their image ("PE Format", Delay-Load Import Tables): those whose
-- modules the set has, and whose slots, in the delay import address table, are their own.
use Rattle.std.specs.Prelude.{ℕ, Bool, true, false, not, List, [], ◌∷◌, ◌++◌, map, take, filter, if◌then◌else◌}
use Rattle.pe_layout.specs.Image.{LaidOut}
use Rattle.pe_ranges.specs.Ranges.{meets_any}
use Rattle.pe_tables.specs.Fixups.{width_of}
use Rattle.pe_tables.specs.Imports.{Import}
use Rattle.pe_tables.specs.declared.fixups.Fixup.{Fixup}
use Rattle.pe_delay.specs.Imports.{delay_imports_of}
use Rattle.pe_set.specs.Numbered.{numbered}
use Rattle.pe_set.specs.Search.{resolve}
use Rattle.pe_set.specs.Set.{Module}
use Rattle.pe_set.specs.declared.search.Resolution.{Resolution}
use Rattle.pe_set.specs.declared.search.Resolution.TheVariants.{Bound, Missing, Unknown, Endless}

-- the bytes of the slots of imports, each of this width
abbrev pub slot_ranges : ℕ → List Import → List (ℕ × ℕ)
slot_ranges width imports = map (λ (x : Import). (x.slot, width)) imports

-- an import, if its slot of this width shares no byte with these ranges
abbrev pub if_apart : ℕ → List (ℕ × ℕ) → Import → List Import
if_apart width ranges x = if meets_any x.slot width ranges then [] else x ∷ []

-- delay-loaded import k of an image with these imports, if its slot shares no byte with theirs, nor with that of a delay-loaded
-- import before it
abbrev pub own_slot_at : LaidOut → List Import → ℕ → Import → List Import
own_slot_at i imports k x = if_apart i.slot_width (slot_ranges i.slot_width (imports ++ take k (delay_imports_of i))) x

-- the delay-loaded imports with slots of their own, in table order
abbrev pub with_own_slots : LaidOut → List Import → List Import
with_own_slots i imports = numbered (own_slot_at i imports) 0 (delay_imports_of i)

-- a search that ends so comes to no module that is not in its set
abbrev pub stays_inside : Resolution → Bool
stays_inside (Bound image rva) = true
stays_inside Missing = false
stays_inside Unknown = true
stays_inside (Endless length) = true

-- the imports whose searches do so
abbrev pub staying : List Module → List Import → List Import
staying s imports = filter (λ (x : Import). stays_inside (resolve s x.module_name x.key)) imports

-- the delay-loaded imports of an image that are bound, in table order
abbrev pub delayed_in : List Module → Module → List Import
delayed_in s m = staying s (with_own_slots m.image m.imports)

-- the fields that share no byte with these ranges
abbrev pub fields_beside : List (ℕ × ℕ) → List Fixup → List Fixup
fields_beside ranges fixups = filter (λ (f : Fixup). not (meets_any f.field (width_of f.kind) ranges)) fixups

-- an image with more imports, whose slots are no fields
abbrev pub with_imports : List Import → Module → Module
with_imports more m = record m {
  imports = m.imports ++ more;
  fixups = fields_beside (slot_ranges m.image.slot_width more) m.fixups;
}

-- the images of a set, each with its delay-loaded imports that are bound
unfoldable pub with_delayed : List Module → List Module
with_delayed s = map (λ (m : Module). with_imports (delayed_in s m) m) s
