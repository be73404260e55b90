-- Sets with delay-loaded imports by the definitions, as examples.
use Rattle.std.proofs.Common.{◌≡◌, ℕ, ◌-◌, false, List, [], ◌∷◌, Some, None, drop, get_or, length, refl}
use Rattle.std.specs.Prelude.{◌==◌, codes, if◌then◌else◌}
use Rattle.pe_view.specs.declared.fault.Place.TheVariants.{Rva}
use Rattle.pe_view.specs.Text.{zero_ended}
use Rattle.pe_head.specs.declared.optional.Magic.TheVariants.{Pe32}
use Rattle.pe_layout.specs.Image.{LaidOut}
use Rattle.pe_tables.specs.Imports.{Import}
use Rattle.pe_tables.specs.Key.{Key, Ordinal, Name, Target, Forward}
use Rattle.pe_tables.specs.Key as keys
use Rattle.pe_tables.specs.declared.fixups.Fixup.{Fixup}
use Rattle.pe_tables.specs.declared.fixups.FixupKind.TheVariants.{Bits32, Low}
use Rattle.pe_set.specs.Bindings.{bindings_of}
use Rattle.pe_set.specs.DelayedImports.{delayed_in, fields_beside, slot_ranges, with_delayed, with_own_slots}
use Rattle.pe_set.specs.Search.{resolve}
use Rattle.pe_set.specs.Set.{Module}
use Rattle.pe_set.specs.SetErrors.{imports_errors}
use Rattle.pe_set.specs.declared.error.MapError.TheVariants as errors
use Rattle.pe_set.specs.declared.entry.Policy.TheVariants.{Strict}

-- at 4 a descriptor, and one that ends the table; at 0x44 a name table of `fg` and of ordinal 0x107; at 0x54 `A.DLL`, at 0x5a a hint
-- and `fg`; the slots are at 0x90
abbrev held : List ℕ
held =
    0xf1 ∷ 0xf2 ∷ 0xf3 ∷ 0xf4
    ∷ 0x01 ∷ 0x00 ∷ 0x00 ∷ 0x00 ∷ 0x54 ∷ 0x00 ∷ 0x00 ∷ 0x00 ∷ 0x11 ∷ 0x12 ∷ 0x13 ∷ 0x14 ∷ 0x90 ∷ 0x00 ∷ 0x00 ∷ 0x00
    ∷ 0x44 ∷ 0x00 ∷ 0x00 ∷ 0x00 ∷ 0x21 ∷ 0x22 ∷ 0x23 ∷ 0x24 ∷ 0x31 ∷ 0x32 ∷ 0x33 ∷ 0x34 ∷ 0x41 ∷ 0x42 ∷ 0x43 ∷ 0x44
    ∷ 0x00 ∷ 0x00 ∷ 0x00 ∷ 0x00 ∷ 0x00 ∷ 0x00 ∷ 0x00 ∷ 0x00 ∷ 0x00 ∷ 0x00 ∷ 0x00 ∷ 0x00 ∷ 0x00 ∷ 0x00 ∷ 0x00 ∷ 0x00
    ∷ 0x00 ∷ 0x00 ∷ 0x00 ∷ 0x00 ∷ 0x00 ∷ 0x00 ∷ 0x00 ∷ 0x00 ∷ 0x00 ∷ 0x00 ∷ 0x00 ∷ 0x00 ∷ 0x00 ∷ 0x00 ∷ 0x00 ∷ 0x00
    ∷ 0x5a ∷ 0x00 ∷ 0x00 ∷ 0x00 ∷ 0x07 ∷ 0x01 ∷ 0x00 ∷ 0x80 ∷ 0x00 ∷ 0x00 ∷ 0x00 ∷ 0x00 ∷ 0x5a ∷ 0x00 ∷ 0x00 ∷ 0x00
    ∷ 0x41 ∷ 0x2e ∷ 0x44 ∷ 0x4c ∷ 0x4c ∷ 0x00 ∷ 0x02 ∷ 0x03 ∷ 0x66 ∷ 0x67 ∷ 0x00 ∷ []

-- an image of 0xa0 bytes, of which the file holds those
abbrev image : LaidOut
image = record {
  number = 1;
  size = 0xa0;
  byte = λ rva. get_or held rva 0;
  raw_left = λ rva. length held - rva;
  text = λ rva. zero_ended (drop rva held);
  directory = λ k. if k == 13 then Some (record { rva = 4; size = 0x40 }) else None;
  slot_width = 4;
  image_base = 0x400000;
  is_stripped = false;
}

-- it has these imports and fixups
abbrev delaying : List Import → List Fixup → Module
delaying imports fixups =
    record { name = codes "c.exe"; base = 0x400000; magic = Pe32; image = image; exports = record { ordinals = []; names = []; name_ordinals = [] }; imports = imports; fixups = fixups }

-- `a.dll` exports ordinal 0x107, and this by `fg`
abbrev exporting : Target → Module
exporting target = record {
  name = codes "a.dll";
  base = 0x10000000;
  magic = Pe32;
  image = record image { number = 0; size = 0x3000; directory = λ _. None };
  exports = record { ordinals = (0x107, keys.Rva 0x1004) ∷ []; names = (codes "fg", target) ∷ []; name_ordinals = [] };
  imports = [];
  fixups = [];
}

abbrev import : Key → ℕ → Import
import key slot = record { module_name = codes "A.DLL"; key = key; slot = slot }

abbrev by_name : Import
by_name = import (Name (codes "fg")) 0x90

abbrev by_ordinal : Import
by_ordinal = import (Ordinal 0x107) 0x94

abbrev set : Target → List Import → List Fixup → List Module
set target imports fixups = exporting target ∷ delaying imports fixups ∷ []

-- ---- which are bound
both : delayed_in (set (keys.Rva 0x1010) [] []) (delaying [] []) ≡ by_name ∷ by_ordinal ∷ []
unfolding resolve
both = refl

-- the module is not in the set
no_module : delayed_in (delaying [] [] ∷ []) (delaying [] []) ≡ []
unfolding resolve
no_module = refl

-- a forwarder leaves the set
forwarded_out : delayed_in (set (Forward (codes "b") (Ordinal 7)) [] []) (delaying [] []) ≡ by_ordinal ∷ []
unfolding resolve
forwarded_out = refl

-- a forwarder runs in a cycle, which is a fault
in_a_cycle : imports_errors Strict (with_delayed (set (Forward (codes "a") (Name (codes "fg"))) [] []))
    ≡ errors.Cycle (record { number = 50; image = 1; place = Rva 0x90 }) 1 ∷ []
unfolding resolve imports_errors with_delayed
in_a_cycle = refl

-- the last byte of an import's slot is the first of the first one
shared_slot : with_own_slots image (import (Ordinal 1) 0x8d ∷ []) ≡ by_ordinal ∷ []
shared_slot = refl

-- it ends before it
next_slot : with_own_slots image (import (Ordinal 1) 0x8c ∷ []) ≡ by_name ∷ by_ordinal ∷ []
next_slot = refl

-- ---- what they change
bound_too : bindings_of (with_delayed (set (keys.Rva 0x1010) [] []))
    ≡ record { image = 1; slot = 0x90; exporter = 0; rva = 0x1010 } ∷ record { image = 1; slot = 0x94; exporter = 0; rva = 0x1004 } ∷ []
unfolding resolve bindings_of with_delayed
bound_too = refl

abbrev field : ℕ → Fixup
field rva = record { entry = 0x1000; field = rva; kind = Bits32 }

-- the fields from 0x8d to 0x93 share a byte with the slot at 0x90
fields_left : fields_beside (slot_ranges 4 (by_name ∷ [])) (field 0x8c ∷ field 0x8d ∷ field 0x90 ∷ field 0x93 ∷ field 0x94 ∷ []) ≡ field 0x8c ∷ field 0x94 ∷ []
fields_left = refl

-- one of two bytes
half_left : fields_beside (slot_ranges 4 (by_name ∷ [])) (record (field 0x8e) { kind = Low } ∷ record (field 0x8f) { kind = Low } ∷ []) ≡ record (field 0x8e) { kind = Low } ∷ []
half_left = refl
