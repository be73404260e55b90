-- Imports that are bound to nothing by the definition, as examples.
use Rattle.std.proofs.Common.{◌≡◌, ℕ, false, List, [], ◌∷◌, None, refl, codes}
use Rattle.pe_head.specs.declared.optional.Magic.TheVariants.{Pe32}
use Rattle.pe_layout.specs.Image.{LaidOut}
use Rattle.pe_tables.specs.Imports.{Import}
use Rattle.pe_tables.specs.Key.{Key, Ordinal, Name, Target, Forward}
use Rattle.pe_tables.specs.Key as keys
use Rattle.pe_set.specs.Search.{resolve}
use Rattle.pe_set.specs.Set.{Module}
use Rattle.pe_unbound.specs.Unbound.{unbound_of}

-- an image of 0x3000 zero bytes
abbrev image : ℕ → LaidOut
image number = record {
  number = number;
  size = 0x3000;
  byte = λ _. 0;
  raw_left = λ _. 0;
  text = λ _. None;
  directory = λ _. None;
  slot_width = 4;
  image_base = 0x400000;
  is_stripped = false;
}

abbrev with_tables : ℕ → List ℕ → List (ℕ × Target) → List (List ℕ × Target) → List Import → Module
with_tables number name ordinals names imports =
    record { name = name; base = 0x400000; magic = Pe32; image = image number; exports = record { ordinals = ordinals; names = names; name_ordinals = [] }; imports = imports; fixups = [] }

abbrev import : List ℕ → Key → ℕ → Import
import name key slot = record { module_name = name; key = key; slot = slot }

-- `b.dll`, which exports the ordinals 5 and 7
abbrev exporting : ℕ → Module
exporting number = with_tables number (codes "b.dll") ((5, keys.Rva 0x1004) ∷ (7, keys.Rva 0x1010) ∷ []) [] []

-- `a.dll`, which forwards `f` to ordinal 7 of `b`
abbrev forwarding : Module
forwarding = with_tables 0 (codes "a.dll") [] ((codes "f", Forward (codes "b") (Ordinal 7)) ∷ []) []

abbrev f_of_a : Import
f_of_a = import (codes "A.DLL") (Name (codes "f")) 0x1030

-- the forwarder leads to a module that is not there: the import is told as it is written
led_to_nothing : unbound_of (forwarding ∷ with_tables 1 (codes "c.exe") [] [] (f_of_a ∷ []) ∷ []) ≡ (1, f_of_a) ∷ []
unfolding unbound_of resolve
led_to_nothing = refl

-- with that module it is bound
led_on : unbound_of (forwarding ∷ with_tables 1 (codes "c.exe") [] [] (f_of_a ∷ []) ∷ exporting 2 ∷ []) ≡ []
unfolding unbound_of resolve
led_on = refl

abbrev first_of_d : Import
first_of_d = import (codes "d.dll") (Ordinal 1) 0x1034

abbrev g_of_d : Import
g_of_d = import (codes "D.dll") (Name (codes "g")) 0x1028

-- between bound ones, in the order of the imports and not of the slots
in_order : unbound_of (exporting 0 ∷ with_tables 1 (codes "c.exe") [] [] (import (codes "b.dll") (Ordinal 7) 0x1038 ∷ first_of_d ∷ import (codes "B.dll") (Ordinal 5) 0x102c ∷ g_of_d ∷ []) ∷ [])
    ≡ (1, first_of_d) ∷ (1, g_of_d) ∷ []
unfolding unbound_of resolve
in_order = refl

-- by image
by_image : unbound_of (with_tables 0 (codes "c.exe") [] [] (g_of_d ∷ []) ∷ exporting 1 ∷ with_tables 2 (codes "e.exe") [] [] (f_of_a ∷ import (codes "b.dll") (Ordinal 5) 0x1028 ∷ []) ∷ [])
    ≡ (0, g_of_d) ∷ (2, f_of_a) ∷ []
unfolding unbound_of resolve
by_image = refl
