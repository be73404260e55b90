-- Sets of images: named files with bases, and the contents of the files.
use Rattle.std.specs.Prelude.{◌≡◌, ℕ, ◌+◌, ◌==◌, Bool, List, [], ◌∷◌, ◌++◌, Option, if◌then◌else◌, position, map}
use Rattle.std.specs.List.{list_any}
use Rattle.std.specs.Str.{str_eq_ignore_ascii_case}
use Rattle.pe_head.specs.declared.optional.Magic.{Magic}
use Rattle.pe_head.specs.Head.{head_of}
use Rattle.pe_layout.specs.Image.{LaidOut, image_of_file}
use Rattle.pe_tables.specs.Exports.{Exports, exports_of}
use Rattle.pe_tables.specs.Imports.{Import, imports_of}
use Rattle.pe_tables.specs.Fixups.{fixups_of}
use Rattle.pe_tables.specs.declared.fixups.Fixup.{Fixup}
use Rattle.pe_set.specs.Placement.{Placement}

-- an image as the caller passes it
pub record Entry : Type 0 where
  pub name : List ℕ
  pub file : List ℕ
  pub base : ℕ

-- an image of a set: its name, its base, and the contents of its file
pub record Module : Type 0 where
  pub name : List ℕ
  pub base : ℕ
  pub magic : Magic
  pub image : LaidOut
  pub exports : Exports
  pub imports : List Import
  pub fixups : List Fixup

-- an image with the tables in its bytes
abbrev pub module_from : List ℕ → ℕ → Magic → LaidOut → Module
module_from name base magic image = record {
  name = name;
  base = base;
  magic = magic;
  image = image;
  exports = exports_of image;
  imports = imports_of image;
  fixups = fixups_of image;
}

abbrev pub module_of : ℕ → Entry → Module
module_of n e = module_from e.name e.base (head_of e.file).magic (image_of_file n e.file)

-- the images of entries, of which the first has the number n
abbrev pub modules_from : ℕ → List Entry → List Module
modules_from n [] = []
modules_from n (e ∷ es) = module_of n e ∷ modules_from (n + 1) es

-- the images of a set, numbered from 0
unfoldable pub modules_of : List Entry → List Module
modules_of es = modules_from 0 es

-- where an image of a set is
abbrev pub placement_of : Module → Placement
placement_of m = record {
  base = m.base;
  size = m.image.size;
  magic = m.magic;
  image_base = m.image.image_base;
  is_stripped = m.image.is_stripped;
}

-- the bases of entries
abbrev pub bases_of : List Entry → List ℕ
bases_of es = map (λ (e : Entry). e.base) es

-- the same entries at these bases; those after the last base keep their own
abbrev pub at_bases : List ℕ → List Entry → List Entry
at_bases [] es = es
at_bases (base ∷ bases) [] = []
at_bases (base ∷ bases) (e ∷ es) = record e { base = base } ∷ at_bases bases es

-- the same images at these bases; those after the last base keep their own
abbrev pub rebased : List ℕ → List Module → List Module
rebased [] s = s
rebased (base ∷ bases) [] = []
rebased (base ∷ bases) (m ∷ s) = record m { base = base } ∷ rebased bases s

-- image by image, two sets have the same names, exports and imports
abbrev pub AreAlike : List Module → List Module → Type 0
AreAlike [] [] = Unit {0}
AreAlike [] (n ∷ t) = ⊥
AreAlike (m ∷ s) [] = ⊥
AreAlike (m ∷ s) (n ∷ t) = (m.name ≡ n.name) × (m.exports ≡ n.exports) × (m.imports ≡ n.imports) × AreAlike s t

-- names of modules match without regard to the case of ASCII letters
abbrev pub same_name : List ℕ → List ℕ → Bool
same_name a b = str_eq_ignore_ascii_case a b

-- the number of the image that a name names
abbrev pub named : List Module → List ℕ → Option ℕ
named s name = position (λ (m : Module). same_name name m.name) s

-- the module that a forwarder names: `.dll` is appended if its name has no dot
abbrev pub forwarded_name : List ℕ → List ℕ
forwarded_name name = if list_any (λ byte. byte == 46) name then name else name ++ 46 ∷ 100 ∷ 108 ∷ 108 ∷ []
