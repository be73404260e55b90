-- Resource trees by the definitions, as examples ("PE Format", The .rsrc Section).
use Rattle.std.proofs.Common.{◌≡◌, ℕ, ◌-◌, false, List, [], ◌∷◌, ◌++◌, Some, None, get_or, length, refl}
use Rattle.std.specs.Prelude.{◌==◌, if◌then◌else◌}
use Rattle.pe_view.specs.Number.{little}
use Rattle.pe_view.specs.declared.fault.Fault.{Fault}
use Rattle.pe_view.specs.declared.fault.Place.TheVariants.{Rva}
use Rattle.pe_view.specs.Standing.{standing}
use Rattle.pe_layout.specs.Image.{LaidOut}
use Rattle.pe_resources.specs.Single.{version_of, manifest_of}
use Rattle.pe_resources.specs.Texts.{name_text_of}
use Rattle.pe_resources.specs.Walk.{leaves_of, resource_tests}
use Rattle.pe_resources.specs.declared.leaf.Leaf.{Leaf}

-- an image of 0x9000 bytes with these at 0x7000, where its resource directory is
abbrev image : List ℕ → LaidOut
image held = record {
  number = 7;
  size = 0x9000;
  byte = λ rva. get_or held (rva - 0x7000) 0;
  raw_left = λ rva. length held - (rva - 0x7000);
  text = λ _. None;
  directory = λ k. if k == 2 then Some (record { rva = 0x7000; size = 480 }) else None;
  slot_width = 8;
  image_base = 0x140000000;
  is_stripped = false;
}

abbrev found : ℕ → ℕ → Fault
found number rva = record { number = number; image = 7; place = Rva rva }

-- The tree of a real image, the launcher cli-64.exe of Python's setuptools. The values are those that pefile reads.
abbrev launcher : List ℕ
launcher =
    0 ∷ 0 ∷ 0 ∷ 0 ∷ 0 ∷ 0 ∷ 0 ∷ 0 ∷ 0 ∷ 0 ∷ 0 ∷ 0 ∷ 0 ∷ 0 ∷ 1 ∷ 0 ∷ 24 ∷ 0 ∷ 0 ∷ 0 ∷ 24 ∷ 0 ∷ 0 ∷ 128 ∷
    0 ∷ 0 ∷ 0 ∷ 0 ∷ 0 ∷ 0 ∷ 0 ∷ 0 ∷ 0 ∷ 0 ∷ 0 ∷ 0 ∷ 0 ∷ 0 ∷ 1 ∷ 0 ∷ 1 ∷ 0 ∷ 0 ∷ 0 ∷ 48 ∷ 0 ∷ 0 ∷ 128 ∷
    0 ∷ 0 ∷ 0 ∷ 0 ∷ 0 ∷ 0 ∷ 0 ∷ 0 ∷ 0 ∷ 0 ∷ 0 ∷ 0 ∷ 0 ∷ 0 ∷ 1 ∷ 0 ∷ 9 ∷ 4 ∷ 0 ∷ 0 ∷ 72 ∷ 0 ∷ 0 ∷ 0 ∷
    96 ∷ 112 ∷ 0 ∷ 0 ∷ 125 ∷ 1 ∷ 0 ∷ 0 ∷ 0 ∷ 0 ∷ 0 ∷ 0 ∷ 0 ∷ 0 ∷ 0 ∷ 0 ∷ []

abbrev manifest : Leaf
manifest = record { path = record { kind = Some 24; name = Some 1; language = Some 1033 }; rva = 28768; size = 381; code_page = 0 }

one_leaf : leaves_of (image launcher) ≡ manifest ∷ []
one_leaf = refl

no_finding : standing (resource_tests (image launcher)) ≡ []
no_finding = refl

its_manifest : manifest_of (image launcher) ≡ Some manifest
its_manifest = refl

no_version : version_of (image launcher) ≡ None
no_version = refl

-- Trees that break a rule. A directory with so many texts and ids, and an entry:
abbrev directory : ℕ → ℕ → List ℕ
directory texts ids = 0 ∷ 0 ∷ 0 ∷ 0 ∷ 0 ∷ 0 ∷ 0 ∷ 0 ∷ 0 ∷ 0 ∷ 0 ∷ 0 ∷ (little 2 texts ++ little 2 ids)

abbrev entry : ℕ → ℕ → List ℕ
entry name target = little 4 name ++ little 4 target

-- 15 bytes of a root
no_root : standing (resource_tests (image (0 ∷ 0 ∷ 0 ∷ 0 ∷ 0 ∷ 0 ∷ 0 ∷ 0 ∷ 0 ∷ 0 ∷ 0 ∷ 0 ∷ 0 ∷ 0 ∷ 0 ∷ []))) ≡ found 181 0x7000 ∷ []
no_root = refl

-- a root of two entries, of which the run has none
no_entries : standing (resource_tests (image (directory 0 2))) ≡ found 182 0x7000 ∷ []
no_entries = refl

-- an entry with a text behind the run, and its data entry there
behind : standing (resource_tests (image (directory 1 0 ++ entry 0x80000030 0x40))) ≡ found 183 0x7030 ∷ found 184 0x7040 ∷ []
behind = refl

-- a root that leads to itself
circle : standing (resource_tests (image (directory 0 1 ++ entry 16 0x80000000))) ≡ found 185 0x7000 ∷ []
circle = refl

-- a data entry at the first level, and its data behind the image
early : standing (resource_tests (image (directory 0 1 ++ entry 5 24 ++ entry 0x8fff 2 ++ entry 0 0))) ≡ found 186 0x7018 ∷ found 188 0x7018 ∷ []
early = refl

early_leaf : leaves_of (image (directory 0 1 ++ entry 5 24 ++ entry 0x8fff 2 ++ entry 0 0))
    ≡ record { path = record { kind = Some 5; name = None; language = None }; rva = 0x8fff; size = 2; code_page = 0 } ∷ []
early_leaf = refl

-- a directory at the fourth level
deep : standing (resource_tests (image (directory 0 1 ++ entry 1 0x80000018 ++ directory 0 1 ++ entry 1 0x80000030 ++ directory 0 1 ++ entry 1 0x80000048))) ≡ found 187 0x7048 ∷ []
deep = refl

-- two ids that descend, and lead to one data entry
descending : standing (resource_tests (image (directory 0 2 ++ entry 2 32 ++ entry 1 32 ++ entry 0x7000 2 ++ entry 0 0)))
    ≡ found 189 0x7000 ∷ found 186 0x7020 ∷ found 186 0x7020 ∷ []
descending = refl

-- the text AB at 0x7010, and its units
text : name_text_of (image (directory 0 0 ++ 2 ∷ 0 ∷ 0x41 ∷ 0 ∷ 0x42 ∷ 0 ∷ [])) 0x80000010 ≡ Some (0x41 ∷ 0 ∷ 0x42 ∷ 0 ∷ [])
text = refl

no_text : name_text_of (image (directory 0 0 ++ 2 ∷ 0 ∷ 0x41 ∷ 0 ∷ 0x42 ∷ [])) 0x80000010 ≡ None
no_text = refl
