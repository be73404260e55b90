-- The data of an image's version information, and what is found of it.
use Rattle.std.specs.Prelude.{ℕ, List, [], Option, Some, None, option_and_then}
use Rattle.pe_view.specs.Faults.{Test}
use Rattle.pe_layout.specs.Image.{LaidOut}
use Rattle.pe_version.specs.Findings.{version_tests}
use Rattle.pe_resources.specs.Single.{version_of}
use Rattle.pe_resources.specs.Texts.{data_of}
use Rattle.pe_resources.specs.declared.leaf.Leaf.{Leaf}

-- the data of the leaf, where the file holds all of it in one run
abbrev pub version_data_of : LaidOut → Option (List ℕ)
version_data_of i = option_and_then (data_of i) (version_of i)

abbrev pub tests_of_data : LaidOut → ℕ → Option (List ℕ) → List Test
tests_of_data i rva None = []
tests_of_data i rva (Some bytes) = version_tests i.number rva bytes

abbrev pub tests_of_leaf : LaidOut → Option Leaf → List Test
tests_of_leaf i None = []
tests_of_leaf i (Some leaf) = tests_of_data i leaf.rva (data_of i leaf)

-- findings 211 to 214 of an image: none without version information whose data is held
abbrev pub image_version_tests : LaidOut → List Test
image_version_tests i = tests_of_leaf i (version_of i)
