-- Where the names of an object are in its string table. No contract of a public function cites it.
use Rattle.std.specs.Prelude.{◌≡◌, ℕ, Bool, List, map, if◌then◌else◌}
use Rattle.coff_read.specs.Names.{is_long, is_long_section_name}
use Rattle.coff_read.specs.Records.{Section, Symbol, Object}
use Rattle.coff_read.specs.Strings.{offset_of}
use Rattle.coff_object.specs.StringTableView.{counted}
use Rattle.coff_object.specs.StringTableWords.{texts_in}
use Rattle.coff_object.specs.Written.{strings_of}
use Rattle.coff_object.specs.declared.layout.NamePlaces.{NamePlaces}

-- the offset of a name, or 0 if it is short and stored in its record
abbrev pub place_of : (List ℕ → Bool) → List (List ℕ) → List ℕ → ℕ
place_of is_long strings name = if is_long name then counted (offset_of strings name) else 0

abbrev pub section_places : List (List ℕ) → List Section → List ℕ
section_places strings sections = map (λ (s : Section). place_of is_long_section_name strings s.name) sections

abbrev pub symbol_places : List (List ℕ) → List Symbol → List ℕ
symbol_places strings symbols = map (λ (s : Symbol). place_of is_long strings s.name) symbols

-- the string table of an object, with the offsets of its names
pub record ArePlacesOf {A : Type 0} (o : Object) (places : NamePlaces A) : Type 0 where
  pub texts : texts_in places.strings ≡ strings_of o
  pub sections : places.sections.items ≡ section_places (strings_of o) o.sections
  pub symbols : places.symbols.items ≡ symbol_places (strings_of o) o.symbols
