-- Which form an object needs, by its sections and the section numbers of its symbols.
use Rattle.std.specs.Prelude.{◌||◌, Bool, false, nat_lt, List, length}
use Rattle.std.specs.List.{list_any}
use Rattle.coff_read.specs.FormRecords.{last_number}
use Rattle.coff_read.specs.Forms.{Plain}
use Rattle.coff_read.specs.Records.{Section, Symbol}
use Rattle.coff_read.specs.declared.symbol.SymbolSection.{SymbolSection}
use Rattle.coff_read.specs.declared.symbol.SymbolSection.TheVariants as belongs
use Rattle.coff_object.specs.FormWriteFaults.{most_sections}

-- a section has a number that no symbol of a plain object has
abbrev pub is_past_number : SymbolSection → Bool
is_past_number belongs.Undefined = false
is_past_number belongs.Absolute = false
is_past_number belongs.Debug = false
is_past_number (belongs.Section number) = nat_lt (last_number Plain) number

abbrev pub is_past_plain : Symbol → Bool
is_past_plain s = is_past_number s.section

-- there are more sections than a plain object counts, or symbols in sections whose numbers none of its symbols has
abbrev pub needs_big_form : List Section → List Symbol → Bool
needs_big_form sections symbols = nat_lt (most_sections Plain) (length sections) || list_any is_past_plain symbols
