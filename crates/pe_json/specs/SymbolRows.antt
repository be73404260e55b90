-- The symbols of an image in a line of JSON: rows as those of an object.
use Rattle.std.specs.Prelude.{ℕ, Bool, true, false, not, ◌||◌, List, [], ◌∷◌, ◌==◌, codes, map}
use Rattle.pe_head.specs.declared.headers.Headers.{Headers}
use Rattle.coff_read.specs.ImageSymbols.{image_symbols}
use Rattle.coff_read.specs.Forms.{Plain}
use Rattle.coff_read.specs.Records.{Symbol}
use Rattle.pe_json.specs.JsonText.{member, list}
use Rattle.pe_json.specs.ObjectLine.{symbol_row}

abbrev pub indexed_row : ℕ × Symbol → List ℕ
indexed_row item = symbol_row Plain item.0 item.1

-- the member that lists symbols, unless it is left out
unfoldable pub symbols_unless : Bool → List (ℕ × Symbol) → List (List ℕ)
symbols_unless true symbols = []
symbols_unless false symbols = member (codes "symbols") (list (map indexed_row symbols)) ∷ []

-- the same: it is left out if it is not wanted, and if the image has no symbol table
abbrev pub symbol_members : Bool → List ℕ → Headers → List (List ℕ)
symbol_members wanted file h = symbols_unless (not wanted || (h.pointer_to_symbol_table == 0)) (image_symbols file h)
