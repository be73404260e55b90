-- The line of a fault.
use Rattle.std.specs.Prelude.{List, ℕ, ◌++◌, codes, decimal}
use Rattle.pe_view.specs.declared.fault.Place.{Place}
use Rattle.pe_view.specs.declared.fault.Place.TheVariants.{File, Rva, Address, Item}
use Rattle.pe_view.specs.declared.fault.Fault.{Fault}
use Rattle.pe_text.specs.Text.{hex, hex_at_least}

-- the place of the fault; only a file offset may need more digits than the width here
unfoldable pub place_text : Place → List ℕ
place_text (File offset) = codes "file 0x" ++ hex_at_least 8 offset
place_text (Rva rva) = codes "rva 0x" ++ hex 8 rva
place_text (Address address) = codes "address 0x" ++ hex 16 address
place_text (Item item) = codes "item " ++ decimal item

-- the fault's number, image and place
unfoldable pub fault_words : Fault → List ℕ
fault_words fault = codes "fault " ++ decimal fault.number ++ codes " image " ++ decimal fault.image ++ codes " " ++ place_text fault.place

-- the whole line
unfoldable pub fault_line : Fault → List ℕ
fault_line fault = fault_words fault ++ codes "\n"

-- the line of a cycle of forwarders, with its length
unfoldable pub cycle_line : Fault → ℕ → List ℕ
cycle_line fault length = fault_words fault ++ codes " cycle " ++ decimal length ++ codes "\n"
