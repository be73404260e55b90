use Rattle.pe_text.specs.FaultLine.{place_text}
use Rattle.pe_text.proofs.Adding.{◌then◌}
use Rattle.pe_text.proofs.fault_line.write_place.Goals as goal

pub returns-in-File : goal.returns-in-File
unfolding place_text
returns-in-File g c = rw c.in-File.is (c.text.ensures then c.hex_at_least.ensures)

pub returns-in-Rva : goal.returns-in-Rva
unfolding place_text
returns-in-Rva g c = rw c.in-Rva.is (c.text-in-Rva.ensures then c.hex.ensures)

pub returns-in-Address : goal.returns-in-Address
unfolding place_text
returns-in-Address g c = rw c.in-Address.is (c.text-in-Address.ensures then c.hex-in-Address.ensures)

pub returns-in-Item : goal.returns-in-Item
unfolding place_text
returns-in-Item g c = rw c.in-Item.is (c.text-in-Item.ensures then c.decimal.ensures)
