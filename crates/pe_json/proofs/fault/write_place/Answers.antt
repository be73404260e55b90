use Rattle.json.specs.Print.{escape_byte}
use Rattle.pe_text.proofs.Adding.{◌then◌}
use Rattle.pe_json.specs.JsonText.{with_commas, member, object, address_string}
use Rattle.pe_json.specs.Refused.{place_object}
use Rattle.pe_json.proofs.fault.write_place.Goals as goal

pub returns-in-File : goal.returns-in-File
unfolding place_object object with_commas member escape_byte
returns-in-File g c = rw c.in-File.is (c.text.ensures then c.decimal.ensures then c.text-in-File.ensures)

pub returns-in-Rva : goal.returns-in-Rva
unfolding place_object object with_commas member escape_byte
returns-in-Rva g c = rw c.in-Rva.is (c.text-in-Rva.ensures then c.decimal-in-Rva.ensures then c.text-in-Rva-2.ensures)

pub returns-in-Address : goal.returns-in-Address
unfolding place_object object with_commas member address_string escape_byte
returns-in-Address g c = rw c.in-Address.is (c.text-in-Address.ensures then c.hex.ensures then c.text-in-Address-2.ensures then c.text-in-Address-3.ensures)

pub returns-in-Item : goal.returns-in-Item
unfolding place_object object with_commas member escape_byte
returns-in-Item g c = rw c.in-Item.is (c.text-in-Item.ensures then c.decimal-in-Item.ensures then c.text-in-Item-2.ensures)
