use Rattle.json.specs.Print.{escape_byte}
use Rattle.pe_json.specs.JsonText.{member}
use Rattle.pe_json.specs.ObjectLine.{section_of_symbol}
use Rattle.pe_json.proofs.symbols.write_section.Goals as goal

pub returns-in-Undefined : goal.returns-in-Undefined
unfolding section_of_symbol member escape_byte
returns-in-Undefined g c = rw c.in-Undefined.is c.text.ensures

pub returns-in-Absolute : goal.returns-in-Absolute
unfolding section_of_symbol member escape_byte
returns-in-Absolute g c = rw c.in-Absolute.is c.text-in-Absolute.ensures

pub returns-in-Debug : goal.returns-in-Debug
unfolding section_of_symbol member escape_byte
returns-in-Debug g c = rw c.in-Debug.is c.text-in-Debug.ensures

pub returns-in-Section : goal.returns-in-Section
unfolding section_of_symbol member escape_byte
returns-in-Section g c = rw c.in-Section.is c.write_number.ensures
