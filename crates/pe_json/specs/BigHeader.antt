-- The header of a big object in a line of JSON.
use Rattle.std.specs.Prelude.{List, [], ◌∷◌, ◌++◌, ℕ, codes}
use Rattle.pe_head.specs.Names.{name_in, machine_names}
use Rattle.coff_read.specs.declared.big_header.BigFileHeader.{BigFileHeader}
use Rattle.pe_json.specs.JsonText.{number, text_if}

unfoldable pub big_numbers : BigFileHeader → List (List ℕ)
big_numbers h =
    number (codes "version") h.version
    ∷ number (codes "number_of_sections") h.number_of_sections
    ∷ number (codes "time_date_stamp") h.time_date_stamp
    ∷ number (codes "pointer_to_symbol_table") h.pointer_to_symbol_table
    ∷ number (codes "number_of_symbols") h.number_of_symbols
    ∷ number (codes "size_of_data") h.size_of_data
    ∷ number (codes "flags") h.flags
    ∷ number (codes "meta_data_size") h.meta_data_size
    ∷ number (codes "meta_data_offset") h.meta_data_offset
    ∷ []

abbrev pub big_members : BigFileHeader → List (List ℕ)
big_members h = number (codes "machine") h.machine ∷ (text_if (codes "machine_name") (name_in machine_names h.machine) ++ big_numbers h)
