-- Examples of lines of the report of a mapped set.
use Rattle.std.proofs.Common.{◌≡◌, ℕ, ◌%◌, [], Option, None, Some, refl, codes}
use Rattle.std.specs.Fmt.{digits}
use Rattle.pe_lines.specs.TableLines.{key_text}
use Rattle.pe_tables.specs.Key.{Ordinal, Name}
use Rattle.pe_text.specs.Text.{hex, escaped, quoted}
use Rattle.pe_map_lines.specs.MapReport.{image_line, bind_line, bytes_line, window_lines}
use Rattle.pe_map_lines.specs.UnboundImports.{unbound_line}

mapped_image : image_line 2 (codes "c.exe") 0x400000 0x3000 ≡ codes "image 2 \"c.exe\" base 0x0000000000400000 size 0x00003000\n"
unfolding image_line quoted escaped hex digits
mapped_image = refl

bound_slot : bind_line (record { image = 2; slot = 0x1030; exporter = 1; rva = 0x1010 }) 0x20001010 ≡ codes "bind 2 0x00001030 to 1 0x00001010 value 0x0000000020001010\n"
unfolding bind_line hex digits
bound_slot = refl

unbound_name : unbound_line (1, record { module_name = codes "A.DLL"; key = Name (codes "f"); slot = 0x1030 }) ≡ codes "unbound 1 0x00001030 \"A.DLL\" \"f\"\n"
unfolding unbound_line key_text quoted escaped hex digits
unbound_name = refl

unbound_ordinal : unbound_line (0, record { module_name = codes "b"; key = Ordinal 12; slot = 0x20004 }) ≡ codes "unbound 0 0x00020004 \"b\" #12\n"
unfolding unbound_line key_text quoted escaped hex digits
unbound_ordinal = refl

-- bytes equal to the lowest digits of their addresses
abbrev low_digit : ℕ → Option ℕ
low_digit a = Some (a % 256)

seventeen_bytes : window_lines low_digit (Some (0x10001000, 17)) ≡ codes "0x0000000010001000 00 01 02 03 04 05 06 07 08 09 0a 0b 0c 0d 0e 0f\n0x0000000010001010 10\n"
unfolding bytes_line hex
seventeen_bytes = refl

sixteen_bytes : window_lines low_digit (Some (0x100000008, 16)) ≡ codes "0x0000000100000008 08 09 0a 0b 0c 0d 0e 0f 10 11 12 13 14 15 16 17\n"
unfolding bytes_line hex
sixteen_bytes = refl

no_window : window_lines low_digit None ≡ []
no_window = refl

empty_window : window_lines low_digit (Some (7, 0)) ≡ []
empty_window = refl
