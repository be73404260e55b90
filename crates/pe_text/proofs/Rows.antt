-- Lines as the definitions give them, written out.
use Rattle.std.proofs.Common.{◌≡◌, [], ◌∷◌, refl, codes}
use Rattle.std.specs.Fmt.{digits}
use Rattle.pe_view.specs.declared.fault.Place.TheVariants.{File, Rva, Address, Item}
use Rattle.pe_text.specs.FaultLine.{place_text, fault_words, fault_line, cycle_line}
use Rattle.pe_text.specs.FaultWords.{rules, sentence}
use Rattle.pe_text.specs.Field.{field, field_line}
use Rattle.pe_text.specs.MachineLine.{machine_line}
use Rattle.pe_head.specs.Names.{machine_names}
use Rattle.pe_text.specs.Text.{hex, width_from, escaped, quoted}

no_bytes : fault_line (record { number = 2; image = 0; place = File 0 }) ≡ codes "fault 2 image 0 file 0x00000000\n"
unfolding fault_line fault_words place_text hex width_from digits
no_bytes = refl

too_long : fault_line (record { number = 1; image = 0; place = File 0x100000000 }) ≡ codes "fault 1 image 0 file 0x100000000\n"
unfolding fault_line fault_words place_text hex width_from digits
too_long = refl

at_rva : fault_line (record { number = 36; image = 12; place = Rva 0x2ffc }) ≡ codes "fault 36 image 12 rva 0x00002ffc\n"
unfolding fault_line fault_words place_text hex width_from digits
at_rva = refl

-- a cycle of two forwarders
cycle_of_two : cycle_line (record { number = 50; image = 2; place = Rva 0x1030 }) 2 ≡ codes "fault 50 image 2 rva 0x00001030 cycle 2\n"
unfolding cycle_line fault_words place_text hex width_from digits
cycle_of_two = refl

at_address : place_text (Address 0x180000000) ≡ codes "address 0x0000000180000000"
unfolding place_text hex
at_address = refl

at_item : place_text (Item 256) ≡ codes "item 256"
unfolding place_text digits
at_item = refl

i386 : machine_line 0x14c ≡ codes "Machine 0x014c I386\n"
unfolding machine_line machine_names hex
i386 = refl

amd64 : machine_line 0x8664 ≡ codes "Machine 0x8664 AMD64\n"
unfolding machine_line machine_names hex
amd64 = refl

arm64 : machine_line 0xaa64 ≡ codes "Machine 0xaa64 ARM64\n"
unfolding machine_line machine_names hex
arm64 = refl

arm : machine_line 0x1c0 ≡ codes "Machine 0x01c0 ARM\n"
unfolding machine_line machine_names hex
arm = refl

armnt : machine_line 0x1c4 ≡ codes "Machine 0x01c4 ARMNT\n"
unfolding machine_line machine_names hex
armnt = refl

other_machine : machine_line 0xabc ≡ codes "Machine 0x0abc other\n"
unfolding machine_line machine_names hex
other_machine = refl

wide_field : field_line (field (codes "ImageBase") 8 0x140000000) ≡ codes "ImageBase 0x0000000140000000\n"
unfolding field_line hex
wide_field = refl

escapes : quoted (0x41 ∷ 0x22 ∷ 0x5c ∷ 0x1f ∷ 0x20 ∷ 0x7e ∷ 0x7f ∷ 0xff ∷ []) ≡ codes "\"A\\x22\\x5c\\x1f ~\\x7f\\xff\""
unfolding quoted escaped hex
escapes = refl

-- faults in words
in_words : sentence (record { number = 13; image = 0; place = File 0x138 }) ≡ codes "section header at 0x138: the section's raw data extends past the end of the file"
unfolding rules digits
in_words = refl

in_words_of_an_item : sentence (record { number = 42; image = 12; place = Item 12 }) ≡ codes "file 12: its module has the same name as an earlier one"
unfolding rules digits
in_words_of_an_item = refl
