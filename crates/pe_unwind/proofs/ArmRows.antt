-- Unwind records of ARM64 images by the definitions, as examples.
use Rattle.std.proofs.Common.{◌≡◌, true, false, [], ◌∷◌, Some, None, refl}
use Rattle.pe_layout.specs.Image.{LaidOut}
use Rattle.pe_unwind.specs.ArmRecord.{arm_code_at, arm_handler_of, arm_unwind_at, record_of}
use Rattle.pe_unwind.specs.declared.arm_unwind.ArmUnwind.{ArmUnwind}
use Rattle.pe_unwind.proofs.Rows.{image}

-- a function of 52 bytes with a handler, two epilogs and 16 bytes of codes, as LLVM assembles it
abbrev two_epilogs : LaidOut
two_epilogs = image
    (0x0d ∷ 0x00 ∷ 0x90 ∷ 0x20 ∷ 0x05 ∷ 0x00 ∷ 0x80 ∷ 0x01 ∷ 0x0a ∷ 0x00 ∷ 0xc0 ∷ 0x02 ∷ 0xd0 ∷ 0x01 ∷ 0x02 ∷ 0xe1
    ∷ 0x81 ∷ 0xe4 ∷ 0xd0 ∷ 0x01 ∷ 0x02 ∷ 0x81 ∷ 0xe4 ∷ 0x02 ∷ 0x81 ∷ 0xe4 ∷ 0xe3 ∷ 0xe3 ∷ 0x50 ∷ 0x13 ∷ 0x00 ∷ 0x00 ∷ [])

abbrev function_f : ArmUnwind
function_f = record {
  rva = 0x1000;
  function_length = 52;
  version = 0;
  has_data = true;
  has_single_epilog = false;
  is_extended = false;
  epilog_count = 2;
  code_words = 4;
}

fields : arm_unwind_at two_epilogs 0x1000 ≡ Some function_f
fields = refl

first_code : arm_code_at two_epilogs function_f 0 ≡ Some 0xd0
first_code = refl

fourth_code : arm_code_at two_epilogs function_f 3 ≡ Some 0xe1
fourth_code = refl

last_code : arm_code_at two_epilogs function_f 15 ≡ Some 0xe3
last_code = refl

no_more_codes : arm_code_at two_epilogs function_f 16 ≡ None
no_more_codes = refl

handler : arm_handler_of two_epilogs function_f ≡ Some 0x1350
handler = refl

-- each field has bits of its own
length_alone : record_of 0 0x0003ffff 0 ≡ record { rva = 0; function_length = 0xffffc; version = 0; has_data = false; has_single_epilog = false; is_extended = true; epilog_count = 0; code_words = 0 }
length_alone = refl

version_alone : record_of 0 0x000c0000 0 ≡ record { rva = 0; function_length = 0; version = 3; has_data = false; has_single_epilog = false; is_extended = true; epilog_count = 0; code_words = 0 }
version_alone = refl

data_alone : record_of 0 0x00100000 0 ≡ record { rva = 0; function_length = 0; version = 0; has_data = true; has_single_epilog = false; is_extended = true; epilog_count = 0; code_words = 0 }
data_alone = refl

single_alone : record_of 0 0x00200000 0 ≡ record { rva = 0; function_length = 0; version = 0; has_data = false; has_single_epilog = true; is_extended = true; epilog_count = 0; code_words = 0 }
single_alone = refl

epilogs_alone : record_of 0 0x07c00000 0xffffffff ≡ record { rva = 0; function_length = 0; version = 0; has_data = false; has_single_epilog = false; is_extended = false; epilog_count = 31; code_words = 0 }
epilogs_alone = refl

words_alone : record_of 0 0xf8000000 0xffffffff ≡ record { rva = 0; function_length = 0; version = 0; has_data = false; has_single_epilog = false; is_extended = false; epilog_count = 0; code_words = 31 }
words_alone = refl

-- of a second word: 16 bits, and eight
second_epilogs : record_of 0 0 0xff00ffff ≡ record { rva = 0; function_length = 0; version = 0; has_data = false; has_single_epilog = false; is_extended = true; epilog_count = 0xffff; code_words = 0 }
second_epilogs = refl

second_words : record_of 0 0 0xffff0000 ≡ record { rva = 0; function_length = 0; version = 0; has_data = false; has_single_epilog = false; is_extended = true; epilog_count = 0; code_words = 255 }
second_words = refl

-- a second word, one epilog, one word of codes and a handler
abbrev extended : LaidOut
extended = image
    (0x0d ∷ 0x00 ∷ 0x10 ∷ 0x00 ∷ 0x01 ∷ 0x00 ∷ 0x01 ∷ 0x00 ∷ 0x05 ∷ 0x00 ∷ 0x80 ∷ 0x01 ∷ 0xd1 ∷ 0xd2 ∷ 0xd3 ∷ 0xd4 ∷ 0x50 ∷ 0x13 ∷ 0x00 ∷ 0x00 ∷ [])

abbrev function_x : ArmUnwind
function_x = record {
  rva = 0x1000;
  function_length = 52;
  version = 0;
  has_data = true;
  has_single_epilog = false;
  is_extended = true;
  epilog_count = 1;
  code_words = 1;
}

extended_fields : arm_unwind_at extended 0x1000 ≡ Some function_x
extended_fields = refl

extended_code : arm_code_at extended function_x 0 ≡ Some 0xd1
extended_code = refl

extended_handler : arm_handler_of extended function_x ≡ Some 0x1350
extended_handler = refl

-- a single epilog has no word of its own
single_code : arm_code_at extended (record function_x { has_single_epilog = true }) 0 ≡ Some 0x05
single_code = refl

single_handler : arm_handler_of extended (record function_x { has_single_epilog = true }) ≡ Some 0xd4d3d2d1
single_handler = refl

without_data : arm_handler_of extended (record function_x { has_data = false }) ≡ None
without_data = refl

-- what is not in the image
cut_second : arm_unwind_at (image (0x0d ∷ 0x00 ∷ 0x10 ∷ 0x00 ∷ 0x01 ∷ 0x00 ∷ 0x01 ∷ [])) 0x1000 ≡ None
cut_second = refl

one_word : arm_unwind_at (image (0x00 ∷ 0x00 ∷ 0x40 ∷ 0x00 ∷ [])) 0x1000
    ≡ Some (record { rva = 0x1000; function_length = 0; version = 0; has_data = false; has_single_epilog = false; is_extended = false; epilog_count = 1; code_words = 0 })
one_word = refl

cut_first : arm_unwind_at (image (0x00 ∷ 0x00 ∷ 0x40 ∷ [])) 0x1000 ≡ None
cut_first = refl

cut_codes : arm_code_at extended (record function_x { code_words = 3 }) 0 ≡ None
cut_codes = refl

cut_handler : arm_handler_of extended (record function_x { code_words = 2 }) ≡ None
cut_handler = refl
