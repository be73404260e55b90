-- Examples: plans of small files, computed.
use Rattle.std.proofs.Common.{◌≡◌, ℕ, ◌<◌, ◌^◌, List, [], ◌∷◌, ◌++◌, length, replicate, Some, None, refl, arith}
use denote.RawPtr.{Ptr}
use Rattle.std.specs.Prelude.{map}
use Rattle.std.specs.List.{range_with_len}
use Rattle.pe_view.specs.declared.fault.Place.TheVariants.{Item}
use Rattle.pe_view.specs.Faults.{first_standing}
use Rattle.pe_view.specs.Number.{part}
use Rattle.pe_head.specs.declared.optional.Magic.TheVariants.{Pe32, Pe32Plus}
use Rattle.pe_head.specs.declared.section.SectionHeader.{SectionHeader}
use Rattle.pe_head.specs.V1.{v1, zeros}
use Rattle.pe_write.specs.declared.plan.PlanSection.{PlanSection}
use Rattle.pe_write.specs.declared.plan.Plan.{Plan}
use Rattle.pe_write.specs.PlanFaults.{places_tests, plan_tests}
use Rattle.pe_write.specs.PlanHeaders.{plan_file, planned}
use Rattle.pe_numbers.specs.Numbers.{number_bytes}
use Rattle.pe_write.specs.PlanFile.{headers_from, file_end}

-- a section; the address of its slice of raw data does not matter
abbrev section : List ℕ → ℕ → ℕ → List ℕ → PlanSection
section name size rva bytes = record { name = name; virtual_size = size; virtual_address = rva; raw = record { ref_ptr = (0, 0); now = bytes }; flags = 0xc0000040 }

-- .data at 0x1000, with 16 of its 512 bytes in the image
abbrev data_section : List ℕ → PlanSection
data_section bytes = section (0x2e ∷ 0x64 ∷ 0x61 ∷ 0x74 ∷ 0x61 ∷ 0 ∷ 0 ∷ 0 ∷ []) 0x10 0x1000 bytes

abbrev ascending : List ℕ
ascending = range_with_len 0 256 ++ range_with_len 0 256

-- an empty section, one byte, a full alignment, and a byte more
abbrev of_sizes : List PlanSection
of_sizes = section (zeros 8) 0 0x1000 [] ∷ section (zeros 8) 0 0x1000 (7 ∷ []) ∷ section (zeros 8) 0 0x2000 (zeros 512) ∷ section (zeros 8) 0 0x3000 (zeros 513) ∷ []

pointers : map (λ (h : SectionHeader). h.pointer_to_raw_data) (headers_from 0x200 0x1f0 of_sizes) ≡ 0 ∷ 0x200 ∷ 0x400 ∷ 0x600 ∷ []
pointers = refl

sizes : map (λ (h : SectionHeader). h.size_of_raw_data) (headers_from 0x200 0x1f0 of_sizes) ≡ 0 ∷ 0x200 ∷ 0x200 ∷ 0x400 ∷ []
sizes = refl

file_ends : file_end 0x200 0x1f0 of_sizes ≡ 0xa00
file_ends = refl

module _ {A : Type 0} (place : Ptr) (alloc : A) where
  abbrev plan_of : (sections : List PlanSection) → length sections < 2 ^ 63 → Plan A
  plan_of sections small = record {
    magic = Pe32;
    machine = 0x14c;
    time_stamp = 0;
    characteristics = 0x2102;
    entry = 0;
    image_base = 0x10000000;
    section_alignment = 0x1000;
    file_alignment = 0x200;
    size_of_image = 0x3000;
    size_of_headers = 0x200;
    subsystem = 0;
    dll_characteristics = 0;
    directories = replicate 16 (record { rva = 0; size = 0 });
    sections = record { ptr = place; len = length sections; cap = length sections; alloc = alloc; items = sections; ok = (refl, omega arith); small = small };
  }

  abbrev plan : Plan A
  plan = plan_of (data_section ascending ∷ []) (omega arith)

  v1_is_written : plan_file plan ≡ v1
  unfolding plan_file number_bytes
  v1_is_written = refl

  v1_is_fine : first_standing (plan_tests plan) ≡ None
  unfolding plan_tests places_tests
  v1_is_fine = refl

  without_alignment : first_standing (plan_tests (record plan { file_alignment = 0 })) ≡ Some (record { number = 53; image = 0; place = Item 0 })
  unfolding plan_tests places_tests
  without_alignment = refl

  at_4_gib : first_standing (plan_tests (record plan { image_base = 0x100000000 })) ≡ Some (record { number = 53; image = 0; place = Item 0 })
  unfolding plan_tests places_tests
  at_4_gib = refl

  -- one byte that begins at 2 GiB and is padded to 4 GiB, and one that begins a byte later
  at_most_4_gib : first_standing (plan_tests (record (plan_of (data_section (7 ∷ []) ∷ []) (omega arith)) { file_alignment = 0x80000000 })) ≡ None
  unfolding plan_tests places_tests
  at_most_4_gib = refl

  over_4_gib : first_standing (plan_tests (record (plan_of (data_section (7 ∷ []) ∷ []) (omega arith)) { file_alignment = 0x80000001 })) ≡ Some (record { number = 53; image = 0; place = Item 0 })
  unfolding plan_tests places_tests
  over_4_gib = refl

  -- the section's last byte in the image, and the next, which is in the file and not in the image
  last_byte : planned plan 0x100f ≡ 0x0f
  unfolding number_bytes
  last_byte = refl

  past_the_section : planned plan 0x1010 ≡ 0
  unfolding number_bytes
  past_the_section = refl

  -- the same as PE32+
  abbrev wide : Plan A
  wide = record plan { magic = Pe32Plus; image_base = 0x180000000 }

  wide_sizes : part (plan_file wide) 0x54 6 ≡ 0xf0 ∷ 0 ∷ 0x02 ∷ 0x21 ∷ 0x0b ∷ 0x02 ∷ []
  unfolding plan_file number_bytes
  wide_sizes = refl

  wide_base : part (plan_file wide) 0x70 8 ≡ 0 ∷ 0 ∷ 0 ∷ 0x80 ∷ 1 ∷ 0 ∷ 0 ∷ 0 ∷ []
  unfolding plan_file number_bytes
  wide_base = refl

  wide_count : part (plan_file wide) 0xc4 4 ≡ 16 ∷ 0 ∷ 0 ∷ 0 ∷ []
  unfolding plan_file number_bytes
  wide_count = refl

  wide_table : part (plan_file wide) 0x148 8 ≡ 0x2e ∷ 0x64 ∷ 0x61 ∷ 0x74 ∷ 0x61 ∷ 0 ∷ 0 ∷ 0 ∷ []
  unfolding plan_file number_bytes
  wide_table = refl
