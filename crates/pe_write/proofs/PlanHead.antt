-- The headers of a written file are the plan's.
use Rattle.std.proofs.Common.{◌≡◌, ℕ, ◌+◌, Bool, true, false, cond, List, length, Some, None, refl, sym, ap, ◌∙◌, subst, arith}
use Rattle.std.specs.Prelude.{◌==◌, if◌then◌else◌}
use Rattle.std.specs.List.{AllByRecursion}
use Rattle.pe_view.specs.Number.{num, byte_of}
use Rattle.pe_numbers.specs.declared.number.Number.{Number}
use Rattle.pe_numbers.specs.declared.number.Number.TheVariants.{U8, U16, U32, U64}
use Rattle.pe_numbers.specs.Numbers.{NumberFits, width_of, value_of, beginning_at, numbers_bytes}
use Rattle.pe_numbers.specs.StandsAt.{StandsAt}
use Rattle.pe_numbers.specs.ReadBack.{number_read}
use Rattle.pe_head.specs.declared.optional.Magic.{Magic}
use Rattle.pe_head.specs.declared.optional.Magic.TheVariants.{Pe32, Pe32Plus}
use Rattle.pe_head.specs.Head.{pe_offset, coff_field, field, is_pe32, magic_of, either_field}
use Rattle.pe_write.specs.declared.plan.Plan.{Plan}
use Rattle.pe_head.specs.Optional.{magic_number}
use Rattle.pe_write.specs.PlanHeaders.{header_numbers, optional_size, base_of_data_of}

-- every header field before the directories
pub record Read {A : Type 0} (plan : Plan A) (g : List ℕ) : Type 0 where
  pub mz : num (byte_of g) 0 2 ≡ 0x5a4d
  pub signature : num (byte_of g) (pe_offset g) 4 ≡ 0x4550
  pub number_of_magic : field g 0 2 ≡ magic_number plan.magic
  pub p : pe_offset g ≡ 0x40
  pub magic : magic_of g ≡ plan.magic
  -- from describe/records.txt: values of headers
  pub machine : coff_field g 0 2 ≡ plan.machine
  pub number_of_sections : coff_field g 2 2 ≡ length plan.sections.items
  pub time_date_stamp : coff_field g 4 4 ≡ plan.time_stamp
  pub pointer_to_symbol_table : coff_field g 8 4 ≡ 0
  pub number_of_symbols : coff_field g 12 4 ≡ 0
  pub size_of_optional_header : coff_field g 16 2 ≡ optional_size plan.magic
  pub characteristics : coff_field g 18 2 ≡ plan.characteristics
  pub major_linker_version : field g 2 1 ≡ 0
  pub minor_linker_version : field g 3 1 ≡ 0
  pub size_of_code : field g 4 4 ≡ 0
  pub size_of_initialized_data : field g 8 4 ≡ 0
  pub size_of_uninitialized_data : field g 12 4 ≡ 0
  pub address_of_entry_point : field g 16 4 ≡ plan.entry
  pub base_of_code : field g 20 4 ≡ 0
  pub base_of_data : (if is_pe32 g then Some (field g 24 4) else None) ≡ base_of_data_of plan.magic
  pub image_base : either_field g 28 4 24 8 ≡ plan.image_base
  pub section_alignment : field g 32 4 ≡ plan.section_alignment
  pub file_alignment : field g 36 4 ≡ plan.file_alignment
  pub major_operating_system_version : field g 40 2 ≡ 0
  pub minor_operating_system_version : field g 42 2 ≡ 0
  pub major_image_version : field g 44 2 ≡ 0
  pub minor_image_version : field g 46 2 ≡ 0
  pub major_subsystem_version : field g 48 2 ≡ 0
  pub minor_subsystem_version : field g 50 2 ≡ 0
  pub win32_version_value : field g 52 4 ≡ 0
  pub size_of_image : field g 56 4 ≡ plan.size_of_image
  pub size_of_headers : field g 60 4 ≡ plan.size_of_headers
  pub check_sum : field g 64 4 ≡ 0
  pub subsystem : field g 68 2 ≡ plan.subsystem
  pub dll_characteristics : field g 70 2 ≡ plan.dll_characteristics
  pub size_of_stack_reserve : either_field g 72 4 72 8 ≡ 0
  pub size_of_stack_commit : either_field g 76 4 80 8 ≡ 0
  pub size_of_heap_reserve : either_field g 80 4 88 8 ≡ 0
  pub size_of_heap_commit : either_field g 84 4 96 8 ≡ 0
  pub loader_flags : either_field g 88 4 104 4 ≡ 0
  pub number_of_rva_and_sizes : either_field g 92 4 108 4 ≡ 16
  -- end of describe/records.txt

by_form : (P : Magic → Type 0) → P Pe32 → P Pe32Plus → (m : Magic) → P m
by_form P narrow wide Pe32 = narrow
by_form P narrow wide Pe32Plus = wide

-- a field by the form
pub either_is : (b : Bool) (m : Magic) (x y v : ℕ) → cond b Pe32 Pe32Plus ≡ m → (m ≡ Pe32 → x ≡ v) → (m ≡ Pe32Plus → y ≡ v) → cond b x y ≡ v
either_is true m x y v is one other = one (sym is)
either_is false m x y v is one other = other (sym is)

form_of : (m : Magic) → cond (magic_number m == 0x10b) Pe32 Pe32Plus ≡ m
form_of Pe32 = refl
form_of Pe32Plus = refl

data_of : (m : Magic) (b : Bool) (x : ℕ) → cond b Pe32 Pe32Plus ≡ m → (m ≡ Pe32 → x ≡ 0) → cond b (Some x) None ≡ base_of_data_of m
data_of Pe32 true x is zero_is = ap Some (zero_is refl)
data_of Pe32 false x is zero_is = absurd cc
data_of Pe32Plus true x is zero_is = absurd cc
data_of Pe32Plus false x is zero_is = refl

module _ {A : Type 0} (plan : Plan A) (g : List ℕ) (fits : AllByRecursion NumberFits (header_numbers plan)) (there : StandsAt g 0 (numbers_bytes (header_numbers plan))) where
  -- the numbers of the plan, by its form
  abbrev formed : Magic → List Number
  formed m = header_numbers (record plan { magic = m })

  at : (o place : ℕ) (x : Number) → 0 + o ≡ place → beginning_at (header_numbers plan) o ≡ Some x → num (byte_of g) place (width_of x) ≡ value_of x
  at o place x is written = ap (λ (p : ℕ). num (byte_of g) p (width_of x)) (sym is) ∙ number_read g 0 (header_numbers plan) o x fits there written

  p-is : pe_offset g ≡ 0x40
  p-is = at 0x3c 0x3c (U32 0x40) refl refl

  coff-is : (o : ℕ) (x : Number) (place : ℕ) → 0 + place ≡ 0x40 + 4 + o → beginning_at (header_numbers plan) place ≡ Some x → coff_field g o (width_of x) ≡ value_of x
  coff-is o x place is written = ap (λ (p : ℕ). num (byte_of g) (p + 4 + o) (width_of x)) p-is ∙ at place (0x40 + 4 + o) x is written

  field-is : (o : ℕ) (x : Number) (place : ℕ) → 0 + place ≡ 0x40 + 24 + o → beginning_at (header_numbers plan) place ≡ Some x → field g o (width_of x) ≡ value_of x
  field-is o x place is written = ap (λ (p : ℕ). num (byte_of g) (p + 24 + o) (width_of x)) p-is ∙ at place (0x40 + 24 + o) x is written

  magic-is : magic_of g ≡ plan.magic
  magic-is = ap (λ (v : ℕ). cond (v == 0x10b) Pe32 Pe32Plus) (field-is 0 (U16 (magic_number plan.magic)) 0x58 refl refl) ∙ form_of plan.magic

  -- a field at the same offset in both forms
  same-is : (o : ℕ) (x : Number) (place : ℕ) → 0 + place ≡ 0x40 + 24 + o → beginning_at (formed Pe32) place ≡ Some x → beginning_at (formed Pe32Plus) place ≡ Some x → field g o (width_of x) ≡ value_of x
  same-is o x place is narrow wide = field-is o x place is (by_form (λ m. beginning_at (formed m) place ≡ Some x) narrow wide plan.magic)

  in_form : (m : Magic) (o : ℕ) (x : Number) (place : ℕ) → 0 + place ≡ 0x40 + 24 + o → beginning_at (formed m) place ≡ Some x → plan.magic ≡ m → field g o (width_of x) ≡ value_of x
  in_form m o x place is written form = field-is o x place is (subst (λ (m : Magic). beginning_at (formed m) place ≡ Some x) (sym form) written)

  -- a field at two offsets
  form-is : (o p : ℕ) (x y : Number) (v : ℕ) → value_of x ≡ v → value_of y ≡ v → beginning_at (formed Pe32) (0x58 + o) ≡ Some x → beginning_at (formed Pe32Plus) (0x58 + p) ≡ Some y
      → either_field g o (width_of x) p (width_of y) ≡ v
  form-is o p x y v narrow wide one other =
      either_is (is_pe32 g) plan.magic _ _ v magic-is
      (λ m. in_form Pe32 o x (0x58 + o) (omega arith) one m ∙ narrow)
      (λ m. in_form Pe32Plus p y (0x58 + p) (omega arith) other m ∙ wide)

  -- the fields of a file that begins with the plan's numbers
  pub read : Read plan g
  read = record {
    mz = at 0 0 (U16 0x5a4d) refl refl;
    signature = ap (λ (p : ℕ). num (byte_of g) p 4) p-is ∙ at 0x40 0x40 (U32 0x4550) refl refl;
    number_of_magic = field-is 0 (U16 (magic_number plan.magic)) 0x58 refl refl;
    p = p-is;
    magic = magic-is;
    -- from describe/records.txt: reading of headers
    machine = coff-is 0 (U16 plan.machine) 0x44 refl refl;
    number_of_sections = coff-is 2 (U16 (length plan.sections.items)) 0x46 refl refl;
    time_date_stamp = coff-is 4 (U32 plan.time_stamp) 0x48 refl refl;
    pointer_to_symbol_table = coff-is 8 (U32 0) 0x4c refl refl;
    number_of_symbols = coff-is 12 (U32 0) 0x50 refl refl;
    size_of_optional_header = coff-is 16 (U16 (optional_size plan.magic)) 0x54 refl refl;
    characteristics = coff-is 18 (U16 plan.characteristics) 0x56 refl refl;
    major_linker_version = field-is 2 (U8 0) 0x5a refl refl;
    minor_linker_version = field-is 3 (U8 0) 0x5b refl refl;
    size_of_code = field-is 4 (U32 0) 0x5c refl refl;
    size_of_initialized_data = field-is 8 (U32 0) 0x60 refl refl;
    size_of_uninitialized_data = field-is 12 (U32 0) 0x64 refl refl;
    address_of_entry_point = field-is 16 (U32 plan.entry) 0x68 refl refl;
    base_of_code = field-is 20 (U32 0) 0x6c refl refl;
    base_of_data = data_of plan.magic (is_pe32 g) (field g 24 4) magic-is (in_form Pe32 24 (U32 0) 0x70 refl refl);
    image_base = form-is 28 24 (U32 plan.image_base) (U64 plan.image_base) plan.image_base refl refl refl refl;
    section_alignment = same-is 32 (U32 plan.section_alignment) 0x78 refl refl refl;
    file_alignment = same-is 36 (U32 plan.file_alignment) 0x7c refl refl refl;
    major_operating_system_version = same-is 40 (U16 0) 0x80 refl refl refl;
    minor_operating_system_version = same-is 42 (U16 0) 0x82 refl refl refl;
    major_image_version = same-is 44 (U16 0) 0x84 refl refl refl;
    minor_image_version = same-is 46 (U16 0) 0x86 refl refl refl;
    major_subsystem_version = same-is 48 (U16 0) 0x88 refl refl refl;
    minor_subsystem_version = same-is 50 (U16 0) 0x8a refl refl refl;
    win32_version_value = same-is 52 (U32 0) 0x8c refl refl refl;
    size_of_image = same-is 56 (U32 plan.size_of_image) 0x90 refl refl refl;
    size_of_headers = same-is 60 (U32 plan.size_of_headers) 0x94 refl refl refl;
    check_sum = same-is 64 (U32 0) 0x98 refl refl refl;
    subsystem = same-is 68 (U16 plan.subsystem) 0x9c refl refl refl;
    dll_characteristics = same-is 70 (U16 plan.dll_characteristics) 0x9e refl refl refl;
    size_of_stack_reserve = form-is 72 72 (U32 0) (U64 0) 0 refl refl refl refl;
    size_of_stack_commit = form-is 76 80 (U32 0) (U64 0) 0 refl refl refl refl;
    size_of_heap_reserve = form-is 80 88 (U32 0) (U64 0) 0 refl refl refl refl;
    size_of_heap_commit = form-is 84 96 (U32 0) (U64 0) 0 refl refl refl refl;
    loader_flags = form-is 88 104 (U32 0) (U32 0) 0 refl refl refl refl;
    number_of_rva_and_sizes = form-is 92 108 (U32 16) (U32 16) 16 refl refl refl refl;
    -- end of describe/records.txt
  }
