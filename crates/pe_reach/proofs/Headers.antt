-- Files that agree before the end of the headers have the same headers.
use Rattle.std.proofs.Common.{◌≡◌, ℕ, zero, suc, ◌+◌, ◌-◌, ◌*◌, ◌<◌, ◌≤◌, Bool, List, length, None, Some, refl, sym, ◌∙◌, ap, ap₂, arith, drop}
use Rattle.std.specs.Prelude.{◌==◌, min, map, if◌then◌else◌}
use Rattle.std.specs.List.{range_with_len}
use Rattle.std.proofs.lemmas.List.{ext_get_or, length-take, length-drop, get_or-take, get_or-drop}
use Rattle.pe_view.specs.Number.{num, byte_of, part}
use Rattle.pe_head.specs.declared.optional.Magic.TheVariants.{Pe32, Pe32Plus}
use Rattle.pe_head.specs.declared.directory.Directory.{Directory}
use Rattle.pe_head.specs.Head.{head_of, pe_offset, coff_field, field, either_field, is_pe32, optional_start, directory_count, directory_at, section_start, section_at}
use Rattle.pe_parts.proofs.Numbers.{map_agrees}
use Rattle.pe_reach.specs.Reach.{AgreeBefore, headers_end}

-- a number before an end
pub num_agrees : (end : ℕ) (b c : ℕ → ℕ) → ((k : ℕ) → k < end → b k ≡ c k) → (place width : ℕ) → place + width ≤ end → num b place width ≡ num c place width
num_agrees end b c same place zero le = refl
num_agrees end b c same place (suc width) le =
    ap₂ (λ x y. x + 256 * y) (same place (omega arith)) (num_agrees end b c same (place + 1) width (omega arith))

-- of two files: the numbers of g's headers before their end are f's
number_agrees : (f g : List ℕ) → AgreeBefore (headers_end g) f g → (place width : ℕ) → place + width ≤ headers_end g → num (byte_of f) place width ≡ num (byte_of g) place width
number_agrees f g a place width le = num_agrees (headers_end g) (byte_of f) (byte_of g) a.bytes place width le

pub pe_agrees : (f g : List ℕ) → AgreeBefore (headers_end g) f g → pe_offset f ≡ pe_offset g
pe_agrees f g a = number_agrees f g a 0x3c 4 (omega arith)

pub coff_agrees : (f g : List ℕ) → AgreeBefore (headers_end g) f g → (offset width : ℕ) → offset + width ≤ 20 → coff_field f offset width ≡ coff_field g offset width
coff_agrees f g a offset width le =
    ap (λ p. num (byte_of f) (p + 4 + offset) width) (pe_agrees f g a)
    ∙ number_agrees f g a (pe_offset g + 4 + offset) width (omega arith)

pub field_agrees : (f g : List ℕ) → AgreeBefore (headers_end g) f g → (offset width : ℕ) → offset + width ≤ 240 → field f offset width ≡ field g offset width
field_agrees f g a offset width le =
    ap (λ p. num (byte_of f) (p + 24 + offset) width) (pe_agrees f g a)
    ∙ number_agrees f g a (optional_start g + offset) width (omega arith)

pub pe32_agrees : (f g : List ℕ) → AgreeBefore (headers_end g) f g → is_pe32 f ≡ is_pe32 g
pe32_agrees f g a = ap (λ n. n == 0x10b) (field_agrees f g a 0 2 (omega arith))

choose : Bool → ℕ → ℕ → ℕ
choose b m n = if b then m else n

choose_agrees : {A : Type 0} (b c : Bool) (m m' n n' : A) → b ≡ c → m ≡ m' → n ≡ n' → (if b then m else n) ≡ (if c then m' else n')
choose_agrees b c m m' n n' e p q = λ i. if e i then p i else q i

pub either_agrees : (f g : List ℕ) → AgreeBefore (headers_end g) f g → (o w o' w' : ℕ) → o + w ≤ 240 → o' + w' ≤ 240 → either_field f o w o' w' ≡ either_field g o w o' w'
either_agrees f g a o w o' w' le le' =
    choose_agrees (is_pe32 f) (is_pe32 g) (field f o w) (field g o w) (field f o' w') (field g o' w') (pe32_agrees f g a) (field_agrees f g a o w le) (field_agrees f g a o' w' le')

pub count_agrees : (f g : List ℕ) → AgreeBefore (headers_end g) f g → directory_count f ≡ directory_count g
count_agrees f g a = ap (λ n. min n 16) (either_agrees f g a 92 4 108 4 (omega arith) (omega arith))

directory_agrees : (f g : List ℕ) → AgreeBefore (headers_end g) f g → (k : ℕ) → k < 16 → directory_at f k ≡ directory_at g k
directory_agrees f g a k lt =
    ap₂ (λ (r s : ℕ). let d : Directory = record { rva = r; size = s } in d)
    (either_agrees f g a (96 + 8 * k) 4 (112 + 8 * k) 4 (omega arith) (omega arith))
    (either_agrees f g a (96 + 8 * k + 4) 4 (112 + 8 * k + 4) 4 (omega arith) (omega arith))

directories_agree : (f g : List ℕ) → AgreeBefore (headers_end g) f g → map (directory_at f) (range_with_len 0 (directory_count f)) ≡ map (directory_at g) (range_with_len 0 (directory_count g))
directories_agree f g a =
    ap (λ n. map (directory_at f) (range_with_len 0 n)) (count_agrees f g a)
    ∙ map_agrees (directory_at f) (directory_at g) 0 (directory_count g) (λ k le lt. directory_agrees f g a k (omega arith))

start_agrees : (f g : List ℕ) → AgreeBefore (headers_end g) f g → (k : ℕ) → section_start f k ≡ section_start g k
start_agrees f g a k = ap₂ (λ p n. p + 24 + n + 40 * k) (pe_agrees f g a) (coff_agrees f g a 16 2 (omega arith))

rooms : (end m n offset len : ℕ) → min m end ≡ min n end → offset + len ≤ end → min len (m - offset) ≡ min len (n - offset)
rooms end m n offset len same le = omega arith

-- the bytes of a part
pub part_agrees : (end : ℕ) (f g : List ℕ) → AgreeBefore end f g → (offset len : ℕ) → offset + len ≤ end → part f offset len ≡ part g offset len
part_agrees end f g a offset len le =
    ext_get_or 0 (part f offset len) (part g offset len)
    (length-take len (drop offset f) ∙ ap (min len) (length-drop offset f) ∙ rooms end (length f) (length g) offset len a.tails le ∙ sym (length-take len (drop offset g) ∙ ap (min len) (length-drop offset g)))
    (λ k lt.
    let small : k < len = omega (arith, length-take len (drop offset f), lt) in
    get_or-take len (drop offset f) k 0 small ∙ get_or-drop offset f k 0
    ∙ a.bytes (offset + k) (omega arith)
    ∙ sym (get_or-take len (drop offset g) k 0 small ∙ get_or-drop offset g k 0))

section_agrees : (f g : List ℕ) → AgreeBefore (headers_end g) f g → (k : ℕ) → k < coff_field g 2 2 → section_at f k ≡ section_at g k
section_agrees f g a k lt =
    let start = start_agrees f g a k in
    let number : (o w : ℕ) → o + w ≤ 40 → num (byte_of f) (section_start f k + o) w ≡ num (byte_of g) (section_start g k + o) w =
    λ o w le. ap (λ s. num (byte_of f) (s + o) w) start ∙ number_agrees f g a (section_start g k + o) w (omega arith) in
    let name : part f (section_start f k) 8 ≡ part g (section_start g k) 8 =
    ap (λ s. part f s 8) start ∙ part_agrees (headers_end g) f g a (section_start g k) 8 (omega arith) in
    λ i. record {
      name = name i;
      virtual_size = number 8 4 (omega arith) i;
      virtual_address = number 12 4 (omega arith) i;
      size_of_raw_data = number 16 4 (omega arith) i;
      pointer_to_raw_data = number 20 4 (omega arith) i;
      pointer_to_relocations = number 24 4 (omega arith) i;
      pointer_to_linenumbers = number 28 4 (omega arith) i;
      number_of_relocations = number 32 2 (omega arith) i;
      number_of_linenumbers = number 34 2 (omega arith) i;
      characteristics = number 36 4 (omega arith) i;
    }

sections_agree : (f g : List ℕ) → AgreeBefore (headers_end g) f g → map (section_at f) (range_with_len 0 (coff_field f 2 2)) ≡ map (section_at g) (range_with_len 0 (coff_field g 2 2))
sections_agree f g a =
    ap (λ n. map (section_at f) (range_with_len 0 n)) (coff_agrees f g a 2 2 (omega arith))
    ∙ map_agrees (section_at f) (section_at g) 0 (coff_field g 2 2) (λ k le lt. section_agrees f g a k (omega arith))

-- the headers
pub headers_agree : (f g : List ℕ) → AgreeBefore (headers_end g) f g → head_of f ≡ head_of g
headers_agree f g a = λ i. record {
  magic = if pe32_agrees f g a i then Pe32 else Pe32Plus;
  pe_offset = pe_agrees f g a i;
  -- from describe/records.txt: agreeing of headers
  machine = coff_agrees f g a 0 2 (omega arith) i;
  number_of_sections = coff_agrees f g a 2 2 (omega arith) i;
  time_date_stamp = coff_agrees f g a 4 4 (omega arith) i;
  pointer_to_symbol_table = coff_agrees f g a 8 4 (omega arith) i;
  number_of_symbols = coff_agrees f g a 12 4 (omega arith) i;
  size_of_optional_header = coff_agrees f g a 16 2 (omega arith) i;
  characteristics = coff_agrees f g a 18 2 (omega arith) i;
  major_linker_version = field_agrees f g a 2 1 (omega arith) i;
  minor_linker_version = field_agrees f g a 3 1 (omega arith) i;
  size_of_code = field_agrees f g a 4 4 (omega arith) i;
  size_of_initialized_data = field_agrees f g a 8 4 (omega arith) i;
  size_of_uninitialized_data = field_agrees f g a 12 4 (omega arith) i;
  address_of_entry_point = field_agrees f g a 16 4 (omega arith) i;
  base_of_code = field_agrees f g a 20 4 (omega arith) i;
  base_of_data = if pe32_agrees f g a i then Some (field_agrees f g a 24 4 (omega arith) i) else None;
  image_base = either_agrees f g a 28 4 24 8 (omega arith) (omega arith) i;
  section_alignment = field_agrees f g a 32 4 (omega arith) i;
  file_alignment = field_agrees f g a 36 4 (omega arith) i;
  major_operating_system_version = field_agrees f g a 40 2 (omega arith) i;
  minor_operating_system_version = field_agrees f g a 42 2 (omega arith) i;
  major_image_version = field_agrees f g a 44 2 (omega arith) i;
  minor_image_version = field_agrees f g a 46 2 (omega arith) i;
  major_subsystem_version = field_agrees f g a 48 2 (omega arith) i;
  minor_subsystem_version = field_agrees f g a 50 2 (omega arith) i;
  win32_version_value = field_agrees f g a 52 4 (omega arith) i;
  size_of_image = field_agrees f g a 56 4 (omega arith) i;
  size_of_headers = field_agrees f g a 60 4 (omega arith) i;
  check_sum = field_agrees f g a 64 4 (omega arith) i;
  subsystem = field_agrees f g a 68 2 (omega arith) i;
  dll_characteristics = field_agrees f g a 70 2 (omega arith) i;
  size_of_stack_reserve = either_agrees f g a 72 4 72 8 (omega arith) (omega arith) i;
  size_of_stack_commit = either_agrees f g a 76 4 80 8 (omega arith) (omega arith) i;
  size_of_heap_reserve = either_agrees f g a 80 4 88 8 (omega arith) (omega arith) i;
  size_of_heap_commit = either_agrees f g a 84 4 96 8 (omega arith) (omega arith) i;
  loader_flags = either_agrees f g a 88 4 104 4 (omega arith) (omega arith) i;
  number_of_rva_and_sizes = either_agrees f g a 92 4 108 4 (omega arith) (omega arith) i;
  -- end of describe/records.txt
  directories = record { items = directories_agree f g a i };
  sections = record { items = sections_agree f g a i };
}
