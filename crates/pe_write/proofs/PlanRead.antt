-- The headers of a written file are the plan's.
use Rattle.std.proofs.Common.{◌≡◌, ℕ, zero, suc, ◌+◌, ◌*◌, ◌<◌, List, [], ◌∷◌, ◌++◌, length, get_or, Some, refl, sym, ap, ◌∙◌, subst, arith, length-append}
use Rattle.std.specs.Prelude.{map, min}
use Rattle.std.specs.List.{flat_map, range_with_len, AllByRecursion}
use Rattle.std.proofs.lemmas.List.FromFn.{fill_by_all}
use Rattle.pe_view.specs.Number.{num, byte_of, part}
use Rattle.pe_numbers.specs.declared.number.Number.{Number}
use Rattle.pe_numbers.specs.declared.number.Number.TheVariants.{U16, U32}
use Rattle.pe_numbers.specs.Numbers.{NumberFits, width_of, beginning_at, numbers_bytes, numbers_size}
use Rattle.pe_numbers.specs.StandsAt.{StandsAt, stands-front, stands-back, stands_part, stands_each}
use Rattle.pe_numbers.specs.ReadBack.{number_read, length-numbers, size-append, bytes-append}
use Rattle.pe_head.specs.declared.optional.Magic.{Magic}
use Rattle.pe_head.specs.declared.optional.Magic.TheVariants.{Pe32, Pe32Plus}
use Rattle.pe_head.specs.declared.directory.Directory.{Directory}
use Rattle.pe_head.specs.declared.section.SectionHeader.{SectionHeader}
use Rattle.pe_head.specs.Head.{coff_field, is_pe32, either_field, directory_count, directory_at, section_start, section_at, head_of}
use Rattle.pe_head.specs.Optional.{fixed_size_of}
use Rattle.pe_write.specs.declared.plan.Plan.{Plan}
use Rattle.pe_write.specs.PlanHeaders.{directory_numbers, section_bytes, section_numbers, front_numbers, header_numbers, table_bytes, plan_sections, plan_headers, optional_size}
use Rattle.pe_write.specs.PlanFits.{IsRow, IsPlan}
use Rattle.pe_write.proofs.PlanHead.{Read, read, either_is}

-- the default of a list of headers
no_section : SectionHeader
no_section = record { name = []; virtual_size = 0; virtual_address = 0; size_of_raw_data = 0; pointer_to_raw_data = 0; pointer_to_relocations = 0; pointer_to_linenumbers = 0; number_of_relocations = 0; number_of_linenumbers = 0; characteristics = 0 }

no_directory : Directory
no_directory = record { rva = 0; size = 0 }

abbrev directory_bytes : Directory → List ℕ
directory_bytes d = numbers_bytes (directory_numbers d)

directories_bytes : (ds : List Directory) → numbers_bytes (flat_map directory_numbers ds) ≡ flat_map directory_bytes ds
directories_bytes [] = refl
directories_bytes (d ∷ ds) = bytes-append (directory_numbers d) (flat_map directory_numbers ds) ∙ ap (λ (xs : List ℕ). directory_bytes d ++ xs) (directories_bytes ds)

directories_size : (ds : List Directory) → numbers_size (flat_map directory_numbers ds) ≡ 8 * length ds
directories_size [] = refl
directories_size (d ∷ ds) = let e = directories_size ds in omega arith

each_behind : (xs ys : List Number) → AllByRecursion NumberFits (xs ++ ys) → AllByRecursion NumberFits ys
each_behind [] ys e = e
each_behind (x ∷ xs) ys e = each_behind xs ys e.1

each_directory : (ds : List Directory) → AllByRecursion NumberFits (flat_map directory_numbers ds) → AllByRecursion (λ d. AllByRecursion NumberFits (directory_numbers d)) ds
each_directory [] e = tt
each_directory (d ∷ ds) e = ((e.0, (e.1.0, tt)), each_directory ds e.1.1)

all_at : {X : Type 0} (P : X → Type 0) (xs : List X) (k : ℕ) (d : X) → AllByRecursion P xs → k < length xs → P (get_or xs k d)
all_at P [] k d all lt = absurd (omega arith)
all_at P (x ∷ xs) zero d all lt = all.0
all_at P (x ∷ xs) (suc k) d all lt = all_at P xs k d all.1 (omega arith)

front_size : {A : Type 0} (plan : Plan A) (m : Magic) → plan.magic ≡ m → numbers_size (front_numbers plan) ≡ 0x40 + 24 + fixed_size_of m
front_size {A = A} plan Pe32 is = let Size : Magic → Type 0 = λ m. (numbers_size (front_numbers (record plan { magic = m })) ≡ 0x40 + 24 + 96) in subst Size (sym is) refl
front_size {A = A} plan Pe32Plus is = let Size : Magic → Type 0 = λ m. (numbers_size (front_numbers (record plan { magic = m })) ≡ 0x40 + 24 + 112) in subst Size (sym is) refl

directory_by : (a b : ℕ) (d : Directory) → a ≡ d.rva → b ≡ d.size → d ≡ record { rva = a; size = b }
directory_by a b d rva size = rw (rva, size) refl

directory_made : (g : List ℕ) (k : ℕ) (d : Directory) → either_field g (96 + 8 * k) 4 (112 + 8 * k) 4 ≡ d.rva → either_field g (96 + 8 * k + 4) 4 (112 + 8 * k + 4) 4 ≡ d.size → d ≡ directory_at g k
directory_made g k d rva size = directory_by _ _ d rva size

section_by : (name : List ℕ) (a b c e f i j l m : ℕ) (s : SectionHeader) → name ≡ s.name → a ≡ s.virtual_size → b ≡ s.virtual_address → c ≡ s.size_of_raw_data → e ≡ s.pointer_to_raw_data → f ≡ s.pointer_to_relocations → i ≡ s.pointer_to_linenumbers → j ≡ s.number_of_relocations → l ≡ s.number_of_linenumbers → m ≡ s.characteristics
    → s ≡ record { name = name; virtual_size = a; virtual_address = b; size_of_raw_data = c; pointer_to_raw_data = e; pointer_to_relocations = f; pointer_to_linenumbers = i; number_of_relocations = j; number_of_linenumbers = l; characteristics = m }
section_by name a b c e f i j l m s p q r t u v w x y z = rw (p, q, r, t, u, v, w, x, y, z) refl

-- a row of the section table at an offset
section_made : (g : List ℕ) (at k : ℕ) (s : SectionHeader) → section_start g k ≡ at → IsRow s → StandsAt g at (section_bytes s) → s ≡ section_at g k
section_made g at k s start fits there =
    let name = fits.name in
    let ns : List Number = section_numbers s in
    let behind : StandsAt g (at + 8) (numbers_bytes ns) = stands-back g at (at + 8) s.name (numbers_bytes ns) there (omega (arith, name)) in
    let read = λ (o p : ℕ) (x : Number) (is : 8 + p ≡ o) (written : beginning_at ns p ≡ Some x).
    ap (λ (q : ℕ). num (byte_of g) (q + o) (width_of x)) start ∙ ap (λ (q : ℕ). num (byte_of g) q (width_of x)) (let e : at + o ≡ at + 8 + p = omega (arith, is) in e) ∙ number_read g (at + 8) ns p x fits.numbers behind written in
    section_by _ _ _ _ _ _ _ _ _ _ s
    (ap (λ (q : ℕ). part g q 8) start ∙ stands_part g at 8 s.name (stands-front g at s.name (numbers_bytes ns) there) (sym name))
    (read 8 0 (U32 s.virtual_size) refl refl) (read 12 4 (U32 s.virtual_address) refl refl) (read 16 8 (U32 s.size_of_raw_data) refl refl) (read 20 12 (U32 s.pointer_to_raw_data) refl refl)
    (read 24 16 (U32 s.pointer_to_relocations) refl refl) (read 28 20 (U32 s.pointer_to_linenumbers) refl refl) (read 32 24 (U16 s.number_of_relocations) refl refl)
    (read 34 26 (U16 s.number_of_linenumbers) refl refl) (read 36 28 (U32 s.characteristics) refl refl)

head_made : {A : Type 0} (plan : Plan A) (g : List ℕ) → Read plan g → map (directory_at g) (range_with_len 0 (directory_count g)) ≡ plan.directories → map (section_at g) (range_with_len 0 (coff_field g 2 2)) ≡ plan_sections plan → head_of g ≡ plan_headers plan
head_made plan g r directories sections = cc

pub length-section : (s : SectionHeader) → IsRow s → length (section_bytes s) ≡ 40
length-section s f = let n = f.name in omega (arith, length-append s.name (numbers_bytes (section_numbers s)), length-numbers (section_numbers s))

pub numbers_end : {A : Type 0} (plan : Plan A) → IsPlan plan → numbers_size (header_numbers plan) ≡ 0x40 + 24 + optional_size plan.magic
numbers_end plan fits =
    let whole = size-append (front_numbers plan) (flat_map directory_numbers plan.directories) in
    let front = front_size plan plan.magic refl in
    let back = directories_size plan.directories in
    let count = fits.directories in
    omega arith

-- a file that begins with the plan's headers
module _ {A : Type 0} (plan : Plan A) (g : List ℕ) (fits : IsPlan plan) (there : StandsAt g 0 (table_bytes plan)) where
  headers_there : StandsAt g 0 (numbers_bytes (header_numbers plan))
  headers_there = stands-front g 0 (numbers_bytes (header_numbers plan)) (flat_map section_bytes (plan_sections plan)) there

  pub all_read : Read plan g
  all_read = read plan g fits.numbers headers_there

  directories_there : StandsAt g (0x40 + 24 + fixed_size_of plan.magic) (flat_map directory_bytes plan.directories)
  directories_there =
      let front : List Number = front_numbers plan in
      let back : List Number = flat_map directory_numbers plan.directories in
      let size = front_size plan plan.magic refl in
      let len = length-numbers front in
      let both : StandsAt g 0 (numbers_bytes front ++ numbers_bytes back) = subst (λ (bs : List ℕ). StandsAt g 0 bs) (bytes-append front back) headers_there in
      subst (λ (bs : List ℕ). StandsAt g (0x40 + 24 + fixed_size_of plan.magic) bs) (directories_bytes plan.directories)
      (stands-back g 0 (0x40 + 24 + fixed_size_of plan.magic) (numbers_bytes front) (numbers_bytes back) both (omega (arith, size, len)))

  directory-is : (k : ℕ) → k < 16 → get_or plan.directories k no_directory ≡ directory_at g k
  directory-is k lt =
      let d : Directory = get_or plan.directories k no_directory in
      let count = fits.directories in
      let start : ℕ = 0x40 + 24 + fixed_size_of plan.magic + 8 * k in
      let ok = each_directory plan.directories (each_behind (front_numbers plan) (flat_map directory_numbers plan.directories) fits.numbers) in
      let here : StandsAt g start (directory_bytes d) =
      stands_each directory_bytes 8 (λ d. AllByRecursion NumberFits (directory_numbers d)) (λ x _. length-numbers (directory_numbers x)) g (0x40 + 24 + fixed_size_of plan.magic) k plan.directories no_directory ok directories_there (omega (arith, lt, count)) in
      let fit : AllByRecursion NumberFits (directory_numbers d) = all_at (λ d. AllByRecursion NumberFits (directory_numbers d)) plan.directories k no_directory ok (omega (arith, lt, count)) in
      let p = all_read.p in
      let at = λ (o q : ℕ) (x : Number) (e : 0x40 + 24 + o ≡ start + q) (written : beginning_at (directory_numbers d) q ≡ Some x).
      ap (λ (n : ℕ). num (byte_of g) (n + 24 + o) (width_of x)) p ∙ ap (λ (n : ℕ). num (byte_of g) n (width_of x)) e ∙ number_read g start (directory_numbers d) q x fit here written in
      let rva : either_field g (96 + 8 * k) 4 (112 + 8 * k) 4 ≡ d.rva = either_is (is_pe32 g) plan.magic _ _ d.rva all_read.magic
      (λ m. let f : fixed_size_of plan.magic ≡ 96 = ap fixed_size_of m in at (96 + 8 * k) 0 (U32 d.rva) (omega arith) refl)
      (λ m. let f : fixed_size_of plan.magic ≡ 112 = ap fixed_size_of m in at (112 + 8 * k) 0 (U32 d.rva) (omega arith) refl) in
      let size : either_field g (96 + 8 * k + 4) 4 (112 + 8 * k + 4) 4 ≡ d.size = either_is (is_pe32 g) plan.magic _ _ d.size all_read.magic
      (λ m. let f : fixed_size_of plan.magic ≡ 96 = ap fixed_size_of m in at (96 + 8 * k + 4) 4 (U32 d.size) (omega arith) refl)
      (λ m. let f : fixed_size_of plan.magic ≡ 112 = ap fixed_size_of m in at (112 + 8 * k + 4) 4 (U32 d.size) (omega arith) refl) in
      directory_made g k d rva size

  directories-are : map (directory_at g) (range_with_len 0 (directory_count g)) ≡ plan.directories
  directories-are =
      let count : directory_count g ≡ 16 = ap (λ (n : ℕ). min n 16) all_read.number_of_rva_and_sizes in
      ap (λ (n : ℕ). map (directory_at g) (range_with_len 0 n)) count
      ∙ sym (fill_by_all (directory_at g) plan.directories 16 no_directory fits.directories directory-is)

  section-is : (k : ℕ) → k < length (plan_sections plan) → get_or (plan_sections plan) k no_section ≡ section_at g k
  section-is k lt =
      let s : SectionHeader = get_or (plan_sections plan) k no_section in
      let table : ℕ = 0x40 + 24 + optional_size plan.magic in
      let r = all_read in
      let start : section_start g k ≡ table + 40 * k = ap (λ (p : ℕ). p + 24 + coff_field g 16 2 + 40 * k) r.p ∙ ap (λ (n : ℕ). 0x40 + 24 + n + 40 * k) r.size_of_optional_header in
      let len = length-numbers (header_numbers plan) in
      let end = numbers_end plan fits in
      let behind : StandsAt g table (flat_map section_bytes (plan_sections plan)) =
      stands-back g 0 table (numbers_bytes (header_numbers plan)) (flat_map section_bytes (plan_sections plan)) there (omega (arith, len, end)) in
      section_made g (table + 40 * k) k s start (all_at IsRow (plan_sections plan) k no_section fits.sections lt)
      (stands_each section_bytes 40 IsRow length-section g table k (plan_sections plan) no_section fits.sections behind lt)

  pub head-is : length (plan_sections plan) ≡ length plan.sections.items → head_of g ≡ plan_headers plan
  head-is count =
      let r = all_read in
      let sections : map (section_at g) (range_with_len 0 (coff_field g 2 2)) ≡ plan_sections plan =
      ap (λ (n : ℕ). map (section_at g) (range_with_len 0 n)) (r.number_of_sections ∙ sym count)
      ∙ sym (fill_by_all (section_at g) (plan_sections plan) (length (plan_sections plan)) no_section refl section-is) in
      head_made plan g r directories-are sections
