-- A written file has none of faults 1 to 15.
use Rattle.std.proofs.Common.{◌≡◌, ℕ, ◌+◌, ◌*◌, ◌^◌, ◌<◌, ◌≤◌, Bool, true, false, cond, List, length, None, refl, ap, ◌∙◌, arith}
use Rattle.std.specs.Prelude.{nat_lt, nat_le, ◌==◌, ◌&&◌, ◌||◌, min}
use Rattle.std.proofs.lemmas.Bool.{le-ltb, le-leb, or_from, and_from, ne_eqb, eq-eqb}
use Rattle.pe_view.specs.Number.{num, byte_of}
use Rattle.pe_view.specs.Faults.{first_standing}
use Rattle.pe_view.specs.FirstStanding.{first-past}
use Rattle.pe_head.specs.declared.optional.Magic.{Magic}
use Rattle.pe_head.specs.declared.optional.Magic.TheVariants.{Pe32, Pe32Plus}
use Rattle.pe_head.specs.Head.{head_of, pe_offset, coff_field, field, optional_start, fixed_size, directory_count, table_start, section_start}
use Rattle.pe_head.specs.HeaderFaults.{head_tests, has_field, directory_bytes}
use Rattle.pe_head.specs.Optional.{fixed_size_of}
use Rattle.pe_layout.specs.SectionFaults.{layout_tests, placing_tests}
use Rattle.pe_write.specs.declared.plan.Plan.{Plan}
use Rattle.pe_write.specs.PlanFaults.{table_end}
use Rattle.pe_head.specs.Optional.{magic_number}
use Rattle.pe_write.proofs.PlanHead.{Read}

-- a written file's length and numbers are within bounds
pub record Bounded {A : Type 0} (plan : Plan A) (n : ℕ) : Type 0 where
  pub most : n ≤ 2 ^ 32
  pub headers : plan.size_of_headers ≤ n
  pub few : length plan.sections.items ≤ 96
  pub some : 0 < plan.size_of_image
  pub small : plan.size_of_image ≤ 2 ^ 31
  pub table : table_end plan.magic (length plan.sections.items) ≤ plan.size_of_headers
  pub inside : plan.size_of_headers ≤ plan.size_of_image

known : (m : Magic) → (magic_number m == 0x10b || magic_number m == 0x20b) ≡ true
known Pe32 = refl
known Pe32Plus = refl

cond_most : (b : Bool) (n : ℕ) → cond b n 0 ≤ n
cond_most true n = omega arith
cond_most false n = omega arith

pub not_none : (n : ℕ) → 0 < n → (n == 0) ≡ false
not_none n some = ne_eqb n 0 (λ e. omega arith)

pub head_none : {A : Type 0} (plan : Plan A) (g : List ℕ) (image : ℕ) → Read plan g → Bounded plan (length g) → first_standing (head_tests image g) ≡ None
unfolding head_tests
head_none plan g image r b =
    let p = r.p in
    let optional = r.size_of_optional_header in
    let count = r.number_of_sections in
    let headers_size = r.size_of_headers in
    let image_size = r.size_of_image in
    let most = b.most in
    let headers = b.headers in
    let few = b.few in
    let some = b.some in
    let small = b.small in
    let table = b.table in
    let inside = b.inside in
    let fixed : fixed_size g ≡ fixed_size_of plan.magic = ap fixed_size_of r.magic in
    let directories : directory_bytes g ≤ 8 * directory_count g = cond_most (nat_le (optional_start g + fixed_size g) (length g)) (8 * directory_count g) in
    let counted : directory_count g ≡ 16 = ap (λ (n : ℕ). min n 16) r.number_of_rva_and_sizes in
    let start : section_start g (coff_field g 2 2) ≡ table_end plan.magic (length plan.sections.items) = omega arith in
    let has : has_field g 0 2 ≡ true = le-leb _ _ (omega arith) in
    let is_known : (field g 0 2 == 0x10b || field g 0 2 == 0x20b) ≡ true = ap (λ (v : ℕ). v == 0x10b || v == 0x20b) r.number_of_magic ∙ known plan.magic in
    let n = length g in
    let t1 : nat_lt (2 ^ 32) n ≡ false = le-ltb _ _ most in
    let t2 : nat_lt n 64 ≡ false = le-ltb _ _ (omega arith) in
    let t3 : (num (byte_of g) 0 2 == 0x5a4d) ≡ true = eq-eqb _ _ r.mz in
    let t4 : nat_lt n (pe_offset g + 24) ≡ false = le-ltb _ _ (omega arith) in
    let t5 : (num (byte_of g) (pe_offset g) 4 == 0x4550) ≡ true = eq-eqb _ _ r.signature in
    let t6 : (has_field g 0 2 && (field g 0 2 == 0x10b || field g 0 2 == 0x20b)) ≡ true = and_from _ _ has is_known in
    let t7 : nat_lt (coff_field g 16 2) (fixed_size g + directory_bytes g) ≡ false = le-ltb _ _ (omega arith) in
    let t8 : nat_lt n (table_start g) ≡ false = le-ltb _ _ (omega arith) in
    let t9 : nat_lt 96 (coff_field g 2 2) ≡ false = le-ltb _ _ (omega arith) in
    let t10 : nat_lt n (section_start g (coff_field g 2 2)) ≡ false = le-ltb _ _ (omega arith) in
    let t11 : (field g 56 4 == 0 || nat_lt (2 ^ 31) (field g 56 4)) ≡ false = or_from (field g 56 4 == 0) (nat_lt (2 ^ 31) (field g 56 4)) (not_none (field g 56 4) (omega arith)) (le-ltb (2 ^ 31) (field g 56 4) (omega arith)) in
    let t12 : (nat_lt (field g 60 4) (section_start g (coff_field g 2 2)) || (nat_lt n (field g 60 4) || nat_lt (field g 56 4) (field g 60 4))) ≡ false = or_from (nat_lt (field g 60 4) (section_start g (coff_field g 2 2))) (nat_lt n (field g 60 4) || nat_lt (field g 56 4) (field g 60 4)) (le-ltb (field g 60 4) (section_start g (coff_field g 2 2)) (omega arith)) (or_from (nat_lt n (field g 60 4)) (nat_lt (field g 56 4) (field g 60 4)) (le-ltb n (field g 60 4) (omega arith)) (le-ltb (field g 56 4) (field g 60 4) (omega arith))) in
    rw (t1, t2, t3, t4, t5, t6, t7, t8, t9, t10, t11, t12) refl

pub layout_none : {A : Type 0} (plan : Plan A) (g : List ℕ) (image : ℕ) → Read plan g → Bounded plan (length g) → first_standing (placing_tests image (head_of g) (length g)) ≡ None → first_standing (layout_tests image g) ≡ None
layout_none plan g image r b placed = first-past (head_tests image g) (placing_tests image (head_of g) (length g)) (head_none plan g image r b) ∙ placed
