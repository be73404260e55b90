-- A written file has no fault, and lays out the planned bytes.
use Rattle.std.proofs.Common.{◌≡◌, ℕ, suc, ◌-◌, ◌*◌, ◌<◌, ◌≤◌, true, false, List, [], ◌∷◌, ◌++◌, length, refl, sym, ap, subst, arith, append_assoc, length-append, inl, inr}
use Rattle.std.specs.Prelude.{replicate, nat_lt}
use Rattle.std.specs.List.{flat_map, AllByRecursion}
use Rattle.std.proofs.lemmas.Bool.{cases_lt, le-ltb, lt-ltb}
use Rattle.std.proofs.lemmas.List.{length-replicate}
use Rattle.pe_numbers.specs.Numbers.{numbers_bytes}
use Rattle.pe_numbers.specs.ReadBack.{length-numbers}
use Rattle.pe_numbers.specs.StandsAt.{StandsAt, stands_behind}
use Rattle.pe_head.specs.declared.section.SectionHeader.{SectionHeader}
use Rattle.pe_head.specs.Head.{head_of}
use Rattle.pe_layout.specs.Plain.{plain}
use Rattle.pe_write.specs.declared.plan.Plan.{Plan}
use Rattle.pe_write.specs.declared.plan.PlanSection.{PlanSection}
use Rattle.pe_write.specs.PlanFile.{headers_from, data_from, raw_end}
use Rattle.pe_write.specs.PlanFaults.{table_end}
use Rattle.pe_write.specs.PlanHeaders.{section_bytes, header_numbers, table_bytes, header_bytes, plan_file, plan_sections, plan_headers, planned}
use Rattle.pe_write.specs.PlanFits.{IsRow, IsPlan}
use Rattle.pe_write.proofs.Planned.{byte-left, sections_planned}
use Rattle.pe_write.proofs.PlanRead.{head-is, numbers_end, length-section}

pub sections-count : (a end : ℕ) (ss : List PlanSection) → length (headers_from a end ss) ≡ length ss
sections-count a end [] = refl
sections-count a end (s ∷ ss) = ap suc (sections-count a (raw_end a end s) ss)

table_length : (ss : List SectionHeader) → AllByRecursion (λ s. length (section_bytes s) ≡ 40) ss → length (flat_map section_bytes ss) ≡ 40 * length ss
table_length [] e = refl
table_length (s ∷ ss) e = let rest = table_length ss e.1 in let here = e.0 in omega (arith, length-append (section_bytes s) (flat_map section_bytes ss))

forty : (ss : List SectionHeader) → ((s : SectionHeader) → IsRow s → length (section_bytes s) ≡ 40) → AllByRecursion IsRow ss → AllByRecursion (λ s. length (section_bytes s) ≡ 40) ss
forty [] f e = tt
forty (s ∷ ss) f e = (f s e.0, forty ss f e.1)

-- the file begins with the headers and the section table
pub table-there : {A : Type 0} (plan : Plan A) → StandsAt (plan_file plan) 0 (table_bytes plan)
unfolding plan_file
table-there plan =
    let zeros : List ℕ = replicate (plan.size_of_headers - length (table_bytes plan)) 0 in
    let rest : List ℕ = data_from plan.file_alignment plan.size_of_headers plan.sections.items in
    subst (λ (g : List ℕ). StandsAt g 0 (table_bytes plan)) (sym (append_assoc (table_bytes plan) zeros rest)) (stands_behind [] (table_bytes plan) (zeros ++ rest) 0 refl)

module _ {A : Type 0} (plan : Plan A) (fits : IsPlan plan) where
  -- where the section table ends
  pub table-end : length (table_bytes plan) ≡ table_end plan.magic (length plan.sections.items)
  table-end =
      let front = length-numbers (header_numbers plan) in
      let end = numbers_end plan fits in
      let back = table_length (plan_sections plan) (forty (plan_sections plan) length-section fits.sections) in
      let count = sections-count plan.file_alignment plan.size_of_headers plan.sections.items in
      let many : 40 * length (plan_sections plan) ≡ 40 * length plan.sections.items = ap (λ (n : ℕ). 40 * n) count in
      omega (arith, length-append (numbers_bytes (header_numbers plan)) (flat_map section_bytes (plan_sections plan)))

  pub head-planned : head_of (plan_file plan) ≡ plan_headers plan
  head-planned = head-is plan (plan_file plan) fits (table-there plan) (sections-count plan.file_alignment plan.size_of_headers plan.sections.items)

  module _ (some : 0 < plan.file_alignment) (held : table_end plan.magic (length plan.sections.items) ≤ plan.size_of_headers) where
    pub headers-length : length (header_bytes plan) ≡ plan.size_of_headers
    headers-length =
        let end = table-end in
        omega (arith, length-append (table_bytes plan) (replicate (plan.size_of_headers - length (table_bytes plan)) 0), length-replicate {A = ℕ} (plan.size_of_headers - length (table_bytes plan)) 0)

    pub plain-planned : (r : ℕ) → plain (plan_headers plan) (plan_file plan) r ≡ planned plan r
    unfolding plan_file
    plain-planned r =
        let rest : List ℕ = data_from plan.file_alignment plan.size_of_headers plan.sections.items in
        let len = headers-length in
        elim (cases_lt r plan.size_of_headers) [
          | inl lt ↦ (let test : nat_lt r plan.size_of_headers ≡ true = lt-ltb _ _ lt in rw test (byte-left (header_bytes plan) rest r (omega arith)))
          | inr past ↦ (let test : nat_lt r plan.size_of_headers ≡ false = le-ltb _ _ past in rw test (sections_planned plan.file_alignment some (header_bytes plan) plan.size_of_headers plan.sections.items r len (omega arith)))
        ]
