-- The causes for which a plan is refused. Each is fault 53, so their order does not matter.
use Rattle.std.specs.Prelude.{ℕ, ◌+◌, ◌-◌, ◌*◌, ◌^◌, ◌==◌, ◌||◌, Bool, false, nat_lt, List, [], ◌∷◌, ◌++◌, length}
use Rattle.pe_view.specs.declared.fault.Place.TheVariants.{Item}
use Rattle.pe_view.specs.Faults.{Test, test}
use Rattle.pe_head.specs.declared.optional.Magic.{Magic}
use Rattle.pe_head.specs.declared.optional.Magic.TheVariants.{Pe32, Pe32Plus}
use Rattle.pe_head.specs.declared.section.SectionHeader.{SectionHeader}
use Rattle.pe_layout.specs.Piece.{end_of}
use Rattle.pe_write.specs.declared.plan.Plan.{Plan}
use Rattle.pe_write.specs.PlanHeaders.{optional_size, plan_sections, plan_size}

abbrev pub plan_test : Bool → Test
plan_test stands = test 53 0 (Item 0) stands

-- ImageBase does not fit into its field
abbrev pub is_wide : Magic → ℕ → Bool
is_wide Pe32 base = nat_lt (2 ^ 32 - 1) base
is_wide Pe32Plus base = false

-- where the section table ends in the file
abbrev pub table_end : Magic → ℕ → ℕ
table_end magic count = 0x40 + 24 + optional_size magic + 40 * count

-- of the headers' numbers; the last two are the conditions of faults 11 and 12
abbrev pub number_tests : {A : Type 0} → Plan A → List Test
number_tests plan =
    plan_test (plan.file_alignment == 0)
    ∷ plan_test (is_wide plan.magic plan.image_base)
    ∷ plan_test (nat_lt 96 (length plan.sections.items))
    ∷ plan_test (plan.size_of_image == 0 || nat_lt (2 ^ 31) plan.size_of_image)
    ∷ plan_test (nat_lt plan.size_of_headers (table_end plan.magic (length plan.sections.items)) || nat_lt plan.size_of_image plan.size_of_headers)
    ∷ []

-- a section after one that ends at `before` has an invalid place: the conditions of faults 14 and 15
abbrev pub is_misplaced : ℕ → ℕ → ℕ → SectionHeader → Bool
is_misplaced image_size headers_size before s = nat_lt image_size (end_of s) || (nat_lt s.virtual_address headers_size || nat_lt s.virtual_address before)

-- of the sections, in table order
unfoldable pub places_tests : ℕ → ℕ → ℕ → List SectionHeader → List Test
places_tests image_size headers_size before [] = []
places_tests image_size headers_size before (s ∷ ss) = plan_test (is_misplaced image_size headers_size before s) ∷ places_tests image_size headers_size (end_of s) ss

-- of the file's length, and of the places of sections
abbrev pub data_tests : {A : Type 0} → Plan A → List Test
data_tests plan = plan_test (nat_lt (2 ^ 32) (plan_size plan)) ∷ places_tests plan.size_of_image plan.size_of_headers 0 (plan_sections plan)

unfoldable pub plan_tests : {A : Type 0} → Plan A → List Test
plan_tests plan = number_tests plan ++ data_tests plan
