-- The faults of an archive, class by class.
use Rattle.std.proofs.Common.{◌≡◌, ◌∙◌, ℕ, ◌≤◌, List, length, None, Some, sym, ap}
use Rattle.pe_view.specs.declared.refusal.Refusal.{Refusal}
use Rattle.pe_view.specs.declared.refusal.Refusal.TheVariants as refusals
use Rattle.pe_view.specs.Faults.{Test, first_standing, Refuses}
use Rattle.pe_view.specs.FirstStanding.{first-in, first-past, refused-past}
use Rattle.pe_view.specs.declared.fault.Fault.{Fault}
use Rattle.coff_library.specs.Members.{Member}
use Rattle.coff_library.specs.Sizes.{counted, IsWritable}
use Rattle.coff_library.specs.WriteFaults.{member_tests, size_tests, write_tests}
use Rattle.coff_library.specs.Written.{members_start, member_offsets, offsets_from}
use Rattle.coff_library.proofs.Writable.{capped, capped_offsets, near, writable}

same_refusal : (xs ys : List Test) (r : Refusal) → first_standing xs ≡ first_standing ys → Refuses xs r → Refuses ys r
same_refusal xs ys refusals.Memory same refused = tt
same_refusal xs ys (refusals.Fault y) same refused = sym same ∙ refused

sizes_same : (ms : List Member) (start : ℕ) → start ≡ counted (members_start ms) → first_standing (size_tests 0 start ms) ≡ first_standing (size_tests 0 (members_start ms) ms)
sizes_same ms start is = ap (λ (at : ℕ). first_standing (size_tests 0 at ms)) is ∙ capped (members_start ms) ms

-- a fault of the members
pub member_fault : (ms : List Member) (y : Fault) → first_standing (member_tests ms) ≡ Some y → first_standing (write_tests ms) ≡ Some y
unfolding write_tests
member_fault ms y some = first-in (member_tests ms) (size_tests 0 (members_start ms) ms) y some

-- the sizes refuse
pub size_refusal : (ms : List Member) (start : ℕ) (r : Refusal) → start ≡ counted (members_start ms) → first_standing (member_tests ms) ≡ None → Refuses (size_tests 0 start ms) r → Refuses (write_tests ms) r
unfolding write_tests
size_refusal ms start r is none refused =
    refused-past (member_tests ms) (size_tests 0 (members_start ms) ms) r none (same_refusal (size_tests 0 start ms) (size_tests 0 (members_start ms) ms) r (sizes_same ms start is) refused)

-- nothing stands
pub no_fault : (ms : List Member) (start : ℕ) → start ≡ counted (members_start ms) → first_standing (member_tests ms) ≡ None → first_standing (size_tests 0 start ms) ≡ None → first_standing (write_tests ms) ≡ None
unfolding write_tests
no_fault ms start is none sizes = first-past (member_tests ms) (size_tests 0 (members_start ms) ms) none ∙ sym (sizes_same ms start is) ∙ sizes

pub fits : (ms : List Member) (start : ℕ) → start ≡ counted (members_start ms) → length ms ≤ 65535 → first_standing (size_tests 0 start ms) ≡ None → IsWritable ms
fits ms start is few sizes = writable ms few (near 0 (members_start ms) ms (sym (sizes_same ms start is) ∙ sizes))

pub offsets_are : (ms : List Member) (start : ℕ) (offs : List ℕ) → start ≡ counted (members_start ms) → first_standing (size_tests 0 start ms) ≡ None → offs ≡ offsets_from start ms → offs ≡ member_offsets ms
unfolding member_offsets
offsets_are ms start offs is sizes same = same ∙ ap (λ (at : ℕ). offsets_from at ms) is ∙ capped_offsets (members_start ms) ms (sym (sizes_same ms start is) ∙ sizes)
