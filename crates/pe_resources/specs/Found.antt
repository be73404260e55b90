-- What the code has read, as the walk tells it.
use Rattle.std.specs.Prelude.{◌≡◌, ℕ, Bool, true, false, nat_lt, Option, Some, None}
use Rattle.std.specs.List.{list_any}
use Rattle.pe_view.specs.Standing.{standing}
use Rattle.pe_layout.specs.Image.{LaidOut}
use Rattle.pe_ranges.specs.Ranges.{SameRanges}
use Rattle.pe_ranges.specs.RangesView.{ranges_in}
use Rattle.pe_resources.specs.Section.{whole_count}
use Rattle.pe_resources.specs.Walk.{Walk, asked, directory_tests, is_entered, entered}
use Rattle.pe_resources.specs.declared.found.Found.{Found}

pub record Shows {A : Type 0} (found : Found A) (w : Walk) : Type 0 where
  pub leaves : found.leaves.items ≡ w.leaves
  pub findings : found.findings.items ≡ standing w.tests
  pub before : SameRanges (ranges_in found.entered) w.before

-- no range is empty
abbrev pub is_empty : ℕ × ℕ → Bool
is_empty range = nat_lt range.1 1

abbrev pub AreSome : {A : Type 0} → Found A → Type 0
AreSome found = list_any is_empty (ranges_in found.entered) ≡ false

-- a directory was entered, of so many entries, or it was not
abbrev pub Enters : {A : Type 0} → LaidOut → ℕ → ℕ → Walk → Found A → Option ℕ → Type 0
Enters i start offset w found None = (is_entered i start w.before offset ≡ false) × Shows found (asked (directory_tests i start w.before offset) w)
Enters i start offset w found (Some count) = (is_entered i start w.before offset ≡ true) × (count ≡ whole_count i start offset) × Shows found (entered i start offset w)
