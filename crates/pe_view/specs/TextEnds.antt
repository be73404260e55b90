-- The ranges without a zero byte that are known of a file.
use Rattle.std.specs.Prelude.{◌≡◌, ◌≢◌, ℕ, ◌<◌, ◌≤◌, List, Some}
use Rattle.std.specs.Ordering.{nat_cmp}
use Rattle.std.specs.BTreeMap.{get}
use Rattle.pe_view.specs.Number.{byte_of}
use Rattle.pe_view.specs.declared.text_ends.TextEnds.{TextEnds}

-- no byte of a file from `start` up to `end` is zero
abbrev pub HasNoZero : List ℕ → ℕ → ℕ → Type 0
HasNoZero file start end = (offset : ℕ) → start ≤ offset → offset < end → byte_of file offset ≢ 0

-- the ranges that are kept have no zero byte
abbrev pub AreEndsOf : {A : Type 0} → List ℕ → TextEnds A → Type 0
AreEndsOf file ends = (start end : ℕ) → get nat_cmp ends.starts end ≡ Some start → HasNoZero file start end
