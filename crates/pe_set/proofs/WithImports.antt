-- An image with more imports, as it is made from the image that was read.
use Rattle.std.proofs.Common.{◌≡◌, ◌+◌, ◌<◌, ◌≤◌, ◌^◌, ℕ, Bool, not, List, ap, arith}
use Rattle.std.specs.Prelude.{nat_lt, ◌&&◌, All}
use Rattle.std.proofs.lemmas.Bool.{lt-ltb}
use Rattle.std.proofs.lemmas.List.Elements.{All-weaker, filter_agree}
use Rattle.pe_ranges.specs.Ranges.{SameRanges, meets, meets_any}
use Rattle.pe_tables.specs.Fixups.{width_of}
use Rattle.pe_tables.specs.declared.fixups.Fixup.{Fixup}
use Rattle.pe_set.specs.DelayedImports.{fields_beside}
use Rattle.pe_set.specs.Set.{Module}
use Rattle.pe_set.specs.Sound.{IsSoundImage}

-- the same fields are left of the same ranges
pub fields_same : (ranges others : List (ℕ × ℕ)) (fixups : List Fixup) → SameRanges ranges others → fields_beside ranges fixups ≡ fields_beside others fixups
fields_same ranges others fixups same =
    filter_agree (λ (f : Fixup). not (meets_any f.field (width_of f.kind) ranges)) (λ (f : Fixup). not (meets_any f.field (width_of f.kind) others))
    (λ f. ap not (same (λ range. meets f.field (width_of f.kind) range.0 range.1))) fixups

-- no field passes 2^32
pub fields_small : (m : Module) → IsSoundImage m → All (λ (f : Fixup). f.field + width_of f.kind < 2 ^ 32) m.fixups
fields_small m sound =
    let small = sound.small in
    All-weaker (λ (f : Fixup). f.field + width_of f.kind ≤ m.image.size) (λ (f : Fixup). f.field + width_of f.kind < 2 ^ 32) (λ f le. omega (arith, le, small)) m.fixups sound.inside

-- such a field shares a byte with slots whether or not that is tested
pub test_is : (ranges : List (ℕ × ℕ)) (fixups : List Fixup) → All (λ (f : Fixup). f.field + width_of f.kind < 2 ^ 32) fixups
    → All (λ (f : Fixup). not (nat_lt (f.field + width_of f.kind) (2 ^ 32) && meets_any f.field (width_of f.kind) ranges) ≡ not (meets_any f.field (width_of f.kind) ranges)) fixups
test_is ranges fixups small =
    All-weaker (λ (f : Fixup). f.field + width_of f.kind < 2 ^ 32)
    (λ (f : Fixup). not (nat_lt (f.field + width_of f.kind) (2 ^ 32) && meets_any f.field (width_of f.kind) ranges) ≡ not (meets_any f.field (width_of f.kind) ranges))
    (λ f lt. ap (λ (b : Bool). not (b && meets_any f.field (width_of f.kind) ranges)) (lt-ltb (f.field + width_of f.kind) (2 ^ 32) lt)) fixups small
