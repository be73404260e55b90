use Rattle.std.proofs.Common.{◌-◌, ◌^◌, ◌≤◌, ℕ, List, Option}
use Rattle.pe_layout.specs.Layout.{headers_of, image_of}
use Rattle.pe_parts.specs.Filled.{HaveDescriptors}
use Rattle.pe_parts.specs.Packed.{AgreeAtHand}
use Rattle.pe_parts.proofs.Walks.{DescriptorsLeft}
use Rattle.pe_parts.proofs.imports.holds_descriptors.Given as goal

abbrev pub invariant-loop-name : goal.invariant-loop-name
invariant-loop-name l = record {
  low : l.first ≤ l.rva;
  on : (b : ℕ → ℕ) (t : ℕ → Option (List ℕ)) → AgreeAtHand (headers_of l.layout) (image_of l.layout) b t
      → ((n : ℕ) → HaveDescriptors n (image_of l.layout) b t l.rva) → (n : ℕ) → HaveDescriptors n (image_of l.layout) b t l.first;
  left : DescriptorsLeft (headers_of l.layout) (image_of l.layout) l.first l.rva;
}

abbrev pub decreases-loop-name : goal.decreases-loop-name
decreases-loop-name l = 2 ^ 31 - l.rva
