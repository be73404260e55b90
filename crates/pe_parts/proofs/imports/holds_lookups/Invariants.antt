use Rattle.std.proofs.Common.{◌-◌, ◌^◌, ◌≤◌, ℕ, List, Option}
use Rattle.pe_layout.specs.Layout.{headers_of, image_of}
use Rattle.pe_parts.specs.Filled.{HaveLookups}
use Rattle.pe_parts.specs.Packed.{AgreeAtHand}
use Rattle.pe_parts.proofs.Walks.{LookupsLeft}
use Rattle.pe_parts.proofs.imports.holds_lookups.Given as goal

abbrev pub invariant-loop-value : goal.invariant-loop-value
invariant-loop-value l = record {
  low : l.first ≤ l.rva;
  on : (b : ℕ → ℕ) (t : ℕ → Option (List ℕ)) → AgreeAtHand (headers_of l.layout) (image_of l.layout) b t
      → ((n : ℕ) → HaveLookups n (image_of l.layout) b t l.rva) → (n : ℕ) → HaveLookups n (image_of l.layout) b t l.first;
  left : LookupsLeft (headers_of l.layout) (image_of l.layout) l.first l.rva;
}

abbrev pub decreases-loop-value : goal.decreases-loop-value
decreases-loop-value l = 2 ^ 31 - l.rva
