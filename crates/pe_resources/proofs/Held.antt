-- Data that the file holds in one run.
use Rattle.std.proofs.Common.{◌≡◌, ◌+◌, ◌^◌, ◌<◌, ◌≤◌, List, ℕ, zero, suc, length, Some, None, ap, inl, inr, arith}
use Rattle.std.proofs.lemmas.Bool.{cases_Bool, leb-true}
use Rattle.std.proofs.lemmas.List.FromFn.{length-map-range_with_len}
use Rattle.std.proofs.lemmas.Option.{same_Some}
use Rattle.std.specs.Prelude.{Option, nat_le}
use Rattle.pe_layout.specs.Image.{LaidOut, bytes_at}
use Rattle.pe_resources.specs.Texts.{data_of}
use Rattle.pe_resources.specs.declared.leaf.Leaf.{Leaf}

-- they are no more than the run has
pub data_within : (i : LaidOut) (leaf : Leaf) (bytes : List ℕ) → Some bytes ≡ data_of i leaf → length bytes ≤ i.raw_left leaf.rva
data_within i leaf bytes is = elim (cases_Bool (nat_le leaf.size (i.raw_left leaf.rva))) [
  | inl held ↦
      let whole : Some bytes ≡ Some (bytes_at i leaf.rva leaf.size) = rw held at is in
      let same = same_Some bytes (bytes_at i leaf.rva leaf.size) whole in
      let len = length-map-range_with_len i.byte leaf.rva leaf.size in
      let most = leb-true _ _ held in
      let all = ap length same in
      omega (arith, len, most, all)
  | inr past ↦ let none : ◌≡◌ {A = Option (List ℕ)} (Some bytes) None = rw past at is in absurd cc none
]

-- they end where a number of 32 bits goes, if the run ends in the image
pub data_ends : (rva len run size : ℕ) → rva < 2 ^ 32 → len ≤ run → (0 < run → rva + run ≤ size) → size ≤ 2 ^ 31 → rva + len ≤ 2 ^ 32
data_ends rva len zero size small within inside most = omega (arith, small, within)
data_ends rva len (suc run) size small within inside most = let in_image = inside (omega arith) in omega (arith, within, in_image, most)
