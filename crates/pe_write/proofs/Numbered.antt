-- Relocated bytes do not depend on the number with which an image's faults are reported.
use Rattle.std.proofs.Common.{◌≡◌, ◌∙◌, ◌+◌, ℕ, zero, suc, List, Option, None, Some, cond, refl, ap, ◌∷◌, []}
use Rattle.std.specs.Prelude.{find}
use Rattle.std.specs.List.{flat_map}
use Rattle.pe_head.specs.declared.directory.Directory.{Directory}
use Rattle.pe_head.specs.declared.headers.Headers.{Headers}
use Rattle.pe_layout.specs.Image.{image_from, directory_of, number_at}
use Rattle.pe_tables.specs.Fixups.{Block, block_at, ends_table, blocks_from, fixups_in, fixups_at, fixups_of}
use Rattle.pe_tables.specs.Relocated.{in_field, relocated, relocated_by}
use Rattle.pe_tables.specs.declared.fixups.Fixup.{Fixup}

module _ (m n : ℕ) (h : Headers) (file : List ℕ) where
  blocks_numbered : (count end rva : ℕ) → blocks_from count (image_from m h file) end rva ≡ blocks_from count (image_from n h file) end rva
  blocks_numbered zero end rva = refl
  blocks_numbered (suc count) end rva =
      ap (λ (bs : List Block). cond (ends_table (image_from n h file) end rva) [] (block_at (image_from n h file) rva ∷ bs))
      (blocks_numbered count end (rva + number_at 4 (image_from n h file) (rva + 4)))

  at_numbered : (d : Option Directory) → fixups_at (image_from m h file) d ≡ fixups_at (image_from n h file) d
  at_numbered None = refl
  at_numbered (Some d) = ap (flat_map (fixups_in (image_from n h file))) (blocks_numbered d.size (d.rva + d.size) d.rva)

  pub fixups_numbered : fixups_of (image_from m h file) ≡ fixups_of (image_from n h file)
  fixups_numbered = at_numbered (directory_of h 5)

  by_numbered : (base r : ℕ) (o : Option Fixup) → relocated_by (image_from m h file) base r o ≡ relocated_by (image_from n h file) base r o
  by_numbered base r None = refl
  by_numbered base r (Some f) = refl

  pub relocated_numbered : (base r : ℕ) → relocated (image_from m h file) base r ≡ relocated (image_from n h file) base r
  relocated_numbered base r =
      by_numbered base r (find (in_field r) (fixups_of (image_from m h file)))
      ∙ ap (λ (fs : List Fixup). relocated_by (image_from n h file) base r (find (in_field r) fs)) fixups_numbered
