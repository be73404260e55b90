-- The page of an entry, block by block.
use Rattle.std.proofs.Common.{◌≡◌, ℕ, zero, suc, ◌+◌, ◌≤◌, true, false, Some, None, refl, ap, ◌∙◌, arith}
use Rattle.std.specs.Prelude.{nat_lt}
use Rattle.std.proofs.lemmas.Bool.{le-leb, ltb-false, or_parts}
use Rattle.pe_layout.specs.Image.{LaidOut, is_inside, number_at}
use Rattle.pe_tables.specs.Fixups.{blocks_from, ends_table}
use Rattle.pe_detail.specs.Numbers.{number_in}
use Rattle.pe_detail.specs.FixupDetail.{block_size, page_in}

-- where a block is, the table continues, and the block has that size
block_goes : (i : LaidOut) (end rva size : ℕ) → block_size i end rva ≡ Some size → ends_table i end rva ≡ false
block_goes i end rva size is = grind arith

block_is : (i : LaidOut) (end rva size : ℕ) → block_size i end rva ≡ Some size → number_at 4 i (rva + 4) ≡ size
block_is i end rva size is = grind arith

block_ends : (i : LaidOut) (end rva : ℕ) → block_size i end rva ≡ None → ends_table i end rva ≡ true
block_ends i end rva is = grind arith

-- the block with the entry
pub page-found : (i : LaidOut) (end rva n size at : ℕ) → block_size i end rva ≡ Some size → nat_lt at (rva + size) ≡ true
    → page_in at (blocks_from (suc n) i end rva) ≡ Some (number_at 4 i rva)
page-found i end rva n size at is before =
    let here : nat_lt at (rva + number_at 4 i (rva + 4)) ≡ true = ap (λ (s : ℕ). nat_lt at (rva + s)) (block_is i end rva size is) ∙ before in
    let goes = block_goes i end rva size is in
    rw goes (rw here refl)

-- a block before it
pub page-passed : (i : LaidOut) (end rva n size at : ℕ) → block_size i end rva ≡ Some size → nat_lt at (rva + size) ≡ false
    → page_in at (blocks_from (suc n) i end rva) ≡ page_in at (blocks_from n i end (rva + size))
page-passed i end rva n size at is past =
    let stated = block_is i end rva size is in
    let here : nat_lt at (rva + number_at 4 i (rva + 4)) ≡ false = ap (λ (s : ℕ). nat_lt at (rva + s)) stated ∙ past in
    let goes = block_goes i end rva size is in
    rw goes (rw here (ap (λ (s : ℕ). page_in at (blocks_from n i end (rva + s))) stated))

-- no block
pub page-none : (i : LaidOut) (end rva n at : ℕ) → block_size i end rva ≡ None → page_in at (blocks_from n i end rva) ≡ None
page-none i end rva zero at is = refl
page-none i end rva (suc n) at is = let ends = block_ends i end rva is in rw ends refl

-- PageRVA of a block is in the image
pub page-inside : (i : LaidOut) (end rva size : ℕ) → end ≤ i.size → block_size i end rva ≡ Some size → number_in 4 i rva ≡ Some (number_at 4 i rva)
page-inside i end rva size inside is =
    let room : rva + 8 ≤ end = ltb-false end (rva + 8) (or_parts _ _ (block_goes i end rva size is)).0 in
    let in_image : is_inside i rva 4 ≡ true = le-leb _ _ (omega (arith, room, inside)) in
    rw in_image refl
