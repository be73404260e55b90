-- A rebased file, byte by byte.
use Rattle.std.specs.Prelude.{◌≡◌, ℕ, ◌+◌, ◌<◌, List, length, Contains}
use Rattle.pe_view.specs.Number.{num, byte_of, digit}
use Rattle.pe_head.specs.Head.{head_of}
use Rattle.pe_head.specs.Optional.{image_base_width}
use Rattle.pe_layout.specs.Image.{image_of_file}
use Rattle.pe_tables.specs.Fixups.{width_of, fixups_of}
use Rattle.pe_tables.specs.Relocated.{shifted}
use Rattle.pe_tables.specs.declared.fixups.Fixup.{Fixup}
use Rattle.pe_write.specs.Rebase.{IsFree, place_of, image_base_place, check_sum_place}

-- byte k of a fixup's field is at an offset of the file
pub record IsFieldByte (file : List ℕ) (f : Fixup) (k o : ℕ) : Type 0 where
  pub fixup : Contains (fixups_of (image_of_file 0 file)) f
  pub small : k < width_of f.kind
  pub place : o ≡ place_of (head_of file) f + k

-- g is as long as the file; it has the base in ImageBase, 0 in CheckSum, in each field the number relocated to the base, and
-- everywhere else the bytes of the file
pub record IsRebased (file : List ℕ) (base : ℕ) (g : List ℕ) : Type 0 where
  pub len : length g ≡ length file
  pub image_base : num (byte_of g) (image_base_place (head_of file)) (image_base_width (head_of file).magic) ≡ base
  pub check_sum : num (byte_of g) (check_sum_place (head_of file)) 4 ≡ 0
  pub fields : (f : Fixup) (k o : ℕ) → IsFieldByte file f k o → byte_of g o ≡ digit (shifted (image_of_file 0 file) base f) k
  pub others : (o : ℕ) → IsFree (head_of file) o → ((f : Fixup) (k : ℕ) → ¬ (IsFieldByte file f k o)) → byte_of g o ≡ byte_of file o
