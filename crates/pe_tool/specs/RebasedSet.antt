-- A set in which one image has the file for another base.
use Rattle.std.specs.Prelude.{◌≡◌, ◌-◌, ◌%◌, ◌≤◌, ℕ, List, Some, None, slice_get, slice_set}
use Rattle.pe_view.specs.Faults.{first_standing}
use Rattle.pe_head.specs.Head.{head_of}
use Rattle.pe_layout.specs.Image.{LaidOut, image_of_file}
use Rattle.pe_tables.specs.Exports.{exports_of}
use Rattle.pe_tables.specs.Imports.{imports_of}
use Rattle.pe_tables.specs.Fixups.{fixups_of}
use Rattle.pe_set.specs.Set.{Entry}
use Rattle.pe_write.specs.Rebase.{IsFree, rebased}
use Rattle.pe_write.specs.RebaseFaults.{rebase_tests}

-- the tables of g read like those of i
pub record ReadsAlike (i g : LaidOut) : Type 0 where
  pub exports : exports_of g ≡ exports_of i
  pub imports : imports_of g ≡ imports_of i
  pub fixups : fixups_of g ≡ fixups_of i

-- Entry k of a set is e, whose base is a multiple of 65,536 and whose file can be rebased, its signature not in the first 16
-- bytes; the other set has the new file there and is otherwise equal; and the new file's tables read as before.
pub record IsRebasedSet (es es' : List Entry) (k : ℕ) (e : Entry) (base : ℕ) : Type 0 where
  pub entry : slice_get es k ≡ Some e
  pub aligned : e.base % 65536 ≡ 0
  pub new_file : es' ≡ slice_set es k (record e { file = rebased e.file base })
  pub no_fault : first_standing (rebase_tests e.file base) ≡ None
  pub late : 16 ≤ (head_of e.file).pe_offset
  pub tables : ReadsAlike (image_of_file k e.file) (image_of_file k (rebased e.file base))

-- the address is outside the fields ImageBase and CheckSum of an entry's image
abbrev pub IsElsewhere : Entry → ℕ → Type 0
IsElsewhere e a = e.base ≤ a → IsFree (head_of e.file) (a - e.base)
