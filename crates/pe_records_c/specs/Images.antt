-- What the calls of an opened image return: the same as those over the bytes of its file, or 6 if there is no image.
use Rattle.std.specs.Prelude.{◌≡◌, ◌≢◌, length, ◌<◌, ◌≤◌, ◌+◌, ◌⊎◌, ℕ, List, [], Option, None, Some}
use Rattle.pe_head.specs.Head.{head_of}
use Rattle.pe_layout.specs.Image.{image_of_file, bytes_at}
use Rattle.pe_layout.specs.Locating.{located, file_offset}
use Rattle.pe_tables.specs.Exports.{exports_of, target_at}
use Rattle.pe_tables.specs.Key.{Key, Target}
use Rattle.pe_tables.specs.Imports.{imports_of, Import}
use Rattle.pe_tables.specs.Fixups.{fixups_of}
use Rattle.pe_tables.specs.declared.fixups.Fixup.{Fixup}
use Rattle.pe_write.specs.Rebase.{rebased}
use Rattle.pe_write.specs.RebaseFaults.{rebase_tests}
use Rattle.pe_records_c.specs.Faults.{IsAccepted, IsAnswered}
use Rattle.pe_records_c.specs.Wants.{IsLaidOut}
use Rattle.pe_records_c.specs.declared.fault.FaultRecord.{FaultRecord}
use Rattle.pe_records_c.specs.ExportRows.{TellsTarget, named}
use Rattle.pe_records_c.specs.ImportRows.{import_of_slot, TellsImport}
use Rattle.pe_records_c.specs.declared.export.TargetRecord.{TargetRecord}
use Rattle.pe_records_c.specs.declared.import.ImportRow.{ImportRow}
use Rattle.pe_records_c.specs.declared.text.TextRecord.{TextRecord}

-- what a name or an ordinal exports
abbrev pub TellsTargetOf : Option (List ℕ) → Key → TargetRecord → TargetRecord → ℕ → Type 0
TellsTargetOf None key before after status = (status ≡ 6) × (after ≡ before)
TellsTargetOf (Some file) key before after status = TellsTarget (target_at (exports_of (image_of_file 0 file)) key) before after status

-- the import whose slot is at an RVA
abbrev pub TellsImportOf : Option (List ℕ) → ℕ → ImportRow → ImportRow → ℕ → Type 0
TellsImportOf None slot before after status = (status ≡ 6) × (after ≡ before)
TellsImportOf (Some file) slot before after status = TellsImport (import_of_slot (imports_of (image_of_file 0 file)) slot) before after status

-- the tables of an open image
abbrev pub opened_ordinals : Option (List ℕ) → List (ℕ × Target)
opened_ordinals None = []
opened_ordinals (Some file) = (exports_of (image_of_file 0 file)).ordinals

abbrev pub opened_names : Option (List ℕ) → List ((List ℕ × Target) × ℕ)
opened_names None = []
opened_names (Some file) = named (exports_of (image_of_file 0 file))

abbrev pub opened_imports : Option (List ℕ) → List Import
opened_imports None = []
opened_imports (Some file) = imports_of (image_of_file 0 file)

abbrev pub opened_fixups : Option (List ℕ) → List Fixup
opened_fixups None = []
opened_fixups (Some file) = fixups_of (image_of_file 0 file)

-- a read of n bytes: status 0 and the bytes, or 3 if they do not all lie in the image
abbrev pub IsRead : List ℕ → ℕ → ℕ → List ℕ → List ℕ → ℕ → Type 0
IsRead file rva n old new status =
    ((status ≡ 0) × (rva + n ≤ (image_of_file 0 file).size) × (new ≡ bytes_at (image_of_file 0 file) rva n))
    ⊎ ((status ≡ 3) × ((image_of_file 0 file).size < rva + n) × (new ≡ old))

abbrev pub IsBytesOf : Option (List ℕ) → ℕ → ℕ → List ℕ → List ℕ → ℕ → Type 0
IsBytesOf None rva n old new status = (status ≡ 6) × (new ≡ old)
IsBytesOf (Some file) rva n old new status = IsRead file rva n old new status

-- the file for a base, in a buffer of its length: status 0 and its bytes, 1 with the first fault, 2 if memory ran out, or 5 for a buffer
-- of another length
pub record IsRebase (file : List ℕ) (base : ℕ) (old new : List ℕ) (before after : FaultRecord) (status : ℕ) : Type 0 where
  pub argument : status ≡ 5 → length old ≢ length file
  pub same_length : status ≢ 5 → length old ≡ length file
  pub faults : status ≢ 5 → IsAnswered (IsLaidOut file) (rebase_tests file base) before after status
  pub accepted : status ≢ 5 → IsAccepted status → status ≡ 0
  pub done : status ≡ 0 → new ≡ rebased file base
  pub kept : status ≢ 0 → new ≡ old
  pub fault_kept : status ≡ 5 → after ≡ before

abbrev pub IsRebaseOf : Option (List ℕ) → ℕ → List ℕ → List ℕ → FaultRecord → FaultRecord → ℕ → Type 0
IsRebaseOf None base old new before after status = (status ≡ 6) × (new ≡ old) × (after ≡ before)
IsRebaseOf (Some file) base old new before after status = IsRebase file base old new before after status

-- a string: status 0 and its bytes, or 3 if there is none
abbrev pub IsText : Option (List ℕ) → TextRecord → TextRecord → ℕ → Type 0
IsText None old new status = (status ≡ 3) × (new ≡ old)
IsText (Some text) old new status = (status ≡ 0) × (new.bytes.now ≡ text)

abbrev pub IsTextOf : Option (List ℕ) → ℕ → TextRecord → TextRecord → ℕ → Type 0
IsTextOf None rva old new status = (status ≡ 6) × (new ≡ old)
IsTextOf (Some file) rva old new status = IsText ((image_of_file 0 file).text rva) old new status

-- the file offset of a byte: status 0 and the offset, or 3 if the file does not hold the byte
abbrev pub IsOffset : Option ℕ → ℕ → ℕ → ℕ → Type 0
IsOffset None old new status = (status ≡ 3) × (new ≡ old)
IsOffset (Some offset) old new status = (status ≡ 0) × (new ≡ offset)

abbrev pub IsOffsetOf : Option (List ℕ) → ℕ → ℕ → ℕ → ℕ → Type 0
IsOffsetOf None rva old new status = (status ≡ 6) × (new ≡ old)
IsOffsetOf (Some file) rva old new status = IsOffset (file_offset (located (head_of file) rva)) old new status
