-- The import hash of an image's file as a call reports it.
use Rattle.std.specs.Prelude.{◌≡◌, ℕ, List, option_map}
use Rattle.pe_layout.specs.Image.{image_of_file}
use Rattle.pe_tables.specs.Imports.{imports_of}
use Rattle.pe_image.specs.Wants.{ImportsTakeMemory}
use Rattle.pe_imphash.specs.ImportText.{import_hash_of}
use Rattle.pe_records_c.specs.Faults.{IsAccepted, IsAnswered, IsRefused}
use Rattle.pe_records_c.specs.TableTests.{file_import_tests}
use Rattle.pe_records_c.specs.Wants.{IsLaidOutAnd}
use Rattle.pe_records_c.specs.declared.fault.FaultRecord.{FaultRecord}
use Rattle.c_tables.specs.Told.{TellsRecord}
use Rattle.c_tables.specs.DigestRecords.{digest_record}
use Rattle.c_tables.specs.declared.digest.DigestRecord.{DigestRecord}

pub record ReadsImportHash (file : List ℕ) (before after : DigestRecord) (fault fault_after : FaultRecord) (status : ℕ) : Type 0 where
  pub faults : IsAnswered (IsLaidOutAnd ImportsTakeMemory file) (file_import_tests file) fault fault_after status
  pub told : IsAccepted status → TellsRecord (λ r. r) (option_map digest_record (import_hash_of (imports_of (image_of_file 0 file)))) before after status
  pub kept : IsRefused status → after ≡ before
