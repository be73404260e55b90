-- An object has few sections, since their headers lie in its file; and the status of its relocations is not that of a fault.
use Rattle.std.proofs.Common.{◌≡◌, ◌≢◌, ◌∙◌, ℕ, ◌≤◌, ◌^◌, List, Option, None, Some, length, arith}
use Rattle.std.proofs.lemmas.List.{length-map}
use Rattle.std.proofs.lemmas.List.FromFn.{length-map-range_with_len}
use Rattle.coff_read.specs.Field.{field}
use Rattle.coff_read.specs.ObjectFile.{file_of}
use Rattle.coff_read.specs.Reading.{object_of, section_in, section_start, section_starts}
use Rattle.coff_read.specs.Records.{Section}
use Rattle.coff_read.specs.declared.file.ObjectFile.{ObjectFile}
use Rattle.pe_records_c.specs.ObjectRows.{TellsRelocations}
use Rattle.pe_records_c.specs.declared.object.ObjectRelocationRow.{ObjectRelocationRow}
use Rattle.pe_records_c.proofs.Telling.{no_refusal}

pub few_sections : (o : ObjectFile) → length (object_of (file_of o)).sections ≤ 2 ^ 32
few_sections o =
    let many : length (object_of (file_of o)).sections ≡ field (file_of o) 0 2 2 =
    length-map (section_starts (file_of o)) (section_in (file_of o)) ∙ length-map-range_with_len (section_start (file_of o)) 0 (field (file_of o) 0 2 2) in
    omega (arith, many, o.stand.sections, o.stand.headers_inside, o.stand.small)

pub relocations_no_fault : (section : Option Section) (before after : List ObjectRelocationRow) (count count_after status : ℕ) → TellsRelocations section before after count count_after status → status ≢ 1
relocations_no_fault None before after count count_after status told = λ one. absurd cc (told.0, one)
relocations_no_fault (Some section) before after count count_after status told = (no_refusal _ status told.status_is).0
