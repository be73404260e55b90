-- The rules of the certificate table, in the order of its findings.
use Rattle.std.specs.Prelude.{ℕ, zero, suc, ◌+◌, ◌-◌, ◌%◌, ◌==◌, ◌&&◌, ◌||◌, Bool, not, min, nat_lt, List, [], ◌∷◌, length, map, Option, None, Some, is_none, if◌then◌else◌}
use Rattle.std.specs.List.{list_any}
use Rattle.pe_view.specs.Faults.{Test, test}
use Rattle.pe_view.specs.declared.fault.Fault.{Fault}
use Rattle.pe_view.specs.declared.fault.Place.TheVariants.{File}
use Rattle.pe_head.specs.declared.directory.Directory.{Directory}
use Rattle.pe_head.specs.declared.headers.Headers.{Headers}
use Rattle.pe_head.specs.declared.section.SectionHeader.{SectionHeader}
use Rattle.pe_trust.specs.CertificateTable.{certificate_table}
use Rattle.pe_trust.specs.Certificates.{is_whole, next_of}
use Rattle.pe_trust.specs.SignedBytes.{authenticode_bytes, directory_place}

-- where the first entry is that does not lie whole before the end, after at most so many that do
abbrev pub stop_from : List ℕ → ℕ → ℕ → ℕ → ℕ
stop_from file end zero at = at
stop_from file end (suc most) at = if is_whole file end at then stop_from file end most (next_of file at) else at

abbrev pub stop_of : List ℕ → ℕ → ℕ → ℕ
stop_of file end at = stop_from file end (end - at) at

-- where the table ends
abbrev pub table_end : Directory → ℕ
table_end t = t.rva + t.size

abbrev pub whole_end : List ℕ → Directory → ℕ
whole_end file t = min (length file) (table_end t)

-- the table and the raw data of a section have a byte in common
abbrev pub shares : Directory → SectionHeader → Bool
shares t s = not (s.pointer_to_raw_data == 0) && (nat_lt t.rva (s.pointer_to_raw_data + s.size_of_raw_data) && nat_lt s.pointer_to_raw_data (table_end t))

abbrev pub overlaps : Headers → Directory → Bool
overlaps h t = nat_lt t.rva h.size_of_headers || list_any (shares t) h.sections.items

-- of a table, of image `number`, and where its first entry is that is not whole
abbrev pub table_tests : ℕ → List ℕ → Headers → Directory → ℕ → List Test
table_tests number file h t stop =
    test 221 number (File (directory_place h)) (nat_lt (length file) (table_end t))
    ∷ test 222 number (File stop) (nat_lt stop (whole_end file t))
    ∷ test 223 number (File (directory_place h)) (overlaps h t)
    ∷ test 224 number (File (directory_place h)) (not (t.rva % 8 == 0))
    ∷ test 225 number (File (directory_place h)) (is_none (authenticode_bytes file h))
    ∷ []

-- the finding of a rule, if it is broken
abbrev pub finding : Test → Option Fault
finding t = if t.stands then Some t.fault else None

-- the finding of each rule in order; without a table there is none
abbrev pub no_findings : List (Option Fault)
no_findings = None ∷ None ∷ None ∷ None ∷ None ∷ []

abbrev pub findings_by : ℕ → List ℕ → Headers → Option Directory → List (Option Fault)
findings_by number file h None = no_findings
findings_by number file h (Some t) = map finding (table_tests number file h t (stop_of file (whole_end file t) t.rva))

abbrev pub certificate_findings_of : ℕ → List ℕ → Headers → List (Option Fault)
certificate_findings_of number file h = findings_by number file h (certificate_table h)
