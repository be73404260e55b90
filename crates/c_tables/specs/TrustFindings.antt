-- The findings on what an image's file says of itself.
use Rattle.std.specs.Prelude.{ℕ, List, [], ◌∷◌, ◌++◌, set, Option, None, Some}
use Rattle.pe_view.specs.declared.fault.Fault.{Fault}
use Rattle.pe_head.specs.declared.headers.Headers.{Headers}
use Rattle.pe_records_c.specs.Faults.{fault_record}
use Rattle.pe_records_c.specs.declared.fault.FaultRecord.{FaultRecord}
use Rattle.pe_trust.specs.CertificateTests.{certificate_findings_of}
use Rattle.pe_trust.specs.RichTests.{rich_finding_of}

-- the faults that are there
abbrev pub present : List (Option Fault) → List Fault
present [] = []
present (None ∷ rest) = present rest
present (Some fault ∷ rest) = fault ∷ present rest

-- of the certificate table, and of the Rich header
abbrev pub trust_findings_of : List ℕ → Headers → List Fault
trust_findings_of file h = present (certificate_findings_of 0 file h ++ rich_finding_of 0 file h.pe_offset ∷ [])

-- rows in which a finding, if it is there, is the one at an index
abbrev pub stored : ℕ → Option Fault → List FaultRecord → List FaultRecord
stored index None rows = rows
stored index (Some fault) rows = set rows index (fault_record fault)
