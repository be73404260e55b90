-- The findings of an image's tables and of its file in a line of JSON.
use Rattle.std.specs.Prelude.{ℕ, List, [], ◌∷◌, ◌++◌, codes, flat_map, map, Option, None, Some}
use Rattle.pe_view.specs.Standing.{standing}
use Rattle.pe_head.specs.declared.headers.Headers.{Headers}
use Rattle.pe_delay.specs.Findings.{delay_tests}
use Rattle.pe_layout.specs.Image.{LaidOut}
use Rattle.pe_records.specs.FindingTests.{finding_tests}
use Rattle.pe_resources.specs.Version.{image_version_tests}
use Rattle.pe_resources.specs.Walk.{resource_tests}
use Rattle.pe_symbols.specs.SymbolTests.{image_symbol_tests}
use Rattle.pe_trust.specs.CertificateTests.{certificate_findings_of}
use Rattle.pe_trust.specs.RichTests.{rich_finding_of}
use Rattle.pe_view.specs.declared.fault.Fault.{Fault}
use Rattle.pe_json.specs.JsonText.{member, list}
use Rattle.pe_json.specs.Refused.{fault_object}

-- a finding, if there is one
abbrev pub found : Option Fault → List Fault
found None = []
found (Some f) = f ∷ []

-- those of the certificate table, and then that of the Rich header
abbrev pub trust_findings : List ℕ → Headers → List Fault
trust_findings file h = flat_map found (certificate_findings_of 0 file h) ++ found (rich_finding_of 0 file h.pe_offset)

-- those of the tables, of the delay-load directory table, of the resource tree and of the version information, then these, and those of the
-- symbol table
abbrev pub image_findings : List ℕ → Headers → LaidOut → List Fault
image_findings file h i =
    standing (finding_tests h.machine i file)
    ++ (standing (delay_tests i)
    ++ (standing (resource_tests i)
    ++ (standing (image_version_tests i) ++ (trust_findings file h ++ standing (image_symbol_tests i.number file h)))))

abbrev pub finding_row : Fault → List ℕ
finding_row f = fault_object f None

-- the member that lists findings, if there are any
unfoldable pub findings_in : List Fault → List (List ℕ)
findings_in [] = []
findings_in (f ∷ fs) = member (codes "findings") (list (map finding_row (f ∷ fs))) ∷ []

abbrev pub findings_members : List ℕ → Headers → LaidOut → List (List ℕ)
findings_members file h i = findings_in (image_findings file h i)
