-- The certificate table as C has it.
use Rattle.std.specs.Prelude.{ℕ, List}
use Rattle.pe_head.specs.declared.headers.Headers.{Headers}
use Rattle.pe_trust.specs.CertificateTable.{certificate_table}
use Rattle.pe_trust.specs.Certificates.{Entry, certificates_of}
use Rattle.c_tables.specs.declared.certificate.CertificateRow.{CertificateRow}

-- the entries of the table, of which directory 4 has the place; none without one
abbrev pub certificates : List ℕ → Headers → List Entry
certificates file h = certificates_of file (certificate_table h)

-- a row, with its content as bytes
abbrev pub certificate_text : CertificateRow → Entry
certificate_text r = record { offset = r.offset; length = r.length; revision = r.revision; kind = r.kind; bytes = r.bytes.now }
