-- Bytes of a file in the caller's record.
use Rattle.std.specs.Prelude.{ℕ, List}
use Rattle.pe_records_c.specs.declared.text.TextRecord.{TextRecord}

abbrev pub text_bytes : TextRecord → List ℕ
text_bytes r = r.bytes.now
