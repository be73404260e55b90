use Rattle.std.proofs.Common.{◌≡◌, ◌*◌, drop}
use Rattle.std.specs.Str.{bytes_eq}
use Rattle.pe_version.specs.Parts.{utf16}
use Rattle.c_tables.proofs.version_text.is_utf16.Given as goal

abbrev pub invariant-loop-index : goal.invariant-loop-index
invariant-loop-index l = record {
  same : bytes_eq (drop (2 * l.index) l.units) (utf16 (drop l.index l.text)) ≡ bytes_eq l.units (utf16 l.text);
}
