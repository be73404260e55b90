use Rattle.std.proofs.Common.{refl}
use Rattle.pe_text.proofs.Adding.{◌then◌}
use Rattle.pe_json.proofs.Objects.{adds_none, left-out}
use Rattle.coff_archive_json.proofs.symbols.write_symbols_if.Goals as goal

pub returns-in_default : goal.returns-in_default
returns-in_default g c = rw c.in_default.is (adds_none c.requires)

pub returns : goal.returns
returns g c = rw c.in-Some.is (c.text.ensures then (c.write_rows.ensures then c.text-2.ensures))

pub returns-then-has_failed : goal.returns-then-has_failed
returns-then-has_failed g c = rw c.in-Some.is (left-out _ _ _ _ _ c.text.ensures (c.has_failed.ensures.ends c.if-has_failed.true) refl)
