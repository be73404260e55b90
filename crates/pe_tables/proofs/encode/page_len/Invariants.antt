use Rattle.std.proofs.Common.{◌≡◌, ℕ, ◌<◌, ◌≤◌, ◌-◌, length, get_or}
use Rattle.pe_tables.specs.Encoded.{page_of}
use Rattle.pe_tables.specs.declared.fixups.Fixup.{Fixup}
use Rattle.pe_tables.proofs.encode.page_len.Given as goal

abbrev pub invariant-loop-len : goal.invariant-loop-len
invariant-loop-len l = record {
  some : 0 < l.len;
  within : l.len ≤ length l.fixups;
  same : (k : ℕ) (f : Fixup) → k < l.len → page_of (get_or l.fixups k f) ≡ page_of (get_or l.fixups 0 f);
}

abbrev pub decreases-loop-len : goal.decreases-loop-len
decreases-loop-len l = length l.fixups - l.len
