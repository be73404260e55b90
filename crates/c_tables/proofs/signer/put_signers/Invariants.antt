use Rattle.std.proofs.Common.{◌≡◌, ◌≤◌, length, map, take, drop}
use Rattle.pe_records_c.specs.Rows.{filled}
use Rattle.pe_trust.specs.SignersView.{signers_left}
use Rattle.c_tables.specs.SignerRows.{signer_row, signer_text}
use Rattle.c_tables.proofs.signer.put_signers.Given as goal

abbrev pub invariant-loop-signer : goal.invariant-loop-signer
invariant-loop-signer l = record {
  told : map signer_text l.rows ≡ filled signer_row (take l.count (signers_left l.signers)) (map signer_text l.initial.rows);
  left : drop l.count (signers_left l.signers) ≡ signers_left l.signer-iterator;
  within : l.count ≤ length (signers_left l.signers);
}
