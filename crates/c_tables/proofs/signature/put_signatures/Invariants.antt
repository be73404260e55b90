use Rattle.std.proofs.Common.{◌≡◌, ◌≤◌, length, map, take, drop}
use Rattle.std.specs.List.{filter}
use Rattle.pe_view.specs.View.{bytes_of}
use Rattle.pe_records_c.specs.Rows.{filled}
use Rattle.pe_trust.specs.Certificates.{certificates_left}
use Rattle.pe_trust.specs.DigestsView.{AreDigestsOf}
use Rattle.pe_trust.specs.SignedBytes.{authenticode_bytes}
use Rattle.c_tables.specs.SignatureRows.{is_signature, signature_row, signature_text}
use Rattle.c_tables.proofs.signature.put_signatures.Given as goal

abbrev pub invariant-loop-certificate : goal.invariant-loop-certificate
invariant-loop-certificate l =
    let all = filter is_signature (certificates_left l.certificates) in
    record {
      told : map signature_text l.rows ≡ filled (signature_row (bytes_of l.file) l.headers) (take l.count all) (map signature_text l.initial.rows);
      left : drop l.count all ≡ filter is_signature (certificates_left l.certificate-iterator);
      within : l.count ≤ length all;
      digests : AreDigestsOf (authenticode_bytes (bytes_of l.file) l.headers) l.digests;
    }
