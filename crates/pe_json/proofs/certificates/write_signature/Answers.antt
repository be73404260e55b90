use Rattle.std.proofs.lemmas.Bool.{eq-eqb, ne_eqb}
use Rattle.json.specs.Print.{escape_byte}
use Rattle.pe_text.specs.TextWriter.{Adds}
use Rattle.pe_text.proofs.Adding.{◌then◌}
use Rattle.pe_trust.specs.Signature.{signed_digest_of}
use Rattle.pe_trust.specs.SignedBytes.{authenticode_bytes}
use Rattle.pe_trust.specs.Signers.{signers_of_signature}
use Rattle.pe_view.specs.View.{bytes_of}
use Rattle.pe_json.specs.CertificateRows.{signed_members, signers_member}
use Rattle.pe_json.specs.JsonText.{member, list}
use Rattle.pe_json.specs.Listed.{more}
use Rattle.pe_json.proofs.Objects.{adds_none, also, ended}
use Rattle.pe_json.proofs.certificates.write_signature.Goals as goal

pub returns-then-certificate-ne-SIGNED_DATA-clause-adds : goal.returns-then-certificate-ne-SIGNED_DATA-clause-adds
unfolding more
returns-then-certificate-ne-SIGNED_DATA-clause-adds g c = rw (ne_eqb c.args.certificate.now.kind 2 c.if-certificate-ne-SIGNED_DATA.true) (adds_none c.requires.ready)

pub returns-clause-adds : goal.returns-clause-adds
unfolding signers_member more member list escape_byte
returns-clause-adds g c =
    let bytes = c.args.certificate.now.bytes.now in
    let signed = rw c.signed_digest.ensures at c.write_signed.ensures.adds in
    let all = signers_member (signers_of_signature bytes) in
    let signers : Adds g.W.Sink.taken g.W.Sink.failures c.write_signed.new.text c.text-2.new.self (more all) =
    ended (c.text.ensures then ((rw c.of.ensures at c.write_each_signer.ensures) then c.text-2.ensures)) in
    rw (eq-eqb c.args.certificate.now.kind 2 c.if-certificate-ne-SIGNED_DATA.false)
    (also (signed_members c.args.of.digests (authenticode_bytes (bytes_of c.args.of.file) c.args.of.headers.now) (signed_digest_of bytes)) all signed signers)
