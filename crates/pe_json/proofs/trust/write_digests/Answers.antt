use Rattle.std.proofs.Common.{◌+◌}
use Rattle.json.specs.Print.{escape_byte}
use Rattle.pe_text.specs.TextWriter.{Adds}
use Rattle.pe_trust.specs.CheckSum.{check_sum_of}
use Rattle.pe_view.specs.View.{bytes_of}
use Rattle.pe_json.specs.JsonText.{member}
use Rattle.pe_json.specs.Listed.{more}
use Rattle.pe_json.specs.TrustRows.{sum_member}
use Rattle.pe_json.proofs.Objects.{adds_none, also, ended}
use Rattle.pe_json.proofs.trust.write_digests.Goals as goal

pub returns-then-not-of : goal.returns-then-not-of
unfolding more
returns-then-not-of g c = rw c.if-not-of.true (adds_none c.requires.ready)

pub returns : goal.returns
unfolding sum_member more member escape_byte
returns g c =
    let own = sum_member (check_sum_of (bytes_of c.args.of.file) (c.args.of.headers.now.pe_offset + 88)) in
    let sum : Adds g.W.Sink.taken g.W.Sink.failures c.args.text.now c.write_number.new.text (more own) = ended (rw c.check_sum-sum.ensures at c.write_number.ensures) in
    let digest = rw c.authenticode_sha256.ensures at c.write_digest.ensures in
    rw c.if-not-of.false (also own _ sum digest)
