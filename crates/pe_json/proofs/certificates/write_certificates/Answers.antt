use Rattle.std.proofs.Common.{◌≡◌, ◌∙◌, ℕ, Bool, true, false, List, [], map, refl, sym, ap, subst, None, Some}
use Rattle.std.specs.Prelude.{Option, is_some, not}
use Rattle.std.proofs.lemmas.Bool.{false≢true, true≢false}
use Rattle.json.specs.Print.{escape_byte}
use Rattle.pe_text.specs.TextWriter.{Adds}
use Rattle.pe_text.proofs.Adding.{◌then◌}
use Rattle.pe_head.specs.declared.directory.Directory.{Directory}
use Rattle.pe_trust.specs.CertificateTable.{certificate_table}
use Rattle.pe_trust.specs.Certificates.{certificates_of}
use Rattle.pe_trust.specs.SignedBytes.{authenticode_bytes}
use Rattle.pe_view.specs.View.{bytes_of}
use Rattle.pe_json.specs.CertificateRows.{certificate_members, certificate_row, certificates_member}
use Rattle.pe_json.specs.JsonText.{member, list}
use Rattle.pe_json.specs.Listed.{more}
use Rattle.pe_json.proofs.Objects.{adds_none, ended}
use Rattle.pe_json.proofs.certificates.write_certificates.Goals as goal

-- without a table there is no member
untold : (digests : Bool) (file : List ℕ) (message : Option (List ℕ)) (d : Option Directory) → is_some d ≡ false → certificate_members digests file message d ≡ []
untold digests file message None is = refl
untold digests file message (Some t) is = absurd (true≢false is)

pub returns-then-is_none : goal.returns-then-is_none
unfolding more
returns-then-is_none g c =
    let of = c.args.of in
    let none = ap is_some (sym c.certificate_table.ensures) ∙ c.is_none.ensures ∙ ap not c.if-is_none.true in
    rw (untold of.digests (bytes_of of.file) (authenticode_bytes (bytes_of of.file) of.headers.now) (certificate_table of.headers.now) none) (adds_none c.requires)

-- the member of a table
told : (digests : Bool) (file : List ℕ) (message : Option (List ℕ)) (d : Option Directory) → is_some d ≡ true
    → certificates_member (map (certificate_row digests message) (certificates_of file d)) ≡ certificate_members digests file message d
told digests file message None is = absurd (false≢true is)
told digests file message (Some t) is = refl

pub returns : goal.returns
unfolding certificates_member more member list escape_byte
returns g c =
    let of = c.args.of in
    let table = certificate_table of.headers.now in
    let message = authenticode_bytes (bytes_of of.file) of.headers.now in
    let all = certificates_member (map (certificate_row of.digests message) (certificates_of (bytes_of of.file) table)) in
    let some = ap is_some (sym c.certificate_table.ensures) ∙ c.is_none.ensures ∙ ap not c.if-is_none.false in
    let is = told of.digests (bytes_of of.file) message table some in
    let rows : Adds g.W.Sink.taken g.W.Sink.failures c.args.text.now c.text-2.new.self (more all) = ended (c.text.ensures then ((rw c.of.ensures at c.write_each.ensures) then c.text-2.ensures)) in
    subst (λ (members : List (List ℕ)). Adds g.W.Sink.taken g.W.Sink.failures c.args.text.now c.text-2.new.self (more members)) is rows
