use Rattle.std.proofs.Common.{◌≡◌, ◌∙◌, sym, ap, codes, Some}
use Rattle.std.specs.Prelude.{option_map}
use Rattle.json.specs.Print.{escape_byte}
use Rattle.pe_head.specs.declared.directory.Directory.{Directory}
use Rattle.pe_layout.specs.Layout.{image_of}
use Rattle.pe_records.specs.TlsFields.{tls_at}
use Rattle.pe_json.specs.JsonText.{member, number}
use Rattle.pe_json.specs.Listed.{more}
use Rattle.pe_json.specs.TlsRows.{tls_members_at}
use Rattle.pe_json.proofs.Objects.{adds_none, also, ended, object_after}
use Rattle.pe_json.proofs.tls.write_tls.Goals as goal

pub returns : goal.returns
unfolding tls_members_at more member escape_byte
returns g c =
    let i = image_of c.args.layout.now in
    let d = c.in-Some.directory in
    let is = sym c.directory.ensures ∙ c.in-Some.is in
    let told : Some c.in-Some-tls.tls ≡ Some (tls_at i d.rva) = sym c.in-Some-tls.is ∙ c.tls.ensures ∙ ap (option_map (λ (d : Directory). tls_at i d.rva)) is in
    let same : c.in-Some-tls.tls ≡ tls_at i d.rva = cc in
    let fields = rw same at c.write_fields.ensures in
    rw is (ended (object_after (codes ",\"tls\":") (number (codes "rva") d.rva) _ c.write_number.ensures (also _ _ fields c.write_callbacks.ensures) c.text.ensures))

pub returns-in_default : goal.returns-in_default
unfolding tls_members_at more
returns-in_default g c = rw (sym c.directory.ensures ∙ c.in_default.is) (adds_none c.requires)
