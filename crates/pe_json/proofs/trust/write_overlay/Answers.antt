use Rattle.std.proofs.Common.{◌-◌, [], ◌∷◌, codes, refl, Some}
use Rattle.json.specs.Print.{escape_byte}
use Rattle.pe_json.specs.JsonText.{member, number}
use Rattle.pe_json.specs.Listed.{more}
use Rattle.pe_json.specs.TrustRows.{kind_name, overlay_in}
use Rattle.pe_json.proofs.Objects.{adds_none, also, ended, object_after, texted}
use Rattle.pe_json.proofs.trust.write_overlay.Goals as goal

pub returns : goal.returns
unfolding overlay_in more member escape_byte
returns g c =
    let size = rw c.saturating_sub.ensures at c.write_number-2.ensures in
    let kind = rw (c.kind_name.ensures, texted (codes ",\"begins_with\":") (codes "begins_with") (Some (kind_name c.in-Some.kind)) refl) at c.write_text_if.ensures in
    let rest = also (number (codes "size") (c.args.size - c.args.end) ∷ []) _ (ended size) kind in
    rw c.in-Some.is (ended (object_after (codes ",\"overlay\":") (number (codes "offset") c.args.end) _ c.write_number.ensures rest c.text.ensures))

pub returns-in_default : goal.returns-in_default
unfolding overlay_in more
returns-in_default g c = rw c.in_default.is (adds_none c.requires)
