use Rattle.std.proofs.Common.{◌≡◌, List, [], ◌∷◌, length, refl, arith}
use Rattle.json.specs.Print.{escape_byte}
use Rattle.pe_text.proofs.Adding.{◌then◌}
use Rattle.pe_view.specs.declared.fault.Fault.{Fault}
use Rattle.pe_json.specs.FindingRows.{findings_in, finding_row}
use Rattle.pe_json.specs.JsonText.{member, list}
use Rattle.pe_json.specs.Listed.{more}
use Rattle.pe_json.proofs.Objects.{adds_none, ended, some_rows}
use Rattle.pe_json.proofs.findings.write_findings.Goals as goal

none_found : (fs : List Fault) → length fs ≡ 0 → [] ≡ more (findings_in fs)
unfolding findings_in more
none_found [] none = refl
none_found (f ∷ fs) none = absurd (omega (arith, none))

pub returns : goal.returns
unfolding findings_in more member list escape_byte
returns g c =
    let first = c.in-Some.first.now in
    let rest = c.in-Some.rest.now in
    let rows = rw (some_rows finding_row first rest (first ∷ rest) refl) at (c.write_object.ensures then c.write_rest.ensures) in
    rw c.in-Some.ensures.cases.0 (ended (c.text.ensures then (rows then c.text-2.ensures)))

pub returns-in_default : goal.returns-in_default
returns-in_default g c = rw (← none_found _ c.in_default.ensures.cases) (adds_none c.requires)
