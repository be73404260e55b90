-- A member has a name, or the finding stands.
use Rattle.std.proofs.Common.{◌≡◌, ◌∙◌, Bool, true, false, List, [], ◌∷◌, ℕ, Option, Some, None, refl, sym, ap}
use Rattle.std.specs.Prelude.{is_none, not}
use Rattle.pe_view.specs.declared.fault.Fault.{Fault}
use Rattle.pe_view.specs.Standing.{standing}
use Rattle.coff_archive.specs.ArchiveFile.{file_of, is_thin}
use Rattle.coff_archive.specs.Front.{names_of}
use Rattle.coff_archive.specs.MemberView.{member_view}
use Rattle.coff_archive.specs.Names.{name_of}
use Rattle.coff_archive.proofs.archive_findings.read_finding.Goals as goal

named : (n : Option (List ℕ)) (b : Bool) (y : Fault) → b ≡ not (is_none n) → b ≡ true → [] ≡ standing (record { stands = is_none n; fault = y } ∷ [])
named None b y is yes_it = absurd (let e : false ≡ true = sym is ∙ yes_it in cc)
named (Some text) b y is yes_it = refl

nameless : (n : Option (List ℕ)) (b : Bool) (x y : Fault) → b ≡ not (is_none n) → b ≡ false → x ≡ y → x ∷ [] ≡ standing (record { stands = is_none n; fault = y } ∷ [])
nameless None b x y is not_it same = ap (λ (f : Fault). f ∷ []) same
nameless (Some text) b x y is not_it same = absurd (let e : true ≡ false = sym is ∙ not_it in cc)

pub returns-then-has_name : goal.returns-then-has_name
returns-then-has_name c =
    let a = c.args.archive.now in
    rw c.in-Ok.is (named (name_of (names_of (is_thin a) (file_of a)) (member_view c.in-Ok.member)) c.has_name.result _ c.has_name.ensures c.if-has_name.true)

pub returns-else-has_name : goal.returns-else-has_name
returns-else-has_name c =
    let a = c.args.archive.now in
    rw c.in-Ok.is (nameless (name_of (names_of (is_thin a) (file_of a)) (member_view c.in-Ok.member)) c.has_name.result c.file_fault.result _ c.has_name.ensures c.if-has_name.false c.file_fault.ensures)
