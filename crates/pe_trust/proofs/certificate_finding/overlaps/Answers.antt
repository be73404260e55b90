use Rattle.std.proofs.Common.{rules, ◌∙◌, ap, sym, Bool}
use borrow.Author.Tests.{tests}
use Rattle.std.specs.Prelude.{◌||◌}
use Rattle.std.specs.List.{list_any}
use Rattle.std.proofs.lemmas.Bool.{le-ltb}
use Rattle.std.proofs.lemmas.Iterator.{YieldsList-from_slice}
use Rattle.std.proofs.lemmas.Iterator.Search.{any_from_yields_List}
use Rattle.pe_trust.specs.CertificateTests.{shares}
use Rattle.pe_trust.proofs.certificate_finding.overlaps.Goals as goal

pub returns-else-table-headers : goal.returns-else-table-headers
returns-else-table-headers c =
    any_from_yields_List (shares c.args.table) _ _ _ c.any.ensures.ran (YieldsList-from_slice c.as_slice.result.now cc) (λ x b q k. search (rules, tests))
    ∙ ap (λ ss. list_any (shares c.args.table) ss) c.as_slice.ensures.value
    ∙ sym (ap (λ (b : Bool). b || list_any (shares c.args.table) c.args.headers.now.sections.items) (le-ltb c.args.table.rva c.args.headers.now.size_of_headers c.if-table-headers.false))
