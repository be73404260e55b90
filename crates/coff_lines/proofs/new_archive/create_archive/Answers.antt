-- A write that failed leaves the beginning of the archive.
use Rattle.std.proofs.Common.{ℕ, List, take, drop, sym, subst}
use Rattle.std.proofs.lemmas.List.{take-append-drop}
use Rattle.std.specs.Prelude.{map}
use Rattle.coff_library.specs.Members.{member_view}
use Rattle.coff_library.specs.Written.{IsArchiveOf}
use Rattle.pe_text.specs.declared.outcome.Outcome.TheVariants.{Done}
use Rattle.coff_lines.proofs.new_archive.create_archive.Goals as goal

pub returns-clause-puts : goal.returns-clause-puts
returns-clause-puts g c =
    let members = map member_view c.args.members.now in
    let whole : List ℕ = c.deref.result.now in
    let archive = subst (λ (bytes : List ℕ). IsArchiveOf members bytes) (sym c.deref.ensures.value) c.in-Ok.ensures.exact.1 in
    let wrote = c.in-Err.ensures in
    let rest = sym (take-append-drop wrote.0.0 whole) in
    (take wrote.0.0 whole, wrote.0.1, (wrote.1, (Done, (whole, (c.in-Ok.ensures.exact.0, archive), (drop wrote.0.0 whole, rest)))))
