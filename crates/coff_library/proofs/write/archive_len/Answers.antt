-- The tests of the members come first, then those of their sizes.
use Rattle.std.proofs.Common.{◌∙◌, arith}
use Rattle.std.specs.Prelude.{map}
use Rattle.std.proofs.lemmas.Result.{err_from_is_err_and}
use Rattle.coff_library.specs.Members.{member_view}
use Rattle.coff_library.proofs.Form.{member_fault, size_refusal, no_fault}
use Rattle.coff_library.proofs.write.archive_len.Goals as goal

pub returns-in_err-check_members-clause-exact : goal.returns-in_err-check_members-clause-exact
returns-in_err-check_members-clause-exact g c =
    let p = err_from_is_err_and c.from_residual.result c.from_residual.ensures.1 in
    rw (p.1, p.2) (member_fault (map member_view c.args.members.now) _ c.in_err-check_members.ensures)

pub returns-in_err-_offsets-clause-exact : goal.returns-in_err-_offsets-clause-exact
returns-in_err-_offsets-clause-exact g c =
    let p = err_from_is_err_and c.from_residual-in_err-_offsets.result c.from_residual-in_err-_offsets.ensures.1 in
    rw (p.1, p.2) (size_refusal (map member_view c.args.members.now) c.members_start-start.result _ c.members_start-start.ensures c.in_ok-check_members.ensures.0 c.in_err-_offsets.ensures)

pub returns-clause-exact : goal.returns-clause-exact
returns-clause-exact g c = (
  no_fault (map member_view c.args.members.now) c.members_start-start.result c.members_start-start.ensures c.in_ok-check_members.ensures.0 c.in_ok-_offsets.ensures.0,
  omega (arith, c.members_start-start.ensures, c.archive_size.ensures),
)
