-- The tests of the members come first, then those of their sizes.
use Rattle.std.proofs.Common.{◌∙◌, arith}
use Rattle.std.specs.Prelude.{map}
use Rattle.std.proofs.lemmas.List.{length-map}
use Rattle.std.proofs.lemmas.Result.{err_from_is_err_and}
use Rattle.coff_library.specs.Members.{member_view}
use Rattle.coff_library.proofs.Form.{member_fault, size_refusal, no_fault, fits, offsets_are}
use Rattle.coff_library.proofs.ReadBack.{read_back}
use Rattle.coff_library.proofs.write.write_archive.Goals as goal

pub returns-in_err-check_members-clause-exact : goal.returns-in_err-check_members-clause-exact
returns-in_err-check_members-clause-exact g c =
    let p = err_from_is_err_and c.from_residual.result c.from_residual.ensures.1 in
    rw (p.1, p.2) (member_fault (map member_view c.args.members.now) _ c.in_err-check_members.ensures)

pub returns-in_err-offsets-clause-exact : goal.returns-in_err-offsets-clause-exact
returns-in_err-offsets-clause-exact g c =
    let p = err_from_is_err_and c.from_residual-in_err-offsets.result c.from_residual-in_err-offsets.ensures.1 in
    rw (p.1, p.2) (size_refusal (map member_view c.args.members.now) c.members_start-start.result _ c.members_start-start.ensures c.in_ok-check_members.ensures.0 c.in_err-offsets.ensures)

pub write_parts-requires-clause-offsets : goal.write_parts-requires-clause-offsets
write_parts-requires-clause-offsets g c =
    offsets_are (map member_view c.args.members.now) c.members_start-start.result c.as_slice-3.result.now c.members_start-start.ensures c.in_ok-offsets.ensures.0 (c.as_slice-3.ensures.value ∙ c.in_ok-offsets.ensures.1)

pub write_parts-requires-clause-fits : goal.write_parts-requires-clause-fits
write_parts-requires-clause-fits g c =
    let few = c.in_ok-check_members.ensures.1 in
    let len = length-map c.args.members.now member_view in
    fits (map member_view c.args.members.now) c.members_start-start.result c.members_start-start.ensures (omega (arith, few, len)) c.in_ok-offsets.ensures.0

pub returns-clause-exact : goal.returns-clause-exact
returns-clause-exact g c = (
  no_fault (map member_view c.args.members.now) c.members_start-start.result c.members_start-start.ensures c.in_ok-check_members.ensures.0 c.in_ok-offsets.ensures.0,
  c.in_ok-bytes.ensures,
)

pub returns-clause-read_back : goal.returns-clause-read_back
returns-clause-read_back g c =
    read_back (map member_view c.args.members.now) c.in_ok-bytes.bytes.items
    (no_fault (map member_view c.args.members.now) c.members_start-start.result c.members_start-start.ensures c.in_ok-check_members.ensures.0 c.in_ok-offsets.ensures.0)
    c.in_ok-bytes.ensures
