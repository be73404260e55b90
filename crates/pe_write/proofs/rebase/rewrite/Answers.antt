use Rattle.std.proofs.Common.{◌≡◌, ◌∙◌, ap, []}
use Rattle.std.specs.Prelude.{⊤, pos, ◌-ℤ◌}
use Rattle.std.proofs.lemmas.Result.{err_from_is_err_and}
use Rattle.pe_view.specs.FirstStanding.{first-in}
use Rattle.pe_head.specs.declared.headers.Headers.{Headers}
use Rattle.pe_layout.specs.Layout.{headers_of}
use Rattle.pe_write.proofs.Phases.{answers-past}
use Rattle.pe_write.specs.RebaseFaults.{fields_tests, ranges_tests}
use Rattle.pe_write.specs.Rebase.{moved_all, put_header}
use Rattle.pe_write.proofs.rebase.rewrite.Goals as goal

pub returns-in_err-move_fields : goal.returns-in_err-move_fields
returns-in_err-move_fields c =
    let p = err_from_is_err_and c.from_residual.result c.from_residual.ensures.1 in
    let stops = rw c.headers-headers.ensures at c.in_err-move_fields.ensures in
    rw (p.1, p.2) (first-in (fields_tests (headers_of c.args.layout.now) c.args.fixups.now) _ c.in_err-move_fields.field-0.0 stops)

pub returns : goal.returns
returns c =
    let h = headers_of c.args.layout.now in
    let d = pos c.args.base -ℤ pos h.image_base in
    let same = rw c.headers-headers.ensures at c.in_ok-move_fields.ensures in
    let written : c.move_fields.new.bytes ≡ moved_all h d c.args.fixups.now (put_header h c.args.base c.args.bytes.now) =
    same.1
    ∙ ap (moved_all h d c.args.fixups.now) (c.put_header.ensures ∙ ap (λ (x : Headers). put_header x c.args.base c.args.bytes.now) c.headers-headers.ensures) in
    answers-past (fields_tests h c.args.fixups.now) (ranges_tests h [] 0 h.sections.items) (λ _. ⊤) _ c.check_raw_data.result same.0 (λ _ _. written) (rw c.headers-headers.ensures at c.check_raw_data.ensures)
