use Rattle.std.proofs.Common.{◌≡◌, ◌∙◌, sym, ap, List, ℕ, None, subst, length}
use Rattle.std.specs.Prelude.{pos, ◌-ℤ◌}
use Rattle.std.proofs.lemmas.Result.{err_from_is_err_and}
use Rattle.std.proofs.lemmas.List.{take_at}
use Rattle.pe_view.specs.Faults.{first_standing, Refuses}
use Rattle.pe_head.specs.declared.headers.Headers.{Headers}
use Rattle.pe_head.specs.Head.{head_of}
use Rattle.pe_layout.specs.Image.{LaidOut, image_of_file}
use Rattle.pe_layout.specs.Layout.{headers_of}
use Rattle.pe_tables.specs.Fixups.{fixups_of}
use Rattle.pe_tables.specs.declared.fixups.Fixup.{Fixup}
use Rattle.pe_write.specs.Rebase.{rebased}
use Rattle.pe_write.specs.Rebased.{IsRebased}
use Rattle.pe_image.specs.ImageTests.{relocation_tests}
use Rattle.pe_write.specs.Rebase.{moved_all, put_header}
use Rattle.pe_write.proofs.InWords.{in_words}
use Rattle.pe_write.proofs.Rebasable.{Laws, sound, laid_of, own_fields}
use Rattle.pe_write.proofs.Rebasing.{refused_layout, refused_tables, refused_base, same_base, same_data, all_but_data, made}
use Rattle.pe_write.proofs.rebase.rebase_file.Goals as goal

pub returns-in_err-layout-clause-exact : goal.returns-in_err-layout-clause-exact
returns-in_err-layout-clause-exact g c =
    let p = err_from_is_err_and c.from_residual.result c.from_residual.ensures.1 in
    rw (p.1, p.2) (refused_layout c.args.file.now c.args.base c.in_err-layout.field-0.0 c.in_err-layout.ensures)

pub returns-in_err-fixups-clause-exact : goal.returns-in_err-fixups-clause-exact
returns-in_err-fixups-clause-exact g c =
    let file = c.args.file.now in
    let laid = c.in_ok-layout.ensures in
    let error = c.in_err-fixups.field-0.0 in
    let p = err_from_is_err_and c.from_residual-in_err-fixups.result c.from_residual-in_err-fixups.ensures.1 in
    rw (p.1, p.2) (refused_tables file c.args.base laid.0 error (subst (λ (i : LaidOut). Refuses (relocation_tests i) error) laid.1.shows c.in_err-fixups.ensures.exact))

pub rebase_image-requires-clause-laid : goal.rebase_image-requires-clause-laid
rebase_image-requires-clause-laid g c = c.in_ok-layout.ensures.0

pub rebase_image-requires-clause-shows : goal.rebase_image-requires-clause-shows
rebase_image-requires-clause-shows g c = c.in_ok-layout.ensures.1

pub rebase_image-requires-clause-sound : goal.rebase_image-requires-clause-sound
rebase_image-requires-clause-sound g c = subst (λ (i : LaidOut). first_standing (relocation_tests i) ≡ None) c.in_ok-layout.ensures.1.shows c.in_ok-fixups.ensures.exact.0

pub rebase_image-requires-clause-read : goal.rebase_image-requires-clause-read
rebase_image-requires-clause-read g c = c.deref.ensures.value ∙ c.in_ok-fixups.ensures.exact.1 ∙ ap fixups_of c.in_ok-layout.ensures.1.shows

pub returns-in_err-bytes-clause-exact : goal.returns-in_err-bytes-clause-exact
returns-in_err-bytes-clause-exact g c =
    let p = err_from_is_err_and c.from_residual-in_err-bytes.result c.from_residual-in_err-bytes.ensures.1 in
    rw (p.1, p.2) c.in_err-bytes.ensures

pub returns-clause-bytes : goal.returns-clause-bytes
returns-clause-bytes g c =
    let laws : Laws = record { behind = c.sections_are_apart.ensures.behind; apart = c.sections_are_apart.ensures.apart; held = c.sections_are_apart.ensures.held; fields = c.fields_are_apart.ensures.apart } in
    let exact = c.in_ok-bytes.ensures in
    let n = sound laws c.args.file.now c.args.base exact.0 in
    subst (IsRebased c.args.file.now c.args.base) (sym (exact.1 ∙ made c.args.file.now c.args.base n)) (in_words c.args.file.now c.args.base n)
