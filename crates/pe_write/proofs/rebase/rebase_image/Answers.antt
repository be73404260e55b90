use Rattle.std.proofs.Common.{◌≡◌, ◌∙◌, sym, ap, List, ℕ, None, subst, length}
use Rattle.std.specs.Prelude.{pos, ◌-ℤ◌}
use Rattle.std.proofs.lemmas.Result.{err_from_is_err_and}
use Rattle.std.proofs.lemmas.List.{take_at}
use Rattle.pe_view.specs.Faults.{first_standing, Refuses}
use Rattle.pe_head.specs.declared.headers.Headers.{Headers}
use Rattle.pe_head.specs.Head.{head_of}
use Rattle.pe_layout.specs.Image.{LaidOut, image_of_file}
use Rattle.pe_layout.specs.Layout.{headers_of}
use Rattle.pe_tables.specs.Fixups.{fixups_of}
use Rattle.pe_tables.specs.declared.fixups.Fixup.{Fixup}
use Rattle.pe_write.specs.Rebase.{rebased}
use Rattle.pe_write.specs.Rebased.{IsRebased}
use Rattle.pe_image.specs.ImageTests.{relocation_tests}
use Rattle.pe_write.specs.Rebase.{moved_all, put_header}
use Rattle.pe_write.proofs.InWords.{in_words}
use Rattle.pe_write.proofs.Rebasable.{Laws, sound, laid_of, own_fields}
use Rattle.pe_write.proofs.Rebasing.{refused_layout, refused_tables, refused_base, same_base, same_data, all_but_data, made}
use Rattle.pe_write.proofs.rebase.rebase_image.Goals as goal

pub returns-in_err-check_base : goal.returns-in_err-check_base
returns-in_err-check_base g c =
    let file = c.args.file.now in
    let found = sym (same_base file c.args.base c.args.layout.now c.requires.shows) ∙ c.in_err-check_base.ensures in
    let p = err_from_is_err_and c.from_residual.result c.from_residual.ensures.1 in
    rw (p.1, p.2) (refused_base file c.args.base c.requires.laid c.requires.sound c.in_err-check_base.field-0.0 found)

pub rewrite-requires-clause-laid : goal.rewrite-requires-clause-laid
rewrite-requires-clause-laid g c =
    let laws : Laws = record { behind = c.sections_are_apart.ensures.behind; apart = c.sections_are_apart.ensures.apart; held = c.sections_are_apart.ensures.held; fields = c.fields_are_apart.ensures.apart } in
    let len : length c.deref_mut.result.now ≡ length c.args.file.now = ap length (c.deref_mut.ensures.value ∙ c.in_ok-bytes.ensures.items) in
    rw (c.requires.shows.headers, len) (laid_of laws c.args.file.now c.requires.laid)

pub rewrite-requires-clause-inside : goal.rewrite-requires-clause-inside
rewrite-requires-clause-inside g c =
    let len : length c.deref_mut.result.now ≡ length c.args.file.now = ap length (c.deref_mut.ensures.value ∙ c.in_ok-bytes.ensures.items) in
    rw (c.requires.shows.headers, len) (own_fields c.args.file.now c.requires.laid)

pub returns-in_err-rewrite : goal.returns-in_err-rewrite
returns-in_err-rewrite g c =
    let file = c.args.file.now in
    let based = sym (same_base file c.args.base c.args.layout.now c.requires.shows) ∙ c.in_ok-check_base.ensures.0 in
    let found = sym (same_data file c.args.layout.now c.args.fixups.now c.requires.shows c.requires.read) ∙ c.in_err-rewrite.ensures in
    let p = err_from_is_err_and c.from_residual-in_err-rewrite.result c.from_residual-in_err-rewrite.ensures.1 in
    rw (p.1, p.2) (all_but_data file c.args.base c.requires.laid c.requires.sound based ∙ found)

pub returns : goal.returns
unfolding rebased
returns g c =
    let file = c.args.file.now in
    let base = c.args.base in
    let layout = c.args.layout.now in
    let based = sym (same_base file base layout c.requires.shows) ∙ c.in_ok-check_base.ensures.0 in
    let found = sym (same_data file layout c.args.fixups.now c.requires.shows c.requires.read) ∙ c.in_ok-rewrite.ensures.0 in
    let none = all_but_data file base c.requires.laid c.requires.sound based ∙ found in
    let copied = c.deref_mut.ensures.value ∙ c.in_ok-bytes.ensures.items in
    let written : c.rewrite.new.bytes ≡ moved_all (head_of file) (pos base -ℤ pos (head_of file).image_base) (fixups_of (image_of_file 0 file)) (put_header (head_of file) base file) =
    c.in_ok-rewrite.ensures.1
    ∙ ap (λ (bs : List ℕ). moved_all (headers_of layout) (pos base -ℤ pos (headers_of layout).image_base) c.args.fixups.now (put_header (headers_of layout) base bs)) copied
    ∙ ap (λ (fs : List Fixup). moved_all (headers_of layout) (pos base -ℤ pos (headers_of layout).image_base) fs (put_header (headers_of layout) base file)) c.requires.read
    ∙ ap (λ (h : Headers). moved_all h (pos base -ℤ pos h.image_base) (fixups_of (image_of_file 0 file)) (put_header h base file)) c.requires.shows.headers in
    (none, take_at c.rewrite.new.bytes _ c.in_ok-bytes.bytes.len (c.rewrite.auto.bytes ∙ c.deref_mut.ensures.len) ∙ written)
