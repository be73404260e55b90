-- An image without a fault lies in order, and what was written of it when a write failed is a beginning.
use Rattle.std.proofs.Common.{◌≡◌, ◌∙◌, ℕ, ◌≤◌, List, ◌++◌, None, take, drop, sym, ap, subst, arith}
use Rattle.std.proofs.lemmas.List.{take-append-drop}
use Rattle.std.proofs.lemmas.Result.{err_from_is_err_and}
use Rattle.pe_view.specs.Faults.{first_standing}
use Rattle.pe_view.specs.View.{bytes_of}
use Rattle.pe_head.specs.declared.headers.Headers.{Headers}
use Rattle.pe_head.specs.Head.{head_of}
use Rattle.pe_layout.specs.Image.{LaidOut}
use Rattle.pe_layout.specs.Plain.{plain_bytes}
use Rattle.pe_layout.specs.SectionFaults.{layout_tests}
use Rattle.pe_layout_file.specs.ImageFile.{image_bytes, image_size}
use Rattle.pe_layout_file.specs.Pieces.{LieInOrder}
use Rattle.pe_layout_file.proofs.LayingOut.{Laws, lies_of}
use Rattle.pe_layout_file.proofs.engine.lay_out.Goals as goal

pub write_image-requires-clause-order : goal.write_image-requires-clause-order
write_image-requires-clause-order g c =
    let file = bytes_of c.new-file.result in
    let none = c.in-Ok.ensures.0 in
    let apart = c.sections_are_apart.ensures in
    let laws : Laws = record { pieces = c.bytes_by_pieces.ensures; behind = apart.behind; inside = apart.inside; apart = apart.apart; held = apart.held } in
    subst (λ (h : Headers). LieInOrder h file) (sym (c.headers.ensures ∙ c.in-Ok.ensures.1.headers)) (lies_of laws file none)

pub returns-in_err-write_image : goal.returns-in_err-write_image
returns-in_err-write_image g c =
    let p = err_from_is_err_and c.from_residual.result c.from_residual.ensures.1 in
    let failed = c.in_err-write_image.ensures in
    let k = failed.0.0 in
    let file = bytes_of c.new-file.result in
    let same : file ≡ c.args.file.now = c.new-file.ensures in
    let before = g.W.Sink.taken c.args.writer.now in
    let head : c.headers.result ≡ head_of file = c.headers.ensures ∙ c.in-Ok.ensures.1.headers in
    let size : c.size.result ≡ image_size file = c.size.ensures.value ∙ ap (λ (i : LaidOut). i.size) c.in-Ok.ensures.1.shows in
    let from = c.from.ensures in
    let few : image_size file ≤ c.args.most = omega arith in
    let whole = image_bytes c.args.file.now in
    let written = failed.0.1 ∙ ap (λ (h : Headers). before ++ take k (plain_bytes h file 0 h.size_of_image)) head ∙ ap (λ (f : List ℕ). before ++ take k (image_bytes f)) same in
    rw p.1 (
      take k whole,
      written,
      (((subst (λ (f : List ℕ). first_standing (layout_tests 0 f) ≡ None) same c.in-Ok.ensures.0, subst (λ (f : List ℕ). image_size f ≤ c.args.most) same few), (drop k whole, sym (take-append-drop k whole))), failed.1),
    )
