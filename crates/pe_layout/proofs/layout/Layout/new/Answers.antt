use Rattle.std.proofs.Common.{◌∙◌, ap, refl, length}
use Rattle.std.proofs.lemmas.Result.{err_from_is_err_and}
use Rattle.pe_view.specs.View.{bytes_of}
use Rattle.pe_view.specs.FirstStanding.{first-past, first-in}
use Rattle.pe_head.specs.Head.{head_of}
use Rattle.pe_head.specs.HeaderFaults.{head_tests}
use Rattle.pe_head.specs.declared.headers.Headers.{Headers}
use Rattle.pe_head.specs.Accepted.{headers_inside, image_small}
use Rattle.pe_layout.specs.SectionFaults.{placing_tests}
use Rattle.pe_layout.specs.Image.{image_from}
use Rattle.pe_layout.specs.HeaderSource.{headers_in}
use Rattle.pe_layout.specs.Layout.{image_of}
use Rattle.pe_layout.proofs.layout.Layout.new.Goals as goal

pub returns-in_err-check_headers : goal.returns-in_err-check_headers
unfolding image_of headers_in
returns-in_err-check_headers c =
    let file = bytes_of c.args.view in
    let p = err_from_is_err_and c.from_residual.result c.from_residual.ensures.1 in
    rw (p.1, p.2) (first-in (head_tests c.args.image file) (placing_tests c.args.image (head_of file) (length file)) _ c.in_err-check_headers.ensures)

pub returns-in_err-check_placing : goal.returns-in_err-check_placing
unfolding image_of headers_in
returns-in_err-check_placing c =
    let file = bytes_of c.args.view in
    let p = err_from_is_err_and c.from_residual-in_err-check_placing.result c.from_residual-in_err-check_placing.ensures.1 in
    let e = c.in_ok-check_headers.ensures.1 in
    rw (p.1, p.2) (first-past (head_tests c.args.image file) (placing_tests c.args.image (head_of file) (length file)) c.in_ok-check_headers.ensures.0
    ∙ rw (e, c.len.ensures) at c.in_err-check_placing.ensures)

pub invariant_of-result : goal.invariant_of-result
unfolding image_of headers_in
invariant_of-result c =
    let file = bytes_of c.args.view in
    let none = c.in_ok-check_headers.ensures.0 in
    let e = c.in_ok-check_headers.ensures.1 in
    record {
      size_is = c.size_of_image.ensures;
      header_bytes_are = c.size_of_headers.ensures;
      small = rw e (image_small c.args.image file none);
      headers_held = rw e (headers_inside c.args.image file none).0;
      headers_inside = rw e (headers_inside c.args.image file none).1;
      sections_placed = rw (← c.len.ensures) c.in_ok-check_placing.ensures.0;
    }

pub returns : goal.returns
unfolding image_of headers_in
returns c =
    let file = bytes_of c.args.view in
    let none = c.in_ok-check_headers.ensures.0 in
    let e = c.in_ok-check_headers.ensures.1 in (
      first-past (head_tests c.args.image file) (placing_tests c.args.image (head_of file) (length file)) none
          ∙ rw (e, c.len.ensures) at c.in_ok-check_placing.ensures.0,
      record { headers = ap head_of e; bytes = refl; shows = ap (λ (h : Headers). image_from c.args.image h file) (ap head_of e) },
    )
