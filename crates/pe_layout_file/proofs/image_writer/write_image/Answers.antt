-- The bytes so far are the first of the image, up to the end of a piece.
use Rattle.std.proofs.Common.{◌≡◌, ◌∙◌, ℕ, ◌+◌, ◌-◌, List, ◌++◌, length, get_or, take, sym, ap, subst, append-nil, arith}
use Rattle.std.proofs.lemmas.Result.{err_from_is_err_and}
use Rattle.pe_view.specs.Number.{part}
use Rattle.pe_view.specs.View.{bytes_of}
use Rattle.pe_head.specs.declared.section.SectionHeader.{SectionHeader}
use Rattle.pe_head.specs.Section.{rawlen}
use Rattle.pe_layout.specs.Plain.{plain_bytes}
use Rattle.pe_text.specs.TextWriter.{WritesAll}
use Rattle.pe_layout_file.proofs.Sections.{IsBetween, at_first, at_next, begins, grows, headers_are, last_bytes, more_bytes, no_header, section_after, section_at, section_bytes}
use Rattle.pe_layout_file.proofs.Writing.{both}
use Rattle.pe_layout_file.proofs.image_writer.write_image.Goals as goal

pub returns-in_err-write_all : goal.returns-in_err-write_all
returns-in_err-write_all g c =
    let p = err_from_is_err_and c.from_residual.result c.from_residual.ensures.1 in
    let failed = c.in_err-write_all.ensures in
    let h = c.args.headers.now in
    let file = bytes_of c.args.file in
    let before = g.W.Sink.taken c.args.writer.now in
    let inside = c.requires.order.headers_inside in
    let value = rw c.unwrap.ensures at c.slice.ensures.value in
    let bytes : c.unwrap.result.now ≡ plain_bytes h file 0 h.size_of_headers = value ∙ ap (part file 0) c.from-header_bytes.ensures ∙ sym (headers_are h file c.requires.order) in
    rw p.1 (begins h file before before _ 0 h.size_of_headers failed.0.0 (omega arith) (sym (append-nil before)) (failed.0.1 ∙ ap (λ (xs : List ℕ). before ++ take failed.0.0 xs) bytes), failed.1)

pub loop-section-init : goal.loop-section-init
loop-section-init g c =
    let h = c.args.headers.now in
    let file = bytes_of c.args.file in
    let value = rw c.unwrap.ensures at c.slice.ensures.value in
    let bytes : c.unwrap.result.now ≡ plain_bytes h file 0 h.size_of_headers = value ∙ ap (part file 0) c.from-header_bytes.ensures ∙ sym (headers_are h file c.requires.order) in
    record {
      taken = c.in_ok-write_all.ensures.0 ∙ ap (λ (xs : List ℕ). g.W.Sink.taken c.args.writer.now ++ xs) bytes;
      count = c.in_ok-write_all.ensures.1;
      between = at_first h file c.requires.order;
    }

pub returns-in_err-write_section : goal.returns-in_err-write_section
returns-in_err-write_section g c =
    let p = err_from_is_err_and c.from_residual-in_err-write_section.result c.from_residual-in_err-write_section.ensures.1 in
    let failed = c.in_err-write_section.ensures in
    let h = c.args.headers.now in
    let file = bytes_of c.args.file in
    let i = c.loop-section.section-index in
    let r = c.loop-section.rva in
    let s : SectionHeader = get_or c.as_slice-section-items.result.now i no_header in
    let at = section_at _ h.sections.items i no_header c.as_slice-section-items.ensures.value c.loop-section-test.true in
    let between = c.loop-section.invariant.between in
    let low = section_after h file c.requires.order i r s at between in
    let inside = (at_next h file c.requires.order i r s at between).inside in
    let bytes = section_bytes h file c.requires.order i r s at between in
    rw p.1 (
      begins h file _ _ _ r (s.virtual_address - r + rawlen s) failed.0.0 (omega arith) c.loop-section.invariant.taken
          (failed.0.1 ∙ ap (λ (xs : List ℕ). g.W.Sink.taken c.loop-section.writer ++ take failed.0.0 xs) (sym bytes)),
      failed.1 ∙ ap (λ (n : ℕ). n + 1) c.loop-section.invariant.count,
    )

pub overflow_add-rva : goal.overflow_add-rva
overflow_add-rva g c =
    let h = c.args.headers.now in
    let file = bytes_of c.args.file in
    let i = c.loop-section.section-index in
    let s : SectionHeader = get_or c.as_slice-section-items.result.now i no_header in
    let at = section_at _ h.sections.items i no_header c.as_slice-section-items.ensures.value c.loop-section-test.true in
    let inside = (at_next h file c.requires.order i c.loop-section.rva s at c.loop-section.invariant.between).inside in
    let small = c.requires.order.small in
    let len = c.rawlen.ensures in
    omega arith

pub loop-section-preserved : goal.loop-section-preserved
loop-section-preserved g c =
    let h = c.args.headers.now in
    let file = bytes_of c.args.file in
    let i = c.loop-section.section-index in
    let r = c.loop-section.rva in
    let s : SectionHeader = get_or c.as_slice-section-items.result.now i no_header in
    let at = section_at _ h.sections.items i no_header c.as_slice-section-items.ensures.value c.loop-section-test.true in
    let between = c.loop-section.invariant.between in
    let low = section_after h file c.requires.order i r s at between in
    let bytes = section_bytes h file c.requires.order i r s at between in
    let len = c.rawlen.ensures in
    let size : r + (s.virtual_address - r + rawlen s) ≡ s.virtual_address + c.rawlen.result = omega arith in
    record {
      taken = grows h file _ _ _ r (s.virtual_address - r + rawlen s) (s.virtual_address + c.rawlen.result) size c.loop-section.invariant.taken
          (c.in_ok-write_section.ensures.0 ∙ ap (λ (xs : List ℕ). g.W.Sink.taken c.loop-section.writer ++ xs) (sym bytes));
      count = c.in_ok-write_section.ensures.1 ∙ c.loop-section.invariant.count;
      between = subst (λ (n : ℕ). IsBetween h file (i + 1) (s.virtual_address + n)) (sym len) (at_next h file c.requires.order i r s at between);
    }

pub returns : goal.returns
returns g c =
    let h = c.args.headers.now in
    let file = bytes_of c.args.file in
    let r = c.loop-section.rva in
    let same = ap length c.as_slice-section-items.ensures.value in
    let past = c.loop-section-test.false in
    let end = c.loop-section.auto.section-index-end in
    let last : c.loop-section.section-index ≡ length h.sections.items = omega arith in
    let between = subst (λ (i : ℕ). IsBetween h file i r) last c.loop-section.invariant.between in
    let inside = between.inside in
    let size : r + (h.size_of_image - r) ≡ h.size_of_image = omega arith in
    subst (WritesAll _ _ _ _ c.write_zeros.result) (sym (more_bytes h file r (h.size_of_image - r)) ∙ ap (plain_bytes h file 0) size)
    (both _ _ _ (plain_bytes h file 0 r) (plain_bytes h file r (h.size_of_image - r)) _ _ _ c.write_zeros.result c.loop-section.invariant.taken c.loop-section.invariant.count
    (subst (WritesAll _ _ _ _ c.write_zeros.result) (sym (last_bytes h file r between)) c.write_zeros.ensures))
