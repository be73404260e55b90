-- The bytes so far are the first of the image of each file, up to the end of a piece.
use Rattle.std.proofs.Common.{◌≡◌, ◌∙◌, ℕ, ◌+◌, ◌-◌, List, [], Ok, Err, true, false, length, get_or, take, refl, sym, ap, subst, append-nil, arith}
use Rattle.std.proofs.lemmas.List.{take-take}
use Rattle.std.proofs.lemmas.Result.{err_from_is_err_and}
use Rattle.pe_head.specs.declared.section.SectionHeader.{SectionHeader}
use Rattle.pe_head.specs.Section.{rawlen}
use Rattle.pe_text.specs.declared.outcome.ToolError.TheVariants.{Write}
use Rattle.pe_text.specs.TextWriter.{IsBeginning}
use Rattle.pe_layout_file.specs.Pieces.{BeginsWith}
use Rattle.pe_layout_file.proofs.Moving.{begins_take, decided}
use Rattle.pe_layout_file.proofs.PartsWriting.{begins_at, cut, cut_early, early_on, early_within, failed, finished, header_bytes, held_within, next_at, reaches, section_moves, some_file, some_fits, some_lies}
use Rattle.pe_layout_file.proofs.Sections.{IsBetween, at_first, no_header, section_at}
use Rattle.pe_layout_file.proofs.Writing.{counted_all, wrote_all, wrote_some}
use Rattle.pe_layout_file.proofs.parts_writer.write_image_parts.Goals as goal

pub returns-then-is_err-clause-copies : goal.returns-then-is_err-clause-copies
returns-then-is_err-clause-copies g c =
    let h = c.args.headers.now in
    let room = c.args.buffer.now in
    let begin : List ℕ = take 4096 room in
    let n : ℕ = h.size_of_headers in
    let covers = c.requires.begins.covers in
    let some = wrote_some _ _ (take n room) _ _ c.write_all.result (sym c.is_err.ensures.value ∙ c.if-is_err.true) c.write_all.ensures in
    cut c.args.len h begin c.requires.begins c.requires.lies _ _ _ _ n (some_lies c.args.len h begin c.requires.begins c.requires.lies).headers_inside Write (
      [],
      take some.0 (take n room),
      sym (append-nil _),
      some.1,
      λ file fits has. subst (λ (xs : List ℕ). IsBeginning (take some.0 (take n room)) xs)
          (sym (take-take n 4096 room covers) ∙ header_bytes c.args.len h begin c.requires.begins c.requires.lies file fits) (begins_take some.0 (take n room)),
    )

pub loop-section-init : goal.loop-section-init
loop-section-init g c =
    let h = c.args.headers.now in
    let room = c.args.buffer.now in
    let begin : List ℕ = take 4096 room in
    let n : ℕ = h.size_of_headers in
    let covers = c.requires.begins.covers in
    let fine = sym c.is_err.ensures.value ∙ c.if-is_err.false in
    record {
      copies = (
        [],
        take n room,
        sym (append-nil _),
        wrote_all _ _ (take n room) _ _ c.write_all.result fine c.write_all.ensures,
        λ file fits has. sym (take-take n 4096 room covers) ∙ header_bytes c.args.len h begin c.requires.begins c.requires.lies file fits,
      );
      reads = refl;
      writes = counted_all _ _ (take n room) _ _ c.write_all.result fine c.write_all.ensures;
      room = refl;
      between = λ file fits. at_first h file (c.requires.lies file fits);
    }

pub write_section_parts-requires-clause-behind : goal.write_section_parts-requires-clause-behind
write_section_parts-requires-clause-behind g c =
    let h = c.args.headers.now in
    let i = c.loop-section.section-index in
    let s : SectionHeader = get_or c.as_slice-section-items.result.now i no_header in
    let at = section_at _ h.sections.items i no_header c.as_slice-section-items.ensures.value c.loop-section-test.true in
    begins_at c.args.len h (take 4096 c.args.buffer.now) c.requires.begins c.requires.lies _ _ _ _ c.loop-section.rva c.loop-section.invariant.copies i c.loop-section.invariant.between s at

pub returns-in_err-write_section_parts-clause-copies : goal.returns-in_err-write_section_parts-clause-copies
returns-in_err-write_section_parts-clause-copies g c =
    let p = err_from_is_err_and c.from_residual.result c.from_residual.ensures.1 in
    let h = c.args.headers.now in
    let begin : List ℕ = take 4096 c.args.buffer.now in
    let begins = c.requires.begins in
    let lies = c.requires.lies in
    let i = c.loop-section.section-index in
    let r = c.loop-section.rva in
    let s : SectionHeader = get_or c.as_slice-section-items.result.now i no_header in
    let at = section_at _ h.sections.items i no_header c.as_slice-section-items.ensures.value c.loop-section-test.true in
    let so_far = c.loop-section.invariant.copies in
    let between = c.loop-section.invariant.between in
    let low = begins_at c.args.len h begin begins lies _ _ _ _ r so_far i between s at in
    let end = (next_at c.args.len h begin begins lies _ _ _ _ r so_far i between s at (some_file c.args.len h begin begins lies) (some_fits c.args.len h begin begins lies)).inside in
    rw p.1
    (cut c.args.len h begin begins lies _ _ _ _ (r + (s.virtual_address - r + rawlen s)) (omega (arith, low, end)) c.in_err-write_section_parts.field-0.0
    (section_moves c.args.len h begin begins lies _ _ _ _ r so_far i between s at _ _ (Err c.in_err-write_section_parts.field-0.0) c.in_err-write_section_parts.ensures.copies))

pub returns-then-not-branch-clause-copies : goal.returns-then-not-branch-clause-copies
returns-then-not-branch-clause-copies g c =
    let h = c.args.headers.now in
    let begin : List ℕ = take 4096 c.args.buffer.now in
    let begins = c.requires.begins in
    let lies = c.requires.lies in
    let i = c.loop-section.section-index in
    let r = c.loop-section.rva in
    let s : SectionHeader = get_or c.as_slice-section-items.result.now i no_header in
    let at = section_at _ h.sections.items i no_header c.as_slice-section-items.ensures.value c.loop-section-test.true in
    let so_far = c.loop-section.invariant.copies in
    let between = c.loop-section.invariant.between in
    let low = begins_at c.args.len h begin begins lies _ _ _ _ r so_far i between s at in
    let end = (next_at c.args.len h begin begins lies _ _ _ _ r so_far i between s at (some_file c.args.len h begin begins lies) (some_fits c.args.len h begin begins lies)).inside in
    cut_early c.args.len h begin begins lies _ _ _ _ (r + (s.virtual_address - r + rawlen s)) (omega (arith, low, end))
    (section_moves c.args.len h begin begins lies _ _ _ _ r so_far i between s at _ _ (Ok false)
    (decided _ _ _ _ _ _ _ false c.if-not-branch.true c.in_ok-write_section_parts.ensures.copies))

pub returns-then-not-branch-clause-early : goal.returns-then-not-branch-clause-early
returns-then-not-branch-clause-early g c = λ early.
    let h = c.args.headers.now in
    let begin : List ℕ = take 4096 c.args.buffer.now in
    let i = c.loop-section.section-index in
    let s : SectionHeader = get_or c.as_slice-section-items.result.now i no_header in
    let at = section_at _ h.sections.items i no_header c.as_slice-section-items.ensures.value c.loop-section-test.true in
    let ended = c.in_ok-write_section_parts.ensures.early c.if-not-branch.true in
    let so_far = c.loop-section.invariant.copies in
    early_on c.args.len _ _ _ so_far.0 so_far.2 (early_within _ c.args.len _ _ (held_within c.args.len h begin c.requires.begins c.requires.lies i s at ended.0) ended.1)

pub overflow_add-rva : goal.overflow_add-rva
overflow_add-rva g c =
    let h = c.args.headers.now in
    let begin : List ℕ = take 4096 c.args.buffer.now in
    let begins = c.requires.begins in
    let lies = c.requires.lies in
    let i = c.loop-section.section-index in
    let s : SectionHeader = get_or c.as_slice-section-items.result.now i no_header in
    let at = section_at _ h.sections.items i no_header c.as_slice-section-items.ensures.value c.loop-section-test.true in
    let end = (next_at c.args.len h begin begins lies _ _ _ _ c.loop-section.rva c.loop-section.invariant.copies i c.loop-section.invariant.between s at (some_file c.args.len h begin begins lies) (some_fits c.args.len h begin begins lies)).inside in
    let small = (some_lies c.args.len h begin begins lies).small in
    let len = c.rawlen.ensures in
    omega arith

pub loop-section-preserved : goal.loop-section-preserved
loop-section-preserved g c =
    let h = c.args.headers.now in
    let begin : List ℕ = take 4096 c.args.buffer.now in
    let begins = c.requires.begins in
    let lies = c.requires.lies in
    let i = c.loop-section.section-index in
    let r = c.loop-section.rva in
    let s : SectionHeader = get_or c.as_slice-section-items.result.now i no_header in
    let at = section_at _ h.sections.items i no_header c.as_slice-section-items.ensures.value c.loop-section-test.true in
    let so_far = c.loop-section.invariant.copies in
    let between = c.loop-section.invariant.between in
    let low = begins_at c.args.len h begin begins lies _ _ _ _ r so_far i between s at in
    let len = c.rawlen.ensures in
    let place : r + (s.virtual_address - r + rawlen s) ≡ s.virtual_address + c.rawlen.result = omega (arith, low, len) in
    record {
      copies = reaches c.args.len h begin begins lies _ _ _ _ (Ok true) _ _ place
          (section_moves c.args.len h begin begins lies _ _ _ _ r so_far i between s at _ _ (Ok true)
          (decided _ _ _ _ _ _ _ true c.if-not-branch.false c.in_ok-write_section_parts.ensures.copies));
      reads = c.in_ok-write_section_parts.ensures.counts.0 ∙ c.loop-section.invariant.reads;
      writes = c.in_ok-write_section_parts.ensures.counts.1 ∙ c.loop-section.invariant.writes;
      room = c.in_ok-write_section_parts.ensures.room ∙ c.loop-section.invariant.room;
      between = λ file fits. subst (λ (n : ℕ). IsBetween h file (i + 1) (s.virtual_address + n)) (sym len) (next_at c.args.len h begin begins lies _ _ _ _ r so_far i between s at file fits);
    }

pub overflow_sub-headers : goal.overflow_sub-headers
overflow_sub-headers g c =
    let h = c.args.headers.now in
    let begin : List ℕ = take 4096 c.args.buffer.now in
    (c.loop-section.invariant.between (some_file c.args.len h begin c.requires.begins c.requires.lies) (some_fits c.args.len h begin c.requires.begins c.requires.lies)).inside

pub returns-in-Ok-clause-copies : goal.returns-in-Ok-clause-copies
returns-in-Ok-clause-copies g c =
    let h = c.args.headers.now in
    let begin : List ℕ = take 4096 c.args.buffer.now in
    let same = ap length c.as_slice-section-items.ensures.value in
    let past = c.loop-section-test.false in
    let end = c.loop-section.auto.section-index-end in
    let last : c.loop-section.section-index ≡ length h.sections.items = omega arith in
    let between = subst (λ (i : ℕ). (file : List ℕ) → BeginsWith c.args.len begin file → IsBetween h file i c.loop-section.rva) last c.loop-section.invariant.between in
    finished c.args.len h begin c.requires.begins c.requires.lies _ _ _ _ c.loop-section.rva c.loop-section.invariant.copies between _ c.in-Ok.ensures.0

pub returns-in-Err-clause-copies : goal.returns-in-Err-clause-copies
returns-in-Err-clause-copies g c =
    let h = c.args.headers.now in
    let begin : List ℕ = take 4096 c.args.buffer.now in
    let same = ap length c.as_slice-section-items.ensures.value in
    let past = c.loop-section-test.false in
    let end = c.loop-section.auto.section-index-end in
    let last : c.loop-section.section-index ≡ length h.sections.items = omega arith in
    let between = subst (λ (i : ℕ). (file : List ℕ) → BeginsWith c.args.len begin file → IsBetween h file i c.loop-section.rva) last c.loop-section.invariant.between in
    failed c.args.len h begin c.requires.begins c.requires.lies _ _ _ _ c.loop-section.rva c.loop-section.invariant.copies between _ Write c.in-Err.ensures.0.0 c.in-Err.ensures.0.1
