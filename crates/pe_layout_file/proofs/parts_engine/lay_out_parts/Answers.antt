-- What was read first decides the headers, and these what is written.
use Rattle.std.proofs.Common.{◌∙◌, ℕ, List, [], ◌++◌, true, false, take, inr, refl, sym, ap, subst, append-nil, append_assoc, arith}
use Rattle.std.proofs.lemmas.Result.{err_from_is_err_and}
use Rattle.pe_head.specs.declared.headers.Headers.{Headers}
use Rattle.pe_layout.specs.Plain.{plain_bytes}
use Rattle.pe_reach.specs.Parts.{Part, HasPart}
use Rattle.pe_reach.specs.PartsRead.{BeginAll}
use Rattle.pe_layout_file.specs.Pieces.{BeginsWith, LieInOrder}
use Rattle.pe_layout_file.proofs.LayingOut.{Laws, all_written, by_error, front_of, lies_of, some_written}
use Rattle.pe_layout_file.proofs.Moving.{decided}
use Rattle.pe_layout_file.proofs.PartsWriting.{early_on}
use Rattle.pe_layout_file.proofs.parts_engine.lay_out_parts.Goals as goal

pub returns-then-from-most-clause-image : goal.returns-then-from-most-clause-image
returns-then-from-most-clause-image g c =
    let e = c.in_ok-headers.ensures.begins in
    let known = rw c.in-Some.is at e.2.1 in
    let size = c.from.ensures in (
      e.0,
      [],
      e.1,
      sym (append-nil _),
      λ file is has.
          let own = known.0.each file is (known.1 file has) in
          (own.1, ap (λ (h : Headers). h.size_of_image) (sym own.0), omega (arith, size, c.if-from-most.true), refl),
    )

pub returns-then-is_err-clause-memory : goal.returns-then-is_err-clause-memory
returns-then-is_err-clause-memory g c = λ refused. (rw c.in-Some.is at c.in_ok-headers.ensures.begins.2.1).0.within

pub write_image_parts-requires-clause-begins : goal.write_image_parts-requires-clause-begins
write_image_parts-requires-clause-begins g c =
    let known = rw c.in-Some.is at c.in_ok-headers.ensures.begins.2.1 in
    let front = front_of _ c.in-Some.field-0.bytes.items _ c.deref_mut.result.now known.0.size (c.deref_mut.ensures.value ∙ c.resize.ensures.items) in
    subst (BeginAll c.args.len c.in-Some.field-0.headers) (sym front) known.0

pub write_image_parts-requires-clause-lies : goal.write_image_parts-requires-clause-lies
write_image_parts-requires-clause-lies g c = λ file fits.
    let known = rw c.in-Some.is at c.in_ok-headers.ensures.begins.2.1 in
    let front = front_of _ c.in-Some.field-0.bytes.items _ c.deref_mut.result.now known.0.size (c.deref_mut.ensures.value ∙ c.resize.ensures.items) in
    let apart = c.sections_are_apart.ensures in
    let laws : Laws = record { pieces = c.bytes_by_pieces.ensures; behind = apart.behind; inside = apart.inside; apart = apart.apart; held = apart.held } in
    let own = known.0.each file fits.0 (subst (λ (xs : List ℕ). HasPart file (record { offset = 0; bytes = xs })) front fits.1) in
    subst (λ (h : Headers). LieInOrder h file) own.0 (lies_of laws file own.1)

pub returns-in_err-write_image_parts-clause-image : goal.returns-in_err-write_image_parts-clause-image
returns-in_err-write_image_parts-clause-image g c =
    let p = err_from_is_err_and c.from_residual-in_err-write_image_parts.result c.from_residual-in_err-write_image_parts.ensures.1 in
    let e = c.in_ok-headers.ensures.begins in
    let known = rw c.in-Some.is at e.2.1 in
    let front = front_of _ c.in-Some.field-0.bytes.items _ c.deref_mut.result.now known.0.size (c.deref_mut.ensures.value ∙ c.resize.ensures.items) in
    let begin : List ℕ = take 4096 c.deref_mut.result.now in
    let size = c.from.ensures in
    let m = c.in_err-write_image_parts.ensures.copies in
    rw (p.1, p.2) (
      e.0 ++ m.0,
      m.1,
      m.2 ∙ ap (λ (ps : List Part). ps ++ m.0) e.1 ∙ append_assoc (g.R.PartSource.parts c.args.reader.now) e.0 m.0,
      m.3,
      by_error c.args.most c.args.len c.in-Some.field-0.headers begin (subst (BeginAll c.args.len c.in-Some.field-0.headers) (sym front) known.0) (omega (arith, size, c.if-from-most.false)) e.0
          (λ file has. subst (λ (xs : List ℕ). HasPart file (record { offset = 0; bytes = xs })) (sym front) (known.1 file has)) m.0 m.1 c.in_err-write_image_parts.field-0.0 _ _ _ _
          c.in_err-write_image_parts.ensures.counts m.4,
    )

pub returns-then-not-branch-clause-image : goal.returns-then-not-branch-clause-image
returns-then-not-branch-clause-image g c =
    let e = c.in_ok-headers.ensures.begins in
    let known = rw c.in-Some.is at e.2.1 in
    let front = front_of _ c.in-Some.field-0.bytes.items _ c.deref_mut.result.now known.0.size (c.deref_mut.ensures.value ∙ c.resize.ensures.items) in
    let begin : List ℕ = take 4096 c.deref_mut.result.now in
    let size = c.from.ensures in
    let m = decided (BeginsWith c.args.len begin) (λ file. plain_bytes c.in-Some.field-0.headers file 0 c.in-Some.field-0.headers.size_of_image)
    (g.R.PartSource.parts c.read_beginning.new.reader) (g.R.PartSource.parts c.write_image_parts.new.reader) (g.W.Sink.taken c.args.writer.now) (g.W.Sink.taken c.write_image_parts.new.writer)
    _ false c.if-not-branch.true c.in_ok-write_image_parts.ensures.copies in (
      e.0 ++ m.0,
      m.1,
      m.2 ∙ ap (λ (ps : List Part). ps ++ m.0) e.1 ∙ append_assoc (g.R.PartSource.parts c.args.reader.now) e.0 m.0,
      m.3,
      inr (some_written c.args.most c.args.len c.in-Some.field-0.headers begin (subst (BeginAll c.args.len c.in-Some.field-0.headers) (sym front) known.0) (omega (arith, size, c.if-from-most.false)) e.0
          (λ file has. subst (λ (xs : List ℕ). HasPart file (record { offset = 0; bytes = xs })) (sym front) (known.1 file has)) m.0 m.1 m.4),
    )

pub returns-then-not-branch-clause-counts : goal.returns-then-not-branch-clause-counts
returns-then-not-branch-clause-counts g c =
    let e = c.in_ok-headers.ensures.begins in
    let counts = c.in_ok-write_image_parts.ensures.counts in
    (inr (counts.0 ∙ e.2.0, early_on c.args.len _ _ _ e.0 e.1 (c.in_ok-write_image_parts.ensures.early c.if-not-branch.true)), counts.1)

pub returns-clause-image : goal.returns-clause-image
returns-clause-image g c =
    let e = c.in_ok-headers.ensures.begins in
    let known = rw c.in-Some.is at e.2.1 in
    let front = front_of _ c.in-Some.field-0.bytes.items _ c.deref_mut.result.now known.0.size (c.deref_mut.ensures.value ∙ c.resize.ensures.items) in
    let begin : List ℕ = take 4096 c.deref_mut.result.now in
    let size = c.from.ensures in
    let m = decided (BeginsWith c.args.len begin) (λ file. plain_bytes c.in-Some.field-0.headers file 0 c.in-Some.field-0.headers.size_of_image)
    (g.R.PartSource.parts c.read_beginning.new.reader) (g.R.PartSource.parts c.write_image_parts.new.reader) (g.W.Sink.taken c.args.writer.now) (g.W.Sink.taken c.write_image_parts.new.writer)
    _ true c.if-not-branch.false c.in_ok-write_image_parts.ensures.copies in (
      e.0 ++ m.0,
      m.1,
      m.2 ∙ ap (λ (ps : List Part). ps ++ m.0) e.1 ∙ append_assoc (g.R.PartSource.parts c.args.reader.now) e.0 m.0,
      m.3,
      all_written c.args.most c.args.len c.in-Some.field-0.headers begin (subst (BeginAll c.args.len c.in-Some.field-0.headers) (sym front) known.0) (omega (arith, size, c.if-from-most.false)) e.0
          (λ file has. subst (λ (xs : List ℕ). HasPart file (record { offset = 0; bytes = xs })) (sym front) (known.1 file has)) m.0 m.1 m.4,
    )
