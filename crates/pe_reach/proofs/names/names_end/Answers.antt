use Rattle.std.proofs.Common.{ℕ, List, length, ◌∙◌, ap, arith}
use Rattle.pe_view.specs.Number.{num, byte_of}
use Rattle.coff_read.specs.ImageNames.{image_strings}
use Rattle.pe_reach.proofs.SectionNames.{short_names, names_without, names_long, names_held}
use Rattle.pe_reach.proofs.names.names_end.Goals as goal
use Rattle.pe_reach.proofs.names.names_end.Goals.{then-headers-eq0-via-then-headers-eq0, then-headers-eq0-via-else-headers-eq0+then-not-has_names}

pub returns-then-headers-eq0-clause-enough : goal.returns-then-headers-eq0-clause-enough
returns-then-headers-eq0-clause-enough c =
    let h = c.args.headers.now in
    let bytes = c.args.begin.now in
    elim c.then-headers-eq0.branch [
      | then-headers-eq0-via-then-headers-eq0 w ↦ λ reach file b. names_without c.args.len bytes file c.requires b h w.if-headers-eq0.true
      | then-headers-eq0-via-else-headers-eq0+then-not-has_names w ↦
          λ reach file b. short_names (image_strings file h) (image_strings bytes h) h.sections.items
          (w.has_names.ensures w.if-not-has_names.true)
    ]

pub returns-then-end-len-clause-enough : goal.returns-then-end-len-clause-enough
returns-then-end-len-clause-enough c =
    let bytes = c.args.begin.now in
    let start = c.strings_start-start.result in
    let read = c.in-Some.ensures in
    let is = c.from.ensures ∙ read.1 ∙ ap (λ (l : List ℕ). num (byte_of l) start 4) c.new.ensures in
    λ reach file b. names_long c.args.len bytes file c.requires b c.args.headers.now start c.from.result c.strings_start-start.ensures.value is
    (omega (arith, read.0, ap (λ (l : List ℕ). length l) c.new.ensures)) c.if-end-len.true

pub returns-else-end-len-clause-enough : goal.returns-else-end-len-clause-enough
returns-else-end-len-clause-enough c =
    let bytes = c.args.begin.now in
    let start = c.strings_start-start.result in
    let read = c.in-Some.ensures in
    let is = c.from.ensures ∙ read.1 ∙ ap (λ (l : List ℕ). num (byte_of l) start 4) c.new.ensures in
    λ reach file b. names_held c.args.len bytes file c.requires b c.args.headers.now start c.from.result c.strings_start-start.ensures.value is
    (omega (arith, read.0, ap (λ (l : List ℕ). length l) c.new.ensures)) reach
