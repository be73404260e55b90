use Rattle.std.proofs.Common.{◌≡◌, ◌∙◌, ◌/◌, ◌<◌, ap, sym}
use Rattle.pe_view.specs.View.{bytes_of, size_of}
use Rattle.pe_records.specs.Callbacks.{entry_at}
use Rattle.pe_records.specs.Structure.{address_width}
use Rattle.pe_records.proofs.Zeros.{next_zero, this_zero}
use Rattle.pe_records.proofs.tls_callbacks.count_entries.Goals as goal
use Rattle.pe_records.proofs.tls_callbacks.count_entries.Goals.{then-is_plus, else-is_plus}

pub returns-then-entry-eq0-clause-count : goal.returns-then-entry-eq0-clause-count
returns-then-entry-eq0-clause-count c =
    let width : c.if-is_plus.width ≡ address_width c.args.is_plus =
    elim c.if-is_plus.branch [ then-is_plus w ↦ w.width-is ∙ ap address_width (sym w.if-is_plus.true) | else-is_plus w ↦ w.width-is ∙ ap address_width (sym w.if-is_plus.false) ] in
    let f = entry_at (address_width c.args.is_plus) (bytes_of c.args.bytes) in
    let whole = c.len.ensures in
    let under : c.loop-index.index < c.len.result / c.if-is_plus.width = c.loop-index-test.true in
    let lt : c.loop-index.index < size_of c.args.bytes / address_width c.args.is_plus = rw (whole, width) at under in
    sym (c.loop-index.invariant ∙ this_zero f c.loop-index.index (size_of c.args.bytes / address_width c.args.is_plus) lt (sym (c.entry.ensures ∙ ap f c.from.ensures) ∙ c.if-entry-eq0.true))

pub loop-index-preserved : goal.loop-index-preserved
loop-index-preserved c =
    let width : c.if-is_plus.width ≡ address_width c.args.is_plus =
    elim c.if-is_plus.branch [ then-is_plus w ↦ w.width-is ∙ ap address_width (sym w.if-is_plus.true) | else-is_plus w ↦ w.width-is ∙ ap address_width (sym w.if-is_plus.false) ] in
    let f = entry_at (address_width c.args.is_plus) (bytes_of c.args.bytes) in
    let whole = c.len.ensures in
    let under : c.loop-index.index < c.len.result / c.if-is_plus.width = c.loop-index-test.true in
    let lt : c.loop-index.index < size_of c.args.bytes / address_width c.args.is_plus = rw (whole, width) at under in
    c.loop-index.invariant
    ∙ next_zero f c.loop-index.index (size_of c.args.bytes / address_width c.args.is_plus) lt (λ e. c.if-entry-eq0.false (c.entry.ensures ∙ ap f c.from.ensures ∙ e))
