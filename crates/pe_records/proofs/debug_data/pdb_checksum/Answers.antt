use Rattle.std.proofs.Common.{rules, arith, ◌≡◌, ◌∙◌, ◌+◌, ◌≤◌, Some, length, sym, ap, option_map}
use Rattle.pe_view.specs.Text.{text_between}
use Rattle.pe_view.specs.View.{bytes_of}
use Rattle.pe_records.proofs.debug_data.pdb_checksum.Goals as goal

pub slice_bounds-checksum-count : goal.slice_bounds-checksum-count
slice_bounds-checksum-count c =
    let text = c.in_ok-algorithm.algorithm.now in
    let found : text_between (bytes_of c.new-view.result) 0 c.len.result ≡ Some text = sym c.until_zero.ensures ∙ ap (option_map (λ bytes. bytes.now)) c.in_ok-algorithm.was in
    let law = c.texts_are_parts.ensures (bytes_of c.new-view.result) 0 c.len.result text found in
    let before = law.0 in
    let whole = ap length c.new-view.ensures in
    let len = c.len.ensures in
    omega (arith, before, whole, len)

pub slice_bounds-checksum-start : goal.slice_bounds-checksum-start
slice_bounds-checksum-start c =
    let text = c.in_ok-algorithm.algorithm.now in
    let found : text_between (bytes_of c.new-view.result) 0 c.len.result ≡ Some text = sym c.until_zero.ensures ∙ ap (option_map (λ bytes. bytes.now)) c.in_ok-algorithm.was in
    let law = c.texts_are_parts.ensures (bytes_of c.new-view.result) 0 c.len.result text found in
    let before = law.0 in
    let whole = ap length c.new-view.ensures in
    let len = c.len.ensures in
    let count : length text + 1 ≤ length c.args.bytes.now = omega (arith, before, whole, len) in
    search (rules, count)
