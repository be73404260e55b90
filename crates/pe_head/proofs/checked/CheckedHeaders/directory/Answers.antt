use Rattle.std.proofs.Common.{◌∙◌, Some, ap, sym, zero-add, arith}
use Rattle.std.specs.Prelude.{map}
use Rattle.std.specs.List.{range_with_len}
use Rattle.std.proofs.lemmas.List.FromFn.{length-map-range_with_len, get_or-map-range_with_len}
use Rattle.std.proofs.lemmas.Option.{slice_get-get_or, slice_get_past}
use Rattle.pe_head.specs.Checked.{checked_file}
use Rattle.pe_head.specs.Head.{directory_at, directory_count}
use Rattle.pe_head.proofs.checked.CheckedHeaders.directory.Goals as goal

pub returns-then-index-directory_count : goal.returns-then-index-directory_count
returns-then-index-directory_count c =
    let file = checked_file c.args.self.now in
    sym (slice_get_past (map (directory_at file) (range_with_len 0 (directory_count file))) c.args.index
    (omega (arith, length-map-range_with_len (directory_at file) 0 (directory_count file), c.directory_count.ensures, c.if-index-directory_count.true)))

pub returns : goal.returns
returns c =
    let file = checked_file c.args.self.now in
    let directories = map (directory_at file) (range_with_len 0 (directory_count file)) in
    let len = length-map-range_with_len (directory_at file) 0 (directory_count file) in
    ap Some c.directory.ensures
    ∙ sym (slice_get-get_or directories c.args.index (directory_at file c.args.index) (omega (arith, len, c.directory_count.ensures, c.if-index-directory_count.false))
    ∙ ap Some (get_or-map-range_with_len (directory_at file) 0 (directory_count file) c.args.index c.args.index _ (omega (arith, c.directory_count.ensures, c.if-index-directory_count.false)) (zero-add _)))
