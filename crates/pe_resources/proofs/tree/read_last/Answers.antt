use Rattle.std.proofs.Common.{◌≡◌, ◌∙◌, Some, refl, sym, subst, arith}
use Rattle.pe_layout.specs.Layout.{image_of}
use Rattle.pe_resources.specs.Found.{Enters}
use Rattle.pe_resources.specs.Walk.{read_directory, entered}
use Rattle.pe_resources.proofs.Entries.{directory_read, leaf_read, directory_whole}
use Rattle.pe_resources.proofs.tree.read_last.Goals.{then-is_directory+in_ok-find, else-is_directory+in_ok-read_leaf}
use Rattle.pe_resources.proofs.tree.read_last.Goals as goal

pub loop-index-preserved : goal.loop-index-preserved
loop-index-preserved g c =
    let i = image_of c.args.section.layout.now in
    let s = c.args.section.start in
    let in_count = c.loop-index-test.true in
    let up_to = c.loop-index.auto.index-end in
    let is = c.of-entry.ensures ∙ c.rows-rows.ensures.rows c.loop-index.index _ (omega (arith, in_count, up_to)) in
    elim c.if-is_directory.branch [
      | then-is_directory+in_ok-find b ↦ record {
        some = rw (b.found-is, b.in_ok-find.ensures.entered, c.in_ok-check_name.ensures.entered) c.loop-index.invariant.some;
        shows = λ w shown.
            rw b.found-is (directory_read b.find.new.self i s 0 c.args.offset c.loop-index.index (read_directory i s 0) c.args.path _ c.of-entry.result b.offset.result w
            is (sym c.is_directory.ensures ∙ b.if-is_directory.true) refl b.offset.ensures.value
            (b.in_ok-find.ensures.shows _ (c.in_ok-check_name.ensures.shows _ (c.loop-index.invariant.shows w shown))));
      }
      | else-is_directory+in_ok-read_leaf b ↦ record {
        some = rw (b.found-is, b.in_ok-read_leaf.ensures.entered, c.in_ok-check_name.ensures.entered) c.loop-index.invariant.some;
        shows = λ w shown.
            rw b.found-is (leaf_read b.read_leaf.new.self i s 0 c.args.offset c.loop-index.index (read_directory i s 0) c.args.path b.named-path.result c.of-entry.result b.offset-else-is_directory.result w
            is (sym c.is_directory.ensures ∙ b.if-is_directory.false) b.named-path.ensures b.offset-else-is_directory.ensures.value
            (b.in_ok-read_leaf.ensures.shows _ (c.in_ok-check_name.ensures.shows _ (c.loop-index.invariant.shows w shown))));
      }
    ]

pub returns-clause-shows : goal.returns-clause-shows
returns-clause-shows g c = λ w shown.
    let i = image_of c.args.section.layout.now in
    let s = c.args.section.start in
    let o = c.args.offset in
    let opened : Enters i s o w c.enter.new.self (Some c.in-Some.count) = subst (Enters i s o w c.enter.new.self) c.in-Some.is (c.in_ok-count.ensures.shows w shown) in
    let past = c.loop-index-test.false in
    let up_to = c.loop-index.auto.index-end in
    let last : c.loop-index.index ≡ c.in-Some.count = omega (arith, past, up_to) in
    directory_whole c.loop-index.found i s 1 0 o c.loop-index.index c.args.path w refl opened.0 (last ∙ opened.1)
    (c.loop-index.invariant.shows (entered i s o w) opened.2)
