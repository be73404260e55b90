-- The section table has a header for each section.
use Rattle.std.proofs.Common.{sym, arith}
use Rattle.std.proofs.lemmas.List.{length-map}
use Rattle.coff_read.specs.ObjectView.{section_view}
use Rattle.coff_object.proofs.write.bodies_start.Goals as goal

pub overflow_cast-result : goal.overflow_cast-result
overflow_cast-result g c = let fits = c.requires.bodies in let head = c.header_size.ensures in omega (arith, fits, head)

pub overflow_cast-result-2 : goal.overflow_cast-result-2
overflow_cast-result-2 g c =
    let count = sym (length-map c.args.object.now.sections.now section_view) in
    let fits = c.requires.bodies in
    omega (arith, count, fits)

pub overflow_mul-result : goal.overflow_mul-result
overflow_mul-result g c =
    let count = sym (length-map c.args.object.now.sections.now section_view) in
    let fits = c.requires.bodies in
    omega (arith, count, fits)

pub overflow_add-result : goal.overflow_add-result
overflow_add-result g c =
    let count = sym (length-map c.args.object.now.sections.now section_view) in
    let fits = c.requires.bodies in
    let head = c.header_size.ensures in
    omega (arith, count, fits, head)

pub returns : goal.returns
returns g c =
    let count = sym (length-map c.args.object.now.sections.now section_view) in
    let head = c.header_size.ensures in
    omega (arith, count, head)
