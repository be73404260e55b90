use Rattle.std.proofs.Common.{◌≡◌, ◌-◌}
use Rattle.std.specs.Prelude.{map, find}
use Rattle.std.specs.List.{range_with_len}
use Rattle.pe_layout.specs.Layout.{image_of}
use Rattle.pe_resources.specs.Root.{entries_in}
use Rattle.pe_resources.specs.Section.{entry_at}
use Rattle.pe_resources.specs.Texts.{is_named}
use Rattle.pe_resources.proofs.directory.Directory.by_name.Given as goal

abbrev pub invariant-loop-index : goal.invariant-loop-index
invariant-loop-index l =
    let d = l.fn.self in
    let i = image_of d.section.layout.now in
    find (is_named i d.section.start l.fn.name) (entries_in d) ≡ find (is_named i d.section.start l.fn.name) (map (entry_at i d.section.start d.offset) (range_with_len l.index (d.count - l.index)))
