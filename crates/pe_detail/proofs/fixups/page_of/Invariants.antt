use Rattle.std.proofs.Common.{◌≡◌, ◌-◌, ◌<◌, ◌^◌}
use Rattle.pe_layout.specs.Layout.{image_of}
use Rattle.pe_tables.specs.Fixups.{blocks_from}
use Rattle.pe_detail.specs.FixupDetail.{page_in, page_of}
use Rattle.pe_detail.proofs.fixups.page_of.Given as goal

abbrev pub invariant-loop-block : goal.invariant-loop-block
invariant-loop-block l = record {
  small : l.rva < 2 ^ 32;
  page : page_in l.at (blocks_from (l.fn.directory.size - l._block) (image_of l.layout) l.end l.rva) ≡ page_of (image_of l.layout) l.fn.directory l.at;
}
