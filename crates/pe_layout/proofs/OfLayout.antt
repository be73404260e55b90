-- What the ghost fields of a layout mean for its sections.
use Rattle.pe_view.specs.View.{size_of}
use Rattle.pe_layout.specs.declared.layout.Layout.{Layout}
use Rattle.pe_layout.specs.Layout.{headers_of}
use Rattle.pe_layout.proofs.SectionPlaces.{AllPlaced, all_placed}

pub sections_placed : (l : Layout) → AllPlaced (headers_of l) (size_of l.view) 0 (headers_of l).sections.items
sections_placed l = all_placed l.image (headers_of l) (size_of l.view) 0 0 (headers_of l).sections.items l.sections_placed
