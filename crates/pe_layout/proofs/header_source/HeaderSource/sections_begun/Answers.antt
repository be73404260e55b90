-- The sections lie apart, wherever they are read.
use Rattle.std.proofs.Common.{subst}
use Rattle.pe_layout.specs.HeaderSource.{headers_in}
use Rattle.pe_layout.specs.Sections.{LieApart}
use Rattle.pe_layout.specs.declared.header_source.HeaderSource.{HeaderSource}
use Rattle.pe_layout.proofs.header_source.HeaderSource.sections_begun.Goals as goal

abbrev Apart : HeaderSource → Type 0
Apart headers = LieApart (headers_in headers).sections.items

pub file_sections_begun-requires : goal.file_sections_begun-requires
unfolding headers_in
file_sections_begun-requires c = subst Apart c.in-File.is c.requires

pub sections_begun-requires : goal.sections_begun-requires
unfolding headers_in
sections_begun-requires c = rw c.as_slice.ensures.value (subst Apart c.in-Record.is c.requires)
