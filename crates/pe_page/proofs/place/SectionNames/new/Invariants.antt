use Rattle.std.proofs.Common.{◌≡◌, ◌++◌, drop, length}
use Rattle.std.specs.Prelude.{map}
use Rattle.coff_read.specs.ImageNames.{image_strings}
use Rattle.pe_reach.specs.Views.{seen_of}
use Rattle.pe_page.specs.Places.{names_of}
use Rattle.pe_page.proofs.place.SectionNames.new.Given as goal

-- the names that were pushed and those that are left are those of the sections
abbrev pub invariant-loop-section : goal.invariant-loop-section
invariant-loop-section l = record {
  names : map (λ name. name.now) l.names.items ++ names_of (image_strings (seen_of l.fn.file) l.headers) (drop l.section-index l.section-items) ≡ names_of (image_strings (seen_of l.fn.file) l.headers) l.section-items;
  count : length l.names.items ≡ l.section-index;
}
