-- What iterators have yet to return.
use Rattle.std.specs.Prelude.{List}
use Rattle.pe_view.specs.View.{bytes_of}
use Rattle.pe_layout.specs.Layout.{image_of}
use Rattle.pe_tables.specs.Imports.{Import}
use Rattle.pe_delay.specs.Descriptors.{descriptors_from}
use Rattle.pe_delay.specs.Entries.{imports_by}
use Rattle.pe_delay.specs.declared.descriptor.DelayDescriptor.{DelayDescriptor}
use Rattle.pe_delay.specs.declared.descriptors.DelayDescriptors.{DelayDescriptors}
use Rattle.pe_delay.specs.declared.imports.DelayImports.{DelayImports}

abbrev pub descriptors_left : DelayDescriptors → List DelayDescriptor
descriptors_left s = descriptors_from s.start (bytes_of s.table) s.index

abbrev pub imports_left : DelayImports → List Import
imports_left s = imports_by (image_of s.layout.now) s.tables s.«module».now s.most s.index
