-- The file that the reader that does not allocate has checked.
use Rattle.std.specs.Prelude.{ℕ, List}
use Rattle.pe_view.specs.View.{bytes_of}
use Rattle.coff_read.specs.declared.file.ObjectFile.{ObjectFile}

abbrev pub file_of : ObjectFile → List ℕ
file_of o = bytes_of o.view
