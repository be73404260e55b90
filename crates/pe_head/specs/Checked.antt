-- Headers of which nothing is copied, as the file that they are in.
use Rattle.std.specs.Prelude.{ℕ, List}
use Rattle.pe_view.specs.View.{bytes_of}
use Rattle.pe_head.specs.declared.checked.CheckedHeaders.{CheckedHeaders}

-- the bytes of the file whose headers these are
abbrev pub checked_file : CheckedHeaders → List ℕ
checked_file headers = bytes_of headers.fields.view
