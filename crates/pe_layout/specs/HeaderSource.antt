-- The headers that lay out an image, wherever they are read. Only what reads or chooses them unfolds this.
use Rattle.pe_head.specs.Checked.{checked_file}
use Rattle.pe_head.specs.Head.{head_of}
use Rattle.pe_head.specs.declared.headers.Headers.{Headers}
use Rattle.pe_layout.specs.declared.header_source.HeaderSource.{HeaderSource}
use Rattle.pe_layout.specs.declared.header_source.HeaderSource.TheVariants.{File, Record}

unfoldable pub headers_in : HeaderSource → Headers
headers_in (File headers) = head_of (checked_file headers)
headers_in (Record headers) = headers.now
