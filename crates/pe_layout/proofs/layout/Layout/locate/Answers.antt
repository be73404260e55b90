use Rattle.std.proofs.Common.{rules}
use Rattle.pe_layout.proofs.layout.Layout.locate.Goals as goal

pub returns-then-rva-size_of_headers : goal.returns-then-rva-size_of_headers
returns-then-rva-size_of_headers c = search rules
