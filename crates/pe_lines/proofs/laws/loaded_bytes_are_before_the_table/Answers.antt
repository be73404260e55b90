use Rattle.std.proofs.Common.{length}
use Rattle.pe_trust.specs.Covered.{table_begin}
use Rattle.pe_lines.proofs.Loaded.{located_before}
use Rattle.pe_lines.proofs.laws.loaded_bytes_are_before_the_table.Goals as goal

pub returns : goal.returns
returns c file signed h rva e =
    let law = c.raw_data_are_before_the_table.ensures in
    located_before h (table_begin (length file) h) rva (law.headers file signed h e) (law.raw_data file signed h e)
