-- An auxiliary record of the code, with strings and bytes as lists.
use Rattle.coff_read.specs.Auxiliary as format
use Rattle.coff_read.specs.declared.auxiliary.Aux.{Aux}
use Rattle.coff_read.specs.declared.auxiliary.Aux.TheVariants as code

abbrev pub aux_view : Aux → format.AuxRecord
aux_view (code.Function tag_index total_size pointer_to_linenumber pointer_to_next_function) = format.Function tag_index total_size pointer_to_linenumber pointer_to_next_function
aux_view (code.Lines line next) = format.Lines line next
aux_view (code.Weak tag_index search) = format.Weak tag_index search
aux_view (code.File name) = format.File name.now
aux_view (code.Section len relocations line_numbers checksum number selection) = format.Section len relocations line_numbers checksum number selection
aux_view (code.Raw bytes) = format.Raw bytes.now
