use Rattle.std.proofs.Common.{◌∙◌, List, ap}
use Rattle.pe_set.specs.Set.{Entry, modules_of}
use Rattle.pe_space.specs.SetContent.{defined_byte}
use Rattle.pe_write.specs.Rebase.{rebased}
use Rattle.pe_tool.proofs.RebasedSets.{mapped_alike}
use Rattle.pe_tool.proofs.laws.rebased_files_map_alike.Goals as goal

pub returns : goal.returns
returns c = λ es es' k e base a set elsewhere.
    ap (λ (es : List Entry). defined_byte (modules_of es) a) set.new_file
    ∙ mapped_alike es k e (rebased e.file base) base a set.entry (c.rebased_headers.ensures.head e.file base set.no_fault set.late) set.tables c.tables_decide_bindings.ensures
    (λ r free. c.rebased_again.ensures e.file base k e.base r set.no_fault set.late set.tables.fixups set.aligned free) elsewhere
