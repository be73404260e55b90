use Rattle.std.proofs.Common.{◌∙◌, sym}
use Rattle.std.proofs.lemmas.List.FromFn.{length-map-range_with_len}
use Rattle.pe_view.specs.View.{bytes_of}
use Rattle.pe_records.specs.BoundImports.{bound_import_at}
use Rattle.pe_records.specs.Callbacks.{callback_count}
use Rattle.pe_records.proofs.bound_imports.BoundImports.len.Goals as goal

pub returns : goal.returns
returns c =
    let r = c.args.self.now in
    r.counted ∙ sym (length-map-range_with_len (bound_import_at (bytes_of r.table)) 0 (callback_count 8 (bytes_of r.table)))
