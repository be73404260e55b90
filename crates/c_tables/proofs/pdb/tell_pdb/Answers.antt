use Rattle.std.proofs.Common.{◌∙◌, ap}
use Rattle.pe_layout.specs.Layout.{image_of}
use Rattle.c_tables.specs.PdbRows.{pdb_of, pdb_text}
use Rattle.c_tables.proofs.Telling.{record_shown}
use Rattle.c_tables.proofs.pdb.tell_pdb.Goals as goal

pub returns : goal.returns
returns c = record_shown pdb_text c.pdb_of.result _ _ _ _ (c.pdb_of.ensures ∙ ap (pdb_of (image_of c.args.layout.now)) c.new.ensures) c.put_record.ensures
