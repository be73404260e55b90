use Rattle.pe_json.proofs.Objects.{also}
use Rattle.pe_json.proofs.records.write_records.Goals as goal

pub returns : goal.returns
returns g c =
    also _ _ c.write_debug.ensures
    (also _ _ c.write_pdb.ensures
    (also _ _ c.write_functions.ensures
    (also _ _ c.write_tls.ensures
    (also _ _ c.write_structure.ensures (also _ _ c.write_bound_imports.ensures c.write_structure-2.ensures)))))
