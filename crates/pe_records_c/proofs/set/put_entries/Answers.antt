use Rattle.pe_records_c.proofs.SetEntries.{entries_put}
use Rattle.pe_records_c.proofs.set.put_entries.Goals as goal

pub returns : goal.returns
returns c = entries_put c.args.rows.now c.args.entries.now c.fill_rows.new.rows c.min.result c.told-entries c.min.ensures c.fill_rows.ensures
