-- What a move rewrote, as C has it.
use Rattle.pe_space.specs.declared.space.Moved.{Moved}
use Rattle.pe_records_c.specs.declared.moved.MovedRecord.{MovedRecord}

abbrev pub moved_record : Moved → MovedRecord
moved_record m = record { fields = m.fields; slots = m.slots }
