-- Tables as the caller's rows hold them.
use Rattle.std.specs.Prelude.{◌≡◌, ℕ, ◌<◌, List, map, length, take, drop, ◌++◌, slice_index_or, nat_le, if◌then◌else◌}
use Rattle.pe_view.specs.Faults.{Test}
use Rattle.pe_records_c.specs.Faults.{IsAccepted, IsAnswered, IsRefused}
use Rattle.pe_records_c.specs.declared.fault.FaultRecord.{FaultRecord}

-- the first rows are those of a table's items, as many as fit, and the others are unchanged
abbrev pub filled : {T R : Type 0} → (T → R) → List T → List R → List R
filled row table old = map row (take (length old) table) ++ drop (length table) old

-- each of the first rows is one of its item, and the others are unchanged
pub record Fills {T R : Type 0} (tells : T → R → Type 0) (table : List T) (old new : List R) : Type 0 where
  pub told : (item : T) (row : R) (k : ℕ) → k < length table → k < length new → tells (slice_index_or table k item) (slice_index_or new k row)
  pub len : length new ≡ length old
  pub others : drop (length table) new ≡ drop (length table) old

-- a table as a call reports it: its items in the rows, how many it has, and status 0 if they all fit, otherwise 4
pub record TellsTable {T R W : Type 0} (view : R → W) (row : T → W) (table : List T) (before after : List R) (count status : ℕ) : Type 0 where
  pub rows : map view after ≡ filled row table (map view before)
  pub count_is : count ≡ length table
  pub status_is : status ≡ (if nat_le (length table) (length before) then 0 else 4)

-- what a call that reads a table of a file returns: the result of the tests, and the table unless the file is refused
pub record ReadsTable {T R W : Type 0} (wants : Type 0) (tests : List Test) (view : R → W) (row : T → W) (table : List T) (rows rows_after : List R) (count count_after : ℕ) (fault fault_after : FaultRecord) (status : ℕ) : Type 0 where
  pub faults : IsAnswered wants tests fault fault_after status
  pub table_is : IsAccepted status → TellsTable view row table rows rows_after count_after status
  pub rows_kept : IsRefused status → rows_after ≡ rows
  pub count_kept : IsRefused status → count_after ≡ count
