-- Auxiliary records ("PE Format", Auxiliary Symbol Records): the symbol that they follow decides their shape.
use Rattle.std.specs.Prelude.{ℕ, ◌*◌, ◌==◌, ◌&&◌, Bool, true, false, List, Option, Some, None, nat_lt, slice_get, if◌then◌else◌}
use Rattle.pe_view.specs.Number.{part}
use Rattle.coff_read.specs.Field.{field}
use Rattle.coff_read.specs.Names.{up_to_zero}
use Rattle.coff_read.specs.Records.{Symbol, Object, aux_records}
use Rattle.coff_read.specs.declared.symbol.SymbolSection.{SymbolSection}
use Rattle.coff_read.specs.declared.symbol.SymbolSection.TheVariants as belongs

pub data AuxRecord : Type 0 where
  Function : (tag_index total_size pointer_to_linenumber pointer_to_next_function : ℕ) → AuxRecord
  Lines : (line next : ℕ) → AuxRecord
  Weak : (tag_index search : ℕ) → AuxRecord
  File : (name : List ℕ) → AuxRecord
  Section : (len relocations line_numbers checksum number selection : ℕ) → AuxRecord
  Raw : (bytes : List ℕ) → AuxRecord

abbrev pub is_numbered : SymbolSection → Bool
is_numbered belongs.Undefined = false
is_numbered belongs.Absolute = false
is_numbered belongs.Debug = false
is_numbered (belongs.Section k) = true

-- a symbol that defines a function: its type says so, and it belongs to a section
abbrev pub defines_function : Symbol → Bool
defines_function s = s.class == 2 && (s.kind == 0x20 && is_numbered s.section)

abbrev pub function_of : List ℕ → AuxRecord
function_of r = Function (field r 0 0 4) (field r 0 4 4) (field r 0 8 4) (field r 0 12 4)

abbrev pub section_of : List ℕ → AuxRecord
section_of r = Section (field r 0 0 4) (field r 0 4 2) (field r 0 6 2) (field r 0 8 4) (field r 0 12 2) (field r 0 14 1)

-- the record in these bytes, after a symbol: by its class 103 FILE, 105 WEAK_EXTERNAL, 3 STATIC, 101 FUNCTION, 2 EXTERNAL
abbrev pub aux_of : Symbol → List ℕ → AuxRecord
aux_of s r =
    if s.class == 103 then File (up_to_zero r)
    else (if s.class == 105 then Weak (field r 0 0 4) (field r 0 4 4)
    else (if s.class == 3 then section_of r
    else (if s.class == 101 then Lines (field r 0 4 2) (field r 0 12 4)
    else (if defines_function s then function_of r else Raw r))))

-- auxiliary record k of a symbol
abbrev pub aux_record : Symbol → ℕ → Option AuxRecord
aux_record s k = if nat_lt k (aux_records s) then Some (aux_of s (part s.aux (18 * k) 18)) else None

abbrev pub aux_behind : Option Symbol → ℕ → Option AuxRecord
aux_behind None k = None
aux_behind (Some s) k = aux_record s k

-- auxiliary record k of symbol i of an object
abbrev pub aux_in : Object → ℕ → ℕ → Option AuxRecord
aux_in o i k = aux_behind (slice_get o.symbols i) k
