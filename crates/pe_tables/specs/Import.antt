-- Imports, as base relocations see them.
use Rattle.std.specs.Prelude.{ℕ, List, map}
use Rattle.pe_tables.specs.declared.import.Import.{Import}

-- their slots: the RVAs of their import address table entries
abbrev pub slots_of : List Import → List ℕ
slots_of imports = map (λ i. i.slot) imports
