-- What an export is looked up by, and what a module exports by it, with strings as their bytes.
use Rattle.std.specs.Prelude.{ℕ, List}
use Rattle.pe_tables.specs.declared.key.Key as code_key
use Rattle.pe_tables.specs.declared.key.Key.TheVariants as code_keys
use Rattle.pe_tables.specs.declared.key.Target as code_target
use Rattle.pe_tables.specs.declared.key.Target.TheVariants as code_targets

pub data Key : Type 0 where
  Ordinal : (ordinal : ℕ) → Key
  Name : (text : List ℕ) → Key

-- an RVA, or a key of another module, named as in the forwarder string
pub data Target : Type 0 where
  Rva : (rva : ℕ) → Target
  Forward : (module_name : List ℕ) (key : Key) → Target

abbrev pub key_view : code_key.Key → Key
key_view (code_keys.Ordinal ordinal) = Ordinal ordinal
key_view (code_keys.Name text) = Name text.now

abbrev pub target_view : code_target.Target → Target
target_view (code_targets.Rva rva) = Rva rva
target_view (code_targets.Forward module_name key) = Forward module_name.now (key_view key)
