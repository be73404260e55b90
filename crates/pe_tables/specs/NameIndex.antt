-- The names of an export table read so far.
use Rattle.std.specs.Prelude.{◌≡◌, ℕ, ◌+◌, All, List, ◌++◌, length, nat_lt, map, Option, Some, None, if◌then◌else◌, option_map, option_and_then, option_to_list}
use Rattle.std.specs.Borrow.{Bor}
use Rattle.std.specs.List.{filter_map, find}
use Rattle.std.specs.Str.{bytes_eq}
use Rattle.pe_tables.specs.Key.{Target, target_view}
use Rattle.pe_tables.specs.Exports.{first_of_each}
use Rattle.pe_tables.specs.TextMap.{found}
use Rattle.pe_tables.specs.TextMapView.{entries_in}
use Rattle.pe_tables.specs.TextSlots.{slot_or}
use Rattle.pe_tables.specs.LongTexts.{long_held}
use Rattle.pe_tables.specs.declared.key.Target as code_target
use Rattle.pe_tables.specs.declared.name_index.NameIndex.{NameIndex}

-- what is stored for a name
abbrev pub held : {A : Type 0} → NameIndex A → List ℕ → Option (Option code_target.Target)
held index text = if nat_lt (length text) 256 then slot_or (found text index.slots.slots.items) (found text (entries_in index.short)) else long_held index.long.nodes.items text

abbrev pub export_view : Bor (List ℕ) × code_target.Target → List ℕ × Target
export_view pair = (pair.0.now, target_view pair.1)

-- a name that was not stored is from now on, and is the last export if it exports something
pub record Gains {A : Type 0} (old new : NameIndex A) (text : Bor (List ℕ)) (ordinal : ℕ) (target : Option code_target.Target) : Type 0 where
  pub targets : (other : List ℕ) → held new other ≡ (if bytes_eq other text.now then Some target else held old other)
  pub exports : new.exports.items ≡ old.exports.items ++ option_to_list (option_map (λ t. (text, t)) target)
  pub ordinals : new.ordinals.items ≡ old.ordinals.items ++ option_to_list (option_map (λ t. ordinal) target)

-- a name that was stored changes nothing
pub record Stays {A : Type 0} (old new : NameIndex A) : Type 0 where
  pub targets : (other : List ℕ) → held new other ≡ held old other
  pub exports : new.exports.items ≡ old.exports.items
  pub ordinals : new.ordinals.items ≡ old.ordinals.items

-- a name was added, according to what was stored for it
abbrev pub Learns : {A : Type 0} → NameIndex A → NameIndex A → Bor (List ℕ) → ℕ → Option code_target.Target → Option (Option code_target.Target) → Type 0
Learns old new text ordinal target None = Gains old new text ordinal target
Learns old new text ordinal target (Some _) = Stays old new

-- the index of these names, of which one of entry k exports f k, and has the ordinal base + k
pub record IsIndexOf {A : Type 0} (f : ℕ → Option Target) (base : ℕ) (names : List (List ℕ × ℕ)) (index : NameIndex A) : Type 0 where
  pub exports : map export_view index.exports.items ≡ filter_map (λ n. option_map (λ target. (n.0, target)) (f n.1)) (first_of_each names)
  pub ordinals : index.ordinals.items ≡ filter_map (λ n. option_map (λ target. base + n.1) (f n.1)) (first_of_each names)
  pub targets : (text : List ℕ) → option_map (option_map target_view) (held index text) ≡ option_map (λ n. f n.1) (find (λ n. bytes_eq text n.0) names)

-- what is stored for a name is what the first export of that name is
abbrev pub IsSearchable : {A : Type 0} → NameIndex A → Type 0
IsSearchable index = (text : List ℕ) → option_and_then (option_map target_view) (held index text) ≡ option_map (λ p. p.1) (find (λ p. bytes_eq text p.0) (map export_view index.exports.items))

-- each export is stored for its name
abbrev pub AreHeld : {A : Type 0} → NameIndex A → Type 0
AreHeld index = All (λ export. held index export.0.now ≡ Some (Some export.1)) index.exports.items

-- nothing that is stored changed
pub record IsSame {A : Type 0} (old new : NameIndex A) : Type 0 where
  pub held : (text : List ℕ) → held new text ≡ held old text
  pub exports : new.exports ≡ old.exports
  pub ordinals : new.ordinals ≡ old.ordinals
  pub long : new.long ≡ old.long
