-- The nodes of an index of names to which the last blocks of a file's names lead.
use Rattle.std.specs.Prelude.{◌≡◌, ℕ, ◌*◌, ◌≤◌, List, ◌∷◌, slice_index_or, length, Option, Some, None}
use Rattle.pe_tables.specs.Forwarders.{part_before}
use Rattle.pe_tables.specs.LongTexts.{node_of}
use Rattle.pe_tables.specs.declared.export_lookup.Exports.{Exports}
use Rattle.pe_tables.specs.declared.long_texts.Node.{Node}
use Rattle.pe_tables.specs.declared.name_trail.NameTrail.{NameTrail}

-- the node after so many blocks: the first is the root
abbrev pub node_after : List (Option ℕ) → ℕ → Option ℕ
node_after trail k = slice_index_or (Some 0 ∷ trail) k None

module _ {A : Type 0} where
  -- the last blocks of a string lead to the nodes of a trail, as far as both go
  abbrev pub Follows : List (Node A) → List ℕ → List (Option ℕ) → Type 0
  Follows nodes text trail = (k : ℕ) → k ≤ length trail → 256 * k ≤ length text → node_of nodes text k ≡ node_after trail k

  -- so do the blocks of a file before an end
  abbrev pub IsTrail : List (Node A) → List ℕ → ℕ → List (Option ℕ) → Type 0
  IsTrail nodes file end trail = (k : ℕ) → k ≤ length trail → (256 * k ≤ end) × (node_of nodes (part_before file end (256 * k)) k ≡ node_after trail k)

-- a trail of the names of a file that have one end, in the index of these exports
unfoldable pub IsTrailOf : {A B : Type 0} → Exports A → List ℕ → ℕ → NameTrail B → Type 0
IsTrailOf exports file end trail = IsTrail exports.names.long.nodes.items file end trail.nodes.items
