-- Long strings by their blocks of 256 bytes, counted from their ends. No contract of a public function cites it.
use Rattle.std.specs.Prelude.{◌≡◌, ℕ, zero, suc, ◌-◌, ◌*◌, ◌/◌, ◌%◌, ◌≤◌, ◌<◌, List, [], ◌∷◌, ◌++◌, slice_index_or, length, take, slice_range, slice_get, Option, Some, option_and_then, ◌⊎◌}
use Rattle.std.specs.Ordering.{nat_cmp}
use Rattle.std.specs.BTreeMap.{get}
use Rattle.std.specs.declared.vec.Vec.{Vec}
use Rattle.pe_tables.specs.Forwarders.{part_before}
use Rattle.pe_tables.specs.TextMap.{found}
use Rattle.pe_tables.specs.declared.key.Target.{Target}
use Rattle.pe_tables.specs.declared.long_texts.Node.{Node}
use Rattle.pe_tables.specs.declared.long_texts.LongTexts.{LongTexts}

-- block k of a string, and the bytes before all its blocks
abbrev pub block : List ℕ → ℕ → List ℕ
block text k = slice_range text (length text - 256 * k - 256) (length text - 256 * k)

abbrev pub front : List ℕ → List ℕ
front text = take (length text % 256) text

module _ {A : Type 0} where
  -- the child of a node for a block
  abbrev pub longer : List (Node A) → ℕ → List ℕ → Option ℕ
  longer nodes n bytes = option_and_then (λ node. found bytes node.longer.entries) (slice_get nodes n)

  -- what is stored at a node for the bytes before its blocks
  abbrev pub held_at : List (Node A) → ℕ → List ℕ → Option (Option Target)
  held_at nodes n bytes = option_and_then (λ node. found bytes node.targets.entries) (slice_get nodes n)

  -- the node to which the last k blocks of a string lead
  abbrev pub node_of : List (Node A) → List ℕ → ℕ → Option ℕ
  node_of nodes text zero = Some 0
  node_of nodes text (suc k) = option_and_then (λ n. longer nodes n (block text k)) (node_of nodes text k)

  -- what is stored for a string
  abbrev pub long_held : List (Node A) → List ℕ → Option (Option Target)
  long_held nodes text = option_and_then (λ n. held_at nodes n (front text)) (node_of nodes text (length text / 256))

  -- each node has the last blocks of its strings, one block more than the node that leads to it
  pub record IsTrie (nodes : List (Node A)) : Type 0 where
    pub tail : ℕ → List ℕ
    pub root : tail 0 ≡ []
    pub link : (n c : ℕ) (bytes : List ℕ) → longer nodes n bytes ≡ Some c → (tail c ≡ bytes ++ tail n) × (c < length nodes)

  -- links were added, to new nodes, and no target
  pub record Grows (old new : List (Node A)) : Type 0 where
    pub count : length old ≤ length new
    pub kept : (n c : ℕ) (bytes : List ℕ) → longer old n bytes ≡ Some c → longer new n bytes ≡ Some c
    pub fresh : (n c : ℕ) (bytes : List ℕ) → longer new n bytes ≡ Some c → (longer old n bytes ≡ Some c) ⊎ (length old ≤ c)
    pub targets : (n : ℕ) (bytes : List ℕ) → held_at new n bytes ≡ held_at old n bytes

  -- the last blocks of a string lead to the nodes of a path, in order from its end, as far as both go
  abbrev pub Leads : List (Node A) → List ℕ → List ℕ → Type 0
  Leads nodes text path = (k : ℕ) → k ≤ length path → 256 * k ≤ length text → node_of nodes text k ≡ Some (slice_index_or (0 ∷ path) k 0)

  -- a path leads along the blocks of a file before an end
  abbrev pub IsPath : List (Node A) → List ℕ → ℕ → List ℕ → Type 0
  IsPath nodes file end path = (k : ℕ) → k ≤ length path → (256 * k ≤ end) × (node_of nodes (part_before file end (256 * k)) k ≡ Some (slice_index_or (0 ∷ path) k 0))

  -- the paths that are kept are those of strings of a file
  pub record AreLongTextsOf (file : List ℕ) (texts : LongTexts A) : Type 0 where
    pub trie : IsTrie texts.nodes.items
    pub paths : (end : ℕ) (path : Vec ℕ A) → get nat_cmp texts.paths end ≡ Some path → IsPath texts.nodes.items file end path.items
