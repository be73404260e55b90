-- How a search ends, by where it is after each hop.
use Rattle.std.specs.Prelude.{◌≡◌, ◌<◌, ◌≤◌, ◌+◌, ℕ, zero, suc, List, Option, Some, None, option_map, option_and_then}
use Rattle.pe_tables.specs.Key.{Key, Target, Rva, Forward}
use Rattle.pe_set.specs.Set.{Module, named, forwarded_name}
use Rattle.pe_set.specs.Search.{target_in, from_target, resolve_in}
use Rattle.pe_set.specs.declared.search.Resolution.{Resolution}
use Rattle.pe_set.specs.declared.search.Resolution.TheVariants.{Bound, Missing, Unknown, Endless}

-- a search is at the name of a module and a key; one hop goes to those of the forwarder that the module exports by the key
abbrev pub hop_by : Option Target → Option (List ℕ × Key)
hop_by None = None
hop_by (Some (Rva rva)) = None
hop_by (Some (Forward name key)) = Some (forwarded_name name, key)

-- what the image that a name names exports by a key
abbrev pub exported : List Module → List ℕ × Key → Option Target
exported s at = option_and_then (target_in s at.1) (named s at.0)

abbrev pub hop : List Module → List ℕ × Key → Option (List ℕ × Key)
hop s at = hop_by (exported s at)

-- where it is after so many hops
abbrev pub after : ℕ → List Module → List ℕ × Key → Option (List ℕ × Key)
after zero s at = Some at
after (suc n) s at = option_and_then (hop s) (after n s at)

-- ---- a search that ends
-- the search is, after so many hops, at a name and a key for which P holds
abbrev pub StandsWhere : List Module → List ℕ × Key → ℕ → (List ℕ × Key → Type 0) → Type 0
StandsWhere s start hops P = (at : List ℕ × Key) × (after hops s start ≡ Some at) × P at

-- at the name of image i, which exports an RVA by the key
abbrev pub IsBoundAt : List Module → ℕ → ℕ → List ℕ × Key → Type 0
IsBoundAt s i rva at = (named s at.0 ≡ Some i) × (target_in s at.1 i ≡ Some (Rva rva))

-- at a name that no image has
abbrev pub IsMissingAt : List Module → List ℕ × Key → Type 0
IsMissingAt s at = named s at.0 ≡ None

-- at the name of an image that exports nothing by the key
abbrev pub IsUnknownAt : List Module → List ℕ × Key → Type 0
IsUnknownAt s at = (i : ℕ) × (named s at.0 ≡ Some i) × (target_in s at.1 i ≡ None)

-- it ends in this way after so many hops
abbrev pub EndsAfter : List Module → List ℕ × Key → ℕ → Resolution → Type 0
EndsAfter s start hops (Bound i rva) = StandsWhere s start hops (IsBoundAt s i rva)
EndsAfter s start hops Missing = StandsWhere s start hops (IsMissingAt s)
EndsAfter s start hops Unknown = StandsWhere s start hops (IsUnknownAt s)
EndsAfter s start hops (Endless length) = ⊥

-- ---- one that does not
-- it ends in none of these ways, after any number of hops
abbrev pub IsEndless : List Module → List ℕ × Key → Type 0
IsEndless s start = (hops : ℕ) (end : Resolution) → EndsAfter s start hops end → ⊥

-- the image and the key at which it is after so many hops
abbrev pub image_after : List Module → List ℕ × Key → ℕ → Option (ℕ × Key)
image_after s start hops = option_and_then (λ (at : List ℕ × Key). option_map (λ i. (i, at.1)) (named s at.0)) (after hops s start)

-- from some hop on it is, that many hops later, at the same image and key again
abbrev pub Repeats : (ℕ → Option (ℕ × Key)) → ℕ → Type 0
Repeats stand length = (from : ℕ) × ((n : ℕ) → from ≤ n → (p : ℕ × Key) × (stand n ≡ Some p) × (stand (n + length) ≡ Some p))

-- the least number above 0 for which it is
pub record IsCycle (stand : ℕ → Option (ℕ × Key)) (length : ℕ) : Type 0 where
  pub above : 0 < length
  pub repeats : Repeats stand length
  pub least : (n : ℕ) → 0 < n → Repeats stand n → length ≤ n

abbrev pub EndsAs : List Module → List ℕ × Key → Resolution → Type 0
EndsAs s start (Bound i rva) = (hops : ℕ) × EndsAfter s start hops (Bound i rva)
EndsAs s start Missing = (hops : ℕ) × EndsAfter s start hops Missing
EndsAs s start Unknown = (hops : ℕ) × EndsAfter s start hops Unknown
EndsAs s start (Endless length) = IsEndless s start × IsCycle (image_after s start) length

-- a search from a key of an image ends in this way
abbrev pub EndsFrom : List Module → Resolution → ℕ × Key → Type 0
EndsFrom s end p = (n : ℕ) × (from_target (resolve_in n s) p.0 (target_in s p.1 p.0) ≡ Some end)
