-- The search for the export of a module by a key, through forwarders ("PE Format", Export Address Table).
use Rattle.std.specs.Prelude.{ℕ, zero, suc, ◌+◌, ◌==◌, ◌&&◌, Bool, false, List, [], ◌∷◌, length, Option, Some, None, slice_get, option_map, option_and_then, if◌then◌else◌}
use Rattle.std.specs.Str.{bytes_eq}
use Rattle.pe_tables.specs.Key.{Key, Ordinal, Name, Target, Rva, Forward}
use Rattle.pe_tables.specs.Exports.{target_at}
use Rattle.pe_set.specs.Set.{Module, named, forwarded_name}
use Rattle.pe_set.specs.declared.search.Resolution.{Resolution}
use Rattle.pe_set.specs.declared.search.Resolution.TheVariants.{Bound, Missing, Unknown, Endless}

-- what image i exports by a key
abbrev pub target_in : List Module → Key → ℕ → Option Target
target_in s key i = option_and_then (λ (m : Module). target_at m.exports key) (slice_get s i)

-- how a search continues from what image i exports: an RVA ends it, a forwarder is one hop
abbrev pub from_target : (List ℕ → Key → Option Resolution) → ℕ → Option Target → Option Resolution
from_target next i None = Some Unknown
from_target next i (Some (Rva rva)) = Some (Bound i rva)
from_target next i (Some (Forward name key)) = next (forwarded_name name) key

-- how it continues from the image that a name names
abbrev pub from_image : List Module → (List ℕ → Key → Option Resolution) → Key → Option ℕ → Option Resolution
from_image s next key None = Some Missing
from_image s next key (Some i) = from_target next i (target_in s key i)

-- the end of a search that looks in at most n modules; none if it has not ended by then
abbrev pub resolve_in : ℕ → List Module → List ℕ → Key → Option Resolution
resolve_in zero s name key = None
resolve_in (suc n) s name key = from_image s (resolve_in n s) key (named s name)

-- ---- the images and keys that it passes
-- if the module is an image of the set
abbrev pub stand_at : List Module → List ℕ → Key → Option (ℕ × Key)
stand_at s name key = option_map (λ i. (i, key)) (named s name)

-- after the hop of a forwarder
abbrev pub onward : List Module → Option Target → Option (ℕ × Key)
onward s None = None
onward s (Some (Rva rva)) = None
onward s (Some (Forward name key)) = stand_at s (forwarded_name name) key

abbrev pub step : List Module → ℕ × Key → Option (ℕ × Key)
step s p = onward s (target_in s p.1 p.0)

-- after n hops more
abbrev pub steps : List Module → ℕ → Option (ℕ × Key) → Option (ℕ × Key)
steps s zero p = p
steps s (suc n) p = steps s n (option_and_then (step s) p)

-- after n hops from its start
abbrev pub stands : List Module → List ℕ → Key → ℕ → Option (ℕ × Key)
stands s name key n = steps s n (stand_at s name key)

-- ---- where it ends
-- how many pairs the exports of the set's images have together
abbrev pub pairs_of : List Module → ℕ
pairs_of [] = 0
pairs_of (m ∷ s) = length m.exports.ordinals + length m.exports.names + pairs_of s

abbrev pub same_key : Key → Key → Bool
same_key (Ordinal a) (Ordinal b) = a == b
same_key (Ordinal a) (Name b) = false
same_key (Name a) (Ordinal b) = false
same_key (Name a) (Name b) = bytes_eq a b

abbrev pub same_stand : ℕ × Key → Option (ℕ × Key) → Bool
same_stand p None = false
same_stand p (Some q) = p.0 == q.0 && same_key p.1 q.1

-- how many hops, at most n, a search at q takes to p
abbrev pub steps_to : ℕ → List Module → ℕ × Key → Option (ℕ × Key) → ℕ
steps_to zero s p q = 0
steps_to (suc n) s p q = suc (if same_stand p (option_and_then (step s) q) then 0 else steps_to n s p (option_and_then (step s) q))

abbrev pub cycle_at : ℕ → List Module → Option (ℕ × Key) → ℕ
cycle_at n s None = 0
cycle_at n s (Some p) = steps_to n s p (Some p)

-- the length of the cycle of a search that does not end: after one hop more than there are pairs it is on the cycle
abbrev pub cycle_length : List Module → List ℕ → Key → ℕ
cycle_length s name key = cycle_at (pairs_of s) s (stands s name key (suc (pairs_of s)))

abbrev pub ended : ℕ → Option Resolution → Resolution
ended length None = Endless length
ended length (Some end) = end

-- how a search ends: after at most as many hops as there are pairs, or never
unfoldable pub resolve : List Module → List ℕ → Key → Resolution
resolve s name key = ended (cycle_length s name key) (resolve_in (suc (pairs_of s)) s name key)
