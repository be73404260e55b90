-- The path of a search. No contract of a public function cites it.
use Rattle.std.specs.Prelude.{◌≡◌, ◌≢◌, ◌-◌, ◌++◌, ℕ, List, ◌∷◌, [], Option, Some, length, map, slice_get, MatchOption}
use Rattle.pe_tables.specs.Key.{Key}
use Rattle.pe_set.specs.Set.{Module}
use Rattle.pe_set.specs.Search.{resolve_in}
use Rattle.pe_set.specs.SearchEnds.{EndsFrom}
use Rattle.pe_set.specs.StandView.{Stand, stand_view, stand_of}
use Rattle.pe_set.specs.declared.path.Path.{Path}
use Rattle.pe_set.specs.declared.search.Resolution.{Resolution}
use Rattle.pe_set.specs.declared.standing.Standing.{Standing}

abbrev pub path_view : {A : Type 0} → Path A → List Stand
path_view path = map stand_view path.stands.items

-- no place comes twice
abbrev pub AreApart : List Stand → Type 0
AreApart places = (i j : ℕ) (at : Stand) → slice_get places i ≡ Some at → slice_get places j ≡ Some at → i ≡ j

-- the entries are the places of a path with their indexes
pub record IsIndexed (places : List Stand) (hops : List (Standing × ℕ)) : Type 0 where
  pub apart : AreApart places
  pub right : (i : ℕ) (known : Standing × ℕ) → slice_get hops i ≡ Some known → slice_get places known.1 ≡ Some (stand_view known.0)
  pub all : (i : ℕ) (at : Stand) → slice_get places i ≡ Some at → (j : ℕ) × (known : Standing × ℕ) × (slice_get hops j ≡ Some known) × (stand_view known.0 ≡ at)

abbrev pub IsPath : {A : Type 0} → Path A → Type 0
IsPath path = IsIndexed (path_view path) path.hops.entries

-- a place that the path has is so many hops back; another one is added
abbrev pub Adds : List Stand → List Stand → Stand → Option ℕ → Type 0
Adds old new at back = MatchOption back
    ((new ≡ old ++ at ∷ []) × ((i : ℕ) → slice_get old i ≢ Some at))
    (λ hops. (new ≡ old) × (first : ℕ) × (slice_get old first ≡ Some at) × (hops ≡ length old - first))

-- a search that passes a place ends so
abbrev pub EndsSo : List Module → Resolution → Stand → Type 0
EndsSo s end at = (p : ℕ × Key) × (at ≡ stand_of p) × EndsFrom s end p

-- if a search ends, all searches that pass a place of its path end as it does
abbrev pub LeadsTo : List Module → List ℕ → Key → Resolution → List Stand → Type 0
LeadsTo s name key end path = (n : ℕ) → resolve_in n s name key ≡ Some end → (i : ℕ) (at : Stand) → slice_get path i ≡ Some at → EndsSo s end at
