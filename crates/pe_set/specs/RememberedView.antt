-- The remembered searches of an image's imports. No contract of a public function cites it.
use Rattle.std.specs.Prelude.{◌≡◌, ℕ, List, [], Option, Some, IfSome, unwrap_or}
use Rattle.std.specs.Ordering.{nat_cmp, ordering_then}
use Rattle.std.specs.BTreeMap.{get}
use Rattle.std.specs.declared.cmp.Ordering.{Ordering}
use Rattle.pe_layout.specs.Image.{LaidOut}
use Rattle.pe_tables.specs.Key.{Key, Name}
use Rattle.pe_set.specs.Set.{Module, named}
use Rattle.pe_set.specs.Search.{resolve}
use Rattle.pe_set.specs.declared.remembered.Remembered.{Remembered}
use Rattle.pe_set.specs.declared.search.Resolution.{Resolution}

-- the string at an RVA, or none
abbrev pub text_at : LaidOut → ℕ → List ℕ
text_at image rva = unwrap_or (image.text rva) []

-- by the number of an exporter, and then by the RVA of a name
abbrev pub query_cmp : ℕ × ℕ → ℕ × ℕ → Ordering
query_cmp x y = ordering_then (nat_cmp x.0 y.0) (nat_cmp x.1 y.1)

-- the search for the name at an RVA in an exporter ends so, whatever name of a module led there
abbrev pub AreRemembered : {A : Type 0} → List Module → LaidOut → Remembered A → Type 0
AreRemembered s image remembered =
    (query : ℕ × ℕ) (end : Resolution) → get query_cmp remembered.ends query ≡ Some end
    → (name : List ℕ) → named s name ≡ Some query.0 → resolve s name (Name (text_at image query.1)) ≡ end

-- a query, if there is one, is that for a key of the module that has a name
abbrev pub StandsFor : List Module → LaidOut → Option (ℕ × ℕ) → List ℕ → Key → Type 0
StandsFor s image query name key = IfSome query (λ p. (named s name ≡ Some p.0) × (key ≡ Name (text_at image p.1)))
