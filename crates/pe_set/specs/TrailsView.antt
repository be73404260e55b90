-- The trails of an image's long names in the exports of others. No contract of a public function cites it.
use Rattle.std.specs.Prelude.{◌≡◌, ℕ, List, Some, slice_get}
use Rattle.std.specs.BTreeMap.{get}
use Rattle.pe_view.specs.TextEnds.{AreEndsOf}
use Rattle.pe_tables.specs.NameTrail.{IsTrailOf}
use Rattle.pe_tables.specs.declared.name_trail.NameTrail.{NameTrail}
use Rattle.pe_set.specs.RememberedView.{query_cmp}
use Rattle.pe_set.specs.declared.reading.Module as code_module
use Rattle.pe_set.specs.declared.trails.Trails.{Trails}

-- each trail is that of the names of a file with its end, in the exports of the image of its number
pub record AreTrailsOf {A : Type 0} (modules : List (code_module.Module A)) (file : List ℕ) (trails : Trails A) : Type 0 where
  pub ends : AreEndsOf file trails.texts
  pub right : (number end : ℕ) (trail : NameTrail A) (m : code_module.Module A) → get query_cmp trails.trails (number, end) ≡ Some trail → slice_get modules number ≡ Some m → IsTrailOf m.image.exports file end trail
