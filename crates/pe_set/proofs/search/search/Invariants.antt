use Rattle.std.proofs.Common.{◌≡◌, ◌-◌, ℕ, List, length}
use Rattle.std.specs.Prelude.{IfSome}
use Rattle.pe_layout.specs.Layout.{file_of, image_of}
use Rattle.pe_tables.specs.Key.{Name, key_view}
use Rattle.pe_set.specs.Set.{named}
use Rattle.pe_set.specs.Search.{pairs_of}
use Rattle.pe_set.specs.SetView.{modules_view}
use Rattle.pe_set.specs.PathView.{path_view, IsPath}
use Rattle.pe_set.specs.RememberedView.{text_at}
use Rattle.pe_set.specs.TrailsView.{AreTrailsOf}
use Rattle.pe_set.proofs.Walking.{Walked}
use Rattle.pe_set.proofs.search.search.Given as goal

-- the search is at a name and a key after its path
abbrev pub invariant-loop-image : goal.invariant-loop-image
invariant-loop-image g l = record {
  name : List ℕ;
  here : l.image ≡ named (modules_view l.modules) name;
  placed : IfSome l.place (λ rva. key_view l.key ≡ Name (text_at (image_of l.layout) rva));
  trails : AreTrailsOf l.modules (file_of l.layout) l.trails;
  whole : IsPath l.path;
  walked : Walked (modules_view l.modules) l.import.«module».now (key_view l.import.key) (path_view l.path) name (key_view l.key);
}

-- each forwarder of its path is an export of the set
abbrev pub decreases-loop-image : goal.decreases-loop-image
decreases-loop-image g l = pairs_of (modules_view l.modules) - length (path_view l.path)
