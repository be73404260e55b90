use Rattle.std.proofs.Common.{◌≡◌, ◌++◌, drop, map}
use Rattle.std.specs.List.{flat_map, filter_map}
use Rattle.pe_tables.specs.ImportView.{import_view}
use Rattle.pe_set.specs.SetErrors.{import_errors, first_error}
use Rattle.pe_set.specs.Bindings.{binding_of}
use Rattle.pe_set.specs.SetView.{modules_view}
use Rattle.pe_set.specs.NamesView.{names_in, found}
use Rattle.pe_set.specs.EndsView.{AreEnds}
use Rattle.pe_set.specs.RememberedView.{AreRemembered}
use Rattle.pe_set.specs.TrailsView.{AreTrailsOf}
use Rattle.pe_layout.specs.Layout.{file_of, image_of}
use Rattle.pe_set.proofs.binding.bind_imports.Given as goal

abbrev pub invariant-loop-import : goal.invariant-loop-import
invariant-loop-import g l = record {
  known : AreEnds (modules_view l.modules) l.ends;
  remembered : AreRemembered (modules_view l.modules) (image_of l.layout) l.remembered;
  trails : AreTrailsOf l.modules (file_of l.layout) l.trails;
  number : l.index ≡ l.import-index;
  image : l.image ≡ found (names_in l.names) l.name;
  rest : first_error (flat_map (import_errors l.policy (modules_view l.modules) l.number) (map import_view (drop l.import-index l.imports)))
      ≡ first_error (flat_map (import_errors l.policy (modules_view l.modules) l.number) (map import_view l.imports));
  bound : l.bindings.items ++ filter_map (binding_of (modules_view l.modules) l.number) (map import_view (drop l.import-index l.imports))
      ≡ l.fn.bindings.items ++ filter_map (binding_of (modules_view l.modules) l.number) (map import_view l.imports);
}
