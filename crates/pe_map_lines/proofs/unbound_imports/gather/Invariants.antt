use Rattle.std.proofs.Common.{ℕ, List, ◌≡◌, ◌++◌, ◌<◌, drop, map}
use Rattle.std.specs.Prelude.{All}
use Rattle.std.specs.List.{filter_map}
use Rattle.pe_tables.specs.ImportView.{import_view}
use Rattle.pe_set.specs.Bindings.{binding_of}
use Rattle.pe_set.specs.Set.{Module}
use Rattle.pe_set.specs.declared.binding.Binding.{Binding}
use Rattle.pe_unbound.specs.Unbound.{unbound_import, HaveOwnSlots}
use Rattle.pe_map_lines.specs.UnboundImports.{unbound_view}
use Rattle.pe_map_lines.proofs.unbound_imports.gather.Given as goal

abbrev pub invariant-loop-import : goal.invariant-loop-import
invariant-loop-import g l = (s : List Module) (later : List Binding)
    → l.bindings ≡ filter_map (binding_of s l.number) (map import_view l.imports) ++ later
    → All (λ (b : Binding). l.number < b.image) later → HaveOwnSlots (map import_view l.imports)
    → (l.left ≡ filter_map (binding_of s l.number) (map import_view (drop l.import-index l.imports)) ++ later)
    × HaveOwnSlots (map import_view (drop l.import-index l.imports))
    × (map unbound_view l.unbound.items ++ filter_map (unbound_import s l.number) (map import_view (drop l.import-index l.imports))
    ≡ map unbound_view l.fn.unbound.items ++ filter_map (unbound_import s l.number) (map import_view l.imports))
