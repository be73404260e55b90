use Rattle.std.proofs.Common.{ℕ, List, ◌≡◌, ◌++◌, ◌+◌, ◌<◌, ◌≤◌, drop, map}
use Rattle.std.specs.Prelude.{All}
use Rattle.std.specs.List.{filter_map}
use Rattle.pe_tables.specs.Imports.{Import}
use Rattle.pe_tables.specs.ImportView.{import_view}
use Rattle.pe_set.specs.Bindings.{binding_of}
use Rattle.pe_set.specs.Set.{Module}
use Rattle.pe_set.specs.declared.binding.Binding.{Binding}
use Rattle.pe_unbound.specs.Unbound.{unbound_import, HaveOwnSlots}
use Rattle.pe_records_c.specs.UnboundRows.{IsPut}
use Rattle.pe_records_c.specs.declared.unbound.UnboundRow.{UnboundRow}
use Rattle.pe_records_c.proofs.unbound.put_image.Given as goal

-- what is put and what is left give all
abbrev pub invariant-loop-import : goal.invariant-loop-import
invariant-loop-import l = record {
  put : (s : List Module) (later : List Binding) (first : List (ℕ × Import)) (old : List UnboundRow)
      → l.bindings ≡ filter_map (binding_of s l.number) (map import_view l.imports) ++ later
      → All (λ (b : Binding). l.number < b.image) later → HaveOwnSlots (map import_view l.imports) → IsPut first old l.initial.rows l.initial.count
      → (l.left ≡ filter_map (binding_of s l.number) (map import_view (drop l.import-index l.imports)) ++ later)
      × HaveOwnSlots (map import_view (drop l.import-index l.imports))
      × ((kept : List (ℕ × Import)) × IsPut kept old l.rows l.count
      × (kept ++ filter_map (unbound_import s l.number) (map import_view (drop l.import-index l.imports)) ≡ first ++ filter_map (unbound_import s l.number) (map import_view l.imports)));
  few : l.count ≤ l.initial.count + l.import-index;
}
