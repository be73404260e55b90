use Rattle.std.proofs.Common.{◌≡◌, ◌∙◌, ◌++◌, List, map, ap}
use Rattle.std.proofs.lemmas.List.{map-append}
use Rattle.pe_ranges.specs.RangesView.{ranges_in}
use Rattle.pe_tables.specs.ImportView.{import_view}
use Rattle.pe_tables.specs.Imports.{Import}
use Rattle.pe_tables.specs.declared.fixups.Fixup.{Fixup}
use Rattle.pe_set.specs.DelayedImports.{fields_beside, slot_ranges, with_imports}
use Rattle.pe_set.specs.Set.{Module}
use Rattle.pe_set.specs.SetView.{module_view}
use Rattle.pe_set.proofs.WithImports.{fields_same, fields_small}
use Rattle.pe_set.proofs.adding.add_imports.Goals as goal

pub keep_fields-requires : goal.keep_fields-requires
unfolding module_view
keep_fields-requires g c = fields_small (module_view c.args.own.now) c.requires

-- an image with these imports and fixups
changed : (m : Module) (more imports : List Import) (fixups : List Fixup) → imports ≡ m.imports ++ more → fixups ≡ fields_beside (slot_ranges m.image.slot_width more) m.fixups
    → record m { imports = imports; fixups = fixups } ≡ with_imports more m
changed m more imports fixups is_imports is_fixups =
    ap (λ (xs : List Import). record m { imports = xs; fixups = fixups }) is_imports ∙ ap (λ (fs : List Fixup). record m { imports = m.imports ++ more; fixups = fs }) is_fixups

pub returns : goal.returns
unfolding module_view
returns g c =
    let m = module_view c.args.own.now in
    let more = map import_view c.args.delayed.now in
    let own = c.args.own.now.image in
    changed m more (map import_view c.extend_from_slice.new.self.items) c.keep_fields.new.fixups.items
    (ap (map import_view) c.in_ok-extend_from_slice.ensures.items ∙ map-append import_view own.imports.items c.args.delayed.now)
    (c.keep_fields.ensures
    ∙ fields_same (ranges_in c.in_ok-slots.slots) (slot_ranges c.slot_width.result more) own.fixups.items c.in_ok-slots.ensures
    ∙ ap (λ w. fields_beside (slot_ranges w more) own.fixups.items) c.slot_width.ensures.value)
