-- One descriptor after the other.
use Rattle.std.proofs.Common.{◌≡◌, ◌≢◌, ◌∙◌, ◌+◌, ◌++◌, ℕ, [], map, sym, ap, subst}
use Rattle.std.proofs.lemmas.Result.{err_from_is_err_and}
use Rattle.pe_layout.specs.Layout.{image_of}
use Rattle.pe_tables.specs.ImportView.{import_view}
use Rattle.pe_delay.specs.Entries.{entry_count}
use Rattle.pe_delay.specs.Imports.{delay_imports_of, imports_after}
use Rattle.pe_delay.specs.Left.{descriptors_left}
use Rattle.pe_delay.specs.Names.{delay_names_of, names_after}
use Rattle.pe_delay.specs.Tables.{tables_of}
use Rattle.pe_delay.specs.declared.tables.Tables.{Tables}
use Rattle.pe_delay.proofs.Found.{adds_wants, import_here, import_later, names_more, read_more}
use Rattle.pe_delay.proofs.reading.push_descriptors.Goals as goal

pub loop-descriptor-preserved : goal.loop-descriptor-preserved
loop-descriptor-preserved g c =
    let i = image_of c.args.layout.now in
    let d = c.in-Some.descriptor in
    let read : ℕ = c.loop-descriptor.read in
    let inv = c.loop-descriptor.invariant in
    let steps = c.in-Some.ensures.steps in
    let counted : read + c.count_entries-count.result ≡ read + entry_count i (tables_of i d) read =
    ap (λ (n : ℕ). read + n) c.count_entries-count.ensures.count ∙ ap (λ (t : Tables). read + entry_count i t read) c.tables_of-tables.ensures in
    let more = read_more i read d _ _ steps (map import_view c.loop-descriptor.found.imports.items) (map import_view c.push_descriptor.new.found.imports.items) _ c.in_ok-push_descriptor.ensures.adds inv.0 in (
      subst (λ (n : ℕ). map import_view c.push_descriptor.new.found.imports.items ++ imports_after i n (descriptors_left c.next.new.self) ≡ map import_view c.args.found.now.imports.items ++ delay_imports_of i) (sym counted) more,
      (λ some. inv.1 (import_later i read d _ _ steps (subst (λ (n : ℕ). imports_after i n (descriptors_left c.next.new.self) ≢ []) counted some))),
      c.push_descriptor.ensures.known,
      c.count_entries-count.ensures.few,
      subst (λ (n : ℕ). c.push_descriptor.new.found.name_rvas.items ++ names_after i n (descriptors_left c.next.new.self) ≡ c.args.found.now.name_rvas.items ++ delay_names_of i) (sym counted)
          (names_more i read d _ _ steps c.loop-descriptor.found.name_rvas.items c.push_descriptor.new.found.name_rvas.items _ c.in_ok-push_descriptor.ensures.names inv.4),
    )

pub returns-in_err-push_descriptor-clause-adds : goal.returns-in_err-push_descriptor-clause-adds
returns-in_err-push_descriptor-clause-adds g c =
    let i = image_of c.args.layout.now in
    let inv = c.loop-descriptor.invariant in
    let some : delay_imports_of i ≢ [] = inv.1 (import_here i c.loop-descriptor.read c.in-Some.descriptor _ _ c.in-Some.ensures.steps c.in_err-push_descriptor.ensures.adds) in
    let p = err_from_is_err_and c.from_residual.result c.from_residual.ensures.1 in
    adds_wants (delay_imports_of i) (map import_view c.args.found.now.imports.items) (map import_view c.push_descriptor.new.found.imports.items) c.from_residual.result p.0 p.1 some
