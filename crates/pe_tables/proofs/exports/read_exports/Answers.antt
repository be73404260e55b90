-- The directory's faults come first, then those of the names, then those of the entries.
use Rattle.std.proofs.Common.{◌≡◌, ◌∙◌, ◌++◌, ℕ, List, [], Option, None, refl, sym, ap}
use Rattle.std.specs.Prelude.{map}
use Rattle.std.specs.List.{filter_map, range_with_len}
use Rattle.std.proofs.lemmas.Result.{err_from_is_err_and}
use Rattle.pe_view.specs.Faults.{Test, first_standing}
use Rattle.pe_view.specs.FirstStanding.{first-past, first-in}
use Rattle.pe_head.specs.declared.directory.Directory.{Directory}
use Rattle.pe_layout.specs.Layout.{image_of}
use Rattle.pe_tables.specs.Key.{Target}
use Rattle.pe_tables.specs.Exports.{table_at, entry, target_of, names_of, first_of_each, by_entry, by_name, ordinal_of, exports_at, exports_in, exports_of}
use Rattle.pe_tables.specs.ExportFaults.{directory_tests, name_tests, entry_tests, each_tests, table_tests, export_tests, export_tests_at}
use Rattle.pe_tables.specs.ExportsView.{name_view, ordinal_view, exports_view}
use Rattle.pe_tables.specs.NameIndex.{export_view, IsIndexOf}
use Rattle.pe_tables.specs.declared.export_table.Table.{Table}
use Rattle.pe_tables.proofs.Each.{each-none}
use Rattle.pe_tables.proofs.Refusing.{refuses-whole, answers-whole}
use Rattle.pe_tables.proofs.exports.read_exports.Goals as goal

pub returns-in_err-names-clause-exact : goal.returns-in_err-names-clause-exact
returns-in_err-names-clause-exact g c =
    let i = image_of c.args.layout.now in
    let d : Directory = c.in-Some.directory in
    let t : Table = c.in_ok-table.table in
    let same : t ≡ table_at i d.rva = c.in_ok-table.ensures.exact.1.0 in
    let names : List Test = each_tests (name_tests i t) t.name_count in
    let entries : List Test = each_tests (entry_tests i d t) t.entry_count in
    let none : first_standing (directory_tests i t) ≡ None = ap (λ (t : Table). first_standing (directory_tests i t)) same ∙ c.in_ok-table.ensures.exact.0 in
    let whole : first_standing (export_tests i) ≡ first_standing (names ++ entries) =
    ap (λ (o : Option Directory). first_standing (export_tests_at i o)) (sym c.in-Some.ensures)
    ∙ ap (λ (t : Table). first_standing (table_tests i d t)) (sym same)
    ∙ first-past (directory_tests i t) (names ++ entries) none in
    let p = err_from_is_err_and c.from_residual-in_err-names.result c.from_residual-in_err-names.ensures.1 in
    rw (p.1, p.2) (refuses-whole names (export_tests i) (λ y some. whole ∙ first-in names entries y some) c.in_err-names.field-0.0 c.in_err-names.ensures)

pub returns-clause-exact : goal.returns-clause-exact
returns-clause-exact g c =
    let i = image_of c.args.layout.now in
    let d : Directory = c.in-Some.directory in
    let t : Table = c.in_ok-table.table in
    let same : t ≡ table_at i d.rva = c.in_ok-table.ensures.exact.1.0 in
    let names : List Test = each_tests (name_tests i t) t.name_count in
    let entries : List Test = each_tests (entry_tests i d t) t.entry_count in
    let none : first_standing (directory_tests i t) ≡ None = ap (λ (t : Table). first_standing (directory_tests i t)) same ∙ c.in_ok-table.ensures.exact.0 in
    let whole : first_standing (export_tests i) ≡ first_standing entries =
    ap (λ (o : Option Directory). first_standing (export_tests_at i o)) (sym c.in-Some.ensures)
    ∙ ap (λ (t : Table). first_standing (table_tests i d t)) (sym same)
    ∙ first-past (directory_tests i t) (names ++ entries) none
    ∙ first-past names entries c.in_ok-names.ensures.0 in
    let named : map name_view c.deref.result.now ≡ names_of i t = ap (map name_view) c.deref.ensures.value ∙ c.in_ok-names.ensures.1.0 in
    answers-whole entries (export_tests i)
    (λ exports. (map ordinal_view exports.ordinals.items ≡ filter_map (by_entry i d t) (range_with_len 0 t.entry_count))
    × IsIndexOf (λ (k : ℕ). target_of i d (entry i t k)) t.ordinal_base (map name_view c.deref.result.now) exports.names)
    (λ exports. exports_view exports ≡ exports_of i) whole
    (λ exports read.
    ap (λ (es : List (ℕ × Target)). record { ordinals = es; names = map export_view exports.names.exports.items; name_ordinals = exports.names.ordinals.items }) read.0
    ∙ ap (λ (es : List (List ℕ × Target)). record { ordinals = filter_map (by_entry i d t) (range_with_len 0 t.entry_count); names = es; name_ordinals = exports.names.ordinals.items })
    (read.1.exports ∙ ap (λ (ns : List (List ℕ × ℕ)). filter_map (by_name i d t) (first_of_each ns)) named)
    ∙ ap (λ (es : List ℕ). record { ordinals = filter_map (by_entry i d t) (range_with_len 0 t.entry_count); names = filter_map (by_name i d t) (first_of_each (names_of i t)); name_ordinals = es })
    (read.1.ordinals ∙ ap (λ (ns : List (List ℕ × ℕ)). filter_map (ordinal_of i d t) (first_of_each ns)) named)
    ∙ ap (exports_in i d) same ∙ ap (exports_at i) c.in-Some.ensures)
    c.read_entries.result c.read_entries.ensures

pub returns-then-table-eq0-2-clause-exact : goal.returns-then-table-eq0-2-clause-exact
returns-then-table-eq0-2-clause-exact g c =
    let i = image_of c.args.layout.now in
    let d : Directory = c.in-Some.directory in
    let t : Table = c.in_ok-table.table in
    let same : t ≡ table_at i d.rva = c.in_ok-table.ensures.exact.1.0 in
    let names : List Test = each_tests (name_tests i t) t.name_count in
    let entries : List Test = each_tests (entry_tests i d t) t.entry_count in
    let no_names : t.name_count ≡ 0 = c.if-table-eq0.true in
    let no_entries : t.entry_count ≡ 0 = c.if-table-eq0-2.true in
    let none : first_standing (directory_tests i t) ≡ None = ap (λ (t : Table). first_standing (directory_tests i t)) same ∙ c.in_ok-table.ensures.exact.0 in
    let empty = c.new-then-table-eq0-2.ensures in
    let all : exports_in i d t ≡ record { ordinals = []; names = []; name_ordinals = [] } = rw (no_names, no_entries) refl in (
      ap (λ (o : Option Directory). first_standing (export_tests_at i o)) (sym c.in-Some.ensures)
          ∙ ap (λ (t : Table). first_standing (table_tests i d t)) (sym same)
          ∙ first-past (directory_tests i t) (names ++ entries) none
          ∙ first-past names entries (ap (λ (n : ℕ). first_standing (each_tests (name_tests i t) n)) no_names ∙ each-none (name_tests i t))
          ∙ ap (λ (n : ℕ). first_standing (each_tests (entry_tests i d t) n)) no_entries ∙ each-none (entry_tests i d t),
      rw (empty.ordinals, empty.names, empty.name_ordinals) refl ∙ sym all ∙ ap (exports_in i d) same ∙ ap (exports_at i) c.in-Some.ensures,
    )
