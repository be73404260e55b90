-- Name by name.
use Rattle.std.proofs.Common.{◌≡◌, ◌∙◌, ◌+◌, ◌<◌, ℕ, List, [], Option, take, get_or, ap, subst, arith}
use Rattle.std.proofs.lemmas.List.{take_all}
use Rattle.std.specs.Prelude.{◌==◌, map, option_map}
use Rattle.std.specs.List.{find, filter_map, range_with_len}
use Rattle.pe_head.specs.declared.directory.Directory.{Directory}
use Rattle.pe_layout.specs.Image.{LaidOut}
use Rattle.pe_layout.specs.Layout.{file_of, image_of}
use Rattle.pe_tables.specs.Key as spec
use Rattle.pe_tables.specs.Key.{target_view}
use Rattle.pe_tables.specs.Exports.{entry, target_of, by_entry}
use Rattle.pe_tables.specs.ExportsView.{name_view, ordinal_view}
use Rattle.pe_tables.specs.NameIndex.{held, IsIndexOf, Learns, export_view}
use Rattle.pe_tables.specs.declared.exports.Name.{Name}
use Rattle.pe_tables.specs.declared.export_table.Table.{Table}
use Rattle.pe_tables.specs.declared.key.Target.{Target}
use Rattle.pe_tables.proofs.ExportPlaces.{of_entry}
use Rattle.pe_tables.proofs.HeldExports.{held-learns, held-same}
use Rattle.pe_tables.proofs.Indexed.{index-same, index-step, searchable}
use Rattle.pe_tables.proofs.Search.{found_mapped}
use Rattle.pe_tables.proofs.exports.read_entries.Goals as goal

-- a name, for a list of them to be read by
abbrev no_name : Name
no_name = record { text = record { bytes = record { ref_ptr = (0, 0); now = [] }; end = 0 }; entry = 0 }

-- what is found by the ordinal of an entry is what the entry exports
exported_by : (i : LaidOut) (d : Directory) (t : Table) (ordinals : List (ℕ × Target)) (k : ℕ) (result : Option Target) → k < t.entry_count
    → map ordinal_view ordinals ≡ filter_map (by_entry i d t) (range_with_len 0 t.entry_count)
    → result ≡ option_map (λ (e : ℕ × Target). e.1) (find (λ (e : ℕ × Target). e.0 == t.ordinal_base + k) ordinals) → option_map target_view result ≡ target_of i d (entry i t k)
exported_by i d t ordinals k result within listed is =
    ap (option_map target_view) is ∙ found_mapped (t.ordinal_base + k) target_view ordinals
    ∙ ap (λ (es : List (ℕ × spec.Target)). option_map (λ (e : ℕ × spec.Target). e.1) (find (λ (e : ℕ × spec.Target). e.0 == t.ordinal_base + k) es)) listed
    ∙ of_entry (λ (k : ℕ). target_of i d (entry i t k)) t.ordinal_base 0 t.entry_count k (omega arith) (omega arith)

pub loop-place-init : goal.loop-place-init
loop-place-init g c =
    record {
      known = c.in_ok-index.ensures.known (file_of c.args.layout.now);
      names = record {
        exports = ap (map export_view) c.in_ok-index.ensures.exports;
        ordinals = c.in_ok-index.ensures.ordinals;
        targets = λ text. ap (option_map (option_map target_view)) (c.in_ok-index.ensures.held text);
      };
      held = rw c.in_ok-index.ensures.exports (λ k d lt. absurd (omega arith));
    }

pub loop-place-preserved : goal.loop-place-preserved
loop-place-preserved g c =
    let i = image_of c.args.layout.now in
    let d = c.args.directory in
    let t = c.args.table.now in
    let index : ℕ = c.loop-place.place in
    let k : ℕ = (get_or c.args.names.now index no_name).entry in
    let ordinals = c.in_ok-ordinals.ordinals.items in
    let base : c.from.result ≡ t.ordinal_base = c.from.ensures in
    let own : c.from-in-loop-place.result ≡ k = c.from-in-loop-place.ensures in
    let found = c.target_by_ordinal-target.ensures
    ∙ ap (λ (n : ℕ). option_map (λ (e : ℕ × Target). e.1) (find (λ (e : ℕ × Target). e.0 == n + c.from-in-loop-place.result) c.deref.result.now)) base
    ∙ ap (λ (n : ℕ). option_map (λ (e : ℕ × Target). e.1) (find (λ (e : ℕ × Target). e.0 == t.ordinal_base + n) c.deref.result.now)) own
    ∙ ap (λ (es : List (ℕ × Target)). option_map (λ (e : ℕ × Target). e.1) (find (λ (e : ℕ × Target). e.0 == t.ordinal_base + k) es)) c.deref.ensures.value in
    record {
      known = c.in_ok-add.ensures.known;
      names = index-step (λ (k : ℕ). target_of i d (entry i t k)) t.ordinal_base c.args.names.now index no_name c.expect.new.self c.add.new.self c.target_by_ordinal-target.result c.loop-place-test.true
          (exported_by i d t ordinals k c.target_by_ordinal-target.result (c.requires.within index no_name c.loop-place-test.true).inside c.in_ok-ordinals.ensures.1.0 found)
          (subst (λ (n : ℕ). Learns c.expect.new.self c.add.new.self (get_or c.args.names.now index no_name).text.bytes n c.target_by_ordinal-target.result (held c.expect.new.self (get_or c.args.names.now index no_name).text.bytes.now)) (ap (λ (n : ℕ). n + c.from-in-loop-place.result) base ∙ ap (λ (n : ℕ). t.ordinal_base + n) own) c.in_ok-add.ensures.learns)
          (index-same (λ (k : ℕ). target_of i d (entry i t k)) t.ordinal_base (map name_view (take index c.args.names.now)) c.loop-place.index c.expect.new.self c.expect.ensures c.loop-place.invariant.names);
      held = held-learns c.expect.new.self c.add.new.self (get_or c.args.names.now index no_name).text.bytes _ c.target_by_ordinal-target.result c.in_ok-add.ensures.learns
          (held-same c.loop-place.index c.expect.new.self c.expect.ensures c.loop-place.invariant.held);
    }

-- the exports by ordinal ascend
pub target_by_ordinal-target-requires : goal.target_by_ordinal-target-requires
target_by_ordinal-target-requires g c = rw c.deref.ensures.value (c.in_ok-ordinals.ensures.1.1)

pub add-requires-clause-text : goal.add-requires-clause-text
add-requires-clause-text g c = (c.requires.within c.loop-place.place no_name c.loop-place-test.true).text

-- all names are in the index
pub invariant_of-result-clause-searchable : goal.invariant_of-result-clause-searchable
invariant_of-result-clause-searchable g c =
    let i = image_of c.args.layout.now in
    let t = c.args.table.now in
    searchable (λ (k : ℕ). target_of i c.args.directory (entry i t k)) t.ordinal_base (map name_view (take c.loop-place.place c.args.names.now)) c.loop-place.index c.loop-place.invariant.names

pub invariant_of-result-clause-held : goal.invariant_of-result-clause-held
invariant_of-result-clause-held g c = c.loop-place.invariant.held

pub returns : goal.returns
returns g c =
    let i = image_of c.args.layout.now in
    let t = c.args.table.now in
    let all : take c.loop-place.place c.args.names.now ≡ c.args.names.now = take_all c.loop-place.place c.args.names.now c.loop-place-test.false in (
      c.in_ok-ordinals.ensures.0,
      (
        c.in_ok-ordinals.ensures.1.0,
        subst (λ (ns : List Name). IsIndexOf (λ (k : ℕ). target_of i c.args.directory (entry i t k)) t.ordinal_base (map name_view ns) c.loop-place.index) all c.loop-place.invariant.names,
      ),
    )
