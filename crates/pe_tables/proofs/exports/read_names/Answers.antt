-- Name by name.
use Rattle.std.proofs.Common.{◌≡◌, ◌∙◌, ◌<◌, ◌++◌, ℕ, List, [], ◌∷◌, Option, length, sym, ap, arith}
use Rattle.std.proofs.lemmas.List.{map-append}
use Rattle.std.specs.Prelude.{map, option_to_list}
use Rattle.std.specs.List.{filter_map, range_with_len}
use Rattle.std.proofs.lemmas.List.Elements.{All-push}
use Rattle.std.proofs.lemmas.Result.{err_from_is_err_and}
use Rattle.pe_layout.specs.Layout.{file_of, image_of}
use Rattle.pe_tables.specs.Exports.{named}
use Rattle.pe_tables.specs.ExportFaults.{each_tests, name_tests}
use Rattle.pe_tables.specs.ExportsView.{name_view, IsNameOf}
use Rattle.pe_tables.specs.declared.exports.Name.{Name}
use Rattle.pe_tables.proofs.Each.{each-none, each-more, each-in, given-push}
use Rattle.pe_tables.proofs.Refusing.{refuses-whole}
use Rattle.pe_tables.proofs.exports.read_names.Goals as goal

pub loop-index-init : goal.loop-index-init
loop-index-init g c =
    let empty = c.in_ok-names.ensures.items in
    let none : length c.in_ok-names.names.items ≡ 0 = ap (λ (names : List Name). length names) empty in
    record {
      bound = omega arith;
      tests = each-none (name_tests (image_of c.args.layout.now) c.args.table.now);
      names = ap (map name_view) empty;
      known = c.new-ends.ensures (file_of c.args.layout.now);
      pointers = c.new-pointers.ensures (image_of c.args.layout.now);
      ordinals = c.new-ordinals.ensures (image_of c.args.layout.now);
      within = λ k d lt. absurd (omega arith);
    }

pub returns-in_err-name : goal.returns-in_err-name
returns-in_err-name g c =
    let tests = name_tests (image_of c.args.layout.now) c.args.table.now in
    let p = err_from_is_err_and c.from_residual-in_err-name.result c.from_residual-in_err-name.ensures.1 in
    rw (p.1, p.2)
    (refuses-whole (tests c.loop-index.index) (each_tests tests c.args.table.now.name_count)
    (λ y some. each-in tests c.loop-index.index c.loop-index.invariant.tests c.args.table.now.name_count y c.loop-index-test.true some)
    c.in_err-name.field-0.0 c.in_err-name.ensures.exact)

pub loop-index-preserved : goal.loop-index-preserved
loop-index-preserved g c =
    let i = image_of c.args.layout.now in
    let t = c.args.table.now in
    let k : ℕ = c.loop-index.index in
    let before = c.loop-index.names.items in
    let name : Name = c.in_ok-name.name in
    let read = c.in_ok-name.ensures.exact in
    let lt : k < t.name_count = c.loop-index-test.true in
    let pushed : c.push.new.self.items ≡ before ++ name ∷ [] = c.in_ok-push.ensures.items in
    record {
      bound = omega arith;
      tests = each-more (name_tests i t) k c.loop-index.invariant.tests read.0;
      names =
          ap (map name_view) pushed ∙ map-append name_view before (name ∷ [])
          ∙ ap (λ (ns : List (List ℕ × ℕ)). ns ++ name_view name ∷ []) c.loop-index.invariant.names
          ∙ ap (λ (o : Option (List ℕ × ℕ)). filter_map (named i t) (range_with_len 0 k) ++ option_to_list o) read.1.0
          ∙ sym (given-push (named i t) k);
      known = c.read_name.ensures.known;
      pointers = c.read_name.ensures.pointers;
      ordinals = c.read_name.ensures.ordinals;
      within = rw pushed (All-push (IsNameOf (file_of c.args.layout.now) t.entry_count) before name c.loop-index.invariant.within read.1.1);
    }
