-- Entry by entry.
use Rattle.std.proofs.Common.{◌≡◌, ◌∙◌, ◌+◌, ◌<◌, ◌++◌, ℕ, List, [], ◌∷◌, Option, None, Some, length, sym, ap, append-nil, arith}
use Rattle.std.specs.Prelude.{map, option_map, option_to_list}
use Rattle.std.specs.List.{filter_map, range_with_len}
use Rattle.std.proofs.lemmas.List.{map-append}
use Rattle.std.proofs.lemmas.List.Elements.{All-push}
use Rattle.std.proofs.lemmas.List.Quantifiers.{all_pairs_push}
use Rattle.std.proofs.lemmas.Result.{err_from_is_err_and}
use Rattle.pe_layout.specs.Layout.{file_of, image_of}
use Rattle.pe_tables.specs.Key as spec
use Rattle.pe_tables.specs.Exports.{by_entry, entry, target_of}
use Rattle.pe_tables.specs.ExportFaults.{each_tests, entry_tests}
use Rattle.pe_tables.specs.ExportsView.{ordinal_view}
use Rattle.pe_tables.specs.declared.key.Target.{Target}
use Rattle.pe_tables.proofs.Each.{each-none, each-more, each-in, given-push}
use Rattle.pe_tables.proofs.Refusing.{refuses-whole}
use Rattle.pe_tables.proofs.exports.read_ordinals.Goals as goal

pub loop-index-init : goal.loop-index-init
loop-index-init g c =
    let empty = c.in_ok-ordinals.ensures.items in
    let none : length c.in_ok-ordinals.ordinals.items ≡ 0 = ap (λ (exports : List (ℕ × Target)). length exports) empty in
    record {
      bound = omega arith;
      tests = each-none (entry_tests (image_of c.args.layout.now) c.args.directory c.args.table.now);
      ordinals = ap (map ordinal_view) empty;
      known = c.new-forwarders.ensures (file_of c.args.layout.now);
      addresses = c.new-addresses.ensures (image_of c.args.layout.now);
      below = λ k d lt. absurd (omega arith);
      ascending = λ k j d lt inside. absurd (omega arith);
    }

pub returns-in_err-target : goal.returns-in_err-target
returns-in_err-target g c =
    let tests = entry_tests (image_of c.args.layout.now) c.args.directory c.args.table.now in
    let p = err_from_is_err_and c.from_residual-in_err-target.result c.from_residual-in_err-target.ensures.1 in
    rw (p.1, p.2)
    (refuses-whole (tests c.loop-index.index) (each_tests tests c.args.table.now.entry_count)
    (λ y some. each-in tests c.loop-index.index c.loop-index.invariant.tests c.args.table.now.entry_count y c.loop-index-test.true some)
    c.in_err-target.field-0.0 c.in_err-target.ensures.exact)

pub loop-index-preserved-in_default : goal.loop-index-preserved-in_default
loop-index-preserved-in_default g c =
    let i = image_of c.args.layout.now in
    let d = c.args.directory in
    let t = c.args.table.now in
    let k : ℕ = c.loop-index.index in
    let before : List (ℕ × Target) = c.loop-index.ordinals.items in
    let read = c.in_ok-target.ensures.exact in
    let nothing : target_of i d (entry i t k) ≡ None = sym read.1 ∙ ap (option_map spec.target_view) c.in_default.is in
    let lt : k < t.entry_count = c.loop-index-test.true in
    record {
      bound = omega arith;
      tests = each-more (entry_tests i d t) k c.loop-index.invariant.tests read.0;
      ordinals =
          c.loop-index.invariant.ordinals ∙ sym (append-nil (filter_map (by_entry i d t) (range_with_len 0 k)))
          ∙ ap (λ (o : Option spec.Target). filter_map (by_entry i d t) (range_with_len 0 k) ++ option_to_list (option_map (λ target. (t.ordinal_base + k, target)) o)) (sym nothing)
          ∙ sym (given-push (by_entry i d t) k);
      known = c.read_entry.ensures.known;
      addresses = c.read_entry.ensures.addresses;
      below = λ j e inside. let lower = c.loop-index.invariant.below j e inside in omega arith;
      ascending = c.loop-index.invariant.ascending;
    }

pub loop-index-preserved : goal.loop-index-preserved
loop-index-preserved g c =
    let i = image_of c.args.layout.now in
    let d = c.args.directory in
    let t = c.args.table.now in
    let k : ℕ = c.loop-index.index in
    let before : List (ℕ × Target) = c.loop-index.ordinals.items in
    let read = c.in_ok-target.ensures.exact in
    let target : Target = c.in-Some.target in
    let exported : target_of i d (entry i t k) ≡ Some (spec.target_view target) = sym read.1 ∙ ap (option_map spec.target_view) c.in-Some.is in
    let lt : k < t.entry_count = c.loop-index-test.true in
    let base : c.from.result ≡ t.ordinal_base = c.from.ensures in
    let index : c.from-in-loop-index.result ≡ k = c.from-in-loop-index.ensures in
    let pushed : c.push.new.self.items ≡ before ++ (t.ordinal_base + k, target) ∷ [] =
    c.in_ok-push.ensures.items ∙ ap (λ (n : ℕ). before ++ (n + c.from-in-loop-index.result, target) ∷ []) base ∙ ap (λ (n : ℕ). before ++ (t.ordinal_base + n, target) ∷ []) index in
    record {
      bound = omega arith;
      tests = each-more (entry_tests i d t) k c.loop-index.invariant.tests read.0;
      ordinals =
          ap (map ordinal_view) pushed ∙ map-append ordinal_view before ((t.ordinal_base + k, target) ∷ [])
          ∙ ap (λ (es : List (ℕ × spec.Target)). es ++ (t.ordinal_base + k, spec.target_view target) ∷ []) c.loop-index.invariant.ordinals
          ∙ ap (λ (o : Option spec.Target). filter_map (by_entry i d t) (range_with_len 0 k) ++ option_to_list (option_map (λ target. (t.ordinal_base + k, target)) o)) (sym exported)
          ∙ sym (given-push (by_entry i d t) k);
      known = c.read_entry.ensures.known;
      addresses = c.read_entry.ensures.addresses;
      below = rw pushed (All-push (λ (e : ℕ × Target). e.0 < t.ordinal_base + (k + 1)) before (t.ordinal_base + k, target) (λ j e inside. let lower = c.loop-index.invariant.below j e inside in omega arith) (omega arith));
      ascending = rw pushed (all_pairs_push (λ (e later : ℕ × Target). e.0 < later.0) before (t.ordinal_base + k, target) c.loop-index.invariant.ascending (λ j e inside. c.loop-index.invariant.below j e inside));
    }
