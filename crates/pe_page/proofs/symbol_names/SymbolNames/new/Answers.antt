use Rattle.std.proofs.Common.{◌≡◌, ◌∙◌, ◌++◌, ◌<◌, ap, sym, subst, true, rules, List, ℕ, length, append-nil, arith}
use Rattle.std.specs.Prelude.{AllPairs, map}
use denote.Bor.{Bor}
use Rattle.coff_read.specs.EitherLeft.{each_either_symbol_left}
use Rattle.coff_read.specs.EitherObject.{form_of, file_of}
use Rattle.coff_read.specs.FormReading.{record_count, symbol_indexes}
use Rattle.coff_read.specs.Records.{Symbol}
use Rattle.pe_page.specs.Objects.{named, symbol_names}
use Rattle.pe_page.proofs.Pushed.{pushed_more}
use Rattle.pe_page.proofs.SymbolIndexes.{indexes, symbol_name, symbols_ascend, indexes-indexed, names-indexed, ascend_by_index}
use Rattle.pe_page.proofs.symbol_names.SymbolNames.new.Goals as goal

pub loop-index-init : goal.loop-index-init
loop-index-init g c =
    let big = form_of c.args.object.now in
    let file = file_of c.args.object.now in
    let none = c.reserve.ensures.items ∙ c.new-names.ensures.items in
    let left = ap each_either_symbol_left c.into_iter-index-iterator.ensures.into_iter_gives ∙ c.each_symbol-index-items.ensures in
    record {
      indexes = rw none (ap indexes left ∙ indexes-indexed big file (symbol_indexes big file));
      names = rw none (ap (map symbol_name) left ∙ names-indexed big file (symbol_indexes big file));
    }

pub loop-index-preserved : goal.loop-index-preserved
loop-index-preserved g c =
    let big = form_of c.args.object.now in
    let file = file_of c.args.object.now in
    let name : ℕ × Bor (List ℕ) = (c.in-Some.index, c.in-Some.symbol.name) in
    let left = each_either_symbol_left c.loop-index.index-iterator in
    let rest = each_either_symbol_left c.next.new.self in
    record {
      indexes = rw c.in_ok-push.ensures.items (pushed_more (λ (n : ℕ × Bor (List ℕ)). n.0) c.loop-index.names.items name (indexes left) (indexes rest) (symbol_indexes big file) (ap indexes c.in-Some.ensures.steps) c.loop-index.invariant.indexes);
      names = rw c.in_ok-push.ensures.items (pushed_more (λ (n : ℕ × Bor (List ℕ)). (n.0, n.1.now)) c.loop-index.names.items name (map symbol_name left) (map symbol_name rest) (symbol_names big file) (ap (map symbol_name) c.in-Some.ensures.steps) c.loop-index.invariant.names);
    }

pub invariant_of-result : goal.invariant_of-result
invariant_of-result g c = record { ascend = λ i j d less lt. absurd (omega (arith, lt, ap length c.new-names.ensures.items)) }

pub invariant_of-result-2 : goal.invariant_of-result-2
invariant_of-result-2 g c =
    let big = form_of c.args.object.now in
    let file = file_of c.args.object.now in
    let names = c.loop-index.names.items in
    let all : indexes names ≡ symbol_indexes big file =
    sym (append-nil (indexes names)) ∙ ap (λ (left : List (ℕ × Symbol)). indexes names ++ indexes left) (sym c.in-None.ensures.steps.0) ∙ c.loop-index.invariant.indexes in
    record { ascend = ascend_by_index names (subst (AllPairs (λ (n later : ℕ). n < later)) (sym all) (symbols_ascend big file 0 (record_count big file) 0)) }

pub returns : goal.returns
returns g c =
    let names = named c.loop-index.names.items in
    let wanted : c.args.is_wanted ≡ true = search rules in
    rw wanted (sym (append-nil names) ∙ ap (λ (left : List (ℕ × Symbol)). names ++ map symbol_name left) (sym c.in-None.ensures.steps.0) ∙ c.loop-index.invariant.names)
