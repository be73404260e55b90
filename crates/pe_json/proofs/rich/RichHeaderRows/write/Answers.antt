use Rattle.std.proofs.Common.{◌≡◌, ◌<◌, ◌∙◌, ℕ, List, [], get_or, refl, sym, ap, arith, Some, None, subst}
use Rattle.std.specs.Prelude.{Option, option_map}
use Rattle.std.specs.Option.{IsSome}
use Rattle.std.proofs.lemmas.Bool.{lt-ltb}
use Rattle.std.proofs.lemmas.List.FromFn.{get_or-map-range_with_len, length-map-range_with_len}
use Rattle.pe_text.specs.TextWriter.{Adds}
use Rattle.pe_trust.specs.Rich.{Pair, pair_at, pair_count}
use Rattle.pe_trust.specs.RichView.{pair_view, rich_view}
use Rattle.pe_trust.specs.declared.rich_words.RichPair.{RichPair}
use Rattle.pe_view.specs.View.{bytes_of}
use Rattle.pe_json.specs.RichRows.{pair_row, pair_rows}
use Rattle.pe_json.proofs.rich.RichHeaderRows.write.Goals as goal

is_there : (pair : Option RichPair) (p : Pair) → option_map pair_view pair ≡ Some p → IsSome pair
is_there None p is = absurd cc
is_there (Some pair) p is = refl

some_is : (p q : Pair) → Some p ≡ Some q → p ≡ q
some_is p q is = cc

pub unwrap-requires : goal.unwrap-requires
unwrap-requires g c =
    let r = rich_view c.args.self.now in
    let count = length-map-range_with_len (λ i. pair_row (pair_at (bytes_of c.args.self.now.file) r i)) 0 (pair_count r) in
    let below : c.args.index < pair_count r = omega (arith, c.requires.inside, count) in
    is_there c.get.result _ (rw (lt-ltb c.args.index (pair_count r) below) at c.get.ensures)

pub returns : goal.returns
returns g c =
    let file = bytes_of c.args.self.now.file in
    let r = rich_view c.args.self.now in
    let count = length-map-range_with_len (λ i. pair_row (pair_at file r i)) 0 (pair_count r) in
    let below : c.args.index < pair_count r = omega (arith, c.requires.inside, count) in
    let is : pair_view c.unwrap.result ≡ pair_at file r c.args.index = some_is _ _ (rw (c.unwrap.ensures, lt-ltb c.args.index (pair_count r) below) at c.get.ensures) in
    let row : pair_row (pair_view c.unwrap.result) ≡ get_or (pair_rows file r) c.args.index [] =
    ap pair_row is ∙ sym (get_or-map-range_with_len (λ i. pair_row (pair_at file r i)) 0 (pair_count r) c.args.index c.args.index [] below (omega arith)) in
    subst (λ (xs : List ℕ). Adds g.W.Sink.taken g.W.Sink.failures c.args.text.now c.write.new.text xs) row c.write.ensures
