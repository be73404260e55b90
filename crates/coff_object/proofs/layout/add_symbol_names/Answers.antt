-- All names are added, and each keeps its offset.
use Rattle.std.proofs.Common.{◌≡◌, ◌∙◌, List, ℕ, ◌∷◌, [], refl, sym, ap}
use Rattle.std.specs.Prelude.{filter, map}
use Rattle.coff_read.specs.Names.{is_long}
use Rattle.coff_object.specs.NamePlaces.{place_of}
use Rattle.coff_read.specs.Records as format
use Rattle.coff_object.specs.StringTableWords.{texts_in}
use Rattle.coff_read.specs.Strings.{with_strings}
use Rattle.coff_object.proofs.NamePlaces.{next_texts, next_place, all_placed, as_viewed}
use Rattle.coff_object.proofs.Sizes.{all_named, symbol_names}
use Rattle.coff_object.proofs.layout.add_symbol_names.Goals as goal

pub loop-symbol-preserved : goal.loop-symbol-preserved
loop-symbol-preserved g c =
    let x = c.symbol-item.result in
    let is : c.wide.result.name.now ≡ (g.S.WideSymbol.view x).name = ap (λ (y : format.Symbol). y.name) c.wide.ensures in
    let texts = c.in_ok-place.ensures.texts ∙ ap (λ (n : List ℕ). with_strings (texts_in c.loop-symbol.strings) (filter is_long (n ∷ []))) is in
    let place = c.in_ok-place.ensures.place ∙ ap (place_of is_long (texts_in c.add_symbol_name.new.strings)) is in
    record {
      texts = next_texts is_long (λ s. (g.S.WideSymbol.view s).name) (texts_in c.loop-symbol.strings) (texts_in c.add_symbol_name.new.strings) _ c.args.symbols.now c.loop-symbol.symbol-index x c.loop-symbol-test.true c.symbol-item.is c.loop-symbol.invariant.texts texts;
      places = next_place is_long (λ s. (g.S.WideSymbol.view s).name) (texts_in c.args.strings.now) (texts_in c.loop-symbol.strings) (texts_in c.add_symbol_name.new.strings) c.args.symbols.now c.loop-symbol.symbol-index x
          c.loop-symbol.places.items c.push.new.self.items c.in_ok-place.place c.loop-symbol-test.true c.symbol-item.is c.loop-symbol.invariant.texts texts place c.in_ok-push.ensures.items c.loop-symbol.invariant.places;
    }

pub returns-clause-texts : goal.returns-clause-texts
returns-clause-texts g c =
    all_named is_long (λ s. (g.S.WideSymbol.view s).name) (texts_in c.loop-symbol.strings) _ c.args.symbols.now c.loop-symbol.symbol-index c.loop-symbol-test.false c.loop-symbol.invariant.texts
    ∙ ap (λ (ns : List (List ℕ)). with_strings (texts_in c.args.strings.now) (filter is_long ns)) (symbol_names g.S.WideSymbol.view c.args.symbols.now)

pub returns-clause-places : goal.returns-clause-places
returns-clause-places g c =
    let whole : List (List ℕ) = with_strings (texts_in c.args.strings.now) (filter is_long (map (λ s. (g.S.WideSymbol.view s).name) c.args.symbols.now)) in
    let texts : texts_in c.loop-symbol.strings ≡ whole = all_named is_long (λ s. (g.S.WideSymbol.view s).name) (texts_in c.loop-symbol.strings) _ c.args.symbols.now c.loop-symbol.symbol-index c.loop-symbol-test.false c.loop-symbol.invariant.texts in
    all_placed (λ s. place_of is_long whole (g.S.WideSymbol.view s).name) c.args.symbols.now c.loop-symbol.symbol-index c.loop-symbol.places.items c.loop-symbol-test.false c.loop-symbol.invariant.places
    ∙ as_viewed g.S.WideSymbol.view (λ s. place_of is_long whole (g.S.WideSymbol.view s).name) (λ (s : format.Symbol). place_of is_long whole s.name) c.args.symbols.now (λ s. refl)
    ∙ ap (λ (ts : List (List ℕ)). map (λ (s : format.Symbol). place_of is_long ts s.name) (map g.S.WideSymbol.view c.args.symbols.now)) (sym texts)
