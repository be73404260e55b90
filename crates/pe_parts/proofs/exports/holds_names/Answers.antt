use Rattle.std.proofs.Common.{◌≡◌, ◌∙◌, ◌-◌, ◌+◌, ◌*◌, ℕ, Bool, true, false, sym, ap, arith, inl, inr}
use Rattle.std.specs.Prelude.{◌&&◌}
use Rattle.std.specs.List.{list_all, range_with_len}
use Rattle.std.proofs.lemmas.Bool.{cases_lt}
use Rattle.pe_layout.specs.Image.{number_at, is_inside}
use Rattle.pe_layout.specs.Layout.{headers_of, image_of}
use Rattle.pe_parts.specs.AtHand.{has_text}
use Rattle.pe_parts.proofs.Pieces.{text_in_piece}
use Rattle.pe_parts.proofs.Walks.{range_step, range_end, names_inside, names_outside}
use Rattle.pe_parts.proofs.exports.holds_names.Goals as goal

pub returns-then-not-contains-clause-exact : goal.returns-then-not-contains-clause-exact
returns-then-not-contains-clause-exact c =
    let no : is_inside (image_of c.args.layout.now) c.args.names (4 * c.args.count) ≡ false = rw c.from.ensures at (sym c.contains.ensures.value ∙ c.if-not-contains.true) in
    names_outside (headers_of c.args.layout.now) (image_of c.args.layout.now) c.args.names c.args.count no

pub loop-index-init : goal.loop-index-init
loop-index-init c =
    let p = headers_of c.args.layout.now in
    let i = image_of c.args.layout.now in
    let all : c.args.count ≡ c.args.count - 0 = omega arith in
    record {
      texts = λ k lt. absurd (omega (arith, lt));
      piece = λ k low high. absurd (omega (arith, high));
      same = ap (λ n. list_all (λ k. has_text p (number_at 4 i (c.args.names + 4 * k))) (range_with_len 0 n)) all;
    }

pub loop-index-preserved : goal.loop-index-preserved
loop-index-preserved c =
    let p = headers_of c.args.layout.now in
    let i = image_of c.args.layout.now in
    let index = c.loop-index.index in
    let test : ℕ → Bool = λ k. has_text p (number_at 4 i (c.args.names + 4 * k)) in
    let piece = c.piece_at-piece.result in
    let in_it = sym c.covers.ensures ∙ c.if-not-covers.false in
    let there : test index ≡ true = rw c.field-name.ensures at (sym c.piece_at-piece.ensures.exact ∙ in_it) in
    record {
      texts = λ k lt. elim (cases_lt k index) [
        | inl below ↦ c.loop-index.invariant.texts k below
        | inr above ↦
            let same : k ≡ index = omega (arith, lt, above) in
            rw same (rw c.field-name.ensures at (text_in_piece p piece.start piece.end c.field-name.result c.piece_at-piece.ensures.all in_it))
      ];
      piece = c.piece_at-piece.ensures.all;
      same = c.loop-index.invariant.same ∙ range_step test index c.args.count c.loop-index-test.true ∙ ap (λ b. b && list_all test (range_with_len (index + 1) (c.args.count - (index + 1)))) there;
    }

pub returns-then-not-covers-clause-exact : goal.returns-then-not-covers-clause-exact
returns-then-not-covers-clause-exact c =
    let p = headers_of c.args.layout.now in
    let i = image_of c.args.layout.now in
    let index = c.loop-index.index in
    let test : ℕ → Bool = λ k. has_text p (number_at 4 i (c.args.names + 4 * k)) in
    let gone : test index ≡ false = rw c.field-name.ensures at (sym c.piece_at-piece.ensures.exact ∙ sym c.covers.ensures ∙ c.if-not-covers.true) in
    let inside : is_inside i c.args.names (4 * c.args.count) ≡ true = rw c.from.ensures at (sym c.contains.ensures.value ∙ c.if-not-contains.false) in
    sym (names_inside p i c.args.names c.args.count inside ∙ c.loop-index.invariant.same ∙ range_step test index c.args.count c.loop-index-test.true
    ∙ ap (λ b. b && list_all test (range_with_len (index + 1) (c.args.count - (index + 1)))) gone)

pub returns-clause-texts : goal.returns-clause-texts
returns-clause-texts c = λ yes k lt. c.loop-index.invariant.texts k (omega (arith, lt, c.loop-index-test.false))

pub returns-clause-exact : goal.returns-clause-exact
returns-clause-exact c =
    let p = headers_of c.args.layout.now in
    let i = image_of c.args.layout.now in
    let inside : is_inside i c.args.names (4 * c.args.count) ≡ true = rw c.from.ensures at (sym c.contains.ensures.value ∙ c.if-not-contains.false) in
    sym (names_inside p i c.args.names c.args.count inside ∙ c.loop-index.invariant.same
    ∙ range_end (λ k. has_text p (number_at 4 i (c.args.names + 4 * k))) c.loop-index.index c.args.count c.loop-index-test.false)
