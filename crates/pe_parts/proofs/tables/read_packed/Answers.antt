use Rattle.std.proofs.Common.{◌≡◌, ◌∙◌, sym, ap, ap₂, subst, true, false, length}
use Rattle.std.specs.Prelude.{is_some, is_none, Option}
use Rattle.pe_view.specs.Faults.{first_standing}
use Rattle.pe_view.specs.declared.fault.Fault.{Fault}
use Rattle.pe_layout.specs.Image.{LaidOut, image_from}
use Rattle.pe_layout.specs.Layout.{headers_of, image_of, can_lay_out}
use Rattle.pe_image.specs.ImageTests.{table_tests}
use Rattle.pe_image.specs.Wants.{TablesTakeMemory}
use Rattle.pe_parts.specs.AtHand.{tables_at_hand}
use Rattle.pe_parts.proofs.Packed.{contents_laid_out}
use Rattle.pe_parts.proofs.Decides.{faulty, absent, decided, none_stands, some_stands, on_err}
use Rattle.pe_parts.proofs.tables.read_packed.Goals as goal

pub returns-in_err-tables-clause-memory : goal.returns-in_err-tables-clause-memory
returns-in_err-tables-clause-memory g c =
    let layout = c.in-Some.layout in
    let lay : can_lay_out c.args.number c.args.headers.now (length c.args.packed.now) ≡ true =
    rw c.new.ensures at (sym c.of_parts.ensures.placed ∙ ap is_some c.in-Some.is) in
    let shows : image_of layout ≡ image_from c.args.number c.args.headers.now c.args.packed.now = c.in-Some.ensures.shows ∙ ap (image_from c.args.number c.args.headers.now) c.new.ensures in
    let both : (can_lay_out c.args.number c.args.headers.now (length c.args.packed.now) ≡ true) × TablesTakeMemory (image_from c.args.number c.args.headers.now c.args.packed.now) = (
      lay,
      subst TablesTakeMemory shows c.in_err-tables.ensures.memory,
    ) in
    on_err c.from_residual.result both

pub returns-then-is_some-clause-some : goal.returns-then-is_some-clause-some
returns-then-is_some-clause-some g c =
    let layout = c.in-Some.layout in
    let shows : image_of layout ≡ image_from c.args.number c.args.headers.now c.args.packed.now = c.in-Some.ensures.shows ∙ ap (image_from c.args.number c.args.headers.now) c.new.ensures in
    let fault : is_none (first_standing (table_tests (image_of layout))) ≡ false =
    sym (ap (λ (o : Option Fault). is_none o) c.in_ok-tables.ensures.tables.fault) ∙ some_stands c.in_ok-tables.tables.fault (sym c.is_some.ensures ∙ c.if-is_some.true) in
    sym (faulty c.args.number c.args.headers.now c.args.packed.now (subst (λ (i : LaidOut). is_none (first_standing (table_tests i)) ≡ false) shows fault))

pub returns-then-not-holds_tables-clause-some : goal.returns-then-not-holds_tables-clause-some
returns-then-not-holds_tables-clause-some g c =
    let layout = c.in-Some.layout in
    let shows : image_of layout ≡ image_from c.args.number c.args.headers.now c.args.packed.now = c.in-Some.ensures.shows ∙ ap (image_from c.args.number c.args.headers.now) c.new.ensures in
    let no : tables_at_hand c.args.headers.now (image_from c.args.number c.args.headers.now c.args.packed.now) ≡ false =
    sym (ap₂ tables_at_hand c.in-Some.ensures.headers shows) ∙ sym c.holds_tables.ensures.exact ∙ c.if-not-holds_tables.true in
    sym (absent c.args.number c.args.headers.now c.args.packed.now no)

pub returns-clause-contents : goal.returns-clause-contents
returns-clause-contents g c =
    let layout = c.in-Some.layout in
    contents_laid_out c.args.number c.args.packed.now c.args.headers.now (headers_of layout) (image_of layout) c.whole.result
    c.in-Some.ensures.headers (c.in-Some.ensures.shows ∙ ap (image_from c.args.number c.args.headers.now) c.new.ensures)
    (c.whole.ensures.contents (image_of layout) c.in_ok-tables.ensures.tables) (c.holds_tables.ensures.have c.if-not-holds_tables.false)

pub returns-clause-some : goal.returns-clause-some
returns-clause-some g c =
    let layout = c.in-Some.layout in
    let shows : image_of layout ≡ image_from c.args.number c.args.headers.now c.args.packed.now = c.in-Some.ensures.shows ∙ ap (image_from c.args.number c.args.headers.now) c.new.ensures in
    let lay : can_lay_out c.args.number c.args.headers.now (length c.args.packed.now) ≡ true =
    rw c.new.ensures at (sym c.of_parts.ensures.placed ∙ ap is_some c.in-Some.is) in
    let sound : is_none (first_standing (table_tests (image_of layout))) ≡ true =
    sym (ap (λ (o : Option Fault). is_none o) c.in_ok-tables.ensures.tables.fault) ∙ none_stands c.in_ok-tables.tables.fault (sym c.is_some.ensures ∙ c.if-is_some.false) in
    let hand : tables_at_hand c.args.headers.now (image_from c.args.number c.args.headers.now c.args.packed.now) ≡ true =
    sym (ap₂ tables_at_hand c.in-Some.ensures.headers shows) ∙ sym c.holds_tables.ensures.exact ∙ c.if-not-holds_tables.false in
    c.whole.ensures.some (image_of layout) c.in_ok-tables.ensures.tables ∙ sound
    ∙ sym (decided c.args.number c.args.headers.now c.args.packed.now lay (subst (λ (i : LaidOut). is_none (first_standing (table_tests i)) ≡ true) shows sound) hand)
