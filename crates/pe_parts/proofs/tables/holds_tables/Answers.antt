use Rattle.std.proofs.Common.{◌≡◌, ◌∙◌, true, false, refl, sym}
use Rattle.pe_layout.specs.Layout.{headers_of, image_of}
use Rattle.pe_parts.specs.AtHand.{has_exports, has_imports, tables_at_hand}
use Rattle.pe_parts.proofs.tables.holds_tables.Goals as goal

pub returns-then-not-holds_exports-clause-exact : goal.returns-then-not-holds_exports-clause-exact
unfolding tables_at_hand
returns-then-not-holds_exports-clause-exact c =
    let p = headers_of c.args.layout.now in
    let i = image_of c.args.layout.now in
    let exports : has_exports p i (i.directory 0) ≡ false = sym c.holds_exports.ensures.exact ∙ c.if-not-holds_exports.true in
    rw exports refl

pub returns-then-not-holds_imports-clause-exact : goal.returns-then-not-holds_imports-clause-exact
unfolding tables_at_hand
returns-then-not-holds_imports-clause-exact c =
    let p = headers_of c.args.layout.now in
    let i = image_of c.args.layout.now in
    let exports : has_exports p i (i.directory 0) ≡ true = sym c.holds_exports.ensures.exact ∙ c.if-not-holds_exports.false in
    let imports : has_imports p i (i.directory 1) ≡ false = sym c.holds_imports.ensures.exact ∙ c.if-not-holds_imports.true in
    rw (exports, imports) refl

pub returns-clause-have : goal.returns-clause-have
returns-clause-have c = λ yes b t agree. record {
  exports = c.holds_exports.ensures.has c.if-not-holds_exports.false b t agree;
  imports = c.holds_imports.ensures.have c.if-not-holds_imports.false b t agree;
  fixups = c.holds_fixups.ensures.has yes b t agree;
}

pub returns-clause-exact : goal.returns-clause-exact
unfolding tables_at_hand
returns-clause-exact c =
    let p = headers_of c.args.layout.now in
    let i = image_of c.args.layout.now in
    let exports : has_exports p i (i.directory 0) ≡ true = sym c.holds_exports.ensures.exact ∙ c.if-not-holds_exports.false in
    let imports : has_imports p i (i.directory 1) ≡ true = sym c.holds_imports.ensures.exact ∙ c.if-not-holds_imports.false in
    rw (exports, imports) c.holds_fixups.ensures.exact
