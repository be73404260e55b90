use Rattle.std.proofs.Common.{◌∙◌, length, ap, arith, sym, refl}
use Rattle.std.specs.Str.{chars}
use Rattle.pe_page.specs.Name.{whole_columns}
use Rattle.pe_page.proofs.Names.{bare_is_plain, bare_chars, plain_has_few_chars}
use Rattle.pe_page.proofs.name.whole_width.Goals as goal

pub returns-then-is_bare-clause-value : goal.returns-then-is_bare-clause-value
unfolding whole_columns
returns-then-is_bare-clause-value c =
    let name = c.args.name.now in
    let bare = sym c.is_bare.ensures ∙ c.if-is_bare.true in
    rw (bare_is_plain name bare, bare_chars name bare) refl

pub returns-in-Some-clause-value : goal.returns-in-Some-clause-value
unfolding whole_columns
returns-in-Some-clause-value c = rw (c.in-Some.ensures.some.1, ← c.in-Some.ensures.some.0) c.text_width.ensures

pub returns-in-Some-clause-bound : goal.returns-in-Some-clause-bound
returns-in-Some-clause-bound c =
    let same = ap (λ text. length (chars text)) c.in-Some.ensures.some.0 in
    omega (arith, c.text_width.ensures, same, plain_has_few_chars c.args.name.now c.in-Some.ensures.some.1, c.requires)

pub returns-in-None-clause-value : goal.returns-in-None-clause-value
unfolding whole_columns
returns-in-None-clause-value c = rw c.in-None.ensures.none c.quoted_width.ensures.value
