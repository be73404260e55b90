-- The entries before the one that is reached have other names.
use Rattle.std.proofs.Common.{◌≡◌, ◌∙◌, ◌+◌, ◌-◌, ℕ, Bool, true, false, cond, Some, ap, sym, arith}
use Rattle.std.specs.Prelude.{map, find}
use Rattle.std.specs.List.{range_with_len}
use Rattle.pe_layout.specs.Layout.{image_of}
use Rattle.pe_resources.specs.declared.entry.Entry.{Entry}
use Rattle.pe_resources.specs.Section.{entry_at}
use Rattle.pe_resources.specs.Texts.{is_named}
use Rattle.pe_resources.proofs.Rows.{left_next}
use Rattle.pe_resources.proofs.directory.Directory.by_name.Goals as goal

pub loop-index-preserved : goal.loop-index-preserved
loop-index-preserved c =
    let d = c.args.self in
    let i = image_of d.section.layout.now in
    let f : ℕ → Entry = entry_at i d.section.start d.offset in
    let p : Entry → Bool = is_named i d.section.start c.args.name.now in
    let k : ℕ = c.loop-index.index in
    let under = c.loop-index-test.true in
    let fails : p (f k) ≡ false = ap p (sym c.entry-entry.ensures) ∙ sym c.is_named.ensures ∙ c.if-is_named.false in
    c.loop-index.invariant ∙ left_next p f d.count k (omega (arith, under))
    ∙ ap (λ (b : Bool). cond b (Some (f k)) (find p (map f (range_with_len (k + 1) (d.count - (k + 1)))))) fails

pub returns-then-is_named : goal.returns-then-is_named
returns-then-is_named c =
    let d = c.args.self in
    let i = image_of d.section.layout.now in
    let f : ℕ → Entry = entry_at i d.section.start d.offset in
    let p : Entry → Bool = is_named i d.section.start c.args.name.now in
    let k : ℕ = c.loop-index.index in
    let under = c.loop-index-test.true in
    let holds : p (f k) ≡ true = ap p (sym c.entry-entry.ensures) ∙ sym c.is_named.ensures ∙ c.if-is_named.true in
    ap Some c.entry-entry.ensures
    ∙ sym (c.loop-index.invariant ∙ left_next p f d.count k (omega (arith, under))
    ∙ ap (λ (b : Bool). cond b (Some (f k)) (find p (map f (range_with_len (k + 1) (d.count - (k + 1)))))) holds)
