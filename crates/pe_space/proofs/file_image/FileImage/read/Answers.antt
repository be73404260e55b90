use Rattle.std.proofs.Common.{arith, ◌≡◌, ◌+◌, ◌≤◌, ◌-◌, ◌∙◌, ap, sym, subst, ℕ, List, ◌∷◌, length, drop, get_or, Bool, true, false}
use Rattle.std.specs.Prelude.{IsTrue}
use Rattle.std.specs.Bool.{OnTrue}
use Rattle.std.proofs.lemmas.List.{at_drop_more, drop_all}
use Rattle.std.proofs.lemmas.List.Elements.{Contains-get_or}
use Rattle.pe_layout.specs.Layout.{image_of}
use Rattle.pe_tables.specs.declared.fixups.Fixup.{Fixup}
use Rattle.pe_tables.specs.declared.fixups.FixupKind.TheVariants.{Bits32}
use Rattle.pe_space.specs.Number.{digit}
use Rattle.pe_space.specs.Content.{SpaceImage, in_field, width_of}
use Rattle.pe_space.specs.Windows.{laid_on, fixed_at, fixed_bytes}
use Rattle.pe_space.proofs.Lists.{each_contains}
use Rattle.pe_space.proofs.Covering.{field_at, fields_still, field_width_small}
use Rattle.pe_space.proofs.SlotsAndFields.{is_in-true}
use Rattle.pe_space.proofs.Windows.{Still, still_more, still_none, length-laid_on}
use Rattle.pe_space.proofs.file_image.FileImage.read.Goals as goal

no_fixup : Fixup
no_fixup = record { entry = 0; field = 0; kind = Bits32 }

-- if a test is true, the fact that it implies holds
given : (b : Bool) (P : Type 0) → IsTrue b → OnTrue b P → P
given true P t h = h
given false P t h = cc

pub loop-fixup-init : goal.loop-fixup-init
loop-fixup-init g c =
    let size : (image_of c.self.inside.layout).size ≡ c.args.self.now.size = ap (λ (m : SpaceImage). m.size) c.self.view_is in
    record {
      len = c.fill.auto.buffer;
      still =
          fields_still c.args.self.now (image_of c.self.inside.layout) c.fixups_in-fixup-items.result.now c.args.start (length c.args.window.now) c.fill.new.buffer
          (given c.fill.result _ (c.fill.ensures.fits.1 (omega (arith, size, c.requires.inside))) c.fill.ensures.filled)
          (sym (ap (λ (m : SpaceImage). m.plain) c.self.view_is))
          (omega (arith, size, c.requires.inside))
          (λ f listed low high. c.fixups_in-fixup-items.ensures.all f listed low (omega (arith, high, c.from.ensures, c.fill.auto.buffer)));
    }

pub relocated-value-requires : goal.relocated-value-requires
unfolding no_fixup
relocated-value-requires g c =
    each_contains (λ (f : Fixup). f.field + width_of f.kind ≤ c.args.self.now.size) c.args.self.now.fixups _ c.requires.sound.inside
    (c.fixups_in-fixup-items.ensures.held _ (Contains-get_or c.fixups_in-fixup-items.result.now c.loop-fixup.fixup-index no_fixup c.loop-fixup-test.true))

pub lay_on-requires : goal.lay_on-requires
unfolding no_fixup
lay_on-requires g c = omega (arith, c.width.ensures, field_width_small (get_or c.fixups_in-fixup-items.result.now c.loop-fixup.fixup-index no_fixup).kind)

pub loop-fixup-preserved : goal.loop-fixup-preserved
unfolding no_fixup
loop-fixup-preserved g c =
    let fields = c.fixups_in-fixup-items.result.now in
    let i = c.loop-fixup.fixup-index in
    let f = get_or fields i no_fixup in
    let listed = c.fixups_in-fixup-items.ensures.held f (Contains-get_or fields i no_fixup c.loop-fixup-test.true) in
    let laid : c.lay_on.new.window ≡ laid_on c.args.start f.field (width_of f.kind) c.relocated-value.result c.loop-fixup.window =
    c.lay_on.ensures ∙ ap (λ (w : ℕ). laid_on c.args.start f.field w c.relocated-value.result c.loop-fixup.window) c.width.ensures in
    let left : Still (fixed_at c.args.self.now) in_field c.args.start (f ∷ drop (i + 1) fields) c.loop-fixup.window =
    subst (λ (fs : List Fixup). Still (fixed_at c.args.self.now) in_field c.args.start fs c.loop-fixup.window) (at_drop_more (λ (fs : List Fixup). fs) fields i no_fixup c.loop-fixup-test.true) c.loop-fixup.invariant.still in
    record {
      len = ap length laid ∙ length-laid_on c.args.start f.field (width_of f.kind) c.relocated-value.result c.loop-fixup.window ∙ c.loop-fixup.invariant.len;
      still =
          subst (Still (fixed_at c.args.self.now) in_field c.args.start (drop (i + 1) fields)) (sym laid)
          (still_more (fixed_at c.args.self.now) in_field c.args.start f.field (width_of f.kind) c.relocated-value.result f (drop (i + 1) fields) c.loop-fixup.window
          (λ r covers. is_in-true f.field (width_of f.kind) r covers)
          (λ r low high. field_at c.args.self.now f r c.requires.sound listed low high ∙ ap (λ (v : ℕ). digit v (r - f.field)) (sym c.relocated-value.ensures))
          left);
    }

pub returns : goal.returns
unfolding fixed_bytes
returns g c =
    still_none (fixed_at c.args.self.now) in_field c.args.start (length c.args.window.now) (drop c.loop-fixup.fixup-index c.fixups_in-fixup-items.result.now) c.loop-fixup.window
    (drop_all c.loop-fixup.fixup-index c.fixups_in-fixup-items.result.now c.loop-fixup-test.false) c.loop-fixup.invariant.len c.loop-fixup.invariant.still
