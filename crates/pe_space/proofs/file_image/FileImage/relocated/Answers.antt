use Rattle.std.proofs.Common.{◌+◌, ◌≤◌, ◌∙◌, ap, sym, subst}
use Rattle.std.specs.Prelude.{pos, ◌-ℤ◌}
use Rattle.pe_layout.specs.Layout.{image_of}
use Rattle.pe_tables.specs.declared.fixups.FixupKind.TheVariants.{Bits32, Bits64, High, Low}
use Rattle.pe_space.specs.Content.{SpaceImage, width_of}
use Rattle.pe_space.specs.Number.{number_in, shift}
use Rattle.pe_space.proofs.Relocating.{value_of_some, relocated_is}
use Rattle.pe_space.proofs.file_image.FileImage.relocated.Goals as goal

pub returns-in-Bits32 : goal.returns-in-Bits32
returns-in-Bits32 g c =
    let f = c.args.fixup in
    let inside = subst (λ (m : SpaceImage). f.field + width_of f.kind ≤ m.size) (sym c.self.view_is) c.requires in
    let read = value_of_some c.u32_at.result _ _ c.unwrap-number.result c.u32_at.ensures c.unwrap-number.ensures in
    relocated_is (image_of c.self.inside.layout) f Bits32 c.self.inside.base c.image_base-from.result c.unwrap-number.result _ c.in-Bits32.is read inside c.image_base-from.ensures (c.from.ensures ∙ c.shift_32.ensures)
    ∙ ap (λ (m : SpaceImage). shift f.kind (number_in m.plain f.field (width_of f.kind)) (pos m.base -ℤ pos m.image_base)) c.self.view_is

pub returns-in-Bits64 : goal.returns-in-Bits64
returns-in-Bits64 g c =
    let f = c.args.fixup in
    let inside = subst (λ (m : SpaceImage). f.field + width_of f.kind ≤ m.size) (sym c.self.view_is) c.requires in
    let read = value_of_some c.u64_at.result _ _ c.unwrap.result c.u64_at.ensures c.unwrap.ensures in
    relocated_is (image_of c.self.inside.layout) f Bits64 c.self.inside.base c.image_base-from.result c.unwrap.result _ c.in-Bits64.is read inside c.image_base-from.ensures (c.shift_64.ensures)
    ∙ ap (λ (m : SpaceImage). shift f.kind (number_in m.plain f.field (width_of f.kind)) (pos m.base -ℤ pos m.image_base)) c.self.view_is

pub returns-in-High : goal.returns-in-High
returns-in-High g c =
    let f = c.args.fixup in
    let inside = subst (λ (m : SpaceImage). f.field + width_of f.kind ≤ m.size) (sym c.self.view_is) c.requires in
    let read = value_of_some c.u16_at.result _ _ c.unwrap-number-in-High.result c.u16_at.ensures c.unwrap-number-in-High.ensures in
    relocated_is (image_of c.self.inside.layout) f High c.self.inside.base c.image_base-from.result c.unwrap-number-in-High.result _ c.in-High.is read inside c.image_base-from.ensures (c.from-in-High.ensures ∙ c.shift_high.ensures)
    ∙ ap (λ (m : SpaceImage). shift f.kind (number_in m.plain f.field (width_of f.kind)) (pos m.base -ℤ pos m.image_base)) c.self.view_is

pub returns-in-Low : goal.returns-in-Low
returns-in-Low g c =
    let f = c.args.fixup in
    let inside = subst (λ (m : SpaceImage). f.field + width_of f.kind ≤ m.size) (sym c.self.view_is) c.requires in
    let read = value_of_some c.u16_at-in-Low.result _ _ c.unwrap-number-in-Low.result c.u16_at-in-Low.ensures c.unwrap-number-in-Low.ensures in
    relocated_is (image_of c.self.inside.layout) f Low c.self.inside.base c.image_base-from.result c.unwrap-number-in-Low.result _ c.in-Low.is read inside c.image_base-from.ensures (c.from-in-Low.ensures ∙ c.shift_low.ensures)
    ∙ ap (λ (m : SpaceImage). shift f.kind (number_in m.plain f.field (width_of f.kind)) (pos m.base -ℤ pos m.image_base)) c.self.view_is
