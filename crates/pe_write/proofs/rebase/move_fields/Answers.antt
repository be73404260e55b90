use Rattle.std.proofs.Common.{◌≡◌, ◌∙◌, sym, ap, ℕ, ◌+◌, slice_index_or, arith, length, drop}
use Rattle.std.specs.Prelude.{pos, ◌-ℤ◌}
use Rattle.std.proofs.lemmas.Result.{err_from_is_err_and}
use Rattle.pe_tables.specs.Patch.{shifted_at}
use Rattle.pe_tables.specs.declared.fixups.Fixup.{Fixup}
use Rattle.pe_tables.specs.declared.fixups.FixupKind.TheVariants.{Bits32}
use Rattle.pe_write.specs.Rebase.{place_of}
use Rattle.pe_write.specs.Rebase.{moved_all}
use Rattle.pe_write.proofs.FieldSteps.{spot, goes_on, stops, moves_on, ends, moves_end}
use Rattle.pe_write.proofs.rebase.move_fields.Goals as goal

-- the default of a list of fixups
abbrev no_fixup : Fixup
no_fixup = record { entry = 0; field = 0; kind = Bits32 }

pub returns-in_err-section : goal.returns-in_err-section
returns-in_err-section c =
    let h = c.args.headers.now in
    let p = err_from_is_err_and c.from_residual.result c.from_residual.ensures.1 in
    rw (p.1, p.2) (sym c.loop-fixup.invariant.tests ∙ stops h c.loop-fixup.fixup-index c.args.fixups.now no_fixup c.in_err-section.field-0.0 c.loop-fixup-test.true c.in_err-section.ensures)

pub overflow_sub-offset : goal.overflow_sub-offset
overflow_sub-offset c =
    let f : Fixup = slice_index_or c.args.fixups.now c.loop-fixup.fixup-index no_fixup in
    let raw = c.in_ok-section.ensures in
    (spot c.args.headers.now (length c.args.bytes.now) c.requires f c.in_ok-section.section raw.1).low

pub shift_field-requires : goal.shift_field-requires
shift_field-requires c =
    let f : Fixup = slice_index_or c.args.fixups.now c.loop-fixup.fixup-index no_fixup in
    let raw = c.in_ok-section.ensures in
    let fits = (spot c.args.headers.now (length c.args.bytes.now) c.requires f c.in_ok-section.section raw.1).fits in
    let len = c.loop-fixup.auto.bytes in
    omega arith

pub loop-fixup-preserved : goal.loop-fixup-preserved
loop-fixup-preserved c =
    let h = c.args.headers.now in
    let d = pos c.args.base -ℤ pos h.image_base in
    let f : Fixup = slice_index_or c.args.fixups.now c.loop-fixup.fixup-index no_fixup in
    let raw = c.in_ok-section.ensures in
    let s = spot h (length c.args.bytes.now) c.requires f c.in_ok-section.section raw.1 in
    let moved : c.shift_field.new.memory ≡ shifted_at d f.kind (place_of h f) c.loop-fixup.bytes =
    c.shift_field.ensures
    ∙ ap (λ (x : ℕ). shifted_at d f.kind x c.loop-fixup.bytes) (sym s.place) in
    record {
      holder = s.holder;
      tests = sym (goes_on h c.loop-fixup.fixup-index c.args.fixups.now no_fixup c.loop-fixup-test.true raw.0) ∙ c.loop-fixup.invariant.tests;
      bytes =
          ap (moved_all h d (drop (c.loop-fixup.fixup-index + 1) c.args.fixups.now)) moved
          ∙ sym (moves_on h c.loop-fixup.fixup-index c.args.fixups.now no_fixup d c.loop-fixup.bytes c.loop-fixup-test.true)
          ∙ c.loop-fixup.invariant.bytes;
    }

pub returns : goal.returns
returns c =
    let h = c.args.headers.now in
    let d = pos c.args.base -ℤ pos h.image_base in (
      sym c.loop-fixup.invariant.tests ∙ ends h c.loop-fixup.fixup-index c.args.fixups.now c.loop-fixup-test.false,
      sym (moves_end h c.loop-fixup.fixup-index c.args.fixups.now d c.loop-fixup.bytes c.loop-fixup-test.false) ∙ c.loop-fixup.invariant.bytes,
    )
