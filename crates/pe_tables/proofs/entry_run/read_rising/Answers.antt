-- The field begins after all others, and the block is clear of slots.
use Rattle.std.proofs.Common.{◌≡◌, ◌∙◌, ℕ, ◌+◌, ◌≤◌, ◌/◌, List, [], ◌∷◌, subst, arith, sym, ap}
use Rattle.std.specs.Prelude.{option_to_list}
use Rattle.pe_layout.specs.Layout.{image_of}
use Rattle.pe_ranges.specs.RangesView.{ranges_in}
use Rattle.pe_tables.specs.Fixups.{Entry, entry_of, width_of}
use Rattle.pe_tables.specs.Encoded.{type_of}
use Rattle.pe_tables.specs.FixupReading.{Reads}
use Rattle.pe_tables.specs.declared.fixups.Fixup.{Fixup}
use Rattle.pe_tables.specs.declared.fixups.FixupKind.{FixupKind}
use Rattle.pe_tables.proofs.RisingFields.{behind-apart, ends-later}
use Rattle.pe_tables.proofs.PlainEntries.{none_stands, its_fixup, width_few}
use Rattle.pe_tables.proofs.entry_run.read_rising.Goals as goal

pub returns-clause-read : goal.returns-clause-read
returns-clause-read g c = λ read.
    let i = image_of c.args._layout.now in
    let e : Entry = entry_of i c.args.page c.args.rva in
    let run = c.args.run.now in
    let kind : FixupKind = run.kind in
    let found = c.args.found.now in
    let before : List Fixup = found.fixups.items in
    let value = c.requires.value in
    let is : e.kind ≡ type_of kind = ap (λ (n : ℕ). n / 4096) (sym value) ∙ c.if-entry-run.false ∙ c.requires.run.entry_type in
    let page = c.from.ensures in
    let offset = c.from-2.ensures in
    let at : c.from.result + c.from-2.result ≡ e.field = omega (arith, page, offset, value) in
    let width = c.requires.run.width in
    let size = c.requires.run.size in
    let le = c.if-end-from.false in
    let after = c.if-field-found.false in
    let behind : found.end ≤ e.field = omega (arith, at, after) in
    let clear = c.requires.clear e.field (width_of kind) (omega arith) (omega arith) (width_few kind) in (
      none_stands e kind is i (ranges_in c.args._slots.now) before (omega (arith, at, width, size, le))
          (behind-apart e.field (width_of kind) before (ends-later found.end e.field before behind c.requires.indexed.ends)) clear,
      subst (λ (fs : List Fixup). Reads found c.add_behind.new.self fs)
          (ap (λ (field : ℕ). record { entry = c.args.rva; field = field; kind = kind } ∷ []) at ∙ sym (ap option_to_list (its_fixup e kind is))) c.in_ok-add_behind.ensures.reads,
    )
