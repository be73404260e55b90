-- The tables after the header and at PointerToSymbolTable.
use denote.Param.{number}
use Rattle.std.proofs.Common.{◌≡◌, ◌∙◌, ℕ, ◌+◌, ◌*◌, ◌≤◌, length, sym, ap, arith}
use Rattle.pe_view.specs.View.{bytes_of}
use Rattle.coff_read.specs.Field.{field}
use Rattle.coff_read.specs.FormReading.{symbol_pointer}
use Rattle.coff_read.specs.Forms.{header_len, optional_size, section_count, records_at, symbol_len}
use Rattle.coff_read.specs.contracts.tables.read_tables.{BIG-type}
use Rattle.coff_read.proofs.TablesThere.{table_inside, records_are, strings_are, size_is, no_fault, texts_are}
use Rattle.coff_read.proofs.tables.read_tables.Goals as goal

pub returns : goal.returns
returns g c =
    let big = BIG-type (number g.row.BIG) in
    let file = bytes_of c.args.view in
    let symbols : ℕ = c.from-symbols.result in
    let records : ℕ = c.from-records.result in
    let strings : ℕ = symbols + c.symbol_len.result * records in
    let size : ℕ = c.in_ok-strings_size.strings_size in
    let pointer : symbol_pointer big file ≡ symbols = sym (c.from-symbols.ensures ∙ c.u32_in.ensures ∙ ap (λ (at : ℕ). field file 0 at 4) c.symbols_at-at.ensures.value) in
    let count : field file 0 (records_at big) 4 ≡ records = ap (λ (at : ℕ). field file 0 at 4) c.symbols_at-at.ensures.next ∙ sym (c.from-records.ensures ∙ c.u32_in-2.ensures) in
    let start : strings ≡ symbols + symbol_len big * records = ap (λ (len : ℕ). symbols + len * records) c.symbol_len.ensures.value in
    let sized = c.in_ok-strings_size.ensures.1 in
    let some = c.if-symbols-eq0.false in
    let inside = c.if-strings-len.false in
    let headers : c.header_len.result ≡ header_len big = c.header_len.ensures.value in
    let optional : c.optional_size.result ≡ optional_size big file = c.optional_size.ensures.value in
    let sections : c.section_count-sections.result ≡ section_count big file = c.section_count-sections.ensures.value in
    let len : c.len.result ≡ length file = c.len.ensures in
    let fits : header_len big + optional_size big file + 40 * section_count big file ≤ length file = c.requires.fits in
    let records_is = records_are big file symbols records strings size pointer some count start sized in
    let strings_is = strings_are big file symbols records strings size pointer some count start sized in
    let within : strings ≤ length file = omega (arith, inside, len) in
    let whole = table_inside file strings within c.in_ok-strings_size.ensures.0 in (
      no_fault big file symbols records strings size pointer some count start sized within c.in_ok-strings_size.ensures.0,
      record {
        headers = omega (arith, headers, optional);
        sections = sections;
        headers_inside = omega (arith, headers, optional, sections, fits);
        symbols = sym pointer;
        records = records_is;
        symbols_inside = omega (arith, start, within);
        strings = strings_is;
        strings_size = size_is big file symbols records strings size pointer some count start sized;
        strings_inside = omega (arith, sized, whole);
        texts = texts_are big file symbols records strings size pointer some count start sized c.texts_len.result c.texts_len.ensures;
        small = c.requires.small;
      },
    )
