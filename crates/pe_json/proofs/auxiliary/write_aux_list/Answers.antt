use Rattle.std.proofs.Common.{arith}
use Rattle.json.specs.Print.{escape_byte}
use Rattle.coff_read.specs.BigView.{big_symbol_view}
use Rattle.coff_read.specs.FormRecords.{aux_records}
use Rattle.pe_text.proofs.Adding.{◌then◌}
use Rattle.pe_json.specs.JsonText.{member, list}
use Rattle.pe_json.specs.Listed.{more}
use Rattle.pe_json.proofs.Objects.{adds_none, ended}
use Rattle.pe_json.proofs.RowByRow.{no_records, some_records}
use Rattle.pe_json.proofs.auxiliary.write_aux_list.Goals as goal

pub returns-then-aux_count-eq0 : goal.returns-then-aux_count-eq0
returns-then-aux_count-eq0 g c =
    let big = c.args.is_big in
    let s = big_symbol_view c.args.symbol.now in
    let count = c.aux_count.ensures in
    let none = c.if-aux_count-eq0.true in
    rw (no_records big (aux_records big s) c.args.index s (omega (arith, count, none))) (adds_none c.requires.ready)

pub returns : goal.returns
unfolding more member list escape_byte
returns g c =
    let big = c.args.is_big in
    let s = big_symbol_view c.args.symbol.now in
    let count = c.aux_count.ensures in
    let some = c.if-aux_count-eq0.false in
    rw (some_records big (aux_records big s) c.args.index s (λ e. omega (arith, count, some, e))) (ended (c.text.ensures then (c.write_rows.ensures then c.text-2.ensures)))
