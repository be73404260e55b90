use Rattle.std.proofs.Common.{◌<◌, ◌≤◌, sym, arith}
use Rattle.std.proofs.lemmas.Option.{slice_get-get_or, slice_get_past}
use Rattle.pe_records.specs.ClrHeader.{clr_fields}
use Rattle.pe_records.proofs.clr_fields.clr_field.Goals as goal

pub returns-then-index-ge-CLR_FIELD_COUNT : goal.returns-then-index-ge-CLR_FIELD_COUNT
returns-then-index-ge-CLR_FIELD_COUNT c =
    let past = c.if-index-ge-CLR_FIELD_COUNT.true in
    sym (slice_get_past clr_fields c.args.index (let le : 19 ≤ c.args.index = omega (arith, past) in le))

pub returns : goal.returns
returns c =
    let under = c.if-index-ge-CLR_FIELD_COUNT.false in
    sym (slice_get-get_or clr_fields c.args.index _ (let lt : c.args.index < 19 = omega (arith, under) in lt))
