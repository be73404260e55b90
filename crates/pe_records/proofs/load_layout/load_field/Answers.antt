use Rattle.std.proofs.Common.{◌<◌, ◌≤◌, sym, arith}
use Rattle.std.proofs.lemmas.Option.{slice_get-get_or, slice_get_past}
use Rattle.pe_records.specs.LoadFields.{load_fields}
use Rattle.pe_records.proofs.load_layout.load_field.Goals as goal

pub returns-then-index-ge-LOAD_FIELD_COUNT : goal.returns-then-index-ge-LOAD_FIELD_COUNT
returns-then-index-ge-LOAD_FIELD_COUNT c =
    let past = c.if-index-ge-LOAD_FIELD_COUNT.true in
    sym (slice_get_past load_fields c.args.index (let le : 52 ≤ c.args.index = omega (arith, past) in le))

pub returns : goal.returns
returns c =
    let under = c.if-index-ge-LOAD_FIELD_COUNT.false in
    sym (slice_get-get_or load_fields c.args.index _ (let lt : c.args.index < 52 = omega (arith, under) in lt))
