use Rattle.std.proofs.Common.{◌≡◌, ◌∙◌, false, Some, ap, arith, take, length}
use Rattle.std.specs.Prelude.{nat_lt}
use Rattle.std.proofs.lemmas.Bool.{ne_eqb}
use Rattle.std.proofs.lemmas.Grind.{common_steps}
use Rattle.std.proofs.lemmas.List.FromFn.{take-map-range_with_len}
use Rattle.pe_layout.specs.Layout.{image_of}
use Rattle.pe_json.proofs.pdb.laid_out_data.Goals as goal

pub returns : goal.returns
returns c =
    let i = image_of c.args.layout.now in
    let e = c.args.entry.now in
    let held = c.raw_bytes-held.ensures in
    let room : nat_lt (i.raw_left e.address_of_raw_data) e.size_of_data ≡ false = grind (arith, common_steps, held.len, c.if-held-size.false) in
    rw (ne_eqb e.address_of_raw_data 0 c.if-entry-eq0.false, room)
    (ap Some (ap (take e.size_of_data) held.bytes ∙ take-map-range_with_len i.byte e.address_of_raw_data (length c.raw_bytes-held.result.now) e.size_of_data c.if-held-size.false))
