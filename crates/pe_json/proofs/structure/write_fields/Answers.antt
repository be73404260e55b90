use Rattle.std.proofs.Common.{◌≡◌, length, arith}
use Rattle.pe_records.specs.Structure.{address_width}
use Rattle.pe_view.specs.View.{bytes_of}
use Rattle.pe_json.specs.Listed.{more}
use Rattle.pe_json.specs.StructureRows.{fields_of, member_at}
use Rattle.pe_json.proofs.FlagItems.{items_next}
use Rattle.pe_json.proofs.Objects.{adds_none, also}
use Rattle.pe_json.proofs.structure.write_fields.Goals as goal

pub loop-index-init : goal.loop-index-init
unfolding more
loop-index-init g c = record { adds = adds_none c.requires }

pub loop-index-preserved : goal.loop-index-preserved
loop-index-preserved g c =
    let member = member_at c.args.kind (address_width c.args.structure.now.is_plus) (bytes_of c.args.structure.now.bytes) in
    record { adds = rw (items_next member c.loop-index.index) (also _ _ c.loop-index.invariant.adds c.write_field_at.ensures) }

pub returns : goal.returns
returns g c =
    let size = c.count_of-index-end.ensures in
    let past = c.loop-index-test.false in
    let all : c.loop-index.index ≡ length (fields_of c.args.kind) = omega (arith, size, past) in
    rw all at c.loop-index.invariant.adds
