use Rattle.std.proofs.Common.{refl}
use Rattle.pe_reach.proofs.PartBytes.{none_is}
use Rattle.pe_reach.proofs.StringTable.{add_names}
use Rattle.pe_reach.proofs.part_names.read_names.Goals as goal

pub returns : goal.returns
returns g c =
    let e = c.in_ok-pointer.ensures.reads in
    let s = rw c.in-Some.is at e.2.1 in (
      e.0,
      e.1,
      (
        e.2.0,
        (
          refl,
          record {
            packed = refl;
            bytes = s.1;
            size = rw c.in-Some.is at c.in_ok-pointer.ensures.room;
          },
          λ file size has. add_names c.args.parts c.read_strings.new.bytes c.in-Some.pointer file s.0 s.1 (s.2 file size has),
        ),
      ),
    )

pub returns-in_default : goal.returns-in_default
returns-in_default g c =
    let e = c.in_ok-pointer.ensures.reads in
    (e.0, e.1, (e.2.0, rw (none_is _ c.in_default.not-Some) at c.in_ok-pointer.ensures.left))
