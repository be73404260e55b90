use Rattle.std.proofs.Common.{◌≡◌, ◌+◌, length, vec_len, refl, sym, arith, rules}
use Rattle.coff_read.specs.ImageNames.{strings_size}
use Rattle.pe_reach.proofs.ShortTable.{match_more}
use Rattle.pe_reach.proofs.StringTable.{names_same}
use Rattle.pe_reach.proofs.part_names.read_whole_table.Goals as goal

pub returns-clause-reads : goal.returns-clause-reads
returns-clause-reads g c =
    let h = c.args.headers.now in
    let old = c.args.bytes.now in
    let new = c.read_range.new.bytes in
    let sized : vec_len old ≡ length old.items = search rules in
    let long : vec_len new ≡ length new.items = search rules in
    let e = c.read_range.ensures.reads in (
      e.0,
      e.1,
      match_more _ _ _ c.read_range.result
          (λ has_all m. (
            m.0,
            λ yes.
                let all = m.1 yes in
                let held : length new.items ≡ length old.items + c.args.count = omega (arith, long, sized, all.0) in (
                  omega (arith, held),
                  omega (arith, held),
                  rw sized at all.1,
                  λ file has is fits.
                      names_same file new.items h (length old.items) (strings_size file h) c.args.count
                      c.requires.some c.requires.room.0 c.requires.room.3 (omega (arith, is)) refl
                      (omega (arith, fits, c.requires.place)) (omega (arith, held)) (rw (sized, sym c.requires.place) at (all.2 file has)),
                ),
          ))
          e.2,
    )
