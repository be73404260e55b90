use Rattle.std.proofs.Common.{◌≡◌, ◌+◌, ◌∙◌, ℕ, List, Option, true, length, vec_len, sym, ap, ap₂, arith, rules}
use Rattle.std.specs.List.{list_all}
use Rattle.pe_head.specs.declared.section.SectionHeader.{SectionHeader}
use Rattle.coff_read.specs.ImageNames.{image_strings}
use Rattle.pe_reach.specs.PartNames.{is_named, with_strings}
use Rattle.pe_reach.proofs.ShortTable.{short_names_same, same_strings}
use Rattle.pe_reach.proofs.part_names.read_short_table.Goals as goal

pub returns-then-are_named-clause-reads : goal.returns-then-are_named-clause-reads
returns-then-are_named-clause-reads g c =
    let h = c.args.headers.now in
    let old = c.args.bytes.now in
    let new = c.read_first_strings.new.bytes in
    let e = c.in_ok-read_first_strings.ensures.reads in
    let all = e.2.1 c.if-not-branch.false in
    let sized : vec_len old ≡ length old.items = search rules in
    let long : vec_len new ≡ length new.items = search rules in
    let held : length new.items ≡ length old.items + 4096 = omega (arith, long, sized, all.0) in
    let strings = c.new-strings.ensures ∙ ap (λ (bytes : List ℕ). image_strings bytes c.args.packed.now) (c.new.ensures ∙ c.deref.ensures.value) ∙ same_strings new.items c.args.packed.now h (length old.items) c.requires.packed.0 c.requires.packed.1 in
    let named : list_all (is_named (image_strings new.items (with_strings h (length old.items)))) h.sections.items ≡ true =
    ap₂ (λ (table : Option (List ℕ)) (sections : List SectionHeader). list_all (is_named table) sections) (sym strings) (sym c.as_slice.ensures.value) ∙ sym c.are_named.ensures ∙ c.if-are_named.true in (
      e.0,
      e.1,
      (
        e.2.0,
        (
          (λ yes. (
            held,
            rw sized at all.1,
            λ file has shorter fits.
                let stand = rw (sized, sym c.requires.place) at (all.3 file has) in
                short_names_same file new.items h (length old.items) 4096 c.requires.some c.requires.room.0 (omega arith) (rw sized at all.2) held shorter (rw (sym c.requires.place) at fits) stand named,
          )),
          λ no. absurd cc,
        ),
      ),
    )
