use Rattle.std.proofs.Common.{rules, ◌≡◌, ◌+◌, ◌≤◌, List, ℕ, [], ◌++◌, length, take, vec_len, refl, sym, ◌∙◌, ap, arith, append-nil, append_assoc, inl}
use Rattle.std.specs.List.{list_any}
use Rattle.std.proofs.lemmas.List.{take_all}
use Rattle.pe_view.specs.Number.{num, byte_of}
use Rattle.pe_head.specs.declared.section.SectionHeader.{SectionHeader}
use Rattle.coff_read.specs.ImageNames.{image_strings, strings_start, strings_size}
use Rattle.coff_read.specs.Names.{begins_with_slash}
use Rattle.pe_reach.specs.Parts.{Part, HasPart}
use Rattle.pe_reach.specs.PartNames.{with_strings}
use Rattle.pe_reach.proofs.PartBytes.{all_first, all_rest, early_on, early_within}
use Rattle.pe_reach.proofs.SectionNames.{short_names, no_table, past_table, long_table}
use Rattle.pe_reach.proofs.StringTable.{names_absent}
use Rattle.pe_reach.proofs.part_names.read_strings.Goals as goal
use Rattle.pe_reach.proofs.part_names.read_strings.Goals.{then-headers-eq0-via-then-headers-eq0, then-headers-eq0-via-else-headers-eq0+then-not-has_long_name}

pub returns-then-headers-eq0-clause-reads : goal.returns-then-headers-eq0-clause-reads
returns-then-headers-eq0-clause-reads g c =
    let h = c.args.headers.now in
    let items = c.args.bytes.now.items in (
      [],
      sym (append-nil _),
      (
        refl,
        (
          omega arith,
          take_all (length items) items (omega arith),
          λ file size has. elim c.then-headers-eq0.branch [
            | then-headers-eq0-via-then-headers-eq0 w ↦ names_absent file items h (no_table file h w.if-headers-eq0.true)
            | then-headers-eq0-via-else-headers-eq0+then-not-has_long_name w ↦
                short_names (image_strings items (with_strings h 0)) (image_strings file h) h.sections.items
                (ap (λ (sections : List SectionHeader). list_any (λ (section : SectionHeader). begins_with_slash section.name) sections) (sym w.as_slice.ensures.value) ∙ sym w.has_long_name.ensures ∙ w.if-not-has_long_name.true)
          ],
        ),
      ),
    )

pub returns-then-start-len-clause-reads : goal.returns-then-start-len-clause-reads
returns-then-start-len-clause-reads g c =
    let h = c.args.headers.now in
    let items = c.args.bytes.now.items in (
      [],
      sym (append-nil _),
      (
        refl,
        (
          omega arith,
          take_all (length items) items (omega arith),
          λ file size has. names_absent file items h (past_table file h (omega (arith, size, c.if-start-len.true, c.strings_start-start.ensures.value))),
        ),
      ),
    )

pub returns-then-start-from-clause-reads : goal.returns-then-start-from-clause-reads
returns-then-start-from-clause-reads g c =
    let h = c.args.headers.now in
    let old = c.args.bytes.now.items in
    let new = c.read_size.new.bytes.items in
    let e = c.in_ok-size.ensures.reads in
    let s = rw c.in-Some.is at e.2.1 in (
      e.0,
      e.1,
      (
        e.2.0,
        (
          omega (arith, ap (λ (l : List ℕ). length l) s.0),
          ap (take (length old)) s.0 ∙ take_all (length old) old (omega arith),
          λ file size has.
              let start : c.in-Ok.offset ≡ c.strings_start-start.result = c.in-Ok.ensures.1 in
              let is : num (byte_of file) c.in-Ok.offset 4 ≡ c.in-Some.size = s.1 file has in
              let told : strings_size file h ≡ c.in-Some.size = ap (λ p. num (byte_of file) p 4) (sym (start ∙ c.strings_start-start.ensures.value)) ∙ is in
              names_absent file new h (long_table file h (omega (arith, size, told, c.if-start-from.true, c.strings_start-start.ensures.value, c.from.ensures))),
        ),
      ),
    )

pub returns-clause-reads : goal.returns-clause-reads
returns-clause-reads g c =
    let h = c.args.headers.now in
    let old = c.args.bytes.now.items in
    let mid = c.read_size.new.bytes.items in
    let e1 = c.in_ok-size.ensures.reads in
    let s1 = rw c.in-Some.is at e1.2.1 in
    let e2 = c.in_ok-read_table.ensures.reads in
    let all = e2.2.1 c.if-not-branch.false in
    let new = c.read_table.new.bytes.items in
    let sized : length mid ≡ length old = ap (λ (l : List ℕ). length l) s1.0 in
    let pointer : c.in-Ok-try_from.pointer ≡ length old = c.in-Ok-try_from.ensures.1 ∙ c.len.ensures ∙ (let l : vec_len c.args.bytes.now ≡ length old = search rules in l) in (
      e1.0 ++ e2.0,
      e2.1 ∙ ap (λ (ps : List Part). ps ++ e2.0) e1.1 ∙ append_assoc (g.R.PartSource.parts c.args.reader.now) e1.0 e2.0,
      (
        e2.2.0 ∙ e1.2.0,
        (
          omega (arith, all.0, sized),
          rw sized at (all.2 ∙ s1.0),
          λ file size has.
              let first = all_first (HasPart file) e1.0 e2.0 has in
              let rest = all_rest (HasPart file) e1.0 e2.0 has in
              let start : c.in-Ok.offset ≡ strings_start h = c.in-Ok.ensures.1 ∙ c.strings_start-start.ensures.value in
              let told : strings_size file h ≡ c.in-Some.size = ap (λ p. num (byte_of file) p 4) (sym start) ∙ s1.1 file first in
              rw pointer (rw sized at (all.3 file rest (omega (arith, told, c.max-count.ensures)) (omega (arith, size, start, c.if-start-from.false, c.from.ensures, c.strings_start-start.ensures.value, c.max-count.ensures)))),
        ),
      ),
    )

pub returns-then-not-branch-clause-left : goal.returns-then-not-branch-clause-left
returns-then-not-branch-clause-left g c =
    let e1 = c.in_ok-size.ensures.reads in
    let within : c.in-Ok.offset + c.max-count.result ≤ c.args.len = omega (arith, c.in-Ok.ensures.1, c.if-start-len.false, c.if-start-from.false, c.from.ensures, c.max-count.ensures) in
    inl (early_on _ _ _ _ e1.0 e1.1 (early_within _ _ _ _ within (c.in_ok-read_table.ensures.early c.if-not-branch.true)))
