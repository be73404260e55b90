use Rattle.std.proofs.Common.{◌≡◌, ◌+◌, ◌≤◌, ◌∙◌, sym, ap, true, false, arith}
use Rattle.std.specs.Prelude.{◌&&◌}
use Rattle.pe_layout.specs.Image.{number_at}
use Rattle.pe_layout.specs.Layout.{headers_of, image_of}
use Rattle.pe_tables.specs.Imports.{descriptor_at, is_null, lookup_table}
use Rattle.pe_parts.specs.AtHand.{held_end, has_text, has_lookups, is_before}
use Rattle.pe_parts.proofs.AtHand.{null_ends, descriptor_there, descriptors_end, descriptors_on}
use Rattle.pe_parts.proofs.Walks.{descriptors_begin, descriptors_outside, descriptors_unread, descriptors_null, descriptors_more}
use Rattle.pe_parts.proofs.imports.holds_descriptors.Goals as goal

pub loop-name-init : goal.loop-name-init
loop-name-init c = record {
  low = omega arith;
  on = λ b t agree all. all;
  left = descriptors_begin (headers_of c.args.layout.now) (image_of c.args.layout.now) c.args.first c.args.first;
}

pub returns-then-is_null-clause-have : goal.returns-then-is_null-clause-have
returns-then-is_null-clause-have c =
    let p = headers_of c.args.layout.now in
    let i = image_of c.args.layout.now in
    let rva = c.loop-name.rva in
    let null : is_null (descriptor_at i rva) ≡ true = rw (c.is_null.ensures, c.field-name.ensures, c.field-addresses.ensures) at c.if-is_null.true in
    let fits : rva + 20 ≤ c.held_end-end.result = c.is_before.ensures.before c.loop-name-test.true in
    λ yes b t agree. c.loop-name.invariant.on b t agree (descriptors_end i b t rva
    (descriptor_there p i b t agree c.args.first c.held_end-end.result rva c.held_end-end.ensures.there c.loop-name.invariant.low fits (λ some. absurd cc) (λ some. absurd cc))
    (null_ends i rva null))

pub returns-then-is_null-clause-exact : goal.returns-then-is_null-clause-exact
returns-then-is_null-clause-exact c =
    let p = headers_of c.args.layout.now in
    let i = image_of c.args.layout.now in
    let rva = c.loop-name.rva in
    let null : is_null (descriptor_at i rva) ≡ true = rw (c.is_null.ensures, c.field-name.ensures, c.field-addresses.ensures) at c.if-is_null.true in
    let before : is_before i (held_end p c.args.first) rva 20 ≡ true = rw c.held_end-end.ensures.exact at (sym c.is_before.ensures.exact ∙ c.loop-name-test.true) in
    sym (descriptors_null p i c.args.first rva before c.loop-name.invariant.left null)

pub returns-then-not-holds_module-clause-exact : goal.returns-then-not-holds_module-clause-exact
returns-then-not-holds_module-clause-exact c =
    let p = headers_of c.args.layout.now in
    let i = image_of c.args.layout.now in
    let rva = c.loop-name.rva in
    let some : is_null (descriptor_at i rva) ≡ false = rw (c.is_null.ensures, c.field-name.ensures, c.field-addresses.ensures) at c.if-is_null.false in
    let first : c.field.result ≡ number_at 4 i rva = c.field.ensures ∙ ap (number_at 4 i) (let e : rva + 0 ≡ rva = omega arith in e) in
    let no : (has_text p (number_at 4 i (rva + 12)) && has_lookups p i (lookup_table (descriptor_at i rva))) ≡ false =
    rw (c.field-name.ensures, c.lookup_table-table.ensures, first, c.field-addresses.ensures) at (sym c.holds_module.ensures.exact ∙ c.if-not-holds_module.true) in
    sym (descriptors_unread p i c.args.first rva c.loop-name.invariant.left some no)

pub loop-name-smaller : goal.loop-name-smaller
loop-name-smaller c =
    let small = c.is_before.ensures.small c.loop-name-test.true in
    omega (arith, small)

pub loop-name-preserved : goal.loop-name-preserved
loop-name-preserved c =
    let p = headers_of c.args.layout.now in
    let i = image_of c.args.layout.now in
    let rva = c.loop-name.rva in
    let fits : rva + 20 ≤ c.held_end-end.result = c.is_before.ensures.before c.loop-name-test.true in
    let low = c.loop-name.invariant.low in
    let name = rw c.field-name.ensures at (c.holds_module.ensures.text c.if-not-holds_module.false) in
    let first : c.field.result ≡ number_at 4 i rva = c.field.ensures ∙ ap (number_at 4 i) (let e : rva + 0 ≡ rva = omega arith in e) in
    let lookups = rw (c.lookup_table-table.ensures, first, c.field-addresses.ensures) at (c.holds_module.ensures.have c.if-not-holds_module.false) in
    let some : is_null (descriptor_at i rva) ≡ false = rw (c.is_null.ensures, c.field-name.ensures, c.field-addresses.ensures) at c.if-is_null.false in
    let before : is_before i (held_end p c.args.first) rva 20 ≡ true = rw c.held_end-end.ensures.exact at (sym c.is_before.ensures.exact ∙ c.loop-name-test.true) in
    let read : (has_text p (number_at 4 i (rva + 12)) && has_lookups p i (lookup_table (descriptor_at i rva))) ≡ true =
    rw (c.field-name.ensures, c.lookup_table-table.ensures, first, c.field-addresses.ensures) at (sym c.holds_module.ensures.exact ∙ c.if-not-holds_module.false) in
    record {
      low = omega (arith, low);
      on = λ b t agree rest. c.loop-name.invariant.on b t agree
          (descriptors_on i b t rva (descriptor_there p i b t agree c.args.first c.held_end-end.result rva c.held_end-end.ensures.there low fits (λ some. name) (λ some. lookups b t agree)) rest);
      left = descriptors_more p i c.args.first rva before c.loop-name.invariant.left some read;
    }

pub returns-clause-exact : goal.returns-clause-exact
returns-clause-exact c =
    let p = headers_of c.args.layout.now in
    let i = image_of c.args.layout.now in
    let rva = c.loop-name.rva in
    let no : is_before i (held_end p c.args.first) rva 20 ≡ false = rw c.held_end-end.ensures.exact at (sym c.is_before.ensures.exact ∙ c.loop-name-test.false) in
    sym (descriptors_outside p i c.args.first rva c.loop-name.invariant.left no)
