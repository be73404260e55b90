use Rattle.std.proofs.Common.{◌∙◌, sym}
use Rattle.pe_json.specs.FunctionRows.{function_members_at}
use Rattle.pe_json.specs.Listed.{more}
use Rattle.pe_json.proofs.Objects.{adds_none, also, also_none}
use Rattle.pe_json.proofs.functions.write_functions.Goals as goal

pub returns-then-listed : goal.returns-then-listed
unfolding function_members_at
returns-then-listed g c =
    let count = rw c.function_count.ensures at c.write_count.ensures in
    rw (sym c.directory.ensures ∙ c.in-Some.is, c.if-listed.true) (also _ _ count c.write_rows.ensures)

pub returns-else-listed : goal.returns-else-listed
unfolding function_members_at
returns-else-listed g c =
    let count = rw c.function_count.ensures at c.write_count.ensures in
    rw (sym c.directory.ensures ∙ c.in-Some.is, c.if-listed.false) (also_none _ count)

pub returns-in_default : goal.returns-in_default
unfolding function_members_at more
returns-in_default g c = rw (sym c.directory.ensures ∙ c.in_default.is) (adds_none c.requires)
