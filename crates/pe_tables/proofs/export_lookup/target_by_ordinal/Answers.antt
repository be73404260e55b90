use Rattle.std.proofs.Common.{ℕ, sym, ap, arith}
use Rattle.std.specs.Prelude.{option_map}
use Rattle.pe_tables.specs.declared.key.Target.{Target}
use Rattle.pe_tables.specs.declared.key.Target.TheVariants.{Rva}
use Rattle.pe_tables.proofs.Search.{found_at, found_in_order}
use Rattle.pe_tables.proofs.export_lookup.target_by_ordinal.Goals as goal

-- an export, for a list of them to be read by
abbrev no_export : ℕ × Target
no_export = (0, Rva 0)

pub returns-then-index-exports : goal.returns-then-index-exports
returns-then-index-exports c =
    let found = c.first_from-index.ensures in
    sym (ap (option_map (λ (e : ℕ × Target). e.1)) (found_in_order c.args.ordinal c.args.exports.now no_export c.first_from-index.result c.requires found.before found.after (λ inside is. omega arith)))

pub returns-then-found-ordinal : goal.returns-then-found-ordinal
returns-then-found-ordinal c =
    let found = c.first_from-index.ensures in
    sym (ap (option_map (λ (e : ℕ × Target). e.1)) (found_in_order c.args.ordinal c.args.exports.now no_export c.first_from-index.result c.requires found.before found.after (λ inside is. omega arith)))

pub returns : goal.returns
returns c =
    let found = c.first_from-index.ensures in
    let bound = found.bound in
    sym (ap (option_map (λ (e : ℕ × Target). e.1)) (found_at c.args.ordinal c.args.exports.now c.first_from-index.result no_export (omega arith) (omega arith) (λ j lt is. (let less = found.before j no_export lt in omega arith))))
