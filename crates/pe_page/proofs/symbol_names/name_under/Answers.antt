use Rattle.std.proofs.Common.{ℕ, List, [], sym, ap, arith}
use Rattle.std.specs.Prelude.{option_map}
use denote.Bor.{Bor}
use Rattle.pe_tables.proofs.Search.{found_at, found_in_order}
use Rattle.pe_page.proofs.symbol_names.name_under.Goals as goal

-- the default of a list of names
abbrev no_name : ℕ × Bor (List ℕ)
no_name = (0, record { ref_ptr = (0, 0); now = [] })

pub returns-then-place-names : goal.returns-then-place-names
returns-then-place-names c =
    let point = c.first_from-place.ensures.point in
    sym (ap (option_map (λ (e : ℕ × Bor (List ℕ)). e.1)) (found_in_order c.args.index c.args.names.now no_name c.first_from-place.result c.requires (λ k e lt. point.0 k e (omega arith) lt) (λ k e le lt. point.1 k e le lt) (λ inside is. omega arith)))

pub returns-then-found-index : goal.returns-then-found-index
returns-then-found-index c =
    let point = c.first_from-place.ensures.point in
    sym (ap (option_map (λ (e : ℕ × Bor (List ℕ)). e.1)) (found_in_order c.args.index c.args.names.now no_name c.first_from-place.result c.requires (λ k e lt. point.0 k e (omega arith) lt) (λ k e le lt. point.1 k e le lt) (λ inside is. omega arith)))

pub returns : goal.returns
returns c =
    let point = c.first_from-place.ensures.point in
    let bound = c.first_from-place.ensures.bound in
    sym (ap (option_map (λ (e : ℕ × Bor (List ℕ)). e.1)) (found_at c.args.index c.args.names.now c.first_from-place.result no_name (omega arith) (omega arith) (λ j lt is. (let less = point.0 j no_name (omega arith) lt in omega arith))))
