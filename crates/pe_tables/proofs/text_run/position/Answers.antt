-- A search finds a string, or returns where it would be inserted.
use Rattle.std.proofs.Common.{◌≡◌, ℕ, List, get_or, arith, rules}
use Rattle.std.specs.Borrow.{Bor}
use Rattle.std.specs.Ordering.{nat_cmp, ordering_index}
use Rattle.std.specs.declared.cmp.Ordering.TheVariants.{Less, Equal, Greater}
use Rattle.std.specs.Cmp.Lexicographic.{slice_cmp}
use Rattle.std.specs.List.Sorted.{IsNonDecreasingBy, IsPartitionPoint}
use Rattle.std.proofs.lemmas.Fn.{always_returns_same}
use Rattle.pe_tables.proofs.TextRun.{searched-place, searched-nowhere, against_rises}
use Rattle.pe_tables.proofs.text_run.position.Goals as goal

pub returns-in-Err : goal.returns-in-Err
returns-in-Err g c =
    let run = c.args.run.now in
    let text = c.args.text.now in
    let Entry : Type 0 = Bor (List ℕ) × g.row.X.Denot in
    let Before : Entry → Type 0 = λ (e : Entry). slice_cmp nat_cmp e.0.now text ≡ Less in
    let Behind : Entry → Type 0 = λ (e : Entry). slice_cmp nat_cmp e.0.now text ≡ Greater in
    let parted : IsNonDecreasingBy (λ (e : Entry). ordering_index (slice_cmp nat_cmp e.0.now text)) run → IsPartitionPoint Before Behind run c.in-Err.field-0 =
    c.in-Err.ensures.position (λ (e : Entry). e.0) (always_returns_same _ (λ a r. r ≡ a.0.now.0) _ (λ a r q k. search rules)) in
    let point = parted (against_rises run text c.requires) in
    searched-nowhere run text c.in-Err.field-0 (λ k d lt. point.0 k d (omega arith) lt) (λ k d le lt. point.1 k d le lt)

pub returns-in-Ok : goal.returns-in-Ok
returns-in-Ok g c =
    let run = c.args.run.now in
    let text = c.args.text.now in
    let Entry : Type 0 = Bor (List ℕ) × g.row.X.Denot in
    let at : (d : Entry) → slice_cmp nat_cmp (get_or run c.in-Ok.index d).0.now text ≡ Equal =
    c.in-Ok.ensures.position (λ (e : Entry). e.0) (always_returns_same _ (λ a r. r ≡ a.0.now.0) _ (λ a r q k. search rules)) in
    let within = c.in-Ok.ensures.bound in
    (omega arith, λ d. searched-place (get_or run c.in-Ok.index d).0.now text (at d))
