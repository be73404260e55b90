use Rattle.std.proofs.Common.{◌≡◌, ◌∙◌, ◌+◌, ℕ, List, ◌++◌, take, sym, ap, arith}
use Rattle.std.specs.Prelude.{slice_range, Some}
use Rattle.pe_view.specs.View.{bytes_of}
use Rattle.pe_trust.specs.SignedBytes.{check_sum_place, gaps_view}
use Rattle.pe_trust.proofs.Signed.{told_ranges}
use Rattle.pe_trust.proofs.signed_bytes.signed_parts.Goals as goal

pub returns : goal.returns
returns c =
    let file = bytes_of c.args.file in
    let h = c.args.headers.now in
    let g = gaps_view c.in_ok-gaps.gaps in
    let from = c.from-field.ensures in
    let field : c.from-field.result + 88 ≡ check_sum_place h = ap (λ (n : ℕ). n + 88) from in
    let first : c.unwrap.result.now ≡ slice_range file 0 (check_sum_place h) =
    (rw c.unwrap.ensures at c.slice.ensures.value) ∙ ap (λ (n : ℕ). take n file) (omega (arith, field)) in
    let second : c.unwrap-2.result.now ≡ slice_range file (check_sum_place h + 4) g.entry =
    (rw c.unwrap-2.ensures at c.slice-2.ensures.value) ∙ ap (λ (n : ℕ). slice_range file (n + 4) g.entry) field in
    let third : c.unwrap-3.result.now ≡ slice_range file g.entry_end g.table = rw c.unwrap-3.ensures at c.slice-3.ensures.value in
    ap (λ (xs : List ℕ). Some ((xs ++ c.unwrap-2.result.now) ++ c.unwrap-3.result.now)) first
    ∙ ap (λ (xs : List ℕ). Some ((slice_range file 0 (check_sum_place h) ++ xs) ++ c.unwrap-3.result.now)) second
    ∙ ap (λ (xs : List ℕ). Some ((slice_range file 0 (check_sum_place h) ++ slice_range file (check_sum_place h + 4) g.entry) ++ xs)) third
    ∙ sym (told_ranges file h g c.len.result c.len.ensures c.in_ok-gaps.ensures)
