use Rattle.std.proofs.Common.{◌≡◌, ◌∙◌, ◌+◌, ◌/◌, ◌%◌, ◌^◌, ℕ, List, length, ap}
use Rattle.pe_view.specs.View.{bytes_of}
use Rattle.pe_trust.specs.CheckSum.{span, four_at, folded, word_sum}
use Rattle.pe_trust.proofs.Words.{folds_same}
use Rattle.pe_trust.proofs.sum.check_sum.Goals as goal

pub returns : goal.returns
returns c =
    let file = bytes_of c.args.file in
    let field : ℕ = c.args.headers.now.pe_offset + 88 in
    let whole : c.all_bytes-bytes.result.now ≡ file = c.all_bytes-bytes.ensures in
    let sum : c.sum_without.result ≡ span (four_at file field) 0 (length file / 4 + 1) = c.sum_without.ensures.value ∙ ap (λ (xs : List ℕ). span (four_at xs (c.from.result + 88)) 0 (length xs / 4 + 1)) whole ∙ ap (λ (o : ℕ). span (four_at file (o + 88)) 0 (length file / 4 + 1)) c.from.ensures in
    let fold : c.fold.result ≡ folded (word_sum file field) = c.fold.ensures.value ∙ ap folded sum ∙ folds_same file field in
    ap (λ (f : ℕ). (f + c.len.result) % 2 ^ 32) fold ∙ ap (λ (n : ℕ). (folded (word_sum file field) + n) % 2 ^ 32) c.len.ensures
