use Rattle.std.proofs.Common.{◌≡◌, ◌∙◌, ℕ, ◌-◌, List, length, map, ap, arith}
use Rattle.std.specs.Prelude.{filter, slice_get, Some}
use Rattle.std.specs.List.{range_with_len}
use Rattle.pe_view.specs.Number.{byte_of}
use Rattle.pe_head.specs.declared.headers.Headers.{Headers}
use Rattle.pe_trust.specs.Covered.{bytes_not_left_out}
use Rattle.pe_trust.specs.SignedBytes.{authenticode_bytes, check_sum_place, gaps_in}
use Rattle.pe_trust.proofs.Once.{gaps_pass, kept_is, not_left_out}
use Rattle.pe_trust.proofs.Signed.{is_signed}
use Rattle.pe_trust.proofs.laws.all_others_are_signed.Goals as goal

all_signed : (file signed : List ℕ) (h : Headers) → authenticode_bytes file h ≡ Some signed → signed ≡ bytes_not_left_out file h
all_signed file signed h e =
    let s = is_signed file h signed e in
    let inside = s.rule.inside in
    let behind = s.rule.behind in
    let pass = gaps_pass (length file) h (slice_get h.directories.items 4) (omega (arith, inside, behind)) s.rule.last in
    let whole : length file - 0 ≡ length file = omega arith in
    s.ranges
    ∙ kept_is file (check_sum_place h) (gaps_in (length file) h) (not_left_out h) pass.0 pass.1
    ∙ ap (λ (n : ℕ). map (byte_of file) (filter (not_left_out h) (range_with_len 0 n))) whole

pub returns : goal.returns
returns c file signed h e = all_signed file signed h e
