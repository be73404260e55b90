use Rattle.std.proofs.Common.{◌≡◌, ℕ, ◌≤◌, List, length, arith}
use Rattle.std.specs.Prelude.{slice_get, Some}
use Rattle.std.specs.List.{All}
use Rattle.pe_head.specs.declared.headers.Headers.{Headers}
use Rattle.pe_trust.specs.Covered.{RawDataLieBetween, table_begin}
use Rattle.pe_trust.specs.SignedBytes.{authenticode_bytes}
use Rattle.pe_trust.proofs.Once.{gaps_pass}
use Rattle.pe_trust.proofs.Signed.{is_signed}
use Rattle.pe_trust.proofs.Within.{raw_data_within}
use Rattle.pe_trust.proofs.laws.raw_data_are_before_the_table.Goals as goal

headers : (file signed : List ℕ) (h : Headers) → authenticode_bytes file h ≡ Some signed → h.size_of_headers ≤ table_begin (length file) h
headers file signed h e =
    let s = is_signed file h signed e in
    let behind = s.rule.behind in
    omega (arith, behind)

raw_data : (file signed : List ℕ) (h : Headers) → authenticode_bytes file h ≡ Some signed → All (RawDataLieBetween h.size_of_headers (table_begin (length file) h)) h.sections.items
raw_data file signed h e =
    let s = is_signed file h signed e in
    raw_data_within h.size_of_headers (table_begin (length file) h) h.sections.items s.rule.gapless s.rule.behind

table : (file signed : List ℕ) (h : Headers) → authenticode_bytes file h ≡ Some signed → table_begin (length file) h ≤ length file
table file signed h e =
    let s = is_signed file h signed e in
    let inside = s.rule.inside in
    let behind = s.rule.behind in
    let pass = gaps_pass (length file) h (slice_get h.directories.items 4) (omega (arith, inside, behind)) s.rule.last in
    let fourth = pass.0.fourth in
    let last = pass.0.last in
    omega (arith, fourth, last)

pub returns : goal.returns
returns c = record {
  headers = λ file signed h e. headers file signed h e;
  raw_data = λ file signed h e. raw_data file signed h e;
  table = λ file signed h e. table file signed h e;
}
