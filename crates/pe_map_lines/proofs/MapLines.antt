-- The bytes of a window's lines.
use Rattle.std.proofs.Common.{◌≡◌, ◌∙◌, ℕ, ◌≤◌, List, ◌++◌, length, take, sym, ap, true, Result, Ok, Err, is_ok}
use Rattle.std.specs.Prelude.{Option, unwrap_or, OnOk}
use Rattle.std.proofs.lemmas.List.{length-take-le}
use Rattle.std.proofs.lemmas.List.FromFn.{length-map-range_with_len}
use Rattle.std.proofs.Math.Seq.{take-append_seam}
use Rattle.pe_space.specs.Content.{Content, byte_at, window_at}
use Rattle.pe_map_lines.specs.MapReport.{bytes_from}

from_ok : {T E : Type 0} (r : Result T E) (P : Type 0) → is_ok r ≡ true → OnOk r P → P
from_ok (Ok x) P is p = p
from_ok (Err e) P is p = absurd cc

-- the part of a window that was read into the beginning of a buffer
pub bytes_read : {E : Type 0} (c : Content) (a n : ℕ) (room buffer after : List ℕ) (r : Result (Unit {0}) E) → is_ok r ≡ true → n ≤ length room → window_at c a n ≡ Ok (bytes_from (byte_at c) a n)
    → OnOk r (window_at c a (length (take n room)) ≡ Ok buffer) → take n (buffer ++ after) ≡ bytes_from (byte_at c) a n
bytes_read c a n room buffer after r ok le all on_ok =
    let read = from_ok r (window_at c a (length (take n room)) ≡ Ok buffer) ok on_ok in
    let same : Ok buffer ≡ Ok (bytes_from (byte_at c) a n) = sym read ∙ ap (window_at c a) (length-take-le n room le) ∙ all in
    let is : buffer ≡ bytes_from (byte_at c) a n = cc in
    let count : length (bytes_from (byte_at c) a n) ≡ n = length-map-range_with_len (λ b. unwrap_or (byte_at c b) 0) a n in
    ap (λ (xs : List ℕ). take n (xs ++ after)) is
    ∙ ap (λ (m : ℕ). take m (bytes_from (byte_at c) a n ++ after)) (sym count)
    ∙ take-append_seam (bytes_from (byte_at c) a n) after
