-- Strings as bytes of the file.
use Rattle.std.specs.Prelude.{◌≡◌, ℕ, ◌-◌, ◌<◌, ◌≤◌, ◌^◌, List, length, Option, None, Some, if◌then◌else◌}
use Rattle.std.specs.Option.{option_or}
use Rattle.pe_view.specs.Number.{part}
use Rattle.pe_view.specs.Text.{text_between}
use Rattle.pe_layout.specs.declared.text.Span.{Span}
use Rattle.pe_layout.specs.declared.text.Text.{Text}

-- the bytes of a span before its first zero byte, or all of them if zero fill follows
abbrev pub span_text : List ℕ → Span → Option (List ℕ)
span_text file s = option_or (text_between file s.start s.end) (if s.zeros_follow then Some (part file s.start (s.end - s.start)) else None)

-- a span is inside a file of this size
pub record IsSpan (size : ℕ) (s : Span) : Type 0 where
  pub ordered : s.start ≤ s.end
  pub inside : s.end ≤ size
  pub small : s.end < 2 ^ 64

-- a string has the bytes of the file before its end
pub record IsTextOf (file : List ℕ) (text : Text) : Type 0 where
  pub inside : length text.bytes.now ≤ text.end
  pub bytes : text.bytes.now ≡ part file (text.end - length text.bytes.now) (length text.bytes.now)
