-- Which first bytes decide what a view sees of a file, while it is read. No contract of a public function cites it.
use Rattle.std.specs.Prelude.{ℕ, ◌≡◌, ◌+◌, ◌≤◌, ◌^◌, ◌⊎◌, Bool, true, false, List, ◌++◌, length, codes, Result, Ok, Err}
use Rattle.pe_view.specs.declared.fault.Fault.{Fault}
use Rattle.pe_head.specs.declared.headers.Headers.{Headers}
use Rattle.pe_text.specs.FileKind.{begins_with}
use Rattle.pe_reach.specs.Reach.{Begins, Decide}
use Rattle.pe_reach.specs.Views.{names_under}

-- bytes begin with `MZ`, and they and all more bytes decide the answers for each file of a length that begins with them
pub record Settle (len : ℕ) (bytes : List ℕ) : Type 0 where
  pub mark : begins_with bytes (codes "MZ") ≡ true
  pub fits : length bytes ≤ len
  pub decides : (more : List ℕ) → length (bytes ++ more) ≤ len → Decide len (bytes ++ more)

-- what was read up to a limit: one byte more than a file may have, or what decides the answers
abbrev pub IsSettled : ℕ → List ℕ → Type 0
IsSettled len bytes = (length bytes ≡ 2 ^ 32 + 1) ⊎ Settle len bytes

-- what was read: all up to the source's end, or up to a limit
abbrev pub IsRead : Bool → Bool → ℕ → List ℕ → Type 0
IsRead true ended len bytes = ended ≡ true
IsRead false ended len bytes = IsSettled len bytes

-- bytes decide the names of sections for each file of a length that begins with them, under these headers
pub record Name (len : ℕ) (bytes : List ℕ) (h : Headers) : Type 0 where
  pub fits : length bytes ≤ len
  pub names : (file : List ℕ) → Begins bytes len file → names_under file h ≡ names_under bytes h

-- what was read as far as the names of sections need it, under these headers
abbrev pub IsNamed : ℕ → List ℕ → Result Headers Fault → Type 0
IsNamed len bytes (Ok h) = (2 ^ 32 + 1 ≤ length bytes) ⊎ Name len bytes h
IsNamed len bytes (Err fault) = 2 ^ 32 + 1 ≤ length bytes
