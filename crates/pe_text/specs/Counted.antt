-- What a counted device records of its calls.
use Rattle.std.specs.Prelude.{ℕ, Bool, List}
use Rattle.pe_text.specs.declared.counted.Counted.{Counted}

-- the bytes that it returned or took
abbrev pub bytes_told : {T : Type 0} → Counted T → List ℕ
bytes_told counted = counted.told.list

-- whether its end was seen
abbrev pub has_ended : {T : Type 0} → Counted T → Bool
has_ended counted = counted.ended

-- how often it failed
abbrev pub failures_of : {T : Type 0} → Counted T → ℕ
failures_of counted = counted.failures
