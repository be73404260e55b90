-- The chain of a function: the functions whose unwind information its own goes on with (x64 exception handling, Chained Unwind Info
-- Structures).
use Rattle.std.specs.Prelude.{ℕ, zero, suc, ◌-◌, ◌%◌, ◌==◌, List, [], ◌∷◌, Option, None, Some, Result, Ok, Err, if◌then◌else◌}
use Rattle.std.specs.Option.{option_and_then, option_map}
use Rattle.pe_view.specs.declared.fault.Fault.{Fault}
use Rattle.pe_layout.specs.Image.{LaidOut, fault_at}
use Rattle.pe_records.specs.Functions.{is_lost}
use Rattle.pe_records.specs.declared.function.Function.{Function}
use Rattle.pe_unwind.specs.Information.{after_codes, function_at, information_at, is_chained}
use Rattle.pe_unwind.specs.declared.information.UnwindInformation.{UnwindInformation}

abbrev pub after_chained : UnwindInformation → Option ℕ
after_chained u = if is_chained u then Some (after_codes u) else None

-- where the record of the function is that a function is chained to: before an odd RVA, or after the codes of its unwind information
abbrev pub link_of : LaidOut → Function → Option ℕ
link_of i f = if f.unwind % 2 == 1 then Some (f.unwind - 1) else option_and_then after_chained (information_at i f.unwind)

-- it has its unwind information
abbrev pub kept : LaidOut → Function → Option Function
kept i f = if is_lost i f then None else Some f

-- the function of a record, if both it and its unwind information are in the image
abbrev pub linked : LaidOut → ℕ → Option Function
linked i rva = option_and_then (kept i) (function_at i rva)

-- the finding of a function whose chain goes on, and can't
abbrev pub chain_fault : LaidOut → Function → Fault
chain_fault i f = fault_at 120 i (f.unwind - f.unwind % 2)

-- a function, or a finding if there is none
abbrev pub found_or : Fault → Option Function → Result Function Fault
found_or fault None = Err fault
found_or fault (Some f) = Ok f

-- what a chain goes on with after a function, where so many more may follow: the next function, or the finding in its place
abbrev pub next_of : LaidOut → ℕ → Function → Option (Result Function Fault)
next_of i more f = option_map (λ rva. found_or (chain_fault i f) (if more == 0 then None else linked i rva)) (link_of i f)

-- a function and those after it, or the finding that ends them
abbrev pub and_after : Option (Result Function Fault) → (Function → List (Result Function Fault)) → List (Result Function Fault)
and_after None rest = []
and_after (Some (Err fault)) rest = Err fault ∷ []
and_after (Some (Ok f)) rest = Ok f ∷ rest f

-- the chain after a function, where so many more may follow
abbrev pub chain_from : LaidOut → ℕ → Function → List (Result Function Fault)
chain_from i zero f = and_after (next_of i 0 f) (λ _. [])
chain_from i (suc more) f = and_after (next_of i (suc more) f) (chain_from i more)

-- of a function: its own unwind information is the first of at most 32
abbrev pub chain_of : LaidOut → Function → List (Result Function Fault)
chain_of i f = chain_from i 31 f
