-- What iterators have yet to return.
use Rattle.std.specs.Prelude.{ℕ, List, [], Option, None, Some, Result}
use Rattle.pe_view.specs.declared.fault.Fault.{Fault}
use Rattle.pe_layout.specs.Image.{LaidOut}
use Rattle.pe_layout.specs.Layout.{image_of}
use Rattle.pe_records.specs.declared.function.Function.{Function}
use Rattle.pe_unwind.specs.Chains.{chain_from}
use Rattle.pe_unwind.specs.Operations.{operations_from}
use Rattle.pe_unwind.specs.declared.chain.Chain.{Chain}
use Rattle.pe_unwind.specs.declared.operation.Operation.{Operation}
use Rattle.pe_unwind.specs.declared.operations.Operations.{Operations}

abbrev pub operations_left : Operations → List (Result Operation Fault)
operations_left s = operations_from (image_of s.layout.now) s.version s.left 0 s.at

-- after the last function, if the chain has not ended
abbrev pub chain_after : LaidOut → ℕ → Option Function → List (Result Function Fault)
chain_after i more None = []
chain_after i more (Some f) = chain_from i more f

abbrev pub chain_left : Chain → List (Result Function Fault)
chain_left s = chain_after (image_of s.layout.now) s.more s.last
