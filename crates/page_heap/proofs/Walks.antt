-- The parameters of a signature by their number, and the code that follows a part of a body. Assumes `Logic`.
use Rattle.std.proofs.Common.{ℕ, zero, suc, List, [], ◌∷◌}
use seplogic.Ra.Ura.{Ura}
use mir.Syntax.{Body}
use prog.Wp.{Env, Calls, Loops, Wp, after_seq}
use types.Logic.{Logic}
use types.Kit.{Post, any_q, post}
use denote.Builtin.{unit}
use denote.Signature.{Slot, plain}

abbrev pub parameter : {n : ℕ} → ℕ → List (Slot n) → Slot n
parameter k [] = plain (λ _. unit)
parameter zero (s ∷ ss) = s
parameter (suc k) (s ∷ ss) = parameter k ss

-- the body runs next, and then q holds
abbrev pub followed_by : {M : Type 1} {𝓤 : Ura M} (𝓛 : Logic 𝓤) → Calls 𝓤 𝓛.H → Loops 𝓤 𝓛.H → Env 𝓤 𝓛.H → Body → Post 𝓤 𝓛.H → Post 𝓤 𝓛.H
followed_by {𝓤 = 𝓤} 𝓛 C Λ E b q = any_q (after_seq 𝓤 𝓛.H (Wp 𝓤 𝓛.H C Λ E b (post 𝓤 𝓛.H q)) (post 𝓤 𝓛.H q))
