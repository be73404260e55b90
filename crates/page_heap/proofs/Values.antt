-- The machine value of a struct of one pointer: what is owned tells it, and is made of nothing.
use Rattle.std.proofs.Common.{◌≡◌, List, [], ◌∷◌, ◌++◌, refl, ◌∙◌, lit<}
use seplogic.Ra.Ura.{Ura}
use mir.Syntax.{ty_ptr, ty_struct, tcons, tnil}
use mir.Val.{Val, vstruct, vcons, vnil, of_list}
use base.Logic.{ent, emp}
use base.Fml.{Fml}
use types.Logic.{Logic, sem}
use denote.RattleType.{RattleType}
use denote.RawPtr.{Ptr, RawPtr, block_ptr, null_ptr, ptr_val}
use denote.Shadow.{shadow, makes_shadow}
use denote.Struct.Struct.{Struct}
use Rattle.core.proofs.cell.Inside.{Good}

abbrev Fields : RattleType
Fields = Struct (record { name = []; args = []; types = []; fields = RawPtr ∷ [] })

pub ptr_typed : (p : Ptr) → Good ty_ptr (ptr_val p)
ptr_typed (block_ptr b o) = (tt, tt)
ptr_typed null_ptr = (tt, record { fits = lit< tt })

abbrev pub one_val : Ptr → Val
one_val p = vstruct (vcons (ptr_val p) vnil)

abbrev pub one_own : Ptr → List Val → Fml
one_own p = Fields.own_val (p, tt)

pub one_told : (p : Ptr) (vs : List Val) → shadow (one_own p vs) → vs ≡ one_val p ∷ []
one_told p vs s = s.1.0 ∙ (λ i. vstruct (of_list (s.1.1.0 i ++ [])) ∷ [])

pub one_made : {M : Type 1} {𝓤 : Ura M} (𝓛 : Logic 𝓤) (p : Ptr) → ent 𝓤 (emp 𝓤) (sem 𝓛 (one_own p (one_val p ∷ [])))
one_made 𝓛 p = makes_shadow 𝓛 (one_own p (one_val p ∷ [])) (λ _. (tt, (tt, tt))) ((ptr_val p ∷ [], tt), (refl, (refl, tt)))

pub one_typed : (p : Ptr) → Good (ty_struct [] (tcons ty_ptr tnil)) (one_val p)
one_typed (block_ptr b o) = (tt, (tt, tt))
one_typed null_ptr = (tt, (record { fits = lit< tt }, tt))
