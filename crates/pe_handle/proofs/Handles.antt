-- How the machine stores a handle, and what each of its two states owns. Assumes `Logic`.
use Rattle.std.proofs.Common.{◌≡◌, List, [], ◌∷◌, ◌++◌, refl, ◌∙◌}
use mathlib.Core.Bool.{Bool, true, false, not, ◌&&◌}
use lib.Dec.{T}
use seplogic.Ra.Ura.{Ura}
use mir.Val.{Val, vbool, vstruct, vcons, vnil, of_list, has_ty, WT}
use base.Logic.{never_e}
use base.Fml.{ftrue}
use types.Logic.{Logic}
use types.Kit.{Item, Goal, Seq, Step, step, ‵, given, ◌$◌, move, drop, use1, learn, fsplit, fjoin, fpick, fpack, feq_i, feq_l}
use denote.RattleType.{RattleType, Valss}
use denote.Builtin.{RawPtr, bool}
use denote.RawPtr.{Ptr, ptr_val}
use denote.Steps.{nothing}
use denote.Param.{layout}
use denote.Param.Laws.{Laws}
use denote.Struct.Struct.{within}
use denote.Struct.Owning.{shape, to}
use Rattle.std.specs.Global.{Global}
use Rattle.std.specs.Prelude.{Option, Some, None}
use Rattle.std.specs.contracts.alloc.Global as global
use Rattle.std.proofs.alloc.Global.TheLaws as global_laws
use Rattle.std.specs.contracts.impls.GlobalAllocator.TheImpl.{ghosts}
use Rattle.std.specs.Box.Ownership.{box_owns}
use Rattle.pe_handle.specs.Shared.{SharedContent}
use Rattle.pe_handle.specs.Held.{held, owner_row}
use Rattle.pe_handle.specs.contracts.box_parts.BoxParts as parts
use Rattle.pe_handle.specs.contracts.handle.Handle as handle
use Rattle.pe_handle.proofs.Stored.{Fits, pointer_fits, one_value}

abbrev pub Alloc : RattleType
Alloc = global.the_row

abbrev pub alloc_laws : Laws Alloc
alloc_laws = global_laws.the_row_laws

abbrev pub Parts : RattleType
Parts = parts.the_row owner_row Alloc ghosts

abbrev pub Handle : RattleType
Handle = handle.the_row

abbrev pub handle_word : Ptr → Bool → Val → Val
handle_word p y h = vstruct (vcons (ptr_val p) (vcons (vbool y) (vcons h vnil)))

both_hold : (x y : Bool) → T x → T y → T (x && y)
both_hold true y s t = t
both_hold false y s t = absurd s

pub handle_fits : (p : Ptr) (y : Bool) (h : Val) → Fits Alloc alloc_laws h → T (has_ty (layout Handle) (handle_word p y h)) × WT (handle_word p y h)
handle_fits p y h fits = (both_hold _ _ (pointer_fits p).0 (both_hold _ _ fits.0 tt), ((pointer_fits p).1, (tt, (fits.1, tt))))

module _ {M : Type 1} {𝓤 : Ura M} {𝓛 : Logic 𝓤} {K : Type 0} {Γ : List (Item 𝓤)} {G : Goal 𝓤 𝓛.H} where
  pub handle_out : K → (d : Handle.Denot) (vs : List Val)
      → ((h : Val) → vs ≡ handle_word d.state d.is_open h ∷ [] → Fits Alloc alloc_laws h → Seq K 𝓛 (‵ (Alloc.own_val d.alloc (h ∷ [])) ∷ ‵ (held d.alloc d.is_open d.state d.owner) ∷ Γ) G)
      → Seq K 𝓛 (‵ (Handle.own_val d vs) ∷ Γ) G
  handle_out t d vs k =
      fsplit t $ fpick t (λ vss. fsplit t $ feq_l t (λ ev. fsplit t $ feq_l t (λ ep. fsplit t $ feq_l t (λ ey. fsplit t $ move t (1 ∷ []) $ drop t $
      one_value Alloc alloc_laws t d.alloc vss.1.1.0 (λ h ea fits. k h (ev ∙ (λ j. vstruct (of_list (ep j ++ (ey j ++ (ea j ++ [])))) ∷ [])) fits)))))

  pub handle_in : K → (d : Handle.Denot) (h : Val)
      → Step K 𝓛 (‵ (Handle.own_val d (handle_word d.state d.is_open h ∷ [])) ∷ Γ) G (‵ (Alloc.own_val d.alloc (h ∷ [])) ∷ ‵ (held d.alloc d.is_open d.state d.owner) ∷ Γ) G
  handle_in t d h = step (λ s. let v : Val = handle_word d.state d.is_open h in
      nothing t $ move t (1 ∷ 0 ∷ []) $ fjoin t $ feq_i t (List Val) (vbool d.is_open ∷ []) (vbool d.is_open ∷ []) refl $ fjoin t $
      feq_i t (List Val) (ptr_val d.state ∷ []) (ptr_val d.state ∷ []) refl $ fjoin t $ feq_i t (List Val) (v ∷ []) (v ∷ []) refl $ fjoin t $
      fpack t (Valss (RawPtr ∷ bool ∷ Alloc ∷ [])) (within (shape handle.the_type) (to handle.the_type d) (v ∷ [])) (ptr_val d.state ∷ [], (vbool d.is_open ∷ [], (h ∷ [], tt))) $ fjoin t $ s)

  pub open_holds : K → (a : Global) (y : Bool) (p : Ptr) (v : Option SharedContent) → T y
      → ((x : SharedContent) → v ≡ Some x → y ≡ true → Seq K 𝓛 (‵ (box_owns (ghosts.dealloc_token a) owner_row p x) ∷ Γ) G) → Seq K 𝓛 (‵ (held a y p v) ∷ Γ) G
  open_holds t a true p (Some x) is k = k x refl refl
  open_holds t a true p None is k = use1 𝓛 (given ⊥ (‵ ftrue)) (never_e 𝓤 _) $ learn t (λ z. absurd z)
  open_holds t a false p v is k = absurd is

  pub closed_holds : K → (a : Global) (y : Bool) (p : Ptr) (v : Option SharedContent) → T (not y)
      → (v ≡ None → y ≡ false → Seq K 𝓛 Γ G) → Seq K 𝓛 (‵ (held a y p v) ∷ Γ) G
  closed_holds t a false p None is k = drop t $ k refl refl
  closed_holds t a false p (Some x) is k = use1 𝓛 (given ⊥ (‵ ftrue)) (never_e 𝓤 _) $ learn t (λ z. absurd z)
  closed_holds t a true p v is k = absurd is
