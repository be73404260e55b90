-- A block as room for a type, with the way back, and the two cases of what `take` gave. Assumes `Logic`.
use Rattle.std.proofs.Common.{◌≡◌, ℕ, ◌^◌, ◌<◌, ◌≤◌, List, [], ◌∷◌, ◌++◌, IfSome, None, Some, refl, sym, ap, subst, ◌∙◌, arith}
use seplogic.Ra.Ura.{Ura}
use mir.Syntax.{Ty, Width, w8, w16, w32, w64, w128}
use mir.Val.{Val, vcons, vnil, of_list, bytes}
use base.Logic.{ent, sep, never, id⊢}
use base.Fml.{fwand, froom}
use prog.Memory.{size, capped}
use prog.Align.{Dv, align_w, align-bytes}
use prog.Capped.{capped_is, capped_small}
use types.Logic.{Logic, sem}
use types.Kit.{Item, Goal, Seq, ‵, ◌⊛◌, ◌$◌, ◌∵◌, !, qed, move, drop, use1, split, frame, rewrite, fsplit, fpick, fpack, feq_l, done}
use types.Match.{live}
use denote.RattleType.{RattleType}
use denote.RawPtr.{Ptr, block_ptr, in_a_block}
use denote.Shadow.{pure_l}
use denote.Steps.{only}
use Rattle.core.specs.contracts.option.Option as option
use Rattle.page_heap.specs.Class.{block_size}
use Rattle.page_heap.specs.Ownership.{bytes_at, block_token}
use Rattle.page_heap.specs.contracts.bytes.Bytes as block
use Rattle.page_heap.proofs.Sizes.{fits, whole}
use Rattle.page_heap.proofs.Units.{houses}
use Rattle.page_heap.proofs.Values.{one_val, one_own, one_told}
use Rattle.page_heap.specs.Class.{class_of}

abbrev pub Taken : RattleType
Taken = option.the_row block.the_row

-- what the contract of `take` says of its answer to a request of n bytes, aligned to a
abbrev pub Told : ℕ → ℕ → Taken.Denot → Type 0
Told n a x = IfSome x (λ b. (b.size ≡ block_size n) × (n < 2 ^ 63) × (a ≤ 16))

divides_16 : (w : Width) → Dv (bytes w) 16
divides_16 w8 = tt
divides_16 w16 = tt
divides_16 w32 = tt
divides_16 w64 = tt
divides_16 w128 = tt

pub hands_out : {M : Type 1} {𝓤 : Ura M} (𝓛 : Logic 𝓤) (τ : Ty) (b o n : ℕ) → capped (size τ) ≡ n → n < 2 ^ 63
    → ent 𝓤 (sem 𝓛 (bytes_at (block_ptr b o) (block_size n))) (sep 𝓤 (𝓛.H.room τ b o) (sem 𝓛 (block_token τ (block_ptr b o))))
hands_out {𝓤 = 𝓤} 𝓛 τ b o n sized small =
    let p : Ptr = block_ptr b o in
    let short : size τ < 2 ^ 63 = capped_small (size τ) (omega arith) in
    let same : n ≡ size τ = sym sized ∙ capped_is (size τ) (omega arith) in
    let m = block_size (size τ) in
    qed 𝓛 (‵ (bytes_at p (block_size n)) ∷ []) ∵ rewrite ! 0 (λ (k : ℕ). ‵ (bytes_at p (block_size k))) same refl $
    use1 𝓛 (‵ (froom τ b o) ⊛ ‵ (fwand (froom τ b o) (bytes_at p m)))
    (houses 𝓛 b τ o m (whole (class_of (size τ))) (fits (size τ) short) (subst (λ (k : ℕ). Dv k 16) (sym (align-bytes τ)) (divides_16 (align_w τ)))) $ split ! $ frame ! $
    fpack ! (size τ < 2 ^ 63) (λ _. fwand (froom τ b o) (bytes_at p m)) short $ done !

module _ {M : Type 1} {𝓤 : Ura M} {𝓛 : Logic 𝓤} {K : Type 0} {Γ : List (Item 𝓤)} {G : Goal 𝓤 𝓛.H} where
  pub taken : K → (n a : ℕ) (x : Taken.Denot) (v : Val) → Told n a x
      → ((b o : ℕ) → n < 2 ^ 63 → v ≡ live 1 (vcons (one_val (block_ptr b o)) vnil) → Seq K 𝓛 (‵ (bytes_at (block_ptr b o) (block_size n)) ∷ Γ) G)
      → (v ≡ live 0 vnil → Seq K 𝓛 Γ G) → Seq K 𝓛 (‵ (Taken.own_val x (v ∷ [])) ∷ Γ) G
  taken t n a None v told some none =
      fpick t (λ us. fsplit t $ feq_l t (λ is. fpick t (λ vss. fsplit t $ feq_l t (λ is'. drop t $ none (ap only is ∙ ap (λ (ws : List Val). live 0 (of_list ws)) is')))))
  taken t n a (Some w) v told some none =
      fpick t (λ us. fsplit t $ feq_l t (λ is. fpick t (λ vss. fsplit t $ feq_l t (λ is'. fsplit t $ move t (1 ∷ []) $ drop t $ fsplit t $ pure_l t (one_own w.ptr vss.0) (λ s.
      rewrite t 0 (λ (k : ℕ). ‵ (bytes_at w.ptr k)) told.0 refl $
      in_a_block t w.ptr (λ p. bytes_at p (block_size n)) (id⊢ 𝓤 (never 𝓤)) (λ b o lies.
      some b o told.1 (ap only is ∙ ap (λ (xs : List Val). live 1 (of_list xs)) (is' ∙ ap (λ (xs : List Val). xs ++ []) (one_told w.ptr vss.0 s)) ∙ ap (λ (p : Ptr). live 1 (vcons (one_val p) vnil)) lies)))))))
