-- The pictures of a group's first entries, with one more.
use Rattle.std.proofs.Common.{◌≡◌, ◌∙◌, ℕ, zero, suc, ◌+◌, ◌-◌, ◌≤◌, List, [], ◌∷◌, ◌++◌, None, Some, Option, ap, subst, arith}
use Rattle.std.specs.Prelude.{map, option_map, option_and_then}
use Rattle.pe_layout.specs.Image.{LaidOut}
use Rattle.pe_resources.specs.declared.leaf.Leaf.{Leaf}
use Rattle.pe_resource_files.specs.declared.group.GroupKind.{GroupKind}
use Rattle.pe_resource_files.specs.Pictures.{picture_at, pictures_of}

-- `d` more than `k`, so that it computes by `d`
abbrev more : ℕ → ℕ → ℕ
more zero k = k
more (suc d) k = suc (more d k)

more-sum : (d k : ℕ) → more d k ≡ d + k
more-sum zero k = omega arith
more-sum (suc d) k = let less = more-sum d k in omega (arith, less)

module _ (i : LaidOut) (leaves : List Leaf) (kind : GroupKind) (group : List ℕ) where
  -- if those of the first entries are not all there, those of more are not
  none_of_more : (d k : ℕ) → pictures_of i leaves kind group k ≡ None → pictures_of i leaves kind group (more d k) ≡ None
  none_of_more zero k none = none
  none_of_more (suc d) k none =
      ap (option_and_then (λ (pictures : List (ℕ × List ℕ)). option_map (λ (picture : ℕ × List ℕ). pictures ++ picture ∷ []) (picture_at i leaves kind group (more d k))))
      (none_of_more d k none)

  with_next : (k : ℕ) (pictures : List (ℕ × List ℕ)) → pictures_of i leaves kind group k ≡ Some pictures
      → pictures_of i leaves kind group (suc k) ≡ option_map (λ (picture : ℕ × List ℕ). pictures ++ picture ∷ []) (picture_at i leaves kind group k)
  with_next k pictures is =
      ap (option_and_then (λ (pictures : List (ℕ × List ℕ)). option_map (λ (picture : ℕ × List ℕ). pictures ++ picture ∷ []) (picture_at i leaves kind group k))) is

  -- one that is not there
  pub missing : (k count : ℕ) (pictures : List (ℕ × List ℕ)) → k + 1 ≤ count → pictures_of i leaves kind group k ≡ Some pictures
      → picture_at i leaves kind group k ≡ None → pictures_of i leaves kind group count ≡ None
  missing k count pictures lt is none =
      subst (λ (n : ℕ). pictures_of i leaves kind group n ≡ None) (let e : more (count - suc k) (suc k) ≡ count = (let sum = more-sum (count - suc k) (suc k) in omega (arith, lt, sum)) in e)
      (none_of_more (count - suc k) (suc k) (with_next k pictures is ∙ ap (option_map (λ (picture : ℕ × List ℕ). pictures ++ picture ∷ [])) none))

  pub one_more : (k : ℕ) (pictures : List (ℕ × List ℕ)) (picture : ℕ × List ℕ) → pictures_of i leaves kind group k ≡ Some pictures
      → picture_at i leaves kind group k ≡ Some picture → pictures_of i leaves kind group (k + 1) ≡ Some (pictures ++ picture ∷ [])
  one_more k pictures picture is there =
      ap (pictures_of i leaves kind group) (let e : k + 1 ≡ suc k = omega arith in e) ∙ with_next k pictures is
      ∙ ap (option_map (λ (picture : ℕ × List ℕ). pictures ++ picture ∷ [])) there
