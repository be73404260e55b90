-- The long names, member by member.
use Rattle.std.proofs.Common.{◌≡◌, ℕ, ◌+◌, length, length-append, arith, List, [], ◌∷◌, ◌++◌, refl, sym, ap, append-nil, inl, inr}
use Rattle.std.specs.Prelude.{filter}
use Rattle.std.proofs.lemmas.Bool.{cases_Bool}
use Rattle.coff_library.specs.Members.{Member}
use Rattle.coff_library.specs.Written.{is_long, texts_bytes, behind_name, long_names}
use Rattle.coff_library.specs.declared.new_member.NewMember.{NewMember}

-- what an index past the end gives
abbrev pub no_member : NewMember
no_member = record { name = record { ref_ptr = (0, 0); now = [] }; bytes = record { ref_ptr = (0, 0); now = [] } }

pub long_more : (m : Member) (ms : List Member) → long_names (m ∷ ms) ≡ texts_bytes (filter is_long (m.name ∷ [])) ++ long_names ms
long_more m ms = elim (cases_Bool (is_long m.name)) [
  | inl long ↦ rw long (ap (λ (bs : List ℕ). bs ++ long_names ms) (sym (append-nil (m.name ++ 0 ∷ []))))
  | inr short ↦ rw short refl
]

-- where the next long name stands behind a name
pub names_step : (next : ℕ) (m : Member) (ms : List Member) → next + length (long_names (m ∷ ms)) ≡ behind_name next m.name + length (long_names ms)
names_step next m ms = elim (cases_Bool (is_long m.name)) [
  | inl long ↦
      (let one = length-append m.name (0 ∷ []) in
      let two = length-append (m.name ++ 0 ∷ []) (long_names ms) in
      rw long (omega (arith, one, two)))
  | inr short ↦ rw short refl
]
