use Rattle.std.proofs.Common.{arith, sym, subst, List}
use Rattle.std.specs.List.{Contains}
use Rattle.std.specs.List.Sorted.{IsNonDecreasingBy}
use Rattle.std.proofs.lemmas.List.Sorted.{Contains-permutation, IsPermutation-sym}
use Rattle.pe_tables.specs.declared.fixups.Fixup.{Fixup}
use Rattle.pe_space.specs.Content.{SpaceImage}
use Rattle.pe_space.specs.Ordered.{field_of}
use Rattle.pe_space.proofs.file_image.FileImage.fixups_in.Goals as goal

pub between-requires-clause-ascend : goal.between-requires-clause-ascend
between-requires-clause-ascend g c = subst (IsNonDecreasingBy field_of) (sym c.as_slice.ensures.value) c.self.invariant.0.ascend

pub returns-clause-held : goal.returns-clause-held
returns-clause-held g c = λ f held.
    let sorted : Contains c.self.inside.fixups.items f = subst (λ (l : List Fixup). Contains l f) c.as_slice.ensures.value (c.between.ensures.held f held).0 in
    subst (λ (m : SpaceImage). Contains m.fixups f) c.self.view_is (Contains-permutation _ _ f (IsPermutation-sym _ _ c.self.invariant.0.same) sorted)

pub returns-clause-all : goal.returns-clause-all
returns-clause-all g c = λ f listed low high.
    let own : Contains c.self.inside.listed.value.items f = subst (λ (m : SpaceImage). Contains m.fixups f) (sym c.self.view_is) listed in
    let sorted : Contains c.as_slice.result.now f = subst (λ (l : List Fixup). Contains l f) (sym c.as_slice.ensures.value) (Contains-permutation _ _ f c.self.invariant.0.same own) in
    c.between.ensures.all f sorted (omega (arith, c.from-low.ensures, c.saturating_sub.ensures, low)) high
