-- A value that is there if a test holds.
use Rattle.std.proofs.Common.{◌≡◌, refl, Bool, true, false, cond, Option, Some, None, ap}
use Rattle.std.specs.Prelude.{is_none, is_some, not}
use Rattle.std.specs.Option.{option_map}
use Rattle.std.proofs.lemmas.Option.{same_Some}

pub there : {X : Type 0} (b : Bool) (x y : X) → Some y ≡ cond b (Some x) None → (b ≡ true) × (y ≡ x)
there true x y is = (refl, same_Some y x is)
there false x y is = absurd cc

pub kept : {X : Type 0} (b : Bool) (x y : X) → Some y ≡ cond b None (Some x) → (b ≡ false) × (y ≡ x)
kept true x y is = absurd cc
kept false x y is = (refl, same_Some y x is)

pub lost : {X : Type 0} (b : Bool) (x : X) → None ≡ cond b None (Some x) → b ≡ true
lost true x is = refl
lost false x is = absurd cc

-- whether a value that is read is not there
pub none_read : {X Y : Type 0} (f : X → Y) (o : Option X) (p : Option Y) (b : Bool) → is_some o ≡ not b → option_map f o ≡ p → b ≡ is_none p
none_read f None p true e is = ap is_none is
none_read f None p false e is = absurd cc
none_read f (Some x) p true e is = absurd cc
none_read f (Some x) p false e is = ap is_none is
