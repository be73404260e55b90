-- Two forms of images are the same or not.
use Rattle.std.proofs.Common.{◌≡◌, refl}
use Rattle.pe_head.specs.declared.optional.Magic.{Magic}
use Rattle.pe_head.specs.declared.optional.Magic.TheVariants.{Pe32, Pe32Plus}
use Rattle.pe_set.specs.SetFaults.{same_magic}

pub same_magic-sameb : (a b : Magic) → denote.Enum.Bare.sameb Rattle.pe_head.specs.contracts.optional.Magic.the_type a b ≡ same_magic a b
same_magic-sameb Pe32 Pe32 = refl
same_magic-sameb Pe32 Pe32Plus = refl
same_magic-sameb Pe32Plus Pe32 = refl
same_magic-sameb Pe32Plus Pe32Plus = refl
