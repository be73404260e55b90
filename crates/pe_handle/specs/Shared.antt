-- What an owner of a space has.
use Rattle.std.specs.Prelude.{Bool, true, false}
use Rattle.std.specs.Arc.{arc_value}
use Rattle.pe_space.specs.Content.{Content}
use Rattle.pe_handle.specs.declared.owners.Owners.{Owners}
use Rattle.pe_handle.specs.declared.owners.Owners.TheVariants.{Alone, Together}

-- a space, and whether it has been shared, so that it may have another owner
pub record SharedContent : Type 0 where
  pub content : Content
  pub is_shared : Bool

abbrev pub shared_content : Owners → SharedContent
shared_content (Alone space) = record { content = space; is_shared = false }
shared_content (Together space) = record { content = arc_value space; is_shared = true }
