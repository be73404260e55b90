-- What a handle owns: if it is open, a box with one of the owners of a space; otherwise nothing.
use Rattle.std.specs.Prelude.{Bool, true, false, Option, None, Some, option_map}
use Rattle.std.specs.Coded.{Coded, coded_option}
use base.Fml.{Fml, ftrue, ffalse}
use denote.RattleType.{RattleType}
use denote.RawPtr.{Ptr}
use denote.Signature.{static_lft}
use Rattle.std.specs.Global.{Global}
use Rattle.std.specs.contracts.impls.GlobalAllocator.TheImpl.{ghosts}
use Rattle.std.specs.Box.Ownership.{box_owns}
use Rattle.pe_space.specs.Content.{Content}
use Rattle.pe_handle.specs.Shared.{SharedContent}
use Rattle.pe_handle.specs.contracts.owner.Owner as owner

abbrev pub owner_row : RattleType
owner_row = owner.the_row static_lft

abbrev pub owner_coded : Coded (Option owner_row.Denot)
owner_coded = coded_option owner_row.coded

-- the space of a handle
abbrev pub space_of : Option SharedContent → Option Content
space_of = option_map (λ o. o.content)

-- whether the space of a handle has been shared, so that another handle may have it too
abbrev pub is_shared : Option SharedContent → Bool
is_shared None = false
is_shared (Some o) = o.is_shared

-- by the allocator, whether the handle is open, the address, and the owner
abbrev pub held : Global → Bool → Ptr → Option SharedContent → Fml
held alloc false state None = ftrue
held alloc false state (Some o) = ffalse
held alloc true state None = ffalse
held alloc true state (Some o) = box_owns (ghosts.dealloc_token alloc) owner_row state o
