-- What a handle owns: if it is open, a box with one of the owners of an opened image; otherwise nothing.
use Rattle.std.specs.Prelude.{ℕ, List, Bool, true, false, Option, None, Some, option_map}
use Rattle.std.specs.Coded.{Coded, coded_option}
use base.Fml.{Fml, ftrue, ffalse}
use denote.RattleType.{RattleType}
use denote.RawPtr.{Ptr}
use denote.Signature.{static_lft}
use Rattle.std.specs.Global.{Global}
use Rattle.std.specs.contracts.alloc.Global as global
use Rattle.std.specs.contracts.sync.Arc as arc
use Rattle.std.specs.contracts.impls.GlobalAllocator.TheImpl.{ghosts}
use Rattle.std.specs.Box.Ownership.{box_owns}
use Rattle.pe_opened.specs.contracts.opened.OpenedImage as opened

abbrev pub image_row : RattleType
image_row = arc.the_row (opened.the_row static_lft) global.the_row ghosts

-- one of the owners of an opened image
abbrev pub Owner : Type 0
Owner = image_row.Denot

abbrev pub image_coded : Coded (Option Owner)
image_coded = coded_option image_row.coded

-- the file of the image of a handle
abbrev pub file_in : Option Owner → Option (List ℕ)
file_in = option_map (λ owner. owner.value)

-- by the allocator, whether the handle is open, the address, and the owner
abbrev pub held : Global → Bool → Ptr → Option Owner → Fml
held alloc false state None = ftrue
held alloc false state (Some image) = ffalse
held alloc true state None = ffalse
held alloc true state (Some image) = box_owns (ghosts.dealloc_token alloc) image_row state image
