-- What blocks and their lists own.
use Rattle.std.specs.Prelude.{◌≡◌, ℕ, zero, suc, ◌/◌, ◌^◌, ◌<◌}
use mir.Syntax.{Ty, w128, ty_int, ty_ptr, ty_array}
use prog.Memory.{size}
use base.Fraction.{full_share}
use base.Fml.{Fml, ftrue, fsep, fex, fwand, fat, froom}
use denote.RawPtr.{Ptr, block_ptr, ptr_val, room_for}
use Rattle.page_heap.specs.Class.{block_size}

-- n bytes, as units of 16 that are aligned to 16
abbrev pub units_of : ℕ → Ty
units_of n = ty_array (ty_int w128) (n / 16)

-- room for them at p
abbrev pub bytes_at : Ptr → ℕ → Fml
bytes_at p n = room_for (units_of n) p

-- where a freed block lies, in bytes from the start of an object, and the one after it
pub record Link : Type 0 where
  pub object : ℕ
  pub at : ℕ
  pub next : Ptr

module _ (n : ℕ) where
  -- what makes a freed block one of n bytes again
  abbrev pub rest_of : Link → Fml
  rest_of l = fwand (froom ty_ptr l.object l.at) (froom (units_of n) l.object l.at)

  -- a freed block of n bytes, which begins with the address of the next
  abbrev pub freed : Link → Fml
  freed l = fsep (fat full_share ty_ptr l.object l.at (ptr_val l.next)) (rest_of l)

  -- k of them, the first at p
  abbrev pub chain : ℕ → Ptr → Fml
  chain zero p = ftrue
  chain (suc k) p = fex Link (λ l. fex (p ≡ block_ptr l.object l.at) (λ _. fsep (freed l) (chain k l.next)))

-- the right to give the block for a τ at p back: room for the τ is all of the block again
abbrev pub block_token : Ty → Ptr → Fml
block_token τ p = fex (size τ < 2 ^ 63) (λ _. fwand (room_for τ p) (bytes_at p (block_size (size τ))))
