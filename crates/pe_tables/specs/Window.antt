-- The bytes of an image that were read at once. No contract of a public function cites it.
use Rattle.std.specs.Prelude.{◌≡◌, ℕ, ◌+◌, ◌≤◌, take}
use Rattle.pe_layout.specs.Image.{LaidOut, bytes_at}
use Rattle.pe_tables.specs.declared.window.Window.{Window}

-- the bytes in a window are those of this image
pub record IsWindowOf (i : LaidOut) (w : Window) : Type 0 where
  pub few : w.len ≤ 512
  pub inside : w.start + w.len ≤ i.size
  pub bytes : take w.len w.bytes ≡ bytes_at i w.start w.len

-- the bytes at an RVA are among them
pub record Holds (w : Window) (rva width : ℕ) : Type 0 where
  pub begins : w.start ≤ rva
  pub ends : rva + width ≤ w.start + w.len
