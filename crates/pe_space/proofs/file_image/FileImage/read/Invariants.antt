use Rattle.std.proofs.Common.{◌≡◌, drop, length}
use Rattle.pe_space.specs.Content.{in_field}
use Rattle.pe_space.specs.Windows.{fixed_at}
use Rattle.pe_space.proofs.Windows.{Still}
use Rattle.pe_space.proofs.file_image.FileImage.read.Given as goal

-- each byte of the window is right, or in a field that is still to be written
abbrev pub invariant-loop-fixup : goal.invariant-loop-fixup
invariant-loop-fixup g l = record {
  len : length l.window ≡ length l.fn.window;
  still : Still (fixed_at l.self) in_field l.start (drop l.fixup-index l.fixup-items) l.window;
}
