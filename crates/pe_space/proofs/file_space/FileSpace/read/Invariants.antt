use Rattle.std.proofs.Common.{◌≡◌, drop, length}
use Rattle.pe_space.specs.Content.{byte_in}
use Rattle.pe_space.proofs.Covering.{in_slot_of}
use Rattle.pe_space.proofs.Windows.{Still}
use Rattle.pe_space.proofs.file_space.FileSpace.read.Given as goal

-- each byte of the window is right, or in a slot that is still to be written
abbrev pub invariant-loop-slot : goal.invariant-loop-slot
invariant-loop-slot g l = record {
  len : length l.window ≡ length l.fn.window;
  still : Still (byte_in l.self l.number) (in_slot_of l.width) l.start (drop l.slot-index l.slot-items) l.window;
}
