use Rattle.std.proofs.Common.{◌≡◌, ◌+◌, ◌-◌, ◌*◌, ◌<◌, ◌≤◌, ℕ}
use Rattle.std.specs.List.{list_all, range_with_len}
use Rattle.pe_layout.specs.Image.{number_at}
use Rattle.pe_layout.specs.Layout.{headers_of, image_of}
use Rattle.pe_parts.specs.AtHand.{held_end, has_text}
use Rattle.pe_parts.specs.Packed.{IsPieceAtHand}
use Rattle.pe_parts.proofs.exports.holds_names.Given as goal

abbrev pub invariant-loop-index : goal.invariant-loop-index
invariant-loop-index l = record {
  texts : (k : ℕ) → k < l.index → IsPieceAtHand (headers_of l.layout) (number_at 4 (image_of l.layout) (l.names + 4 * k));
  piece : (k : ℕ) → l.piece.start ≤ k → k < l.piece.end → held_end (headers_of l.layout) k ≡ l.piece.end;
  same : list_all (λ k. has_text (headers_of l.layout) (number_at 4 (image_of l.layout) (l.names + 4 * k))) (range_with_len 0 l.count)
      ≡ list_all (λ k. has_text (headers_of l.layout) (number_at 4 (image_of l.layout) (l.names + 4 * k))) (range_with_len l.index (l.count - l.index));
}
