use Rattle.std.proofs.Common.{◌≡◌, take}
use Rattle.std.specs.List.{list_all}
use Rattle.pe_json.specs.Strings.{is_plain}
use Rattle.pe_json.proofs.string.is_plain_piece.Given as goal

abbrev pub invariant-loop-byte : goal.invariant-loop-byte
invariant-loop-byte l = l.all ≡ list_all is_plain (take l.byte-index l.piece)
