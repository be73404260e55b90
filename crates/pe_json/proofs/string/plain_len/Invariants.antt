use Rattle.std.proofs.Common.{◌≡◌, take, true}
use Rattle.std.specs.List.{list_all}
use Rattle.pe_json.specs.Strings.{is_plain}
use Rattle.pe_json.proofs.string.plain_len.Given as goal

abbrev pub invariant-loop-place : goal.invariant-loop-place
invariant-loop-place l = list_all is_plain (take l.place l.bytes) ≡ true
