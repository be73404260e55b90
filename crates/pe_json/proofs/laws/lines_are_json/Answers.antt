use Rattle.pe_json.proofs.LineValues.{file_line_is, unread_line_is}
use Rattle.pe_json.proofs.laws.lines_are_json.Goals as goal

pub returns : goal.returns
returns c = record { file = file_line_is; unread = unread_line_is }
