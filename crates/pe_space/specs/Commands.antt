-- What commands return, and how they change a space.
use Rattle.std.specs.Prelude.{ℕ, List, [], ◌∷◌, Option, None, Some, Result, Ok, Err}
use Rattle.pe_view.specs.declared.fault.Fault.{Fault}
use Rattle.pe_space.specs.declared.reply.Command.{Command}
use Rattle.pe_space.specs.declared.reply.Command.TheVariants.{Byte, Window, Move, Base}
use Rattle.pe_space.specs.declared.reply.Reply.{Reply}
use Rattle.pe_space.specs.declared.reply.Reply.TheVariants as replies
use Rattle.pe_space.specs.Content.{Content, byte_at, window_at, base_at}
use Rattle.pe_space.specs.Moves.{move_fault, moved, moved_counts}

abbrev pub window_reply : {A : Type 0} → Result (List ℕ) Fault → Reply A
window_reply (Ok bytes) = replies.Bytes bytes
window_reply (Err fault) = replies.Refused fault

abbrev pub move_reply : {A : Type 0} → Content → ℕ → Option Fault → Reply A
move_reply c i None = replies.Moved (moved_counts c i)
move_reply c i (Some fault) = replies.Refused fault

abbrev pub reply_to : {A : Type 0} → Command → Content → Reply A
reply_to (Byte address) c = replies.Byte (byte_at c address)
reply_to (Window address count) c = window_reply (window_at c address count)
reply_to (Move image base) c = move_reply c image (move_fault c image base)
reply_to (Base image) c = replies.Base (base_at c image)

abbrev pub moved_unless : Content → ℕ → ℕ → Option Fault → Content
moved_unless c i base None = moved c i base
moved_unless c i base (Some fault) = c

-- an accepted move changes one base; no other command changes anything
abbrev pub after : Command → Content → Content
after (Byte address) c = c
after (Window address count) c = c
after (Move image base) c = moved_unless c image base (move_fault c image base)
after (Base image) c = c

abbrev pub replies_of : {A : Type 0} → List Command → Content → List (Reply A)
replies_of [] c = []
replies_of (command ∷ commands) c = reply_to command c ∷ replies_of commands (after command c)

abbrev pub after_all : List Command → Content → Content
after_all [] c = c
after_all (command ∷ commands) c = after_all commands (after command c)
