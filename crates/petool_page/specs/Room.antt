-- What a sink over a caller's room tells of its calls.
use Rattle.std.specs.Prelude.{ℕ, List, ◌∷◌, take}
use Rattle.petool_page.specs.declared.writer.RoomWriter.{RoomWriter}

-- the room as it is now
abbrev pub room_of : RoomWriter → List ℕ
room_of writer = writer.room.now

-- the number of the reference to the room
abbrev pub reference_of : RoomWriter → ℕ
reference_of writer = writer.room.ghost_name

-- how many bytes it has taken
abbrev pub len_of : RoomWriter → ℕ
len_of writer = writer.len

-- the bytes that it has taken
abbrev pub bytes_taken : RoomWriter → List ℕ
bytes_taken writer = take writer.len writer.room.now

-- the number of the reference, and these bytes
abbrev pub numbered_bytes : RoomWriter → List ℕ
numbered_bytes writer = writer.room.ghost_name ∷ take writer.len writer.room.now

-- how many of its writes failed
abbrev pub failed_writes : RoomWriter → ℕ
failed_writes writer = writer.failures
