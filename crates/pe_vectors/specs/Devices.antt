-- The devices as contracts see them.
use Rattle.std.specs.Prelude.{ℕ, ◌-◌, Bool, List, Option, take, vec_len, vec_capacity}
use Rattle.pe_vectors.specs.declared.devices.StepReader.{StepReader}
use Rattle.pe_vectors.specs.declared.devices.StepWriter.{StepWriter}

-- all bytes of a reader
abbrev pub bytes_of : StepReader → List ℕ
bytes_of reader = reader.bytes.now

-- the bytes that it has returned
abbrev pub given_by : StepReader → List ℕ
given_by reader = take reader.given reader.bytes.now

-- whether its end was reached
abbrev pub has_ended : StepReader → Bool
has_ended reader = reader.ended

-- how many of its reads failed
abbrev pub failed_reads : StepReader → ℕ
failed_reads reader = reader.failures

-- the bytes that a writer has taken
abbrev pub taken_by : StepWriter → List ℕ
taken_by writer = writer.taken.items

-- how many more bytes it has room for
abbrev pub room_of : StepWriter → ℕ
room_of writer = vec_capacity writer.taken - vec_len writer.taken

-- how many of its writes failed
abbrev pub failed_writes : StepWriter → ℕ
failed_writes writer = writer.failures

-- the most bytes that a call returns or takes
abbrev pub step_of_reads : StepReader → ℕ
step_of_reads reader = reader.step

abbrev pub step_of_writes : StepWriter → ℕ
step_of_writes writer = writer.step

-- the number of the next call, and of the one that fails
abbrev pub next_read : StepReader → ℕ
next_read reader = reader.schedule.calls

abbrev pub failing_read : StepReader → Option ℕ
failing_read reader = reader.schedule.failing

abbrev pub next_write : StepWriter → ℕ
next_write writer = writer.schedule.calls

abbrev pub failing_write : StepWriter → Option ℕ
failing_write writer = writer.schedule.failing
