mod Bytes
mod LayingOut
mod Moving
mod PartsWriting
mod Rows
mod Sections
mod Writing
