mod ById
mod EntryByEntry
mod Writing
