mod Longer
mod Rows
