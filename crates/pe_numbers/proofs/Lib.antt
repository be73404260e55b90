mod NumberRows
pub mod Writing
