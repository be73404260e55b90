pub mod ImageBytes
