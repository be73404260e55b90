pub mod Unbound
