pub mod Keepable
