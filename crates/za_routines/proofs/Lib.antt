pub mod Turning
pub mod Known
pub mod Limits
pub mod Later
pub mod Ways
pub mod Tails
pub mod Can
pub mod AtOnce
