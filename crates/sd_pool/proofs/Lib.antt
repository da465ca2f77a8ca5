mod Boxed
mod Held
mod Pooled
