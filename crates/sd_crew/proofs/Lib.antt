mod Working
mod Crews
