mod Notes
mod Turns
mod Found
