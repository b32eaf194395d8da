mod Drawings
mod Numbers
mod RunCalls
mod Sections
mod Turns
