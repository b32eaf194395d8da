pub mod Loops
pub mod Firsts
pub mod Judgement
pub mod Ascent
pub mod Facts
pub mod Soundness
pub mod Verdicts
