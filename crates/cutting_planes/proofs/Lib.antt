mod Lowered
mod Weakened
