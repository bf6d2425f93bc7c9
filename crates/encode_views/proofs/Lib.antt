mod Marks
mod Rows
mod Parts
