mod Backs
mod Joins
