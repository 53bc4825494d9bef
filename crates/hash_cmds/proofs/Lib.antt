mod HashRows
mod TakenFields
mod Counting
