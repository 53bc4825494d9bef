mod Found
mod Amongst
mod Numbers
mod Keyed
mod Indexed
