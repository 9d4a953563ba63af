mod Entries
mod Known
