mod Characters
mod Digits
