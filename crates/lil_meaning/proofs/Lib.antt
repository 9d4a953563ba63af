mod Samples
mod Tour
