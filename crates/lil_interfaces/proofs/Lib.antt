mod Blocks
mod Constants
mod Filling
mod ImportForms
mod Owning
mod SourceNames
