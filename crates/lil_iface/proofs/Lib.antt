mod Among
mod Mapped
mod Ordered
mod OwnNames
mod Told
