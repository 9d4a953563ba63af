mod Forms
mod Looking
mod Nearest
