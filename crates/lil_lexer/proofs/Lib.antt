mod Beginnings
mod Comments
mod CutLaws
mod Numerals
mod PieceAgain
mod PieceLaws
mod Runs
mod Values
