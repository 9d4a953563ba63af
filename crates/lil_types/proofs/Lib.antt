mod FieldNames
mod Sums
