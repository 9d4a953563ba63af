pub mod Lists
pub mod Forms
mod FieldNames
pub mod SortedSpans
