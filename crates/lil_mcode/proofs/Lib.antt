mod Lists
mod Loading
mod NoRows
mod Rows
mod Running
mod Search
mod Steps
mod WordLaws
