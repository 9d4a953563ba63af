mod Limits
mod Making
mod Kept
mod Procedures
mod Right
mod UnitFaults
