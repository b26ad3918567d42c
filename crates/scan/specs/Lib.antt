-- Where a byte stands first.
pub mod Scan
