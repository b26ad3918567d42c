-- That the number of each answer of the driver called by itself is document 01's.
pub mod Listed
