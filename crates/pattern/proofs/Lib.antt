-- How a program tells a NaN.
pub mod Nan
