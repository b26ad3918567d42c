-- Texts: the bytes of one, a number in decimal, and what it is to write one into a buffer.
pub mod Texts
pub mod Writers
