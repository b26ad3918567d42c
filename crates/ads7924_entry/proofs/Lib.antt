-- No second answer satisfies the promise of a public entry.
pub mod Only
