-- An invented row count falls to the rows themselves. Assumes nothing.
use Rattle.rack_theorems.specs.Impostors.{InventedCount}

pub invented_count : InventedCount
invented_count x u l l' t n other h = other h.used
