-- Layouts: a lawful one has 1 to 512 bytes, the absent one has none.
use Rattle.std.specs.Prelude.{Bool, ◌&&◌, ◌==◌, nat_le}
use Rattle.records.specs.declared.layout.Layout.{Layout}

abbrev pub absent : Layout
absent = record { length = 0 }

abbrev pub lawful : Layout → Bool
lawful l = nat_le 1 l.length && nat_le l.length 512

abbrev pub alike : Layout → Layout → Bool
alike a b = a.length == b.length
