-- The columns of a sheet: the place and the range of each, named once.
use Rattle.std.specs.Prelude.{ℕ, ◌^◌, ◌<◌, Bool, ◌&&◌, List, ℤ, pos, neg_ℤ, ◌≤ℤ◌, codes, bit_xor, count_ones, int_le}
use Rattle.terms.specs.declared.sides.Sides.{Sides}
use Rattle.texts.specs.declared.columns.Column.{Column}
use Rattle.texts.specs.declared.numbers.Range.{Range}
use Rattle.texts.specs.Numbers.{Within}

-- the line of names
abbrev pub names : List ℕ
names = codes "role own1 own2 far1 far2 version period window mmin mmax ask wait setup data ec"

-- a column of numbers, by its place from 1, from the lowest to the highest
abbrev pub column : ℕ → ℕ → ℕ → Column
column place low high = record { place = place; range = record { low = low; high = high } }

-- the role is the line's own
abbrev pub roles : Sides Column
roles = record { initiator = column 1 1 1; responder = column 1 0 0 }

abbrev pub versions : Column
versions = column 6 0 255

abbrev pub periods : Column
periods = column 7 1 60000

abbrev pub windows : Column
windows = column 8 1 1000

-- how far below zero
abbrev pub mmins : Column
mmins = column 9 1 1000

abbrev pub mmaxs : Column
mmaxs = column 10 0 1000

abbrev pub asks : Column
asks = column 11 1 10000

abbrev pub waits : Column
waits = column 12 1 1000

abbrev pub setups : Column
setups = column 13 1 10000

abbrev pub datas : Column
datas = column 14 3 1023

abbrev pub ecs : Column
ecs = column 15 0 4294967295

-- between two halves of identifiers: how many bits differ, and how many may
abbrev pub distance : ℕ → ℕ → ℕ
distance own far = count_ones (bit_xor own far)

abbrev pub differing : Range
differing = record { low = 6; high = 26 }

-- a value lies within its column's range
abbrev pub Keeps : Column → ℕ → Type 0
Keeps c n = Within c.range n

-- a value lies below zero, as far as its column's range says; the same as a test
abbrev pub KeepsBelow : Column → ℤ → Type 0
KeepsBelow c z = (neg_ℤ (pos c.range.high) ≤ℤ z) × (z ≤ℤ neg_ℤ (pos c.range.low))

abbrev pub keeps_below : Column → ℤ → Bool
keeps_below c z = int_le (neg_ℤ (pos c.range.high)) z && int_le z (neg_ℤ (pos c.range.low))

-- two halves of identifiers have 32 bits each
abbrev pub Halves : ℕ → ℕ → Type 0
Halves own far = (own < 2 ^ 32) × (far < 2 ^ 32)

-- they differ enough, and not too much
abbrev pub Apart : ℕ → ℕ → Type 0
Apart own far = Within differing (distance own far)
