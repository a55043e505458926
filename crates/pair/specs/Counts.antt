-- The transport numbers of the two sides.
use Rattle.std.specs.Prelude.{ℕ, ◌+◌, ◌-◌, ◌%◌, Bool, true, false, cond, Some, None, Option, nat_le}
use Rattle.terms.specs.declared.role.Role.{Role}
use Rattle.terms.specs.declared.sides.Sides.{Sides}
use Rattle.terms.specs.Sides.{at, with_side}
use Rattle.packets.specs.declared.packet.TransportNumber.{TransportNumber}
use Rattle.pair.specs.declared.counters.Numbers.{Numbers}

-- the numbers of both sides
abbrev pub Counters : Type 0
Counters = Sides Numbers

-- the number of the next packet from a side
abbrev pub next_number : Counters → Role → ℕ
next_number c side = (at c side).next.0

-- the number of the last packet that was handed out at a side, if any was
abbrev pub last_number : Counters → Role → Option TransportNumber
last_number c side = (at c side).last

-- a side's numbers after one more packet from it: after 65,535 comes 0
abbrev pub one_more : Numbers → Numbers
one_more n = record n { next = record { 0 = (n.next.0 + 1) % 65536 } }

-- the numbers after one more packet from a side
abbrev pub advanced : Counters → Role → Counters
advanced c side = with_side c side (one_more (at c side))

-- a side's numbers after a packet of a number was handed out there
abbrev pub handed_out : Numbers → TransportNumber → Numbers
handed_out n number = record n { last = Some number }

-- the numbers after a packet of a number was handed out at a side
abbrev pub noted : Counters → Role → TransportNumber → Counters
noted c side number = with_side c side (handed_out (at c side) number)

-- how far a number is ahead of another, modulo 65,536
abbrev pub ahead_of : ℕ → ℕ → ℕ
ahead_of n last = (n + 65536 - last) % 65536

-- a packet is new if none was handed out yet, or its number is 1 to 32,767 ahead of the last
abbrev pub is_newer : Option TransportNumber → ℕ → Bool
is_newer None n = true
is_newer (Some last) n = cond (nat_le 1 (ahead_of n last.0)) (nat_le (ahead_of n last.0) 32767) false
