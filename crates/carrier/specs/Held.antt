-- What a queue holds.
use Rattle.std.specs.Prelude.{ℕ, List, vec_items, vec_len}
use Rattle.carrier.specs.declared.queue.Queue.{Queue}
use Rattle.carrier.specs.Packing.{unpacked}
use Rattle.carrier.specs.Rules.{Strings}

-- the strings, the oldest first
abbrev pub held : Queue → Strings
held q = unpacked q.count (vec_items q.memory)

-- the bytes of the memory
abbrev pub contents : Queue → List ℕ
contents q = vec_items q.memory

-- how many bytes the memory has
abbrev pub size : Queue → ℕ
size q = vec_len q.memory
