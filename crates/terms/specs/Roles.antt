-- The two parties of a connection.
use Rattle.std.specs.Prelude.{ℕ, List, codes}
use Rattle.terms.specs.declared.role.Role.{Role}
use Rattle.terms.specs.declared.role.Role.TheVariants.{Initiator, Responder}

-- the other party
abbrev pub far : Role → Role
far Initiator = Responder
far Responder = Initiator

-- the flag in the first byte of a frame: 1 towards the initiator
abbrev pub flag : Role → ℕ
flag Initiator = 1
flag Responder = 0

-- the letter by which scripts and listings name an end
abbrev pub letter : Role → List ℕ
letter Initiator = codes "I"
letter Responder = codes "R"
