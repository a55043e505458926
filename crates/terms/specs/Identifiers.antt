-- The two halves of an identifier as one number.
use Rattle.std.specs.Prelude.{ℕ, ◌+◌, ◌*◌, ◌^◌}
use Rattle.terms.specs.declared.identifier.Identifier.{Identifier}

abbrev pub identifier_number : Identifier → ℕ
identifier_number i = i.first * 2 ^ 32 + i.second
