-- Strings whose two checks are known from elsewhere.
use Rattle.std.specs.Prelude.{ℕ, ◌&&◌, List, ◌==◌}
use Rattle.safety.specs.declared.crc.Channel.TheVariants.{First, Second}
use Rattle.safety.specs.Remainder.{polynomial, remainder}
use Rattle.captures.specs.declared.check.Checks.{Checks}
use Rattle.captures.specs.declared.check.Walk.{Walk}

-- the two checks of a string
abbrev pub checks_of : List ℕ → Checks
checks_of s = record { first = remainder (polynomial First) s; second = remainder (polynomial Second) s }

-- the two checks of a string, and whether they are those given with it
abbrev pub walked : List ℕ → Checks → Walk
walked s given =
    record {
      checks = checks_of s;
      agrees = remainder (polynomial First) s == given.first && (remainder (polynomial Second) s == given.second);
    }
