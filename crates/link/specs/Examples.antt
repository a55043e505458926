-- The proved examples: one table, about the definitions that the promises cite.
use Rattle.std.specs.Prelude.{◌≡◌, true, false, [], ◌∷◌, pos, ◌-ℤ◌, Ok, Err, ◌==◌}
use Rattle.terms.specs.declared.counters.SequenceNumber.{SequenceNumber}
use Rattle.safety.specs.declared.crc.Channel.TheVariants.{First, Second}
use Rattle.safety.specs.Remainder.{polynomial, remainder}
use Rattle.safety.specs.Words.{code_of}
use Rattle.texts.specs.declared.fault.Fault.TheVariants.{DifferingBits}
use Rattle.texts.specs.Faults.{whole_line}
use Rattle.params.specs.declared.values.Values.{Values}
use Rattle.params.specs.Checks.{apart}
use Rattle.states.specs.declared.reason.Reason.TheVariants as reason
use Rattle.ends.specs.declared.ways.FetchWay.{FetchWay}
use Rattle.ends.specs.declared.ways.FetchWay.TheVariants as fetch
use Rattle.ends.specs.declared.ways.TickWay.TheVariants as tick
use Rattle.states.specs.Reasons.{codes, reason_codes}
use Rattle.ends.specs.Ways.{greatest, numbered, age, timely, up_way}

-- the checks of one byte, and its code before the word: 01 leaves the two polynomials, 00 leaves nothing
abbrev pub CodeExamples : Type 0
CodeExamples =
    (remainder (polynomial First) (0x01 ∷ []) ≡ 0x100D4E63)
    × (remainder (polynomial Second) (0x01 ∷ []) ≡ 0x8CE56011)
    × (code_of 0 (0x01 ∷ []) ≡ 0x100D4E638CE56011)
    × (remainder (polynomial First) (0x00 ∷ []) ≡ 0)
    × (remainder (polynomial Second) (0x00 ∷ []) ≡ 0)
    × (code_of 0 (0x00 ∷ []) ≡ 0)

-- five differing bits are too few, six are enough
abbrev pub BitsExamples : Type 0
BitsExamples = (apart 0x1F 0 ≡ Err (whole_line DifferingBits)) × (apart 0x3F 0 ≡ Ok tt)

-- last 7, window 3: 7 is dropped, 10 is judged on, 11 releases with 129/3
abbrev pub WindowExamples : Type 0
WindowExamples =
    (v : Values) → v.window ≡ 3 → (way : FetchWay)
    → (numbered v record { 0 = 7 } 7 way ≡ fetch.Drops)
    × (numbered v record { 0 = 7 } 10 way ≡ way)
    × (numbered v record { 0 = 7 } 11 way ≡ fetch.Releases reason.BeyondWindow)
    × (reason_codes reason.BeyondWindow ≡ codes 129 3)

-- expectation 100, from -2 to 3: EC 97 and 102 pass, 96 and 103 do not
abbrev pub AgeExamples : Type 0
AgeExamples =
    (v : Values) → v.mmin ≡ (pos 0 -ℤ pos 2) → v.mmax ≡ 3
    → (timely v (age 4 record { 0 = 96 } record { 0 = 97 }) ≡ true)
    × (timely v (age 4 record { 0 = 96 } record { 0 = 102 }) ≡ true)
    × (timely v (age 4 record { 0 = 96 } record { 0 = 96 }) ≡ false)
    × (timely v (age 4 record { 0 = 96 } record { 0 = 103 }) ≡ false)

-- ask 5, wait 2: AM+REQ goes out at count 5, count 7 is still up, 8 releases with 128/5
abbrev pub CountExamples : Type 0
CountExamples =
    (v : Values) → v.ask.0 ≡ 5 → v.wait.0 ≡ 2 → (sent : SequenceNumber) → (sent.0 == greatest) ≡ false
    → (up_way v 5 sent ≡ tick.Sends true)
    × (up_way v 7 sent ≡ tick.Sends false)
    × (up_way v 8 sent ≡ tick.Releases reason.AckTimeout)
    × (reason_codes reason.AckTimeout ≡ codes 128 5)
