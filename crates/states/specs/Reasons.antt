-- The two code bytes of each reason for a release.
use Rattle.std.specs.Prelude.{ℕ}
use Rattle.codec.specs.declared.frame_type.ReasonCodes.{ReasonCodes}
use Rattle.codec.specs.FrameTypes.{rule_of}
use Rattle.states.specs.declared.reason.Reason.{Reason}
use Rattle.states.specs.declared.reason.Reason.TheVariants as reason
use Rattle.states.specs.declared.reason.Release.{Release}
use Rattle.states.specs.declared.reason.Release.TheVariants.{Own, Far}

-- a reason and its sub-reason
abbrev pub codes : ℕ → ℕ → ReasonCodes
codes a b = record { reason = a; sub_reason = b }

abbrev pub reason_codes : Reason → ReasonCodes
reason_codes reason.Stopped = codes 0 0
reason_codes reason.WrongSession = codes 4 4
reason_codes reason.UnexpectedFrame = codes 5 1
reason_codes reason.FlagClear = codes 6 1
reason_codes reason.FlagSet = codes 6 2
reason_codes reason.SetupTimeout = codes 7 3
reason_codes reason.Malformed = codes 8 1
reason_codes reason.Au1Fixed = codes 8 5
reason_codes reason.NotAu2 = codes 9 1
reason_codes reason.NotAu3 = codes 9 2
reason_codes reason.NotAr = codes 9 3
reason_codes (reason.WrongLength t) = (rule_of t).wrong_length
reason_codes reason.OtherOption = codes 128 2
reason_codes reason.WrongVersion = codes 128 3
reason_codes reason.WrongPeriod = codes 128 17
reason_codes reason.FirstTimeout = codes 128 4
reason_codes reason.AckTimeout = codes 128 5
reason_codes reason.CounterUsedUp = codes 128 16
reason_codes reason.WrongAge = codes 129 1
reason_codes reason.BeyondWindow = codes 129 3

-- what an empty string from the far end stands for
abbrev pub bare_codes : ReasonCodes
bare_codes = codes 127 0

abbrev pub release_codes : Release → ReasonCodes
release_codes (Own r) = reason_codes r
release_codes (Far c) = c
