-- The last column of a listing.
use Rattle.std.specs.Prelude.{ℕ, List, ◌++◌, Some, None, codes, decimal, Option}
use Rattle.codec.specs.FrameTypes.{codes_text}
use Rattle.terms.specs.declared.refusal.Refusal.{Refusal}
use Rattle.terms.specs.Refusals.{refusal_number}
use Rattle.ends.specs.declared.answer.Answer.{Answer}
use Rattle.states.specs.declared.reason.Release.{Release}
use Rattle.states.specs.declared.reason.Release.TheVariants.{Own, Far}
use Rattle.states.specs.declared.state.Status.{Status}
use Rattle.states.specs.declared.state.Status.TheVariants as status
use Rattle.states.specs.Reasons.{reason_codes}
use Rattle.rehearsal.specs.declared.columns.Why.{Why}
use Rattle.rehearsal.specs.declared.columns.Why.TheVariants as why

-- a refused call says so; else an end that is out says why
abbrev pub why_status : Status → Why
why_status status.WaitAu2 = why.Nothing
why_status status.WaitAr = why.Nothing
why_status status.Listen = why.Nothing
why_status status.WaitAu3 = why.Nothing
why_status status.WaitEc = why.Nothing
why_status status.WaitFirst = why.Nothing
why_status status.Up = why.Nothing
why_status (status.Out release) = why.Out release

abbrev pub why_refused : Option Refusal → Status → Why
why_refused (Some x) st = why.Refused x
why_refused None st = why_status st

abbrev pub why_of : Answer → Why
why_of r = why_refused r.refused r.status

-- the far end's reason has an f before it
abbrev pub release_text : Release → List ℕ
release_text (Own r) = codes_text (reason_codes r)
release_text (Far c) = codes "f" ++ codes_text c

abbrev pub why_text : Why → List ℕ
why_text why.Nothing = codes "-"
why_text (why.Refused x) = codes "no" ++ decimal (refusal_number x)
why_text (why.Out release) = release_text release
