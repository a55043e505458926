-- The counts of a report.
use Rattle.std.specs.Prelude.{ℕ, ◌+◌, ◌-◌, ◌^◌, min, cond, Ok, Err, Result}
use Rattle.terms.specs.declared.refusal.Refusal.{Refusal}
use Rattle.inspector.specs.declared.session.Verdict.TheVariants.{Same, Different, Unknown}
use Rattle.inspector.specs.declared.tally.Seen.{Seen}
use Rattle.inspector.specs.declared.tally.Seen.TheVariants.{Refused, Other, Data}
use Rattle.inspector.specs.declared.tally.Outcome.{Outcome}
use Rattle.inspector.specs.declared.tally.Outcome.TheVariants.{Note, Wrong, Frame, Packet, Crc}
use Rattle.inspector.specs.declared.tally.Tally.{Tally}
use Rattle.inspector.specs.Sessions.{FindingValue, bare_di_found, au1_found, au2_found, au3_found, ar_found, di_found, dt_found}

-- what a frame counts as: refused, a data frame by its verdict, or any other frame
abbrev pub seen_as : Result FindingValue Refusal → Seen
seen_as (Err e) = Refused
seen_as (Ok bare_di_found) = Other
seen_as (Ok (au1_found rb)) = Other
seen_as (Ok (au2_found mix ra)) = Other
seen_as (Ok (au3_found mix rc)) = Other
seen_as (Ok (ar_found rb echo)) = Other
seen_as (Ok (di_found towards codes)) = Other
seen_as (Ok (dt_found towards telegram word verdict)) = Data verdict

-- no line yet
abbrev pub nothing : Tally
nothing = record { lines = 0; wrong = 0; frames = 0; packets = 0; refused = 0; same = 0; different = 0; unknown = 0; crcs = 0; disagreeing = 0 }

-- one more, as far as 64 bits go
abbrev pub more : ℕ → ℕ
more n = min (n + 1) (2 ^ 64 - 1)

-- which count a frame raises
abbrev pub with_seen : Tally → Seen → Tally
with_seen t Refused = record { lines = t.lines; wrong = t.wrong; frames = t.frames; packets = t.packets; refused = more t.refused; same = t.same; different = t.different; unknown = t.unknown; crcs = t.crcs; disagreeing = t.disagreeing }
with_seen t Other = t
with_seen t (Data Same) = record { lines = t.lines; wrong = t.wrong; frames = t.frames; packets = t.packets; refused = t.refused; same = more t.same; different = t.different; unknown = t.unknown; crcs = t.crcs; disagreeing = t.disagreeing }
with_seen t (Data Different) = record { lines = t.lines; wrong = t.wrong; frames = t.frames; packets = t.packets; refused = t.refused; same = t.same; different = more t.different; unknown = t.unknown; crcs = t.crcs; disagreeing = t.disagreeing }
with_seen t (Data Unknown) = record { lines = t.lines; wrong = t.wrong; frames = t.frames; packets = t.packets; refused = t.refused; same = t.same; different = t.different; unknown = more t.unknown; crcs = t.crcs; disagreeing = t.disagreeing }

-- one line more, and what it was
abbrev pub with_line : Tally → ℕ → ℕ → ℕ → ℕ → ℕ → Tally
with_line t wrong frames packets crcs disagreeing =
    record { lines = more t.lines; wrong = wrong; frames = frames; packets = packets; refused = t.refused; same = t.same; different = t.different; unknown = t.unknown; crcs = crcs; disagreeing = disagreeing }

abbrev pub counted : Tally → Outcome → Tally
counted t Note = with_line t t.wrong t.frames t.packets t.crcs t.disagreeing
counted t Wrong = with_line t (more t.wrong) t.frames t.packets t.crcs t.disagreeing
counted t (Frame seen) = with_seen (with_line t t.wrong (more t.frames) t.packets t.crcs t.disagreeing) seen
counted t (Packet seen) = with_seen (with_line t t.wrong t.frames (more t.packets) t.crcs t.disagreeing) seen
counted t (Crc agrees) = with_line t t.wrong t.frames t.packets (more t.crcs) (cond agrees t.disagreeing (more t.disagreeing))
