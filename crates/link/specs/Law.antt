-- The law of the link, over whole runs.
use Rattle.std.specs.Prelude.{◌≡◌, ℕ, ◌+◌, ◌-◌, ◌<◌, ◌≤◌, Bool, true, false, not, ◌⊎◌, List, length, ℤ, pos, ◌+ℤ◌, ◌-ℤ◌, ◌≤ℤ◌, Some, None, Ok, Option, ◌==◌}
use mathlib.Core.List.{Memᴰ}
use Rattle.terms.specs.declared.refusal.Refusal.{Refusal}
use Rattle.terms.specs.declared.refusal.Refusal.TheVariants as refusal
use Rattle.terms.specs.declared.role.Role.{Role}
use Rattle.terms.specs.declared.role.Role.TheVariants.{Initiator, Responder}
use Rattle.codec.specs.Frames.{dt, read_frame}
use Rattle.terms.specs.Roles.{far}
use Rattle.codec.specs.Sealing.{Bears}
use Rattle.codec.specs.Telegrams.{ContentValue, ec_start, am, am_req, am_ack, other, TelegramValue, content_type, read_telegram}
use Rattle.safety.specs.Words.{connection_word}
use Rattle.carrier.specs.Rules.{Meaning}
use Rattle.params.specs.Laws.{InRange}
use Rattle.ends.specs.declared.answer.Answer.{Answer}
use Rattle.ends.specs.declared.answer.Place.{Place}
use Rattle.states.specs.declared.state.State.{State}
use Rattle.states.specs.declared.state.State.TheVariants as state
use Rattle.states.specs.declared.state.Status.TheVariants as status
use Rattle.ends.specs.declared.ways.Exchange.{Exchange}
use Rattle.ends.specs.declared.ways.Exchange.TheVariants as exchange
use Rattle.ends.specs.declared.ways.FetchWay.{FetchWay}
use Rattle.ends.specs.declared.ways.FetchWay.TheVariants as fetch
use Rattle.states.specs.States.{EndValue, status_of, in_up}
use Rattle.ends.specs.Ways.{greatest, fetch_way}
use Rattle.link.specs.Times.{History, new, ◌▸◌, ◌≼◌}
use Rattle.link.specs.Runs.{Sheets, LinkValue, seat, Deed, opens, ticks, fetches, stops, Moment, Ran}

-- Ticks:

-- a tick that is refused by the carrier, a buffer or an end that is out is none; one whose message alone is refused is one
abbrev pub goes_on : Refusal → ℕ
goes_on refusal.CarrierTooNarrow = 0
goes_on refusal.BufferTooShort = 0
goes_on refusal.EndIsOut = 0
goes_on refusal.MessageTooLong = 1
goes_on refusal.EndNotUp = 1
goes_on refusal.StringTooLong = 0
goes_on refusal.PacketLength = 0
goes_on refusal.PacketType = 0
goes_on refusal.FrameType = 0
goes_on refusal.FrameLength = 0
goes_on refusal.FrameFixed = 0

abbrev pub ticked : Option Refusal → ℕ
ticked None = 1
ticked (Some x) = goes_on x

abbrev pub ticks_in : Deed → Answer → ℕ
ticks_in (opens first) r = 0
ticks_in (ticks message) r = ticked r.refused
ticks_in fetches r = 0
ticks_in stops r = 0

-- what counts for a role
abbrev pub of_role : Role → Role → ℕ → ℕ
of_role Initiator Initiator n = n
of_role Initiator Responder n = 0
of_role Responder Initiator n = 0
of_role Responder Responder n = n

-- the ticks of an end up to a time
abbrev pub ticks_until : Role → History Moment → ℕ
ticks_until s new = 0
ticks_until s (h ▸ m) = ticks_until s h + of_role s m.role (ticks_in m.deed m.answer)

-- from the one time to the other
abbrev pub ticks_between : Role → History Moment → History Moment → ℕ
ticks_between s g h = ticks_until s h - ticks_until s g

-- by how much the far end's ticks lead those of s over a stretch; it may be negative
abbrev pub lead : Role → History Moment → History Moment → ℤ
lead s g h = pos (ticks_between (far s) g h) -ℤ pos (ticks_between s g h)

-- Messages:

abbrev pub message_in : ContentValue → Option (List ℕ)
message_in (ec_start version period) = None
message_in (am message) = Some message
message_in (am_req message) = Some message
message_in (am_ack message) = Some message
message_in (other type-byte body) = None

-- a string is a data frame that carries a telegram
pub record Carries (s : List ℕ) (t : TelegramValue) : Type 0 where
  pub towards : Role
  pub telegram : List ℕ
  pub code : List ℕ
  pub frame : read_frame s ≡ Ok (dt towards telegram code)
  pub told : read_telegram telegram ≡ Ok t

-- A tick of s whose message, not empty, went out.
pub record Send (s : Role) (m : Moment) (x : List ℕ) : Type 0 where
  pub role : m.role ≡ s
  pub deed : m.deed ≡ ticks x
  pub some : 0 < length x
  pub string : List ℕ
  pub put : m.put ≡ Some string
  pub telegram : TelegramValue
  pub carries : Carries string telegram
  pub says : message_in telegram.content ≡ Some x

-- A fetch at s that answered a place, with these bytes at it.
pub record Delivery (s : Role) (m : Moment) (x : List ℕ) : Type 0 where
  pub role : m.role ≡ s
  pub deed : m.deed ≡ fetches
  pub place : Place
  pub answer : m.answer.delivered ≡ Some place
  pub got : m.got ≡ x

-- Acceptance:

-- AM+REQ is not accepted where no number is left for its AM+ACK: the end is released
abbrev pub numbered_on : State → Exchange → Bool
numbered_on st exchange.Am = true
numbered_on st exchange.Req = in_up (λ words sent last synced. not (sent.0 == greatest)) true st
numbered_on st exchange.Ack = true

-- a telegram is accepted if it is neither dropped nor met by a release
abbrev pub accepting : State → FetchWay → Bool
accepting st fetch.Drops = false
accepting st (fetch.LeftByFar codes) = false
accepting st (fetch.Releases r) = false
accepting st (fetch.AnswersAu1 rb) = false
accepting st (fetch.AnswersAu2 ra) = false
accepting st (fetch.AnswersAu3 rc) = false
accepting st fetch.AnswersAr = false
accepting st (fetch.Starts sn ec) = true
accepting st (fetch.Takes kind sn ec) = numbered_on st kind

-- A fetch at s whose telegram was accepted.
pub record Accepted (s : Role) (m : Moment) : Type 0 where
  pub role : m.role ≡ s
  pub deed : m.deed ≡ fetches
  pub end : EndValue
  pub held : Bool
  pub was : seat s m.before ≡ Some record { end = end; held = held }
  pub string : List ℕ
  pub took : m.took ≡ Some string
  pub telegram : TelegramValue
  pub carries : Carries string telegram
  pub accepts : accepting end.state (fetch_way end string) ≡ true

-- Synchronising are the ECStart that the initiator accepts, the first telegram accepted in waitfirst, and an AM+ACK accepted in up.
abbrev pub Synchronises : (s : Role) (m : Moment) → Accepted s m → Type 0
Synchronises s m a =
    ((s ≡ Initiator) × (status_of a.end.state ≡ status.WaitEc))
    ⊎ ((status_of a.end.state ≡ status.WaitFirst)
    ⊎ ((status_of a.end.state ≡ status.Up) × (content_type a.telegram.content ≡ 0x88)))

-- The latest synchronising telegram that s accepted by the time h: accepted by the last call of at ▸ m, put by the last call of from ▸ w.
pub record Synchronised (s : Role) (h : History Moment) : Type 0 where
  pub at : History Moment
  pub m : Moment
  pub until : (at ▸ m) ≼ h
  pub accepted : Accepted s m
  pub synchronises : Synchronises s m accepted
  pub latest : (g : History Moment) (n : Moment) → (g ▸ n) ≼ h → (a : Accepted s n) → Synchronises s n a → (g ▸ n) ≼ (at ▸ m)
  pub from : History Moment
  pub w : Moment
  pub earlier : (from ▸ w) ≼ at
  pub sender : w.role ≡ far s
  pub string : w.put ≡ m.took

-- What stands behind a delivery d at s, which came after j: the send whose frame that fetch took, and how old it may be.
pub record Source (sheets : Sheets) (s : Role) (j : History Moment) (d : Moment) (x : List ℕ) : Type 0 where
  pub i : History Moment
  pub m : Moment
  pub earlier : (i ▸ m) ≼ j
  pub send : Send (far s) m x
  pub string : m.put ≡ d.took
  pub sync : Synchronised s (j ▸ d)
  pub not_before : (sync.from ▸ sync.w) ≼ (i ▸ m)
  pub not_too_old :
      pos (ticks_between s (i ▸ m) (j ▸ d))
      ≤ℤ (pos ((sheets s).mmax + (sheets s).wait.0) +ℤ lead s (sync.from ▸ sync.w) (i ▸ m))

-- An end that is up accepted a synchronising telegram, and has ticked at most `ask` + `wait` times since.
pub record Recent (sheets : Sheets) (s : Role) (h : History Moment) : Type 0 where
  pub at : History Moment
  pub m : Moment
  pub until : (at ▸ m) ≼ h
  pub accepted : Accepted s m
  pub synchronises : Synchronises s m accepted
  pub soon : ticks_between s (at ▸ m) h ≤ (sheets s).ask.0 + (sheets s).wait.0

pub record Law (sheets : Sheets) (h : History Moment) : Type 0 where
  -- each delivery had a send of the far end before it, with the same bytes, and it is not too old
  pub delivered_was_sent : (s : Role) (j : History Moment) (d : Moment) (x : List ℕ) → (j ▸ d) ≼ h → Delivery s d x → Source sheets s j d x
  -- later deliveries have later sends, so no send is delivered twice
  pub in_order : (s : Role) (j k : History Moment) (d e : Moment) (x y : List ℕ) → (j ▸ d) ≼ k → (k ▸ e) ≼ h → Delivery s d x → Delivery s e y
      → (u : Source sheets s j d x) (v : Source sheets s k e y) → (u.i ▸ u.m) ≼ v.i
  -- at every time
  pub recently_synchronised : (s : Role) (g : History Moment) (m : Moment) (e : EndValue) (held : Bool) → (g ▸ m) ≼ h
      → seat s m.after ≡ Some record { end = e; held = held } → status_of e.state ≡ status.Up → Recent sheets s (g ▸ m)

-- the word that an end reads data frames by: its own identifier and the far end's session number, once it has worked that out
abbrev pub reads_by : EndValue → State → Option ℕ
reads_by e (state.WaitAu2 rb rc) = None
reads_by e (state.WaitAr ra rb rc) = Some (connection_word e.values.own ra)
reads_by e (state.Listen ra) = None
reads_by e (state.WaitAu3 ra rb) = None
reads_by e (state.WaitEc words) = Some words.read.0
reads_by e (state.WaitFirst words last synced) = Some words.read.0
reads_by e (state.Up words sent last synced) = Some words.read.0
reads_by e (state.Out release) = None

-- No data frame that lay in the carrier before the openings, on either side, bears a word that an end reads by in this run.
abbrev pub Fresh : Meaning → History Moment → Type 0
Fresh c h =
    (side : Role) (x : List ℕ) → Memᴰ x (c.strings side)
    → (s : Role) (g : History Moment) (m : Moment) (e : EndValue) (held : Bool) (w : ℕ)
    → (g ▸ m) ≼ h → seat s m.after ≡ Some record { end = e; held = held } → reads_by e e.state ≡ Some w
    → Bears w x → ⊥

-- the law of the link: with any two parameter sets, every run over a carrier in which nothing stale lay obeys it
abbrev pub LawOfTheLink : Type 0
LawOfTheLink =
    (sheets : Sheets) → ((s : Role) → InRange (sheets s))
    → (c : Meaning) (h : History Moment) (t : LinkValue) → Ran sheets c h t → Fresh c h → Law sheets h
