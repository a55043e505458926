-- What an end accepts: the telegram that a string carries, and the state in which it is accepted.
use Rattle.std.proofs.Common.{◌≡◌, ℕ, suc, ◌+◌, ◌-◌, ◌/◌, ◌%◌, ◌<◌, ◌≤◌, Bool, true, false, cond, eqb, ltb, leb, ◌⊎◌, List, [], ◌∷◌, ◌++◌, length, take, drop, pos, ◌-ℤ◌, Some, None, Ok, Err, Option, Result, sym, refl, ap, ◌∙◌, subst, ap₂, inl, inr, ⊎_elim, arith, length-append, take_at}
use lib.Signed.{le_z}
use Rattle.std.specs.Str.{bytes_eq}
use Rattle.std.proofs.lemmas.Int.{ints}
use Rattle.std.proofs.lemmas.Bool.{eqb-true, leb-true, leb-false, ltb-false, and_parts, cond_both}
use Rattle.terms.specs.declared.refusal.Refusal.{Refusal}
use Rattle.terms.specs.declared.role.Role.{Role}
use Rattle.terms.specs.declared.role.Role.TheVariants.{Initiator, Responder}
use Rattle.terms.specs.declared.counters.SequenceNumber.{SequenceNumber}
use Rattle.terms.specs.declared.counters.ExecutionCycle.{ExecutionCycle}
use Rattle.safety.specs.declared.word.SafetyWord.{SafetyWord}
use Rattle.codec.specs.declared.frame_type.FrameType.{FrameType}
use Rattle.codec.specs.declared.frame_type.FrameType.TheVariants as type
use Rattle.terms.specs.Numbers.{Bytes}
use Rattle.terms.specs.Roles.{flag}
use Rattle.codec.specs.FrameTypes.{first_byte, type_named, suits_length}
use Rattle.codec.specs.Frames.{FrameValue, bare_di, au1, au2, au3, ar, di, dt, most_data, fixed_bytes, read_frame, read_typed, read_body}
use Rattle.codec.specs.FrameLaws.{Writing, Judged}
use Rattle.codec.specs.Sealing.{word_in, Bears, BearsOne}
use Rattle.codec.specs.Telegrams.{ContentValue, ec_start, am, am_req, am_ack, other, TelegramValue, content_bytes, telegram_bytes, read_telegram}
use Rattle.codec.specs.TelegramLaws.{TelegramWriting, TelegramJudged}
use Rattle.terms.proofs.Numbers.{Bytes-drop, Bytes-take}
use Rattle.codec.proofs.Judging.{judged}
use Rattle.codec.proofs.TelegramTrips as trips
use Rattle.codec.proofs.Sealings.{bears_one}
use Rattle.params.specs.declared.values.Values.{Values}
use Rattle.states.specs.declared.reason.Reason.{Reason}
use Rattle.states.specs.declared.state.Words.{Words}
use Rattle.states.specs.declared.state.State.{State}
use Rattle.states.specs.declared.state.State.TheVariants as state
use Rattle.ends.specs.declared.ways.Exchange.{Exchange}
use Rattle.ends.specs.declared.ways.Exchange.TheVariants as exchange
use Rattle.ends.specs.declared.ways.FetchWay.{FetchWay}
use Rattle.ends.specs.declared.ways.FetchWay.TheVariants as fetch
use Rattle.states.specs.States.{EndValue}
use Rattle.ends.specs.Arrivals.{arrival, typed_arrival, judged_frame}
use Rattle.ends.specs.Ways.{age, timely, numbered, aged, taken, stray, exchange_way, start_way, telegram_way, read_way, same_word, later_way, on_opening, frame_way, arrival_way, heard, fetch_way}
use Rattle.link.specs.Law.{message_in, Carries}

-- ---- tests

-- a test went the first way, where the other has another answer
pub cond_first : {A : Type 0} (b : Bool) (x y z : A) → cond b x y ≡ z → (y ≡ z → ⊥) → (b ≡ true) × (x ≡ z)
cond_first true x y z e other-is = (refl, e)
cond_first false x y z e other-is = absurd (other-is e)

-- or the second
pub cond_second : {A : Type 0} (b : Bool) (x y z : A) → cond b x y ≡ z → (x ≡ z → ⊥) → (b ≡ false) × (y ≡ z)
cond_second true x y z e other-is = absurd (other-is e)
cond_second false x y z e other-is = (refl, e)

-- ---- a string carries one telegram

pub carries_one : (x : List ℕ) (t t' : TelegramValue) → Carries x t → Carries x t' → t ≡ t'
carries_one x t t' c c' =
    let frames : ◌≡◌ {A = Result FrameValue Refusal} (Ok (dt c.towards c.telegram c.code)) (Ok (dt c'.towards c'.telegram c'.code)) = sym c.frame ∙ c'.frame in
    let same : c.telegram ≡ c'.telegram = cc in
    let told : ◌≡◌ {A = Result TelegramValue Refusal} (Ok t) (Ok t') = sym c.told ∙ ap read_telegram same ∙ c'.told in
    cc

-- ---- where a message stands: from byte 10 to 8 before the end

pub record PlaceOf (x m : List ℕ) : Type 0 where
  pub bytes : take (length x - 8 - 10) (drop 10 x) ≡ m
  pub long : length x ≡ 18 + length m

written_of : (s : List ℕ) (r : Result FrameValue Refusal) (f : FrameValue) → r ≡ Ok f → Judged s r → Writing f s
written_of s r f e j = (subst (Judged s) e j).0

telegram_of : (s : List ℕ) (r : Result TelegramValue Refusal) (t : TelegramValue) → r ≡ Ok t → TelegramJudged s r → TelegramWriting t s
telegram_of s r t e j = (subst (TelegramJudged s) e j).0

-- a string that carries a telegram, byte for byte
pub record Laid_out (x : List ℕ) (t : TelegramValue) : Type 0 where
  pub towards : Role
  pub code : List ℕ
  pub string : x ≡ first_byte type.Dt towards ∷ (telegram_bytes t ++ code)
  pub code_long : length code ≡ 8
  pub telegram : TelegramWriting t (telegram_bytes t)

telegram_part : (towards : Role) (t c s : List ℕ) → Writing (dt towards t c) s → Bytes s → Bytes t
telegram_part towards t c s w h = subst Bytes (ap (λ l. take (length t) (drop 1 l)) w.3 ∙ take_at t c (length t) refl) (Bytes-take (length t) (drop 1 s) (Bytes-drop 1 s h))

pub laid_out : (x : List ℕ) (t : TelegramValue) → Bytes x → Carries x t → Laid_out x t
laid_out x t h c =
    let w = written_of x (read_frame x) (dt c.towards c.telegram c.code) c.frame (judged x h) in
    let tw = telegram_of c.telegram (read_telegram c.telegram) t c.told (trips.judged c.telegram (telegram_part c.towards c.telegram c.code x w h)) in
    record {
      towards = c.towards;
      code = c.code;
      string = w.3 ∙ ap (λ l. first_byte type.Dt c.towards ∷ (l ++ c.code)) tw.written;
      code_long = w.2;
      telegram = subst (TelegramWriting t) tw.written tw;
    }

body_place : (towards : Role) (t : TelegramValue) (code : List ℕ) → length code ≡ 8
    → PlaceOf (first_byte type.Dt towards ∷ (telegram_bytes t ++ code)) (content_bytes t.content)
unfolding telegram_bytes
body_place towards t code h =
    let m = content_bytes t.content in
    let n = length-append m code in
    record {
      bytes = take_at m code _ (omega arith);
      long = omega arith;
    }

message_bytes : (c : ContentValue) (m : List ℕ) → message_in c ≡ Some m → content_bytes c ≡ m
message_bytes (ec_start version period) m e = let z : ◌≡◌ {A = ℕ} 0 1 = cc in absurd (omega arith)
message_bytes (am message) m e = cc
message_bytes (am_req message) m e = cc
message_bytes (am_ack message) m e = cc
message_bytes (other type-byte body) m e = let z : ◌≡◌ {A = ℕ} 0 1 = cc in absurd (omega arith)

-- the message of a telegram stands in the string that carries it
pub message_place : (x : List ℕ) (t : TelegramValue) (m : List ℕ) → Bytes x → Carries x t → message_in t.content ≡ Some m → PlaceOf x m
message_place x t m h c e =
    let l = laid_out x t h c in
    subst (PlaceOf x) (message_bytes t.content m e) (subst (λ s. PlaceOf s (content_bytes t.content)) (sym l.string) (body_place l.towards t l.code l.code_long))

-- ---- a data frame that arrives is the one that the string is

named_dt : (first : ℕ) → type_named first ≡ Some type.Dt → first / 2 ≡ 5
named_dt first e =
    let a = cond_second (eqb (first / 2) 1) _ _ _ e (λ p. let z : ◌≡◌ {A = ℕ} 0 1 = cc in omega arith) in
    let b = cond_second (eqb (first / 2) 2) _ _ _ a.1 (λ p. let z : ◌≡◌ {A = ℕ} 0 1 = cc in omega arith) in
    let c = cond_second (eqb (first / 2) 3) _ _ _ b.1 (λ p. let z : ◌≡◌ {A = ℕ} 0 1 = cc in omega arith) in
    let d = cond_first (eqb (first / 2) 5) _ _ _ c.1 (λ p.
    let f = cond_second (eqb (first / 2) 8) _ _ _ p (λ q. let z : ◌≡◌ {A = ℕ} 0 1 = cc in omega arith) in
    let g = cond_second (eqb (first / 2) 9) _ _ _ f.1 (λ q. let z : ◌≡◌ {A = ℕ} 0 1 = cc in omega arith) in
    let h = g.1 in
    let z : ◌≡◌ {A = ℕ} 0 1 = cc in omega arith) in
    eqb-true (first / 2) 5 d.0

frame_read : (t : FrameType) (r : Result FrameValue Refusal) (f : FrameValue) → judged_frame t r ≡ Ok f → r ≡ Ok f
frame_read t (Ok g) f e = cc
frame_read t (Err x) f e = let z : ◌≡◌ {A = ℕ} 0 1 = cc in absurd (omega arith)

-- only a body of DT is read as a data frame, and it is read so by its length
body_dt : (t : FrameType) (role : Role) (body : List ℕ) (towards : Role) (telegram code : List ℕ) → read_body t role body ≡ Ok (dt towards telegram code)
    → (t ≡ type.Dt) × (dt towards telegram code ≡ dt role (take (length body - 8) body) (drop (length body - 8) body))
body_dt type.Au1 role body towards telegram code e =
    let c = cond_first (bytes_eq (take 4 body) fixed_bytes) _ _ _ e (λ p. let z : ◌≡◌ {A = ℕ} 0 1 = cc in omega arith) in
    let d = c.1 in
    let z : ◌≡◌ {A = ℕ} 0 1 = cc in absurd (omega arith)
body_dt type.Au2 role body towards telegram code e =
    let c = cond_first (bytes_eq (take 4 body) fixed_bytes) _ _ _ e (λ p. let z : ◌≡◌ {A = ℕ} 0 1 = cc in omega arith) in
    let d = c.1 in
    let z : ◌≡◌ {A = ℕ} 0 1 = cc in absurd (omega arith)
body_dt type.Au3 role body towards telegram code e = let z : ◌≡◌ {A = ℕ} 0 1 = cc in absurd (omega arith)
body_dt type.Dt role body towards telegram code e = (refl, cc)
body_dt type.Di role body towards telegram code e = let z : ◌≡◌ {A = ℕ} 0 1 = cc in absurd (omega arith)
body_dt type.Ar role body towards telegram code e = let z : ◌≡◌ {A = ℕ} 0 1 = cc in absurd (omega arith)

typed_dt : (role : Role) (most first : ℕ) (body : List ℕ) (o : Option FrameType) (towards : Role) (telegram code : List ℕ)
    → typed_arrival role most first body o ≡ Ok (dt towards telegram code)
    → (o ≡ Some type.Dt) × (first % 2 ≡ flag role) × (dt towards telegram code ≡ dt role (take (length body - 8) body) (drop (length body - 8) body))
typed_dt role most first body None towards telegram code e = let z : ◌≡◌ {A = ℕ} 0 1 = cc in absurd (omega arith)
typed_dt role most first body (Some t) towards telegram code e =
    let a = cond_first (eqb (first % 2) (flag role)) _ _ _ e (λ p. let z : ◌≡◌ {A = ℕ} 0 1 = cc in omega arith) in
    let b = frame_read t (read_typed t role most body) _ a.1 in
    let c = cond_first (suits_length t (suc (length body)) most) _ _ _ b (λ p. let z : ◌≡◌ {A = ℕ} 0 1 = cc in omega arith) in
    let d = body_dt t role body towards telegram code c.1 in
    (ap Some d.0, eqb-true _ _ a.0, d.1)

first_is : (role : Role) (first : ℕ) → first / 2 ≡ 5 → first % 2 ≡ flag role → first ≡ first_byte type.Dt role
first_is Initiator first a b = omega arith
first_is Responder first a b = omega arith

dt_reads : (role : Role) (body : List ℕ) → read_frame (first_byte type.Dt role ∷ body) ≡ read_typed type.Dt role most_data body
dt_reads Initiator body = refl
dt_reads Responder body = refl

word_dt : (r : Result FrameValue Refusal) (w : SafetyWord) → word_in r ≡ Some w → (f : FrameValue) × (r ≡ Ok f)
word_dt (Ok f) w e = (f, refl)
word_dt (Err x) w e = let z : ◌≡◌ {A = ℕ} 0 1 = cc in absurd (omega arith)

arrival_dt : (role : Role) (most : ℕ) (x : List ℕ) (towards : Role) (telegram code : List ℕ) (f : FrameValue)
    → arrival role most x ≡ Ok (dt towards telegram code) → read_frame x ≡ Ok f → read_frame x ≡ Ok (dt towards telegram code)
arrival_dt role most [] towards telegram code f e r = let z : ◌≡◌ {A = ℕ} 0 1 = cc in absurd (omega arith)
arrival_dt role most (first ∷ body) towards telegram code f e r =
    let a = typed_dt role most first body (type_named first) towards telegram code e in
    let i = first_is role first (named_dt first a.0) a.1 in
    let reads : read_frame (first ∷ body) ≡ read_typed type.Dt role most_data body = ap (λ n. read_frame (n ∷ body)) i ∙ dt_reads role body in
    let c = cond_first (suits_length type.Dt (suc (length body)) most_data) _ _ _ (sym reads ∙ r) (λ p. let z : ◌≡◌ {A = ℕ} 0 1 = cc in omega arith) in
    r ∙ sym c.1 ∙ ap Ok (sym a.2)

-- ---- what a data frame says, where it bears the word

bears_it : (x : List ℕ) (word : SafetyWord) (o : Option SafetyWord) → same_word word o ≡ true → BearsOne x o → (w : SafetyWord) × (o ≡ Some w) × Bears word.0 x
bears_it x word None e b = let z : ◌≡◌ {A = ℕ} 0 1 = cc in absurd (omega arith)
bears_it x word (Some w) e b = (w, refl, subst (λ n. Bears n x) (eqb-true w.0 word.0 e) b.1)

-- a way that follows from a telegram
by_telegram : FetchWay → Bool
by_telegram fetch.Drops = false
by_telegram (fetch.LeftByFar codes) = false
by_telegram (fetch.Releases r) = false
by_telegram (fetch.AnswersAu1 rb) = false
by_telegram (fetch.AnswersAu2 ra) = false
by_telegram (fetch.AnswersAu3 rc) = false
by_telegram fetch.AnswersAr = false
by_telegram (fetch.Starts sn ec) = true
by_telegram (fetch.Takes kind sn ec) = true

clash : (w w' : FetchWay) → w ≡ w' → by_telegram w ≡ false → by_telegram w' ≡ true → ⊥
clash w w' e a b = let c = ap by_telegram e in let z : true ≡ false = sym b ∙ sym c ∙ a in let y : ◌≡◌ {A = ℕ} 0 1 = cc in omega arith

record Told (v : Values) (count : ℕ) (st : State) (word : SafetyWord) (x : List ℕ) (w : FetchWay) : Type 0 where
  telegram : TelegramValue
  carries : Carries x telegram
  bears : Bears word.0 x
  way : telegram_way v count st telegram ≡ w

read_told : (v : Values) (count : ℕ) (st : State) (r : Result TelegramValue Refusal) (w : FetchWay) → read_way v count st r ≡ w → by_telegram w ≡ true
    → (t : TelegramValue) × (r ≡ Ok t) × (telegram_way v count st t ≡ w)
unfolding by_telegram
read_told v count st (Ok t) w e b = (t, refl, e)
read_told v count st (Err x) w e b = absurd (clash _ _ e refl b)

later_told : (role : Role) (most : ℕ) (v : Values) (count : ℕ) (st : State) (word : SafetyWord) (x : List ℕ) (f : FrameValue) (w : FetchWay) → Bytes x
    → arrival role most x ≡ Ok f → later_way v count st word x f ≡ w → by_telegram w ≡ true → Told v count st word x w
unfolding by_telegram
later_told role most v count st word x bare_di w h a e b = absurd (clash _ _ e refl b)
later_told role most v count st word x (au1 n) w h a e b = absurd (clash _ _ e refl b)
later_told role most v count st word x (au2 n) w h a e b = absurd (clash _ _ e refl b)
later_told role most v count st word x (au3 n) w h a e b = absurd (clash _ _ e refl b)
later_told role most v count st word x (ar n) w h a e b = absurd (clash _ _ e refl b)
later_told role most v count st word x (di towards codes) w h a e b = absurd (clash _ _ e refl b)
later_told role most v count st word x (dt towards telegram code) w h a e b =
    let c = cond_first (same_word word (word_in (read_frame x))) _ _ _ e (λ p. clash _ _ p refl b) in
    let one = bears_it x word (word_in (read_frame x)) c.0 (bears_one x (word_in (read_frame x)) h refl) in
    let some = word_dt (read_frame x) one.0 one.1 in
    let t = read_told v count st (read_telegram telegram) w c.1 b in
    record {
      telegram = t.0;
      carries = record { towards = towards; telegram = telegram; code = code; frame = arrival_dt role most x towards telegram code some.0 a some.1; told = t.1 };
      bears = one.2;
      way = t.2;
    }

-- ---- what the telegram is, where it is accepted

-- an accepted content, by its kind
abbrev pub content_of : Exchange → List ℕ → ContentValue
content_of exchange.Am m = am m
content_of exchange.Req m = am_req m
content_of exchange.Ack m = am_ack m

timely_is : (v : Values) (count : ℕ) (synced : ExecutionCycle) (ec : ℕ) → timely v (age count synced record { 0 = ec }) ≡ true → synced.0 + count ≤ ec + v.mmax
timely_is v count synced ec e =
    let both = and_parts (le_z v.mmin (age count synced record { 0 = ec })) (le_z (age count synced record { 0 = ec }) (pos v.mmax)) e in
    let late : le_z (pos (synced.0 + count) -ℤ pos ec) (pos v.mmax) ≡ true = both.1 in
    grind (arith, ints)

-- the number is above the last, and the age is within the limit
record Passed (v : Values) (count : ℕ) (last : SequenceNumber) (synced : ExecutionCycle) (t : TelegramValue) : Type 0 where
  newer : last.0 < t.sn
  within : t.sn ≤ last.0 + v.window
  timely_still : synced.0 + count ≤ t.ec + v.mmax

numbered_is : (v : Values) (last : SequenceNumber) (sn : ℕ) (way w : FetchWay) → numbered v last sn way ≡ w → by_telegram w ≡ true
    → (last.0 < sn) × (sn ≤ last.0 + v.window) × (way ≡ w)
unfolding by_telegram
numbered_is v last sn way w e b =
    let c = cond_second (leb sn last.0) _ _ _ e (λ p. clash _ _ p refl b) in
    let d = cond_second (ltb (last.0 + v.window) sn) _ _ _ c.1 (λ p. clash _ _ p refl b) in
    (leb-false _ _ c.0, ltb-false _ _ d.0, d.1)

aged_is : (v : Values) (count : ℕ) (synced : ExecutionCycle) (t : TelegramValue) (way w : FetchWay) → aged v count synced t way ≡ w → by_telegram w ≡ true
    → (synced.0 + count ≤ t.ec + v.mmax) × (way ≡ w)
unfolding by_telegram
aged_is v count synced t way w e b =
    let c = cond_first (timely v (age count synced record { 0 = t.ec })) _ _ _ e (λ p. clash _ _ p refl b) in
    (timely_is v count synced t.ec c.0, c.1)

passes : (v : Values) (count : ℕ) (last : SequenceNumber) (synced : ExecutionCycle) (t : TelegramValue) (way w : FetchWay)
    → numbered v last t.sn (aged v count synced t way) ≡ w → by_telegram w ≡ true → Passed v count last synced t × (way ≡ w)
passes v count last synced t way w e b =
    let n = numbered_is v last t.sn _ w e b in
    let a = aged_is v count synced t way w n.2 b in
    (record { newer = n.0; within = n.1; timely_still = a.0 }, a.1)

-- the kind of a telegram that is accepted, and what it passed
record KindIs (v : Values) (count : ℕ) (due : Bool) (last : SequenceNumber) (synced : ExecutionCycle) (t : TelegramValue) (c : ContentValue) (kind : Exchange) (sn : SequenceNumber) (ec : ExecutionCycle) : Type 0 where
  message : List ℕ
  content : c ≡ content_of kind message
  sn_is : t.sn ≡ sn.0
  ec_is : t.ec ≡ ec.0
  passed : Passed v count last synced t
  acks : kind ≡ exchange.Ack → due ≡ true

stray_never : (type-byte : ℕ) (start w : FetchWay) → stray type-byte start ≡ w → by_telegram w ≡ true → start ≡ w
unfolding by_telegram
stray_never type-byte start w e b =
    let c = cond_second (eqb type-byte 0x91) _ _ _ e (λ p. clash _ _ p refl b) in
    let d = cond_first (eqb type-byte 0x81) _ _ _ c.1 (λ p. clash _ _ p refl b) in
    d.1

exchange_is : (v : Values) (count : ℕ) (due : Bool) (last : SequenceNumber) (synced : ExecutionCycle) (t : TelegramValue) (c : ContentValue) (kind : Exchange) (sn : SequenceNumber) (ec : ExecutionCycle)
    → exchange_way v count due last synced t c ≡ fetch.Takes kind sn ec → KindIs v count due last synced t c kind sn ec
unfolding by_telegram
exchange_is v count due last synced t (ec_start version period) kind sn ec e =
    let n = numbered_is v last t.sn _ _ e refl in absurd (clash _ _ n.2 refl refl)
exchange_is v count due last synced t (am message) kind sn ec e =
    let p = passes v count last synced t _ _ e refl in
    let is : taken exchange.Am t ≡ fetch.Takes kind sn ec = p.1 in
    let k : exchange.Am ≡ kind = cc in
    record { message = message; content = ap (λ k. content_of k message) k; sn_is = cc; ec_is = cc; passed = p.0; acks = λ a. let z : ◌≡◌ {A = ℕ} 0 1 = cc in absurd (omega arith) }
exchange_is v count due last synced t (am_req message) kind sn ec e =
    let p = passes v count last synced t _ _ e refl in
    let is : taken exchange.Req t ≡ fetch.Takes kind sn ec = p.1 in
    let k : exchange.Req ≡ kind = cc in
    record { message = message; content = ap (λ k. content_of k message) k; sn_is = cc; ec_is = cc; passed = p.0; acks = λ a. let z : ◌≡◌ {A = ℕ} 0 1 = cc in absurd (omega arith) }
exchange_is v count due last synced t (am_ack message) kind sn ec e =
    let p = passes v count last synced t _ _ e refl in
    let d = cond_first due _ _ _ p.1 (λ q. clash _ _ q refl refl) in
    let is : taken exchange.Ack t ≡ fetch.Takes kind sn ec = d.1 in
    let k : exchange.Ack ≡ kind = cc in
    record { message = message; content = ap (λ k. content_of k message) k; sn_is = cc; ec_is = cc; passed = p.0; acks = λ a. d.0 }
exchange_is v count due last synced t (other type-byte body) kind sn ec e =
    let s = stray_never type-byte _ _ e refl in
    let n = numbered_is v last t.sn _ _ s refl in absurd (clash _ _ n.2 refl refl)

-- ECStart with the version and the period of the parameter set
start_is : (v : Values) (t : TelegramValue) (c : ContentValue) (sn : SequenceNumber) (ec : ExecutionCycle) → start_way v t c ≡ fetch.Starts sn ec
    → (c ≡ ec_start v.version v.period.0) × (t.sn ≡ sn.0) × (t.ec ≡ ec.0)
unfolding by_telegram
start_is v t (ec_start version period) sn ec e =
    let a = cond_first (eqb version v.version) _ _ _ e (λ p. clash _ _ p refl refl) in
    let b = cond_first (eqb period v.period.0) _ _ _ a.1 (λ p. clash _ _ p refl refl) in
    let is : fetch.Starts record { 0 = t.sn } record { 0 = t.ec } ≡ fetch.Starts sn ec = b.1 in
    (ap₂ ec_start (eqb-true _ _ a.0) (eqb-true _ _ b.0), cc, cc)
start_is v t (am message) sn ec e = absurd (clash _ _ e refl refl)
start_is v t (am_req message) sn ec e = absurd (clash _ _ e refl refl)
start_is v t (am_ack message) sn ec e = absurd (clash _ _ e refl refl)
start_is v t (other type-byte body) sn ec e = absurd (clash _ _ (stray_never type-byte _ _ e refl) refl refl)

-- ---- each way belongs to a state

-- the ways that are taken in one state alone, and the others
origin : FetchWay → ℕ
origin fetch.Drops = 0
origin (fetch.LeftByFar codes) = 0
origin (fetch.Releases r) = 0
origin (fetch.AnswersAu1 rb) = 1
origin (fetch.AnswersAu2 ra) = 2
origin (fetch.AnswersAu3 rc) = 3
origin fetch.AnswersAr = 4
origin (fetch.Starts sn ec) = 5
origin (fetch.Takes kind sn ec) = 6

home : State → ℕ
home (state.WaitAu2 rb rc) = 2
home (state.WaitAr ra rb rc) = 4
home (state.Listen ra) = 1
home (state.WaitAu3 ra rb) = 3
home (state.WaitEc words) = 5
home (state.WaitFirst words last synced) = 6
home (state.Up words sent last synced) = 6
home (state.Out release) = 0

-- in a state of this number, or in any
Goes : ℕ → FetchWay → Type 0
Goes k w = (origin w ≡ 0) ⊎ (origin w ≡ k)

goes_opening : (by-au1 by-au2 by-au3 by-ar : ℕ → FetchWay) (else : FetchWay) (k : ℕ)
    → ((n : ℕ) → Goes k (by-au1 n)) → ((n : ℕ) → Goes k (by-au2 n)) → ((n : ℕ) → Goes k (by-au3 n)) → ((n : ℕ) → Goes k (by-ar n)) → Goes k else
    → (f : FrameValue) → Goes k (on_opening by-au1 by-au2 by-au3 by-ar else f)
unfolding Goes origin
goes_opening by-au1 by-au2 by-au3 by-ar else k a b c d e bare_di = inl refl
goes_opening by-au1 by-au2 by-au3 by-ar else k a b c d e (au1 n) = a n
goes_opening by-au1 by-au2 by-au3 by-ar else k a b c d e (au2 n) = b n
goes_opening by-au1 by-au2 by-au3 by-ar else k a b c d e (au3 n) = c n
goes_opening by-au1 by-au2 by-au3 by-ar else k a b c d e (ar n) = d n
goes_opening by-au1 by-au2 by-au3 by-ar else k a b c d e (di towards codes) = inl refl
goes_opening by-au1 by-au2 by-au3 by-ar else k a b c d e (dt towards telegram code) = e

goes_read : (v : Values) (count : ℕ) (st : State) (k : ℕ) → ((t : TelegramValue) → Goes k (telegram_way v count st t)) → (r : Result TelegramValue Refusal) → Goes k (read_way v count st r)
unfolding Goes origin
goes_read v count st k a (Ok t) = a t
goes_read v count st k a (Err x) = inl refl

goes_later : (v : Values) (count : ℕ) (st : State) (k : ℕ) → ((t : TelegramValue) → Goes k (telegram_way v count st t)) → (word : SafetyWord) (x : List ℕ) (f : FrameValue)
    → Goes k (later_way v count st word x f)
unfolding Goes origin
goes_later v count st k a word x bare_di = inl refl
goes_later v count st k a word x (au1 n) = inl refl
goes_later v count st k a word x (au2 n) = inl refl
goes_later v count st k a word x (au3 n) = inl refl
goes_later v count st k a word x (ar n) = inl refl
goes_later v count st k a word x (di towards codes) = inl refl
goes_later v count st k a word x (dt towards telegram code) =
    cond_both (same_word word (word_in (read_frame x))) _ _ (Goes k) (λ _. goes_read v count st k a (read_telegram telegram)) (λ _. inl refl)

goes_stray : (type-byte k : ℕ) (start : FetchWay) → Goes k start → Goes k (stray type-byte start)
unfolding Goes origin
goes_stray type-byte k start h = cond_both (eqb type-byte 0x91) _ _ (Goes k) (λ _. inl refl) (λ _. cond_both (eqb type-byte 0x81) _ _ (Goes k) (λ _. h) (λ _. inl refl))

goes_start : (v : Values) (t : TelegramValue) (c : ContentValue) → Goes 5 (start_way v t c)
unfolding Goes origin
goes_start v t (ec_start version period) =
    cond_both (eqb version v.version) _ _ (Goes 5) (λ _. cond_both (eqb period v.period.0) _ _ (Goes 5) (λ _. inr refl) (λ _. inl refl)) (λ _. inl refl)
goes_start v t (am message) = inl refl
goes_start v t (am_req message) = inl refl
goes_start v t (am_ack message) = inl refl
goes_start v t (other type-byte body) = goes_stray type-byte 5 _ (inl refl)

goes_numbered : (v : Values) (last : SequenceNumber) (sn k : ℕ) (way : FetchWay) → Goes k way → Goes k (numbered v last sn way)
unfolding Goes origin
goes_numbered v last sn k way h =
    cond_both (leb sn last.0) _ _ (Goes k) (λ _. inl refl) (λ _. cond_both (ltb (last.0 + v.window) sn) _ _ (Goes k) (λ _. inl refl) (λ _. h))

goes_aged : (v : Values) (count : ℕ) (synced : ExecutionCycle) (t : TelegramValue) (k : ℕ) (way : FetchWay) → Goes k way → Goes k (aged v count synced t way)
unfolding Goes origin
goes_aged v count synced t k way h = cond_both (timely v (age count synced record { 0 = t.ec })) _ _ (Goes k) (λ _. h) (λ _. inl refl)

goes_exchange : (v : Values) (count : ℕ) (due : Bool) (last : SequenceNumber) (synced : ExecutionCycle) (t : TelegramValue) (c : ContentValue) → Goes 6 (exchange_way v count due last synced t c)
unfolding Goes origin
goes_exchange v count due last synced t (ec_start version period) = goes_numbered v last t.sn 6 _ (inl refl)
goes_exchange v count due last synced t (am message) = goes_numbered v last t.sn 6 _ (goes_aged v count synced t 6 _ (inr refl))
goes_exchange v count due last synced t (am_req message) = goes_numbered v last t.sn 6 _ (goes_aged v count synced t 6 _ (inr refl))
goes_exchange v count due last synced t (am_ack message) =
    goes_numbered v last t.sn 6 _ (goes_aged v count synced t 6 _ (cond_both due _ _ (Goes 6) (λ _. inr refl) (λ _. inl refl)))
goes_exchange v count due last synced t (other type-byte body) = goes_stray type-byte 6 _ (goes_numbered v last t.sn 6 _ (inl refl))

goes_home : (v : Values) (count : ℕ) (st : State) (x : List ℕ) (f : FrameValue) → Goes (home st) (frame_way v count st x f)
unfolding Goes origin home
goes_home v count (state.WaitAu2 rb rc) x f = goes_opening _ _ _ _ _ 2 (λ n. inl refl) (λ n. inr refl) (λ n. inl refl) (λ n. inl refl) (inl refl) f
goes_home v count (state.WaitAr ra rb rc) x f = goes_opening _ _ _ _ _ 4 (λ n. inl refl) (λ n. inl refl) (λ n. inl refl) (λ n. cond_both (eqb n rb) _ _ (Goes 4) (λ _. inr refl) (λ _. inl refl)) (inl refl) f
goes_home v count (state.Listen ra) x f = goes_opening _ _ _ _ _ 1 (λ n. inr refl) (λ n. inl refl) (λ n. inl refl) (λ n. inl refl) (inl refl) f
goes_home v count (state.WaitAu3 ra rb) x f = goes_opening _ _ _ _ _ 3 (λ n. inl refl) (λ n. inl refl) (λ n. inr refl) (λ n. inl refl) (inl refl) f
goes_home v count (state.WaitEc words) x f = goes_later v count (state.WaitEc words) 5 (λ t. goes_start v t t.content) words.read x f
goes_home v count (state.WaitFirst words last synced) x f =
    goes_later v count (state.WaitFirst words last synced) 6 (λ t. goes_exchange v count false last synced t t.content) words.read x f
goes_home v count (state.Up words sent last synced) x f =
    goes_later v count (state.Up words sent last synced) 6 (λ t. goes_exchange v count (leb v.ask.0 count) last synced t t.content) words.read x f
goes_home v count (state.Out release) x f = inl refl

-- what came has arrived as a frame, unless it was dropped or met by a release
record Framed (e : EndValue) (x : List ℕ) (w : FetchWay) : Type 0 where
  frame : FrameValue
  arrives : arrival e.role e.values.longest x ≡ Ok frame
  way : frame_way e.values e.count.0 e.state x frame ≡ w
  at_home : home e.state ≡ origin w

nowhere : (w w' : FetchWay) → w ≡ w' → origin w ≡ 0 → (origin w' ≡ 0 → ⊥) → ⊥
nowhere w w' e a b = b (sym (ap origin e) ∙ a)

arrived_as : (v : Values) (count : ℕ) (st : State) (x : List ℕ) (r : Result FrameValue Reason) (w : FetchWay) → arrival_way v count st x r ≡ w → (origin w ≡ 0 → ⊥)
    → (f : FrameValue) × (r ≡ Ok f) × (frame_way v count st x f ≡ w)
unfolding origin
arrived_as v count st x (Ok f) w e b = (f, refl, e)
arrived_as v count st x (Err r) w e b = absurd (nowhere _ _ e refl b)

framed : (e : EndValue) (x : List ℕ) (w : FetchWay) → fetch_way e x ≡ w → (origin w ≡ 0 → ⊥) → Framed e x w
unfolding origin Goes
framed e x w h b =
    let c = cond_first (heard e.state x) _ _ _ h (λ p. nowhere _ _ p refl b) in
    let a = arrived_as e.values e.count.0 e.state x (arrival e.role e.values.longest x) w c.1 b in
    record {
      frame = a.0;
      arrives = a.1;
      way = a.2;
      at_home =
          ⊎_elim (λ z. absurd (nowhere _ _ a.2 z b)) (λ z. sym z ∙ ap origin a.2) (goes_home e.values e.count.0 e.state x a.0);
    }

-- the states, by their numbers

home_au2 : (st : State) → home st ≡ 2 → (rb : ℕ) × (rc : ℕ) × (st ≡ state.WaitAu2 rb rc)
unfolding home
home_au2 (state.WaitAu2 rb rc) e = (rb, rc, refl)
home_au2 (state.WaitAr ra rb rc) e = absurd (omega arith)
home_au2 (state.Listen ra) e = absurd (omega arith)
home_au2 (state.WaitAu3 ra rb) e = absurd (omega arith)
home_au2 (state.WaitEc words) e = absurd (omega arith)
home_au2 (state.WaitFirst words last synced) e = absurd (omega arith)
home_au2 (state.Up words sent last synced) e = absurd (omega arith)
home_au2 (state.Out release) e = absurd (omega arith)

home_ar : (st : State) → home st ≡ 4 → (ra : ℕ) × (rb : ℕ) × (rc : ℕ) × (st ≡ state.WaitAr ra rb rc)
unfolding home
home_ar (state.WaitAu2 rb rc) e = absurd (omega arith)
home_ar (state.WaitAr ra rb rc) e = (ra, rb, rc, refl)
home_ar (state.Listen ra) e = absurd (omega arith)
home_ar (state.WaitAu3 ra rb) e = absurd (omega arith)
home_ar (state.WaitEc words) e = absurd (omega arith)
home_ar (state.WaitFirst words last synced) e = absurd (omega arith)
home_ar (state.Up words sent last synced) e = absurd (omega arith)
home_ar (state.Out release) e = absurd (omega arith)

home_au1 : (st : State) → home st ≡ 1 → (ra : ℕ) × (st ≡ state.Listen ra)
unfolding home
home_au1 (state.WaitAu2 rb rc) e = absurd (omega arith)
home_au1 (state.WaitAr ra rb rc) e = absurd (omega arith)
home_au1 (state.Listen ra) e = (ra, refl)
home_au1 (state.WaitAu3 ra rb) e = absurd (omega arith)
home_au1 (state.WaitEc words) e = absurd (omega arith)
home_au1 (state.WaitFirst words last synced) e = absurd (omega arith)
home_au1 (state.Up words sent last synced) e = absurd (omega arith)
home_au1 (state.Out release) e = absurd (omega arith)

home_au3 : (st : State) → home st ≡ 3 → (ra : ℕ) × (rb : ℕ) × (st ≡ state.WaitAu3 ra rb)
unfolding home
home_au3 (state.WaitAu2 rb rc) e = absurd (omega arith)
home_au3 (state.WaitAr ra rb rc) e = absurd (omega arith)
home_au3 (state.Listen ra) e = absurd (omega arith)
home_au3 (state.WaitAu3 ra rb) e = (ra, rb, refl)
home_au3 (state.WaitEc words) e = absurd (omega arith)
home_au3 (state.WaitFirst words last synced) e = absurd (omega arith)
home_au3 (state.Up words sent last synced) e = absurd (omega arith)
home_au3 (state.Out release) e = absurd (omega arith)

home_ec : (st : State) → home st ≡ 5 → (words : Words) × (st ≡ state.WaitEc words)
unfolding home
home_ec (state.WaitAu2 rb rc) e = absurd (omega arith)
home_ec (state.WaitAr ra rb rc) e = absurd (omega arith)
home_ec (state.Listen ra) e = absurd (omega arith)
home_ec (state.WaitAu3 ra rb) e = absurd (omega arith)
home_ec (state.WaitEc words) e = (words, refl)
home_ec (state.WaitFirst words last synced) e = absurd (omega arith)
home_ec (state.Up words sent last synced) e = absurd (omega arith)
home_ec (state.Out release) e = absurd (omega arith)

home_exchange : (st : State) → home st ≡ 6
    → ((words : Words) × (last : SequenceNumber) × (synced : ExecutionCycle) × (st ≡ state.WaitFirst words last synced))
    ⊎ ((words : Words) × (sent : SequenceNumber) × (last : SequenceNumber) × (synced : ExecutionCycle) × (st ≡ state.Up words sent last synced))
unfolding home
home_exchange (state.WaitAu2 rb rc) e = absurd (omega arith)
home_exchange (state.WaitAr ra rb rc) e = absurd (omega arith)
home_exchange (state.Listen ra) e = absurd (omega arith)
home_exchange (state.WaitAu3 ra rb) e = absurd (omega arith)
home_exchange (state.WaitEc words) e = absurd (omega arith)
home_exchange (state.WaitFirst words last synced) e = inl (words, last, synced, refl)
home_exchange (state.Up words sent last synced) e = inr (words, sent, last, synced, refl)
home_exchange (state.Out release) e = absurd (omega arith)

-- the opening ways

pub au1_is : (e : EndValue) (x : List ℕ) (rb : ℕ) → fetch_way e x ≡ fetch.AnswersAu1 rb → (ra : ℕ) × (e.state ≡ state.Listen ra)
unfolding origin
au1_is e x rb h = home_au1 e.state (framed e x _ h (λ z. omega arith)).at_home

pub au2_is : (e : EndValue) (x : List ℕ) (ra : ℕ) → fetch_way e x ≡ fetch.AnswersAu2 ra → (rb : ℕ) × (rc : ℕ) × (e.state ≡ state.WaitAu2 rb rc)
unfolding origin
au2_is e x ra h = home_au2 e.state (framed e x _ h (λ z. omega arith)).at_home

pub au3_is : (e : EndValue) (x : List ℕ) (rc : ℕ) → fetch_way e x ≡ fetch.AnswersAu3 rc → (ra : ℕ) × (rb : ℕ) × (e.state ≡ state.WaitAu3 ra rb)
unfolding origin
au3_is e x rc h = home_au3 e.state (framed e x _ h (λ z. omega arith)).at_home

pub ar_is : (e : EndValue) (x : List ℕ) → fetch_way e x ≡ fetch.AnswersAr → (ra : ℕ) × (rb : ℕ) × (rc : ℕ) × (e.state ≡ state.WaitAr ra rb rc)
unfolding origin
ar_is e x h = home_ar e.state (framed e x _ h (λ z. omega arith)).at_home

-- ---- accepted

-- in waitfirst
pub record FirstSpot (e : EndValue) (x : List ℕ) (kind : Exchange) (sn : SequenceNumber) (ec : ExecutionCycle) : Type 0 where
  pub words : Words
  pub last : SequenceNumber
  pub synced : ExecutionCycle
  pub state_is : e.state ≡ state.WaitFirst words last synced
  pub bears : Bears words.read.0 x
  pub newer : last.0 < sn.0
  pub within : sn.0 ≤ last.0 + e.values.window
  pub timely : synced.0 + e.count.0 ≤ ec.0 + e.values.mmax
  pub no_ack : kind ≡ exchange.Ack → ⊥

-- in up
pub record UpSpot (e : EndValue) (x : List ℕ) (kind : Exchange) (sn : SequenceNumber) (ec : ExecutionCycle) : Type 0 where
  pub words : Words
  pub sent : SequenceNumber
  pub last : SequenceNumber
  pub synced : ExecutionCycle
  pub state_is : e.state ≡ state.Up words sent last synced
  pub bears : Bears words.read.0 x
  pub newer : last.0 < sn.0
  pub within : sn.0 ≤ last.0 + e.values.window
  pub timely : synced.0 + e.count.0 ≤ ec.0 + e.values.mmax
  pub acks : kind ≡ exchange.Ack → e.values.ask.0 ≤ e.count.0

abbrev pub Spot : EndValue → List ℕ → Exchange → SequenceNumber → ExecutionCycle → Type 0
Spot e x kind sn ec = FirstSpot e x kind sn ec ⊎ UpSpot e x kind sn ec

pub record Taken (e : EndValue) (x : List ℕ) (kind : Exchange) (sn : SequenceNumber) (ec : ExecutionCycle) : Type 0 where
  pub telegram : TelegramValue
  pub carries : Carries x telegram
  pub sn_is : telegram.sn ≡ sn.0
  pub ec_is : telegram.ec ≡ ec.0
  pub message : List ℕ
  pub content : telegram.content ≡ content_of kind message
  pub place : PlaceOf x message
  pub spot : Spot e x kind sn ec

pub record Started (e : EndValue) (x : List ℕ) (sn : SequenceNumber) (ec : ExecutionCycle) : Type 0 where
  pub words : Words
  pub state_is : e.state ≡ state.WaitEc words
  pub bears : Bears words.read.0 x
  pub telegram : TelegramValue
  pub carries : Carries x telegram
  pub sn_is : telegram.sn ≡ sn.0
  pub ec_is : telegram.ec ≡ ec.0
  pub content : telegram.content ≡ ec_start e.values.version e.values.period.0

pub content_message : (kind : Exchange) (m : List ℕ) → message_in (content_of kind m) ≡ Some m
content_message exchange.Am m = refl
content_message exchange.Req m = refl
content_message exchange.Ack m = refl

pub starts_is : (e : EndValue) (x : List ℕ) (sn : SequenceNumber) (ec : ExecutionCycle) → Bytes x → fetch_way e x ≡ fetch.Starts sn ec → Started e x sn ec
unfolding origin by_telegram
starts_is e x sn ec h way =
    let f = framed e x _ way (λ z. omega arith) in
    let st = home_ec e.state f.at_home in
    let words = st.0 in
    let later : later_way e.values e.count.0 (state.WaitEc words) words.read x f.frame ≡ fetch.Starts sn ec =
    subst (λ s. frame_way e.values e.count.0 s x f.frame ≡ fetch.Starts sn ec) st.1 f.way in
    let t = later_told e.role e.values.longest e.values e.count.0 (state.WaitEc words) words.read x f.frame _ h f.arrives later refl in
    let s = start_is e.values t.telegram t.telegram.content sn ec t.way in
    record {
      words = words;
      state_is = st.1;
      bears = t.bears;
      telegram = t.telegram;
      carries = t.carries;
      sn_is = s.1;
      ec_is = s.2;
      content = s.0;
    }

taken_at : (e : EndValue) (x : List ℕ) (kind : Exchange) (sn : SequenceNumber) (ec : ExecutionCycle) (due : Bool) (last : SequenceNumber) (synced : ExecutionCycle) (t : TelegramValue)
    → Bytes x → Carries x t → KindIs e.values e.count.0 due last synced t t.content kind sn ec → Spot e x kind sn ec → Taken e x kind sn ec
taken_at e x kind sn ec due last synced t h carries k spot =
    record {
      telegram = t;
      carries = carries;
      sn_is = k.sn_is;
      ec_is = k.ec_is;
      message = k.message;
      content = k.content;
      place = message_place x t k.message h carries (ap message_in k.content ∙ content_message kind k.message);
      spot = spot;
    }

takes_first : (e : EndValue) (x : List ℕ) (kind : Exchange) (sn : SequenceNumber) (ec : ExecutionCycle) (words : Words) (last : SequenceNumber) (synced : ExecutionCycle) → Bytes x
    → e.state ≡ state.WaitFirst words last synced → Framed e x (fetch.Takes kind sn ec) → Taken e x kind sn ec
unfolding by_telegram
takes_first e x kind sn ec words last synced h st f =
    let later : later_way e.values e.count.0 (state.WaitFirst words last synced) words.read x f.frame ≡ fetch.Takes kind sn ec =
    subst (λ s. frame_way e.values e.count.0 s x f.frame ≡ fetch.Takes kind sn ec) st f.way in
    let t = later_told e.role e.values.longest e.values e.count.0 (state.WaitFirst words last synced) words.read x f.frame _ h f.arrives later refl in
    let k = exchange_is e.values e.count.0 false last synced t.telegram t.telegram.content kind sn ec t.way in
    taken_at e x kind sn ec false last synced t.telegram h t.carries k
    (inl record {
      words = words;
      last = last;
      synced = synced;
      state_is = st;
      bears = t.bears;
      newer = subst (λ n. last.0 < n) k.sn_is k.passed.newer;
      within = subst (λ n. n ≤ last.0 + e.values.window) k.sn_is k.passed.within;
      timely = subst (λ n. synced.0 + e.count.0 ≤ n + e.values.mmax) k.ec_is k.passed.timely_still;
      no_ack = λ a. let z : false ≡ true = k.acks a in let y : ◌≡◌ {A = ℕ} 0 1 = cc in omega arith;
    })

takes_up : (e : EndValue) (x : List ℕ) (kind : Exchange) (sn : SequenceNumber) (ec : ExecutionCycle) (words : Words) (sent last : SequenceNumber) (synced : ExecutionCycle) → Bytes x
    → e.state ≡ state.Up words sent last synced → Framed e x (fetch.Takes kind sn ec) → Taken e x kind sn ec
unfolding by_telegram
takes_up e x kind sn ec words sent last synced h st f =
    let later : later_way e.values e.count.0 (state.Up words sent last synced) words.read x f.frame ≡ fetch.Takes kind sn ec =
    subst (λ s. frame_way e.values e.count.0 s x f.frame ≡ fetch.Takes kind sn ec) st f.way in
    let t = later_told e.role e.values.longest e.values e.count.0 (state.Up words sent last synced) words.read x f.frame _ h f.arrives later refl in
    let k = exchange_is e.values e.count.0 (leb e.values.ask.0 e.count.0) last synced t.telegram t.telegram.content kind sn ec t.way in
    taken_at e x kind sn ec (leb e.values.ask.0 e.count.0) last synced t.telegram h t.carries k
    (inr record {
      words = words;
      sent = sent;
      last = last;
      synced = synced;
      state_is = st;
      bears = t.bears;
      newer = subst (λ n. last.0 < n) k.sn_is k.passed.newer;
      within = subst (λ n. n ≤ last.0 + e.values.window) k.sn_is k.passed.within;
      timely = subst (λ n. synced.0 + e.count.0 ≤ n + e.values.mmax) k.ec_is k.passed.timely_still;
      acks = λ a. leb-true _ _ (k.acks a);
    })

pub takes_is : (e : EndValue) (x : List ℕ) (kind : Exchange) (sn : SequenceNumber) (ec : ExecutionCycle) → Bytes x → fetch_way e x ≡ fetch.Takes kind sn ec → Taken e x kind sn ec
unfolding origin
takes_is e x kind sn ec h way =
    let f = framed e x _ way (λ z. omega arith) in
    ⊎_elim (λ s. takes_first e x kind sn ec s.0 s.1 s.2 h s.3 f) (λ s. takes_up e x kind sn ec s.0 s.1 s.2 s.3 h s.4 f) (home_exchange e.state f.at_home)
