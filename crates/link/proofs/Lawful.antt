-- The law of the link.
use Rattle.std.proofs.Common.{◌≡◌, ℕ, ◌+◌, ◌-◌, ◌<◌, ◌≤◌, Bool, eqb, List, length, pos, ◌+ℤ◌, ◌-ℤ◌, ◌≤ℤ◌, Some, sym, refl, ap, ◌∙◌, subst, inl, inr, ⊎_elim, arith}
use Rattle.std.proofs.lemmas.Int.{ints}
use Rattle.std.proofs.lemmas.Bool.{cond_both}
use Rattle.terms.specs.declared.role.Role.{Role}
use Rattle.terms.specs.declared.role.Role.TheVariants.{Initiator, Responder}
use Rattle.terms.specs.declared.counters.SequenceNumber.{SequenceNumber}
use Rattle.terms.specs.declared.counters.ExecutionCycle.{ExecutionCycle}
use Rattle.terms.specs.Roles.{far}
use Rattle.codec.specs.Sealing.{Bears}
use Rattle.codec.specs.Telegrams.{TelegramValue}
use Rattle.carrier.specs.Rules.{Meaning}
use Rattle.params.specs.Laws.{InRange}
use Rattle.states.specs.declared.state.State.{State}
use Rattle.states.specs.declared.state.State.TheVariants as state
use Rattle.states.specs.declared.state.Status.TheVariants as status
use Rattle.ends.specs.declared.ways.Exchange.{Exchange}
use Rattle.ends.specs.declared.ways.Exchange.TheVariants as exchange
use Rattle.ends.specs.declared.ways.FetchWay.TheVariants as fetch
use Rattle.states.specs.States.{EndValue, status_of}
use Rattle.ends.specs.Ways.{greatest}
use Rattle.link.specs.Times.{History, ◌▸◌, ◌≼◌, now', later}
use Rattle.link.specs.Runs.{Sheets, LinkValue, seat, fetches, Moment, Fetch, Does, Step, Ran}
use Rattle.link.specs.Law.{Carries, Delivery, Accepted, Synchronises, Synchronised, Source, Recent, Fresh, LawOfTheLink, reads_by, message_in, ticks_in, of_role, ticks_until}
use Rattle.model.specs.Model.{here, there, Tel, Puts}
use Rattle.model.specs.Model as model
use Rattle.model.proofs.Laws.{order_stands, young_stands, recent_stands}
use Rattle.link.proofs.Seats.{Seated, seated}
use Rattle.link.proofs.Shapes.{Looks, Seen, limits}
use Rattle.link.proofs.Deeds.{who, kind_of, tel_of, tel, first_deed, up_deed, fetch_deed, took_deed, seat_deed, deed_of}
use Rattle.link.proofs.Reading.{Taken, content_of, content_message}
use Rattle.link.proofs.Fetching.{told}
use Rattle.link.proofs.Fits.{fits}
use Rattle.link.proofs.Simulation.{mover, mine, other, FromOther, shape, sim, far_put}
use Rattle.link.proofs.Counting.{mine_counted, other_counted, ticks_rise}
use Rattle.link.proofs.Syncing.{sync_call}
use Rattle.link.proofs.Accepting.{accepted_syncs}
use Rattle.link.proofs.Delivering.{delivered_is, sent_is}

join : {f g h : History Moment} → f ≼ g → g ≼ h → f ≼ h
join p now' = p
join p (later q) = later (join p q)

ran_at : (sheets : Sheets) (c : Meaning) (i : History Moment) (n : Moment) (t : LinkValue) {h : History Moment} → (i ▸ n) ≼ h → Ran sheets c h t → Ran sheets c (i ▸ n) n.after
ran_at sheets c i n t now' r = (r.0, r.1, refl)
ran_at sheets c i n t (later {h = h} {m = m} p) r = ran_at sheets c i n m.before p r.0

fresh_at : (c : Meaning) {g h : History Moment} → g ≼ h → Fresh c h → Fresh c g
fresh_at c q f side x i s g n e held w p k r b = f side x i s g n e held w (join p q) k r b

-- the other end of the model is the far one
there_who : (s r : Role) → r ≡ far s → who s r ≡ there
there_who Initiator r e = ap (who Initiator) e
there_who Responder r e = ap (who Responder) e

other_shape : (sheets : Sheets) (s r : Role) (h : History Moment) → r ≡ far s → shape sheets s r h ≡ other sheets s h
other_shape sheets Initiator r h e = ap (λ w. shape sheets Initiator w h) e
other_shape sheets Responder r h e = ap (λ w. shape sheets Responder w h) e

abbrev from_other : (sheets : Sheets) (s : Role) (f : Tel) (h i : History Moment) (n : Moment) → (i ▸ n) ≼ h → n.role ≡ far s → Puts f (shape sheets s n.role i) (deed_of n) → FromOther sheets s f h
from_other sheets s f h i n p e k =
    record { i = i; m = n; earlier = p; mover = there_who s n.role e; puts = subst (λ a. Puts f a (deed_of n)) (other_shape sheets s n.role i e) k }

who_here : (s r : Role) → who s r ≡ here → r ≡ s
who_here Initiator Initiator e = refl
who_here Initiator Responder e = let z : ◌≡◌ {A = ℕ} 0 1 = cc in absurd (omega arith)
who_here Responder Initiator e = let z : ◌≡◌ {A = ℕ} 0 1 = cc in absurd (omega arith)
who_here Responder Responder e = refl

here_who : (s r : Role) → r ≡ s → who s r ≡ here
here_who Initiator r e = ap (who Initiator) e
here_who Responder r e = ap (who Responder) e

of_none : (s r : Role) → of_role s r 0 ≡ 0
of_none Initiator Initiator = refl
of_none Initiator Responder = refl
of_none Responder Initiator = refl
of_none Responder Responder = refl

-- what is taken is what the model takes
first_takes : (kind : Exchange) (sn : SequenceNumber) (ec : ExecutionCycle) (m : List ℕ) → (kind ≡ exchange.Ack → ⊥) → model.Takes (tel (kind_of (content_of kind m)) sn ec) (first_deed kind sn ec)
first_takes exchange.Am sn ec m k = refl
first_takes exchange.Req sn ec m k = refl
first_takes exchange.Ack sn ec m k = absurd (k refl)

up_takes : (sent : SequenceNumber) (kind : Exchange) (sn : SequenceNumber) (ec : ExecutionCycle) (m : List ℕ) → model.Takes (tel (kind_of (content_of kind m)) sn ec) (up_deed sent kind sn ec)
up_takes sent exchange.Am sn ec m = refl
up_takes sent exchange.Req sn ec m = cond_both (eqb sent.0 greatest) _ _ (model.Takes (tel model.req sn ec)) (λ _. refl) (λ _. refl)
up_takes sent exchange.Ack sn ec m = refl

-- the word under which a telegram was taken
pub record Under (e : EndValue) (x : List ℕ) (f : Tel) (d : model.Deed) : Type 0 where
  pub word : ℕ
  pub reads : reads_by e e.state ≡ Some word
  pub bears : Bears word x
  pub takes : model.Takes f d

pub under : (e : EndValue) (x : List ℕ) (kind : Exchange) (sn : SequenceNumber) (ec : ExecutionCycle) (t : Taken e x kind sn ec)
    → Under e x (tel (kind_of (content_of kind t.message)) sn ec) (fetch_deed e.role e.state (fetch.Takes kind sn ec))
under e x kind sn ec t =
    ⊎_elim
    (λ p. record {
      word = p.words.read.0;
      reads = ap (reads_by e) p.state_is;
      bears = p.bears;
      takes = subst (λ st. model.Takes (tel (kind_of (content_of kind t.message)) sn ec) (fetch_deed e.role st (fetch.Takes kind sn ec))) (sym p.state_is) (first_takes kind sn ec t.message p.no_ack);
    })
    (λ p. record {
      word = p.words.read.0;
      reads = ap (reads_by e) p.state_is;
      bears = p.bears;
      takes = subst (λ st. model.Takes (tel (kind_of (content_of kind t.message)) sn ec) (fetch_deed e.role st (fetch.Takes kind sn ec))) (sym p.state_is) (up_takes p.sent kind sn ec t.message);
    })
    t.spot

my_shape : (sheets : Sheets) (s : Role) (h : History Moment) → shape sheets s s h ≡ mine sheets s h
my_shape sheets Initiator h = refl
my_shape sheets Responder h = refl

-- how old a message may be, in the ticks of both ends
bound : (d m w far-m far-w k : ℕ) → w ≤ m → m ≤ d → far-w ≤ far-m → d + far-w ≤ k + far-m + w → pos (d - m) ≤ℤ (pos k +ℤ (pos (far-m - far-w) -ℤ pos (m - w)))
bound d m w far-m far-w k a b e f = omega (arith, ints)

module _ (sheets : Sheets) (v : (r : Role) → InRange (sheets r)) (s : Role) (c : Meaning) where
  -- the telegram by which the receiver synchronised, as the law has it
  pub record Sync (h : History Moment) (k : History Moment) (m : Moment) (f : Tel) : Type 0 where
    pub accepted : Accepted s m
    pub synchronises : Synchronises s m accepted
    pub from : History Moment
    pub w : Moment
    pub earlier : (from ▸ w) ≼ k
    pub sender : w.role ≡ far s
    pub string : w.put ≡ m.took
    pub puts : Puts f (shape sheets s w.role from) (deed_of w)

  sync_at : (h : History Moment) (t : LinkValue) → Ran sheets c h t → Fresh c h → (k : History Moment) (m : Moment) (f : Tel) → (k ▸ m) ≼ h → who s m.role ≡ here → model.Syncs f (deed_of m) → Sync h k m f
  sync_at h t r fresh k m f until mv syncs =
      let rm = ran_at sheets c k m t until r in
      let fm = fresh_at c until fresh in
      let sc = sync_call sheets m f rm.1 syncs in
      let y = sc.synced in
      let q = sc.fetch_call in
      let role : m.role ≡ s = who_here s m.role mv in
      let sits = subst (Seated sheets m.role) q.was (seated sheets c k m.before rm.0 m.role) in
      let p = far_put sheets c k m rm.0 fm q sits.role sc.string sc.took y.word y.reads y.bears in
      let sender : p.m.role ≡ far s = p.role ∙ ap far role in
      let before = sim sheets v s c k m.before rm.0 (fresh_at c (later now') fm) in
      let puts : Puts f (shape sheets s p.m.role p.i) (deed_of p.m) =
      subst (λ g. Puts g (shape sheets s p.m.role p.i) (deed_of p.m)) (sym y.told) (before.logged p.i p.m sc.string y.telegram p.earlier p.put y.carries) in
      record {
        accepted = record {
          role = role;
          deed = sc.deed;
          end = q.e;
          held = q.held;
          was = subst (λ z. seat z m.before ≡ Some record { end = q.e; held = q.held }) role q.was;
          string = sc.string;
          took = sc.took;
          telegram = y.telegram;
          carries = y.carries;
          accepts = y.accepts;
        };
        synchronises = ⊎_elim (λ z. inl (sym role ∙ sym sits.role ∙ z.0, z.1)) (λ z. inr z) y.form;
        from = p.i;
        w = p.m;
        earlier = p.earlier;
        sender = sender;
        string = p.put ∙ sym sc.took;
        puts = puts;
      }

  -- the latest one
  abbrev synchronised : (h : History Moment) (t : LinkValue) → Ran sheets c h t → Fresh c h
      → (y : model.Synchronised (mover sheets s) deed_of (sheets s).ec.0 (sheets (far s)).ec.0 h) → Sync h y.k y.m y.f → Synchronised s h
  synchronised h t r fresh y z =
      record {
        at = y.k;
        m = y.m;
        until = y.until;
        accepted = z.accepted;
        synchronises = z.synchronises;
        latest = λ g n p a b.
            let rn = ran_at sheets c g n t p r in
            let k = accepted_syncs sheets s n rn.1 (seated sheets c g n.before rn.0 n.role) a b in
            y.latest g n p (here_who s n.role a.role) k.0 k.1;
        from = z.from;
        w = z.w;
        earlier = z.earlier;
        sender = z.sender;
        string = z.string;
      }

  -- an end that is up
  up_shape : (e : EndValue) (st : State) (a : model.Shape) → status_of st ≡ status.Up → Looks e st a → a.mode ≡ model.up
  up_shape e (state.WaitAu2 rb rc) a k l = let z : ◌≡◌ {A = ℕ} 0 1 = cc in absurd (omega arith)
  up_shape e (state.WaitAr ra rb rc) a k l = let z : ◌≡◌ {A = ℕ} 0 1 = cc in absurd (omega arith)
  up_shape e (state.Listen ra) a k l = let z : ◌≡◌ {A = ℕ} 0 1 = cc in absurd (omega arith)
  up_shape e (state.WaitAu3 ra rb) a k l = let z : ◌≡◌ {A = ℕ} 0 1 = cc in absurd (omega arith)
  up_shape e (state.WaitEc words) a k l = let z : ◌≡◌ {A = ℕ} 0 1 = cc in absurd (omega arith)
  up_shape e (state.WaitFirst words last synced) a k l = let z : ◌≡◌ {A = ℕ} 0 1 = cc in absurd (omega arith)
  up_shape e (state.Up words sent last synced) a k l = l.mode
  up_shape e (state.Out release) a k l = let z : ◌≡◌ {A = ℕ} 0 1 = cc in absurd (omega arith)

  pub recent : (h : History Moment) (t : LinkValue) → Ran sheets c h t → Fresh c h → (g : History Moment) (m : Moment) (e : EndValue) (held : Bool) → (g ▸ m) ≼ h
      → seat s m.after ≡ Some record { end = e; held = held } → status_of e.state ≡ status.Up → Recent sheets s (g ▸ m)
  recent h t r fresh g m e held p q u =
      let rm = ran_at sheets c g m t p r in
      let fm = fresh_at c p fresh in
      let n = sim sheets v s c (g ▸ m) m.after rm fm in
      let seen = subst (λ o. Seen (sheets s).ec.0 o (shape sheets s s (g ▸ m))) q (n.seen s) in
      let mode = subst (λ (a : model.Shape). a.mode ≡ model.up) (my_shape sheets s (g ▸ m)) (up_shape e e.state _ u seen) in
      let w = recent_stands (mover sheets s) deed_of (sheets s).ec.0 (sheets (far s)).ec.0 s (limits (sheets s)) (limits (sheets (far s))) (g ▸ m) n.ran mode in
      let y = w.0 in
      let z = sync_at (g ▸ m) m.after rm fm y.k y.m y.f y.until y.mover y.syncs in
      let ry = ran_at sheets c y.k y.m m.after y.until rm in
      record {
        at = y.k;
        m = y.m;
        until = y.until;
        accepted = z.accepted;
        synchronises = z.synchronises;
        soon = omega (arith, w.1, mine_counted sheets s c (g ▸ m) m.after rm, mine_counted sheets s c (y.k ▸ y.m) y.m.after ry);
      }

  -- what a delivery took
  record Took (d : Moment) (x : List ℕ) : Type 0 where
    pub call : Fetch d
    pub string : List ℕ
    pub took : d.took ≡ Some string
    pub telegram : TelegramValue
    pub carries : Carries string telegram
    pub says : message_in telegram.content ≡ Some x
    pub some : 0 < length x
    pub word : ℕ
    pub reads : reads_by call.e call.e.state ≡ Some word
    pub bears : Bears word string
    pub takes : model.Takes (tel_of telegram) (deed_of d)

  took_by : (d : Moment) (x : List ℕ) → Step sheets d → Delivery s d x → Took d x
  took_by d x st a =
      let t : Fetch d = subst (Does sheets d) a.deed st.does in
      let g = delivered_is d t a.place a.answer in
      let u = under t.e g.string g.kind g.sn g.ec g.taken in
      let same = told g.taken.telegram _ g.sn g.ec g.taken.content g.taken.sn_is g.taken.ec_is in
      let deed : deed_of d ≡ fetch_deed t.e.role t.e.state (fetch.Takes g.kind g.sn g.ec) =
      ap (λ z. seat_deed d z (seat d.role d.before)) a.deed ∙ ap (seat_deed d fetches) t.was ∙ ap (took_deed t.e) g.took ∙ ap (fetch_deed t.e.role t.e.state) g.way in
      record {
        call = t;
        string = g.string;
        took = g.took;
        telegram = g.taken.telegram;
        carries = g.taken.carries;
        says = ap message_in g.taken.content ∙ content_message g.kind g.taken.message ∙ ap Some (sym g.message ∙ a.got);
        some = subst (λ l. 0 < length l) a.got g.some;
        word = u.word;
        reads = u.reads;
        bears = u.bears;
        takes = subst (λ f. model.Takes f (deed_of d)) (sym same) (subst (model.Takes _) (sym deed) u.takes);
      }

  -- a frame that it took, put by the far end, is one of the model
  abbrev from_it : (j : History Moment) (t : LinkValue) → Ran sheets c j t → Fresh c j → (d : Moment) (x : List ℕ) (k : Took d x) (i : History Moment) (m : Moment) → (i ▸ m) ≼ j → m.role ≡ far s → m.put ≡ d.took
      → FromOther sheets s (tel_of k.telegram) j
  from_it j t r f d x k i m p e q = from_other sheets s (tel_of k.telegram) j i m p e ((sim sheets v s c j t r f).logged i m k.string k.telegram p (q ∙ k.took) k.carries)

  pub source : (h : History Moment) (t : LinkValue) → Ran sheets c h t → Fresh c h → (j : History Moment) (d : Moment) (x : List ℕ) → (j ▸ d) ≼ h → Delivery s d x → Source sheets s j d x
  source h t r fresh j d x p a =
      let rd = ran_at sheets c j d t p r in
      let fd = fresh_at c p fresh in
      let k = took_by d x rd.1 a in
      let sits = subst (Seated sheets d.role) k.call.was (seated sheets c j d.before rd.0 d.role) in
      let b = far_put sheets c j d rd.0 fd k.call sits.role k.string k.took k.word k.reads k.bears in
      let sender : b.m.role ≡ far s = b.role ∙ ap far a.role in
      let rm = ran_at sheets c b.i b.m d.before b.earlier rd.0 in
      let same : b.m.put ≡ d.took = b.put ∙ sym k.took in
      let q = from_it j d.before rd.0 (fresh_at c (later now') fd) d x k b.i b.m b.earlier sender same in
      let young = young_stands (mover sheets s) deed_of (sheets s).ec.0 (sheets (far s)).ec.0 s (limits (sheets s)) (limits (sheets (far s))) j d (tel_of k.telegram)
      (sim sheets v s c (j ▸ d) d.after rd fd).ran (here_who s d.role a.role) k.takes in
      let y = young.0 in
      let z = sync_at (j ▸ d) d.after rd fd y.k y.m y.f y.until y.mover y.syncs in
      let facts = young.1 (from_other sheets s y.f y.k z.from z.w z.earlier z.sender z.puts) q in
      let ry = ran_at sheets c y.k y.m d.after y.until rd in
      let rw = ran_at sheets c z.from z.w y.m.before z.earlier ry.0 in
      let none : of_role s d.role (ticks_in d.deed d.answer) ≡ 0 = ap (λ n. of_role s d.role (ticks_in n d.answer)) a.deed ∙ of_none s d.role in
      record {
        i = b.i;
        m = b.m;
        earlier = b.earlier;
        send = sent_is sheets v (far s) b.m b.m.deed refl rm.1.does (seated sheets c b.i b.m.before rm.0 b.m.role) (fits sheets v c b.i b.m.before rm.0 b.m.role)
            k.string k.telegram x b.put k.carries k.says k.some sender;
        string = same;
        sync = synchronised (j ▸ d) d.after rd fd y z;
        not_before = facts.0;
        not_too_old = bound (ticks_until s (j ▸ d)) (ticks_until s (b.i ▸ b.m)) (ticks_until s (z.from ▸ z.w)) (ticks_until (far s) (b.i ▸ b.m)) (ticks_until (far s) (z.from ▸ z.w)) ((sheets s).mmax + (sheets s).wait.0)
            (ticks_rise s facts.0) (ticks_rise s (later {m = d} b.earlier)) (ticks_rise (far s) facts.0)
            (omega (
              arith,
              none,
              facts.1,
              mine_counted sheets s c j d.before rd.0,
              other_counted sheets s c (z.from ▸ z.w) z.w.after rw,
              mine_counted sheets s c (z.from ▸ z.w) z.w.after rw,
              other_counted sheets s c (b.i ▸ b.m) b.m.after rm,
            ));
      }

  pub order : (h : History Moment) (t : LinkValue) → Ran sheets c h t → Fresh c h → (j k : History Moment) (d e : Moment) (x y : List ℕ) → (j ▸ d) ≼ k → (k ▸ e) ≼ h → Delivery s d x → Delivery s e y
      → (a : Source sheets s j d x) (b : Source sheets s k e y) → (a.i ▸ a.m) ≼ b.i
  order h t r fresh j k d e x y p q del del' a b =
      let re = ran_at sheets c k e t q r in
      let fe = fresh_at c q fresh in
      let fk = fresh_at c (later now') fe in
      let rd = ran_at sheets c j d e.before p re.0 in
      let fj = fresh_at c (join (later now') p) fk in
      let u = took_by d x rd.1 del in
      let w = took_by e y re.1 del' in
      order_stands (mover sheets s) deed_of (sheets s).ec.0 (sheets (far s)).ec.0 s (limits (sheets s)) (limits (sheets (far s))) j d (tel_of u.telegram) k e (tel_of w.telegram)
      (sim sheets v s c (k ▸ e) e.after re fe).ran p (here_who s d.role del.role) (here_who s e.role del'.role) u.takes w.takes
      (from_it j d.before rd.0 fj d x u a.i a.m a.earlier a.send.role a.string)
      (from_it k e.before re.0 fk e y w b.i b.m b.earlier b.send.role b.string)

pub lawful : LawOfTheLink
lawful sheets v c h t r fresh =
    record {
      delivered_was_sent = λ s j d x p a. source sheets v s c h t r fresh j d x p a;
      in_order = λ s j k d e x y p q a b. order sheets v s c h t r fresh j k d e x y p q a b;
      recently_synchronised = λ s g m e held p q u. recent sheets v s c h t r fresh g m e held p q u;
    }
