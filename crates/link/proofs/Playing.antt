-- From steps to a whole run.
use Rattle.std.proofs.Common.{◌≡◌, ℕ, List, [], ◌∷◌, ◌++◌, map, drop, Some, None, sym, refl, ap, ◌∙◌, ap₂, append_assoc, append-nil}
use Rattle.std.proofs.lemmas.List.{map_push}
use Rattle.terms.specs.declared.role.Role.TheVariants.{Initiator, Responder}
use Rattle.carrier.specs.Rules.{Meaning}
use Rattle.params.specs.Calls.{OwnCall}
use Rattle.params.specs.Made.{Sheet}
use Rattle.ends.specs.declared.answer.Answer.{Answer}
use Rattle.states.specs.declared.state.State.TheVariants.{WaitAu2, Listen}
use Rattle.ends.specs.Calls.{opening_put}
use Rattle.link.specs.declared.runs.Numbers.{Numbers}
use Rattle.link.specs.declared.runs.Seats.{Seats}
use Rattle.link.specs.Times.{new, ◌▸◌}
use Rattle.link.specs.Runs.{LinkValue, Moment, opens, unopened, at_place}
use Rattle.link.specs.Seats.{seat_value, link_value, SeatOpened, Steps, moment, SeatsOpened, Played}
use Rattle.link.specs.Tells.{sheets_of, asked_of, Told, openings, Closed, RunMade}

pub played_none : {t : LinkValue} → Played t t [] []
played_none {t} = record {
  on = λ sheets m asked before run. record {
    history = run.history;
    ran = run.ran;
    asks = run.asks ∙ sym (append-nil asked);
    says = run.says ∙ sym (append-nil before);
  };
}

-- one call more
pub played_more : {t u v : LinkValue} {cs ds : List OwnCall} {log : List Told} {buf : List ℕ} {r : Answer} (c : OwnCall) (got : List ℕ)
    → Played t u cs log → Steps c u v buf r → ds ≡ cs ++ (c ∷ []) → got ≡ at_place buf r.delivered
    → Played t v ds (log ++ (record { answer = r; got = got } ∷ []))
played_more {t} {u} {v} {cs} {ds} {log} {buf} {r} c got p s ec eg = record {
  on = λ sheets m asked before run.
      let q = p.on sheets m asked before run in
      record {
        history = q.history ▸ moment c r (at_place buf r.delivered) s.put s.took u v;
        ran = (q.ran, s.step sheets, refl);
        asks =
            ap (λ x. x ++ (asked_of c ∷ [])) q.asks ∙ append_assoc asked (map asked_of cs) (asked_of c ∷ [])
            ∙ ap (λ x. asked ++ x) (sym (ap (map asked_of) ec ∙ map_push asked_of cs c));
        says =
            ap₂ (λ x y. x ++ (record { answer = r; got = y } ∷ [])) q.says (sym eg)
            ∙ append_assoc before log (record { answer = r; got = got } ∷ []);
      };
}

-- both openings
pub both_opened : (sheet : Sheet) (n : Numbers) (m m₁ m₂ : Meaning) (out out₁ out₂ : List ℕ) (s : Seats)
    → SeatOpened sheet.initiator.values Initiator (WaitAu2 n.rb.value n.rc.value) m m₁ out out₁ (seat_value s.0.initiator)
    → SeatOpened sheet.responder.values Responder (Listen n.ra.value) m₁ m₂ out₁ out₂ (seat_value s.0.responder)
    → SeatsOpened sheet n m m₂ s
both_opened sheet n m m₁ m₂ out out₁ out₂ s a b =
    let p = seat_value s.0.initiator in
    let q = seat_value s.0.responder in
    let first = WaitAu2 n.rb.value n.rc.value in
    let second = Listen n.ra.value in
    let t₁ : LinkValue = record { carrier = m₁; initiator = Some p; responder = None } in
    let x : Moment = record { role = Initiator; deed = opens first; answer = a.answer; got = []; put = opening_put first; took = None; before = unopened m; after = t₁ } in
    let y : Moment = record { role = Responder; deed = opens second; answer = b.answer; got = []; put = opening_put second; took = None; before = t₁; after = link_value m₂ s } in
    record {
      first = record { answer = a.answer; got = [] };
      second = record { answer = b.answer; got = [] };
      run = record {
        history = new ▸ x ▸ y;
        ran = (
          (
            refl,
            record {
              does = record {
                numbers = (n.rb.value, n.rc.value, refl);
                unopened = refl;
                end = p.end;
                opened = ap (λ h. Some record { end = p.end; held = h }) a.held;
                out = out;
                out' = out₁;
                wide = a.wide;
                call = a.opens;
                put = refl;
                took = refl;
                got = refl;
              };
              other = refl;
            },
            refl,
          ),
          record {
            does = record {
              numbers = (n.ra.value, refl);
              unopened = refl;
              end = q.end;
              opened = ap (λ h. Some record { end = q.end; held = h }) b.held;
              out = out₁;
              out' = out₂;
              wide = b.wide;
              call = b.opens;
              put = refl;
              took = refl;
              got = refl;
            };
            other = refl;
          },
          refl,
        );
        asks = refl;
        says = refl;
      };
    }

-- the openings, the calls, and the last stops
pub run_made : (sheet : Sheet) (n : Numbers) (m m₁ m₂ m₃ : Meaning) (s s' : Seats) (calls : List OwnCall) (answers : List Told)
    → SeatsOpened sheet n m m₁ s → Played (link_value m₁ s) (link_value m₂ s') calls answers → Closed (link_value m₂ s') m₃
    → RunMade sheet n m m₃ calls answers
run_made sheet n m m₁ m₂ m₃ s s' calls answers o p k =
    let q = p.on (sheets_of sheet) m (openings n) (o.first ∷ (o.second ∷ [])) o.run in
    record { history = q.history; last = link_value m₂ s'; ran = q.ran; asked = q.asks; said = ap (drop 2) q.says; closed = k }
