-- Each string of a telegram's length is exactly one telegram.
use Rattle.std.proofs.Common.{◌≡◌, ℕ, ◌+◌, ◌^◌, ◌<◌, ◌≤◌, Bool, true, false, cond, eqb, leb, List, [], ◌∷◌, ◌++◌, length, get_or, take, drop, Ok, Err, Result, sym, refl, ap, ◌∙◌, subst, ap₂, ⊎_elim, append_assoc, arith, length-append, length-drop, take-append-drop, length-take, drop-drop}
use Rattle.std.proofs.lemmas.Bool.{cond-true, cond-false, cond_both, eq-eqb, ne_eqb, eqb-true, and_from, and_parts, le-leb, leb-true, cases_eq}
use Rattle.terms.specs.declared.refusal.Refusal.{Refusal}
use Rattle.terms.specs.declared.refusal.Refusal.TheVariants as refusal
use Rattle.terms.specs.Numbers.{number, bytes, Bytes}
use Rattle.codec.specs.Telegrams.{ContentValue, ec_start, am, am_req, am_ack, other, TelegramValue, content_type, content_bytes, header, telegram_bytes, telegram_length, read_content, read_telegram, body_fits}
use Rattle.codec.specs.TelegramLaws.{Proper, TelegramWriting, TelegramJudged}
use Rattle.terms.proofs.Numbers.{number_back, bytes_back, number_lt, Bytes-drop, Bytes-take, spelled, spell}

-- what is none of the four, past the tests for them
other_back : (type-byte : ℕ) (body : List ℕ) → Proper (other type-byte body) → read_content type-byte body ≡ other type-byte body
other_back type-byte body h =
    let rest : cond (eqb type-byte 0x86) (am body) (cond (eqb type-byte 0x87) (am_req body) (cond (eqb type-byte 0x88) (am_ack body) (other type-byte body))) ≡ other type-byte body =
    cond-false _ _ _ (ne_eqb _ _ h.1) ∙ cond-false _ _ _ (ne_eqb _ _ h.2) ∙ cond-false _ _ _ (ne_eqb _ _ h.3) in
    ⊎_elim
    (λ e. cond-true _ _ _ (eq-eqb _ _ e) ∙ cond-false _ _ _ (ne_eqb _ _ (h.0 e)) ∙ ap (λ b. other b body) (sym e))
    (λ n. cond-false _ _ _ (ne_eqb _ _ n) ∙ rest)
    (cases_eq type-byte 0x81)

content_back : (c : ContentValue) → Proper c → read_content (content_type c) (content_bytes c) ≡ c
content_back (ec_start version period) h = ap (ec_start version) (number_back 2 period h)
content_back (am m) h = refl
content_back (am_req m) h = refl
content_back (am_ack m) h = refl
content_back (other type-byte body) h = other_back type-byte body h

-- what is written is read
pub writing_reads : (t : TelegramValue) (s : List ℕ) → TelegramWriting t s → read_telegram s ≡ Ok t
unfolding telegram_bytes
writing_reads t s w =
    let body = content_bytes t.content in
    let n : ℕ = 9 + length body in
    let long : length (telegram_bytes t) ≡ n = length-append (header t) body in
    let suits : telegram_length (length (telegram_bytes t)) ≡ true =
    subst (λ k. telegram_length k ≡ true) (sym long) (and_from _ _ (le-leb 9 n (omega arith)) (le-leb n 1032 (omega (arith, w.length_fits)))) in
    ap read_telegram w.written ∙ cond-true _ _ _ suits
    ∙ ap₂ (λ x y. Ok record { sn = x; ec = y; content = read_content (content_type t.content) body }) (number_back 4 t.sn w.sn_fits) (number_back 4 t.ec w.ec_fits)
    ∙ ap (λ c. Ok record { sn = t.sn; ec = t.ec; content = c }) (content_back t.content w.proper)

-- ---- what is read was written so

three : (body : List ℕ) → Bytes body → length body ≡ 3 → get_or body 0 0 ∷ bytes 2 (number 0 (drop 1 body)) ≡ body
unfolding spell
three body h e =
    ap (λ l. get_or body 0 0 ∷ l) (bytes_back 2 (drop 1 body) (Bytes-drop 1 body h) (length-drop 1 body ∙ (omega arith)))
    ∙ ap (λ l. get_or l 0 0 ∷ drop 1 l) (sym (spelled 3 body e)) ∙ spelled 3 body e

period_fits : (body : List ℕ) → Bytes body → length body ≡ 3 → number 0 (drop 1 body) < 2 ^ 16
period_fits body h e =
    let rest = drop 1 body in
    let long : length rest ≡ 2 = length-drop 1 body ∙ (omega arith) in
    let low = subst (λ n. number 0 rest < 256 ^ n) long (number_lt rest (Bytes-drop 1 body h)) in
    omega arith

-- a content that stands for its type and its bytes
record Stands (type-byte : ℕ) (body : List ℕ) (c : ContentValue) : Type 0 where
  type_is : content_type c ≡ type-byte
  body_is : content_bytes c ≡ body
  proper : Proper c

stands : (type-byte : ℕ) (body : List ℕ) → Bytes body → Stands type-byte body (read_content type-byte body)
stands type-byte body h =
    cond_both (eqb type-byte 0x81) _ _ (Stands type-byte body)
    (λ is81. let e : type-byte ≡ 0x81 = eqb-true _ _ is81 in
    cond_both (eqb (length body) 3) _ _ (Stands type-byte body)
    (λ is3. let n = eqb-true (length body) 3 is3 in record { type_is = sym e; body_is = three body h n; proper = period_fits body h n })
    (λ not3. record { type_is = sym e; body_is = refl; proper = ((λ a b. not_both (eq-eqb _ _ b) not3), (λ a. omega arith), (λ a. omega arith), (λ a. omega arith)) }))
    (λ not81. cond_both (eqb type-byte 0x86) _ _ (Stands type-byte body)
    (λ is. record { type_is = sym (eqb-true _ _ is); body_is = refl; proper = tt })
    (λ not86. cond_both (eqb type-byte 0x87) _ _ (Stands type-byte body)
    (λ is. record { type_is = sym (eqb-true _ _ is); body_is = refl; proper = tt })
    (λ not87. cond_both (eqb type-byte 0x88) _ _ (Stands type-byte body)
    (λ is. record { type_is = sym (eqb-true _ _ is); body_is = refl; proper = tt })
    (λ not88. record { type_is = refl; body_is = refl; proper = ((λ a b. not_both (eq-eqb _ _ a) not81), (λ a. not_both (eq-eqb _ _ a) not86), (λ a. not_both (eq-eqb _ _ a) not87), (λ a. not_both (eq-eqb _ _ a) not88)) }))))
  where
    not_both : {b : Bool} → b ≡ true → b ≡ false → ⊥
    not_both p q = cc

-- a string, cut behind its first byte, SN and EC
cut : (s : List ℕ) → 9 ≤ length s → get_or s 0 0 ∷ ((take 4 (drop 1 s) ++ take 4 (drop 5 s)) ++ drop 9 s) ≡ s
cut [] h = absurd (omega arith)
cut (b ∷ s) h =
    ap (λ l. b ∷ l)
    (append_assoc (take 4 s) (take 4 (drop 4 s)) (drop 8 s)
    ∙ ap (λ l. take 4 s ++ l) (ap (λ l. take 4 (drop 4 s) ++ l) (sym (drop-drop 4 4 s)) ∙ take-append-drop 4 (drop 4 s)) ∙ take-append-drop 4 s)

four : (k : ℕ) (s : List ℕ) → Bytes s → k + 4 ≤ length s → (bytes 4 (number 0 (take 4 (drop k s))) ≡ take 4 (drop k s)) × (number 0 (take 4 (drop k s)) < 2 ^ 32)
four k s h room =
    let part = take 4 (drop k s) in
    let hp = Bytes-take 4 (drop k s) (Bytes-drop k s h) in
    let long : length part ≡ 4 = simp (length-take, length-drop) (omega arith) in
    let low = subst (λ n. number 0 part < 256 ^ n) long (number_lt part hp) in
    (bytes_back 4 part hp long, omega arith)

-- the answer says what the string is
Sound : List ℕ → Result TelegramValue Refusal → Type 0
Sound s (Ok t) = TelegramWriting t s
Sound s (Err e) = (e ≡ refusal.FrameLength) × (telegram_length (length s) ≡ false)

sound : (s : List ℕ) → Bytes s → Sound s (read_telegram s)
unfolding Sound telegram_bytes
sound s h =
    cond_both (telegram_length (length s)) _ _ (Sound s)
    (λ suits.
    let both = and_parts (leb 9 (length s)) (leb (length s) 1032) suits in
    let low = leb-true 9 (length s) both.0 in
    let high = leb-true (length s) 1032 both.1 in
    let body = drop 9 s in
    let st = stands (get_or s 0 0) body (Bytes-drop 9 s h) in
    let sn = four 1 s h (omega arith) in
    let ec = four 5 s h (omega arith) in
    record {
      sn_fits = sn.1;
      ec_fits = ec.1;
      proper = st.proper;
      length_fits = subst (λ l. length l ≤ 1023) (sym st.body_is) (simp length-drop (omega arith));
      written =
          sym (ap₂ (λ x y. (x ∷ (bytes 4 (number 0 (take 4 (drop 1 s))) ++ bytes 4 (number 0 (take 4 (drop 5 s))))) ++ y) st.type_is st.body_is
          ∙ ap₂ (λ x y. get_or s 0 0 ∷ ((x ++ y) ++ body)) sn.0 ec.0 ∙ cut s low);
    })
    (λ wrong. (refl, wrong))

ok_not_err : {t : TelegramValue} {e : Refusal} → ◌≡◌ {A = Result TelegramValue Refusal} (Ok t) (Err e) → ⊥
ok_not_err p = cc

only : (s : List ℕ) (r : Result TelegramValue Refusal) → read_telegram s ≡ r → Sound s r → TelegramJudged s r
unfolding Sound
only s (Ok t) e w = (w, (λ o v. let both : ◌≡◌ {A = Result TelegramValue Refusal} (Ok o) (Ok t) = sym (writing_reads o s v) ∙ e in cc))
only s (Err x) e w = (w.0, (λ o v. ok_not_err (sym (writing_reads o s v) ∙ e)))

pub judged : (s : List ℕ) → Bytes s → TelegramJudged s (read_telegram s)
judged s h = only s (read_telegram s) refl (sound s h)

pub length_telegram : (t : TelegramValue) → length (telegram_bytes t) ≡ 9 + length (content_bytes t.content)
unfolding telegram_bytes
length_telegram t = length-append (header t) (content_bytes t.content)

-- what is written is read back
pub read_back : (t : TelegramValue) → t.sn < 2 ^ 32 → t.ec < 2 ^ 32 → body_fits t ≡ true → Proper t.content → read_telegram (telegram_bytes t) ≡ Ok t
read_back t sn ec fits proper =
    writing_reads t (telegram_bytes t) record { sn_fits = sn; ec_fits = ec; proper = proper; length_fits = leb-true _ _ fits; written = refl }
