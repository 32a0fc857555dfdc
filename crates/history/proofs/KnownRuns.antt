-- Along every run a gate knows what the events tell. Assumes nothing.
use Rattle.std.proofs.Common.{◌≡◌, ℕ, ◌≤◌, Bool, true, false, cond, ◌&&◌, ◌||◌, eqb, List, [], ◌∷◌, ◌++◌, Some, None, Ok, Err, Option, Result, sym, refl, ap, ◌∙◌, subst, ⊎_elim, append-nil, arith}
use Rattle.std.proofs.lemmas.Bool.{eq-eqb, ne_eqb}
use Rattle.terms.specs.Entered.{entered_number, entered_effect}
use Rattle.terms.specs.Answers.{given, is_ok, unless}
use Rattle.terms.specs.Refusals.{number}
use Rattle.terms.specs.Tables.{at}
use Rattle.terms.specs.declared.events.Effect.{Effect}
use Rattle.terms.specs.declared.events.EnterAnswer.{EnterAnswer}
use Rattle.terms.specs.declared.events.Event.{Event}
use Rattle.terms.specs.declared.events.Struck.{Struck}
use Rattle.terms.specs.declared.messages.Causes.{Causes}
use Rattle.terms.specs.declared.messages.ScopeNumber.TheVariants.{Acronym, Login}
use Rattle.terms.specs.declared.messages.ScopeNumber.{ScopeNumber}
use Rattle.terms.specs.declared.messages.Ticket.{Ticket}
use Rattle.terms.specs.declared.refusal.Refusal.{Refusal}
use Rattle.terms.proofs.Tables.{at_put, mixed, never, same_all}
use Rattle.market.specs.Book.{Slip, taken_off, waiting_of}
use Rattle.market.specs.Market.{buy_side, sell_side}
use Rattle.checks.specs.Meaning.{Lawful, Meaning, no_cause}
use Rattle.history.specs.Acts.{Act, Cancel, Enter, Kill, Limit, Moment, Open, PutBack, Receipt, Release, Retire, Take, Tick, Values, act, entered, moment, strike}
use Rattle.history.specs.Calls.{done, in_kill, next, refusal, reply}
use Rattle.history.specs.Entering.{Verdict, asked, cannot_rest, enter_reply, holds_on, judged_of, rests, turned, verdict, verdict_answer, verdict_leaves, with_entry}
use Rattle.history.specs.Held.{Word, all_said, firm_after, firm_in, held_in, opens, says, trip_words, valued_in, values, values_after, words_of}
use Rattle.history.specs.Scopes.{lift_scope}
use Rattle.history.specs.State.{Row, State, blank, is_leaving, is_open, nothing_waits, nonzero, opened, receipted_row, retired_row, row, with_book, with_out}
use Rattle.history.specs.Step.{Allowed, Happens, after, reached}
use Rattle.history.specs.Strikes.{fill_notice, fill_told, traded_state}
use Rattle.history.specs.Trips.{causes_of, tell}
use Rattle.history.proofs.Accepted.{enter_ok, kill_ok, open_ok, receipt_ok, release_ok, retire_ok, take_ok, value_ok}
use Rattle.history.proofs.Known.{Done, Known, firm_of, held_scope, here, known_book, known_noticed, known_row, known_told, lifted_scope, not_here}
use Rattle.history.proofs.Rows.{open_leaving, retired_shut}
use Rattle.history.proofs.Sound.{Sound, open_in, shut_book, sound_traded, traders_open, trip_row}
use Rattle.history.proofs.Soundness.{sound_done, sound_lifted, sound_new, sound_off, sound_rest, sound_told}
use Rattle.history.proofs.Verdicts.{turned_so}

abbrev is_enter : Act → Bool
is_enter (Tick t) = false
is_enter (Values series v) = false
is_enter (Open l a role reach) = false
is_enter (Retire l) = false
is_enter (Limit x) = false
is_enter (Enter t) = true
is_enter (Cancel l n) = false
is_enter (Take l) = false
is_enter (Receipt f) = false
is_enter (PutBack f) = false
is_enter (Kill scope reach block) = false
is_enter (Release scope) = false

module _ (m : Meaning) where
  receipted_firm : (ss : List Slip) (r : Row) → firm_of (receipted_row ss r) ≡ firm_of r
  receipted_firm ss r = go (is_open r) (is_leaving r) refl refl ss
    where
      shut_leaving : is_open r ≡ true → is_leaving r ≡ true → ⊥
      shut_leaving o l = mixed ⊥ (sym l ∙ open_leaving r o)

      go : (o b : Bool) → is_open r ≡ o → is_leaving r ≡ b → (ss : List Slip) → firm_of (cond (b && nothing_waits ss) blank (with_out false r)) ≡ firm_of r
      go o false p q ss = refl
      go true true p q ss = never _ (shut_leaving p q)
      go false true p q [] = rw p
      go false true p q (s ∷ ss) = refl

  receipted_hold : (ss : List Slip) (r : Row) → is_open (receipted_row ss r) ≡ true → (is_open r ≡ true) × ((receipted_row ss r).hold ≡ r.hold)
  receipted_hold ss r o = go (is_leaving r && nothing_waits ss) o
    where
      go : (b : Bool) → is_open (cond b blank (with_out false r)) ≡ true → (is_open r ≡ true) × ((cond b blank (with_out false r)).hold ≡ r.hold)
      go true e = mixed _ (sym e)
      go false e = (e, refl)

  known_done :
      (s : State m) (F : ℕ → ℕ) (V : ℕ → Bool) (H : ScopeNumber → Bool) (c : Act) → Known m s F V H → Sound m (done s c) → refusal s c ≡ None
      → is_enter c ≡ false → Done m s F V H c
  known_done s F V H (Tick t) k sound e ne = record { sound = sound; firm = k.firm; login = k.login; acronym = k.acronym; series = k.series }
  known_done s F V H (Values series v) k sound e ne =
      let b = value_ok m s series v e in
      record {
        sound = sound;
        firm = k.firm;
        login = k.login;
        acronym = k.acronym;
        series = λ n. at_put false s.valued series n true b.0 (omega (arith, b.1, k.sound.valued16))
            ∙ either (eqb series n) (at false s.valued n) (V n) (k.series n);
      }
    where
      either : (b x y : Bool) → x ≡ y → cond b true x ≡ (b || y)
      either true x y e = refl
      either false x y e = e
  known_done s F V H (Open l a role reach) k sound e ne =
      let f = open_ok m s l a role reach e in
      known_row m s F _ V H _ l (opened a role reach) (done s (Open l a role reach)) k sound f.0 f.1 refl refl refl
      (here m l a (F l)) (λ i x. not_here m l i a (F i) x) (λ o. here m l false (H (Login l)))
      (λ i x. not_here m l i false (H (Login i)) x) (λ b. refl)
  known_done s F V H (Retire l) k sound e ne =
      let o = retire_ok m s l e in
      let b = open_in s.rows l k.sound.table o in
      let r = retired_row (waiting_of s.book l) (row s l) in
      let n = retired_shut (waiting_of s.book l) (row s l) in
      known_row m s F _ V H H l r (done s (Retire l)) k sound b.0 b.1 refl refl refl
      (rw n (here m l 0 (F l))) (λ i x. not_here m l i 0 (F i) x) (λ p. mixed _ (sym p ∙ n)) (λ i x. refl) (λ b. refl)
  known_done s F V H (Limit x) k sound e ne = known_told m s F V H _ k
  known_done s F V H (Enter t) k sound e ne = mixed _ ne
  known_done s F V H (Cancel l n) k sound e ne = known_book m s F V H _ sound k
  known_done s F V H (Take l) k sound e ne =
      let f = take_ok m s l e in
      known_row m s F F V H H l _ (done s (Take l)) k sound f.0 f.1 refl refl refl (k.firm l) (λ i x. refl) (k.login l)
      (λ i x. refl) (λ b. refl)
  known_done s F V H (Receipt f) k sound e ne =
      let h = receipt_ok m s f e in
      let ss = waiting_of (done s (Receipt f)).book f.login in
      let r = row s f.login in
      known_row m s F F V H H f.login _ (done s (Receipt f)) k sound h.login_low h.login_high refl refl refl
      (receipted_firm ss r ∙ k.firm f.login) (λ i x. refl)
      (λ o. let p = receipted_hold ss r o in ap nonzero p.1 ∙ k.login f.login p.0) (λ i x. refl) (λ b. refl)
  known_done s F V H (PutBack f) k sound e ne =
      let h = receipt_ok m s f e in
      known_row m s F F V H H f.login _ (done s (PutBack f)) k sound h.login_low h.login_high refl refl refl (k.firm f.login)
      (λ i x. refl) (k.login f.login) (λ i x. refl) (λ b. refl)
  known_done s F V H (Kill scope reach block) k sound e ne =
      let f = kill_ok m s scope reach block e in
      let s1 = with_book (taken_off (in_kill s scope reach) s.book) s in
      let k1 = known_book m s F V H (taken_off (in_kill s scope reach) s.book) (sound_off m s (in_kill s scope reach) k.sound) k in
      held_scope m s1 F V H scope block k1 f.0 (shut_book m s (taken_off (in_kill s scope reach) s.book) scope ∙ f.1) sound
  known_done s F V H (Release scope) k sound e ne =
      let f = release_ok m s scope e in
      known_told m (lift_scope scope s) F V _ _ (lifted_scope m s F V H scope k f.0 f.1 (sound_lifted m s scope f.1 k.sound))

  -- a call that is refused says nothing, one that is accepted what it has to say
  refused_or_done :
      {X : Type 0} (o : Option Refusal) (x : X) (s d : State m) (F F' : ℕ → ℕ) (V v : ℕ → Bool) (H : ScopeNumber → Bool) (ws : List Word)
      → Known m s F V H
      → (o ≡ None → Known m d F' (λ n. v n || V n) (λ scope. all_said ws scope (H scope)))
      → Known m (unless o s d) (λ l. cond (is_ok (given o x)) (F' l) (F l)) (λ n. (is_ok (given o x) && v n) || V n)
      (λ scope. all_said (cond (is_ok (given o x)) ws [] ++ []) scope (H scope))
  refused_or_done None x s d F F' V v H ws k h = let e = append-nil ws in
      subst (λ us. Known m d F' (λ n. v n || V n) (λ scope. all_said us scope (H scope))) (sym e) (h refl)
  refused_or_done (Some y) x s d F F' V v H ws k h = k

  -- what is known after an event
  abbrev After : State m → (ℕ → ℕ) → (ℕ → Bool) → (ScopeNumber → Bool) → Moment → Type 0
  After s F V H x = Known m (after s x) (λ l. firm_after x l (F l)) (λ n. values_after x n (V n)) (λ scope. all_said (says F x) scope (H scope))

  module _ (s : State m) (F : ℕ → ℕ) (V : ℕ → Bool) (H : ScopeNumber → Bool) (k : Known m s F V H) where
    refused_or_done_act : {X : Type 0} (c : Act) (x : X) → is_enter c ≡ false
        → Known m (unless (refusal s c) s (done s c)) (λ l. cond (is_ok (given (refusal s c) x)) (opens c l (F l)) (F l))
        (λ n. (is_ok (given (refusal s c) x) && values c n) || V n)
        (λ scope. all_said (cond (is_ok (given (refusal s c) x)) (words_of c) [] ++ []) scope (H scope))
    refused_or_done_act c x ne = refused_or_done (refusal s c) x s (done s c) F (λ l. opens c l (F l)) V (values c) H (words_of c) k
        (λ e. known_done s F V H c k (sound_done m s c k.sound e) e ne)

    known_act : (c : Act) → is_enter c ≡ false → After s F V H (act c (reply s c))
    known_act (Tick t) ne = refused_or_done_act (Tick t) tt refl
    known_act (Values series v) ne = refused_or_done_act (Values series v) tt refl
    known_act (Open l a role reach) ne = refused_or_done_act (Open l a role reach) tt refl
    known_act (Retire l) ne = refused_or_done_act (Retire l) _ refl
    known_act (Limit x) ne = refused_or_done_act (Limit x) tt refl
    known_act (Enter t) ne = mixed _ ne
    known_act (Cancel l n) ne = refused_or_done_act (Cancel l n) _ refl
    known_act (Take l) ne = refused_or_done_act (Take l) _ refl
    known_act (Receipt f) ne = refused_or_done_act (Receipt f) tt refl
    known_act (PutBack f) ne = refused_or_done_act (PutBack f) tt refl
    known_act (Kill scope reach block) ne = refused_or_done_act (Kill scope reach block) _ refl
    known_act (Release scope) ne = refused_or_done_act (Release scope) tt refl

  known_ext :
      (s : State m) (F F' : ℕ → ℕ) (V V' : ℕ → Bool) (H H' : ScopeNumber → Bool) → Known m s F V H
      → ((l : ℕ) → F l ≡ F' l) → ((n : ℕ) → V n ≡ V' n) → ((x : ScopeNumber) → H x ≡ H' x) → Known m s F' V' H'
  known_ext s F F' V V' H H' k f v h =
      record {
        sound = k.sound;
        firm = λ l. k.firm l ∙ f l;
        login = λ l o. k.login l o ∙ h (Login l);
        acronym = λ a w. k.acronym a w
            ∙ h (Acronym a);
        series = λ n. k.series n ∙ v n;
      }

  same_both : {X : Type 0} (b : Bool) (x : X) → x ≡ cond b x x
  same_both true x = refl
  same_both false x = refl

  and_none : (b c : Bool) → c ≡ ((b && false) || c)
  and_none true c = refl
  and_none false c = refl

  -- no cause says nothing
  quiet : (F : ℕ → ℕ) (l : ℕ) (x : ScopeNumber) (h : Bool) → h ≡ all_said (trip_words F l no_cause) x h
  quiet F l (Login i) h = same_both (eqb l i) h
  quiet F l (Acronym a) h = same_both (eqb (F l) a) h

  nothing_said : (b : Bool) (ws : List Word) (x : ScopeNumber) (h : Bool) → all_said ws x h ≡ all_said (cond b [] [] ++ ws) x h
  nothing_said true ws x h = refl
  nothing_said false ws x h = refl

  -- what the answer to enter says
  abbrev entry_says : (ℕ → ℕ) → ℕ → EnterAnswer → ScopeNumber → Bool → Bool
  entry_says F l r x h = all_said (cond (eqb (entered_number r) 21) [] (trip_words F l (entered_effect r).causes)) x h

  known_entry :
      (s : State m) (F : ℕ → ℕ) (V : ℕ → Bool) (H : ScopeNumber → Bool) (t : Ticket) (r : EnterAnswer)
      → Known m s F V (λ x. entry_says F t.login r x (H x))
      → Known m s (λ l. firm_after (act (Enter t) (entered r)) l (F l)) (λ n. values_after (act (Enter t) (entered r)) n (V n))
      (λ x. all_said (says F (act (Enter t) (entered r))) x (H x))
  known_entry s F V H t r k =
      known_ext s F _ V _ _ _ k (λ l. same_both (eqb (entered_number r) 0) (F l)) (λ n. and_none (eqb (entered_number r) 0) (V n))
      (λ x. nothing_said (eqb (entered_number r) 0) _ x (H x))

  module _ (lawful : Lawful m) where
    pub not_21 : (s : State m) (t : Ticket) (n : ℕ) → verdict s t ≡ turned n → (41 ≤ n) × (n ≤ 59)
    not_21 s t n e =
        let f = turned_so (judged_of s t) _ n e in
        ⊎_elim
        (λ z. mixed _ (sym (eq-eqb (judged_of s t) 0 z) ∙ f.1))
        (λ r. subst (λ (i : ℕ). (41 ≤ i) × (i ≤ 59)) f.0 r)
        (lawful.range (asked s t) s.public _)

    known_verdict :
        (s : State m) (F : ℕ → ℕ) (V : ℕ → Bool) (H : ScopeNumber → Bool) (t : Ticket) → Known m s F V H → is_open (row s t.login) ≡ true
        → (v : Verdict) → verdict s t ≡ v → Known m (verdict_leaves t s v) F V (λ x. entry_says F t.login (verdict_answer t s v) x (H x))
    known_verdict s F V H t k o (turned n) e =
        let r = not_21 s t n e in
        rw (ne_eqb n 21 (omega (arith, r.0))) (known_noticed m s F V H t.login _ k o)
    known_verdict s F V H t k o (cannot_rest x) e = known_ext s F F V V H _ k (λ l. refl) (λ n. refl) (λ y. by (eqb (number x) 21) y)
      where
        by : (b : Bool) (y : ScopeNumber) → H y ≡ all_said (cond b [] (trip_words F t.login no_cause)) y (H y)
        by true y = refl
        by false y = quiet F t.login y (H y)
    known_verdict s F V H t k o rests e =
        known_noticed m (with_entry t s) F V H t.login _ (known_book m s F V H _ (sound_rest m s t o k.sound) k) o

    known_enter :
        (s : State m) (F : ℕ → ℕ) (V : ℕ → Bool) (H : ScopeNumber → Bool) (t : Ticket) → Known m s F V H
        → (o : Option Refusal) → refusal s (Enter t) ≡ o
        → Known m (unless o s (done s (Enter t))) F V (λ x. entry_says F t.login (enter_reply t s o) x (H x))
    known_enter s F V H t k None e = known_verdict s F V H t k (enter_ok m s t e).open_is (verdict s t) refl
    known_enter s F V H t k (Some x) e = known_ext s F F V V H _ k (λ l. refl) (λ n. refl) (λ y. by (eqb (number x) 21) y)
      where
        by : (b : Bool) (y : ScopeNumber)
            → H y ≡ all_said (cond b [] (trip_words F t.login
            (cond b (holds_on s t.login) no_cause))) y (H y)
        by true y = refl
        by false y = quiet F t.login y (H y)

    known_struck :
        (s : State m) (F : ℕ → ℕ) (V : ℕ → Bool) (H : ScopeNumber → Bool) (r : Result (Option Struck) Refusal) → Known m s F V H
        → Allowed s (strike r) → After s F V H (strike r)
    known_struck s F V H (Ok None) k a = k
    known_struck s F V H (Err x) k a = k
    known_struck s F V H (Ok (Some x)) k a =
        let t = x.trade in
        let o = traders_open m s t k.sound a.0.0 in
        let s1 = traded_state t s in
        let k1 : Known m s1 F V H = known_book m s F V H s1.book (sound_traded m s t k.sound a.0.0) k in
        let k2 = known_noticed m s1 F V H t.buyer.login (fill_notice s1 (buy_side t)) k1 o.0 in
        let s2 = fill_told (buy_side t) s1 in
        let open2 : is_open (row s2 t.seller.login) ≡ true = ap is_open
        (trip_row m (tell (fill_notice s1 (buy_side t)) s1) t.buyer.login t.seller.login
        (causes_of (fill_notice s1 (buy_side t)) s1) o.0 (sound_told m s1 (fill_notice s1 (buy_side t)) k1.sound)) ∙ o.1 in
        let k3 = known_noticed m s2 F V _ t.seller.login (fill_notice s2 (sell_side t)) k2 open2 in
        let c1 = ap (λ (e : Effect). e.causes) a.1.0 in
        let c2 = ap (λ (e : Effect). e.causes) a.1.1 in
        let P : Causes → Causes → Type 0 = λ b c. Known m (fill_told (sell_side t) s2) F V
        (λ y. all_said (trip_words F t.seller.login c) y (all_said (trip_words F t.buyer.login b) y (H y))) in
        subst (λ b. P b x.sell.causes) (sym c1) (subst (λ c. P (causes_of (fill_notice s1 (buy_side t)) s1) c) (sym c2) k3)

    after_known : (s : State m) (F : ℕ → ℕ) (V : ℕ → Bool) (H : ScopeNumber → Bool) (x : Moment) → Known m s F V H → Allowed s x → After s F V H x
    after_known s F V H (act c r) k a = subst (λ q. After s F V H (act c q)) (sym a) (go c)
      where
        go : (c : Act) → After s F V H (act c (reply s c))
        go (Tick t) = known_act s F V H k (Tick t) refl
        go (Values series v) = known_act s F V H k (Values series v) refl
        go (Open l b role reach) = known_act s F V H k (Open l b role reach) refl
        go (Retire l) = known_act s F V H k (Retire l) refl
        go (Limit x) = known_act s F V H k (Limit x) refl
        go (Enter t) = known_entry (next s (Enter t)) F V H t (enter_reply t s (refusal s (Enter t)))
            (known_enter s F V H t k (refusal s (Enter t)) refl)
        go (Cancel l n) = known_act s F V H k (Cancel l n) refl
        go (Take l) = known_act s F V H k (Take l) refl
        go (Receipt f) = known_act s F V H k (Receipt f) refl
        go (PutBack f) = known_act s F V H k (PutBack f) refl
        go (Kill scope reach block) = known_act s F V H k (Kill scope reach block) refl
        go (Release scope) = known_act s F V H k (Release scope) refl
    after_known s F V H (strike r) k a = known_struck s F V H r k a

    pub known_reached : (p : m.Pub) (room : ℕ) (h : List Event) → Happens m p room h
        → Known m (reached m p room h) (firm_in h) (valued_in h) (held_in h)
    known_reached p room [] t =
        record {
          sound = sound_new m p room;
          firm = λ l. ap firm_of (same_all blank 24 l);
          login = λ l o. mixed _
              (sym (sym (ap is_open (same_all blank 24 l)) ∙ o));
          acronym = λ a f. ap nonzero (same_all 0 8 a);
          series = λ n. same_all false 16 n;
        }
    known_reached p room (e ∷ h) t = after_known (reached m p room h) (firm_in h) (valued_in h) (held_in h) (moment e)
        (known_reached p room h t.0) t.1
