-- Contract sum: of each acronym, after every event, accepted = receipted + waiting + resting + cancelled. By the event, then along a run.
-- Assumes nothing.
use Rattle.std.proofs.Common.{◌≡◌, ℕ, ◌+◌, Bool, true, false, cond, ◌&&◌, eqb, List, [], ◌∷◌, ◌++◌, replicate, Some, None, Ok, Err, Option, Result, sym, refl, ap, ◌∙◌, subst, arith}
use Rattle.std.proofs.lemmas.Bool.{and_parts, eqb-true}
use Rattle.terms.specs.Entered.{entered_number, entered_effect}
use Rattle.terms.specs.Answers.{given, is_ok, ok_or0, unless}
use Rattle.terms.specs.Tables.{at, put}
use Rattle.terms.specs.declared.events.EnterAnswer.{EnterAnswer}
use Rattle.terms.specs.declared.events.Event.{Event}
use Rattle.terms.specs.declared.events.Struck.{Struck}
use Rattle.terms.specs.declared.messages.Fill.{Fill}
use Rattle.terms.specs.declared.messages.Notice.TheVariants.{Entered, TurnedDown}
use Rattle.terms.specs.declared.messages.ScopeNumber.TheVariants.{Acronym, Login}
use Rattle.terms.specs.declared.messages.ScopeNumber.{ScopeNumber}
use Rattle.terms.specs.declared.messages.Ticket.{Ticket}
use Rattle.terms.specs.declared.refusal.Refusal.{Refusal}
use Rattle.terms.proofs.Tables.{at_same, mixed, same_all, up_to_same}
use Rattle.market.specs.Book.{Slip, is_for, slip_of, taken_off, totals}
use Rattle.market.specs.Market.{buy_side, sell_side, younger}
use Rattle.market.proofs.Once.{Once}
use Rattle.checks.specs.Meaning.{Meaning}
use Rattle.history.specs.Acts.{Act, Answer, Cancel, Enter, Kill, Limit, Moment, Open, PutBack, Receipt, Release, Retire, Take, Tick, Values, act, moment, strike, told}
use Rattle.history.specs.Calls.{done, in_kill, is_oldest, kill_cause, next, refusal, reply}
use Rattle.history.specs.Entering.{Verdict, asked, cannot_rest, enter_reply, judged_of, rests, turned, verdict, verdict_answer, verdict_leaves, with_entry}
use Rattle.history.specs.Part.{Item, accepted, belongs, has, has_scope, only_if, own, own_call, own_side, share}
use Rattle.history.specs.Promises.{Balance}
use Rattle.history.specs.Scopes.{hold_scope, lift_scope, shut}
use Rattle.history.specs.State.{Row, State, blank, is_leaving, new_gate, nothing_waits, opened, receipted_row, row, with_book, with_out}
use Rattle.history.specs.Step.{Allowed, Happens, after, reached}
use Rattle.history.specs.Tally.{accepted_by, cancelled, cancelled_by, on_slips, receipted_by, summed, waiting_contracts}
use Rattle.history.proofs.Accepted.{enter_ok, kill_ok, open_ok, receipt_ok, release_ok, retire_ok, shut_ok, take_ok}
use Rattle.history.proofs.Lasting.{once_reached}
use Rattle.history.proofs.Moving.{free_moves, in_market, noticed_moves, off_moves, rest_moves, retire_moves, row_moves, scope_own, slips_moves, struck_moves, zero_if, zero_ifs}
use Rattle.history.proofs.Rows.{open_leaving}
use Rattle.history.proofs.Sound.{Sound, open_in, shut_book}
use Rattle.history.proofs.Soundness.{sound_off, sound_reached, sound_rest}
use Rattle.history.proofs.Verdicts.{number_some, turned_some}

module _ (m : Meaning) (a : ℕ) where
  -- from s to d went a call that is a's or not (b), and that accepts x, receipts y and cancels z
  abbrev Moved : State m → State m → Bool → ℕ → ℕ → ℕ → Type 0
  Moved s d b x y z = in_market m a s + cond b x 0 ≡ (in_market m a d + cond b y 0) + cond b z 0

  still : (s d : State m) (b h : Bool) → in_market m a d ≡ in_market m a s → Moved s d b (cond h 0 0) (cond h 0 0) 0
  still s d b h e = go (in_market m a s) (in_market m a d) _ _ e (zero_ifs b h) (zero_if b)
    where
      go : (w v x z : ℕ) → v ≡ w → x ≡ 0 → z ≡ 0 → w + x ≡ (v + x) + z
      go w v x z e f g = omega arith

  unless_still : (o : Option Refusal) (s d : State m) → (o ≡ None → in_market m a d ≡ in_market m a s) → in_market m a (unless o s d) ≡ in_market m a s
  unless_still None s d h = h refl
  unless_still (Some x) s d h = refl

  cancels :
      (o : Option Refusal) (s d : State m) (b : Bool) (n : ℕ) → (o ≡ None → in_market m a d + cond b n 0 ≡ in_market m a s)
      → Moved s (unless o s d) b (cond (is_ok (given o n)) 0 0) (cond (is_ok (given o n)) 0 0) (ok_or0 (given o n))
  cancels None s d b n h = go (in_market m a s) (in_market m a d) _ _ (h refl) (zero_if b)
    where
      go : (w v x z : ℕ) → v + z ≡ w → x ≡ 0 → w + x ≡ (v + x) + z
      go w v x z e f = omega arith
  cancels (Some x) s d b n h = still s s b false refl

  receipts :
      (u : Unit {0}) (o : Option Refusal) (s d : State m) (b : Bool) (n : ℕ) → (o ≡ None → in_market m a d + cond b n 0 ≡ in_market m a s)
      → Moved s (unless o s d) b (cond (is_ok (given o u)) 0 0) (cond (is_ok (given o u)) n 0) 0
  receipts u None s d b n h = go (in_market m a s) (in_market m a d) _ _ (h refl) (zero_if b)
    where
      go : (w v x z : ℕ) → v + z ≡ w → x ≡ 0 → w + x ≡ (v + z) + x
      go w v x z e f = omega arith
  receipts u (Some x) s d b n h = still s s b false refl

  receipt_moves : (s : State m) (f : Fill) → Sound m s → refusal s (Receipt f) ≡ None
      → in_market m a (done s (Receipt f)) + cond (has a s f.login) f.contracts 0 ≡ in_market m a s
  receipt_moves s f k e =
      let h = receipt_ok m s f e in
      let l = f.login in
      let S = s.book.slips in
      let ss = younger (at [] S l) in
      let r = row s l in
      let after_drop : at [] (put S l ss) l ≡ ss = at_same [] S l l ss h.login_low (omega (arith, h.login_high, k.table.slips24)) refl in
      slips_moves m a s l (receipted_row (at [] (put S l ss) l) r) ss _ h.login_low h.login_high k
      (subst (λ (u : List Slip). cond (eqb r.acronym a) (on_slips (at [] S l)) 0 ≡ cond (eqb (receipted_row u r).acronym a)
      (on_slips ss) 0 + cond (eqb r.acronym a) f.contracts 0) (sym after_drop) (first_goes (at [] S l) r h.oldest_is))
      (λ o. let q = open_leaving r o in rw q)
    where
      kept : (r : Row) (ss : List Slip) → cond (eqb (receipted_row ss r).acronym a) (on_slips ss) 0 ≡ cond (eqb r.acronym a) (on_slips ss) 0
      kept r ss = go (is_leaving r) ss
        where
          go : (b : Bool) (ss : List Slip)
              → cond (eqb (cond (b && nothing_waits ss) blank (with_out false r)).acronym a) (on_slips ss) 0 ≡ cond (eqb r.acronym a) (on_slips ss) 0
          go false ss = refl
          go true [] = zero_if (eqb 0 a) ∙ sym (zero_if (eqb r.acronym a))
          go true (x ∷ ss) = refl

      split : (b : Bool) (x y z : ℕ) → x ≡ y + z → cond b x 0 ≡ cond b y 0 + cond b z 0
      split true x y z e = e
      split false x y z e = refl

      first_goes : (ss : List Slip) (r : Row) → is_oldest (slip_of f) ss ≡ true
          → cond (eqb r.acronym a) (on_slips ss) 0 ≡ cond (eqb (receipted_row (younger ss) r).acronym a) (on_slips (younger ss)) 0 + cond
          (eqb r.acronym a) f.contracts 0
      first_goes [] r e = mixed _ (sym e)
      first_goes (x ∷ ss) r e =
          let c : x.contracts ≡ f.contracts = eqb-true x.contracts f.contracts
          (and_parts (eqb x.contracts f.contracts) (eqb x.price f.price)
          (and_parts (eqb x.side f.side) _ (and_parts (eqb x.number f.number) _ e).1).1).0 in
          split (eqb r.acronym a) (x.contracts + on_slips ss) (on_slips ss) f.contracts (omega (arith, c))
          ∙ ap (λ (n : ℕ). n + cond (eqb r.acronym a) f.contracts 0) (sym (kept r ss))

  -- ---- enter

  abbrev EnterMoved : State m → State m → Ticket → EnterAnswer → Type 0
  EnterMoved s d t r = Moved s d (has a s t.login) (cond (eqb (entered_number r) 0) t.contracts 0) (cond (eqb (entered_number r) 0) 0 0)
      (entered_effect r).cancelled

  -- a number other than 0
  turned_down : (s d : State m) (t : Ticket) (r : EnterAnswer) → eqb (entered_number r) 0 ≡ false
      → in_market m a d + cond (has a s t.login) (entered_effect r).cancelled 0 ≡ in_market m a s → EnterMoved s d t r
  turned_down s d t r e h = rw e (go (in_market m a s) (in_market m a d) _ _ h (zero_if (has a s t.login)))
    where
      go : (w v x z : ℕ) → v + z ≡ w → x ≡ 0 → w + x ≡ (v + x) + z
      go w v x z e f = omega arith

  refused_entry : (s : State m) (t : Ticket) (r : EnterAnswer) → eqb (entered_number r) 0 ≡ false → (entered_effect r).cancelled ≡ 0 → EnterMoved s s t r
  refused_entry s t r e z = turned_down s s t r e
      (ap (λ (n : ℕ). in_market m a s + cond (has a s t.login) n 0) z ∙ go (in_market m a s) _ (zero_if (has a s t.login)))
    where
      go : (w x : ℕ) → x ≡ 0 → w + x ≡ w
      go w x e = omega arith

  verdict_moves :
      (s : State m) (t : Ticket) → Sound m s → refusal s (Enter t) ≡ None → (v : Verdict) → verdict s t ≡ v
      → EnterMoved s (verdict_leaves t s v) t (verdict_answer t s v)
  verdict_moves s t k e (turned n) v = turned_down s (verdict_leaves t s (turned n)) t (verdict_answer t s (turned n))
      (turned_some (judged_of s t) _ n v) (noticed_moves m a s t.login (TurnedDown (asked s t) n) (enter_ok m s t e).open_is k)
  verdict_moves s t k e (cannot_rest x) v = refused_entry s t (verdict_answer t s (cannot_rest x)) (number_some x) refl
  verdict_moves s t k e rests v =
      let f = enter_ok m s t e in
      go (in_market m a s) (in_market m a (with_entry t s)) (in_market m a (verdict_leaves t s rests)) _ _ _
      (rest_moves m a s t f.series_low f.series_high k)
      (noticed_moves m a (with_entry t s) t.login (Entered (asked s t)) f.open_is (sound_rest m s t f.open_is k))
      (zero_if (has a s t.login))
    where
      go : (w v u x y z : ℕ) → v ≡ w + x → u + z ≡ v → y ≡ 0 → w + x ≡ (u + y) + z
      go w v u x y z e f g = omega arith

  enter_moves : (s : State m) (t : Ticket) → Sound m s → (o : Option Refusal) → refusal s (Enter t) ≡ o
      → EnterMoved s (unless o s (done s (Enter t))) t (enter_reply t s o)
  enter_moves s t k None e = verdict_moves s t k e (verdict s t) refl
  enter_moves s t k (Some x) e = refused_entry s t (enter_reply t s (Some x)) (number_some x) refl

  -- ---- holds move nothing

  held_moves : (s : State m) (scope : ScopeNumber) (n : ℕ) → shut s scope ≡ false → Sound m s → in_market m a (hold_scope scope n s) ≡ in_market m a s
  held_moves s (Login l) n h k =
      let b = open_in s.rows l k.table (shut_ok m s l h) in
      row_moves m a s l _ b.0 b.1 k refl
  held_moves s (Acronym x) n h k = refl

  lifted_moves : (s : State m) (scope : ScopeNumber) → shut s scope ≡ false → Sound m s → in_market m a (lift_scope scope s) ≡ in_market m a s
  lifted_moves s (Login l) h k =
      let b = open_in s.rows l k.table (shut_ok m s l h) in
      row_moves m a s l _ b.0 b.1 k refl
  lifted_moves s (Acronym x) h k = refl

  kill_moves :
      (s : State m) (scope : ScopeNumber) (reach block : ℕ) → Sound m s → refusal s (Kill scope reach block) ≡ None
      → in_market m a (done s (Kill scope reach block)) + cond (has_scope a s scope)
      (totals (in_kill s scope reach) s.book.resting) 0 ≡ in_market m a s
  kill_moves s scope reach block k e =
      let q = in_kill s scope reach in
      let s1 = with_book (taken_off q s.book) s in
      ap (λ (n : ℕ). n + cond (has_scope a s scope) (totals q s.book.resting) 0)
      (held_moves s1 scope (kill_cause block)
      (shut_book m s (taken_off (in_kill s scope reach) s.book) scope ∙ (kill_ok m s scope reach block e).1) (sound_off m s q k))
      ∙ off_moves m a s q (has_scope a s scope) (λ x h. scope_own m a s scope x (and_parts _ _ h).1)

  -- ---- all calls

  -- what a call moves, by its own answer
  abbrev Core : State m → Act → Type 0
  Core s c = Moved s (next s c) (belongs a s (reply s c) c) (accepted_by (own_call c, reply s c)) (receipted_by (own_call c, reply s c))
      (cancelled (reply s c))

  -- a call that neither accepts, receipts nor cancels
  quiet :
      (s : State m) (c : Act) → (refusal s c ≡ None → in_market m a (done s c) ≡ in_market m a s)
      → Moved s (next s c) (belongs a s (reply s c) c) (cond (accepted (reply s c)) 0 0) (cond (accepted (reply s c)) 0 0) 0
  quiet s c h = still s (next s c) (belongs a s (reply s c) c) (accepted (reply s c)) (unless_still (refusal s c) s (done s c) h)

  moves : (s : State m) (c : Act) → Sound m s → Core s c
  moves s (Tick t) k = quiet s (Tick t) (λ e. refl)
  moves s (Values series v) k = quiet s (Values series v) (λ e. refl)
  moves s (Open l b role reach) k = quiet s (Open l b role reach)
      (λ e. let f = open_ok m s l b role reach e in free_moves m a s l (opened b role reach) f.0 f.1 k f.3)
  moves s (Retire l) k = cancels (refusal s (Retire l)) s (done s (Retire l)) (belongs a s (reply s (Retire l)) (Retire l)) _
      (λ e. retire_moves m a s l k (retire_ok m s l e))
  moves s (Limit x) k = quiet s (Limit x) (λ e. refl)
  moves s (Enter t) k = enter_moves s t k (refusal s (Enter t)) refl
  moves s (Cancel l n) k = cancels (refusal s (Cancel l n)) s (done s (Cancel l n)) (belongs a s (reply s (Cancel l n)) (Cancel l n)) _
      (λ e. off_moves m a s (is_for l n) (has a s l) (λ x h. ap (λ (i : ℕ). has a s i) (eqb-true x.login l (and_parts _ _ h).0)))
  moves s (Take l) k = quiet s (Take l) (λ e. let f = take_ok m s l e in row_moves m a s l _ f.0 f.1 k refl)
  moves s (Receipt f) k = receipts tt (refusal s (Receipt f)) s (done s (Receipt f)) (has a s f.login) f.contracts (receipt_moves s f k)
  moves s (PutBack f) k = quiet s (PutBack f) (λ e. let h = receipt_ok m s f e in row_moves m a s f.login _ h.login_low h.login_high k refl)
  moves s (Kill scope reach block) k = cancels (refusal s (Kill scope reach block)) s (done s (Kill scope reach block))
      (belongs a s (reply s (Kill scope reach block)) (Kill scope reach block)) _ (kill_moves s scope reach block k)
  moves s (Release scope) k = quiet s (Release scope) (λ e. lifted_moves s scope (release_ok m s scope e).1 k)

  -- ---- along a run

  summed_joined : (f : Item × Answer → ℕ) (xs ys : List (Item × Answer)) → summed f (xs ++ ys) ≡ summed f xs + summed f ys
  summed_joined f [] ys = omega arith
  summed_joined f (x ∷ xs) ys = omega (arith, summed_joined f xs ys)

  summed_if : (f : Item × Answer → ℕ) (b : Bool) (x : Item × Answer) → summed f (only_if b x) ≡ cond b (f x) 0
  summed_if f true x = omega arith
  summed_if f false x = refl

  -- what an event moves
  abbrev Moves : State m → Moment → Type 0
  Moves s x =
      in_market m a s + summed accepted_by (share a s x) ≡ (in_market m a (after s x) + summed receipted_by (share a s x)) + summed cancelled_by
      (share a s x)

  act_moves : (s : State m) (c : Act) → Sound m s → Moves s (act c (reply s c))
  act_moves s c k = go _ _ _ _ _ _ _ _ (summed_if accepted_by b x) (summed_if receipted_by b x) (summed_if cancelled_by b x) (moves s c k)
    where
      b : Bool
      b = belongs a s (reply s c) c

      x : Item × Answer
      x = (own_call c, reply s c)

      go : (w v p q r p' q' r' : ℕ) → p ≡ p' → q ≡ q' → r ≡ r' → w + p' ≡ (v + q') + r' → w + p ≡ (v + q) + r
      go w v p q r p' q' r' e f g h = omega arith

  strike_moves : (s : State m) (r : Result (Option Struck) Refusal) → Sound m s → Once s.book.resting → Allowed s (strike r) → Moves s (strike r)
  strike_moves s (Ok None) k o ok = go (in_market m a s)
    where
      go : (w : ℕ) → w + 0 ≡ (w + 0) + 0
      go w = omega arith
  strike_moves s (Err x) k o ok = go (in_market m a s)
    where
      go : (w : ℕ) → w + 0 ≡ (w + 0) + 0
      go w = omega arith
  strike_moves s (Ok (Some x)) k o ok =
      go (in_market m a s) (in_market m a (after s (strike (Ok (Some x))))) _ _ _ _ _ _ _ _ _
      (summed_joined accepted_by sells buys) (summed_if accepted_by _ sell ∙ zero_if _) (summed_if accepted_by _ buy ∙ zero_if _)
      (summed_joined receipted_by sells buys) (summed_if receipted_by _ sell ∙ zero_if _) (summed_if receipted_by _ buy ∙ zero_if _)
      (summed_joined cancelled_by sells buys ∙ ap (λ n. n + summed cancelled_by buys) (summed_if cancelled_by _ sell)
      ∙ ap (λ n. cond (has a s x.trade.seller.login) x.sell.cancelled 0 + n) (summed_if cancelled_by _ buy))
      (struck_moves m a s x k o ok)
    where
      sell : Item × Answer
      sell = (own_side (sell_side x.trade), told x.sell)

      buy : Item × Answer
      buy = (own_side (buy_side x.trade), told x.buy)

      sells : List (Item × Answer)
      sells = only_if (has a s x.trade.seller.login) sell

      buys : List (Item × Answer)
      buys = only_if (has a s x.trade.buyer.login) buy

      go : (w v p p1 p2 q q1 q2 r c d : ℕ) → p ≡ p1 + p2 → p1 ≡ 0 → p2 ≡ 0 → q ≡ q1 + q2 → q1 ≡ 0 → q2 ≡ 0 → r ≡ c + d → v + (c + d) ≡ w
          → w + p ≡ (v + q) + r
      go w v p p1 p2 q q1 q2 r c d e1 e2 e3 f1 f2 f3 g h = omega arith

  after_moves : (s : State m) (x : Moment) → Sound m s → Once s.book.resting → Allowed s x → Moves s x
  after_moves s (act c r) k o ok = subst (λ q. Moves s (act c q)) (sym ok) (act_moves s c k)
  after_moves s (strike r) k o ok = strike_moves s r k o ok

  none_waits : (p : m.Pub) (room : ℕ) → waiting_contracts a (new_gate m p room) ≡ 0
  none_waits p room = up_to_same 24 (λ l. cond (has a (new_gate m p room) l) (on_slips (at [] (replicate 24 []) l)) 0) (λ l. 0)
      (λ l. ap (λ (ss : List Slip). cond (has a (new_gate m p room) l) (on_slips ss) 0) (same_all [] 24 l) ∙ zero_if _)

  -- the theorem
  pub balance : (p : m.Pub) (room : ℕ) (h : List Event) → Happens m p room h → Balance m p room a h
  balance p room [] t = go (waiting_contracts a (new_gate m p room)) (none_waits p room)
    where
      go : (w : ℕ) → w ≡ 0 → 0 ≡ ((0 + w) + 0) + 0
      go w e = omega arith
  balance p room (e ∷ h) t =
      let s = reached m p room h in
      let x = moment e in
      let rest = own m p room a h in
      go _ _ _ _ _ _ _ _ _ _ _ _ _ (balance p room h t.0) (after_moves s x (sound_reached m p room h t.0) (once_reached m p room h) t.1)
      (summed_joined accepted_by (share a s x) rest) (summed_joined receipted_by (share a s x) rest) (summed_joined cancelled_by (share a s x) rest)
    where
      go :
          (A R C w r w' r' A1 R1 C1 A2 R2 C2 : ℕ) → A ≡ ((R + w) + r) + C → (w + r) + A1 ≡ ((w' + r') + R1) + C1 → A2 ≡ A1 + A
          → R2 ≡ R1 + R → C2 ≡ C1 + C
          → A2 ≡ ((R2 + w') + r') + C2
      go A R C w r w' r' A1 R1 C1 A2 R2 C2 e1 e2 e3 e4 e5 = omega arith
