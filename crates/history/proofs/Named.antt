-- Every slip taken names an entry accepted since its login was last opened: so does every entry that rests and every slip that waits.
-- Assumes nothing.
use Rattle.std.proofs.Common.{◌≡◌, ℕ, ◌≤◌, Bool, true, false, cond, ◌&&◌, eqb, List, [], ◌∷◌, map, length, Some, None, Ok, Err, Option, Result, sym, refl, ap, ◌∙◌, subst, ⊎_elim, arith}
use Rattle.std.specs.List.{AllByRecursion}
use Rattle.std.proofs.lemmas.Bool.{and_parts, eq-eqb, eqb-true, ne_eqb}
use Rattle.std.proofs.lemmas.Bool.Decides.{eqb_tells}
use Rattle.terms.specs.Entered.{entered_number}
use Rattle.terms.specs.Answers.{given, is_ok, unless}
use Rattle.terms.specs.Tables.{any_of, at}
use Rattle.terms.specs.declared.events.Event.TheVariants as event
use Rattle.terms.specs.declared.events.Event.{Event}
use Rattle.terms.specs.declared.events.Struck.{Struck}
use Rattle.terms.specs.declared.messages.Fill.{Fill}
use Rattle.terms.specs.declared.messages.ScopeNumber.TheVariants.{Acronym, Login}
use Rattle.terms.specs.declared.messages.ScopeNumber.{ScopeNumber}
use Rattle.terms.specs.declared.messages.Ticket.{Ticket}
use Rattle.terms.specs.declared.refusal.Refusal.{Refusal}
use Rattle.terms.proofs.Tables.{all_joined, all_at, all_map, all_put, all_same, all_weak, any_all, at_other, at_same, length_put, mixed, never, or_so, same_all}
use Rattle.market.specs.Book.{Book, Entry, Slip, any_in, handed, in_reach, is_for, slip_of, taken_off, waiting_of, with_resting, with_slips_of, without}
use Rattle.market.specs.Market.{buy_side, fillable, filled_in, fills, rested, sell_side, side_traded, younger}
use Rattle.market.proofs.Fills.{all_filled, any_in_filled, both_fillable, other_side_unfilled}
use Rattle.market.proofs.Picked.{all_without}
use Rattle.checks.specs.Meaning.{Meaning}
use Rattle.history.specs.Acts.{Act, Cancel, Enter, Kill, Limit, Moment, Open, PutBack, Receipt, Release, Retire, Take, Tick, Values, act, moment, strike, taken}
use Rattle.history.specs.Calls.{done, first, in_kill, next, refusal, reply}
use Rattle.history.specs.Entering.{Verdict, cannot_rest, enter_reply, entry_of, judged_of, rests, turned, verdict, verdict_answer, verdict_leaves}
use Rattle.history.specs.Scopes.{hold_scope, lift_scope}
use Rattle.history.specs.State.{State, is_free, is_open, nothing_waits, row, with_book}
use Rattle.history.specs.Step.{Allowed, Happens, after, reached}
use Rattle.history.specs.Tally.{accepted_in, names, noted_after, notes}
use Rattle.history.proofs.Accepted.{open_ok, receipt_ok, take_ok}
use Rattle.history.proofs.Rows.{open_free}
use Rattle.history.proofs.Sound.{OpenIn, Sound, open_in, traders_open}
use Rattle.history.proofs.Soundness.{sound_reached}
use Rattle.history.proofs.Verdicts.{number_some, turned_some}

-- A has the tickets accepted of each login: one of them names the entry
abbrev RestOk : (ℕ → List Ticket) → Entry → Type 0
RestOk A e = any_of (λ t. eqb t.login e.login && (eqb t.number e.number && eqb t.side e.side)) (A e.login) ≡ true

-- one of them names the slip
abbrev WaitOk : (ℕ → List Ticket) → ℕ → Slip → Type 0
WaitOk A l s = any_of (names l s) (A l) ≡ true

-- all that rests and waits is named
record Kept (b : Book) (A : ℕ → List Ticket) : Type 0 where
  rests : AllByRecursion (AllByRecursion (RestOk A)) b.resting
  waits : (l : ℕ) → AllByRecursion (WaitOk A l) (waiting_of b l)

kept_off : (b : Book) (A : ℕ → List Ticket) (q : Entry → Bool) → Kept b A → Kept (taken_off q b) A
kept_off b A q k =
    record {
      rests = all_map (AllByRecursion (RestOk A)) (AllByRecursion (RestOk A)) (without q) b.resting
          (λ es x. all_weak (λ e. RestOk A e × (q e ≡ false)) (RestOk A) (without q es) (λ e p. p.0) (all_without (RestOk A) q es x)) k.rests;
      waits = k.waits;
    }

-- one more entry of a login
kept_more : (b : Book) (A : ℕ → List Ticket) (t : Ticket) → Kept b A → Kept b (λ l. cond (eqb t.login l) (t ∷ A l) (A l))
kept_more b A t k =
    record {
      rests = all_weak (AllByRecursion (RestOk A)) (AllByRecursion (RestOk B)) b.resting
          (λ es x. all_weak (RestOk A) (RestOk B) es
          (λ e y. longer (λ u. eqb u.login e.login && (eqb u.number e.number && eqb u.side e.side))
          (eqb t.login e.login) (A e.login) y) x) k.rests;
      waits = λ l. all_weak (WaitOk A l) (WaitOk B l) (waiting_of b l) (λ s y. longer (names l s) (eqb t.login l) (A l) y) (k.waits l);
    }
  where
    B : ℕ → List Ticket
    B l = cond (eqb t.login l) (t ∷ A l) (A l)

    longer : (p : Ticket → Bool) (b : Bool) (ts : List Ticket) → any_of p ts ≡ true → any_of p (cond b (t ∷ ts) ts) ≡ true
    longer p true ts e = or_so (p t) (any_of p ts) e
    longer p false ts e = e

kept_rest : (b : Book) (A : ℕ → List Ticket) (series : ℕ) (e : Entry) → RestOk A e → Kept b A → Kept (rested b series e) A
kept_rest b A series e o k =
    record {
      rests = all_put (AllByRecursion (RestOk A)) b.resting series _
          (all_joined (RestOk A) (at [] b.resting series) (e ∷ []) (all_at (AllByRecursion (RestOk A)) [] b.resting series tt k.rests) (o, tt)) k.rests;
      waits = k.waits;
    }

-- a login's slips change
kept_slips : (b : Book) (A : ℕ → List Ticket) (l : ℕ) (ss : List Slip) → 1 ≤ l → l ≤ length b.slips → AllByRecursion (WaitOk A l) ss → Kept b A
    → Kept (with_slips_of b l ss) A
kept_slips b A l ss low high o k =
    record {
      rests = k.rests;
      waits = λ i. ⊎_elim
          (λ p. subst (AllByRecursion (WaitOk A i)) (sym (at_same [] b.slips l i ss low high p.1)) (subst (λ (j : ℕ). AllByRecursion (WaitOk A j) ss) p.1 o))
          (λ p. subst (AllByRecursion (WaitOk A i)) (sym (at_other [] b.slips l i ss low high p.0)) (k.waits i))
          (eqb_tells l i);
    }

kept_side : (b : Book) (A : ℕ → List Ticket) (f : Fill) → 1 ≤ f.login → f.login ≤ length b.slips
    → any_in (fillable f) b.resting ≡ true → Kept b A → Kept (side_traded f b) A
kept_side b A f low high any k =
    let es = any_all (AllByRecursion (RestOk A)) (any_of (fillable f)) b.resting k.rests any in
    let e = any_all (RestOk A) (fillable f) es.0 es.1 es.2 in
    let x = e.0 in
    let fl = (and_parts (fills f x) _ e.2).0 in
    let both = and_parts (is_for f.login f.number x) (eqb x.side f.side) fl in
    let who = and_parts (eqb x.login f.login) (eqb x.number f.number) both.0 in
    let named : WaitOk A f.login (slip_of f) = same_name x.login f.login x.number f.number x.side f.side
    (eqb-true _ _ who.0) (eqb-true _ _ who.1) (eqb-true _ _ both.1) e.1 in
    kept_slips (with_resting b (map (filled_in f) b.resting)) A f.login _ low high
    (all_joined (WaitOk A f.login) (waiting_of b f.login) (slip_of f ∷ []) (k.waits f.login) (named, tt))
    (record {
      rests = all_map (AllByRecursion (RestOk A)) (AllByRecursion (RestOk A)) (filled_in f) b.resting (λ es y. all_filled (RestOk A) f es (λ e n w p. p) y) k.rests;
      waits = k.waits;
    })
  where
    same_name :
        (l l' n n' d d' : ℕ) → l ≡ l' → n ≡ n' → d ≡ d' → any_of (λ t. eqb t.login l && (eqb t.number n && eqb t.side d)) (A l) ≡ true
        → any_of (λ t. eqb t.login l' && (eqb t.number n' && eqb t.side d')) (A l') ≡ true
    same_name l l' n n' d d' e f g h = rw (← e, ← f, ← g) h

module _ (m : Meaning) where
  abbrev KeptIn : State m → (ℕ → List Ticket) → Type 0
  KeptIn s A = Kept s.book A

  kept_enter : (s : State m) (t : Ticket) (A : ℕ → List Ticket) (v : Verdict) → verdict s t ≡ v → KeptIn s A
      → KeptIn (verdict_leaves t s v) (λ l. cond (eqb (entered_number (verdict_answer t s v)) 0) (notes (Enter t) l (A l)) (A l))
  kept_enter s t A (turned n) e k = rw (turned_some (judged_of s t) _ n e) (kept_off s.book A _ k)
  kept_enter s t A (cannot_rest x) e k = rw (number_some x) k
  kept_enter s t A rests e k = kept_off _ _ _ (kept_rest s.book _ t.series (entry_of t) new (kept_more s.book A t k))
    where
      new : RestOk (λ l. cond (eqb t.login l) (t ∷ A l) (A l)) (entry_of t)
      new = rw (
        eq-eqb t.login t.login refl,
        eq-eqb t.number t.number refl,
        eq-eqb t.side t.side refl,
        eq-eqb t.login
            t.login refl,
      )

  kept_held : (s : State m) (scope : ScopeNumber) (n : ℕ) (A : ℕ → List Ticket) → KeptIn s A → KeptIn (hold_scope scope n s) A
  kept_held s (Login l) n A k = k
  kept_held s (Acronym a) n A k = k

  kept_lifted : (s : State m) (scope : ScopeNumber) (A : ℕ → List Ticket) → KeptIn s A → KeptIn (lift_scope scope s) A
  kept_lifted s (Login l) A k = k
  kept_lifted s (Acronym a) A k = k

  kept_open : (s : State m) (l : ℕ) (A : ℕ → List Ticket) → Sound m s → is_free (row s l) ≡ true → KeptIn s A → KeptIn s (λ i. cond (eqb l i) [] (A i))
  kept_open s l A sound f k =
      record {
        rests = both_all s.book.resting sound.table.rests k.rests;
        waits = λ i. ⊎_elim
            (λ p. subst (AllByRecursion (WaitOk B i)) (sym (ap (waiting_of s.book) (sym p.1) ∙ sound.table.waits l f)) tt)
            (λ p. all_weak (WaitOk A i) (WaitOk B i) (waiting_of s.book i) (λ x y. ap (any_of (names i x)) (stays i p.0) ∙ y) (k.waits i))
            (eqb_tells l i);
      }
    where
      B : ℕ → List Ticket
      B i = cond (eqb l i) [] (A i)

      stays : (i : ℕ) → eqb l i ≡ false → B i ≡ A i
      stays i e = rw e

      other : (e : Entry) → OpenIn s.rows e → eqb l e.login ≡ false
      other e o = ne_eqb l e.login (λ q. mixed ⊥ (sym f ∙ open_free (row s l) (ap (λ (i : ℕ). is_open (row s i)) q ∙ o)))

      each : (es : List Entry) → AllByRecursion (OpenIn s.rows) es → AllByRecursion (RestOk A) es → AllByRecursion (RestOk B) es
      each [] o r = tt
      each (e ∷ es) o r = (
        ap (λ (ts : List Ticket). any_of
            (λ t. eqb t.login e.login && (eqb t.number e.number && eqb t.side e.side)) ts)
            (stays e.login (other e o.0)) ∙ r.0,
        each es o.1 r.1,
      )

      both_all : (ess : List (List Entry)) → AllByRecursion (AllByRecursion (OpenIn s.rows)) ess → AllByRecursion (AllByRecursion (RestOk A)) ess → AllByRecursion (AllByRecursion (RestOk B)) ess
      both_all [] o r = tt
      both_all (es ∷ ess) o r = (each es o.0 r.0, both_all ess o.1 r.1)

  all_younger : (P : Slip → Type 0) (ss : List Slip) → AllByRecursion P ss → AllByRecursion P (younger ss)
  all_younger P [] a = tt
  all_younger P (s ∷ ss) a = a.1

  refused_or_done : {X : Type 0} (o : Option Refusal) (x : X) (s d : State m) (A A' : ℕ → List Ticket) → KeptIn s A
      → (o ≡ None → KeptIn d A') → KeptIn (unless o s d) (λ l. cond (is_ok (given o x)) (A' l) (A l))
  refused_or_done None x s d A A' k h = h refl
  refused_or_done (Some y) x s d A A' k h = k

  kept_entry : (s : State m) (t : Ticket) (A : ℕ → List Ticket) → KeptIn s A → (o : Option Refusal) → refusal s (Enter t) ≡ o
      → KeptIn (unless o s (done s (Enter t))) (λ l. cond (eqb (entered_number (enter_reply t s o)) 0) (notes (Enter t) l (A l)) (A l))
  kept_entry s t A k None e = kept_enter s t A (verdict s t) refl k
  kept_entry s t A k (Some x) e = rw (number_some x) k

  module _ (s : State m) (A : ℕ → List Ticket) (sound : Sound m s) (k : KeptIn s A) where
    kept_act : (c : Act) → KeptIn (next s c) (λ l. noted_after (act c (reply s c)) l (A l))
    kept_act (Tick t) = refused_or_done (refusal s (Tick t)) tt s _ A A k (λ e. k)
    kept_act (Values series v) = refused_or_done (refusal s (Values series v)) tt s _ A A k (λ e. k)
    kept_act (Open l a role reach) = refused_or_done (refusal s (Open l a role reach)) tt s _ A (λ i. cond (eqb l i) [] (A i)) k
        (λ e. kept_open s l A sound (open_ok m s l a role reach e).3 k)
    kept_act (Retire l) = refused_or_done (refusal s (Retire l)) _ s _ A A k (λ e. kept_off s.book A (in_reach l 3) k)
    kept_act (Limit x) = refused_or_done (refusal s (Limit x)) tt s _ A A k (λ e. k)
    kept_act (Enter t) = kept_entry s t A k (refusal s (Enter t)) refl
    kept_act (Cancel l n) = refused_or_done (refusal s (Cancel l n)) _ s _ A A k (λ e. kept_off s.book A (is_for l n) k)
    kept_act (Take l) = refused_or_done (refusal s (Take l)) _ s _ A A k (λ e. k)
    kept_act (Receipt f) = refused_or_done (refusal s (Receipt f)) tt s (done s (Receipt f)) A A k
        (λ e. let h = receipt_ok m s f e in
        kept_slips s.book A f.login _ h.login_low (omega (arith, h.login_high, sound.table.slips24))
        (all_younger (WaitOk A f.login) (waiting_of s.book f.login) (k.waits f.login)) k)
    kept_act (PutBack f) = refused_or_done (refusal s (PutBack f)) tt s _ A A k (λ e. k)
    kept_act (Kill scope reach block) = refused_or_done (refusal s (Kill scope reach block)) _ s (done s (Kill scope reach block)) A A k
        (λ e. kept_held (with_book (taken_off (in_kill s scope reach) s.book) s) scope _ A (kept_off s.book A (in_kill s scope reach) k))
    kept_act (Release scope) = refused_or_done (refusal s (Release scope)) tt s (done s (Release scope)) A A k (λ e. kept_lifted s scope A k)

    kept_strike : (r : Result (Option Struck) Refusal) → Allowed s (strike r) → KeptIn (after s (strike r)) A
    kept_strike (Ok None) ok = k
    kept_strike (Err x) ok = k
    kept_strike (Ok (Some x)) ok =
        let t = x.trade in
        let o = traders_open m s t sound ok.0.0 in
        let any = both_fillable s.book t ok.0.0 in
        let b1 = open_in s.rows t.buyer.login sound.table o.0 in
        let b2 = open_in s.rows t.seller.login sound.table o.1 in
        let one = kept_side s.book A (buy_side t) b1.0 (omega (arith, b1.1, sound.table.slips24)) any.0 k in
        let long : length (side_traded (buy_side t) s.book).slips ≡ 24 = length_put s.book.slips t.buyer.login _ ∙ sound.table.slips24 in
        let two = kept_side (side_traded (buy_side t) s.book) A (sell_side t) b2.0 (omega (arith, b2.1, long))
        (any_in_filled (fillable (sell_side t)) (buy_side t) (other_side_unfilled t) s.book.resting any.1) one in
        kept_off _ A _ (kept_off _ A _ two)

    kept_after : (x : Moment) → Allowed s x → KeptIn (after s x) (λ l. noted_after x l (A l))
    kept_after (act c r) ok = subst (λ q. KeptIn (next s c) (λ l. noted_after (act c q) l (A l))) (sym ok) (kept_act c)
    kept_after (strike r) ok = kept_strike r ok

  kept_reached : (p : m.Pub) (room : ℕ) (h : List Event) → Happens m p room h → KeptIn (reached m p room h) (accepted_in h)
  kept_reached p room [] t = record
      { rests = all_same (AllByRecursion (RestOk (λ _. []))) [] 16 tt; waits = λ l. subst (AllByRecursion (WaitOk (λ _. []) l)) (sym (same_all [] 24 l)) tt }
  kept_reached p room (e ∷ h) t = kept_after (reached m p room h) (accepted_in h) (sound_reached m p room h t.0)
      (kept_reached p room h t.0) (moment e) t.1

  -- the theorem
  pub named :
      (p : m.Pub) (room login : ℕ) (f : Fill) (h : List Event) → Happens m p room (event.Take login (Ok f) ∷ h)
      → any_of (names f.login (slip_of f)) (accepted_in h f.login) ≡ true
  named p room login f h t =
      let s = reached m p room h in
      let k = kept_reached p room h t.0 in
      let q : Ok f ≡ given (refusal s (Take login)) (handed login (first (waiting_of s.book login))) = inside_slip _ _ t.1 in
      go (refusal s (Take login)) refl q (k.waits login)
    where
      inside_slip : (x y : Result Fill Refusal) → taken x ≡ taken y → x ≡ y
      inside_slip x y e = cc

      go :
          (o : Option Refusal) → refusal (reached m p room h) (Take login) ≡ o
          → Ok f ≡ given o (handed login (first (waiting_of (reached m p room h).book login)))
          → AllByRecursion (WaitOk (accepted_in h) login) (waiting_of (reached m p room h).book login) → WaitOk (accepted_in h) f.login (slip_of f)
      go (Some x) e q w = let z : ◌≡◌ {A = ℕ} 0 1 = cc in never _ (omega arith)
      go None e q w =
          let is : f ≡ handed login (first (waiting_of (reached m p room h).book login)) = inside_ok _ _ q in
          subst (λ (g : Fill). WaitOk (accepted_in h) g.login (slip_of g)) (sym is)
          (head_ok (waiting_of (reached m p room h).book login) (take_ok m (reached m p room h) login e).3 w)
        where
          inside_ok : (x y : Fill) → ◌≡◌ {A = Result Fill Refusal} (Ok x) (Ok y) → x ≡ y
          inside_ok x y e = cc

          head_ok : (ss : List Slip) → nothing_waits ss ≡ false → AllByRecursion (WaitOk (accepted_in h) login) ss → WaitOk (accepted_in h) login (first ss)
          head_ok [] n a = mixed _ n
          head_ok (x ∷ ss) n a = a.0
