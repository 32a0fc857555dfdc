-- Isolation: where an acronym's parts of two runs are alike, so are its answers. For what it is answered is worked out from its part alone.
-- Assumes nothing.
use Rattle.std.proofs.Common.{◌≡◌, ℕ, ◌≤◌, Bool, true, false, cond, ◌&&◌, eqb, leb, List, [], ◌∷◌, ◌++◌, map, Some, None, Ok, Err, Option, Result, sym, refl, ap, ◌∙◌, subst, ap₂, arith}
use Rattle.std.proofs.lemmas.Bool.{and_parts, eqb-true, ne_eqb}
use Rattle.terms.specs.Answers.{given, is_ok}
use Rattle.terms.specs.declared.events.Effect.{Effect}
use Rattle.terms.specs.declared.events.Event.{Event}
use Rattle.terms.specs.declared.events.Struck.{Struck}
use Rattle.terms.specs.declared.messages.Fill.{Fill}
use Rattle.terms.specs.declared.messages.Notice.TheVariants.{Filled}
use Rattle.terms.specs.declared.refusal.Refusal.{Refusal}
use Rattle.market.specs.Book.{Entry, Trade, any_in, in_reach, is_for, without}
use Rattle.market.specs.Market.{buy_side, fillable, filled_in, fills, sell_side}
use Rattle.market.proofs.Fills.{both_fillable}
use Rattle.market.proofs.Once.{Once, once_filled, once_off, untouched}
use Rattle.checks.specs.Meaning.{Meaning}
use Rattle.history.specs.Acts.{Act, Answer, Cancel, Enter, Kill, Limit, Moment, Open, PutBack, Receipt, Release, Retire, Take, Tick, Values, act, moment, plain, strike, told}
use Rattle.history.specs.Calls.{refusal, reply}
use Rattle.history.specs.Part.{Item, answers, belongs, has, items, only_if, own, own_call, own_side, share}
use Rattle.history.specs.Promises.{Firm, Isolation}
use Rattle.history.specs.State.{Row, State, is_open, row}
use Rattle.history.specs.Step.{Allowed, Happens, reached}
use Rattle.history.specs.Strikes.{fill_effect, fill_notice}
use Rattle.history.specs.Trips.{causes_of, effect_of, in_trip}
use Rattle.history.proofs.Alike.{Alike, own_any, own_row}
use Rattle.history.proofs.Lasting.{once_next, once_reached}
use Rattle.history.proofs.Own.{owned}
use Rattle.history.proofs.OwnEntries.{same_effect}
use Rattle.history.proofs.Replay.{Twin, has_solo, items_joined, play, replay, said_none, solo, twin_foreign, twin_own, twins, whole_sided}
use Rattle.history.proofs.Sides.{alike_sided, sided, sides_in_turn, unlike_sided}
use Rattle.history.proofs.Sound.{open_in, traders_open}
use Rattle.history.proofs.Whole.{Whole}

module _ (m : Meaning) (a : ℕ) (firm : Firm a) where
  -- what a's own gate answers to its calls
  abbrev answer_to : State m → Act → Answer
  answer_to u (Tick t) = plain (Ok tt)
  answer_to u (Values series v) = plain (Ok tt)
  answer_to u (Open l b role reach) = plain (Ok tt)
  answer_to u (Retire l) = reply u (Retire l)
  answer_to u (Limit x) = reply u (Limit x)
  answer_to u (Enter t) = reply u (Enter t)
  answer_to u (Cancel l n) = reply u (Cancel l n)
  answer_to u (Take l) = reply u (Take l)
  answer_to u (Receipt f) = reply u (Receipt f)
  answer_to u (PutBack f) = reply u (PutBack f)
  answer_to u (Kill scope reach block) = reply u (Kill scope reach block)
  answer_to u (Release scope) = reply u (Release scope)

  -- and to a side of a trade
  abbrev side_answer : State m → Fill → Answer
  side_answer u f = told (fill_effect f (sided m a firm f u))

  -- the buyer's answer where the seller's side is of the same trade
  abbrev joint_answer : State m → Fill → Fill → Answer
  joint_answer u g f = told (fill_effect g (sided m a firm f (sided m a firm g u)))

  -- a buy side and a sell side after it may be one trade
  abbrev pairs : Fill → Fill → Bool
  pairs g f = eqb g.side 1 && eqb f.side 2

  abbrev later : List Answer → List Answer
  later [] = []
  later (r ∷ rs) = rs

  -- a sell side looks back at a buy side just before it
  abbrev replies : m.Pub → List Item → List Answer
  replies p [] = []
  replies p (own_call c ∷ is) = answer_to (replay m a firm p is) c ∷ replies p is
  replies p (own_side f ∷ []) = side_answer (replay m a firm p []) f ∷ []
  replies p (own_side f ∷ (own_call c ∷ is)) = side_answer (replay m a firm p (own_call c ∷ is)) f ∷ replies p (own_call c ∷ is)
  replies p (own_side f ∷ (own_side g ∷ is)) = side_answer (replay m a firm p (own_side g ∷ is)) f ∷ cond (pairs g f)
      (joint_answer (replay m a firm p is) g f ∷ later (replies p (own_side g ∷ is))) (replies p (own_side g ∷ is))

  buy_head : (p : m.Pub) (g : Fill) (is : List Item) → g.side ≡ 1 → replies p (own_side g ∷ is) ≡ side_answer (replay m a firm p is) g ∷ replies p is
  buy_head p g [] e = refl
  buy_head p g (own_call c ∷ is) e = refl
  buy_head p g (own_side f ∷ is) e = rw (unpaired (eqb f.side 1))
    where
      unpaired : (b : Bool) → (b && eqb g.side 2) ≡ false
      unpaired true = ne_eqb g.side 2 (λ x. omega (arith, x, e))
      unpaired false = refl

  once_play : (u : State m) (c : Act) → Once u.book.resting → Once (play m a firm u c).book.resting
  once_play u (Tick t) o = o
  once_play u (Values series v) o = o
  once_play u (Open l b role reach) o = once_off (in_reach l 3) u.book.resting o
  once_play u (Retire l) o = once_next m u (Retire l) o
  once_play u (Limit x) o = once_next m u (Limit x) o
  once_play u (Enter t) o = once_next m u (Enter t) o
  once_play u (Cancel l n) o = once_next m u (Cancel l n) o
  once_play u (Take l) o = once_next m u (Take l) o
  once_play u (Receipt f) o = once_next m u (Receipt f) o
  once_play u (PutBack f) o = once_next m u (PutBack f) o
  once_play u (Kill scope reach block) o = once_next m u (Kill scope reach block) o
  once_play u (Release scope) o = once_next m u (Release scope) o

  once_replay : (p : m.Pub) (is : List Item) → Once (replay m a firm p is).book.resting
  once_replay p [] = once_reached m p 0 []
  once_replay p (own_call c ∷ is) = once_play (replay m a firm p is) c (once_replay p is)
  once_replay p (own_side f ∷ is) = once_off _ _ (once_filled f (replay m a firm p is).book.resting (once_replay p is))

  same_fill : (s u : State m) (f : Fill) → Alike m a s u → has a s f.login ≡ true → fill_effect f s ≡ fill_effect f u
  same_fill s u f k h =
      same_effect m a firm s u k f.login (fill_notice s f) (eqb-true (row s f.login).acronym a h) h
      ∙ ap (λ (n : ℕ). effect_of f.login (Filled n f) u) (ap (λ (r : Row). r.acronym) (own_row m a firm s u k f.login h))

  -- the sell side of a trade with another: the buy side before it was another trade's, and its sweep left this entry
  sell_head : (p : m.Pub) (s : State m) (f : Fill) (is : List Item) → Twin m a firm s (replay m a firm p is) → has a s f.login ≡ true
      → any_in (fillable f) s.book.resting ≡ true → replies p (own_side f ∷ is) ≡ side_answer (replay m a firm p is) f ∷ replies p is
  sell_head p s f [] t h any = refl
  sell_head p s f (own_call c ∷ is) t h any = refl
  sell_head p s f (own_side g ∷ is) t h any = ap (λ (rs : List Answer). side_answer (replay m a firm p (own_side g ∷ is)) f ∷ rs) (go (pairs g f) refl)
    where
      u : State m
      u = replay m a firm p is

      w : State m
      w = sided m a firm g u

      q : Entry → Bool
      q = in_trip w g.login (causes_of (fill_notice w g) w)

      there : any_in (fillable f) (map (without q) (map (filled_in g) u.book.resting)) ≡ true
      there = sym (own_any m a firm s (replay m a firm p (own_side g ∷ is)) t.alike (fillable f)
          (λ e x. ap (λ (i : ℕ). has a s i)
          (eqb-true e.login f.login
          (and_parts (eqb e.login f.login) (eqb e.number f.number)
          (and_parts (is_for f.login f.number e) (eqb e.side f.side)
          (and_parts (fills f e) (leb f.contracts e.contracts) x).0).0).0) ∙ h)) ∙ any

      joint : joint_answer u g f ≡ side_answer u g
      joint = ap (λ (n : ℕ). told (record { causes = causes_of (fill_notice w g) w; cancelled = n }))
          (untouched q (λ e n. refl) f (map (filled_in g) u.book.resting) (once_filled g u.book.resting (once_replay p is)) there)

      go : (b : Bool) → pairs g f ≡ b
          → cond b (joint_answer u g f ∷ later (replies p (own_side g ∷ is))) (replies p (own_side g ∷ is)) ≡ replies p (own_side g ∷ is)
      go true e =
          let hd = buy_head p g is (eqb-true g.side 1 (and_parts _ _ e).0) in
          ap₂ (λ (x : Answer) (rs : List Answer). x ∷ later rs) joint hd ∙ sym hd
      go false e = refl

  answers_joined : (xs ys : List (Item × Answer)) → answers (xs ++ ys) ≡ answers xs ++ answers ys
  answers_joined [] ys = refl
  answers_joined (x ∷ xs) ys = ap (λ (zs : List Answer). x.1 ∷ zs) (answers_joined xs ys)

  answer_owned : (s u : State m) (c : Act) → Twin m a firm s u → belongs a s (reply s c) c ≡ true → reply s c ≡ answer_to u c
  answer_owned s u (Tick x) t h = ap (λ (o : Option Refusal). plain (given o tt)) (said_none m a firm tt (refusal s (Tick x)) h)
  answer_owned s u (Values series x) t h = ap (λ (o : Option Refusal). plain (given o tt)) (said_none m a firm tt (refusal s (Values series x)) h)
  answer_owned s u (Open l b role reach) t h = ap (λ (o : Option Refusal). plain (given o tt))
      (said_none m a firm tt (refusal s (Open l b role reach)) (and_parts (is_ok (given (refusal s (Open l b role reach)) (tt {0}))) (eqb b a) h).0)
  answer_owned s u (Retire l) t h = (owned m a firm s u t.alike t.ws t.wu (Retire l) h refl).answers
  answer_owned s u (Limit x) t h = (owned m a firm s u t.alike t.ws t.wu (Limit x) h refl).answers
  answer_owned s u (Enter x) t h = (owned m a firm s u t.alike t.ws t.wu (Enter x) h refl).answers
  answer_owned s u (Cancel l n) t h = (owned m a firm s u t.alike t.ws t.wu (Cancel l n) h refl).answers
  answer_owned s u (Take l) t h = (owned m a firm s u t.alike t.ws t.wu (Take l) h refl).answers
  answer_owned s u (Receipt f) t h = (owned m a firm s u t.alike t.ws t.wu (Receipt f) h refl).answers
  answer_owned s u (PutBack f) t h = (owned m a firm s u t.alike t.ws t.wu (PutBack f) h refl).answers
  answer_owned s u (Kill scope reach block) t h = (owned m a firm s u t.alike t.ws t.wu (Kill scope reach block) h refl).answers
  answer_owned s u (Release scope) t h = (owned m a firm s u t.alike t.ws t.wu (Release scope) h refl).answers

  -- the answers of one event, before those of the others
  abbrev Replied : m.Pub → State m → Moment → List Item → List Answer → Type 0
  Replied p s x is rs = answers (share a s x) ++ rs ≡ replies p (items (share a s x) ++ is)

  replied_act : (p : m.Pub) (s : State m) (c : Act) (is : List Item) → Twin m a firm s (replay m a firm p is)
      → Replied p s (act c (reply s c)) is (replies p is)
  replied_act p s c is t = go (belongs a s (reply s c) c) refl
    where
      go : (b : Bool) → belongs a s (reply s c) c ≡ b
          → answers (only_if b (own_call c, reply s c)) ++ replies p is ≡ replies p (items (only_if b (own_call c, reply s c)) ++ is)
      go true h = ap (λ (r : Answer). r ∷ replies p is) (answer_owned s (replay m a firm p is) c t h)
      go false h = refl

  replied_struck : (p : m.Pub) (s : State m) (r : Result (Option Struck) Refusal) (is : List Item)
      → Twin m a firm s (replay m a firm p is) → Allowed s (strike r) → Replied p s (strike r) is (replies p is)
  replied_struck p s (Ok None) is t ok = refl
  replied_struck p s (Err x) is t ok = refl
  replied_struck p s (Ok (Some x)) is t ok = go (has a s tr.seller.login) (has a s tr.buyer.login) refl refl
    where
      tr : Trade
      tr = x.trade

      g : Fill
      g = buy_side tr

      f : Fill
      f = sell_side tr

      u : State m
      u = replay m a firm p is

      o : (is_open (row s tr.buyer.login) ≡ true) × (is_open (row s tr.seller.login) ≡ true)
      o = traders_open m s tr t.ws.sound ok.0.0

      any : (any_in (fillable g) s.book.resting ≡ true) × (any_in (fillable f) s.book.resting ≡ true)
      any = both_fillable s.book tr ok.0.0

      sg : State m
      sg = sided m a firm g s

      b1 : (1 ≤ tr.buyer.login) × (tr.buyer.login ≤ 24)
      b1 = open_in s.rows tr.buyer.login t.ws.sound.table o.0

      b2 : (1 ≤ tr.seller.login) × (tr.seller.login ≤ 24)
      b2 = open_in s.rows tr.seller.login t.ws.sound.table o.1

      wg : Whole m sg
      wg = whole_sided m a firm s g t.ws o.0

      sells : x.sell ≡ fill_effect f (sided m a firm f (solo m a firm s g))
      sells = ok.1.1 ∙ ap (fill_effect f) (sides_in_turn m a firm s g f)

      hs : has a (solo m a firm s g) tr.seller.login ≡ has a s tr.seller.login
      hs = has_solo m a firm s g tr.seller.login t.ws o.0

      go :
          (c b : Bool) → has a s tr.seller.login ≡ c → has a s tr.buyer.login ≡ b
          → answers (only_if c (own_side f, told x.sell) ++ only_if b (own_side g, told x.buy)) ++ replies p is ≡ replies p
          (items (only_if c (own_side f, told x.sell) ++ only_if b (own_side g, told x.buy)) ++ is)
      go false false hc hb = refl
      go false true hc hb =
          let k1 = alike_sided m a firm s u g t.alike t.ws.sound.table.slips24 t.wu.sound.table.slips24 b1.0 b1.1 hb in
          let k2 = unlike_sided m a firm sg f wg.sound b2.0 b2.1 hc in
          let e : x.buy ≡ fill_effect g (sided m a firm g u) = ok.1.0 ∙ sym (same_fill sg (sided m a firm f sg) g k2 hb)
          ∙ same_fill sg (sided m a firm g u) g k1 hb in
          ap (λ (z : Effect). told z ∷ replies p is) e ∙ sym (buy_head p g is refl)
      go true false hc hb =
          let t1 = twin_foreign m a firm s u g t o.0 hb in
          let k1 = alike_sided m a firm (solo m a firm s g) u f t1.alike t1.ws.sound.table.slips24 t.wu.sound.table.slips24
          b2.0 b2.1 (hs ∙ hc) in
          let e : x.sell ≡ fill_effect f (sided m a firm f u) = sells
          ∙ same_fill (sided m a firm f (solo m a firm s g)) (sided m a firm f u) f k1 (hs ∙ hc) in
          ap (λ (z : Effect). told z ∷ replies p is) e ∙ sym (sell_head p s f is t hc any.1)
      go true true hc hb =
          let t1 = twin_own m a firm s u g t o.0 hb in
          let k1 = alike_sided m a firm (solo m a firm s g) (solo m a firm u g) f t1.alike t1.ws.sound.table.slips24
          t1.wu.sound.table.slips24 b2.0 b2.1 (hs ∙ hc) in
          let e : x.sell ≡ fill_effect f (sided m a firm f (solo m a firm u g)) = sells
          ∙ same_fill (sided m a firm f (solo m a firm s g)) (sided m a firm f (solo m a firm u g)) f k1 (hs ∙ hc) in
          let kg = alike_sided m a firm s u g t.alike t.ws.sound.table.slips24 t.wu.sound.table.slips24 b1.0 b1.1 hb in
          let ou : is_open (row u tr.buyer.login) ≡ true = ap is_open (sym (own_row m a firm s u t.alike tr.buyer.login hb)) ∙ o.0 in
          let kf = alike_sided m a firm sg (sided m a firm g u) f kg wg.sound.table.slips24
          (whole_sided m a firm u g t.wu ou).sound.table.slips24 b2.0 b2.1 hc in
          let d : x.buy ≡ fill_effect g (sided m a firm f (sided m a firm g u)) = ok.1.0
          ∙ same_fill (sided m a firm f sg) (sided m a firm f (sided m a firm g u)) g kf hb in
          ap₂ (λ (y z : Effect). told y ∷ (told z ∷ replies p is)) e d
          ∙ sym (ap (λ (rs : List Answer). side_answer (solo m a firm u g) f ∷ (joint_answer u g f ∷ later rs)) (buy_head p g is refl))

  replied_after : (p : m.Pub) (s : State m) (x : Moment) (is : List Item) → Twin m a firm s (replay m a firm p is) → Allowed s x
      → Replied p s x is (replies p is)
  replied_after p s (act c r) is t ok = subst (λ (q : Answer). Replied p s (act c q) is (replies p is)) (sym ok) (replied_act p s c is t)
  replied_after p s (strike r) is t ok = replied_struck p s r is t ok

  -- what a is answered is worked out from its part
  pub replied : (p : m.Pub) (room : ℕ) (h : List Event) → Happens m p room h → answers (own m p room a h) ≡ replies p (items (own m p room a h))
  replied p room [] t = refl
  replied p room (e ∷ h) t =
      let s = reached m p room h in
      let x = moment e in
      let rest = own m p room a h in
      answers_joined (share a s x) rest ∙ ap (λ (rs : List Answer). answers (share a s x) ++ rs) (replied p room h t.0)
      ∙ replied_after p s x (items rest) (twins m a firm p room h t.0) t.1 ∙ ap (replies p) (sym (items_joined m a firm (share a s x) rest))

-- the theorem
pub isolated : (m : Meaning) → Isolation m
isolated m p room₁ room₂ a h k firm th tk same = replied m a firm p room₁ h th ∙ ap (replies m a firm p) same ∙ sym (replied m a firm p room₂ k tk)
