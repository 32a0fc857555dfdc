-- What an acronym sees of a run is the replay of its part: its calls and its sides of trades alone, played on a gate of its own.
-- Assumes nothing.
use Rattle.std.proofs.Common.{◌≡◌, ℕ, ◌≤◌, Bool, true, false, cond, not, eqb, ltb, List, [], ◌∷◌, ◌++◌, Some, None, Ok, Err, Option, Result, sym, refl, ap, ◌∙◌, subst, ⊎_elim, arith}
use Rattle.std.proofs.lemmas.Bool.{and_parts, eqb-true}
use Rattle.std.proofs.lemmas.Bool.Decides.{eqb_tells}
use Rattle.terms.specs.Answers.{first_of, given, is_ok, unless}
use Rattle.terms.specs.declared.events.Event.{Event}
use Rattle.terms.specs.declared.events.Struck.{Struck}
use Rattle.terms.specs.declared.messages.Fill.{Fill}
use Rattle.terms.specs.declared.messages.Notice.TheVariants.{Opened}
use Rattle.terms.specs.declared.messages.Notice.{Notice}
use Rattle.terms.specs.declared.refusal.Refusal.TheVariants.{ClockBack, Field}
use Rattle.terms.specs.declared.refusal.Refusal.{Refusal}
use Rattle.terms.proofs.Tables.{at_other, at_same, length_put, mixed}
use Rattle.market.specs.Book.{Slip, in_reach, taken_off, waiting_of, with_slips_of}
use Rattle.market.specs.Market.{buy_side, sell_side}
use Rattle.market.proofs.Reaches.{reach_own}
use Rattle.checks.specs.Meaning.{Meaning}
use Rattle.history.specs.Acts.{Act, Answer, Cancel, Enter, Kill, Limit, Moment, Open, PutBack, Receipt, Release, Retire, Take, Tick, Values, act, moment, strike, told}
use Rattle.history.specs.Calls.{done, next, refusal, reply}
use Rattle.history.specs.Fields.{good_time}
use Rattle.history.specs.Part.{Item, belongs, has, items, only_if, own, own_call, own_side, share}
use Rattle.history.specs.Promises.{Firm}
use Rattle.history.specs.State.{Row, State, is_free, is_open, new_gate, opened, row, with_book, with_row}
use Rattle.history.specs.Step.{Allowed, Happens, after, reached}
use Rattle.history.specs.Strikes.{fill_notice, fill_told}
use Rattle.history.specs.Trips.{causes_of, tell}
use Rattle.history.proofs.Accepted.{open_ok}
use Rattle.history.proofs.Alike.{Alike, alike_sym, alike_trans, has_alike, not_nobody, own_row, unlike_off}
use Rattle.history.proofs.AlikeMoves.{alike_row, alike_told, shut_before}
use Rattle.history.proofs.Foreign.{foreign, unlike_slips}
use Rattle.history.proofs.Own.{Both, own_tick, own_values, owned, swept_before}
use Rattle.history.proofs.Rows.{open_free}
use Rattle.history.proofs.Sides.{alike_fill_told, alike_sided, sided, sides_in_turn, unlike_fill_told, unlike_sided}
use Rattle.history.proofs.Sound.{open_in, table_off, table_row, table_side, traders_open, trip_row}
use Rattle.history.proofs.Soundness.{sound_off, sound_told}
use Rattle.history.proofs.Whole.{Whole, idle_put, told_length, whole_done, whole_new, whole_next, whole_noticed}

module _ (m : Meaning) (a : ℕ) (firm : Firm a) where
  -- one side of a trade, filled and told, as if the other side were nobody's
  abbrev pub solo : State m → Fill → State m
  solo s f = fill_told f (sided m a firm f s)

  -- all of a login goes, before it is opened
  abbrev clear : ℕ → State m → State m
  clear l u = with_book (with_slips_of (taken_off (in_reach l 3) u.book) l []) u

  -- a's gate plays a's calls: ticks, values and opens of its part were accepted
  abbrev pub play : State m → Act → State m
  play u (Tick t) = done u (Tick t)
  play u (Values series v) = done u (Values series v)
  play u (Open l b role reach) = done (clear l u) (Open l b role reach)
  play u (Retire l) = next u (Retire l)
  play u (Limit x) = next u (Limit x)
  play u (Enter t) = next u (Enter t)
  play u (Cancel l n) = next u (Cancel l n)
  play u (Take l) = next u (Take l)
  play u (Receipt f) = next u (Receipt f)
  play u (PutBack f) = next u (PutBack f)
  play u (Kill scope reach block) = next u (Kill scope reach block)
  play u (Release scope) = next u (Release scope)

  -- a gate of a's own, after its part
  abbrev pub replay : m.Pub → List Item → State m
  replay p [] = new_gate m p 0
  replay p (own_call c ∷ is) = play (replay p is) c
  replay p (own_side f ∷ is) = solo (replay p is) f

  -- the gate of the run and a's own are alike to a
  pub record Twin (s u : State m) : Type 0 where
    pub alike : Alike m a s u
    pub ws : Whole m s
    pub wu : Whole m u

  -- ---- sides

  pub whole_sided : (s : State m) (f : Fill) → Whole m s → is_open (row s f.login) ≡ true → Whole m (sided m a firm f s)
  whole_sided s f w o = record {
    sound = record
        { table = table_side w.sound.table f o; holds8 = w.sound.holds8; valued16 = w.sound.valued16 };
    eight = w.eight;
    idle = w.idle;
  }

  whole_solo : (s : State m) (f : Fill) → Whole m s → is_open (row s f.login) ≡ true → Whole m (solo s f)
  whole_solo s f w o = whole_noticed m (sided m a firm f s) f.login (fill_notice (sided m a firm f s) f) o (whole_sided s f w o)

  pub twin_own : (s u : State m) (f : Fill) → Twin s u → is_open (row s f.login) ≡ true → has a s f.login ≡ true → Twin (solo s f) (solo u f)
  twin_own s u f t o h =
      let b = open_in s.rows f.login t.ws.sound.table o in
      let ou : is_open (row u f.login) ≡ true = ap is_open (sym (own_row m a firm s u t.alike f.login h)) ∙ o in
      record {
        alike = alike_fill_told m a firm (sided m a firm f s) (sided m a firm f u) f
            (alike_sided m a firm s u f t.alike t.ws.sound.table.slips24 t.wu.sound.table.slips24 b.0 b.1 h)
            (whole_sided s f t.ws o) (whole_sided u f t.wu ou) o h;
        ws = whole_solo s f t.ws o;
        wu = whole_solo u f t.wu ou;
      }

  pub twin_foreign : (s u : State m) (f : Fill) → Twin s u → is_open (row s f.login) ≡ true → has a s f.login ≡ false → Twin (solo s f) u
  twin_foreign s u f t o h =
      let b = open_in s.rows f.login t.ws.sound.table o in
      let s1 = sided m a firm f s in
      let k1 = unlike_sided m a firm s f t.ws.sound b.0 b.1 h in
      let k2 = unlike_fill_told m a firm s1 f (whole_sided s f t.ws o) o h in
      record {
        alike = alike_trans m a (solo s f) s u (alike_sym m a s (solo s f) (alike_trans m a s s1 (solo s f) k1 k2)) t.alike;
        ws = whole_solo s f t.ws o;
        wu = t.wu;
      }

  twin_side : (p : m.Pub) (s : State m) (f : Fill) (x : Answer) (b : Bool) → has a s f.login ≡ b → (is : List Item)
      → Twin s (replay p is) → is_open (row s f.login) ≡ true → Twin (solo s f) (replay p (items (cond b ((own_side f, x) ∷ []) []) ++ is))
  twin_side p s f x true h is t o = twin_own s (replay p is) f t o h
  twin_side p s f x false h is t o = twin_foreign s (replay p is) f t o h

  -- the seller is as open as it was
  open_solo : (s : State m) (g : Fill) (l : ℕ) → Whole m s → is_open (row s g.login) ≡ true → is_open (row s l) ≡ true
      → is_open (row (solo s g) l) ≡ true
  open_solo s g l w o q = ap is_open (trip_row m (tell n s1) g.login l (causes_of n s1) o (sound_told m s1 n (whole_sided s g w o).sound)) ∙ q
    where
      s1 : State m
      s1 = sided m a firm g s

      n : Notice
      n = fill_notice s1 g

  pub has_solo : (s : State m) (g : Fill) (l : ℕ) → Whole m s → is_open (row s g.login) ≡ true → has a (solo s g) l ≡ has a s l
  has_solo s g l w o = ap (λ (r : Row). eqb r.acronym a)
      (trip_row m (tell n s1) g.login l (causes_of n s1) o (sound_told m s1 n (whole_sided s g w o).sound))
    where
      s1 : State m
      s1 = sided m a firm g s

      n : Notice
      n = fill_notice s1 g

  pub items_joined : (xs ys : List (Item × Answer)) → items (xs ++ ys) ≡ items xs ++ items ys
  items_joined [] ys = refl
  items_joined (x ∷ xs) ys = ap (λ (zs : List Item). x.0 ∷ zs) (items_joined xs ys)

  joined_assoc : (xs ys zs : List Item) → (xs ++ ys) ++ zs ≡ xs ++ (ys ++ zs)
  joined_assoc [] ys zs = refl
  joined_assoc (x ∷ xs) ys zs = ap (λ (ws : List Item). x ∷ ws) (joined_assoc xs ys zs)

  twin_struck : (p : m.Pub) (s : State m) (r : Result (Option Struck) Refusal) (is : List Item) → Twin s (replay p is)
      → Allowed s (strike r) → Twin (after s (strike r)) (replay p (items (share a s (strike r)) ++ is))
  twin_struck p s (Ok None) is t ok = t
  twin_struck p s (Err x) is t ok = t
  twin_struck p s (Ok (Some x)) is t ok =
      let tr = x.trade in
      let g = buy_side tr in
      let f = sell_side tr in
      let o = traders_open m s tr t.ws.sound ok.0.0 in
      let s1 = solo s g in
      let buys = only_if (has a s tr.buyer.login) (own_side g, told x.buy) in
      let sells = only_if (has a s tr.seller.login) (own_side f, told x.sell) in
      let t1 = twin_side p s g (told x.buy) (has a s tr.buyer.login) refl is t o.0 in
      let t2 : Twin (solo s1 f) (replay p (items sells ++ (items buys ++ is))) = twin_side p s1 f (told x.sell)
      (has a s tr.seller.login) (has_solo s g tr.seller.login t.ws o.0) (items buys ++ is) t1
      (open_solo s g tr.seller.login t.ws o.0 o.1) in
      let e : solo s1 f ≡ after s (strike (Ok (Some x))) = ap (fill_told f) (sym (sides_in_turn m a firm s g f)) in
      let l : items sells ++ (items buys ++ is) ≡ items (sells ++ buys) ++ is = sym (joined_assoc (items sells) (items buys) is)
      ∙ ap (λ (z : List Item). z ++ is) (sym (items_joined sells buys)) in
      subst (λ (z : State m). Twin z (replay p (items (sells ++ buys) ++ is))) e (subst (λ (z : List Item). Twin (solo s1 f) (replay p z)) l t2)

  -- ---- calls

  pub said_none : (u : Unit {0}) (o : Option Refusal) → is_ok (given o u) ≡ true → o ≡ None
  said_none u None e = refl
  said_none u (Some x) e = mixed _ (sym e)

  clear_whole : (u : State m) (l : ℕ) → Whole m u → 1 ≤ l → l ≤ 24 → Whole m (clear l u)
  clear_whole u l w low high =
      let t = table_off w.sound.table (in_reach l 3) in
      record {
        sound = record {
          table = record {
            rows24 = t.rows24;
            series16 = t.series16;
            slips24 = length_put u.book.slips l [] ∙ t.slips24;
            rests = t.rests;
            real = t.real;
            waits = λ i f. ⊎_elim
                (λ p. at_same [] u.book.slips l i [] low (omega (arith, high, w.sound.table.slips24)) p.1)
                (λ p. at_other [] u.book.slips l i [] low (omega (arith, high, w.sound.table.slips24)) p.0 ∙ t.waits i f)
                (eqb_tells l i);
          };
          holds8 = w.sound.holds8;
          valued16 = w.sound.valued16;
        };
        eight = w.eight;
        idle = w.idle;
      }

  clear_alike : (u : State m) (l : ℕ) → Whole m u → 1 ≤ l → l ≤ 24 → has a u l ≡ false → Alike m a u (clear l u)
  clear_alike u l w low high h =
      let q = in_reach l 3 in
      let u1 = with_book (taken_off q u.book) u in
      alike_trans m a u u1 (clear l u) (unlike_off m a firm u q (λ e x. ap (λ (i : ℕ). has a u i) (reach_own l 3 e x) ∙ h))
      (unlike_slips m a firm u1 l [] (sound_off m u q w.sound) low high h)

  whole_open : (u : State m) (l b role reach : ℕ) → Whole m u → 1 ≤ l → l ≤ 24 → Firm b → Whole m (done u (Open l b role reach))
  whole_open u l b role reach w low high fb =
      record {
        sound = record {
          table = table_row w.sound.table l (opened b role reach) low high (λ _. refl) (λ g. mixed _ (sym g))
              (λ _. fb);
          holds8 = w.sound.holds8;
          valued16 = w.sound.valued16;
        };
        eight = told_length m 1 _ u.public u.private ∙ w.eight;
        idle = idle_put m u l (opened b role reach) w.sound low high w.idle (λ x. mixed _ (sym x));
      }

  twin_open : (s u : State m) (l b role reach : ℕ) → Twin s u → refusal s (Open l b role reach) ≡ None → b ≡ a
      → Twin (done s (Open l b role reach)) (done (clear l u) (Open l b role reach))
  twin_open s u l b role reach t e ba =
      let f = open_ok m s l b role reach e in
      let low = f.0 in
      let high = f.1 in
      let was : has a s l ≡ false = ap (λ (n : ℕ). eqb n a) (t.ws.idle l f.3) ∙ not_nobody m a firm in
      let wasu : has a u l ≡ false = sym (has_alike m a firm s u t.alike l) ∙ was in
      let v = clear l u in
      let wv = clear_whole u l t.wu low high in
      let k1 = alike_trans m a s u v t.alike (clear_alike u l t.wu low high wasu) in
      let r = opened b role reach in
      let shut_s : is_open (row s l) ≡ false = free_shut (row s l) f.3 in
      let none_s : waiting_of s.book l ≡ [] = t.ws.sound.table.waits l f.3 in
      let none_v : waiting_of v.book l ≡ [] = at_same [] u.book.slips l l [] low (omega (arith, high, t.wu.sound.table.slips24)) refl in
      let k2 = alike_row m a firm s v l r t.ws.sound wv.sound low high (shut_before m a firm s l r t.ws.sound low high shut_s)
      (swept_before m a firm u l r t.wu.sound low high) (ap (λ (x : List Slip). cond (eqb r.acronym a) x []) (none_s ∙ sym none_v)) k1 in
      record {
        alike = alike_told m a firm (with_row l r s) (with_row l r v) (Opened b l role reach) t.ws.eight wv.eight k2;
        ws = whole_done m s (Open l b role reach) t.ws e;
        wu = whole_open v l b role reach wv low high f.2;
      }
    where
      free_shut : (r : Row) → is_free r ≡ true → is_open r ≡ false
      free_shut r e = go (is_open r) refl
        where
          go : (b : Bool) → is_open r ≡ b → is_open r ≡ false
          go true o = mixed _ (sym e ∙ open_free r o)
          go false o = o

  twin_both : (s u : State m) (c : Act) → Twin s u → Both m a firm s u c → Twin (next s c) (next u c)
  twin_both s u c t b = record { alike = b.states; ws = whole_next m s c t.ws; wu = whole_next m u c t.wu }

  twin_accepted : (s d v : State m) (o : Option Refusal) → o ≡ None → Twin d v → Twin (unless o s d) v
  twin_accepted s d v o e t = rw e t

  twin_owned : (s u : State m) (c : Act) → Twin s u → belongs a s (reply s c) c ≡ true → Twin (next s c) (play u c)
  twin_owned s u (Tick x) t h =
      let e = said_none tt (refusal s (Tick x)) h in
      let eu : refusal u (Tick x) ≡ None = ap (λ (n : ℕ). first_of ((not (good_time x), Field) ∷ (ltb x n, ClockBack) ∷ []))
      (sym t.alike.time) ∙ e in
      twin_accepted s (done s (Tick x)) _ (refusal s (Tick x)) e
      (record {
        alike = own_tick m a firm s u t.alike t.ws t.wu x;
        ws = whole_done m s (Tick x) t.ws e;
        wu = whole_done m u
            (Tick x) t.wu eu;
      })
  twin_owned s u (Values series x) t h =
      let e = said_none tt (refusal s (Values series x)) h in
      twin_accepted s (done s (Values series x)) _ (refusal s (Values series x)) e
      (record {
        alike = own_values m a firm s u t.alike t.ws t.wu series x;
        ws = whole_done m s (Values series x)
            t.ws e;
        wu = whole_done m u (Values series x) t.wu e;
      })
  twin_owned s u (Open l b role reach) t h =
      let x = and_parts (is_ok (given (refusal s (Open l b role reach)) (tt {0}))) (eqb b a) h in
      let e = said_none tt (refusal s (Open l b role reach)) x.0 in
      twin_accepted s (done s (Open l b role reach)) _ (refusal s (Open l b role reach)) e (twin_open s u l b role reach t e (eqb-true b a x.1))
  twin_owned s u (Retire l) t h = twin_both s u (Retire l) t (owned m a firm s u t.alike t.ws t.wu (Retire l) h refl)
  twin_owned s u (Limit x) t h = twin_both s u (Limit x) t (owned m a firm s u t.alike t.ws t.wu (Limit x) h refl)
  twin_owned s u (Enter x) t h = twin_both s u (Enter x) t (owned m a firm s u t.alike t.ws t.wu (Enter x) h refl)
  twin_owned s u (Cancel l n) t h = twin_both s u (Cancel l n) t (owned m a firm s u t.alike t.ws t.wu (Cancel l n) h refl)
  twin_owned s u (Take l) t h = twin_both s u (Take l) t (owned m a firm s u t.alike t.ws t.wu (Take l) h refl)
  twin_owned s u (Receipt f) t h = twin_both s u (Receipt f) t (owned m a firm s u t.alike t.ws t.wu (Receipt f) h refl)
  twin_owned s u (PutBack f) t h = twin_both s u (PutBack f) t (owned m a firm s u t.alike t.ws t.wu (PutBack f) h refl)
  twin_owned s u (Kill scope reach block) t h = twin_both s u (Kill scope reach block) t
      (owned m a firm s u t.alike t.ws t.wu (Kill scope reach block) h refl)
  twin_owned s u (Release scope) t h = twin_both s u (Release scope) t (owned m a firm s u t.alike t.ws t.wu (Release scope) h refl)

  twin_act : (p : m.Pub) (s : State m) (c : Act) (is : List Item) → Twin s (replay p is)
      → Twin (next s c) (replay p (items (share a s (act c (reply s c))) ++ is))
  twin_act p s c is t = go (belongs a s (reply s c) c) refl
    where
      go : (b : Bool) → belongs a s (reply s c) c ≡ b → Twin (next s c) (replay p (items (only_if b (own_call c, reply s c)) ++ is))
      go true h = twin_owned s (replay p is) c t h
      go false h = record {
        alike = alike_trans m a (next s c) s _ (alike_sym m a s (next s c) (foreign m a firm s c t.ws h))
            t.alike;
        ws = whole_next m s c t.ws;
        wu = t.wu;
      }

  twin_after : (p : m.Pub) (s : State m) (x : Moment) (is : List Item) → Twin s (replay p is) → Allowed s x
      → Twin (after s x) (replay p (items (share a s x) ++ is))
  twin_after p s (act c r) is t ok = subst (λ (q : Answer). Twin (next s c) (replay p (items (share a s (act c q)) ++ is))) (sym ok)
      (twin_act p s c is t)
  twin_after p s (strike r) is t ok = twin_struck p s r is t ok

  -- what a sees after a run is the replay of a's part of it
  pub twins : (p : m.Pub) (room : ℕ) (h : List Event) → Happens m p room h → Twin (reached m p room h) (replay p (items (own m p room a h)))
  twins p room [] t = record {
    alike = record
        { time = refl; valued = refl; rows = λ l. refl; hold = refl; public = refl; private = refl; slips = λ l. refl; entries = refl };
    ws = whole_new m p room;
    wu = whole_new m p 0;
  }
  twins p room (e ∷ h) t =
      let s = reached m p room h in
      let x = moment e in
      subst (λ (z : List Item). Twin (after s x) (replay p z)) (sym (items_joined (share a s x) (own m p room a h)))
      (twin_after p s x (items (own m p room a h)) (twins p room h t.0) t.1)
