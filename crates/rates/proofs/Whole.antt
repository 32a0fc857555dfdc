-- Each window is what the definition over all that the check was told makes it. Assumes nothing.
use Rattle.std.proofs.Common.{◌≡◌, ℕ, suc, ◌<◌, ◌≤◌, Bool, true, false, cond, ◌&&◌, ◌||◌, eqb, List, [], ◌∷◌, map, length, get_or, sym, refl, ap, ◌∙◌, arith, eq-eqb, ne_eqb}
use lib.ListN.{length-replicate}
use borrow.Author.Tests.{clash}
use Rattle.terms.specs.declared.messages.Causes.{Causes}
use Rattle.terms.specs.declared.messages.Notice.{Notice}
use Rattle.terms.specs.declared.messages.Notice.TheVariants.{Ticked, Valued, Opened, Closed, Limited, Released, Entered, TurnedDown, Filled}
use Rattle.terms.proofs.Tables.{same_all}
use Rattle.terms.specs.Tables.{at}
use Rattle.checks.specs.Meaning.{for_all, whose, told_private, told_causes}
use Rattle.checks.proofs.Places.{at_numbered, length_numbered}
use Rattle.checks.proofs.Told.{length_told, at_told}
use Rattle.rates.specs.declared.windows.Rate.{Rate}
use Rattle.rates.specs.declared.windows.FirmWindows.{FirmWindows}
use Rattle.rates.specs.declared.windows.Rate.TheVariants.{Entries, Fills, TurnDowns}
use Rattle.rates.specs.Runs.{Act, event, clearing, limiting, aside, acted, answered, lived, since, trips_now, newest, Ordered}
use Rattle.rates.specs.Views.{View}
use Rattle.rates.specs.Scopes.{ScopeView, new_scope, act, counted_by, scope_told, scope_cause}
use Rattle.rates.specs.Firms.{FirmView, firm_view, new_firm, login_of, for_firm, login_told, firm_told, firm_causes, rates}
use Rattle.rates.specs.Told.{clock, Forward, firms_after, of_firm, of_login, acts, cause_over, causes_over, AsTold}
use Rattle.rates.proofs.Sound.{answers_since}
use Rattle.rates.proofs.Notices.{same_cause, causes_told, causes_here}

-- ---- the time of an act

-- an event comes at the time t
abbrev Timely : ℕ → Act → Type 0
Timely t (event e) = e.time ≡ t
Timely t clearing = Unit {0}
Timely t (limiting l i) = Unit {0}
Timely t aside = Unit {0}

counted_timely : (j k : Rate) (t a : ℕ) → Timely t (counted_by j k t a)
counted_timely Entries Entries t a = refl
counted_timely Entries Fills t a = tt
counted_timely Entries TurnDowns t a = tt
counted_timely Fills Entries t a = tt
counted_timely Fills Fills t a = refl
counted_timely Fills TurnDowns t a = tt
counted_timely TurnDowns Entries t a = tt
counted_timely TurnDowns Fills t a = tt
counted_timely TurnDowns TurnDowns t a = refl

either_timely : (t : ℕ) (b : Bool) (x y : Act) → Timely t x → Timely t y → Timely t (cond b x y)
either_timely t true x y p q = p
either_timely t false x y p q = q

act_timely : (k : Rate) (t : ℕ) (n : Notice) → Timely t (act k t n)
act_timely k t (Ticked u) = tt
act_timely k t (Valued s v) = tt
act_timely k t (Opened a l r c) = tt
act_timely k t (Closed a l) = tt
act_timely k t (Limited a x) = either_timely t _ (limiting x.limit x.interval) clearing tt tt
act_timely k t (Released a s) = tt
act_timely k t (Entered e) = counted_timely Entries k t 1
act_timely k t (TurnedDown e n) = either_timely t _ (counted_by TurnDowns k t 1) aside (counted_timely TurnDowns k t 1) tt
act_timely k t (Filled a f) = counted_timely Fills k t f.contracts

-- the events of a window are in order, none past t
abbrev InOrder : ℕ → List Act → Type 0
InOrder t xs = (newest (since xs) ≤ t) × Ordered (since xs)

one_more : (x : Act) (xs : List Act) (t u : ℕ) → Timely t x → t ≤ u → InOrder t xs → InOrder u (x ∷ xs)
one_more (event e) xs t u is le o = (omega arith, (omega (arith, o.0), o.1))
one_more clearing xs t u is le o = (omega arith, tt)
one_more (limiting l i) xs t u is le o = (omega arith, tt)
one_more aside xs t u is le o = (omega (arith, o.0), o.1)

all_in_order : (mine : Notice → Bool) (k : Rate) (ns : List Notice) → Forward ns → InOrder (clock ns) (acts mine k ns)
all_in_order mine k [] o = (omega arith, tt)
all_in_order mine k (n ∷ ns) o =
    one_more _ (acts mine k ns) (clock ns) (clock (n ∷ ns)) (either_timely (clock ns) (mine n) (act k (clock ns) n) aside (act_timely k (clock ns) n) tt) o.0 (all_in_order mine k ns o.1)

-- a window answers an act as the definition does
as_defined_now : (x : Act) (xs : List Act) (t : ℕ) → Timely t x → InOrder t xs → answered x (lived xs) ≡ trips_now (x ∷ xs)
as_defined_now (event e) xs t is o = answers_since xs e (omega (arith, o.0), o.1)
as_defined_now clearing xs t is o = refl
as_defined_now (limiting l i) xs t is o = refl
as_defined_now aside xs t is o = refl

-- ---- the windows of a scope

abbrev window_of : Rate → ScopeView → View
window_of Entries s = s.entries
window_of Fills s = s.fills
window_of TurnDowns s = s.turndowns

-- each window of the scope is what befell it made of it
abbrev Lives : (Notice → Bool) → ScopeView → List Notice → Type 0
Lives mine s ns = (k : Rate) → window_of k s ≡ lived (acts mine k ns)

new_lives : (mine : Notice → Bool) → Lives mine new_scope []
new_lives mine Entries = refl
new_lives mine Fills = refl
new_lives mine TurnDowns = refl

each_acted : (t : ℕ) (n : Notice) (s : ScopeView) (k : Rate) → window_of k (scope_told t n s) ≡ acted (act k t n) (window_of k s)
each_acted t n s Entries = refl
each_acted t n s Fills = refl
each_acted t n s TurnDowns = refl

-- a scope hears of a notice where the notice is everybody's or its firm's, and acts where it is for the scope: no notice that is everybody's is
heard : (f w y : Bool) → (f ≡ true → y ≡ false) → (t : ℕ) (n : Notice) (s : ScopeView) (k : Rate)
    → window_of k (cond (f || w) (cond y (scope_told t n s) s) s) ≡ acted (cond (w && y) (act k t n) aside) (window_of k s)
heard true w true none t n s k = absurd (clash (sym (none refl)))
heard true true false none t n s k = refl
heard true false false none t n s k = refl
heard false true true none t n s k = each_acted t n s k
heard false true false none t n s k = refl
heard false false y none t n s k = refl

goes_on : (mine : Notice → Bool) (s s' : ScopeView) (n : Notice) (ns : List Notice) → Lives mine s ns
    → ((k : Rate) → window_of k s' ≡ acted (cond (mine n) (act k (clock ns) n) aside) (window_of k s)) → Lives mine s' (n ∷ ns)
goes_on mine s s' n ns so_far step k = step k ∙ ap (acted (cond (mine n) (act k (clock ns) n) aside)) (so_far k)

-- the cause that a scope gives at a notice that is for it is the definition's
cause_defined : (mine : Notice → Bool) (s : ScopeView) (n : Notice) (ns : List Notice) → Forward ns → Lives mine s ns → mine n ≡ true → scope_cause (clock ns) n s ≡ cause_over mine (n ∷ ns)
cause_defined mine s n ns forward lives for-it = same_cause _ _ _ _ _ _ (trip Entries) (trip Fills) (trip TurnDowns)
  where
    trip : (k : Rate) → answered (act k (clock ns) n) (window_of k s) ≡ trips_now (acts mine k (n ∷ ns))
    trip k =
        ap (answered (act k (clock ns) n)) (lives k)
        ∙ as_defined_now (act k (clock ns) n) (acts mine k ns) (clock ns) (act_timely k (clock ns) n) (all_in_order mine k ns forward)
        ∙ ap (λ b. trips_now (cond b (act k (clock ns) n) aside ∷ acts mine k ns)) (sym for-it)

-- a notice that is not for a scope gives no cause
no_cause_aside : (mine : Notice → Bool) (n : Notice) (ns : List Notice) → mine n ≡ false → 0 ≡ cause_over mine (n ∷ ns)
no_cause_aside mine n ns not-for-it = same_cause false false false _ _ _ (trip Entries) (trip Fills) (trip TurnDowns)
  where
    trip : (k : Rate) → false ≡ trips_now (acts mine k (n ∷ ns))
    trip k = ap (λ b. trips_now (cond b (act k (clock ns) n) aside ∷ acts mine k ns)) (sym not-for-it)

-- ---- the records of a firm

-- a notice that is everybody's is for no windows
public_for_none : (n : Notice) → for_all n ≡ true → (for_firm n ≡ false) × (login_of n ≡ 0)
public_for_none (Ticked t) h = (refl, refl)
public_for_none (Valued s v) h = (refl, refl)
public_for_none (Opened a l r c) h = absurd (clash h)
public_for_none (Closed a l) h = absurd (clash h)
public_for_none (Limited a x) h = absurd (clash h)
public_for_none (Released a s) h = absurd (clash h)
public_for_none (Entered k) h = absurd (clash h)
public_for_none (TurnedDown k d) h = absurd (clash h)
public_for_none (Filled a f) h = absurd (clash h)

chosen : {X : Type 0} (g : FirmView → X) (b : Bool) (x y : FirmView) → g (cond b x y) ≡ cond b (g x) (g y)
chosen g true x y = refl
chosen g false x y = refl

eight_firms : (ns : List Notice) → length (firms_after ns) ≡ 8
eight_firms [] = length-replicate 8 new_firm
eight_firms (n ∷ ns) = length_told rates n (clock ns) (firms_after ns) ∙ eight_firms ns

module _ (a : ℕ) (low : 1 ≤ a) (high : a ≤ 8) where
  -- the record of the firm a
  abbrev firm : List Notice → FirmView
  firm ns = at new_firm (firms_after ns) a

  next_firm : (n : Notice) (ns : List Notice) → firm (n ∷ ns) ≡ told_private rates a n (clock ns) (firm ns)
  next_firm n ns = at_told rates n (clock ns) (firms_after ns) a new_firm low (omega (arith, eight_firms ns))

  firm_lives : (ns : List Notice) → Lives (of_firm a) (firm ns).own ns
  firm_lives [] = λ k. ap (λ (q : FirmView). window_of k q.own) (same_all new_firm 8 a) ∙ new_lives (of_firm a) k
  firm_lives (n ∷ ns) = goes_on (of_firm a) (firm ns).own (firm (n ∷ ns)).own n ns (firm_lives ns) step
    where
      step : (k : Rate) → window_of k (firm (n ∷ ns)).own ≡ acted (cond (of_firm a n) (act k (clock ns) n) aside) (window_of k (firm ns).own)
      step k =
          ap (λ (q : FirmView). window_of k q.own) (next_firm n ns)
          ∙ ap (window_of k) (chosen (λ q. q.own) (for_all n || eqb (whose n) a) (firm_told (clock ns) n (firm ns)) (firm ns))
          ∙ heard (for_all n) (eqb (whose n) a) (for_firm n) (λ public. (public_for_none n public).0) (clock ns) n (firm ns).own k

  module _ (l : ℕ) (lowest : 1 ≤ l) (highest : l ≤ 24) where
    all_logins : (ns : List Notice) → length (firm ns).logins ≡ 24
    all_logins [] = ap (λ (q : FirmView). length q.logins) (same_all new_firm 8 a) ∙ length-replicate 24 new_scope
    all_logins (n ∷ ns) =
        ap (λ (q : FirmView). length q.logins) (next_firm n ns)
        ∙ kept (for_all n || eqb (whose n) a) ∙ all_logins ns
      where
        kept : (b : Bool) → length (cond b (firm_told (clock ns) n (firm ns)) (firm ns)).logins ≡ length (firm ns).logins
        kept true = length_numbered (login_told (clock ns) n) 1 (firm ns).logins
        kept false = refl

    -- the windows of the login l
    abbrev login : List Notice → ScopeView
    login ns = at new_scope (firm ns).logins l

    login_lives : (ns : List Notice) → Lives (of_login a l) (login ns) ns
    login_lives [] = λ k.
        ap (λ (q : FirmView). window_of k (at new_scope q.logins l)) (same_all new_firm 8 a)
        ∙ ap (window_of k) (same_all new_scope 24 l) ∙ new_lives (of_login a l) k
    login_lives (n ∷ ns) = goes_on (of_login a l) (login ns) (login (n ∷ ns)) n ns (login_lives ns) step
      where
        told : at new_scope (firm_told (clock ns) n (firm ns)).logins l ≡ login_told (clock ns) n l (login ns)
        told = at_numbered (login_told (clock ns) n) (firm ns).logins l new_scope lowest (omega (arith, all_logins ns))

        none : for_all n ≡ true → eqb (login_of n) l ≡ false
        none public = ne_eqb (login_of n) l (λ e. omega (arith, (public_for_none n public).1))

        step : (k : Rate) → window_of k (login (n ∷ ns)) ≡ acted (cond (of_login a l n) (act k (clock ns) n) aside) (window_of k (login ns))
        step k =
            ap (λ (q : FirmView). window_of k (at new_scope q.logins l)) (next_firm n ns)
            ∙ ap (window_of k) (chosen (λ q. at new_scope q.logins l) (for_all n || eqb (whose n) a) (firm_told (clock ns) n (firm ns)) (firm ns))
            ∙ ap (λ (s : ScopeView). window_of k (cond (for_all n || eqb (whose n) a) s (login ns))) told
            ∙ heard (for_all n) (eqb (whose n) a) (eqb (login_of n) l) none (clock ns) n (login ns) k

-- ---- the causes

firm_defined : (n : Notice) (ns : List Notice) → Forward ns → 1 ≤ whose n → whose n ≤ 8
    → cond (for_firm n) (scope_cause (clock ns) n (at new_firm (firms_after ns) (whose n)).own) 0 ≡ cause_over (of_firm (whose n)) (n ∷ ns)
firm_defined n ns forward low high = by_scope (for_firm n) refl
  where
    by_scope : (b : Bool) → for_firm n ≡ b → cond (for_firm n) (scope_cause (clock ns) n (at new_firm (firms_after ns) (whose n)).own) 0 ≡ cause_over (of_firm (whose n)) (n ∷ ns)
    by_scope true is =
        ap (λ b. cond b (scope_cause (clock ns) n (at new_firm (firms_after ns) (whose n)).own) 0) is
        ∙ cause_defined (of_firm (whose n)) (at new_firm (firms_after ns) (whose n)).own n ns forward (firm_lives (whose n) low high ns) (rw (eq-eqb (whose n) (whose n) refl, is))
    by_scope false is =
        ap (λ b. cond b (scope_cause (clock ns) n (at new_firm (firms_after ns) (whose n)).own) 0) is
        ∙ no_cause_aside (of_firm (whose n)) n ns (rw (eq-eqb (whose n) (whose n) refl, is))

login_defined : (n : Notice) (ns : List Notice) → Forward ns → 1 ≤ whose n → whose n ≤ 8 → 1 ≤ login_of n → login_of n ≤ 24
    → scope_cause (clock ns) n (at new_scope (at new_firm (firms_after ns) (whose n)).logins (login_of n)) ≡ cause_over (of_login (whose n) (login_of n)) (n ∷ ns)
login_defined n ns forward low high lowest highest =
    cause_defined (of_login (whose n) (login_of n)) (at new_scope (at new_firm (firms_after ns) (whose n)).logins (login_of n)) n ns forward
    (login_lives (whose n) low high (login_of n) lowest highest ns) (rw (eq-eqb (whose n) (whose n) refl, eq-eqb (login_of n) (login_of n) refl))

pub as_told : (r : Causes) (n : Notice) (t : ℕ) (firms : List FirmView) → r ≡ told_causes rates n t (at new_firm firms (whose n)) → AsTold r n t firms
as_told r n t firms is ns forward time-is firms-are low high lowest highest =
    let at_clock : told_causes rates n t (at new_firm firms (whose n)) ≡ told_causes rates n (clock ns) (at new_firm (firms_after ns) (whose n)) =
    ap (λ (u : ℕ). told_causes rates n u (at new_firm firms (whose n))) time-is ∙ ap (λ (fs : List FirmView). told_causes rates n (clock ns) (at new_firm fs (whose n))) firms-are in
    let defined : firm_causes (clock ns) n (at new_firm (firms_after ns) (whose n)) ≡ causes_over (whose n) (login_of n) (n ∷ ns) =
    λ i. record { login = login_defined n ns forward low high lowest highest i; acronym = firm_defined n ns forward low high i } in
    is ∙ at_clock ∙ sym (causes_told n (clock ns) (at new_firm (firms_after ns) (whose n))) ∙ defined

pub told_here :
    (n : Notice) (p : ℕ) (rs : List FirmWindows) (w i : ℕ) (e : FirmWindows) → w ≡ whose n → w ≡ suc i → i < length rs
    → (r : Causes) → r ≡ firm_causes p n (firm_view (get_or rs i e)) → AsTold r n p (map firm_view rs)
told_here n p rs w i e whom is lt r so = as_told r n p (map firm_view rs) (causes_here n p rs w i e whom is lt r so)
