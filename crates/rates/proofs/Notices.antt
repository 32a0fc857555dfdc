-- The windows of one scope, of the logins and of a firm at a notice. Assumes nothing.
use Rattle.std.proofs.Common.{◌≡◌, ℕ, suc, ◌<◌, ◌≤◌, Bool, true, false, cond, eqb, List, map, length, get_or, set, sym, refl, ap, ◌∙◌, arith, eq-eqb, ne_eqb}
use lib.ListN.{length-map}
use Rattle.rates.proofs.Seen.{seen_at, put_seen}
use Rattle.terms.specs.declared.messages.LimitNumbers.{LimitNumbers}
use Rattle.terms.specs.declared.messages.Notice.{Notice}
use Rattle.terms.specs.declared.messages.Notice.TheVariants.{Ticked, Valued, Opened, Closed, Limited, Released, Entered, TurnedDown, Filled}
use Rattle.terms.proofs.Tables.{same_all}
use Rattle.terms.specs.Tables.{at, put}
use Rattle.checks.specs.Meaning.{no_cause, whose, told_public, told_each, told_causes}
use Rattle.checks.specs.Places.{numbered}
use Rattle.checks.proofs.Places.{at_past, put_past, numbered_at}
use Rattle.checks.proofs.Told.{Quiet, told_at, told_nowhere}
use Rattle.rates.specs.declared.windows.Rate.{Rate}
use Rattle.rates.specs.declared.windows.ScopeWindows.{ScopeWindows}
use Rattle.rates.specs.declared.windows.FirmWindows.{FirmWindows}
use Rattle.terms.specs.declared.messages.Causes.{Causes}
use Rattle.rates.specs.declared.windows.Rate.TheVariants.{Entries, Fills, TurnDowns}
use Rattle.rates.specs.Runs.{Act, event, clearing, limiting, aside, answered}
use Rattle.rates.specs.Views.{View, empty}
use Rattle.rates.specs.Scopes.{ScopeView, scope_view, new_scope, scope_answered, scope_told, scope_cause, set_by, kind_of, cause_or, act}
use Rattle.rates.specs.Firms.{FirmView, firm_view, new_firm, login_of, for_firm, login_told, firm_told, firm_causes, time_after, rates}

-- the cause is worked out from what each window answers
pub same_cause : (x y z x' y' z' : Bool) → x ≡ x' → y ≡ y' → z ≡ z'
    → cause_or Entries x (cause_or Fills y (cause_or TurnDowns z 0)) ≡ cause_or Entries x' (cause_or Fills y' (cause_or TurnDowns z' 0))
same_cause x y z x' y' z' p q r = cc

-- where no window trips there is no cause
pub no_window_trips : (x : Rate → Act) (s : ScopeView) → answered (x Entries) s.entries ≡ false → answered (x Fills) s.fills ≡ false → answered (x TurnDowns) s.turndowns ≡ false → scope_answered x s ≡ 0
no_window_trips x s p q r = same_cause _ _ _ false false false p q r

new_answers : (x : Act) → answered x (empty 0 0) ≡ false
new_answers (event e) = refl
new_answers clearing = refl
new_answers (limiting l i) = refl
new_answers aside = refl

-- windows without a limit give no cause
pub new_cause : (x : Rate → Act) → scope_answered x new_scope ≡ 0
new_cause x = no_window_trips x new_scope (new_answers (x Entries)) (new_answers (x Fills)) (new_answers (x TurnDowns))

set_answers : (b : Bool) (l i : ℕ) (v : View) → answered (cond b (limiting l i) clearing) v ≡ false
set_answers true l i v = refl
set_answers false l i v = refl

-- a limit trips nothing
set_cause : (x : LimitNumbers) (s : ScopeView) → scope_answered (set_by x) s ≡ 0
set_cause x s =
    no_window_trips (set_by x) s
    (set_answers (eqb x.kind (kind_of Entries)) x.limit x.interval s.entries)
    (set_answers (eqb x.kind (kind_of Fills)) x.limit x.interval s.fills)
    (set_answers (eqb x.kind (kind_of TurnDowns)) x.limit x.interval s.turndowns)

-- the windows of one login at most are changed
pub logins_told : (t : ℕ) (n : Notice) (ss : List ScopeView) → numbered (login_told t n) 1 ss ≡ put ss (login_of n) (scope_told t n (at new_scope ss (login_of n)))
logins_told t n ss =
    numbered_at (login_told t n) (login_of n) (λ l s low other. rw (ne_eqb (login_of n) l other)) ss new_scope
    ∙ ap (put ss (login_of n)) (rw (eq-eqb (login_of n) (login_of n) refl))

pub rates_quiet : Quiet rates
rates_quiet = record {
  ticked = λ t p q. ap (λ (ss : List ScopeView). record { own = q.own; logins = ss }) (logins_told p (Ticked t) q.logins);
  valued = λ s v p q. ap (λ (ss : List ScopeView). record { own = q.own; logins = ss }) (logins_told p (Valued s v) q.logins);
}

-- the clock is the public record
pub time_told : (n : Notice) (p : ℕ) → time_after n p ≡ told_public rates n p
time_told (Ticked t) p = refl
time_told (Valued s v) p = refl
time_told (Opened a l r c) p = refl
time_told (Closed a l) p = refl
time_told (Limited a x) p = refl
time_told (Released a s) p = refl
time_told (Entered k) p = refl
time_told (TurnedDown k n) p = refl
time_told (Filled a f) p = refl

either_none : (b : Bool) (n : ℕ) → n ≡ 0 → cond b n 0 ≡ 0
either_none true n h = h
either_none false n h = refl

limit_causes : (t : ℕ) (a : ℕ) (x : LimitNumbers) (q : FirmView) → firm_causes t (Limited a x) q ≡ no_cause
limit_causes t a x q =
    let l = set_cause x (at new_scope q.logins (login_of (Limited a x))) in
    let o = either_none (for_firm (Limited a x)) (scope_answered (set_by x) q.own) (set_cause x q.own) in
    λ i. record { login = l i; acronym = o i }

-- the causes of a firm are those of a check: only an event can trip
pub causes_told : (n : Notice) (t : ℕ) (q : FirmView) → firm_causes t n q ≡ told_causes rates n t q
causes_told (Ticked u) t q = refl
causes_told (Valued s v) t q = refl
causes_told (Opened a l r c) t q = refl
causes_told (Closed a l) t q = refl
causes_told (Limited a x) t q = limit_causes t a x q
causes_told (Released a s) t q = λ i. record { login = 0; acronym = either_none (for_firm (Released a s)) 0 refl i }
causes_told (Entered k) t q = refl
causes_told (TurnedDown k n) t q = refl
causes_told (Filled a f) t q = refl

-- a firm without any limit gives no cause
pub new_firm_causes : (t : ℕ) (n : Notice) → no_cause ≡ firm_causes t n new_firm
new_firm_causes t n =
    let l = new_cause (λ k. act k t n) in
    let at_new = ap (scope_cause t n) (same_all new_scope 24 (login_of n)) ∙ l in
    let o = either_none (for_firm n) (scope_cause t n new_scope) l in
    λ i. record { login = sym at_new i; acronym = sym o i }

-- ---- the windows of a login that were changed in place, or none that were

module _ (n : Notice) (t : ℕ) (xs : List ScopeWindows) (w i : ℕ) (e : ScopeWindows) (whom : w ≡ login_of n) (is : w ≡ suc i) (lt : i < length xs) where
  pub cause_here : (r : ℕ) → r ≡ scope_cause t n (scope_view (get_or xs i e)) → r ≡ scope_cause t n (at new_scope (map scope_view xs) (login_of n))
  cause_here r so = so ∙ ap (scope_cause t n) (seen_at scope_view xs new_scope (login_of n) i e (sym whom ∙ is) lt)

  pub login_here : (v : ScopeWindows) → scope_view v ≡ scope_told t n (scope_view (get_or xs i e)) → map scope_view (set xs i v) ≡ numbered (login_told t n) 1 (map scope_view xs)
  login_here v so = put_seen scope_view xs new_scope (login_of n) i e (sym whom ∙ is) lt (scope_told t n) v so ∙ sym (logins_told t n (map scope_view xs))

module _ (n : Notice) (t : ℕ) (xs : List ScopeWindows) (w : ℕ) (whom : w ≡ login_of n) (none : 1 ≤ w → length xs < w) where
  nobody : 1 ≤ login_of n → length (map scope_view xs) < login_of n
  nobody h = omega (arith, none (omega (arith, whom)), whom, length-map xs scope_view)

  pub cause_nowhere : 0 ≡ scope_cause t n (at new_scope (map scope_view xs) (login_of n))
  cause_nowhere = sym (new_cause (λ k. act k t n)) ∙ ap (scope_cause t n) (sym (at_past new_scope (map scope_view xs) (login_of n) nobody))

  pub login_nowhere : map scope_view xs ≡ numbered (login_told t n) 1 (map scope_view xs)
  login_nowhere = sym (put_past (map scope_view xs) (login_of n) (scope_told t n (at new_scope (map scope_view xs) (login_of n))) nobody) ∙ sym (logins_told t n (map scope_view xs))

-- ---- the windows of a firm that were changed in place, or none that were

module _ (n : Notice) (p : ℕ) (rs : List FirmWindows) (w i : ℕ) (e : FirmWindows) (whom : w ≡ whose n) (is : w ≡ suc i) (lt : i < length rs) where
  pub causes_here : (r : Causes) → r ≡ firm_causes p n (firm_view (get_or rs i e)) → r ≡ told_causes rates n p (at new_firm (map firm_view rs) (whose n))
  causes_here r so = so ∙ ap (firm_causes p n) (seen_at firm_view rs new_firm (whose n) i e (sym whom ∙ is) lt) ∙ causes_told n p (at new_firm (map firm_view rs) (whose n))

  pub firm_here : (v : FirmWindows) → firm_view v ≡ firm_told p n (firm_view (get_or rs i e)) → map firm_view (set rs i v) ≡ told_each rates 1 n p (map firm_view rs)
  firm_here v so = put_seen firm_view rs new_firm (whose n) i e (sym whom ∙ is) lt (firm_told p n) v so ∙ sym (told_at rates rates_quiet p (map firm_view rs) new_firm n)

module _ (n : Notice) (p : ℕ) (rs : List FirmWindows) (w : ℕ) (whom : w ≡ whose n) (none : 1 ≤ w → length rs < w) where
  no_firm : 1 ≤ whose n → length (map firm_view rs) < whose n
  no_firm h = omega (arith, none (omega (arith, whom)), whom, length-map rs firm_view)

  pub causes_nowhere : no_cause ≡ told_causes rates n p (at new_firm (map firm_view rs) (whose n))
  causes_nowhere = new_firm_causes p n ∙ ap (firm_causes p n) (sym (at_past new_firm (map firm_view rs) (whose n) no_firm)) ∙ causes_told n p (at new_firm (map firm_view rs) (whose n))

  pub firm_nowhere : map firm_view rs ≡ told_each rates 1 n p (map firm_view rs)
  firm_nowhere = told_nowhere rates rates_quiet p (map firm_view rs) new_firm n (whose n) refl no_firm

pub ruleset login_steps = (cause_here, login_here, cause_nowhere, login_nowhere)

pub ruleset firm_steps = (time_told, causes_here, firm_here, causes_nowhere, firm_nowhere)
