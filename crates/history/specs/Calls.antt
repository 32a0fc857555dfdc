-- The rule of each call: when it is refused, what it answers, and what it leaves where it is accepted. Assumes nothing.
-- Refusals stand in the order of their numbers, so that the smallest that fits is given: 1 on all fields before any state.
use Rattle.std.specs.Prelude.{ℕ, Bool, true, false, cond, not, ◌&&◌, List, [], ◌∷◌, Option, ◌==◌, nat_lt}
use Rattle.terms.specs.declared.refusal.Refusal.{Refusal}
use Rattle.terms.specs.declared.refusal.Refusal.TheVariants.{Field, NotOpen, Taken, Leaving, ClockBack, NoOrder, NoSlip, SlipOut, WrongSlip, NoValues, Held}
use Rattle.terms.specs.declared.messages.ScopeNumber.{ScopeNumber}
use Rattle.terms.specs.declared.messages.Notice.TheVariants.{Ticked, Valued, Opened, Closed, Limited, Released}
use Rattle.terms.specs.declared.messages.Fill.{Fill}
use Rattle.terms.specs.Tables.{at}
use Rattle.terms.specs.Answers.{first_of, given, unless}
use Rattle.market.specs.Book.{Entry, Slip, is_for, reaches, in_reach, totals, any_in, taken_off, waiting_of, slip_of, handed}
use Rattle.market.specs.Market.{dropped}
use Rattle.checks.specs.Meaning.{Meaning}
use Rattle.history.specs.Fields.{good_time, good_login, good_number, good_scope, good_values, good_open, good_limit, good_ticket, good_fill, good_kill}
use Rattle.history.specs.State.{State, row, is_free, is_open, is_leaving, opened, with_out, nothing_waits, retired_row, receipted_row, with_time, with_values, with_row, with_book}
use Rattle.history.specs.Scopes.{in_scope, scope_acronym, shut, hold_scope, lift_scope}
use Rattle.history.specs.Trips.{tell}
use Rattle.history.specs.Entering.{verdict, verdict_leaves, enter_reply, is_held}
use Rattle.history.specs.Acts.{Act, Tick, Values, Open, Retire, Limit, Enter, Cancel, Take, Receipt, PutBack, Kill, Release, Answer, plain, amount, entered, taken}

-- what a call comes to
pub record Rule (m : Meaning) : Type 0 where
  -- why it is refused, if it is
  pub refused : Option Refusal
  -- its answer, by the refusal
  pub answers : Option Refusal → Answer
  -- what is so after it, where it is accepted
  pub leaves : State m

-- ---- answers

abbrev pub plainly : Option Refusal → Answer
plainly o = plain (given o tt)

abbrev pub cancelling : (contracts : ℕ) → Option Refusal → Answer
cancelling n o = amount (given o n)

abbrev pub handing : Fill → Option Refusal → Answer
handing f o = taken (given o f)

-- ---- slips that are handed out and back

abbrev pub no_slip : Slip
no_slip = record { number = 0; side = 0; contracts = 0; price = 0 }

-- the oldest, where one waits
abbrev pub first : List Slip → Slip
first [] = no_slip
first (s ∷ ss) = s

abbrev pub same_slip : Slip → Slip → Bool
same_slip s t = s.number == t.number && (s.side == t.side && (s.contracts == t.contracts && s.price == t.price))

abbrev pub is_oldest : Slip → List Slip → Bool
is_oldest s [] = false
is_oldest s (t ∷ ss) = same_slip t s

-- the cause by which a kill holds: none without block
abbrev pub kill_cause : (block : ℕ) → ℕ
kill_cause block = cond (block == 1) 60 0

module _ {m : Meaning} where
  -- why a slip that is handed back is refused: its login is free, or has none out, or its oldest differs in a field
  abbrev pub handed_refusal : State m → Fill → Option Refusal
  handed_refusal s f =
      first_of
      ((not (good_fill f), Field)
      ∷ (is_free (row s f.login), NotOpen)
      ∷ (not ((row s f.login).out && is_oldest (slip_of f) (waiting_of s.book f.login)), WrongSlip)
      ∷ [])

  -- what a kill sweeps: entries of open logins in the scope, within the reach of the call
  abbrev pub in_kill : State m → ScopeNumber → (reach : ℕ) → Entry → Bool
  in_kill s scope reach e = (is_open (row s e.login) && reaches reach e.kind) && in_scope s scope e.login

  -- ---- the rules

  abbrev pub rule : State m → Act → Rule m
  -- The clock does not go back; it may stand.
  rule s (Tick time) = record {
    refused = first_of ((not (good_time time), Field) ∷ (nat_lt time s.time, ClockBack) ∷ []);
    answers = plainly;
    leaves = tell (Ticked time) (with_time time s);
  }
  -- What is known of a series.
  rule s (Values series v) = record {
    refused = first_of ((not (good_values series v), Field) ∷ []);
    answers = plainly;
    leaves = tell (Valued series v) (with_values series s);
  }
  -- A free login becomes an acronym's, not held. The checks drop the login's limits.
  rule s (Open l a role reach) = record {
    refused = first_of ((not (good_open l a role reach), Field) ∷ (is_open (row s l), Taken) ∷ (is_leaving (row s l), Leaving) ∷ []);
    answers = plainly;
    leaves = tell (Opened a l role reach) (with_row l (opened a role reach) s);
  }
  -- All that the login rests is taken off, and the checks drop its limits. It is leaving while a slip of it waits, then free.
  rule s (Retire l) = record {
    refused = first_of ((not (good_login l), Field) ∷ (not (is_open (row s l)), NotOpen) ∷ []);
    answers = cancelling (totals (in_reach l 3) s.book.resting);
    leaves =
        tell (Closed (row s l).acronym l)
        (with_row l (retired_row (waiting_of s.book l) (row s l)) (with_book (taken_off (in_reach l 3) s.book) s));
  }
  -- A limit is the checks' matter alone.
  rule s (Limit x) = record {
    refused = first_of ((not (good_limit x), Field) ∷ (shut s x.scope, NotOpen) ∷ []);
    answers = plainly;
    leaves = tell (Limited (scope_acronym s x.scope) x) s;
  }
  -- What is refused here comes before the checks are asked, and is not told to them.
  rule s (Enter t) = record {
    refused =
        first_of
        ((not (good_ticket t), Field)
        ∷ (not (is_open (row s t.login)), NotOpen)
        ∷ (not (at false s.valued t.series), NoValues)
        ∷ (is_held s t.login, Held)
        ∷ []);
    answers = λ o. entered (enter_reply t s o);
    leaves = verdict_leaves t s (verdict s t);
  }
  -- An entry is withdrawn; its contracts left are cancelled.
  rule s (Cancel l n) = record {
    refused =
        first_of
        ((not (good_login l && good_number n), Field)
        ∷ (not (is_open (row s l)), NotOpen)
        ∷ (not (any_in (is_for l n) s.book.resting), NoOrder)
        ∷ []);
    answers = cancelling (totals (is_for l n) s.book.resting);
    leaves = with_book (taken_off (is_for l n) s.book) s;
  }
  -- The oldest slip is handed out. It waits on until it is receipted.
  rule s (Take l) = record {
    refused =
        first_of
        ((not (good_login l), Field) ∷ (is_free (row s l), NotOpen) ∷ (nothing_waits (waiting_of s.book l), NoSlip) ∷ ((row s l).out, SlipOut) ∷ []);
    answers = handing (handed l (first (waiting_of s.book l)));
    leaves = with_row l (with_out true (row s l)) s;
  }
  -- The slip goes, and with the last one a login that is leaving is free.
  rule s (Receipt f) = record {
    refused = handed_refusal s f;
    answers = plainly;
    leaves =
        with_row f.login (receipted_row (waiting_of (dropped s.book f.login) f.login) (row s f.login))
        (with_book (dropped s.book f.login) s);
  }
  -- The slip waits as before, and can be taken again.
  rule s (PutBack f) = record {
    refused = handed_refusal s f;
    answers = plainly;
    leaves = with_row f.login (with_out false (row s f.login)) s;
  }
  -- The scope's open logins are swept within the reach of the call; with block 1 the scope is held.
  rule s (Kill scope reach block) = record {
    refused = first_of ((not (good_kill scope reach block), Field) ∷ (shut s scope, NotOpen) ∷ []);
    answers = cancelling (totals (in_kill s scope reach) s.book.resting);
    leaves = hold_scope scope (kill_cause block) (with_book (taken_off (in_kill s scope reach) s.book) s);
  }
  -- A scope that is not held may be released too; the checks are told either way.
  rule s (Release scope) = record {
    refused = first_of ((not (good_scope scope), Field) ∷ (shut s scope, NotOpen) ∷ []);
    answers = plainly;
    leaves = tell (Released (scope_acronym s scope) scope) (lift_scope scope s);
  }

  abbrev pub refusal : State m → Act → Option Refusal
  refusal s c = (rule s c).refused

  abbrev pub done : State m → Act → State m
  done s c = (rule s c).leaves

  -- the one answer that a call can get
  abbrev pub reply : State m → Act → Answer
  reply s c = (rule s c).answers (rule s c).refused

  -- what a call leaves, accepted or refused
  abbrev pub next : State m → Act → State m
  next s c = unless (rule s c).refused s (rule s c).leaves
