-- One acronym's part of a run: the calls that concern it and its own sides of trades, each with its answer. Assumes nothing.
use Rattle.std.specs.Prelude.{ℕ, Bool, true, cond, ◌&&◌, List, [], ◌∷◌, ◌++◌, Some, None, Ok, Err, ◌==◌}
use Rattle.terms.specs.Entered.{entered_number}
use Rattle.terms.specs.declared.messages.ScopeNumber.{ScopeNumber}
use Rattle.terms.specs.declared.messages.ScopeNumber.TheVariants.{Login, Acronym}
use Rattle.terms.specs.declared.messages.Fill.{Fill}
use Rattle.terms.specs.declared.events.Event.{Event}
use Rattle.terms.specs.Answers.{is_ok}
use Rattle.market.specs.Market.{buy_side, sell_side}
use Rattle.checks.specs.Meaning.{Meaning}
use Rattle.history.specs.State.{State, row}
use Rattle.history.specs.Acts.{Act, Tick, Values, Open, Retire, Limit, Enter, Cancel, Take, Receipt, PutBack, Kill, Release, Answer, plain, amount, entered, taken, told, Moment, act, strike, moment}
use Rattle.history.specs.Step.{reached}

-- the call was accepted; of enter 0 says so
abbrev pub accepted : Answer → Bool
accepted (plain r) = is_ok r
accepted (amount r) = is_ok r
accepted (entered x) = entered_number x == 0
accepted (taken r) = is_ok r
accepted (told x) = true

-- a call, or a side of a trade: login, number, side, contracts and price, and nothing of the other side
pub data Item : Type 0 where
  own_call : Act → Item
  own_side : Fill → Item

module _ {m : Meaning} where
  -- the acronym a holds the login, open or leaving
  abbrev pub has : (a : ℕ) → State m → (login : ℕ) → Bool
  has a s login = (row s login).acronym == a

  -- the scope is a's, or a login that it holds
  abbrev pub has_scope : (a : ℕ) → State m → ScopeNumber → Bool
  has_scope a s (Login l) = has a s l
  has_scope a s (Acronym b) = b == a

  -- Accepted ticks and values; accepted opens that name it; every other call, refused or not, that names it or a login that it holds when
  -- the call comes. A number out of its range names nobody.
  abbrev pub belongs : (a : ℕ) → State m → Answer → Act → Bool
  belongs a s r (Tick t) = accepted r
  belongs a s r (Values n v) = accepted r
  belongs a s r (Open l b role reach) = accepted r && b == a
  belongs a s r (Retire l) = has a s l
  belongs a s r (Limit x) = has_scope a s x.scope
  belongs a s r (Enter t) = has a s t.login
  belongs a s r (Cancel l n) = has a s l
  belongs a s r (Take l) = has a s l
  belongs a s r (Receipt f) = has a s f.login
  belongs a s r (PutBack f) = has a s f.login
  belongs a s r (Kill scope reach block) = has_scope a s scope
  belongs a s r (Release scope) = has_scope a s scope

abbrev pub only_if : Bool → Item × Answer → List (Item × Answer)
only_if b x = cond b (x ∷ []) []

-- What of one event is a's, with its answers. The newest stands first, so the seller's side before the buyer's: a trade's sides are items of their
-- own, whether the other side is a's too or not. Strike itself is nobody's.
abbrev pub share : {m : Meaning} → (a : ℕ) → State m → Moment → List (Item × Answer)
share a s (act c r) = only_if (belongs a s r c) (own_call c, r)
share a s (strike (Ok None)) = []
share a s (strike (Ok (Some x))) =
    only_if (has a s x.trade.seller.login) (own_side (sell_side x.trade), told x.sell)
    ++ only_if (has a s x.trade.buyer.login) (own_side (buy_side x.trade), told x.buy)
share a s (strike (Err x)) = []

abbrev pub items : List (Item × Answer) → List Item
items [] = []
items (x ∷ xs) = x.0 ∷ items xs

abbrev pub answers : List (Item × Answer) → List Answer
answers [] = []
answers (x ∷ xs) = x.1 ∷ answers xs

module _ (m : Meaning) (p : m.Pub) (room : ℕ) where
  -- all that is a's of a run, with its answers
  abbrev pub own : (a : ℕ) → List Event → List (Item × Answer)
  own a [] = []
  own a (e ∷ h) = share a (reached m p room h) (moment e) ++ own a h

  abbrev pub part_of : (a : ℕ) → List Event → List Item
  part_of a h = items (own a h)

  abbrev pub answers_of : (a : ℕ) → List Event → List Answer
  answers_of a h = answers (own a h)
