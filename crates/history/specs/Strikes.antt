-- Strike: the market's trade, then the buyer is told, then the seller, each of its own side alone and each with what it trips. Assumes nothing.
use Rattle.std.specs.Prelude.{◌≡◌, Some, None, Ok, Err, Option, Result}
use Rattle.terms.specs.declared.refusal.Refusal.{Refusal}
use Rattle.terms.specs.declared.messages.Fill.{Fill}
use Rattle.terms.specs.declared.messages.Notice.{Notice}
use Rattle.terms.specs.declared.messages.Notice.TheVariants.{Filled}
use Rattle.terms.specs.declared.events.Effect.{Effect}
use Rattle.terms.specs.declared.events.Struck.{Struck}
use Rattle.market.specs.Book.{Trade}
use Rattle.market.specs.Market.{buy_side, sell_side, traded, MayStrike}
use Rattle.checks.specs.Meaning.{Meaning}
use Rattle.history.specs.State.{State, row, with_book}
use Rattle.history.specs.Trips.{noticed, effect_of}

-- the market's part of the answer
abbrev pub trade_of : Result (Option Struck) Refusal → Result (Option Trade) Refusal
trade_of (Ok None) = Ok None
trade_of (Ok (Some x)) = Ok (Some x.trade)
trade_of (Err x) = Err x

module _ {m : Meaning} where
  -- what the checks are told of a side of a trade
  abbrev pub fill_notice : State m → Fill → Notice
  fill_notice s f = Filled (row s f.login).acronym f

  abbrev pub fill_told : Fill → State m → State m
  fill_told f s = noticed f.login (fill_notice s f) s

  abbrev pub fill_effect : Fill → State m → Effect
  fill_effect f s = effect_of f.login (fill_notice s f) s

  -- both entries are reduced and both slips wait
  abbrev pub traded_state : Trade → State m → State m
  traded_state t s = with_book (traded t s.book) s

  -- the buyer is told, and what it trips is held and swept, before the seller is
  abbrev pub buyer_told : Trade → State m → State m
  buyer_told t s = fill_told (buy_side t) (traded_state t s)

  abbrev pub both_told : Trade → State m → State m
  both_told t s = fill_told (sell_side t) (buyer_told t s)

  -- what each side is answered
  abbrev pub Effects : State m → Result (Option Struck) Refusal → Type 0
  Effects s (Ok None) = Unit {0}
  Effects s (Ok (Some x)) =
      (x.buy ≡ fill_effect (buy_side x.trade) (traded_state x.trade s))
      × (x.sell ≡ fill_effect (sell_side x.trade) (buyer_told x.trade s))
  Effects s (Err x) = Unit {0}

  abbrev pub MayAnswer : State m → Result (Option Struck) Refusal → Type 0
  MayAnswer s r = MayStrike s.book (trade_of r) × Effects s r

  abbrev pub struck_state : State m → Result (Option Struck) Refusal → State m
  struck_state s (Ok None) = s
  struck_state s (Ok (Some x)) = both_told x.trade s
  struck_state s (Err x) = s
