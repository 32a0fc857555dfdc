-- Put and call: a buy pays less than the option can ever bring. Assumes nothing.
use Rattle.std.specs.Prelude.{◌≡◌, ℕ, ◌<◌, ◌≤◌, cond, Some, None, Ok, Err, Option, Result, nat_le}
use Rattle.terms.specs.declared.kinds.Side.{Side}
use Rattle.terms.specs.declared.kinds.Side.TheVariants.{Buy, Sell}
use Rattle.terms.specs.declared.kinds.OptionType.{OptionType}
use Rattle.terms.specs.declared.kinds.OptionType.TheVariants.{Call, Put}
use Rattle.terms.specs.declared.refusal.Refusal.{Refusal}
use Rattle.terms.specs.declared.refusal.Refusal.TheVariants.{PutAndCall}
use Rattle.terms.specs.declared.values.Request.{Request}
use Rattle.terms.specs.declared.values.Values.{Values}
use Rattle.terms.specs.Refusals.{answer}
use Rattle.terms.specs.Ranges.{Price}

abbrev pub ceiling_of : OptionType → Values → Option Price
ceiling_of Put v = Some v.strike
ceiling_of Call v = v.underlying

-- the price that no buy may reach: of a put its strike, of a call the underlying value, if it is there
abbrev pub ceiling : Values → Option Price
ceiling v = ceiling_of v.option v

abbrev pub below : ℕ → Option Price → Result (Unit {0}) Refusal
below price None = Ok tt
below price (Some c) = cond (nat_le c.value price) (Err PutAndCall) (Ok tt)

abbrev pub bought_below : Side → ℕ → Option Price → Result (Unit {0}) Refusal
bought_below Buy price c = below price c
bought_below Sell price c = Ok tt

abbrev pub put_and_call : Request → Values → Result (Unit {0}) Refusal
put_and_call q v = bought_below q.side q.price.value (ceiling v)

-- A buy one cent below the ceiling passes, and one on it does not; without a ceiling, and for a sell, every price passes.
pub record Ceiled (q : Request) (v : Values) (r : Result (Unit {0}) Refusal) : Type 0 where
  pub under : (c : Price) → q.side ≡ Buy → ceiling v ≡ Some c → q.price.value < c.value → answer r ≡ 0
  pub on : (c : Price) → q.side ≡ Buy → ceiling v ≡ Some c → c.value ≤ q.price.value → answer r ≡ 42
  pub open_ended : ceiling v ≡ None → answer r ≡ 0
  pub sells : q.side ≡ Sell → answer r ≡ 0
