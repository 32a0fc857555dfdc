-- The first records of the standard pile. Assumes nothing.
use Rattle.std.specs.Prelude.{◌≡◌, map, replicate, None}
use Rattle.checks.specs.declared.piling.Pile.{Pile}
use Rattle.checks.specs.declared.sizing.Size.{Size}
use Rattle.checks.specs.declared.valuing.ByValues.{ByValues}
use Rattle.checks.specs.declared.valuing.PutAndCall.{PutAndCall}
use Rattle.checks.specs.declared.valuing.LimitPrice.{LimitPrice}
use Rattle.rates.specs.declared.windows.Rates.{Rates}
use Rattle.checks.specs.Sizes.{unlimited}
use Rattle.rates.specs.Firms.{firm_view, new_firm}

abbrev pub StandardPile : Type 0
StandardPile = Pile Size (Pile (ByValues PutAndCall) (Pile (ByValues LimitPrice) Rates))

-- no limit, no values, time 0, and nothing counted
pub record Fresh (p : StandardPile) : Type 0 where
  pub limits : p.first.limits ≡ replicate 8 unlimited
  pub bought : p.rest.first.known.series ≡ replicate 16 None
  pub priced : p.rest.rest.first.known.series ≡ replicate 16 None
  pub time : p.rest.rest.rest.time ≡ 0
  pub windows : map firm_view p.rest.rest.rest.firms ≡ replicate 8 new_firm
