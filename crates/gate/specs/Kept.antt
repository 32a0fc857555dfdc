-- What a gate keeps, as a state of the definitions, and what a call of it does. Assumes nothing.
use Rattle.std.specs.Prelude.{map}
use Rattle.terms.specs.declared.events.Event.{Event}
use Rattle.market.specs.declared.Market.{Ghosts as MarketOf}
use Rattle.checks.specs.declared.checking.Check.{Ghosts as ChecksOf}
use Rattle.history.specs.State.{State}
use Rattle.history.specs.Step.{Step}
use Rattle.gate.specs.declared.desk.Gate.{Gate}
use Rattle.gate.specs.Rows.{seen_row}

-- what is known of a market of type M, and of checks of type C: the members of their traits
module _ {M C : Type 0} (market : MarketOf M) (checks : ChecksOf C) where
  -- the state of a gate: its own tables, the book of its market and the records of its checks
  abbrev pub state_of : Gate M C market checks → State checks.meaning
  state_of g =
      record {
        time = g.time;
        valued = g.valued;
        rows = map seen_row g.rows;
        holds = g.holds;
        public = checks.public g.checks.now;
        private = checks.private g.checks.now;
        book = market.book g.market.now;
      }

  -- an event leads from what the gate was to what it is
  abbrev pub Steps : Gate M C market checks → Event → Gate M C market checks → Type 0
  Steps before e after = Step (state_of before) e (state_of after)
