-- A round that is open goes on.
use Rattle.tables.specs.Held.{book_of}
use Rattle.size_market.proofs.Opening.{still_open}
use Rattle.size_market.proofs.state.SizeMarket.current.Goals as goal

pub returns-in-Some : goal.returns-in-Some
returns-in-Some c = let m = c.args.self.now in still_open (book_of m.tables) m.round c.in-Some.round c.in-Some.is m.sound
