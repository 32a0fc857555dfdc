-- There is a place for the slip.
use Rattle.std.proofs.Common.{arith}
use Rattle.tables.proofs.Trades.{slips_counted, handed}
use Rattle.tables.proofs.state.Tables.give_slip.Goals as goal

pub append-requires : goal.append-requires
append-requires c =
    let t = c.args.self.now in
    (omega arith, (omega (arith, c.index.ensures.bound), omega (arith, c.requires, slips_counted t)))

pub returns : goal.returns
returns c =
    let t = c.args.self.now in
    let d = handed t.entries t.slips c.append.new.chains c.index.result c.args.login.value c.args.slip c.index.ensures.place
    (omega (arith, c.facts.ensures.count, c.index.ensures.bound)) c.append.ensures.appended c.append.ensures.places in
    record { given = d.given; more = d.more }
