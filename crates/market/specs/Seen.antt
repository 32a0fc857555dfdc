-- The ranged values of the code, seen as the plain numbers of the book. Assumes nothing.
use Rattle.std.specs.Prelude.{Option}
use Rattle.std.specs.Option.{option_map}
use Rattle.terms.specs.Kinds.{side_number, kind_number}
use Rattle.terms.specs.declared.entries.Entry.{Entry}
use Rattle.terms.specs.declared.entries.Slip.{Slip}
use Rattle.market.specs.Book as book

abbrev pub seen : Entry → book.Entry
seen e =
    record {
      login = e.login.value;
      number = e.number.value;
      side = side_number e.side;
      kind = kind_number e.kind;
      price = e.price.value;
      contracts = e.contracts.value;
    }

abbrev pub seen_slip : Slip → book.Slip
seen_slip s = record { number = s.number.value; side = side_number s.side; contracts = s.contracts.value; price = s.price.value }

-- a slip that may not be there
abbrev pub seen_oldest : Option Slip → Option book.Slip
seen_oldest s = option_map seen_slip s
