-- Which field of a question stands where. Assumes nothing.
use Rattle.std.specs.Prelude.{ℕ, List, slice_index}
use Rattle.terms.specs.declared.values.RequestNumbers.{RequestNumbers}
use Rattle.terms.specs.declared.values.ConditionNumbers.{ConditionNumbers}

abbrev pub field : List ℕ → ℕ → ℕ
field ns i = slice_index ns i

-- ROLE SIDE KIND MARKS PRICE
abbrev pub request_in : List ℕ → RequestNumbers
request_in ns = record { role = field ns 0; side = field ns 1; kind = field ns 2; marks = field ns 3; price = field ns 4 }

-- CLASS PHASE FLAG NBB NBO BID OFFER CLOSE
abbrev pub conditions_in : List ℕ → ConditionNumbers
conditions_in ns =
    record {
      class = field ns 5;
      phase = field ns 6;
      flag = field ns 7;
      nbb = field ns 8;
      nbo = field ns 9;
      bid = field ns 10;
      offer = field ns 11;
      close = field ns 12;
    }
