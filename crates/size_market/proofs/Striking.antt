-- A strike by size: what each answer shows, and what is left of the round.
use Rattle.std.proofs.Common.{◌≡◌, ℕ, suc, ◌-◌, ◌<◌, ◌≤◌, Bool, true, false, cond, List, [], ◌∷◌, map, length, get_or, drop, Some, Ok, Err, Option, Result, sym, refl, ap, ◌∙◌, subst, arith}
use Rattle.std.proofs.lemmas.List.{get_or-map, length-map}
use Rattle.std.proofs.lemmas.Bool.{and_parts}
use Rattle.terms.specs.Kinds.{side_number}
use Rattle.terms.specs.declared.kinds.Side.{Side}
use Rattle.terms.specs.declared.kinds.Side.TheVariants.{Buy, Sell}
use Rattle.terms.specs.declared.events.Trade.{Trade}
use Rattle.terms.specs.declared.refusal.Refusal.{Refusal}
use Rattle.terms.specs.declared.refusal.Refusal.TheVariants.{SlipsFull}
use Rattle.market.specs.Book.{Entry, Book, is_for, count}
use Rattle.market.specs.Market.{slips_full, filled_in, buy_side, sell_side, traded, Struck}
use Rattle.market.specs.Seen.{seen}
use Rattle.tables.specs.declared.cross.Crossing.{Crossing}
use Rattle.tables.specs.Cross.{names, trade_of, Meet, Fair}
use Rattle.tables.specs.Kept.{Apart}
use Rattle.tables.proofs.Books.{counts_narrower}
use Rattle.tables.proofs.Crossings.{count_at}
use Rattle.shares.specs.Shares.{sum_of, share}
use Rattle.size_market.specs.declared.round.Round.{Round}
use Rattle.size_market.specs.declared.round.Due.{Due}
use Rattle.size_market.specs.Size.{trade_with, dealt, due, answer_of, size_answer, left_of, round_after}
use Rattle.size_market.specs.Going.{makers_of, ahead, pending_in, GoesOn}
use Rattle.size_market.specs.Steps.{Current, IsDue, facing, crossing_of, Next}
use Rattle.size_market.proofs.Dealing.{dealt_sum, traded_first}
use Rattle.size_market.proofs.Passing.{Ahead, first_ahead}
use Rattle.size_market.proofs.Facing.{buyer, seller, known, Faces, faces, faces_fair, going_crosses, trade_by_side}
use Rattle.size_market.proofs.After.{Leaves, both, leaves}
use Rattle.size_market.proofs.Following.{left_after, LeavesRound, follows}

-- ---- the answer, by what is due

answers_full : (full : Bool) (round due : List Trade) → full ≡ true → 0 < sum_of (map (λ t. t.contracts) due) → (Err SlipsFull ≡ answer_of full due) × (round ≡ left_of full round due)
answers_full full round [] e h = absurd (omega arith)
answers_full full round (t ∷ ts) e h = (ap (λ v. cond v (Err SlipsFull) (Ok (Some t))) (sym e), ap (λ v. cond v round ts) (sym e))

answers_first : (full : Bool) (round due : List Trade) (t : Trade) (ts : List Trade) → full ≡ false → due ≡ t ∷ ts → (Ok (Some t) ≡ answer_of full due) × (ts ≡ left_of full round due)
answers_first full round due t ts e d =
    (ap (λ v. cond v (Err SlipsFull) (Ok (Some t))) (sym e) ∙ ap (answer_of full) (sym d), ap (λ v. cond v round ts) (sym e) ∙ ap (left_of full round) (sym d))

pub record Told (b a : Book) (round after : List Trade) (r : Result (Option Trade) Refusal) : Type 0 where
  pub struck : Struck b r a
  pub exact : r ≡ size_answer b round
  pub left : after ≡ round_after b round

pub no_room : (b : Book) (round : List Trade) (r : Round) → Apart b.resting → length b.resting ≡ 16 → Current b round (Some r) → slips_full b ≡ true → Told b b round round (Err SlipsFull)
no_room b round r apart sixteen c full =
    let g = c.0 in
    let sum = dealt_sum (seen r.taker) r.price.value r.left (ahead b.resting r) (omega (arith, g.covered, g.rest)) in
    let some : 0 < sum_of (map (λ t. t.contracts) (due b round)) = omega (arith, sum, g.some, ap (λ v. sum_of (map (λ t. t.contracts) v)) c.1) in
    let w = answers_full (slips_full b) round (due b round) full some in
    record { struck = ((refl, going_crosses b r apart sixteen g, full), refl); exact = w.0; left = w.1 }

-- ---- a trade

-- what a trade of the crossing asks
pub record Ready (ess : List (List Entry)) (d : Due) (x : Crossing) : Type 0 where
  pub meet : Meet (get_or ess (x.series.value - 1) []) (seen x.buy) (seen x.sell)
  pub fair : Fair (seen x.buy) (seen x.sell) d.share.value d.round.price.value

pub ready : (ess : List (List Entry)) (r : Round) (d : Due) (x : Crossing) → Apart ess → length ess ≡ 16 → IsDue ess r d → x ≡ crossing_of d → Ready ess d x
ready ess r d x apart sixteen i e =
    let P : Crossing → Type 0 = Ready ess d in
    subst P (sym e) (by_side d.round.taker.side refl)
  where
    T : Entry
    T = seen d.round.taker

    M : Entry
    M = seen d.maker

    a : Ahead ess d.round M
    a = first_ahead ess d.round M i.going i.maker

    f : (side : Side) → T.side ≡ side_number side → Faces (get_or ess (d.round.series.value - 1) []) (buyer side T M) (seller side T M) d.round.price.value
    f side e = faces side (get_or ess (d.round.series.value - 1) []) d.round.price.value T M e (known ess d.round M apart sixteen i.going i.maker)

    of_taker : d.share.value ≤ d.round.taker.contracts.value
    of_taker = omega (arith, i.share, a.left, i.going.taken)

    of_maker : d.share.value ≤ d.maker.contracts.value
    of_maker = omega (arith, i.share, a.within)

    by_side : (side : Side) → T.side ≡ side_number side → Ready ess d (facing side d)
    by_side Buy e = record { meet = (f Buy e).meet; fair = faces_fair _ T M d.share.value d.round.price.value (f Buy e) d.share.low of_taker of_maker }
    by_side Sell e = record { meet = (f Sell e).meet; fair = faces_fair _ M T d.share.value d.round.price.value (f Sell e) d.share.low of_maker of_taker }

-- the series that was traded in
pub traded_at : (b a : Book) (k : ℕ) (buy sell : Entry) (n price : ℕ) (t : Trade) → k < length b.resting → t ≡ trade_of buy sell n price → a ≡ traded t b → get_or a.resting k [] ≡ both buy sell n price (get_or b.resting k [])
traded_at b a k buy sell n price t h et ea =
    let f = buy_side (trade_of buy sell n price) in
    let g = sell_side (trade_of buy sell n price) in
    ap (λ v. get_or v.resting k []) (ea ∙ ap (λ v. traded v b) et)
    ∙ get_or-map (filled_in g) (map (filled_in f) b.resting) k [] [] (omega (arith, h, length-map b.resting (filled_in f)))
    ∙ ap (filled_in g) (get_or-map (filled_in f) b.resting k [] [] h)

-- the trade is the taker's with the maker, and leaves the round's makers and taker as they should be
pub record Made (ess after : List (List Entry)) (d : Due) (t : Trade) : Type 0 where
  pub is : t ≡ trade_with (seen d.round.taker) d.round.price.value (seen d.maker) d.share.value
  pub leaves : LeavesRound ess after d

pub made : (b a : Book) (r : Round) (d : Due) (x : Crossing) (t : Trade) → Apart b.resting → length b.resting ≡ 16 → IsDue b.resting r d → x ≡ crossing_of d →
    t ≡ trade_of (seen x.buy) (seen x.sell) d.share.value d.round.price.value → a ≡ traded t b → Made b.resting a.resting d t
made b a r d x t apart sixteen i ex et ea =
    by_side d.round.taker.side refl (et ∙ ap (λ v. trade_of (seen v.buy) (seen v.sell) d.share.value d.round.price.value) ex)
  where
    T : Entry
    T = seen d.round.taker

    M : Entry
    M = seen d.maker

    k : ℕ
    k = d.round.series.value - 1

    n : ℕ
    n = d.share.value

    price : ℕ
    price = d.round.price.value

    es : List Entry
    es = get_or b.resting k []

    below : k < length b.resting
    below = omega (arith, sixteen, d.round.series.high)

    one : count (names M) es ≤ 1
    one =
        omega (arith, count_at (names M) b.resting k below, counts_narrower (names M) (is_for M.login M.number) (λ e y. (and_parts _ _ y).0) b.resting, apart M.login M.number)

    so : (side : Side) → T.side ≡ side_number side → t ≡ trade_of (buyer side T M) (seller side T M) n price → Made b.resting a.resting d t
    so side e q =
        let P : List Entry → Type 0 = λ v. Leaves es v T M price n d.round.passed in
        let l = leaves side es T M price n d.round.passed e (known b.resting d.round M apart sixteen i.going i.maker) one i.maker in
        record {
          is = q ∙ trade_by_side side T M n price e;
          leaves = subst P (sym (traded_at b a k (buyer side T M) (seller side T M) n price t below q ea)) l;
        }

    by_side : (side : Side) → T.side ≡ side_number side → t ≡ trade_of (seen (facing side d).buy) (seen (facing side d).sell) n price → Made b.resting a.resting d t
    by_side Buy e q = so Buy e q
    by_side Sell e q = so Sell e q

pub struck_so : (b a : Book) (round : List Trade) (r : Round) (d : Due) (x : Crossing) (t : Trade) (o : Option Round) → Apart b.resting → length b.resting ≡ 16 → slips_full b ≡ false →
    Current b round (Some r) → IsDue b.resting r d → x ≡ crossing_of d → t ≡ trade_of (seen x.buy) (seen x.sell) d.share.value d.round.price.value → Struck b (Ok (Some t)) a → Next d o →
    GoesOn a.resting o × Told b a round (pending_in a.resting o) (Ok (Some t)) × (due b round ≡ t ∷ left_after b.resting d)
struck_so b a round r d x t o apart sixteen room c i ex et st nx =
    let ess = b.resting in
    let T = trade_with (seen d.round.taker) d.round.price.value in
    let M = seen d.maker in
    let m = made b a r d x t apart sixteen i ex et st.1 in
    let w = follows ess a.resting d o i.going i.maker i.share m.leaves nx in
    let f = first_ahead ess d.round M i.going i.maker in
    let first : due b round ≡ t ∷ left_after ess d =
    sym c.1 ∙ i.pending ∙ ap (λ v. dealt T d.round.left v) f.rest
    ∙ traded_first T d.round.left d.share.value M (drop (suc d.round.passed) (makers_of ess d.round)) (i.share ∙ ap (share d.round.left M.contracts) f.sum) d.share.low
    ∙ ap (λ v. v ∷ left_after ess d) (sym m.is) in
    let z = answers_first (slips_full b) round (due b round) t (left_after ess d) room first in
    (w.0, record { struck = st; exact = z.0; left = w.1 ∙ z.1 }, first)
