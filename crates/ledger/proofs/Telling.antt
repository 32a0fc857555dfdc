-- A ledger that tells of a day goes on to tell of it when a trade cancels contracts of both its sides. Assumes nothing.
use Rattle.std.proofs.Common.{◌≡◌, ℕ, ◌≤◌, Bool, cond, List, ◌∷◌, length, Some, None, Option, sym, ◌∙◌, arith}
use Rattle.terms.specs.declared.events.Event.{Event}
use Rattle.terms.specs.Tables.{at}
use Rattle.terms.proofs.Tables.{at_put, length_put}
use Rattle.checks.proofs.Places.{put_past}
use Rattle.ledger.specs.declared.sums.Sums.{Sums}
use Rattle.ledger.specs.declared.accounts.Account.{Account}
use Rattle.ledger.specs.declared.accounts.Ledger.{Ledger}
use Rattle.ledger.specs.declared.postings.Item.{Item}
use Rattle.ledger.specs.declared.postings.Posting.TheVariants.{Sides}
use Rattle.ledger.specs.Sums.{nothing, plus, held}
use Rattle.ledger.specs.Postings.{posting, whose, is_firm, total, total_after, opened}
use Rattle.ledger.specs.Accounts.{account, unopened, added, posted, Tells}

added_at : (table : List Account) (firm : Option ℕ) (s : Sums) (a : ℕ) (o : Bool) (u : Sums) → length table ≡ 8 → 1 ≤ a → a ≤ 8 → at unopened table a ≡ account o (held u) → at unopened (added table firm s) a ≡ account o (held (plus (cond (is_firm a firm) s nothing) u))
added_at table None s a o u long low high e = grind arith
added_at table (Some firm) s a o u long low high e = grind (arith, at_put, put_past)

length_added : (table : List Account) (firm : Option ℕ) (s : Sums) → length (added table firm s) ≡ length table
length_added table None s = grind arith
length_added table (Some firm) s = length_put table firm _

module _ (h : List Event) (e : Event) (g left : Ledger) (i j : Item) (is : posting e ≡ Some (Sides i j)) (entered : left ≡ posted j (posted i g)) (t : Tells h g) where
  both_added : (a : ℕ) → 1 ≤ a → a ≤ 8 → at unopened (posted j (posted i g)).accounts a ≡ account (opened a h) (held (total_after a g.holders (Some (Sides i j)) (total a h)))
  both_added a low high =
      let one = added_at g.accounts (whose g.holders i.scope) i.sums a _ _ t.firms low high (t.accounts_are a low high) in
      let long = length_added g.accounts (whose g.holders i.scope) i.sums ∙ t.firms in
      added_at _ (whose g.holders j.scope) j.sums a _ _ long low high one

  pub sides_noted : Tells (e ∷ h) left
  sides_noted =
      rw entered (record {
        holders_are = rw is t.holders_are;
        firms = length_added _ (whose g.holders j.scope) j.sums ∙ length_added g.accounts (whose g.holders i.scope) i.sums ∙ t.firms;
        accounts_are = λ a low high. rw is (rw (sym t.holders_are) (both_added a low high));
      })
