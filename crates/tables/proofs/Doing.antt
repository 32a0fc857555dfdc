-- What a call does, once its refusal is known; and books that are equal part by part.
use Rattle.std.proofs.Common.{◌≡◌, Some, None, Ok, Err, Option, sym, ap}
use Rattle.terms.specs.Answers.{given, unless, Does}
use Rattle.market.specs.Book.{Book}

pub refused : {S X F : Type 0} (o : Option F) (f : F) (x : X) (before after : S) → o ≡ Some f → Does o x before after (Err f) before
refused o f x before after e = (ap (λ v. given v x) (sym e), ap (λ v. unless v before after) (sym e))

pub accepted : {S X F : Type 0} (o : Option F) (x : X) (before after : S) (y : X) (left : S) → o ≡ None → y ≡ x → left ≡ after → Does o x before after (Ok y) left
accepted {S} {X} {F} o x before after y left e ey el =
    let a : Ok y ≡ given o x = cc in
    let b : left ≡ unless o before after = cc in
    (a, b)

pub same_book : (a b : Book) → a.resting ≡ b.resting → a.slips ≡ b.slips → a.room ≡ b.room → a ≡ b
same_book a b p q r = λ i. record { resting = p i; slips = q i; room = r i }
