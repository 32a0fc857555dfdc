-- The name at a place, or else the word for any. Assumes nothing.
use Rattle.std.proofs.Common.{◌≡◌, ℕ, List, get_or, Option, Bor, sym, ap, ◌∙◌, arith}
use Rattle.std.proofs.Math.ListN.{get_or-map}
use Rattle.std.specs.Option.{unwrap_or, option_copied}
use Rattle.lines.specs.Names.{texts, name_at}
use Rattle.lines.proofs.names.field_name.Goals as goal

name_found : (names : List (Bor (List ℕ))) (k : ℕ) (got : Option (Bor (Bor (List ℕ)))) (name : Option (Bor (List ℕ))) (any found : Bor (List ℕ)) → ((d : Bor (List ℕ)) → unwrap_or (option_copied got) d ≡ get_or names k d) → name ≡ option_copied got → found ≡ unwrap_or name any → found.now ≡ get_or (texts names) k any.now
name_found names k got name any found at copied is =
    let text : Bor (List ℕ) → List ℕ = λ t. t.now in
    ap text (is ∙ ap (λ o. unwrap_or o any) copied ∙ at any) ∙ sym (get_or-map text names k any)

pub returns : goal.returns
returns c =
    name_found c.field_names.result.now c.args.field c.get.result c.copied.result _ c.unwrap_or.result (c.get.ensures.lookup.4 (omega arith)) c.copied.ensures c.unwrap_or.ensures ∙ ap (λ names. name_at names c.args.field) c.field_names.ensures
