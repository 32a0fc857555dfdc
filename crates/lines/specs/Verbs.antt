-- The words that calls begin with, and those of scopes. Assumes nothing.
use Rattle.std.specs.Prelude.{◌≡◌, ℕ, List, [], ◌∷◌, Some, None, codes, Option, ◌≢◌}
use Rattle.std.specs.List.{find}
use Rattle.std.specs.Str.{bytes_eq}
use Rattle.terms.specs.declared.messages.ScopeNumber.{ScopeNumber}
use Rattle.terms.specs.declared.messages.ScopeNumber.TheVariants as scope
use Rattle.lines.specs.declared.verbs.Verb.{Verb}
use Rattle.lines.specs.declared.verbs.Verb.TheVariants.{Tick, Values, Open, Retire, Limit, Enter, Cancel, Strike, Take, Receipt, PutBack, Kill, Release}
use Rattle.lines.specs.declared.verbs.ScopeWord.{ScopeWord}
use Rattle.lines.specs.declared.verbs.ScopeWord.TheVariants.{Login, Acronym}

-- the one of some values whose word it is
abbrev pub worded : {X : Type 0} → (X → List ℕ) → List X → List ℕ → Option X
worded word xs w = find (λ x. bytes_eq w (word x)) xs

-- ---- calls

abbrev pub word_of : Verb → List ℕ
word_of Tick = codes "tick"
word_of Values = codes "values"
word_of Open = codes "open"
word_of Retire = codes "retire"
word_of Limit = codes "limit"
word_of Enter = codes "enter"
word_of Cancel = codes "cancel"
word_of Strike = codes "strike"
word_of Take = codes "take"
word_of Receipt = codes "receipt"
word_of PutBack = codes "putback"
word_of Kill = codes "kill"
word_of Release = codes "release"

abbrev pub verbs : List Verb
verbs = Tick ∷ Values ∷ Open ∷ Retire ∷ Limit ∷ Enter ∷ Cancel ∷ Strike ∷ Take ∷ Receipt ∷ PutBack ∷ Kill ∷ Release ∷ []

abbrev pub verb_of : List ℕ → Option Verb
verb_of = worded word_of verbs

-- A word names the call whose word it is, and else none.
abbrev pub Names : List ℕ → Option Verb → Type 0
Names w None = (v : Verb) → w ≢ word_of v
Names w (Some v) = w ≡ word_of v

-- ---- scopes

abbrev pub scope_word : ScopeWord → List ℕ
scope_word Login = codes "login"
scope_word Acronym = codes "acronym"

abbrev pub scope_of : List ℕ → Option ScopeWord
scope_of = worded scope_word (Login ∷ Acronym ∷ [])

abbrev pub scoped : ScopeWord → ℕ → ScopeNumber
scoped Login n = scope.Login n
scoped Acronym n = scope.Acronym n
