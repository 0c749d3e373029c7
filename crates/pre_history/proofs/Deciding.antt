-- A list of events that a rule gives is the only one, where each event of it is.
use Rattle.std.proofs.Common.{◌≡◌, List, [], ◌∷◌, sym, ◌∙◌, ap, inl, inr}
use Rattle.pre_history.specs.History.{PlainEvent}
use Rattle.pre_history.specs.Rules.{OneOrNone, Each}

-- at most one thing has this property
abbrev pub IsOne : {X : Type 0} → (X → Type 0) → Type 0
IsOne {X} P = (x y : X) → P x → P y → x ≡ y

pub one_or_none : (Due : PlainEvent → Type 0) → IsOne Due → IsOne (OneOrNone Due)
one_or_none Due one es fs (inl (e, due, is)) (inl (f, due', is')) = is ∙ (ap (λ x. x ∷ []) (one e f due due') ∙ sym is')
one_or_none Due one es fs (inl (e, due, is)) (inr (none, is')) = absurd (none e due)
one_or_none Due one es fs (inr (none, is)) (inl (f, due', is')) = absurd (none f due')
one_or_none Due one es fs (inr (none, is)) (inr (none', is')) = is ∙ sym is'

pub each : {X : Type 0} (R : X → List PlainEvent → Type 0) → ((x : X) → IsOne (R x)) → (xs : List X) → IsOne (Each R xs)
each R one [] es fs h k = h ∙ sym k
each R one (x ∷ xs) es fs (front, rest, here, more, is) (front', rest', here', more', is') =
    is ∙ (cc (one x front front' here here', each R one xs rest rest' more more') ∙ sym is')
