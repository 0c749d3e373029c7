-- For which accepted offers a meter stands, and what it says of one more.
use Rattle.std.specs.Prelude.{◌≡◌, ℕ, List, [], ◌∷◌, ◌++◌, length}
use Rattle.pre_curve.specs.Windows.{Offer, Obeys, ObeysAt, BreaksAt, InOrder, last_tick}
use Rattle.pre_curve.specs.Levels.{IsLevel}
use Rattle.pre_curve.specs.declared.meter.Meter.{Meter}

pub record Stands (meter : Meter) (accepted : List Offer) : Type 0 where
  pub order : InOrder accepted
  pub latest : meter.latest.0 ≡ last_tick accepted
  pub level : IsLevel meter.curve.rate accepted meter.latest.0 meter.level
  pub obeys : Obeys accepted meter.curve

-- the accepted offers and one more
abbrev pub with_offer : List Offer → ℕ → ℕ → List Offer
with_offer accepted tick octets = accepted ++ record { tick = tick; octets = octets } ∷ []

-- every window that ends with the new offer obeys
abbrev pub EndsObeying : Meter → ℕ → ℕ → Type 0
EndsObeying meter tick octets = (accepted : List Offer) → Stands meter accepted → ObeysAt (with_offer accepted tick octets) meter.curve (length accepted)

-- some window that ends with the new offer breaks the curve
abbrev pub EndsBreaking : Meter → ℕ → ℕ → Type 0
EndsBreaking meter tick octets = (accepted : List Offer) → Stands meter accepted → BreaksAt (with_offer accepted tick octets) meter.curve (length accepted)

-- the new offer is accepted beside the others
abbrev pub Accepts : Meter → Meter → ℕ → ℕ → Type 0
Accepts old new tick octets = (accepted : List Offer) → Stands old accepted → Stands new (with_offer accepted tick octets)
