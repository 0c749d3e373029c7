-- What the events of a landing tell.
use Rattle.std.proofs.Common.{ℕ, ◌≡◌, ◌≢◌, ◌==◌, true, false, List, [], ◌∷◌, refl, arith, Option, Some, None}
use Rattle.std.proofs.lemmas.Bool.Decides.{nat_tests}
use Rattle.pre_history.specs.Scenario.{Scenario, arc, FrameOf}
use Rattle.pre_history.specs.History.{History}
use Rattle.pre_history.specs.Queries.{Arrivals, Begins, Ends, Entries}
use Rattle.pre_history.specs.Comings.{next_arc}
use Rattle.pre_history.specs.Rules.{arrival, delivered}
use Rattle.pre_incoming.specs.declared.landings.Landed.{Landed}
use Rattle.pre_incoming.specs.declared.landings.Landed.TheVariants as landed
use Rattle.pre_incoming.specs.Landings.{delivery, result_of}

-- deliveries are none of these
no_delivery : {X : Type 0} (read : History → List X) → ((t node f : ℕ) (octets : List ℕ) (next : Option ℕ) → read (delivered t node f octets next) ≡ []) → read [] ≡ []
    → (w : Scenario) (h : History) (t a : ℕ) (given : Landed) → read (delivery w h t a given) ≡ []
no_delivery read none empty w h t a (landed.Frame f) = none t (arc w a).to.0 f.0 (FrameOf w f.0) (next_arc w a f.0)
no_delivery read none empty w h t a landed.Lost = empty
no_delivery read none empty w h t a landed.Lldp = empty
no_delivery read none empty w h t a landed.Part = empty
no_delivery read none empty w h t a landed.Verify = empty
no_delivery read none empty w h t a landed.Respond = empty
no_delivery read none empty w h t a landed.Nothing = empty
no_delivery read none empty w h t a landed.Alias = empty

module _ (w : Scenario) (h : History) (t a : ℕ) where
  none_begins : (b s node f : ℕ) (octets : List ℕ) (next : Option ℕ) → Begins (delivered s node f octets next) b ≡ []
  none_begins b s node f octets None = refl
  none_begins b s node f octets (Some c) = refl

  pub no_begins : (b ord : ℕ) (given : Landed) → Begins (arrival t a ord (result_of given) ∷ delivery w h t a given) b ≡ []
  no_begins b ord given = no_delivery (λ es. Begins es b) (none_begins b) refl w h t a given

  none_ends : (b s node f : ℕ) (octets : List ℕ) (next : Option ℕ) → Ends (delivered s node f octets next) b ≡ []
  none_ends b s node f octets None = refl
  none_ends b s node f octets (Some c) = refl

  pub no_ends : (b ord : ℕ) (given : Landed) → Ends (arrival t a ord (result_of given) ∷ delivery w h t a given) b ≡ []
  no_ends b ord given = no_delivery (λ es. Ends es b) (none_ends b) refl w h t a given

  none_enter : (b p s node f : ℕ) (octets : List ℕ) (next : Option ℕ) → Entries (delivered s node f octets next) b p ≡ []
  none_enter b p s node f octets None = refl
  none_enter b p s node f octets (Some c) = refl

  pub no_entries : (b p ord : ℕ) (given : Landed) → Entries (arrival t a ord (result_of given) ∷ delivery w h t a given) b p ≡ []
  no_entries b p ord given = no_delivery (λ es. Entries es b p) (none_enter b p) refl w h t a given

  none_arrive : (b s node f : ℕ) (octets : List ℕ) (next : Option ℕ) → Arrivals (delivered s node f octets next) b ≡ []
  none_arrive b s node f octets None = refl
  none_arrive b s node f octets (Some c) = refl

  after_it : (b : ℕ) (given : Landed) → Arrivals (delivery w h t a given) b ≡ []
  after_it b given = no_delivery (λ es. Arrivals es b) (none_arrive b) refl w h t a given

  pub its_arrival : (ord : ℕ) (given : Landed) → Arrivals (arrival t a ord (result_of given) ∷ delivery w h t a given) a ≡ record { tick = t; arc = a; ord = ord; result = result_of given } ∷ []
  its_arrival ord given = let same : (a == a) ≡ true = grind (arith, nat_tests) in rw (same, after_it a given) refl

  pub no_other : (b ord : ℕ) (given : Landed) → a ≢ b → Arrivals (arrival t a ord (result_of given) ∷ delivery w h t a given) b ≡ []
  no_other b ord given other = let apart : (a == b) ≡ false = grind (arith, nat_tests) in rw apart (after_it b given)
