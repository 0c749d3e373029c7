-- What begins on an arc that is free: the first item of the start rule that is there.
use Rattle.std.specs.Prelude.{ℕ, ◌+◌, ◌≡◌, ◌<◌, Bool, List, [], ◌∷◌, ◌++◌, length, Option, Some, None}
use Rattle.std.specs.Bool.{Decides}
use Rattle.pre_topo.specs.declared.arcs.Arc.{Arc}
use Rattle.pre_topo.specs.declared.arcs.Mode.TheVariants as mode
use Rattle.pre_history.specs.Scenario.{Scenario, arc}
use Rattle.pre_history.specs.Moments.{Phase}
use Rattle.pre_history.specs.History.{PlainEvent, History}
use Rattle.pre_history.specs.Queries.{Begins, Occupied}
use Rattle.pre_history.specs.LinkState.{Active}
use Rattle.pre_history.specs.Starts.{Item, Choice, place, There, StartRule}
use Rattle.pre_bridge.specs.Inside.{Entry}
use Rattle.pre_links.specs.declared.partners.Partner.{Partner}
use Rattle.pre_links.specs.Standing.{LinkStands}
use Rattle.pre_outgoing.specs.declared.outgoing.Begun.{Begun}
use Rattle.pre_sim.specs.declared.lanes.Lane.{Lane}
use Rattle.pre_sim.specs.Stages.{untouched, entered}
use Rattle.pre_sim.specs.Stands.{LaneStands}
use Rattle.pre_sim.specs.Parts.{LegalAt, HearsOf, its_place}

-- what began, as the start rule says it
abbrev pub choice_of : Begun → Choice
choice_of b = record { kind = b.kind; what = b.what; from = b.from }

abbrev pub begin_event : (t a : ℕ) → Begun → PlainEvent
begin_event t a b = PlainEvent.begin (record { tick = t; arc = a; ord = b.ord; kind = b.kind; what = b.what; from = b.from })

-- None of the items at places below n is there.
abbrev pub NoneBelow : Scenario → History → (a t n : ℕ) → Type 0
NoneBelow w h a t n = (i : Item) (c : Choice) → place i < n → ¬ There w h a t i c

module _ (w : Scenario) (t a : ℕ) (partner : Partner) (from to : ℕ) (old new : Lane) where
  -- Where none of the items at places below `from` is there: of those below `to` none is there either, and the lane stays; or
  -- this is what begins, and the lane stands for it.
  abbrev pub StartsAs : Option Begun → (h : History) (items : List Entry) → Type 0
  StartsAs None h items = NoneBelow w h a t to × (new ≡ old)
  StartsAs (Some b) h items =
      StartRule w h a t (choice_of b) × (b.ord ≡ length (Begins h a)) × LaneStands w (h ++ begin_event t a b ∷ []) a (untouched (t + 1)) new items

  abbrev pub Starts : Option Begun → Type 0
  Starts begun = (h : History) (items : List Entry) → LegalAt w t (its_place w (Phase.starts a)) h → HearsOf w h a (Some partner)
      → LaneStands w h a (entered t) old items → ¬ Occupied w h a t → NoneBelow w h a t from → StartsAs begun h items

-- The answer is whether the arc is active, as its link says where it negotiates.
abbrev pub IsActiveBy : Arc → Lane → Bool → Type 0
IsActiveBy link lane active =
    (w : Scenario) (h : History) (a t : ℕ) → arc w a ≡ link → (link.mode ≡ mode.Negotiate → LinkStands w h a (t + 1) lane.link) → Decides active (Active w h a t)
