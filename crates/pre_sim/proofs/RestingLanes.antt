-- What the parts of an arc say of when something of it is due.
use Rattle.std.proofs.Common.{ℕ, ◌≡◌, ◌+◌, ◌*◌, ◌<◌, ◌≤◌, false, refl, sym, ◌∙◌, ap, inl, inr, arith, subst, List, length, Option, Some, None}
use Rattle.std.specs.Prelude.{IsSome, option_map, slice_get}
use Rattle.std.proofs.lemmas.Bool.{cases_lt, false≢true}
use Rattle.pre_topo.specs.Arcs.{reverse_of}
use Rattle.pre_topo.specs.declared.arcs.Arc.{Arc}
use Rattle.pre_topo.specs.declared.network.Network.{Network}
use Rattle.pre_send.specs.declared.going.Going.{Going}
use Rattle.pre_send.specs.declared.senders.Sender.{Sender}
use Rattle.pre_send.specs.Tasks.{task_size}
use Rattle.pre_send.specs.Endings.{plans_end}
use Rattle.pre_send.specs.Senders.{is_free, is_free_with}
use Rattle.pre_history.specs.Scenario.{Scenario, arc, no_arc}
use Rattle.pre_history.proofs.Lists.{one_at}
use Rattle.pre_sim.specs.declared.lanes.Lane.{Lane}
use Rattle.pre_sim.specs.Resting.{LaneRests, RestsAmong}
use Rattle.pre_sim.proofs.Lists.{read_at, within}

-- While an mPacket is under way its arc isn't free.
pub busy_sender : (s : Sender) (u : ℕ) → IsSome (plans_end s) → is_free s u ≡ false
unfolding is_free plans_end
busy_sender s u going = go s.going going
  where
    go : (g : Option Going) → IsSome (option_map (λ x. x.began + s.cost * (8 + task_size x.task)) g) → is_free_with g s.cost s.last u ≡ false
    go None some = absurd (false≢true some)
    go (Some g) some = refl

-- Nothing of the first n arcs is due before the tick, at a tick after this one.
abbrev pub AreResting : Network → List Lane → (now n due : ℕ) → Type 0
AreResting net lanes now n due =
    (w : Scenario) (a : ℕ) (lane : Lane) (u : ℕ) → w.net ≡ net → a < n → slice_get lanes a ≡ Some lane → now < u → u < due → RestsAmong w u a lane lanes

-- nor of one more
pub one_more : (net : Network) (lanes : List Lane) (now n before its due : ℕ) (link : Arc) (lane other : Lane) → slice_get net.arcs n ≡ Some link → slice_get lanes n ≡ Some lane
    → slice_get lanes (reverse_of n) ≡ Some other → AreResting net lanes now n before
    → ((w : Scenario) (a u : ℕ) → arc w a ≡ link → w.net.timing.interval ≡ net.timing.interval → now < u → u < its → LaneRests w u a other.partner lane)
    → due ≤ before → due ≤ its → AreResting net lanes now (n + 1) due
one_more net lanes now n before its due link lane other found here there so_far rests le_before le_its w a l u same lt at later early = elim (cases_lt a n) [
  | inl less ↦ so_far w a l u same less at later (omega (arith, early, le_before))
  | inr past ↦
      let is : a ≡ n = omega (arith, lt, past) in
      let one : lane ≡ l = one_at lanes n lane l here (subst (λ k. slice_get lanes k ≡ Some l) is at) in
      let its_arc : arc w n ≡ link = read_at w.net.arcs n link no_arc (subst (λ (x : Network). slice_get x.arcs n ≡ Some link) (sym same) found) in (
        other,
        subst (λ k. slice_get lanes (reverse_of k) ≡ Some other) (sym is) there,
        subst (λ (x : Lane). LaneRests w u a other.partner x) one
            (rests w a u (ap (arc w) is ∙ its_arc) (ap (λ (x : Network). x.timing.interval) same) later (omega (arith, early, le_its))),
      )
]

-- nor of any, where these are all
pub all_resting : (net : Network) (lanes : List Lane) (now n due : ℕ) → length lanes ≤ n → AreResting net lanes now n due
    → (w : Scenario) (a : ℕ) (lane : Lane) (u : ℕ) → w.net ≡ net → slice_get lanes a ≡ Some lane → now < u → u < due → RestsAmong w u a lane lanes
all_resting net lanes now n due many rests w a lane u same at later early = let lt = within lanes a lane at in rests w a lane u same (omega (arith, lt, many)) at later early
