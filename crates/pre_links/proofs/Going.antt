-- A link as something begins or ends on its arc.
use Rattle.std.proofs.Common.{ℕ, ◌≡◌, ◌<◌, List, ◌++◌, length, sym, ◌∙◌, arith, subst, Option, Some, Bool}
use Rattle.std.specs.Prelude.{◌↔◌, slice_get, option_map, Any}
use Rattle.std.specs.Bool.{Decides}
use Rattle.std.proofs.lemmas.List.Elements.{filter_map-append}
use Rattle.pre_mpacket.specs.declared.packets.Kind.TheVariants as kind
use Rattle.pre_verify.specs.Calls.{Call, good_of, verifies_of, responds_of}
use Rattle.pre_verify.specs.Verifiers as verifiers
use Rattle.pre_history.specs.declared.events.Outcome.TheVariants as outcome
use Rattle.pre_history.specs.declared.events.What.TheVariants as what
use Rattle.pre_history.specs.Scenario.{Scenario}
use Rattle.pre_history.specs.History.{History, Begin}
use Rattle.pre_history.specs.Selected.{begin_on}
use Rattle.pre_history.specs.Queries.{Begins}
use Rattle.pre_history.specs.LinkState.{Began, Received, ActiveBefore, Good}
use Rattle.pre_history.specs.Legal.{LegalUpTo}
use Rattle.pre_history.specs.Placed.{AllWithin}
use Rattle.pre_history.proofs.Zips.{any_stays}
use Rattle.pre_links.specs.Listening.{IsLatest}
use Rattle.pre_links.specs.Standing.{AreOver, LinkStands, LldpDue, Verifies}
use Rattle.pre_links.specs.declared.links.Link.{Link}
use Rattle.pre_links.proofs.Latest.{latest_like}
use Rattle.pre_links.proofs.Staying.{decides_like, good_on, received_on, active_before_on, wanting_on}

module _ (w : Scenario) (m n : ℕ) (h es : History) (a t : ℕ) (a_lt : a < length w.net.arcs) (legal : LegalUpTo w m h) (within : AllWithin (length w.net.arcs) m n es) (past : AreOver w t m) where
  none_begins : (P : Begin → Type 0) → ((j : ℕ) (b : Begin) → slice_get (Begins es a) j ≡ Some b → ¬ P b) → Any P (Begins (h ++ es) a) ↔ Any P (Begins h a)
  none_begins P none = any_stays P (Begins (h ++ es) a) (Begins h a) (Begins es a) (filter_map-append (begin_on a) h es) none

  -- no LLDP frame begins
  pub lldp_kept : (wants : Bool) → ((j : ℕ) (b : Begin) → slice_get (Begins es a) j ≡ Some b → ¬ (b.what ≡ what.Lldp)) → Decides wants (LldpDue w h a t) → Decides wants (LldpDue w (h ++ es) a t)
  lldp_kept wants none decides =
      decides_like wants decides (
        (λ (x, lt, cause, since). (
          x,
          lt,
          (wanting_on w m n h es legal within a a_lt x (λ i le. past i (omega (arith, le, lt)))).0 cause,
          λ i from began. since i from ((none_begins (λ b. (b.what ≡ what.Lldp) × (b.tick ≡ i)) (λ j b at p. none j b at p.0)).1 began),
        )),
        (λ (x, lt, cause, since). (
          x,
          lt,
          (wanting_on w m n h es legal within a a_lt x (λ i le. past i (omega (arith, le, lt)))).1 cause,
          λ i from began. since i from ((none_begins (λ b. (b.what ≡ what.Lldp) × (b.tick ≡ i)) (λ j b at p. none j b at p.0)).0 began),
        )),
      )

  -- no respond begins
  pub responded_kept : (o : Option ℕ) → ((j : ℕ) (b : Begin) → slice_get (Begins es a) j ≡ Some b → ¬ (b.kind ≡ kind.Respond)) → IsLatest (Began h a kind.Respond) o
      → IsLatest (Began (h ++ es) a kind.Respond) o
  responded_kept o none latest =
      latest_like (Began h a kind.Respond) (Began (h ++ es) a kind.Respond) o (λ i. none_begins (λ b. (b.kind ≡ kind.Respond) × (b.tick ≡ i)) (λ j b at p. none j b at p.0)) latest

  pub goes_on : (state next : Link) (s : LinkStands w h a t state) (calls : List Call) → verifiers.Stands next.verifier w.net.timing.verify calls
      → ((i : ℕ) → good_of calls i ≡ good_of s.calls i) → verifies_of calls ≡ Verifies (h ++ es) a → responds_of calls ≡ responds_of s.calls
      → next.setting ≡ state.setting → next.active ≡ state.active → Decides next.wants_lldp (LldpDue w (h ++ es) a t)
      → IsLatest (Began (h ++ es) a kind.Respond) (option_map (λ t. t.0) next.responded) → LinkStands w (h ++ es) a t next
  goes_on state next s calls stands good verifies responds setting active lldp responded = record {
    calls = calls;
    stands = stands;
    good = λ i lt. subst (λ b. Decides b (Good w (h ++ es) a i)) (sym (good i)) (decides_like _ (s.good i lt) (good_on w m n h es legal within a a_lt i (past i lt)));
    verifies = verifies;
    responds = λ r. subst (λ rs. Any (λ x. x ≡ r) rs ↔ ((r < t) × Received (h ++ es) a outcome.Respond r)) (sym responds) (
      (λ any. let p = (s.responds r).0 any in (p.0, (received_on w m n h es legal within a a_lt r (past r p.0) outcome.Respond).1 p.1)),
      (λ p. (s.responds r).1 (p.0, (received_on w m n h es legal within a a_lt r (past r p.0) outcome.Respond).0 p.1)),
    );
    setting = setting ∙ s.setting;
    active = subst (λ b. Decides b (ActiveBefore w (h ++ es) a t)) (sym active) (decides_like _ s.active (active_before_on w m n h es legal within a a_lt t past));
    lldp = lldp;
    responded = responded;
  }
