-- The sends of a tick, one after another.
use Rattle.std.proofs.Common.{ℕ, suc, ◌≡◌, ◌≢◌, ◌+◌, ◌<◌, ◌≤◌, Bool, true, false, List, [], ◌∷◌, ◌++◌, length, refl, sym, ◌∙◌, ap, inl, inr, arith, subst}
use Rattle.std.specs.Prelude.{slice_index_or, Contains, ◌==◌}
use Rattle.std.proofs.lemmas.Bool.{cases_lt}
use Rattle.std.proofs.lemmas.Bool.Decides.{nat_tests}
use Rattle.pre_script.specs.declared.scripts.SendLine.{SendLine}
use Rattle.pre_history.specs.Scenario.{Scenario, send, no_send}
use Rattle.pre_base.specs.declared.numbers.FrameNo.{FrameNo}
use Rattle.pre_history.specs.History.{History}
use Rattle.pre_history.specs.Comings.{hops, first_arc}
use Rattle.pre_history.proofs.Routes.{first_on}
use Rattle.pre_laws.specs.Routed.{IsRouted}
use Rattle.pre_bridge.specs.declared.relays.Relay.{Relay}
use Rattle.pre_bridge.specs.Inside.{inside}
use Rattle.pre_bridge.specs.Relays.{Stands}
use Rattle.pre_sim.specs.Keeps.{GoesOver, Keeps, IsKept}
use Rattle.pre_sim.specs.declared.lanes.Lane.{Lane}
use Rattle.pre_sim.specs.declared.ticks.Progress.{Progress}
use Rattle.pre_sim.specs.Parts.{SendsFront}
use Rattle.pre_sim.specs.Sends.{ComesPart, ComesFront, KeepsSame, sent_frame, sent_frames, drops_of}
use Rattle.pre_sim.proofs.EntriesRun.{come_then, front_then, comes_same, front_same}

-- a send's frame goes over the first arc of its route
pub goes_first : (w : Scenario) → IsRouted w → (number a : ℕ) (f : FrameNo) → number < length w.script.sends → a ≡ first_arc w number → f.0 ≡ number → GoesOver w f a
goes_first w routed number a f known first is =
    let over : Contains (hops w number) (first_arc w number) = first_on (hops w number) (routed.routes number known) in
    subst (λ n. Contains (hops w n) a) (sym is) (subst (Contains (hops w number)) (sym first) over)

-- one more was dropped, or none
pub more_drops : (entered : Bool) (n : ℕ) → (entered ≡ true → n ≡ 0) → (entered ≡ false → n ≡ 1) → n ≡ drops_of entered
more_drops true n none one = none refl
more_drops false n none one = one refl

pub sums_up : (a b c n m : ℕ) → a ≡ b + c → n ≡ m → a + n ≡ b + (c + m)
sums_up a b c n m p q = omega (arith, p, q)

-- what is kept, where a frame came to its ring
pub kept_on : (w : Scenario) (t : ℕ) (old new : Progress) (lanes : List Lane) → IsKept w t old → new.relay ≡ old.relay → new.lanes.items ≡ lanes
    → KeepsSame w old.store new.store old.lanes.items lanes → IsKept w t new
kept_on w t old new lanes kept relay are same = record {
  calls = kept.calls;
  stands = subst (λ (r : Relay). Stands r w.net w.streams kept.calls) (sym relay) kept.stands;
  latest = subst (λ (r : Relay). r.latest.0 ≤ t) (sym relay) kept.latest;
  keeps = subst (λ (ls : List Lane). Keeps w new.store ls (inside w.net w.streams kept.calls) []) (sym are) (same (inside w.net w.streams kept.calls) kept.keeps);
}

-- the tick of the next send
pub is_now : (w : Scenario) (t k : ℕ) (lines : List SendLine) → lines ≡ w.script.sends → true ≡ ((slice_index_or lines k no_send).send.tick.0 == t) → (send w k).send.tick.0 ≡ t
is_now w t k lines same is =
    let test : true ≡ ((send w k).send.tick.0 == t) = subst (λ (ls : List SendLine). true ≡ ((slice_index_or ls k no_send).send.tick.0 == t)) same is in
    grind (arith, nat_tests)

pub is_not_now : (w : Scenario) (t k : ℕ) (lines : List SendLine) → lines ≡ w.script.sends → false ≡ ((slice_index_or lines k no_send).send.tick.0 == t) → (send w k).send.tick.0 ≢ t
is_not_now w t k lines same is =
    let test : false ≡ ((send w k).send.tick.0 == t) = subst (λ (ls : List SendLine). false ≡ ((slice_index_or ls k no_send).send.tick.0 == t)) same is in
    grind (arith, nat_tests)

module _ (w : Scenario) (t from : ℕ) (old : List Lane) (count : ℕ) (mid : List Lane) (lost : ℕ) (es : History) (k : ℕ) (at : k ≡ from + count)
    (so_far : ComesPart w t (sent_frames w from count) old mid lost es) where
  next : sent_frames w from count ++ sent_frame w k ∷ [] ≡ sent_frames w from (count + 1)
  next = let more : count + 1 ≡ suc count = omega arith in ap (λ n. sent_frames w from count ++ sent_frame w n ∷ []) at ∙ ap (sent_frames w from) (sym more)

  -- one more
  pub one_more_send : (new : List Lane) (dropped : ℕ) (fs : History) → ComesPart w t (sent_frame w k ∷ []) mid new dropped fs
      → ComesPart w t (sent_frames w from (count + 1)) old new (lost + dropped) (es ++ fs)
  one_more_send new dropped fs part =
      comes_same w t old new (sent_frames w from count ++ sent_frame w k ∷ []) (sent_frames w from (count + 1)) (lost + dropped) (es ++ fs) next
      (come_then w t old (sent_frames w from count) (sent_frame w k ∷ []) mid lost es so_far new dropped fs part)

  pub one_more_front : (fs : History) → ComesFront w t (sent_frame w k ∷ []) mid fs → ComesFront w t (sent_frames w from (count + 1)) old (es ++ fs)
  one_more_front fs front =
      front_same w t old (sent_frames w from count ++ sent_frame w k ∷ []) (sent_frames w from (count + 1)) (es ++ fs) next
      (front_then w t old (sent_frames w from count) (sent_frame w k ∷ []) mid lost es so_far fs front)

-- they are all of this tick
pub one_more_now : (w : Scenario) (t from n : ℕ) → ((k : ℕ) → from ≤ k → k < n → (send w k).send.tick.0 ≡ t) → (send w n).send.tick.0 ≡ t → (k : ℕ) → from ≤ k → k < n + 1 → (send w k).send.tick.0 ≡ t
one_more_now w t from n so_far is k le lt = elim (cases_lt k n) [
  | inl earlier ↦ so_far k le earlier
  | inr last ↦ let same : n ≡ k = omega (arith, last, lt) in subst (λ j. (send w j).send.tick.0 ≡ t) same is
]

pub sends_front : (w : Scenario) (t : ℕ) (old : Progress) (count : ℕ) (es : History) → old.sent + count ≤ length w.script.sends
    → ((k : ℕ) → old.sent ≤ k → k < old.sent + count → (send w k).send.tick.0 ≡ t)
    → ComesFront w t (sent_frames w old.sent count) old.lanes.items es → SendsFront w t old es
sends_front w t old count es within now front = (count, within, now, front)
