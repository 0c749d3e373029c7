-- Whether an arc is active, and whether a verify is wanted, by the verifies begun and the responds told.
use Rattle.std.proofs.Common.{ℕ, ◌≡◌, ◌<◌, ◌≤◌, nat_lt, Bool, true, false, List, [], ◌∷◌, length, refl, sym, ◌∙◌, ap, inl, inr, arith, subst, Some, map, filter}
use Rattle.std.specs.Prelude.{◌↔◌, slice_get, Any}
use Rattle.std.specs.Bool.{Decides}
use Rattle.std.specs.List.{AllByRecursion as Every}
use Rattle.std.proofs.lemmas.Bool.{cases_lt}
use Rattle.pre_topo.specs.declared.arcs.Mode.TheVariants as mode
use Rattle.pre_topo.specs.Arcs.{reverse_of}
use Rattle.pre_lldp.specs.LinkState as link
use Rattle.pre_verify.specs.Calls.{is_going}
use Rattle.pre_history.specs.declared.events.Outcome.{Outcome}
use Rattle.pre_history.specs.declared.events.Outcome.TheVariants as outcome
use Rattle.pre_history.specs.Scenario.{Scenario, arc}
use Rattle.pre_history.specs.History.{History, Begin, Arrive}
use Rattle.pre_history.specs.Selected.{is_respond_result, is_verify}
use Rattle.pre_history.specs.Queries.{Arrivals, Begins, Ends, Occupied, Packet, Packets, PacketsBefore}
use Rattle.pre_history.specs.LinkState.{Active, ActiveIn, Good, Received, RespondTicks, VerifiesBefore, VerifyWanted}
use Rattle.pre_history.specs.Ordered.{IsOrdered}
use Rattle.pre_history.proofs.Lists.{any_at, every_placed, found_at, there, within}
use Rattle.pre_history.proofs.Free.{free_end}
use Rattle.pre_history.proofs.LaterEnds.{packet_back}
use Rattle.pre_history.proofs.Unread.{respond_back, respond_there, verified_like}
use Rattle.pre_history.proofs.Known.{verified_computed, wanted_computed}
use Rattle.pre_links.specs.Standing.{Verifies, verify_in}
use Rattle.pre_links.proofs.Elsewhere.{verifies_by}
use Rattle.pre_links.proofs.Verifying.{all_ended}
use Rattle.pre_links.proofs.Numbers.{is_before}

filter_all : {X : Type 0} (test : X → Bool) (xs : List X) → Every (λ x. test x ≡ true) xs → filter test xs ≡ xs
filter_all test [] all = refl
filter_all test (x ∷ xs) (here, more) = rw here (ap (λ ys. x ∷ ys) (filter_all test xs more))

pub respond_is : (r : Outcome) → is_respond_result r ≡ true → r ≡ outcome.Respond
respond_is outcome.Respond is = refl
respond_is outcome.Lldp is = absurd (cc is)
respond_is outcome.Frame is = absurd (cc is)
respond_is outcome.Part is = absurd (cc is)
respond_is outcome.Verify is = absurd (cc is)
respond_is outcome.Lost is = absurd (cc is)
respond_is outcome.Nothing is = absurd (cc is)

-- where all mPackets began before the tick, the verifies are those begun before it
pub verifies_before : (h : History) (a t : ℕ) → ((i : ℕ) (b : Begin) → slice_get (Begins h a) i ≡ Some b → b.tick < t) → VerifiesBefore h a t ≡ Verifies h a
verifies_before h a t early =
    let all : PacketsBefore h a t ≡ Packets h a
    = filter_all (λ (p : Packet). nat_lt p.begin.tick t) (Packets h a) (every_placed _ (Packets h a) (λ i p at.
    let b = packet_back h a i p at in
    let same : b.0 ≡ p.begin = ap (λ (p : Packet). p.begin) b.2 in
    subst (λ (c : Begin). nat_lt c.tick t ≡ true) same (is_before b.0.tick t (early i b.0 b.1)))) in
    ap (λ ps. map verify_in (filter (λ (p : Packet). is_verify p.begin.kind) ps)) all

module _ (w : Scenario) (h : History) (a t : ℕ) (good : ℕ → Bool) (rs : List ℕ) (early : (i : ℕ) (b : Begin) → slice_get (Begins h a) i ≡ Some b → b.tick < t)
    (tests : (i : ℕ) → i ≤ t → Decides (good i) (Good w h a i)) (responds : (r : ℕ) → r ≤ t → Any (λ x. x ≡ r) rs ↔ Received h a outcome.Respond r) where
  told_received : (i r : ℕ) → slice_get rs i ≡ Some r → r ≤ t → (j : ℕ) × (slice_get (RespondTicks h a) j ≡ Some r)
  told_received i r at by =
      let (k, x, lt, is, (result, tick)) = (responds r by).0 (any_at (λ x. x ≡ r) rs i r at refl) in
      let o = respond_there h a k x (found_at (Arrivals h (reverse_of a)) k x lt is) (ap is_respond_result result) in
      (o.0, o.1 ∙ ap Some tick)

  received_told : (i r : ℕ) → slice_get (RespondTicks h a) i ≡ Some r → r ≤ t → (j : ℕ) × (slice_get rs j ≡ Some r)
  received_told i r at by =
      let o = respond_back h a i r at in
      let (k, x, lt, is, same) = (responds r by).1 (any_at (λ (x : Arrive). (x.result ≡ outcome.Respond) × (x.tick ≡ r)) (Arrivals h (reverse_of a)) o.0 o.1 o.2 (respond_is o.1.result o.3, o.4)) in
      (k, found_at rs k x lt is ∙ ap Some same)

  verified_from : link.Verified (link.AtTrue good) (Verifies h a) rs t → link.Verified (Good w h a) (VerifiesBefore h a t) (RespondTicks h a) t
  verified_from v =
      subst (λ vs. link.Verified (Good w h a) vs (RespondTicks h a) t) (sym (verifies_before h a t early))
      (verified_like (link.AtTrue good) (Good w h a) (Verifies h a) (Verifies h a) rs (RespondTicks h a) t (λ i by. (tests i by).0) (λ i v at lt. (i, v, at, refl)) told_received v)

  verified_to : link.Verified (Good w h a) (VerifiesBefore h a t) (RespondTicks h a) t → link.Verified (link.AtTrue good) (Verifies h a) rs t
  verified_to v =
      verified_like (Good w h a) (link.AtTrue good) (Verifies h a) (Verifies h a) (RespondTicks h a) rs t (λ i by. (tests i by).1) (λ i v at lt. (i, v, at, refl)) received_told
      (subst (λ vs. link.Verified (Good w h a) vs (RespondTicks h a) t) (verifies_before h a t early) v)

  pub active_told : (arc w a).mode ≡ mode.Negotiate → Decides (link.is_verified good (Verifies h a) rs t) (Active w h a t)
  unfolding Active
  active_told talks =
      subst (λ m. Decides (link.is_verified good (Verifies h a) rs t) (ActiveIn w h a m t)) (sym talks) (
        (λ is. verified_from ((verified_computed good (Verifies h a) rs t).1 is)),
        (λ v. (verified_computed good (Verifies h a) rs t).0 (verified_to v)),
      )

  since_from : (u : ℕ) → link.GoodSince (link.AtTrue good) u t → link.GoodSince (Good w h a) u t
  since_from u ((le, all), least) = ((le, λ i from by. (tests i by).0 (all i from by)), λ v other. least v (other.0, λ i from by. (tests i by).1 (other.1 i from by)))

  since_to : (u : ℕ) → link.GoodSince (Good w h a) u t → link.GoodSince (link.AtTrue good) u t
  since_to u ((le, all), least) = ((le, λ i from by. (tests i by).1 (all i from by)), λ v other. least v (other.0, λ i from by. (tests i by).0 (other.1 i from by)))

  wanted_from : link.VerifyWanted (link.AtTrue good) (Verifies h a) rs w.net.timing.verify t → link.VerifyWanted (Good w h a) (Verifies h a) (RespondTicks h a) w.net.timing.verify t
  wanted_from (unverified, (u, since, few, over)) =
      ((λ v. unverified (verified_to (subst (λ vs. link.Verified (Good w h a) vs (RespondTicks h a) t) (sym (verifies_before h a t early)) v))), (u, since_from u since, few, over))

  wanted_to : link.VerifyWanted (Good w h a) (Verifies h a) (RespondTicks h a) w.net.timing.verify t → link.VerifyWanted (link.AtTrue good) (Verifies h a) rs w.net.timing.verify t
  wanted_to (unverified, (u, since, few, over)) =
      ((λ v. unverified (subst (λ vs. link.Verified (Good w h a) vs (RespondTicks h a) t) (verifies_before h a t early) (verified_from v))), (u, since_to u since, few, over))

  pub wanted_told : Decides (link.is_verify_wanted good (Verifies h a) rs w.net.timing.verify t) (VerifyWanted w h a t)
  wanted_told = (
    (λ is. subst (λ vs. link.VerifyWanted (Good w h a) vs (RespondTicks h a) w.net.timing.verify t) (sym (verifies_before h a t early))
        (wanted_from ((wanted_computed good (Verifies h a) rs w.net.timing.verify t).1 is))),
    (λ v. (wanted_computed good (Verifies h a) rs w.net.timing.verify t).0
        (wanted_to (subst (λ vs. link.VerifyWanted (Good w h a) vs (RespondTicks h a) w.net.timing.verify t) (verifies_before h a t early) v))),
  )

-- on an arc that isn't occupied no verify is under way
pub none_going : (w : Scenario) (h : History) (a t : ℕ) → IsOrdered w h a → ((i : ℕ) (b : Begin) → slice_get (Begins h a) i ≡ Some b → b.tick < t) → ¬ Occupied w h a t
    → is_going (link.last_verify (Verifies h a)) ≡ false
none_going w h a t o early free = ap (λ vs. is_going (link.last_verify vs)) (verifies_by h a) ∙ all_ended (Begins h a) (Ends h a) o.begin_places o.end_places all
  where
    all : length (Begins h a) ≤ length (Ends h a)
    all = elim (cases_lt (length (Ends h a)) (length (Begins h a))) [
      | inr done ↦ done
      | inl more ↦
          let b = there (Begins h a) (length (Ends h a)) more in
          let e = free_end w h a t (length (Ends h a)) b.0 o.end_places (o.begin_places (length (Ends h a)) b.0 b.1) b.1 (early (length (Ends h a)) b.0 b.1) free in
          let lt = within (Ends h a) (length (Ends h a)) e.0 e.1 in
          absurd (omega (arith, lt))
    ]
