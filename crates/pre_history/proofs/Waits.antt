-- How long an express frame at the front of its ring waits: a first use of the rules read off a whole history.
use Rattle.std.proofs.Common.{ℕ, ◌≡◌, ◌⊎◌, ◌+◌, ◌*◌, ◌<◌, ◌≤◌, length, refl, sym, ◌∙◌, ap, inl, inr, arith, subst, Option, Some}
use Rattle.std.specs.Prelude.{slice_get, MatchOption, ⊤}
use Rattle.std.proofs.lemmas.Bool.{cases_lt}
use Rattle.pre_mpacket.specs.declared.packets.Kind.TheVariants as kind
use Rattle.pre_history.specs.Scenario.{Scenario, arc}
use Rattle.pre_history.specs.Moments.{moments}
use Rattle.pre_history.specs.History.{History, Begin, Ended}
use Rattle.pre_history.specs.Queries.{Begins, Ends, Packet, Packets, end_of, Occupied}
use Rattle.pre_history.specs.Starts.{Item, place, ExpressWaits, IsFront, StartRule, SizeOf, whole_frame}
use Rattle.pre_history.specs.Placed.{number}
use Rattle.pre_history.specs.Legal.{LegalUpTo}
use Rattle.pre_history.proofs.Lists.{found_at}
use Rattle.pre_history.proofs.Free.{first_numbered}
use Rattle.pre_history.proofs.LaterEnds.{packet_back}
use Rattle.pre_history.proofs.InOrder.{steady}
use Rattle.pre_history.specs.Read.{HasBegun}
use Rattle.pre_history.proofs.EndsRead.{more_places, ends_read}
use Rattle.pre_history.proofs.StartsRead.{starts_read}
use Rattle.pre_history.proofs.StartsDecided.{front_found}
use Rattle.pre_history.proofs.Progress.{size_some}

no_lower : (j : Item) → place j < 1 → ⊥
no_lower Item.express lt = omega (arith, lt)
no_lower Item.respond lt = omega (arith, lt)
no_lower Item.verify lt = omega (arith, lt)
no_lower Item.lldp lt = omega (arith, lt)
no_lower Item.rest lt = omega (arith, lt)
no_lower Item.preemptable lt = omega (arith, lt)

same_or_less : (u t : ℕ) → u ≤ t → (u ≡ t) ⊎ (u < t)
same_or_less u t le = grind arith

module _ (w : Scenario) (n : ℕ) (h : History) (a t : ℕ) (a_lt : a < length w.net.arcs) (legal : LegalUpTo w n h) (lt : number (length w.net.arcs) t (2 + 3 * length w.net.arcs + a) < n) where
  -- where one waits and the arc is free, the front one begins
  pub express_begins : ExpressWaits w h a t → ¬ Occupied w h a t → (f : ℕ) × IsFront w h a t (arc w a).express_from 8 f × HasBegun h a t (whole_frame f kind.Express)
  unfolding StartRule
  express_begins (p, from, to, some) free = elim (front_found w h a t (arc w a).express_from 8) [
    | inr none ↦ absurd (some (none p from to))
    | inl (f, front) ↦ (f, front, (starts_read w n h a t a_lt legal lt (whole_frame f kind.Express)).1 (free, (Item.express, (f, front, refl), λ j d less. absurd (no_lower j less))))
  ]

  by_now : (u : ℕ) → u ≤ t → number (length w.net.arcs) u (1 + a) < n
  by_now u le = elim (same_or_less u t le) [
    | inl same ↦ let here : number (length w.net.arcs) t (1 + a) < n = omega (arith, lt) in subst (λ x. number (length w.net.arcs) x (1 + a) < n) (sym same) here
    | inr less ↦ let reach = more_places (moments (length w.net.arcs)) u t (1 + a) (1 + a) (omega (arith, a_lt)) less in omega (arith, reach, lt)
  ]

  -- and the arc isn't free only for the size of an mPacket that began, its head and the gap behind it
  pub busy_for : Occupied w h a t
      → (i : ℕ) × (b : Begin) × (size : ℕ) × (slice_get (Begins h a) i ≡ Some b) × (b.tick < t) × SizeOf w h b.kind b size × (t < b.tick + (arc w a).cost * (size + 8) + 12 * (arc w a).cost)
  busy_for (k, p, k_lt, at, (early, under)) = go (packet_back h a k p (found_at (Packets h a) k p k_lt at))
    where
      ended : (b : Begin) (e : Ended) → slice_get (Begins h a) k ≡ Some b → slice_get (Ends h a) k ≡ Some e → end_of h a b.ord ≡ Some e
      ended b e at_b at_e =
          let o = (steady w n h a a_lt legal).ordered in
          let ord : b.ord ≡ k = o.begin_places k b at_b in
          first_numbered (Ends h a) 0 k b.ord (omega (arith, ord)) (λ j d here. let is : d.ord ≡ j = o.end_places j d here in omega (arith, is)) ∙ at_e

      go : (b : Begin) × (slice_get (Begins h a) k ≡ Some b) × (record { begin = b; ended = end_of h a b.ord } ≡ p)
          → (i : ℕ) × (b : Begin) × (size : ℕ) × (slice_get (Begins h a) i ≡ Some b) × (b.tick < t) × SizeOf w h b.kind b size × (t < b.tick + (arc w a).cost * (size + 8) + 12 * (arc w a).cost)
      go (b, at_b, is) =
          let s = size_some w h b.kind b in
          let began : b.tick < t = subst (λ (x : Packet). x.begin.tick < t) (sym is) early in
          elim (cases_lt t (b.tick + (arc w a).cost * (s.0 + 8) + 12 * (arc w a).cost)) [
            | inl within ↦ (k, b, s.0, at_b, began, s.1, within)
            | inr over ↦ absurd (
                let e = (ends_read w n h a a_lt legal k b at_b s.0 (by_now (b.tick + (arc w a).cost * (s.0 + 8)) (omega (arith, over)))).1 s.1 in
                let span = (steady w n h a a_lt legal).ordered.spans k b e.0 at_b e.1 in
                let span' : e.0.tick ≡ b.tick + (arc w a).cost * (s.0 + 8) = span ∙ ap (λ x. b.tick + (arc w a).cost * (x + 8)) e.2 in
                let unended : MatchOption (end_of h a b.ord) ⊤ (λ e. t < e.tick + 12 * (arc w a).cost) = subst (λ (x : Packet). MatchOption x.ended ⊤ (λ e. t < e.tick + 12 * (arc w a).cost)) (sym is) under in
                let gap : t < e.0.tick + 12 * (arc w a).cost = subst (λ (o : Option Ended). MatchOption o ⊤ (λ e. t < e.tick + 12 * (arc w a).cost)) (ended b e.0 at_b e.1) unended in
                omega (arith, gap, span', over))
          ]
