-- Later events leave what begins on an arc at a tick as it is.
use Rattle.std.proofs.Common.{ℕ, ◌≡◌, ◌&&◌, ◌%◌, ◌<◌, ◌≤◌, nat_lt, Bool, false, ◌++◌, length, sym, ◌∙◌, ap, inl, inr, arith, filter}
use Rattle.std.specs.Prelude.{◌↔◌}
use Rattle.std.proofs.lemmas.List.Elements.{filter_map-append, filter-append}
use Rattle.std.proofs.lemmas.List.Sums.{length-filter}
use Rattle.pre_mpacket.specs.declared.packets.Kind.{Kind}
use Rattle.pre_mpacket.specs.declared.packets.Kind.TheVariants as kind
use Rattle.pre_mpacket.specs.Arrivals.{is_start}
use Rattle.pre_history.specs.Scenario.{Scenario, arc}
use Rattle.pre_history.specs.History.{History, Begin}
use Rattle.pre_history.specs.Selected.{begin_on}
use Rattle.pre_history.specs.Queries.{Begins}
use Rattle.pre_history.specs.LinkState.{Active}
use Rattle.pre_history.specs.Starts.{Item, Choice, IsFront, starts_before, PreemptableAs, There, StartRule}
use Rattle.pre_history.proofs.IsLater.{IsLater, AllLater}
use Rattle.pre_history.specs.Legal.{LegalUpTo}
use Rattle.pre_history.proofs.Later.{waiting_later}
use Rattle.pre_history.proofs.LaterEnds.{begin_later, occupied_later}
use Rattle.pre_history.proofs.Lists.{every_selected, every_weaker, filter_nil, no_append}
use Rattle.pre_history.proofs.LinksStay.{owed_stays, active_at, lldp_wanted_stays, verify_wanted_stays}
use Rattle.pre_history.proofs.RunsStay.{interrupted_stays}
use Rattle.pre_history.proofs.NatTests.{and_false, not_before}

module _ (w : Scenario) (n : ℕ) (h es : History) (legal : LegalUpTo w n h) (t : ℕ) (later : AllLater t es) (a : ℕ) (a_lt : a < length w.net.arcs) where
  front_stays : (low high f : ℕ) → IsFront w (h ++ es) a t low high f ↔ IsFront w h a t low high f
  front_stays low high f = (
    (λ (p, from, to, (behind, is), above). (p, from, to, (behind, sym (waiting_later h es a p t later) ∙ is), λ q lt lt'. sym (waiting_later h es a q t later) ∙ above q lt lt')),
    (λ (p, from, to, (behind, is), above). (p, from, to, (behind, waiting_later h es a p t later ∙ is), λ q lt lt'. waiting_later h es a q t later ∙ above q lt lt')),
  )

  started : Begin → Bool
  started b = is_start b.kind && nat_lt b.tick t

  starts_same : starts_before w (h ++ es) a t ≡ starts_before w h a t
  unfolding started
  starts_same =
      let late = every_weaker (λ (b : Begin). t ≤ b.tick) (λ b. started b ≡ false) (λ b le. ap (λ x. is_start b.kind && x) (not_before b.tick t le) ∙ and_false (is_start b.kind)) (Begins es a)
      (every_selected (begin_on a) (IsLater t) (λ b. t ≤ b.tick) (begin_later a t) es later) in
      let same : filter started (Begins (h ++ es) a) ≡ filter started (Begins h a)
      = ap (filter started) (filter_map-append (begin_on a) h es) ∙ (filter-append started (Begins h a) (Begins es a) ∙ no_append (filter started (Begins h a)) (filter started (Begins es a)) (filter_nil started (Begins es a) late)) in
      sym (length-filter started (Begins (h ++ es) a)) ∙ (ap length same ∙ length-filter started (Begins h a))

  as_stays : (k : Kind) → PreemptableAs w (h ++ es) a t k ↔ PreemptableAs w h a t k
  as_stays k = (from, to)
    where
      active : Active w (h ++ es) a t ↔ Active w h a t
      active = active_at w n h es legal t later a a_lt t (omega arith)

      from : PreemptableAs w (h ++ es) a t k → PreemptableAs w h a t k
      from (inl (now, is)) = inl (active.0 now, is ∙ ap (λ x. kind.Start (x % 4)) starts_same)
      from (inr (not_now, may, is)) = inr ((λ now. not_now (active.1 now)), may, is)

      to : PreemptableAs w h a t k → PreemptableAs w (h ++ es) a t k
      to (inl (now, is)) = inl (active.1 now, is ∙ ap (λ x. kind.Start (x % 4)) (sym starts_same))
      to (inr (not_now, may, is)) = inr ((λ now. not_now (active.0 now)), may, is)

  there_from : (i : Item) (c : Choice) → There w (h ++ es) a t i c → There w h a t i c
  there_from Item.express c (f, front, is) = (f, (front_stays (arc w a).express_from 8 f).0 front, is)
  there_from Item.respond c (talks, owed, is) = (talks, (owed_stays w n h es legal t later a a_lt).0 owed, is)
  there_from Item.verify c (talks, wanted, is) = (talks, (verify_wanted_stays w n h es legal t later a a_lt talks).0 wanted, is)
  there_from Item.lldp c (talks, wanted, is) = (talks, (lldp_wanted_stays w n h es legal t later a a_lt).0 wanted, is)
  there_from Item.rest c (r, left, is) = (r, (interrupted_stays h es t later a w r).0 left, is)
  there_from Item.preemptable c (f, k, front, as', is) = (f, k, (front_stays 0 (arc w a).express_from f).0 front, (as_stays k).0 as', is)

  there_to : (i : Item) (c : Choice) → There w h a t i c → There w (h ++ es) a t i c
  there_to Item.express c (f, front, is) = (f, (front_stays (arc w a).express_from 8 f).1 front, is)
  there_to Item.respond c (talks, owed, is) = (talks, (owed_stays w n h es legal t later a a_lt).1 owed, is)
  there_to Item.verify c (talks, wanted, is) = (talks, (verify_wanted_stays w n h es legal t later a a_lt talks).1 wanted, is)
  there_to Item.lldp c (talks, wanted, is) = (talks, (lldp_wanted_stays w n h es legal t later a a_lt).1 wanted, is)
  there_to Item.rest c (r, left, is) = (r, (interrupted_stays h es t later a w r).1 left, is)
  there_to Item.preemptable c (f, k, front, as', is) = (f, k, (front_stays 0 (arc w a).express_from f).1 front, (as_stays k).1 as', is)

  pub there_stays : (i : Item) (c : Choice) → There w (h ++ es) a t i c ↔ There w h a t i c
  there_stays i c = (there_from i c, there_to i c)

  pub rule_stays : (c : Choice) → StartRule w (h ++ es) a t c ↔ StartRule w h a t c
  unfolding StartRule
  rule_stays c = (
    (λ (free, (i, there, first)). ((λ busy. free ((occupied_later w h es a t later).1 busy)), (i, there_from i c there, λ j d lt it. first j d lt (there_to j d it)))),
    (λ (free, (i, there, first)). ((λ busy. free ((occupied_later w h es a t later).0 busy)), (i, there_to i c there, λ j d lt it. first j d lt (there_from j d it)))),
  )
