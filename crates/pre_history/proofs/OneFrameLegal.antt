-- The history of one express frame is legal.
use Rattle.std.proofs.Common.{ℕ, zero, suc, ◌≡◌, ◌+◌, ◌*◌, nat_le, [], ◌∷◌, ◌++◌, length, refl, sym, ◌∙◌, ap, arith, subst}
use Rattle.std.specs.Prelude.{count_by}
use Rattle.pre_script.specs.declared.scripts.SendLine.{SendLine}
use Rattle.pre_history.specs.Scenario.{Scenario}
use Rattle.pre_history.specs.Moments.{moments}
use Rattle.pre_history.specs.History.{PlainEvent}
use Rattle.pre_history.specs.Queries.{Arrivals}
use Rattle.pre_history.specs.Legal.{LegalUpTo, last_moment, Legal}
use Rattle.pre_history.specs.Examples.{SendsOneFrame, one_frame_body, one_frame}
use Rattle.pre_history.proofs.Arrived.{OneGiven}
use Rattle.pre_history.proofs.Spelled.{OneSpelled}
use Rattle.pre_history.proofs.PairFacts.{two_arcs}
use Rattle.pre_history.proofs.WholeFrames.{OnlyFrames, no_alias, no_counts_told}
use Rattle.pre_history.proofs.Quiet.{other_arc}
use Rattle.pre_history.proofs.OneFrame.{from_one, body_whole, one_place, gives_frame, body_legal}

module _ (spelled : OneSpelled) (one : OneGiven) (w : Scenario) (s : SendsOneFrame w) where
  no_arrivals : (a : ℕ) → Arrivals (one_frame_body w) (suc a) ≡ []
  no_arrivals a = rw (other_arc a) refl

  only : OnlyFrames w (one_frame_body w)
  only zero zero lt = (0, gives_frame w s.script spelled s.losses (one_frame_body w) refl refl (one_place w s.script))
  only zero (suc i) lt = absurd (omega (arith, lt))
  only (suc a) i lt = let none = ap length (no_arrivals a) in absurd (omega (arith, lt, none))

  pub one_frame_legal : Legal w (one_frame w)
  one_frame_legal =
      let until = s.script.until in
      let sent : count_by (λ (x : SendLine). nat_le x.send.tick.0 w.script.until.0) w.script.sends ≡ 1
      = ap (λ (n : ℕ). count_by (λ (x : SendLine). nat_le x.send.tick.0 n) w.script.sends) until ∙ ap (count_by (λ (x : SendLine). nat_le x.send.tick.0 5000)) s.script.sends in
      let at : last_moment w ≡ 50010 = ap (λ (n : ℕ). (n + 1) * moments (length w.net.arcs)) until ∙ ap (λ (n : ℕ). 5001 * moments n) (two_arcs w (from_one w s.script)) in (
        one_frame_body w,
        [],
        (subst (λ n. LegalUpTo w n (one_frame_body w)) (sym at) (body_legal w s.script spelled s.losses), no_alias w (one_frame_body w) only one),
        no_counts_told w (one_frame_body w) only (body_whole w s.script) (length w.net.arcs),
        λ i. one_frame_body w ++ PlainEvent.end (record { until = sym until i; sent = sym sent i; delivered = 1; dropped = 0 }) ∷ [],
      )
