-- Where no arrival is an alias, what arrives as a user frame is the frame whose last octets the mPacket carried.
use Rattle.std.proofs.Common.{ℕ, ◌≡◌, ◌<◌, Bool, true, false, List, length, refl, sym, ◌∙◌, ap, inl, inr, arith, subst, Some}
use Rattle.std.specs.Prelude.{slice_get, if◌then◌else◌}
use Rattle.pre_lldp.specs.LldpLayout.{is_lldp_frame}
use Rattle.pre_mpacket.specs.Arrivals.{Given, Gives}
use Rattle.pre_history.specs.declared.events.Outcome.{Outcome}
use Rattle.pre_history.specs.declared.events.Outcome.TheVariants as outcome
use Rattle.pre_history.specs.declared.events.What.{What}
use Rattle.pre_history.specs.declared.events.What.TheVariants as what
use Rattle.pre_history.specs.Scenario.{Scenario, arc, FrameOf}
use Rattle.pre_history.specs.History.{History, Begin, Ended, Arrive}
use Rattle.pre_history.specs.Queries.{Begins, Ends, Arrivals}
use Rattle.pre_history.specs.Octets.{Air, whole_of, WholeOf, AdvertAt}
use Rattle.pre_history.specs.ArrivalResults.{Result, result_of}
use Rattle.pre_history.specs.Legal.{LegalBefore, Alias}
use Rattle.pre_history.proofs.Lists.{there, within}
use Rattle.pre_history.proofs.InOrder.{steady}
use Rattle.pre_laws.specs.Routed.{ArrivesWhole}
use Rattle.pre_history.proofs.Known.{sent_lldp}
use Rattle.pre_history.proofs.Aliases.{IsLastBy, last_is, last_decided}
use Rattle.pre_history.proofs.ArrivalsRead.{results_read}

-- what arrives as a user frame gives octets that are no LLDP frame
frame_given : (r : Outcome) (g : Given) → r ≡ outcome.Frame → r ≡ result_of g → (octets : List ℕ) × (g ≡ Given.frame octets) × (is_lldp_frame octets ≡ false)
frame_given r (Given.frame octets) is by = go (is_lldp_frame octets) refl (sym is ∙ by)
  where
    go : (b : Bool) → is_lldp_frame octets ≡ b → outcome.Frame ≡ (if b then outcome.Lldp else outcome.Frame) → (octets' : List ℕ) × (Given.frame octets ≡ Given.frame octets') × (is_lldp_frame octets' ≡ false)
    go false no_lldp same = (octets, refl, no_lldp)
    go true lldp same = absurd (cc same)
frame_given r Given.part is by = absurd (cc (sym is ∙ by))
frame_given r Given.verify is by = absurd (cc (sym is ∙ by))
frame_given r Given.respond is by = absurd (cc (sym is ∙ by))

module _ (w : Scenario) (n : ℕ) (h : History) (legal : LegalBefore w h n) (a : ℕ) (a_lt : a < length w.net.arcs) (i : ℕ) (x : Arrive) (at : slice_get (Arrivals h a) i ≡ Some x) (is : x.result ≡ outcome.Frame) where
  not_alias : Alias w h a i → ⊥
  not_alias alias = legal.1 a i (within (Arrivals h a) i x at) alias

  given : (octets : List ℕ) × Gives (Air w h a) i (Given.frame octets) × (is_lldp_frame octets ≡ false)
  given = go (results_read w n h a a_lt legal.0 i x at)
    where
      go : Result (Air w h a) i x.result → (octets : List ℕ) × Gives (Air w h a) i (Given.frame octets) × (is_lldp_frame octets ≡ false)
      go (inl (lost, r)) = absurd (cc (sym is ∙ r))
      go (inr (inl (g, gives, r))) = let o = frame_given x.result g is r in (o.0, subst (Gives (Air w h a) i) o.1 gives, o.2)
      go (inr (inr (kept, none, r))) = absurd (cc (sym is ∙ r))

  pub arrives_whole : (f : ℕ) × ArrivesWhole w h a i f
  arrives_whole = elim (last_decided w h a i b.0 e.0 b.1 e.1 given.0) [
    | inr other ↦ absurd (not_alias (inr (inr (given.0, given.1, other))))
    | inl last' ↦ by ((last_is w h a i b.0 e.0 b.1 e.1 given.0).0 last')
  ]
    where
      e : (e : Ended) × (slice_get (Ends h a) i ≡ Some e)
      e = there (Ends h a) i (omega (arith, within (Arrivals h a) i x at, (steady w n h a a_lt legal.0).ordered.arrivals_ended))

      b : (b : Begin) × (slice_get (Begins h a) i ≡ Some b)
      b = there (Begins h a) i (omega (arith, within (Ends h a) i e.0 e.1, (steady w n h a a_lt legal.0).ordered.ends_begun))

      by : IsLastBy (WholeOf w h b.0) b.0 e.0 given.0 → (f : ℕ) × ArrivesWhole w h a i f
      by (some, octets_are, full) = go b.0.what refl
        where
          go : (y : What) → b.0.what ≡ y → (f : ℕ) × ArrivesWhole w h a i f
          go (what.Frame f) what_is =
              let octets_is : given.0 ≡ FrameOf w f.0 = octets_are ∙ ap (whole_of w h b.0) what_is in (
                f.0,
                record {
                  begin = b.0;
                  ended = e.0;
                  begun = b.1;
                  over = e.1;
                  carries = what_is;
                  full = full ∙ ap length octets_is;
                  gives = subst (λ l. Gives (Air w h a) i (Given.frame l)) octets_is given.1;
                },
              )
          go what.Nothing what_is = absurd (some what_is)
          go what.Lldp what_is = absurd (cc (sym given.2 ∙ (ap is_lldp_frame (octets_are ∙ ap (whole_of w h b.0) what_is) ∙ sent_lldp (arc w b.0.arc).from.0 b.0.arc (AdvertAt w h b.0.arc b.0.tick))))
