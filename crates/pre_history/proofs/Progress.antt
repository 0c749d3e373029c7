-- A legal history goes on, up to an alias.
use Rattle.std.proofs.Common.{ℕ, suc, ◌≡◌, ◌≢◌, ◌⊎◌, ◌+◌, ◌*◌, ◌/◌, ◌%◌, ◌<◌, Bool, true, false, List, []}
use Rattle.std.proofs.Common.{◌∷◌, ◌++◌, length, refl, sym, ◌∙◌, ap, inl, inr, arith, subst, Option, Some}
use Rattle.std.specs.Prelude.{if◌then◌else◌, slice_get, option_and_then}
use Rattle.pre_mpacket.specs.declared.packets.Kind.{Kind}
use Rattle.pre_mpacket.specs.declared.packets.Kind.TheVariants as kind
use Rattle.pre_mpacket.specs.Arrivals.{Given, Gives}
use Rattle.pre_lldp.specs.LldpLayout.{is_lldp_frame, lldp_frame}
use Rattle.pre_history.specs.declared.events.What.{What}
use Rattle.pre_history.specs.declared.events.What.TheVariants as what
use Rattle.pre_history.specs.declared.events.Outcome.TheVariants as outcome
use Rattle.pre_history.specs.Scenario.{Scenario, arc}
use Rattle.pre_history.specs.Moments.{Phase, moments, moment_at, phase_at}
use Rattle.pre_history.specs.History.{PlainEvent, History, Begin, Ended}
use Rattle.pre_history.specs.Selected.{frame_in}
use Rattle.pre_history.specs.Queries.{Begins, Ends}
use Rattle.pre_history.specs.Octets.{WholeOf, whole_of, Air, AdvertAt}
use Rattle.pre_history.specs.Starts.{SizeOf}
use Rattle.pre_history.specs.Comings.{frame_at, next_arc, Comings, EntriesOf}
use Rattle.pre_history.specs.Rules.{OneOrNone, Each, CheckOf, SetsAt, delivered, change, arrival, EndDue, Arriving, HappensIn, Happens}
use Rattle.pre_history.specs.Placed.{HasPlace, number, moment_of}
use Rattle.pre_history.specs.Legal.{LegalUpTo, IsLastOf, ArrivesAsAlias}
use Rattle.pre_history.proofs.Lists.{there, within}
use Rattle.pre_history.proofs.Sizes.{size_one}
use Rattle.pre_history.proofs.Decided.{size_found}
use Rattle.pre_history.proofs.Placing.{place_at, numbered}
use Rattle.pre_history.proofs.InOrder.{steady}
use Rattle.pre_mpacket.proofs.Decisions.{tested, equal}
use Rattle.pre_mpacket.proofs.GivenDecided.{gives_decided, lost_decided}
use Rattle.pre_history.proofs.LinksDecided.{is_negotiate, active_decided, active_before_decided}
use Rattle.pre_history.proofs.StartsDecided.{start_found}
use Rattle.pre_history.proofs.Aliases.{last_is}
use Rattle.pre_history.proofs.Known.{sent_lldp}

each_some : {X : Type 0} (R : X → List PlainEvent → Type 0) (xs : List X) → ((x : X) → (es : List PlainEvent) × R x es) → (es : List PlainEvent) × Each R xs es
each_some R [] some = ([], refl)
each_some R (x ∷ xs) some = let o = some x in let more = each_some R xs some in (o.0 ++ more.0, (o.0, more.0, o.1, more.1, refl))

-- those of each element have events, or B holds
each_or : {X : Type 0} (R : X → List PlainEvent → Type 0) (B : Type 0) (xs : List X) → ((i : ℕ) (x : X) → slice_get xs i ≡ Some x → ((es : List PlainEvent) × R x es) ⊎ B)
    → ((es : List PlainEvent) × Each R xs es) ⊎ B
each_or R B [] some = inl ([], refl)
each_or R B (x ∷ xs) some = elim (some 0 x refl) [
  | inr bad ↦ inr bad
  | inl here ↦ elim (each_or R B xs (λ i y at. some (suc i) y at)) [
    | inr bad ↦ inr bad
    | inl more ↦ inl (here.0 ++ more.0, (here.0, more.0, here.1, more.1, refl))
  ]
]

pub size_some : (w : Scenario) (h : History) (k : Kind) (b : Begin) → (size : ℕ) × SizeOf w h k b size
size_some w h (kind.Start c) b = size_found w h b
size_some w h (kind.Continue c n) b = size_found w h b
size_some w h kind.Express b = (length (WholeOf w h b), refl)
size_some w h kind.Verify b = (length (WholeOf w h b), refl)
size_some w h kind.Respond b = (length (WholeOf w h b), refl)

end_some : (w : Scenario) (h : History) (t : ℕ) (b : Begin) → (es : List PlainEvent) × OneOrNone (EndDue w h t b) es
end_some w h t b =
    let s = size_some w h b.kind b in
    elim (equal (b.tick + (arc w b.arc).cost * (s.0 + 8)) t) [
      | inl due ↦ (
        PlainEvent.ended (record { tick = t; arc = b.arc; ord = b.ord; size = s.0; check = CheckOf w h b s.0 }) ∷ [],
        inl (PlainEvent.ended (record { tick = t; arc = b.arc; ord = b.ord; size = s.0; check = CheckOf w h b s.0 }), (s.0, s.1, due, refl), refl),
      )
      | inr later ↦ ([], inr ((λ e (size, sized, due, is). later (subst (λ x. b.tick + (arc w b.arc).cost * (x + 8) ≡ t) (size_one w h b.kind b size s.0 sized s.1) due)), refl))
    ]

module _ (w : Scenario) where
  module _ (n : ℕ) (h : History) (legal : LegalUpTo w n h) where
    module _ (t a : ℕ) (a_lt : a < length w.net.arcs) where
      -- ---- arrivals

      module _ (i : ℕ) (e : Ended) (at : slice_get (Ends h a) i ≡ Some e) (due : e.tick + (arc w a).delay ≡ t) where
        begun : (b : Begin) × (slice_get (Begins h a) i ≡ Some b)
        begun = there (Begins h a) i (omega (arith, within (Ends h a) i e at, (steady w n h a a_lt legal).ordered.ends_begun))

        ord : e.ord ≡ i
        ord = (steady w n h a a_lt legal).ordered.end_places i e at

        -- what isn't a user frame and arrives as one is an alias
        not_last : (octets : List ℕ) → is_lldp_frame octets ≡ false → (x : What) → begun.0.what ≡ x → ((f : _) → x ≢ what.Frame f) → ¬ IsLastOf w h a i octets
        not_last octets user (what.Frame f) is other last' = other f refl
        not_last octets user what.Nothing is other last' = ((last_is w h a i begun.0 e begun.1 at octets).0 last').0 is
        not_last octets user what.Lldp is other last' =
            let o = (last_is w h a i begun.0 e begun.1 at octets).0 last' in
            let whole : octets ≡ lldp_frame (arc w begun.0.arc).from.0 begun.0.arc (AdvertAt w h begun.0.arc begun.0.tick) = o.1 ∙ ap (whole_of w h begun.0) is in
            let lldp : is_lldp_frame octets ≡ true = ap is_lldp_frame whole ∙ sent_lldp (arc w begun.0.arc).from.0 begun.0.arc (AdvertAt w h begun.0.arc begun.0.tick) in
            cc (sym user ∙ lldp)

        arrives_frame : (octets : List ℕ) → Gives (Air w h a) i (Given.frame octets) → ((es : List PlainEvent) × Arriving w h t a e es) ⊎ ArrivesAsAlias w h t a i
        arrives_frame octets gives = go (is_lldp_frame octets) refl
          where
            gives' : Gives (Air w h a) e.ord (Given.frame octets)
            gives' = subst (λ j. Gives (Air w h a) j (Given.frame octets)) (sym ord) gives

            by_what : is_lldp_frame octets ≡ false → (x : What) → begun.0.what ≡ x → ((es : List PlainEvent) × Arriving w h t a e es) ⊎ ArrivesAsAlias w h t a i
            by_what user (what.Frame f) is =
                let frame : frame_at h a e.ord ≡ Some f.0 = ap (frame_at h a) ord ∙ (ap (λ (o : Option Begin). option_and_then (λ b. frame_in b.what) o) begun.1 ∙ ap frame_in is) in
                inl (
                  arrival t a e.ord outcome.Frame ∷ delivered t (arc w a).to.0 f.0 octets (next_arc w a f.0),
                  inl (due, (outcome.Frame, inr (inl (Given.frame octets, gives', ap (λ b. if b then outcome.Lldp else outcome.Frame) (sym user))), (f.0, octets, frame, gives', refl))),
                )
            by_what user what.Lldp is = inr (e, at, due, inr (inr (octets, gives, not_last octets user what.Lldp is (λ f x. cc x))))
            by_what user what.Nothing is = inr (e, at, due, inr (inr (octets, gives, not_last octets user what.Nothing is (λ f x. cc x))))

            go : (b : Bool) → is_lldp_frame octets ≡ b → ((es : List PlainEvent) × Arriving w h t a e es) ⊎ ArrivesAsAlias w h t a i
            go true is = inl (arrival t a e.ord outcome.Lldp ∷ [], inl (due, (outcome.Lldp, inr (inl (Given.frame octets, gives', ap (λ b. if b then outcome.Lldp else outcome.Frame) (sym is))), refl)))
            go false is = by_what is begun.0.what refl

        arrives : ((es : List PlainEvent) × Arriving w h t a e es) ⊎ ArrivesAsAlias w h t a i
        arrives = elim (lost_decided (Air w h a) e.ord) [
          | inl lost ↦ inl (arrival t a e.ord outcome.Lost ∷ [], inl (due, (outcome.Lost, inl (lost, refl), refl)))
          | inr here ↦ elim (gives_decided (Air w h a) e.ord) [
            | inr none ↦ inl (arrival t a e.ord outcome.Nothing ∷ [], inl (due, (outcome.Nothing, inr (inr (here, none, refl)), refl)))
            | inl (g, gives) ↦ by_given g gives
          ]
        ]
          where
            by_given : (g : Given) → Gives (Air w h a) e.ord g → ((es : List PlainEvent) × Arriving w h t a e es) ⊎ ArrivesAsAlias w h t a i
            by_given (Given.frame octets) gives = arrives_frame octets (subst (λ j. Gives (Air w h a) j (Given.frame octets)) ord gives)
            by_given Given.part gives = inl (arrival t a e.ord outcome.Part ∷ [], inl (due, (outcome.Part, inr (inl (Given.part, gives, refl)), refl)))
            by_given Given.verify gives = inl (arrival t a e.ord outcome.Verify ∷ [], inl (due, (outcome.Verify, inr (inl (Given.verify, gives, refl)), refl)))
            by_given Given.respond gives = inl (arrival t a e.ord outcome.Respond ∷ [], inl (due, (outcome.Respond, inr (inl (Given.respond, gives, refl)), refl)))

      arriving_some : (i : ℕ) (e : Ended) → slice_get (Ends h a) i ≡ Some e → ((es : List PlainEvent) × Arriving w h t a e es) ⊎ ArrivesAsAlias w h t a i
      arriving_some i e at = elim (equal (e.tick + (arc w a).delay) t) [
        | inr later ↦ inl ([], inr (later, refl))
        | inl due ↦ arrives i e at due
      ]

      expiry_some : (es : List PlainEvent) × HappensIn w h t (Phase.expiries a) es
      unfolding HappensIn
      expiry_some = elim (is_negotiate (arc w a).mode) [
        | inr off ↦ ([], inr (off, refl))
        | inl on ↦
            let now = tested (active_decided w n h legal a a_lt t) in
            let before = tested (active_before_decided w n h legal a a_lt t) in
            (change t a now.0 before.0, inl (on, (now.0, before.0, now.1, before.1, refl)))
      ]

      start_some : (es : List PlainEvent) × HappensIn w h t (Phase.starts a) es
      unfolding HappensIn
      start_some = elim (start_found w n h legal a a_lt t) [
        | inl (c, rule) ↦ (
          PlainEvent.begin (record { tick = t; arc = a; ord = length (Begins h a); kind = c.kind; what = c.what; from = c.from }) ∷ [],
          inl (PlainEvent.begin (record { tick = t; arc = a; ord = length (Begins h a); kind = c.kind; what = c.what; from = c.from }), (c, rule, refl), refl),
        )
        | inr none ↦ ([], inr ((λ e (c, rule, is). none c rule), refl))
      ]

    -- an alias is due on this arc
    abbrev DueAlias : ℕ → Phase → Type 0
    DueAlias t p = (a : ℕ) × (i : ℕ) × (p ≡ Phase.arrivals a) × ArrivesAsAlias w h t a i

    phase_some : (t k : ℕ) (p : Phase) → HasPlace (length w.net.arcs) k p → ((es : List PlainEvent) × HappensIn w h t p es) ⊎ DueAlias t p
    unfolding HappensIn
    phase_some t k Phase.sets place = inl (SetsAt w t, refl)
    phase_some t k Phase.entries place = inl (EntriesOf w t h (Comings w h t), refl)
    phase_some t k (Phase.ends a) (a_lt, place) = inl (each_some (λ b fs. OneOrNone (EndDue w h t b) fs) (Begins h a) (end_some w h t))
    phase_some t k (Phase.expiries a) (a_lt, place) = inl (expiry_some t a a_lt)
    phase_some t k (Phase.starts a) (a_lt, place) = inl (start_some t a a_lt)
    phase_some t k (Phase.arrivals a) (a_lt, place) = elim (each_or (Arriving w h t a) ((i : ℕ) × ArrivesAsAlias w h t a i) (Ends h a) (λ i e at. by_place i (arriving_some t a a_lt i e at))) [
      | inl some ↦ inl some
      | inr (i, alias) ↦ inr (a, i, refl, alias)
    ]
      where
        by_place : {Q : Type 0} (i : ℕ) → Q ⊎ ArrivesAsAlias w h t a i → Q ⊎ ((i : ℕ) × ArrivesAsAlias w h t a i)
        by_place i (inl some) = inl some
        by_place i (inr alias) = inr (i, alias)

    pub progress : ((es : List PlainEvent) × Happens w h (moment_at (length w.net.arcs) n) es)
        ⊎ ((t a i : ℕ) × (a < length w.net.arcs) × (n ≡ moment_of w t (Phase.arrivals a)) × ArrivesAsAlias w h t a i)
    progress = elim (phase_some tick (n % moments (length w.net.arcs)) (phase_at (length w.net.arcs) (n % moments (length w.net.arcs))) (place_at (length w.net.arcs) n)) [
      | inl some ↦ inl some
      | inr (a, i, is, alias) ↦
          let place : HasPlace (length w.net.arcs) (n % moments (length w.net.arcs)) (Phase.arrivals a) = subst (HasPlace (length w.net.arcs) (n % moments (length w.net.arcs))) is (place_at (length w.net.arcs) n) in
          inr (tick, a, i, place.0, numbered (length w.net.arcs) n ∙ ap (number (length w.net.arcs) tick) place.1, alias)
    ]
      where
        tick : ℕ
        tick = n / moments (length w.net.arcs)
