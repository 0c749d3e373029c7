-- Where no history is legal up to a moment without an alias, there is a first alias.
use Rattle.std.proofs.Common.{ℕ, zero, suc, ◌≡◌, ◌⊎◌, ◌==◌, ◌+◌, ◌/◌, ◌%◌, ◌<◌, Bool, true, false, List, []}
use Rattle.std.proofs.Common.{◌∷◌, ◌++◌, length, refl, sym, ◌∙◌, ap, inl, inr, arith, subst, Some, None}
use Rattle.std.specs.Prelude.{if◌then◌else◌, slice_get}
use Rattle.std.proofs.lemmas.Bool.Decides.{nat_tests}
use Rattle.std.proofs.lemmas.List.Elements.{filter_map-append}
use Rattle.pre_history.specs.declared.events.Outcome.{Outcome}
use Rattle.pre_history.specs.Scenario.{Scenario, arc}
use Rattle.pre_history.specs.Moments.{Phase, Moment, moments, moment_at, phase_at}
use Rattle.pre_history.specs.History.{PlainEvent, History, Ended, Arrive}
use Rattle.pre_history.specs.Selected.{arrive_on}
use Rattle.pre_history.specs.Queries.{Begins, Ends, Arrivals}
use Rattle.pre_history.specs.Octets.{Air}
use Rattle.pre_history.specs.ArrivalResults.{Result}
use Rattle.pre_history.specs.Rules.{WithDelivery, HappensIn, Happens}
use Rattle.pre_history.specs.Placed.{number, IsAt, IsBefore, AllAt, moment_of}
use Rattle.pre_history.specs.Legal.{LegalUpTo, Alias, LegalBefore, ArrivesAsAlias}
use Rattle.pre_history.proofs.Lists.{there, within, every_at, every_selected}
use Rattle.pre_history.proofs.Moments.{moment_in, arrivals_place}
use Rattle.pre_history.proofs.Placing.{place_at, placed, moment_events}
use Rattle.pre_history.proofs.LaterEnds.{split_at}
use Rattle.pre_history.proofs.ArrivalTurns.{one_arrival, what_arrives}
use Rattle.pre_history.proofs.InOrder.{steady}
use Rattle.pre_history.specs.Cuts.{IsCutAt, IsCut}
use Rattle.pre_history.proofs.Known.{one_given}
use Rattle.pre_history.proofs.Cut.{at_within, cut_at, following}
use Rattle.pre_history.proofs.OneHistory.{legal_one}
use Rattle.pre_history.proofs.Placing.{numbered}
use Rattle.std.proofs.Common.{append_assoc}
use Rattle.pre_history.proofs.Lists.{at_front}
use Rattle.pre_history.specs.Selected.{ended_on}
use Rattle.pre_history.proofs.Around.{arrive_at}
use Rattle.pre_mpacket.proofs.Decisions.{IsDecided, both_then, equal}
use Rattle.pre_history.proofs.Aliases.{alias_decided, alias_stays}
use Rattle.pre_history.proofs.Progress.{progress}
use Rattle.pre_history.specs.Placed.{HasPlace}

-- an element with a property that is decided of each by its place
some_placed : {X : Type 0} (P : ℕ → X → Type 0) (xs : List X) → ((i : ℕ) (x : X) → slice_get xs i ≡ Some x → IsDecided (P i x)) → ((i : ℕ) × (x : X) × (slice_get xs i ≡ Some x) × P i x) ⊎ ((i : ℕ) (x : X) → slice_get xs i ≡ Some x → ¬ P i x)
some_placed P [] decided = inr (λ i x at p. absurd (cc at))
some_placed {X} P (y ∷ ys) decided = elim (decided 0 y refl) [
  | inl p ↦ inl (0, y, refl, p)
  | inr first ↦ elim (some_placed (λ i x. P (suc i) x) ys (λ i x at. decided (suc i) x at)) [
    | inl o ↦ inl (suc o.0, o.1, o.2, o.3)
    | inr none ↦ inr (nowhere first none)
  ]
]
  where
    nowhere : ¬ P 0 y → ((i : ℕ) (x : X) → slice_get ys i ≡ Some x → ¬ P (suc i) x) → (i : ℕ) (x : X) → slice_get (y ∷ ys) i ≡ Some x → ¬ P i x
    nowhere first none zero x at p = first (subst (P 0) (sym (cc at)) p)
    nowhere first none (suc i) x at p = none i x at p

-- what arrives on an arc of a legal history does so on an arc of the network
pub arrives_within : (arcs n a : ℕ) (e : PlainEvent) (x : Arrive) → IsBefore arcs n e → arrive_on a e ≡ Some x → a < arcs
arrives_within arcs n a (PlainEvent.arrive c) x (m, lt, (c_lt, at)) is = go (c.arc == a) refl is
  where
    go : (same : Bool) → (c.arc == a) ≡ same → (if same then Some c else None) ≡ Some x → a < arcs
    go false off is = absurd (cc is)
    go true on is = let arc_is : c.arc ≡ a = grind (arith, nat_tests) in omega (arith, arc_is, c_lt)
arrives_within arcs n a (PlainEvent.set s c v) x before is = absurd (cc is)
arrives_within arcs n a (PlainEvent.begin c) x before is = absurd (cc is)
arrives_within arcs n a (PlainEvent.ended c) x before is = absurd (cc is)
arrives_within arcs n a (PlainEvent.deliver c) x before is = absurd (cc is)
arrives_within arcs n a (PlainEvent.active s c v) x before is = absurd (cc is)
arrives_within arcs n a (PlainEvent.enter c) x before is = absurd (cc is)
arrives_within arcs n a (PlainEvent.dropped c) x before is = absurd (cc is)
arrives_within arcs n a (PlainEvent.count s c) x before is = absurd (cc is)
arrives_within arcs n a (PlainEvent.end c) x before is = absurd (cc is)

-- an alias arrives at moment n
abbrev pub AliasNext : Scenario → History → ℕ → Type 0
AliasNext w h n = (t a i : ℕ) × (a < length w.net.arcs) × (n ≡ moment_of w t (Phase.arrivals a)) × ArrivesAsAlias w h t a i

-- the moment of arrivals at a tick
pub arrivals_at : (w : Scenario) (n t a : ℕ) → a < length w.net.arcs → n ≡ moment_of w t (Phase.arrivals a) → moment_at (length w.net.arcs) n ≡ record { tick = t; phase = Phase.arrivals a }
arrivals_at w n t a a_lt is = ap (moment_at (length w.net.arcs)) is
    ∙ (moment_in (length w.net.arcs) t (1 + length w.net.arcs + a) (omega (arith, a_lt)) ∙ ap (λ (p : Phase). record { tick = t; phase = p }) (arrivals_place (length w.net.arcs) a a_lt))

module _ (w : Scenario) where
  module _ (n : ℕ) (h : History) (legal : LegalUpTo w n h) (none : (a i : ℕ) → i < length (Arrivals h a) → ¬ Alias w h a i) where
    alias_at : (a : ℕ) → a < length w.net.arcs → (i : ℕ) (e : Ended) → slice_get (Ends h a) i ≡ Some e → IsDecided (Alias w h a i)
    alias_at a a_lt i e at =
        let b = there (Begins h a) i (omega (arith, within (Ends h a) i e at, (steady w n h a a_lt legal).ordered.ends_begun)) in
        alias_decided w h a i b.0 e b.1 at

    alias_next : IsDecided (AliasNext w h n)
    alias_next = go (phase_at (length w.net.arcs) (n % moments (length w.net.arcs))) refl (place_at (length w.net.arcs) n)
      where
        t : ℕ
        t = n / moments (length w.net.arcs)

        phase_is : (u a : ℕ) → a < length w.net.arcs → n ≡ moment_of w u (Phase.arrivals a) → phase_at (length w.net.arcs) (n % moments (length w.net.arcs)) ≡ Phase.arrivals a
        phase_is u a a_lt is = ap (λ (m : Moment). m.phase) (arrivals_at w n u a a_lt is)

        go : (p : Phase) → phase_at (length w.net.arcs) (n % moments (length w.net.arcs)) ≡ p → HasPlace (length w.net.arcs) (n % moments (length w.net.arcs)) (phase_at (length w.net.arcs) (n % moments (length w.net.arcs)))
            → IsDecided (AliasNext w h n)
        go Phase.sets is place = inr (λ (u, a, i, a_lt, at, alias). cc (sym is ∙ phase_is u a a_lt at))
        go Phase.entries is place = inr (λ (u, a, i, a_lt, at, alias). cc (sym is ∙ phase_is u a a_lt at))
        go (Phase.ends c) is place = inr (λ (u, a, i, a_lt, at, alias). cc (sym is ∙ phase_is u a a_lt at))
        go (Phase.expiries c) is place = inr (λ (u, a, i, a_lt, at, alias). cc (sym is ∙ phase_is u a a_lt at))
        go (Phase.starts c) is place = inr (λ (u, a, i, a_lt, at, alias). cc (sym is ∙ phase_is u a a_lt at))
        go (Phase.arrivals c) is place =
            let c_at : HasPlace (length w.net.arcs) (n % moments (length w.net.arcs)) (Phase.arrivals c) = subst (HasPlace (length w.net.arcs) (n % moments (length w.net.arcs))) is place in
            elim (some_placed (λ (i : ℕ) (e : Ended). (e.tick + (arc w c).delay ≡ t) × Alias w h c i) (Ends h c)
            (λ i e at. both_then (equal (e.tick + (arc w c).delay) t) (λ due. alias_at c c_at.0 i e at))) [
              | inl (i, e, at, (due, alias)) ↦ inl (t, c, i, c_at.0, numbered (length w.net.arcs) n ∙ ap (number (length w.net.arcs) t) c_at.1, (e, at, due, alias))
              | inr nowhere ↦ inr (λ (u, a, i, a_lt, n_is, (e, at, due, alias)).
                  let arc_is : c ≡ a = cc (sym is ∙ phase_is u a a_lt n_is) in
                  let tick_is : t ≡ u = ap (λ (m : Moment). m.tick) (arrivals_at w n u a a_lt n_is) in
                  nowhere i e (subst (λ x. slice_get (Ends h x) i ≡ Some e) (sym arc_is) at)
                  (subst (λ x. e.tick + (arc w x).delay ≡ t) (sym arc_is) (due ∙ sym tick_is), subst (λ x. Alias w h x i) (sym arc_is) alias))
            ]

    module _ (es : List PlainEvent) (happens : Happens w h (moment_at (length w.net.arcs) n) es) (no_next : ¬ AliasNext w h n) where
      pub next_legal : LegalUpTo w (suc n) (h ++ es)
      next_legal = (h, es, refl, legal, happens)

      at_now : AllAt (length w.net.arcs) n es
      at_now = moment_events w h n es happens

      -- what ended before is an alias as it was
      as_before : (a : ℕ) → a < length w.net.arcs → (i : ℕ) → i < length (Ends h a) → Alias w (h ++ es) a i → Alias w h a i
      as_before a a_lt i lt alias = (alias_stays w n (suc n) h es legal (at_within (length w.net.arcs) n (suc n) es (omega arith) at_now) a a_lt i lt).0 alias

      old_arrival : (a : ℕ) → a < length w.net.arcs → (i : ℕ) → i < length (Arrivals h a) → ¬ Alias w (h ++ es) a i
      old_arrival a a_lt i i_lt alias = none a i i_lt (as_before a a_lt i (omega (arith, i_lt, (steady w n h a a_lt legal).ordered.arrivals_ended)) alias)

      new_arrival : (a : ℕ) → a < length w.net.arcs → (i j : ℕ) (x : Arrive) → slice_get (Arrivals (h ++ es) a) i ≡ Some x → slice_get (Arrivals es a) j ≡ Some x → ¬ Alias w (h ++ es) a i
      new_arrival a a_lt i j x at at_j alias = go (what_arrives w h es x.tick a a_lt (omega (arith, a_lt)) (placed w m h legal_m) at_m (steady w m h a a_lt legal_m) happens_m)
        where
          m : ℕ
          m = number (length w.net.arcs) x.tick (1 + length w.net.arcs + a)

          n_is : n ≡ number (length w.net.arcs) x.tick (1 + length w.net.arcs + a)
          n_is = every_at (λ (x : Arrive). n ≡ number (length w.net.arcs) x.tick (1 + length w.net.arcs + a)) (Arrivals es a) j x
              (every_selected (arrive_on a) (IsAt (length w.net.arcs) n) (λ x. n ≡ number (length w.net.arcs) x.tick (1 + length w.net.arcs + a)) (λ e x here is. (arrive_at (length w.net.arcs) n a e x here is).1) es at_now) at_j

          legal_m : LegalUpTo w (number (length w.net.arcs) x.tick (1 + length w.net.arcs + a)) h
          legal_m = subst (λ k. LegalUpTo w k h) n_is legal

          at_m : AllAt (length w.net.arcs) (number (length w.net.arcs) x.tick (1 + length w.net.arcs + a)) es
          at_m = subst (λ k. AllAt (length w.net.arcs) k es) n_is at_now

          happens_m : HappensIn w h x.tick (Phase.arrivals a) es
          happens_m = subst (λ (m : Moment). Happens w h m es) (arrivals_at w n x.tick a a_lt n_is) happens

          go : (es ≡ []) ⊎ ((e : Ended) × (slice_get (Ends h a) (length (Arrivals h a)) ≡ Some e) × (e.tick + (arc w a).delay ≡ x.tick) × ((r : Outcome) × Result (Air w h a) e.ord r × WithDelivery w h x.tick a e.ord r es)) → ⊥
          go (inl empty) = let nothing : slice_get (Arrivals [] a) j ≡ Some x = subst (λ (l : History). slice_get (Arrivals l a) j ≡ Some x) empty at_j in cc nothing
          go (inr (e, at_e, due, (r, result, with'))) =
              let only = one_arrival w h es x.tick a a_lt e.ord r es with' in
              let same = single (record { tick = x.tick; arc = a; ord = e.ord; result = r }) j (ap (λ l. slice_get l j) (sym only) ∙ at_j) in
              let ord : e.ord ≡ x.ord = ap (λ (y : Arrive). y.ord) same in
              let place_is = (steady w n h a a_lt legal).ordered.end_places (length (Arrivals h a)) e at_e in
              let i_is : i ≡ length (Arrivals h a) = sym ((steady w (suc n) (h ++ es) a a_lt next_legal).ordered.arrival_places i x at) ∙ (sym ord ∙ place_is) in
              let before = as_before a a_lt (length (Arrivals h a)) (within (Ends h a) (length (Arrivals h a)) e at_e) (subst (Alias w (h ++ es) a) i_is alias) in
              no_next (x.tick, a, length (Arrivals h a), a_lt, n_is, (e, at_e, due, before))
            where
              single : (r : Arrive) (j : ℕ) → slice_get (r ∷ []) j ≡ Some x → r ≡ x
              single r zero at = cc at
              single r (suc j) at = absurd (cc at)

      pub none_still : (a i : ℕ) → i < length (Arrivals (h ++ es) a) → ¬ Alias w (h ++ es) a i
      none_still a i lt = go (there (Arrivals (h ++ es) a) i lt)
        where
          go : (x : Arrive) × (slice_get (Arrivals (h ++ es) a) i ≡ Some x) → ¬ Alias w (h ++ es) a i
          go (x, at) =
              let a_lt : a < length w.net.arcs = every_at (λ (x : Arrive). a < length w.net.arcs) (Arrivals (h ++ es) a) i x
              (every_selected (arrive_on a) (IsBefore (length w.net.arcs) (suc n)) (λ x. a < length w.net.arcs) (arrives_within (length w.net.arcs) (suc n) a) (h ++ es) (placed w (suc n) (h ++ es) next_legal)) at in
              elim (split_at (Arrivals h a) (Arrivals es a) i x (ap (λ l. slice_get l i) (sym (filter_map-append (arrive_on a) h es)) ∙ at)) [
                | inl old ↦ old_arrival a a_lt i (within (Arrivals h a) i x old)
                | inr new ↦ new_arrival a a_lt i new.0 x at new.1
              ]

    step : ((g : History) × LegalBefore w g (suc n)) ⊎ AliasNext w h n
    step = elim alias_next [
      | inl alias ↦ inr alias
      | inr no_next ↦ elim (progress w n h legal) [
        | inl (es, happens) ↦ inl (h ++ es, (next_legal es happens no_next, none_still es happens no_next))
        | inr alias ↦ inr alias
      ]
    ]

  -- there is a history that is legal before moment n, or one that meets an alias before
  pub goes_on : (n : ℕ) → ((h : History) × LegalBefore w h n) ⊎ ((m : ℕ) × (h : History) × (m < n) × LegalBefore w h m × AliasNext w h m)
  goes_on zero = inl ([], (refl, λ a i lt. absurd (omega (arith, lt))))
  goes_on (suc n) = elim (goes_on n) [
    | inr (m, h, lt, before, alias) ↦ inr (m, h, omega (arith, lt), before, alias)
    | inl (h, (legal, none)) ↦ elim (step n h legal none) [
      | inl more ↦ inl more
      | inr alias ↦ inr (n, h, omega arith, (legal, none), alias)
    ]
  ]

-- a history that is legal with no alias leaves none for an earlier moment
pub not_both : (w : Scenario) (n t a i : ℕ) (h g : History) → LegalBefore w h n → a < length w.net.arcs → moment_of w t (Phase.arrivals a) < n → LegalUpTo w (moment_of w t (Phase.arrivals a)) g → ArrivesAsAlias w g t a i → ⊥
not_both w n t a i h g (legal, none) a_lt m_lt g_legal (e, at', due, alias) = go (cut_at w n h m m_lt legal)
  where
    m : ℕ
    m = moment_of w t (Phase.arrivals a)

    go : (front : History) × (events : History) × (rest : History) × IsCutAt w m n h front events rest → ⊥
    go (front, events, rest, c) =
        let same : g ≡ front = legal_one one_given w m g front g_legal c.legal in
        let at : slice_get (Ends front a) i ≡ Some e = subst (λ (x : History). slice_get (Ends x a) i ≡ Some e) same at' in
        let joined : h ≡ front ++ (events ++ rest) = c.joined ∙ append_assoc front events rest in
        let whole : slice_get (Ends h a) i ≡ Some e = ap (λ l. slice_get l i) (ap (λ x. Ends x a) joined ∙ filter_map-append (ended_on a) front (events ++ rest)) ∙ at_front (Ends front a) (Ends (events ++ rest) a) i e at in
        let arrived : i < length (Arrivals h a) = (steady w n h a a_lt legal).arrived i e whole (subst (λ u. number (length w.net.arcs) u (1 + length w.net.arcs + a) < n) (sym due) m_lt) in
        let later = (following w m n h front events rest m_lt c).later in
        let old : Alias w front a i = subst (λ (y : History). Alias w y a i) same alias in
        let now : Alias w h a i = subst (λ (y : History). Alias w y a i) (sym joined)
        ((alias_stays w m n front (events ++ rest) c.legal later a a_lt i (within (Ends front a) i e at)).1 old) in
        none a i arrived now

-- a front of a history with no alias has none
pub no_alias_before : (w : Scenario) (m n : ℕ) (h front rest : History) → LegalBefore w h n → IsCut w m n h front rest → LegalBefore w front m
no_alias_before w m n h front rest legal c = (c.legal, none)
  where
    none : (a i : ℕ) → i < length (Arrivals front a) → ¬ Alias w front a i
    none a i lt alias =
        let x = there (Arrivals front a) i lt in
        let known : a < length w.net.arcs = every_at (λ (x : Arrive). a < length w.net.arcs) (Arrivals front a) i x.0
        (every_selected (arrive_on a) (IsBefore (length w.net.arcs) m) (λ x. a < length w.net.arcs) (arrives_within (length w.net.arcs) m a) front (placed w m front c.legal)) x.1 in
        let here : slice_get (Arrivals h a) i ≡ Some x.0 = ap (λ l. slice_get l i) (ap (λ l. Arrivals l a) c.joined ∙ filter_map-append (arrive_on a) front rest) ∙ at_front (Arrivals front a) (Arrivals rest a) i x.0 x.1 in
        let ended : i < length (Ends front a) = omega (arith, lt, (steady w m front a known c.legal).ordered.arrivals_ended) in
        legal.1 a i (within (Arrivals h a) i x.0 here) (subst (λ (l : History). Alias w l a i) (sym c.joined) ((alias_stays w m n front rest c.legal c.later a known i ended).1 alias))
