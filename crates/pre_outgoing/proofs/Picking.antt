-- What the start rule says begins, told to the sender.
use Rattle.std.proofs.Common.{ℕ, zero, suc, ◌≡◌, ◌⊎◌, ◌%◌, ◌<◌, ◌≤◌, Bool, true, false, List, [], ◌∷◌, refl, sym, ◌∙◌, ap, inl, inr, arith, Option, Some, None}
use Rattle.std.proofs.lemmas.Bool.{cases_lt}
use Rattle.pre_base.specs.declared.numbers.FrameNo.{FrameNo}
use Rattle.pre_mpacket.specs.declared.packets.Kind.{Kind}
use Rattle.pre_mpacket.specs.declared.packets.Kind.TheVariants as kind
use Rattle.pre_mpacket.specs.Arrivals.{is_start, is_continue}
use Rattle.pre_rings.specs.declared.slots.FrameRef.{FrameRef}
use Rattle.pre_send.specs.Calls.{Chosen, express, whole, first, rest, verify, respond, lldp}
use Rattle.pre_send.specs.Sendings.{Part}
use Rattle.pre_send.specs.Answers.{is_part}
use Rattle.pre_history.specs.declared.events.What.TheVariants as what
use Rattle.pre_history.specs.Scenario.{Scenario, arc}
use Rattle.pre_history.specs.History.{History}
use Rattle.pre_history.specs.Queries.{Rest, Interrupted, Waiting}
use Rattle.pre_history.specs.Starts.{Item, Choice, place, whole_frame, rest_begins, without_octets, lldp_begins, ExpressWaits, IsFront, starts_before, There}
use Rattle.pre_outgoing.specs.Matching.{IsTold}
use Rattle.pre_outgoing.proofs.Readings.{rest_as, LeavesOver, Picks}

less_or_same : (i j : ℕ) → i < suc j → (i < j) ⊎ (i ≡ j)
less_or_same i j lt = grind arith

-- the highest priority at which a frame waits, of those from low up to high
highest : (w : Scenario) (h : History) (a t low high : ℕ) → ((q : ℕ) → low ≤ q → q < high → Waiting h a q t ≡ []) ⊎ ((f : ℕ) × IsFront w h a t low high f)
highest w h a t low zero = inl (λ q le lt. absurd (omega (arith, lt)))
highest w h a t low (suc n) = go (Waiting h a n t) refl (highest w h a t low n)
  where
    go : (xs : List ℕ) → Waiting h a n t ≡ xs → (((q : ℕ) → low ≤ q → q < n → Waiting h a q t ≡ []) ⊎ ((f : ℕ) × IsFront w h a t low n f))
        → ((q : ℕ) → low ≤ q → q < suc n → Waiting h a q t ≡ []) ⊎ ((f : ℕ) × IsFront w h a t low (suc n) f)
    go [] is (inl none) = inl (λ q le lt. elim (less_or_same q n lt) [ inl less ↦ none q le less | inr same ↦ ap (λ p. Waiting h a p t) same ∙ is ])
    go [] is (inr (f, (p, le, lt, (behind, waits), above))) =
        inr (f, (p, le, omega (arith, lt), (behind, waits), λ q more less. elim (less_or_same q n less) [ inl lt' ↦ above q more lt' | inr same ↦ ap (λ p. Waiting h a p t) same ∙ is ]))
    go (f ∷ behind) is old = elim (cases_lt n low) [
      | inl lt ↦ inl (λ q le less. absurd (omega (arith, lt, le, less)))
      | inr le ↦ inr (f, (n, le, omega arith, (behind, is), λ q more less. absurd (omega (arith, more, less))))
    ]

abbrev is_bare : Kind → Bool
is_bare kind.Verify = true
is_bare kind.Respond = true
is_bare other = false

module _ (w : Scenario) (h : History) (a t : ℕ) where
  -- where the rule finds no express frame, none waits
  none_waits : ((d : Choice) → ¬ There w h a t Item.express d) → ¬ ExpressWaits w h a t
  none_waits none (p, from, below, some) = elim (highest w h a t (arc w a).express_from 8) [
    | inl empty ↦ some (empty p from below)
    | inr found ↦ none (whole_frame found.0 kind.Express) (found.0, found.1, refl)
  ]

  -- a frame is named by its number
  number_is : (f : ℕ) (g : FrameNo) (k : Kind) (c : Choice) → c ≡ whole_frame f k → c.what ≡ what.Frame g → c ≡ whole_frame g.0 k
  number_is f g k c is carries =
      let made : FrameNo = record { 0 = f } in
      let same : what.Frame made ≡ what.Frame g = sym (ap (λ (x : Choice). x.what) is) ∙ carries in
      let one : made ≡ g = cc same in
      is ∙ ap (λ (x : FrameNo). whole_frame x.0 k) one

  module _ (left : Option Part) (began : ℕ) (leaves : LeavesOver w h a t left began) (count : starts_before w h a t ≡ began) (c : Choice) where
    rest_is : (o : Option Part) → LeavesOver w h a t o began → (r : Rest) → Interrupted w h a t r → c ≡ rest_begins r → (x : Part) × (o ≡ Some x) × (c ≡ rest_begins (rest_as began x))
    rest_is None none r is begins = absurd (none r is)
    rest_is (Some x) some r is begins = (x, refl, begins ∙ ap rest_begins ((some r).0 is))

    in_one : (g : FrameRef) (i : Item) → There w h a t i c → c.kind ≡ kind.Express → c.what ≡ what.Frame g.frame → c ≡ whole_frame g.frame.0 kind.Express
    in_one g Item.express (f, front, is) kind_is carries = number_is f g.frame kind.Express c is carries
    in_one g Item.respond (mode, owed, is) kind_is carries = absurd (cc (kind_is, ap (λ (x : Choice). x.kind) is))
    in_one g Item.verify (mode, owed, is) kind_is carries = absurd (cc (kind_is, ap (λ (x : Choice). x.kind) is))
    in_one g Item.lldp (mode, owed, is) kind_is carries = absurd (cc (carries, ap (λ (x : Choice). x.what) is))
    in_one g Item.rest (r, interrupted, is) kind_is carries = absurd (cc (kind_is, ap (λ (x : Choice). x.kind) is))
    in_one g Item.preemptable (f, k, front, goes, is) kind_is carries =
        let same : k ≡ kind.Express = sym (ap (λ (x : Choice). x.kind) is) ∙ kind_is in
        number_is f g.frame kind.Express c (is ∙ ap (whole_frame f) same) carries

    first_one : (g : FrameRef) (i : Item) → There w h a t i c → is_start c.kind ≡ true → c.what ≡ what.Frame g.frame → c ≡ whole_frame g.frame.0 (kind.Start (began % 4))
    first_one g Item.express (f, front, is) start carries = absurd (cc start)
    first_one g Item.respond (mode, owed, is) start carries = absurd (cc start)
    first_one g Item.verify (mode, owed, is) start carries = absurd (cc start)
    first_one g Item.lldp (mode, owed, is) start carries = absurd (cc start)
    first_one g Item.rest (r, interrupted, is) start carries = absurd (cc start)
    first_one g Item.preemptable (f, k, front, inl (active, k_is), is) start carries =
        number_is f g.frame (kind.Start (began % 4)) c (is ∙ ap (whole_frame f) (k_is ∙ ap (λ n. kind.Start (n % 4)) count)) carries
    first_one g Item.preemptable (f, k, front, inr (inactive, may, k_is), is) start carries = absurd (cc (start, ap is_start k_is))

    rest_one : (i : Item) → There w h a t i c → is_continue c.kind ≡ true → (x : Part) × (left ≡ Some x) × (c ≡ rest_begins (rest_as began x))
    rest_one Item.express (f, front, is) more = absurd (cc more)
    rest_one Item.respond (mode, owed, is) more = absurd (cc more)
    rest_one Item.verify (mode, owed, is) more = absurd (cc more)
    rest_one Item.lldp (mode, owed, is) more = absurd (cc more)
    rest_one Item.rest (r, interrupted, is) more = rest_is left leaves r interrupted is
    rest_one Item.preemptable (f, k, front, inl (active, k_is), is) more = absurd (cc (more, ap (λ (x : Choice). is_continue x.kind) is, ap is_continue k_is))
    rest_one Item.preemptable (f, k, front, inr (inactive, may, k_is), is) more = absurd (cc (more, ap (λ (x : Choice). is_continue x.kind) is, ap is_continue k_is))

    no_frame : (k : Kind) (i : Item) → There w h a t i c → c.kind ≡ k → is_bare k ≡ true → c ≡ without_octets k
    no_frame k Item.express (f, front, is) kind_is which = absurd (cc which)
    no_frame k Item.respond (mode, owed, is) kind_is which = is ∙ ap without_octets (sym (ap (λ (x : Choice). x.kind) is) ∙ kind_is)
    no_frame k Item.verify (mode, owed, is) kind_is which = is ∙ ap without_octets (sym (ap (λ (x : Choice). x.kind) is) ∙ kind_is)
    no_frame k Item.lldp (mode, owed, is) kind_is which = absurd (cc which)
    no_frame k Item.rest (r, interrupted, is) kind_is which = absurd (cc which)
    no_frame k Item.preemptable (f, j, front, inl (active, k_is), is) kind_is which = absurd (cc (ap is_bare k_is, which))
    no_frame k Item.preemptable (f, j, front, inr (inactive, may, k_is), is) kind_is which = absurd (cc (ap is_bare k_is, which))

    advert : (i : Item) → There w h a t i c → c.what ≡ what.Lldp → c ≡ lldp_begins
    advert Item.express (f, front, is) carries = absurd (cc (carries, ap (λ (x : Choice). x.what) is))
    advert Item.respond (mode, owed, is) carries = absurd (cc (carries, ap (λ (x : Choice). x.what) is))
    advert Item.verify (mode, owed, is) carries = absurd (cc (carries, ap (λ (x : Choice). x.what) is))
    advert Item.lldp (mode, owed, is) carries = is
    advert Item.rest (r, interrupted, is) carries = absurd (cc (carries, ap (λ (x : Choice). x.what) is))
    advert Item.preemptable (f, k, front, goes, is) carries = absurd (cc (carries, ap (λ (x : Choice). x.what) is))

    pub picks : (i : Item) → There w h a t i c → (ch : Chosen) → IsTold w ch c → Picks w ch left began c
    picks i there (express f) (kind_is, carries, sized) = (in_one f i there kind_is carries, sized)
    picks i there (whole f) (kind_is, carries, sized) = (in_one f i there kind_is carries, sized)
    picks i there (first f) (start, carries, sized) = (first_one f i there start carries, sized)
    picks i there rest more = rest_one i there more
    picks i there verify is = no_frame kind.Verify i there is refl
    picks i there respond is = no_frame kind.Respond i there is refl
    picks i there lldp is = advert i there is

    -- a fragment begins where no express frame waits
    pub quiet : (i : Item) → There w h a t i c → ((j : Item) (d : Choice) → place j < place i → ¬ There w h a t j d) → (ch : Chosen) → IsTold w ch c → is_part ch ≡ true → ¬ ExpressWaits w h a t
    quiet Item.express (f, front, is) before (first g) (start, carries, sized) part = absurd (cc start)
    quiet Item.express (f, front, is) before rest more part = absurd (cc more)
    quiet Item.express there before (express g) told part = absurd (cc part)
    quiet Item.express there before (whole g) told part = absurd (cc part)
    quiet Item.express there before verify told part = absurd (cc part)
    quiet Item.express there before respond told part = absurd (cc part)
    quiet Item.express there before lldp told part = absurd (cc part)
    quiet Item.respond there before ch told part = none_waits (λ d. before Item.express d (omega arith))
    quiet Item.verify there before ch told part = none_waits (λ d. before Item.express d (omega arith))
    quiet Item.lldp there before ch told part = none_waits (λ d. before Item.express d (omega arith))
    quiet Item.rest there before ch told part = none_waits (λ d. before Item.express d (omega arith))
    quiet Item.preemptable there before ch told part = none_waits (λ d. before Item.express d (omega arith))
