-- What begins on an arc of a legal history is decided.
use Rattle.std.proofs.Common.{ℕ, zero, suc, ◌≡◌, ◌≢◌, ◌⊎◌, ◌%◌, ◌<◌, ◌≤◌, List, [], ◌∷◌, ◌++◌, length}
use Rattle.std.proofs.Common.{refl, sym, ◌∙◌, ap, inl, inr, arith, subst, Option, Some, None}
use Rattle.std.specs.Prelude.{MatchOption}
use Rattle.std.specs.List.{AllByRecursion as Every}
use Rattle.std.proofs.lemmas.Bool.{cases_lt}
use Rattle.pre_topo.specs.declared.arcs.Mode.{Mode}
use Rattle.pre_topo.specs.declared.arcs.Mode.TheVariants as mode
use Rattle.pre_topo.specs.declared.arcs.Policy.{Policy}
use Rattle.pre_topo.specs.declared.arcs.Policy.TheVariants as policy
use Rattle.pre_mpacket.specs.declared.packets.Kind.{Kind}
use Rattle.pre_mpacket.specs.declared.packets.Kind.TheVariants as kind
use Rattle.pre_history.specs.Scenario.{Scenario, arc, FrameOf}
use Rattle.pre_history.specs.History.{History, Ended}
use Rattle.pre_history.specs.Selected.{frame_number}
use Rattle.pre_history.specs.Queries.{Packet, LastRun, Rest, Waiting, Interrupted, joined_data, last_check, rest_of}
use Rattle.pre_history.specs.Starts.{Item, place, Choice, whole_frame, rest_begins, without_octets, lldp_begins, IsFront, starts_before, PreemptableAs, There, StartRule}
use Rattle.pre_history.specs.Legal.{LegalUpTo}
use Rattle.pre_history.proofs.Starts.{place_one}
use Rattle.pre_history.proofs.Decided.{occupied_decided}
use Rattle.pre_mpacket.proofs.Decisions.{IsDecided, both, one_of, negated, equal, at_most, equal_lists}
use Rattle.pre_history.proofs.RunsStay.{EndedBy}
use Rattle.pre_history.proofs.LinksDecided.{is_negotiate, active_decided, owed_decided, verify_wanted_decided, lldp_wanted_decided}
use Rattle.pre_history.proofs.StartsRead.{place_bound}

is_off : (m : Mode) → IsDecided (m ≡ mode.Off)
is_off mode.Off = inl refl
is_off mode.On = inr (λ e. cc e)
is_off mode.Negotiate = inr (λ e. cc e)

is_pass : (p : Policy) → IsDecided (p ≡ policy.Pass)
is_pass policy.Pass = inl refl
is_pass policy.Quiet = inr (λ e. cc e)

every_decided : {X : Type 0} (P : X → Type 0) → ((x : X) → IsDecided (P x)) → (xs : List X) → IsDecided (Every P xs)
every_decided P decided [] = inl tt
every_decided P decided (x ∷ xs) = both (decided x) (every_decided P decided xs)

-- the item with a place in the order
at_place : (n : ℕ) → ((i : Item) × (place i ≡ n)) ⊎ ((i : Item) → place i ≢ n)
at_place n = elim (equal n 1) [
  | inl e ↦ inl (Item.express, sym e)
  | inr n1 ↦ elim (equal n 2) [
    | inl e ↦ inl (Item.respond, sym e)
    | inr n2 ↦ elim (equal n 3) [
      | inl e ↦ inl (Item.verify, sym e)
      | inr n3 ↦ elim (equal n 4) [
        | inl e ↦ inl (Item.lldp, sym e)
        | inr n4 ↦ elim (equal n 5) [
          | inl e ↦ inl (Item.rest, sym e)
          | inr n5 ↦ elim (equal n 6) [
            | inl e ↦ inl (Item.preemptable, sym e)
            | inr n6 ↦ inr (none n n1 n2 n3 n4 n5 n6)
          ]
        ]
      ]
    ]
  ]
]
  where
    none : (n : ℕ) → n ≢ 1 → n ≢ 2 → n ≢ 3 → n ≢ 4 → n ≢ 5 → n ≢ 6 → (i : Item) → place i ≢ n
    none n n1 n2 n3 n4 n5 n6 Item.express e = n1 (sym e)
    none n n1 n2 n3 n4 n5 n6 Item.respond e = n2 (sym e)
    none n n1 n2 n3 n4 n5 n6 Item.verify e = n3 (sym e)
    none n n1 n2 n3 n4 n5 n6 Item.lldp e = n4 (sym e)
    none n n1 n2 n3 n4 n5 n6 Item.rest e = n5 (sym e)
    none n n1 n2 n3 n4 n5 n6 Item.preemptable e = n6 (sym e)

module _ (w : Scenario) (h : History) (a t : ℕ) where
  -- the front of the highest priority below `high` at which a frame waits
  pub front_found : (low high : ℕ) → ((f : ℕ) × IsFront w h a t low high f) ⊎ ((p : ℕ) → low ≤ p → p < high → Waiting h a p t ≡ [])
  front_found low zero = inr (λ p from lt. absurd (omega (arith, lt)))
  front_found low (suc high) = elim (at_most low high) [
    | inr above ↦ inr (λ p from lt. absurd (above (omega (arith, from, lt))))
    | inl from ↦ go (Waiting h a high t) refl from (front_found low high)
  ]
    where
      go : (xs : List ℕ) → Waiting h a high t ≡ xs → low ≤ high → ((f : ℕ) × IsFront w h a t low high f) ⊎ ((p : ℕ) → low ≤ p → p < high → Waiting h a p t ≡ []) → ((f : ℕ) × IsFront w h a t low (suc high) f) ⊎ ((p : ℕ) → low ≤ p → p < suc high → Waiting h a p t ≡ [])
      go (f ∷ behind) is from below = inl (f, (high, from, omega arith, (behind, is), λ q lt lt'. absurd (omega (arith, lt, lt'))))
      go [] is from below = elim below [
        | inl (f, (p, from', to, waits, above)) ↦ inl (
          f,
          (
            p,
            from',
            omega (arith, to),
            waits,
            λ q lt lt'. elim (cases_lt q high) [
              | inl less ↦ above q lt less
              | inr more ↦ let same : high ≡ q = omega (arith, more, lt') in subst (λ x. Waiting h a x t ≡ []) same is
            ],
          ),
        )
        | inr none ↦ inr (λ q from' lt'. elim (cases_lt q high) [
          | inl less ↦ none q from' less
          | inr more ↦ let same : high ≡ q = omega (arith, more, lt') in subst (λ x. Waiting h a x t ≡ []) same is
        ])
      ]

  no_front : (low high f : ℕ) → ((p : ℕ) → low ≤ p → p < high → Waiting h a p t ≡ []) → ¬ IsFront w h a t low high f
  no_front low high f none (p, from, to, (behind, is), above) = cc (sym (none p from to) ∙ is)

  ended_by : (p : Packet) → IsDecided (EndedBy t p)
  ended_by p = go p.ended
    where
      go : (o : Option Ended) → IsDecided (MatchOption o ⊥ (λ e. e.tick ≤ t))
      go None = inr (λ x. x)
      go (Some e) = at_most e.tick t

  left_found : ((r : Rest) × Interrupted w h a t r) ⊎ ((r : Rest) → ¬ Interrupted w h a t r)
  left_found = go (LastRun h a t) refl
    where
      go : (run : List Packet) → LastRun h a t ≡ run → ((r : Rest) × Interrupted w h a t r) ⊎ ((r : Rest) → ¬ Interrupted w h a t r)
      go [] is = inr (λ r (first, more, run, ended, cut, left). absurd (cc (sym is ∙ run)))
      go (first ∷ more) is = elim (both (every_decided (EndedBy t) ended_by (first ∷ more)) (negated (equal_lists (joined_data w h (first ∷ more) ++ last_check w h (first ∷ more)) (FrameOf w (frame_number first.begin.what))))) [
        | inl (ended, cut) ↦ inl (rest_of w h first more, (first, more, is, ended, cut, refl))
        | inr nay ↦ inr (λ r (first', more', run, ended, cut, left).
            let same : first' ∷ more' ≡ first ∷ more = sym run ∙ is in
            let head : first' ≡ first = cc same in
            nay (
              subst (Every (EndedBy t)) same ended,
              (λ e. cut (ap (λ l. joined_data w h l ++ last_check w h l) same ∙ (e ∙ ap (λ (p : Packet). FrameOf w (frame_number p.begin.what)) (sym head)))),
            ))
      ]

module _ (w : Scenario) (n : ℕ) (h : History) (legal : LegalUpTo w n h) (a : ℕ) (a_lt : a < length w.net.arcs) (t : ℕ) where
  as_found : ((k : Kind) × PreemptableAs w h a t k) ⊎ ((k : Kind) → ¬ PreemptableAs w h a t k)
  as_found = elim (active_decided w n h legal a a_lt t) [
    | inl now ↦ inl (kind.Start (starts_before w h a t % 4), inl (now, refl))
    | inr not_now ↦ elim (one_of (is_off (arc w a).mode) (is_pass (arc w a).policy)) [
      | inl may ↦ inl (kind.Express, inr (not_now, may, refl))
      | inr nay ↦ inr (λ k x. elim x [ inl as' ↦ not_now as'.0 | inr as' ↦ nay as'.1 ])
    ]
  ]

  pub item_found : (i : Item) → ((c : Choice) × There w h a t i c) ⊎ ((c : Choice) → ¬ There w h a t i c)
  item_found Item.express = elim (front_found w h a t (arc w a).express_from 8) [
    | inl (f, front) ↦ inl (whole_frame f kind.Express, (f, front, refl))
    | inr none ↦ inr (λ c (f, front, is). no_front w h a t (arc w a).express_from 8 f none front)
  ]
  item_found Item.respond = elim (both (is_negotiate (arc w a).mode) (owed_decided w n h legal a a_lt t)) [
    | inl (talks, owed) ↦ inl (without_octets kind.Respond, (talks, owed, refl))
    | inr nay ↦ inr (λ c (talks, owed, is). nay (talks, owed))
  ]
  item_found Item.verify = elim (both (is_negotiate (arc w a).mode) (verify_wanted_decided w n h legal a a_lt t)) [
    | inl (talks, wants) ↦ inl (without_octets kind.Verify, (talks, wants, refl))
    | inr nay ↦ inr (λ c (talks, wants, is). nay (talks, wants))
  ]
  item_found Item.lldp = elim (both (is_negotiate (arc w a).mode) (lldp_wanted_decided w n h legal a a_lt t)) [
    | inl (talks, wants) ↦ inl (lldp_begins, (talks, wants, refl))
    | inr nay ↦ inr (λ c (talks, wants, is). nay (talks, wants))
  ]
  item_found Item.rest = elim (left_found w h a t) [
    | inl (r, left) ↦ inl (rest_begins r, (r, left, refl))
    | inr none ↦ inr (λ c (r, left, is). none r left)
  ]
  item_found Item.preemptable = elim (front_found w h a t 0 (arc w a).express_from) [
    | inr none ↦ inr (λ c (f, k, front, as', is). no_front w h a t 0 (arc w a).express_from f none front)
    | inl (f, front) ↦ elim as_found [
      | inl (k, as') ↦ inl (whole_frame f k, (f, k, front, as', refl))
      | inr none ↦ inr (λ c (g, k, front', as', is). none k as')
    ]
  ]

  -- the first item that is there, of those with a place below n
  first_found : (n : ℕ) → ((i : Item) × (c : Choice) × There w h a t i c × ((j : Item) (d : Choice) → place j < place i → ¬ There w h a t j d)) ⊎ ((j : Item) (d : Choice) → place j < n → ¬ There w h a t j d)
  first_found zero = inr (λ j d lt. absurd (omega (arith, lt)))
  first_found (suc n) = elim (first_found n) [
    | inl found ↦ inl found
    | inr none ↦ elim (at_place n) [
      | inr nowhere ↦ inr (λ j d lt. elim (cases_lt (place j) n) [ inl less ↦ none j d less | inr more ↦ absurd (nowhere j (omega (arith, more, lt))) ])
      | inl (i, is) ↦ elim (item_found i) [
        | inl (c, there) ↦ inl (i, c, there, λ j d lt. none j d (omega (arith, lt, is)))
        | inr nay ↦ inr (λ j d lt. elim (cases_lt (place j) n) [
          | inl less ↦ none j d less
          | inr more ↦ let same : i ≡ j = place_one i j (omega (arith, is, more, lt)) in subst (λ x. ¬ There w h a t x d) same (nay d)
        ])
      ]
    ]
  ]

  pub start_found : ((c : Choice) × StartRule w h a t c) ⊎ ((c : Choice) → ¬ StartRule w h a t c)
  unfolding StartRule
  start_found = elim (occupied_decided w h a t) [
    | inl busy ↦ inr (λ c rule. rule.0 busy)
    | inr free ↦ elim (first_found 7) [
      | inl (i, c, there, first) ↦ inl (c, (free, (i, there, first)))
      | inr none ↦ inr (λ c rule. none rule.1.0 c (place_bound rule.1.0) rule.1.1)
    ]
  ]
