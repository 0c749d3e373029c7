-- The first octet of a frame begins once on an arc, and so does its last one.
use Rattle.std.proofs.Common.{ℕ, zero, suc, ◌≡◌, ◌⊎◌, ◌+◌, ◌<◌, ◌≤◌, Bool, true, false, length, refl, sym, ◌∙◌, ap, inl, inr, arith, Some}
use Rattle.std.specs.Prelude.{slice_get}
use Rattle.pre_base.specs.declared.numbers.FrameNo.{FrameNo}
use Rattle.pre_mpacket.specs.declared.packets.Kind.TheVariants as kind
use Rattle.pre_mpacket.specs.Arrivals.{is_fragment, is_start}
use Rattle.pre_history.specs.declared.events.What.TheVariants as what
use Rattle.pre_history.specs.Scenario.{Scenario, FrameOf}
use Rattle.pre_history.specs.History.{History, Begin, Ended}
use Rattle.pre_history.specs.Queries.{Begins, Ends}
use Rattle.pre_history.specs.Starts.{Item, Choice, There}
use Rattle.pre_history.specs.Legal.{LegalUpTo}
use Rattle.pre_history.proofs.Lists.{one_at}
use Rattle.pre_laws.specs.Routed.{IsRouted}
use Rattle.pre_laws.proofs.Begun.{choice_of, by_item}
use Rattle.pre_laws.proofs.Routed.{at_front_of, start_fragment}
use Rattle.pre_laws.proofs.RunSteps.{Joins, fragment_at}
use Rattle.pre_history.proofs.Rising.{rises}

order : (m n : ℕ) → (m ≡ n) ⊎ (m < n) ⊎ (n < m)
order m n = grind arith

pub same_frame : (f g : FrameNo) → what.Frame f ≡ what.Frame g → f ≡ g
same_frame f g is = cc is

module _ (w : Scenario) (routed : IsRouted w) (n : ℕ) (h : History) (legal : LegalUpTo w n h) (a : ℕ) (a_lt : a < length w.net.arcs) where
  abbrev pub Carries : (i : ℕ) (b : Begin) (f : FrameNo) → Type 0
  Carries i b f = (slice_get (Begins h a) i ≡ Some b) × (b.what ≡ what.Frame f)

  pub goes_on : (j : ℕ) (d : Begin) → slice_get (Begins h a) j ≡ Some d → is_fragment d.kind ≡ true → is_start d.kind ≡ false → 60 ≤ d.from
  goes_on j d at on off = go (fragment_at w routed n h legal a a_lt j d at on).1
    where
      go : Joins w routed n h legal a a_lt j d → 60 ≤ d.from
      go (inl (start, from)) = absurd (cc (sym start ∙ off))
      go (inr (k, b, r, c)) = let x = c.from in let y = c.least in omega (arith, x, y)

  -- what begins from a first octet of a frame stood at the front of its ring
  fresh_at : (j : ℕ) (d : Begin) (f : FrameNo) → Carries j d f → d.from ≡ 0 → (i : ℕ) (b : Begin) → Carries i b f → b.from ≡ 0 → b.tick < d.tick → ⊥
  fresh_at j d f (at, carries) from i b (at', carries') from' lt = let it = by_item w n h legal a a_lt j d at in go it.0 it.1
    where
      go : (it : Item) → There w h a d.tick it (choice_of d) → ⊥
      go Item.express (g, (p, low, high, (behind, waits), above), is) = (at_front_of h a p d.tick g behind waits).fresh i b at' lt (carries' ∙ (sym carries ∙ ap (λ (c : Choice). c.what) is)) from'
      go Item.preemptable (g, k, (p, low, high, (behind, waits), above), as', is) = (at_front_of h a p d.tick g behind waits).fresh i b at' lt (carries' ∙ (sym carries ∙ ap (λ (c : Choice). c.what) is)) from'
      go Item.respond (on, owed, is) = cc (sym carries ∙ ap (λ (c : Choice). c.what) is)
      go Item.verify (on, wanted, is) = cc (sym carries ∙ ap (λ (c : Choice). c.what) is)
      go Item.lldp (on, wanted, is) = cc (sym carries ∙ ap (λ (c : Choice). c.what) is)
      go Item.rest (left, interrupted, is) =
          let long = goes_on j d at (ap (λ (c : Choice). is_fragment c.kind) is) (ap (λ (c : Choice). is_start c.kind) is) in omega (arith, long, from)

  pub begins_once : (i j : ℕ) (b d : Begin) (f : FrameNo) → Carries i b f → Carries j d f → b.from ≡ 0 → d.from ≡ 0 → i ≡ j
  begins_once i j b d f x y from from' = elim (order i j) [
    | inl same ↦ same
    | inr (inl less) ↦ absurd (fresh_at j d f y from' i b x from (rises w n h legal a a_lt i j b d less x.0 y.0))
    | inr (inr more) ↦ absurd (fresh_at i b f x from j d y from' (rises w n h legal a a_lt j i d b more y.0 x.0))
  ]

  -- where an mPacket's frame began
  pub record Since (i : ℕ) (b : Begin) (f : FrameNo) : Type 0 where
    pub place : ℕ
    pub first : Begin
    pub first_at : Carries place first f
    pub from : first.from ≡ 0
    pub before : place ≤ i
    pub run : (place ≡ i) ⊎ ((is_start first.kind ≡ true) × (is_fragment b.kind ≡ true))

  pub whole_from : (i : ℕ) (b : Begin) (f : FrameNo) → Carries i b f → is_fragment b.kind ≡ false → (b.from ≡ 0) × (b.kind ≡ kind.Express)
  whole_from i b f (at, carries) off = let it = by_item w n h legal a a_lt i b at in go it.0 it.1
    where
      go : (it : Item) → There w h a b.tick it (choice_of b) → (b.from ≡ 0) × (b.kind ≡ kind.Express)
      go Item.express (g, front, is) = (ap (λ (c : Choice). c.from) is, ap (λ (c : Choice). c.kind) is)
      go Item.preemptable (g, k, front, inl (active, k_is), is) = absurd (cc (sym off ∙ (ap (λ (c : Choice). is_fragment c.kind) is ∙ ap is_fragment k_is)))
      go Item.preemptable (g, k, front, inr (inactive, passes, k_is), is) = (ap (λ (c : Choice). c.from) is, ap (λ (c : Choice). c.kind) is ∙ k_is)
      go Item.respond (on, owed, is) = absurd (cc (sym carries ∙ ap (λ (c : Choice). c.what) is))
      go Item.verify (on, wanted, is) = absurd (cc (sym carries ∙ ap (λ (c : Choice). c.what) is))
      go Item.lldp (on, wanted, is) = absurd (cc (sym carries ∙ ap (λ (c : Choice). c.what) is))
      go Item.rest (left, interrupted, is) = absurd (cc (sym off ∙ ap (λ (c : Choice). is_fragment c.kind) is))

  pub since : (i : ℕ) (b : Begin) (f : FrameNo) → Carries i b f → Since i b f
  since i b f (at, carries) = go (is_fragment b.kind) refl
    where
      go : (x : Bool) → is_fragment b.kind ≡ x → Since i b f
      go true on =
          let r = (fragment_at w routed n h legal a a_lt i b at on).0 in
          let same : r.frame ≡ f = same_frame r.frame f (sym r.carries ∙ carries) in
          record { place = r.first_place; first = r.first; first_at = (r.first_begun, r.first_carries ∙ ap what.Frame same); from = r.first_from; before = r.first_before; run = inr (ap is_start r.first_kind, on) }
      go false off = record { place = i; first = b; first_at = (at, carries); from = (whole_from i b f (at, carries) off).0; before = omega arith; run = inl refl }

  module _ (i : ℕ) (b : Begin) (f : FrameNo) (x : Carries i b f) (e : Ended) (over : slice_get (Ends h a) i ≡ Some e) (on : is_fragment b.kind ≡ true) where
    -- a fragment before another one of its frame isn't its last one
    fragment_before : (fuel j : ℕ) (d : Begin) → j ≤ fuel → i < j → Carries j d f → is_fragment d.kind ≡ true → b.from + e.size < length (FrameOf w f.0)
    fragment_before zero j d le lt y on' = absurd (omega (arith, le, lt))
    fragment_before (suc fuel) j d le lt (at, carries) on' = go (fragment_at w routed n h legal a a_lt j d at on').1 (λ k c le' more z on''. fragment_before fuel k c le' more z on'')
      where
        go : Joins w routed n h legal a a_lt j d → ((k : ℕ) (c : Begin) → k ≤ fuel → i < k → Carries k c f → is_fragment c.kind ≡ true → b.from + e.size < length (FrameOf w f.0)) → b.from + e.size < length (FrameOf w f.0)
        go (inl (start, from)) rec =
            let s = since i b f x in
            let same = begins_once s.place j s.first d f s.first_at (at, carries) s.from from in
            let early = s.before in
            absurd (omega (arith, same, early, lt))
        go (inr (k, c, r, goes)) rec =
            let same : r.frame ≡ f = same_frame r.frame f (sym goes.carries ∙ carries) in
            elim (order i k) [
              | inr (inr more) ↦ absurd (cc (sym on ∙ r.none_since i b more lt x.0))
              | inr (inl less) ↦ rec k c (let y = r.below in omega (arith, y, le)) less (r.begun, r.carries ∙ ap what.Frame same) r.fragment
              | inl here ↦
                  let b_is : c ≡ b = one_at (Begins h a) i c b (ap (slice_get (Begins h a)) here ∙ r.begun) x.0 in
                  let e_is : goes.ended ≡ e = one_at (Ends h a) i goes.ended e (ap (slice_get (Ends h a)) here ∙ goes.over) over in
                  let from_is = ap (λ (z : Begin). z.from) b_is in
                  let size_is = ap (λ (z : Ended). z.size) e_is in
                  let long = ap (λ (z : FrameNo). length (FrameOf w z.0)) same in
                  let from = goes.from in
                  let left = goes.left in
                  let least = goes.least in
                  omega (arith, from, left, from_is, size_is, long, least)
            ]

  -- nor is any mPacket before another one of its frame
  pub not_last : (i j : ℕ) (b d : Begin) (f : FrameNo) (e : Ended) → i < j → Carries i b f → Carries j d f → slice_get (Ends h a) i ≡ Some e → b.from + e.size < length (FrameOf w f.0)
  not_last i j b d f e lt x y over = go s.run t.run
    where
      s : Since i b f
      s = since i b f x

      t : Since j d f
      t = since j d f y

      same : s.place ≡ t.place
      same = begins_once s.place t.place s.first t.first f s.first_at t.first_at s.from t.from

      first_is : s.first ≡ t.first
      first_is = one_at (Begins h a) t.place s.first t.first (ap (slice_get (Begins h a)) (sym same) ∙ s.first_at.0) t.first_at.0

      go : (s.place ≡ i) ⊎ ((is_start s.first.kind ≡ true) × (is_fragment b.kind ≡ true)) → (t.place ≡ j) ⊎ ((is_start t.first.kind ≡ true) × (is_fragment d.kind ≡ true)) → b.from + e.size < length (FrameOf w f.0)
      go own (inl here) = absurd (let early = s.before in omega (arith, here, same, early, lt))
      go (inr (start, on)) (inr (start', on')) = fragment_before i b f x e over on j j d (omega arith) lt y on'
      go (inl here) (inr (start', on')) =
          let b_is : s.first ≡ b = one_at (Begins h a) i s.first b (ap (slice_get (Begins h a)) (sym here) ∙ s.first_at.0) x.0 in
          let on : is_fragment b.kind ≡ true = start_fragment b.kind (ap (λ (z : Begin). is_start z.kind) (sym b_is ∙ first_is) ∙ start') in
          fragment_before i b f x e over on j j d (omega arith) lt y on'

  -- so one mPacket at most carries the last octets of a frame
  pub one_last : (i j : ℕ) (b d : Begin) (f : FrameNo) (e e' : Ended) → Carries i b f → Carries j d f → slice_get (Ends h a) i ≡ Some e → slice_get (Ends h a) j ≡ Some e'
      → b.from + e.size ≡ length (FrameOf w f.0) → d.from + e'.size ≡ length (FrameOf w f.0) → i ≡ j
  one_last i j b d f e e' x y over over' full full' = elim (order i j) [
    | inl same ↦ same
    | inr (inl less) ↦ absurd (let short = not_last i j b d f e less x y over in omega (arith, short, full))
    | inr (inr more) ↦ absurd (let short = not_last j i d b f e' more y x over' in omega (arith, short, full'))
  ]
