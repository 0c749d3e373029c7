-- Whether an mPacket that ended is an alias, by its events; that is decided, and later events don't change it.
use Rattle.std.proofs.Common.{ℕ, ◌≡◌, ◌≢◌, ◌⊎◌, ◌+◌, ◌<◌, List, ◌++◌, length, refl, sym, ◌∙◌, ap, inl, inr, arith, subst, Some}
use Rattle.std.specs.Prelude.{◌↔◌, slice_get}
use Rattle.std.proofs.lemmas.List.Elements.{filter_map-append}
use Rattle.pre_mpacket.specs.declared.packets.Kind.{Kind}
use Rattle.pre_mpacket.specs.declared.packets.Kind.TheVariants as kind
use Rattle.pre_mpacket.specs.Arrivals.{Given, Gives}
use Rattle.pre_history.specs.declared.events.What.{What}
use Rattle.pre_history.specs.declared.events.What.TheVariants as what
use Rattle.pre_history.specs.Scenario.{Scenario}
use Rattle.pre_history.specs.History.{History, Begin, Ended}
use Rattle.pre_history.specs.Selected.{begin_on, ended_on}
use Rattle.pre_history.specs.Queries.{Begins, Ends}
use Rattle.pre_history.specs.Octets.{WholeOf, Air}
use Rattle.pre_history.specs.Legal.{LegalUpTo, IsLastOf, IsOfKind, Alias}
use Rattle.pre_history.proofs.Lists.{at_front, one_at, there}
use Rattle.pre_history.proofs.InOrder.{steady}
use Rattle.pre_history.specs.Placed.{AllWithin}
use Rattle.pre_history.proofs.AirStays.{gives_stays, whole_stays}
use Rattle.pre_mpacket.proofs.Decisions.{IsDecided, negated, alike, equal, equal_lists}
use Rattle.pre_mpacket.proofs.GivenDecided.{gives_decided, is_verify_kind, is_respond_kind}
use Rattle.pre_history.proofs.Known.{one_given}

-- the frame's last octet is among those of the mPacket with these events
abbrev pub IsLastBy : (whole : List ℕ) → Begin → Ended → List ℕ → Type 0
IsLastBy whole b e octets = (b.what ≢ what.Nothing) × (octets ≡ whole) × (b.from + e.size ≡ length octets)

module _ (w : Scenario) (h : History) (a i : ℕ) (b : Begin) (e : Ended) (at_b : slice_get (Begins h a) i ≡ Some b) (at_e : slice_get (Ends h a) i ≡ Some e) where
  pub kind_is : (k : Kind) → IsOfKind h a i k ↔ (b.kind ≡ k)
  kind_is k = (
    (λ (c, at, is). ap (λ (x : Begin). x.kind) (one_at (Begins h a) i b c at_b at) ∙ is),
    (λ is. (b, at_b, is)),
  )

  pub last_is : (octets : List ℕ) → IsLastOf w h a i octets ↔ IsLastBy (WholeOf w h b) b e octets
  last_is octets = (
    (λ (c, d, at, at', some, is, full).
        let begins = one_at (Begins h a) i c b at at_b in
        let ends = one_at (Ends h a) i d e at' at_e in (
          subst (λ (x : Begin). x.what ≢ what.Nothing) begins some,
          subst (λ (x : Begin). octets ≡ WholeOf w h x) begins is,
          subst (λ (x : Begin). x.from + e.size ≡ length octets) begins (subst (λ (y : Ended). c.from + y.size ≡ length octets) ends full),
        )),
    (λ (some, is, full). (b, e, at_b, at_e, some, is, full)),
  )

  is_nothing : (x : What) → IsDecided (x ≡ what.Nothing)
  is_nothing (what.Frame f) = inr (λ e. cc e)
  is_nothing what.Lldp = inr (λ e. cc e)
  is_nothing what.Nothing = inl refl

  pub last_decided : (octets : List ℕ) → IsDecided (IsLastOf w h a i octets)
  last_decided octets = alike ((last_is octets).1, (last_is octets).0) (three (negated (is_nothing b.what)) (equal_lists octets (WholeOf w h b)) (equal (b.from + e.size) (length octets)))
    where
      three : {P Q R : Type 0} → IsDecided P → IsDecided Q → IsDecided R → IsDecided (P × Q × R)
      three (inl p) (inl q) (inl r) = inl (p, q, r)
      three (inl p) (inl q) (inr nay) = inr (λ x. nay x.2)
      three (inl p) (inr nay) r = inr (λ x. nay x.1)
      three (inr nay) q r = inr (λ x. nay x.0)

  kind_decided : (k : Kind) → IsDecided (b.kind ≡ k) → IsDecided (IsOfKind h a i k)
  kind_decided k decided = alike ((kind_is k).1, (kind_is k).0) decided

  pub alias_decided : IsDecided (Alias w h a i)
  alias_decided = go (gives_decided (Air w h a) i)
    where
      by_given : (g : Given) → Gives (Air w h a) i g → IsDecided (Alias w h a i)
      by_given Given.part gives = inr none
        where
          none : Alias w h a i → ⊥
          none (inl (x, y)) = cc (one_given (Air w h a) i Given.part Given.verify gives x)
          none (inr (inl (x, y))) = cc (one_given (Air w h a) i Given.part Given.respond gives x)
          none (inr (inr (octets, x, y))) = cc (one_given (Air w h a) i Given.part (Given.frame octets) gives x)
      by_given Given.verify gives = elim (kind_decided kind.Verify (is_verify_kind b.kind)) [ inl is ↦ inr (none is) | inr not_so ↦ inl (inl (gives, not_so)) ]
        where
          none : IsOfKind h a i kind.Verify → Alias w h a i → ⊥
          none is (inl (x, y)) = y is
          none is (inr (inl (x, y))) = cc (one_given (Air w h a) i Given.verify Given.respond gives x)
          none is (inr (inr (octets, x, y))) = cc (one_given (Air w h a) i Given.verify (Given.frame octets) gives x)
      by_given Given.respond gives = elim (kind_decided kind.Respond (is_respond_kind b.kind)) [ inl is ↦ inr (none is) | inr not_so ↦ inl (inr (inl (gives, not_so))) ]
        where
          none : IsOfKind h a i kind.Respond → Alias w h a i → ⊥
          none is (inl (x, y)) = cc (one_given (Air w h a) i Given.respond Given.verify gives x)
          none is (inr (inl (x, y))) = y is
          none is (inr (inr (octets, x, y))) = cc (one_given (Air w h a) i Given.respond (Given.frame octets) gives x)
      by_given (Given.frame octets) gives = elim (last_decided octets) [ inl is ↦ inr (none is) | inr not_so ↦ inl (inr (inr (octets, gives, not_so))) ]
        where
          none : IsLastOf w h a i octets → Alias w h a i → ⊥
          none is (inl (x, y)) = cc (one_given (Air w h a) i (Given.frame octets) Given.verify gives x)
          none is (inr (inl (x, y))) = cc (one_given (Air w h a) i (Given.frame octets) Given.respond gives x)
          none is (inr (inr (octets', x, y))) =
              let given : Given.frame octets ≡ Given.frame octets' = one_given (Air w h a) i (Given.frame octets) (Given.frame octets') gives x in
              let same : octets ≡ octets' = cc given in
              y (subst (IsLastOf w h a i) same is)

      go : ((g : Given) × Gives (Air w h a) i g) ⊎ ((g : Given) → ¬ Gives (Air w h a) i g) → IsDecided (Alias w h a i)
      go (inl (g, gives)) = by_given g gives
      go (inr none) = inr nothing
        where
          nothing : Alias w h a i → ⊥
          nothing (inl (x, y)) = none Given.verify x
          nothing (inr (inl (x, y))) = none Given.respond x
          nothing (inr (inr (octets, x, y))) = none (Given.frame octets) x

-- later events leave it as it is whether what ended is an alias
pub alias_stays : (w : Scenario) (m n : ℕ) (h es : History) → LegalUpTo w m h → AllWithin (length w.net.arcs) m n es → (a : ℕ) → a < length w.net.arcs → (i : ℕ) → i < length (Ends h a)
    → Alias w (h ++ es) a i ↔ Alias w h a i
alias_stays w m n h es legal later a a_lt i lt = (from, to)
  where
    e : (e : Ended) × (slice_get (Ends h a) i ≡ Some e)
    e = there (Ends h a) i lt

    b : (b : Begin) × (slice_get (Begins h a) i ≡ Some b)
    b = there (Begins h a) i (omega (arith, lt, (steady w m h a a_lt legal).ordered.ends_begun))

    new_e : slice_get (Ends (h ++ es) a) i ≡ Some e.0
    new_e = ap (λ l. slice_get l i) (filter_map-append (ended_on a) h es) ∙ at_front (Ends h a) (Ends es a) i e.0 e.1

    new_b : slice_get (Begins (h ++ es) a) i ≡ Some b.0
    new_b = ap (λ l. slice_get l i) (filter_map-append (begin_on a) h es) ∙ at_front (Begins h a) (Begins es a) i b.0 b.1

    kinds : (k : Kind) → IsOfKind (h ++ es) a i k ↔ IsOfKind h a i k
    kinds k =
        let new = kind_is w (h ++ es) a i b.0 e.0 new_b new_e k in
        let old = kind_is w h a i b.0 e.0 b.1 e.1 k in
        ((λ is. old.1 (new.0 is)), λ is. new.1 (old.0 is))

    lasts : (octets : List ℕ) → IsLastOf w (h ++ es) a i octets ↔ IsLastOf w h a i octets
    lasts octets =
        let whole = whole_stays w m n h es legal later a a_lt i b.0 b.1 in
        let new = last_is w (h ++ es) a i b.0 e.0 new_b new_e octets in
        let old = last_is w h a i b.0 e.0 b.1 e.1 octets in
        ((λ is. old.1 (subst (λ x. IsLastBy x b.0 e.0 octets) whole (new.0 is))), λ is. new.1 (subst (λ x. IsLastBy x b.0 e.0 octets) (sym whole) (old.0 is)))

    given : (g : Given) → Gives (Air w (h ++ es) a) i g ↔ Gives (Air w h a) i g
    given g = gives_stays w m n h es legal later a a_lt i lt g

    from : Alias w (h ++ es) a i → Alias w h a i
    from (inl (x, y)) = inl ((given Given.verify).0 x, λ is. y ((kinds kind.Verify).1 is))
    from (inr (inl (x, y))) = inr (inl ((given Given.respond).0 x, λ is. y ((kinds kind.Respond).1 is)))
    from (inr (inr (octets, x, y))) = inr (inr (octets, (given (Given.frame octets)).0 x, λ is. y ((lasts octets).1 is)))

    to : Alias w h a i → Alias w (h ++ es) a i
    to (inl (x, y)) = inl ((given Given.verify).1 x, λ is. y ((kinds kind.Verify).0 is))
    to (inr (inl (x, y))) = inr (inl ((given Given.respond).1 x, λ is. y ((kinds kind.Respond).0 is)))
    to (inr (inr (octets, x, y))) = inr (inr (octets, (given (Given.frame octets)).1 x, λ is. y ((lasts octets).0 is)))
