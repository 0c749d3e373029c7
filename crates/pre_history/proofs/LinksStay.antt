-- Later events leave what an arc wants to send for its link as it is: responds, verifies and LLDP frames.
use Rattle.std.proofs.Common.{ℕ, zero, suc, ◌≡◌, ◌⊎◌, ◌<◌, ◌≤◌, ◌+◌, nat_le, List, [], ◌∷◌, ◌++◌, length}
use Rattle.std.proofs.Common.{sym, ap, inl, inr, arith, subst, Option, Some, None, filter}
use Rattle.std.specs.Prelude.{◌↔◌, slice_get, option_map, MatchOption}
use Rattle.std.specs.List.{AllZip}
use Rattle.std.proofs.lemmas.List.Elements.{filter_map-append}
use Rattle.pre_topo.specs.declared.arcs.Mode.TheVariants as mode
use Rattle.pre_topo.specs.Arcs.{reverse_of}
use Rattle.pre_mpacket.specs.declared.packets.Kind.{Kind}
use Rattle.pre_mpacket.specs.declared.packets.Kind.TheVariants as kind
use Rattle.pre_lldp.specs.LinkState as link
use Rattle.pre_history.specs.declared.events.Outcome.{Outcome}
use Rattle.pre_history.specs.declared.events.Outcome.TheVariants as outcome
use Rattle.pre_history.specs.declared.events.What.TheVariants as what
use Rattle.pre_history.specs.Scenario.{Scenario, arc}
use Rattle.pre_history.specs.History.{History, Begin, Ended, Arrive}
use Rattle.pre_history.specs.Selected.{begin_on, arrive_on, is_verify}
use Rattle.pre_history.specs.Queries.{Begins, Arrivals, Packet, PacketsBefore}
use Rattle.pre_history.specs.LinkState.{Began, LldpBegan, Received, RespondOwed, Active, ActiveIn, ActiveBefore, IsWanting, LldpWanted, Good, Verified, VerifiesBefore, VerifyWanted}
use Rattle.pre_history.proofs.IsLater.{IsLater, AllLater}
use Rattle.pre_history.specs.Legal.{LegalUpTo}
use Rattle.pre_history.proofs.Lists.{every_at, every_selected, every_weaker}
use Rattle.pre_history.proofs.LaterEnds.{begin_later}
use Rattle.pre_history.proofs.Unread.{IsUnread, arrival_unread, active_later, good_stays, reverse_within, later_unread}
use Rattle.pre_history.proofs.Places.{all_later_sooner}
use Rattle.pre_history.proofs.Zips.{any_stays, zip_filter, zip_maps, zip_length}
use Rattle.pre_history.proofs.RunsStay.{IsLike, like_before}
use Rattle.pre_history.proofs.Known.{gives_later}

module _ (h es : History) (t : ℕ) (later : AllLater t es) where
  begun_late : (a i : ℕ) (b : Begin) → slice_get (Begins es a) i ≡ Some b → t ≤ b.tick
  begun_late a i b at = every_at (λ (b : Begin). t ≤ b.tick) (Begins es a) i b (every_selected (begin_on a) (IsLater t) (λ b. t ≤ b.tick) (begin_later a t) es later) at

  arrived_late : (a i : ℕ) (x : Arrive) → slice_get (Arrivals es a) i ≡ Some x → t < x.tick
  arrived_late a i x at =
      every_at (λ (x : Arrive). t < x.tick) (Arrivals es a) i x
      (every_selected (arrive_on a) (IsUnread t) (λ x. t < x.tick) (arrival_unread a t) es (every_weaker (IsLater t) (IsUnread t) (later_unread t) es later)) at

  pub began_stays : (a : ℕ) (k : Kind) (i : ℕ) → i < t → Began (h ++ es) a k i ↔ Began h a k i
  began_stays a k i lt =
      any_stays (λ (b : Begin). (b.kind ≡ k) × (b.tick ≡ i)) (Begins (h ++ es) a) (Begins h a) (Begins es a) (filter_map-append (begin_on a) h es)
      (λ j b at p. let late = begun_late a j b at in absurd (omega (arith, late, p.1, lt)))

  pub lldp_began_stays : (a i : ℕ) → i < t → LldpBegan (h ++ es) a i ↔ LldpBegan h a i
  lldp_began_stays a i lt =
      any_stays (λ (b : Begin). (b.what ≡ what.Lldp) × (b.tick ≡ i)) (Begins (h ++ es) a) (Begins h a) (Begins es a) (filter_map-append (begin_on a) h es)
      (λ j b at p. let late = begun_late a j b at in absurd (omega (arith, late, p.1, lt)))

  pub received_stays : (a : ℕ) (r : Outcome) (i : ℕ) → i ≤ t → Received (h ++ es) a r i ↔ Received h a r i
  received_stays a r i le =
      any_stays (λ (x : Arrive). (x.result ≡ r) × (x.tick ≡ i)) (Arrivals (h ++ es) (reverse_of a)) (Arrivals h (reverse_of a)) (Arrivals es (reverse_of a)) (filter_map-append (arrive_on (reverse_of a)) h es)
      (λ j x at p. let late = arrived_late (reverse_of a) j x at in absurd (omega (arith, late, p.1, le)))

module _ (w : Scenario) (n : ℕ) (h es : History) (legal : LegalUpTo w n h) (t : ℕ) (later : AllLater t es) (a : ℕ) (a_lt : a < length w.net.arcs) where
  pub owed_stays : RespondOwed w (h ++ es) a t ↔ RespondOwed w h a t
  owed_stays = (
    (λ (v, le, got, none). (v, le, (received_stays h es t later a outcome.Verify v le).0 got, λ i from lt began. none i from lt ((began_stays h es t later a kind.Respond i lt).1 began))),
    (λ (v, le, got, none). (v, le, (received_stays h es t later a outcome.Verify v le).1 got, λ i from lt began. none i from lt ((began_stays h es t later a kind.Respond i lt).0 began))),
  )

  pub active_at : (u : ℕ) → u ≤ t → Active w (h ++ es) a u ↔ Active w h a u
  active_at u le = active_later gives_later w n h es a u a_lt legal (all_later_sooner t u es le later)

  pub active_before_at : (u : ℕ) → u ≤ t → ActiveBefore w (h ++ es) a u ↔ ActiveBefore w h a u
  active_before_at zero le = ((λ x. x), λ x. x)
  active_before_at (suc u) le = active_at u (omega (arith, le))

  wanting_from : (x : ℕ) → x ≤ t → IsWanting w (h ++ es) a x → IsWanting w h a x
  wanting_from x le (inl differs) = inl differs
  wanting_from x le (inr (here, inl over)) = inr (here, inl over)
  wanting_from x le (inr (here, inr (inl (now, before)))) = inr (here, inr (inl ((active_at x le).0 now, λ b. before ((active_before_at x le).1 b))))
  wanting_from x le (inr (here, inr (inr (now, before)))) = inr (here, inr (inr ((λ b. now ((active_at x le).1 b)), (active_before_at x le).0 before)))

  wanting_to : (x : ℕ) → x ≤ t → IsWanting w h a x → IsWanting w (h ++ es) a x
  wanting_to x le (inl differs) = inl differs
  wanting_to x le (inr (here, inl over)) = inr (here, inl over)
  wanting_to x le (inr (here, inr (inl (now, before)))) = inr (here, inr (inl ((active_at x le).1 now, λ b. before ((active_before_at x le).0 b))))
  wanting_to x le (inr (here, inr (inr (now, before)))) = inr (here, inr (inr ((λ b. now ((active_at x le).0 b)), (active_before_at x le).1 before)))

  pub lldp_wanted_stays : LldpWanted w (h ++ es) a t ↔ LldpWanted w h a t
  lldp_wanted_stays = (
    (λ (x, le, wants, none). (x, le, wanting_from x le wants, λ i from lt began. none i from lt ((lldp_began_stays h es t later a i lt).1 began))),
    (λ (x, le, wants, none). (x, le, wanting_to x le wants, λ i from lt began. none i from lt ((lldp_began_stays h es t later a i lt).0 began))),
  )

  -- ---- verifies

  -- a verify with its end, where that isn't later than the tick
  abbrev LikeVerify : link.Verify → link.Verify → Type 0
  LikeVerify v u = (v.began ≡ u.began) × ((v.ended ≡ u.ended) ⊎ ((e : ℕ) × (v.ended ≡ Some e) × (t < e) × (u.ended ≡ None)))

  like_verify : (p q : Packet) → IsLike t p q
      → LikeVerify (record { began = p.begin.tick; ended = option_map (λ (e : Ended). e.tick) p.ended }) (record { began = q.begin.tick; ended = option_map (λ (e : Ended). e.tick) q.ended })
  like_verify p q (same, inl ended) = (ap (λ (b : Begin). b.tick) same, inl (ap (option_map (λ (e : Ended). e.tick)) ended))
  like_verify p q (same, inr (e, is, lt, none)) = (ap (λ (b : Begin). b.tick) same, inr (e.tick, ap (option_map (λ (e : Ended). e.tick)) is, lt, ap (option_map (λ (e : Ended). e.tick)) none))

  like_verifies : AllZip LikeVerify (VerifiesBefore (h ++ es) a t) (VerifiesBefore h a t)
  like_verifies =
      zip_maps (IsLike t) LikeVerify (λ (p : Packet). record { began = p.begin.tick; ended = option_map (λ (e : Ended). e.tick) p.ended }) (λ (p : Packet). record { began = p.begin.tick; ended = option_map (λ (e : Ended). e.tick) p.ended }) like_verify
      (filter (λ (p : Packet). is_verify p.begin.kind) (PacketsBefore (h ++ es) a t)) (filter (λ (p : Packet). is_verify p.begin.kind) (PacketsBefore h a t))
      (zip_filter (IsLike t) (λ (p : Packet). is_verify p.begin.kind) (λ p q like. ap (λ (b : Begin). is_verify b.kind) like.0) (PacketsBefore (h ++ es) a t) (PacketsBefore h a t) (like_before h es t later a))

  over_like : (wait : ℕ) (v u : link.Verify) → LikeVerify v u → link.IsOver wait t (Some v) ↔ link.IsOver wait t (Some u)
  over_like wait v u (began, inl same) =
      ((λ over. subst (λ (o : Option ℕ). MatchOption o ⊥ (λ e. e + wait ≤ t)) same over), λ over. subst (λ (o : Option ℕ). MatchOption o ⊥ (λ e. e + wait ≤ t)) (sym same) over)
  over_like wait v u (began, inr (e, is, lt, none)) =
      ((λ over. let by : e + wait ≤ t = subst (λ (o : Option ℕ). MatchOption o ⊥ (λ e. e + wait ≤ t)) is over in absurd (omega (arith, by, lt))), λ over. absurd (subst (λ (o : Option ℕ). MatchOption o ⊥ (λ e. e + wait ≤ t)) none over))

  last_over : (wait : ℕ) (xs ys : List link.Verify) → AllZip LikeVerify xs ys → link.IsOver wait t (link.last_verify xs) ↔ link.IsOver wait t (link.last_verify ys)
  last_over wait [] [] z = ((λ x. x), λ x. x)
  last_over wait [] (y ∷ ys) z = absurd z
  last_over wait (x ∷ xs) [] z = absurd z
  last_over wait (x ∷ []) (y ∷ []) (here, more) = over_like wait x y here
  last_over wait (x ∷ []) (y ∷ v ∷ ys) (here, more) = absurd more
  last_over wait (x ∷ u ∷ xs) (y ∷ []) (here, more) = absurd more
  last_over wait (x ∷ u ∷ xs) (y ∷ v ∷ ys) (here, more) = last_over wait (u ∷ xs) (v ∷ ys) more

  since_like : (u : ℕ) → AllZip LikeVerify (link.verifies_since u (VerifiesBefore (h ++ es) a t)) (link.verifies_since u (VerifiesBefore h a t))
  since_like u =
      zip_filter LikeVerify (λ (v : link.Verify). nat_le u v.began) (λ v x like. ap (nat_le u) like.0) (VerifiesBefore (h ++ es) a t) (VerifiesBefore h a t) like_verifies

  pub good_at : (u : ℕ) → u ≤ t → Good w (h ++ es) a u ↔ Good w h a u
  good_at u le = good_stays gives_later w n h es legal t (every_weaker (IsLater t) (IsUnread t) (later_unread t) es later) a (reverse_within w a a_lt) u le

  pub verified_stays : (arc w a).mode ≡ mode.Negotiate → Verified w (h ++ es) a t ↔ Verified w h a t
  unfolding Active
  verified_stays talks = subst (λ m. ActiveIn w (h ++ es) a m t ↔ ActiveIn w h a m t) talks (active_at t (omega arith))

  pub verify_wanted_stays : (arc w a).mode ≡ mode.Negotiate → VerifyWanted w (h ++ es) a t ↔ VerifyWanted w h a t
  verify_wanted_stays talks = (from, to)
    where
      good_since : (u : ℕ) → link.GoodSince (Good w (h ++ es) a) u t ↔ link.GoodSince (Good w h a) u t
      good_since u = (
        (λ ((le, good), least). ((le, λ i from by. (good_at i by).0 (good i from by)), λ v other. least v (other.0, λ i from by. (good_at i by).1 (other.1 i from by)))),
        (λ ((le, good), least). ((le, λ i from by. (good_at i by).1 (good i from by)), λ v other. least v (other.0, λ i from by. (good_at i by).0 (other.1 i from by)))),
      )

      from : VerifyWanted w (h ++ es) a t → VerifyWanted w h a t
      from (unverified, (u, since, few, over)) =
          ((λ v. unverified ((verified_stays talks).1 v)), (u, (good_since u).0 since, subst (λ x. x < 3) (zip_length LikeVerify _ _ (since_like u)) few, (last_over w.net.timing.verify _ _ (since_like u)).0 over))

      to : VerifyWanted w h a t → VerifyWanted w (h ++ es) a t
      to (unverified, (u, since, few, over)) =
          ((λ v. unverified ((verified_stays talks).0 v)), (u, (good_since u).1 since, subst (λ x. x < 3) (sym (zip_length LikeVerify _ _ (since_like u))) few, (last_over w.net.timing.verify _ _ (since_like u)).1 over))
