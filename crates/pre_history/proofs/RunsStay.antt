-- Later events leave what is left of an interrupted frame as it is, and how many first fragments began.
use Rattle.std.proofs.Common.{ℕ, ◌≡◌, ◌⊎◌, ◌==◌, ◌<◌, ◌≤◌, nat_lt, List, [], ◌∷◌, ◌++◌, refl, sym, ◌∙◌}
use Rattle.std.proofs.Common.{ap, inl, inr, arith, subst, Option, Some, None, map, filter}
use Rattle.std.specs.Prelude.{◌↔◌, slice_get, MatchOption}
use Rattle.std.specs.List.{AllZip, AllByRecursion as Every}
use Rattle.std.proofs.lemmas.List.Elements.{filter_map-append, filter-append}
use Rattle.pre_mpacket.specs.Arrivals.{is_start, is_fragment}
use Rattle.pre_history.specs.Scenario.{Scenario}
use Rattle.pre_history.specs.History.{History, Begin, Ended}
use Rattle.pre_history.specs.Selected.{begin_on, ended_on}
use Rattle.pre_history.specs.Queries.{Begins, Ends, Packet, packet, end_of, Packets, PacketsBefore, LastRun, Rest, Interrupted}
use Rattle.pre_history.proofs.IsLater.{IsLater, AllLater}
use Rattle.pre_history.proofs.Lists.{every_filter, every_selected, no_append}
use Rattle.pre_history.proofs.LaterEnds.{begin_later, end_later}
use Rattle.pre_history.proofs.Zips.{zip_map, zip_filter, zip_from_last, zip_left, zip_right}
use Rattle.pre_history.proofs.NatTests.{not_before}

-- one mPacket as seen with and without events after the tick
abbrev pub IsLike : ℕ → Packet → Packet → Type 0
IsLike t p q = (p.begin ≡ q.begin) × ((p.ended ≡ q.ended) ⊎ ((e : Ended) × (p.ended ≡ Some e) × (t < e.tick) × (q.ended ≡ None)))

-- it ended by the tick
abbrev pub EndedBy : ℕ → Packet → Type 0
EndedBy t p = MatchOption p.ended ⊥ (λ e. e.tick ≤ t)

like_left : (t : ℕ) (p q : Packet) → IsLike t p q → EndedBy t p → p ≡ q
like_left t p q (same, inl ended) by = λ i. record { begin = same i; ended = ended i }
like_left t p q (same, inr (e, is, lt, none)) by = let early : e.tick ≤ t = subst (λ (o : Option Ended). MatchOption o ⊥ (λ e. e.tick ≤ t)) is by in absurd (omega (arith, early, lt))

like_right : (t : ℕ) (p q : Packet) → IsLike t p q → EndedBy t q → p ≡ q
like_right t p q (same, inl ended) by = λ i. record { begin = same i; ended = ended i }
like_right t p q (same, inr (e, is, lt, none)) by = absurd (subst (λ (o : Option Ended). MatchOption o ⊥ (λ e. e.tick ≤ t)) none by)

module _ (h es : History) (t : ℕ) (later : AllLater t es) (a : ℕ) where
  -- the first end with an ordinal, with more behind
  first_like : (us vs : List Ended) → Every (λ (e : Ended). t < e.tick) vs
      → (slice_get (us ++ vs) 0 ≡ slice_get us 0) ⊎ ((e : Ended) × (slice_get (us ++ vs) 0 ≡ Some e) × (t < e.tick) × (slice_get us 0 ≡ None))
  first_like [] [] late = inl refl
  first_like [] (v ∷ vs) (here, more) = inr (v, refl, here, refl)
  first_like (u ∷ us) vs late = inl refl

  like_packet : (b : Begin) → IsLike t (packet (h ++ es) a b) (packet h a b)
  like_packet b =
      let late = every_filter (λ (e : Ended). t < e.tick) (λ e. e.ord == b.ord) (Ends es a) (every_selected (ended_on a) (IsLater t) (λ e. t < e.tick) (end_later a t) es later) in
      let more : filter (λ (e : Ended). e.ord == b.ord) (Ends (h ++ es) a) ≡ filter (λ (e : Ended). e.ord == b.ord) (Ends h a) ++ filter (λ (e : Ended). e.ord == b.ord) (Ends es a)
      = ap (filter (λ (e : Ended). e.ord == b.ord)) (filter_map-append (ended_on a) h es) ∙ filter-append (λ (e : Ended). e.ord == b.ord) (Ends h a) (Ends es a) in (
        refl,
        subst (λ (xs : List Ended). (slice_get xs 0 ≡ end_of h a b.ord) ⊎ ((e : Ended) × (slice_get xs 0 ≡ Some e) × (t < e.tick) × (end_of h a b.ord ≡ None))) (sym more)
            (first_like (filter (λ (e : Ended). e.ord == b.ord) (Ends h a)) (filter (λ (e : Ended). e.ord == b.ord) (Ends es a)) late),
      )

  -- those begun before the tick, by a view of them
  begun_of : (g : History) → List Begin → List Packet
  begun_of g bs = filter (λ (p : Packet). nat_lt p.begin.tick t) (map (packet g a) bs)

  begun_append : (g : History) (bs cs : List Begin) → begun_of g (bs ++ cs) ≡ begun_of g bs ++ begun_of g cs
  unfolding begun_of
  begun_append g bs cs = ap (filter (λ (p : Packet). nat_lt p.begin.tick t)) (map_append bs) ∙ filter-append (λ (p : Packet). nat_lt p.begin.tick t) (map (packet g a) bs) (map (packet g a) cs)
    where
      map_append : (bs : List Begin) → map (packet g a) (bs ++ cs) ≡ map (packet g a) bs ++ map (packet g a) cs
      map_append [] = refl
      map_append (b ∷ bs) = ap (λ x. packet g a b ∷ x) (map_append bs)

  none_begun : (g : History) (cs : List Begin) → Every (λ (b : Begin). t ≤ b.tick) cs → begun_of g cs ≡ []
  unfolding begun_of
  none_begun g [] late = refl
  none_begun g (c ∷ cs) (here, more) = rw (not_before c.tick t here) (none_begun g cs more)

  pub like_before : AllZip (IsLike t) (PacketsBefore (h ++ es) a t) (PacketsBefore h a t)
  unfolding begun_of Packets
  like_before =
      let late = every_selected (begin_on a) (IsLater t) (λ (b : Begin). t ≤ b.tick) (begin_later a t) es later in
      let same : begun_of (h ++ es) (Begins (h ++ es) a) ≡ begun_of (h ++ es) (Begins h a)
      = ap (begun_of (h ++ es)) (filter_map-append (begin_on a) h es) ∙ (begun_append (h ++ es) (Begins h a) (Begins es a) ∙ no_append (begun_of (h ++ es) (Begins h a)) (begun_of (h ++ es) (Begins es a)) (none_begun (h ++ es) (Begins es a) late)) in
      subst (λ (xs : List Packet). AllZip (IsLike t) xs (begun_of h (Begins h a))) (sym same)
      (zip_filter (IsLike t) (λ (p : Packet). nat_lt p.begin.tick t) (λ p q like. ap (λ (b : Begin). nat_lt b.tick t) like.0) (map (packet (h ++ es) a) (Begins h a)) (map (packet h a) (Begins h a))
      (zip_map (IsLike t) (packet (h ++ es) a) (packet h a) like_packet (Begins h a)))

  run_like : AllZip (IsLike t) (LastRun (h ++ es) a t) (LastRun h a t)
  run_like =
      zip_from_last (IsLike t) (λ (p : Packet). is_start p.begin.kind) (λ p q like. ap (λ (b : Begin). is_start b.kind) like.0) (filter (λ (p : Packet). is_fragment p.begin.kind) (PacketsBefore (h ++ es) a t)) (filter (λ (p : Packet). is_fragment p.begin.kind) (PacketsBefore h a t))
      (zip_filter (IsLike t) (λ (p : Packet). is_fragment p.begin.kind) (λ p q like. ap (λ (b : Begin). is_fragment b.kind) like.0) (PacketsBefore (h ++ es) a t) (PacketsBefore h a t) like_before)

  pub interrupted_stays : (w : Scenario) (r : Rest) → Interrupted w (h ++ es) a t r ↔ Interrupted w h a t r
  interrupted_stays w r = (
    (λ (first, more, run, ended, cut, is).
        let ends = subst (Every (EndedBy t)) (sym run) ended in
        (first, more, sym (zip_left (IsLike t) (EndedBy t) (like_left t) (LastRun (h ++ es) a t) (LastRun h a t) run_like ends) ∙ run, ended, cut, is)),
    (λ (first, more, run, ended, cut, is).
        let ends = subst (Every (EndedBy t)) (sym run) ended in
        (first, more, zip_right (IsLike t) (EndedBy t) (like_right t) (LastRun (h ++ es) a t) (LastRun h a t) run_like ends ∙ run, ended, cut, is)),
  )
