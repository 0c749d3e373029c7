-- What an mPacket gives, and which frame is open after it, by its kind.
use Rattle.std.proofs.Common.{ℕ, ◌≡◌, ◌+◌, ◌%◌, List, [], ◌∷◌, ◌++◌, length, length-append, take, refl, sym, ◌∙◌, ap, arith, subst, inl, inr, Option, Some, None, false}
use Rattle.std.specs.Prelude.{◌≢◌}
use Rattle.pre_mpacket.specs.declared.packets.Kind.{Kind}
use Rattle.pre_mpacket.specs.declared.packets.Kind.TheVariants as kind
use Rattle.pre_mpacket.specs.declared.reading.MFault.{MFault}
use Rattle.pre_mpacket.specs.Spelling.{PlainPacket, Spells, IsFirstFault}
use Rattle.pre_mpacket.specs.Arrivals.{is_continue, is_fragment, GivesNothing, IsOpenBefore}
use Rattle.pre_mpacket.specs.Open.{IsOpen}
use Rattle.pre_receive.specs.declared.taken.Cause.TheVariants as cause
use Rattle.pre_receive.specs.declared.opened.Opened.{Opened}
use Rattle.pre_receive.specs.declared.outcomes.Outcome.{Outcome}
use Rattle.pre_receive.specs.declared.outcomes.Outcome.TheVariants as outcome
use Rattle.pre_receive.specs.declared.receivers.Receiver.{Receiver}
use Rattle.pre_receive.specs.Causes.{no_open_frame, other_frame_count, other_fragment_count, MeetsOpen, HasReason, IsCause}
use Rattle.pre_receive.specs.Takings.{IsTaken}
use Rattle.pre_receive.specs.Held.{HoldsOpened}
use Rattle.pre_receive.specs.Steps.{ExpressTo, BareTo, ContinuedTo}
use Rattle.pre_receive.specs.Receivers.{taking, SortedTo}
use Rattle.pre_receive.proofs.PacketLaws.{PacketLaws}
use Rattle.pre_receive.proofs.Places.{those_before, open_more, open_less}
use Rattle.pre_receive.proofs.Joins as joins

module _ (laws : PacketLaws) (A : List (Option (List ℕ))) (a : List ℕ) (m : PlainPacket) (spells : Spells m a) (sound : (e : MFault) → ¬ IsFirstFault e a) where
  -- ---- what is no fragment

  same_holds : (k : Kind) → m.kind ≡ k → is_fragment k ≡ false → (v w : Option Opened) (before octets : List ℕ) → HoldsOpened v before A → w ≡ v → octets ≡ before → HoldsOpened w octets (A ++ Some a ∷ [])
  same_holds k is other v w before octets holds same kept =
      subst (λ x. HoldsOpened x octets (A ++ Some a ∷ [])) (sym same) (subst (λ l. HoldsOpened v l (A ++ Some a ∷ [])) (sym kept) (more v before holds))
    where
      more : (x : Option Opened) (l : List ℕ) → HoldsOpened x l A → HoldsOpened x l (A ++ Some a ∷ [])
      more None l none = λ d n xs o. none d n xs ((laws.other_opens A (Some a) d n xs (joins.kind_not laws A a m spells sound is_fragment k is other)).0 o)
      more (Some x) l h = ((laws.other_opens A (Some a) x.frame_count x.next l (joins.kind_not laws A a m spells sound is_fragment k is other)).1 h.0, h.1)

  express_taken : m.kind ≡ kind.Express → (r : Receiver) (o : Outcome) → ExpressTo o m.mdata m.check r.whole.items → IsTaken (A ++ Some a ∷ []) (length A) (taking r.whole.items r.octets.items o)
  express_taken is r outcome.Express (le, check, whole) =
      let long : length r.whole.items ≡ length m.mdata + length m.check = ap length whole ∙ length-append m.mdata m.check in
      let four = spells.whole.check in
      let some = spells.whole.mdata in
      (m, joins.spelled laws A a m spells sound, inl (is, whole, omega (arith, long, four, some), omega (arith, long, four, le), check))
  express_taken is r (outcome.Nothing c) (inl (size, over)) =
      let four = spells.whole.check in (
        joins.express_nothing laws A a m spells sound is (λ le check. omega (arith, le, over)),
        joins.cause_long laws A a m spells sound c kind.Express is size (omega (arith, four, over)) (joins.up_to_long_other laws A a m spells sound kind.Express is refl),
      )
  express_taken is r (outcome.Nothing c) (inr (check, le, other)) =
      let four = spells.whole.check in (
        joins.express_nothing laws A a m spells sound is (λ fits right. other right),
        joins.cause_check laws A a m spells sound c kind.Express is check (λ over. omega (arith, four, over, le)) (joins.up_to_long_other laws A a m spells sound kind.Express is refl),
      )
  express_taken is r outcome.Joined h = absurd h
  express_taken is r outcome.Part h = absurd h
  express_taken is r outcome.Verify h = absurd h
  express_taken is r outcome.Respond h = absurd h

  verify_taken : m.kind ≡ kind.Verify → (r : Receiver) (o : Outcome) → BareTo outcome.Verify o m.mdata m.check → IsTaken (A ++ Some a ∷ []) (length A) (taking r.whole.items r.octets.items o)
  verify_taken is r o (inl (same, zeros, check)) =
      subst (λ x. IsTaken (A ++ Some a ∷ []) (length A) (taking r.whole.items r.octets.items x)) (sym same) (m, joins.spelled laws A a m spells sound, (is, zeros, check))
  verify_taken is r o (inr (inl (same, other))) =
      subst (λ x. IsTaken (A ++ Some a ∷ []) (length A) (taking r.whole.items r.octets.items x)) (sym same) (
        joins.bare_nothing laws A a m spells sound kind.Verify is (inl refl) (λ h. other (ap length h.0)),
        joins.cause_long laws A a m spells sound cause.Size kind.Verify is refl other (joins.up_to_long_other laws A a m spells sound kind.Verify is refl),
      )
  verify_taken is r o (inr (inr (same, long, other))) =
      subst (λ x. IsTaken (A ++ Some a ∷ []) (length A) (taking r.whole.items r.octets.items x)) (sym same) (
        joins.bare_nothing laws A a m spells sound kind.Verify is (inl refl) other,
        joins.cause_check laws A a m spells sound cause.Check kind.Verify is refl (λ h. h long) (joins.up_to_long_other laws A a m spells sound kind.Verify is refl),
      )

  respond_taken : m.kind ≡ kind.Respond → (r : Receiver) (o : Outcome) → BareTo outcome.Respond o m.mdata m.check → IsTaken (A ++ Some a ∷ []) (length A) (taking r.whole.items r.octets.items o)
  respond_taken is r o (inl (same, zeros, check)) =
      subst (λ x. IsTaken (A ++ Some a ∷ []) (length A) (taking r.whole.items r.octets.items x)) (sym same) (m, joins.spelled laws A a m spells sound, (is, zeros, check))
  respond_taken is r o (inr (inl (same, other))) =
      subst (λ x. IsTaken (A ++ Some a ∷ []) (length A) (taking r.whole.items r.octets.items x)) (sym same) (
        joins.bare_nothing laws A a m spells sound kind.Respond is (inr refl) (λ h. other (ap length h.0)),
        joins.cause_long laws A a m spells sound cause.Size kind.Respond is refl other (joins.up_to_long_other laws A a m spells sound kind.Respond is refl),
      )
  respond_taken is r o (inr (inr (same, long, other))) =
      subst (λ x. IsTaken (A ++ Some a ∷ []) (length A) (taking r.whole.items r.octets.items x)) (sym same) (
        joins.bare_nothing laws A a m spells sound kind.Respond is (inr refl) other,
        joins.cause_check laws A a m spells sound cause.Check kind.Respond is refl (λ h. h long) (joins.up_to_long_other laws A a m spells sound kind.Respond is refl),
      )

  -- ---- a start

  start_ends : (c : ℕ) → m.kind ≡ kind.Start c → joins.Ends laws A a m spells sound (kind.Start c) c 0 m.mdata
  start_ends c is = record {
    is = is;
    fragment = refl;
    ends = λ le. (laws.start_joins A a m.mdata m c spells is).1 (refl, le);
    only = λ xs e. (laws.start_joins A a xs m c spells is).0 e;
    opens = λ d n xs. laws.start_opens A a xs m c d n spells is;
    long = λ over. over;
    fits = λ le over. omega (arith, le, over);
    before = joins.up_to_long_other laws A a m spells sound (kind.Start c) is refl;
  }

  -- ---- a continuation

  nothing_open : (c n : ℕ) → m.kind ≡ kind.Continue c n → ((before : List ℕ) → ¬ IsOpen A c n before) → GivesNothing (A ++ Some a ∷ []) (length A)
  nothing_open c n is none = joins.fragment_nothing laws A a m spells sound (ap is_fragment is)
      (λ xs e. let h = (laws.continuation_joins A a xs m c n spells is).0 e in absurd (none h.0 h.1))

  shut_after : (c n : ℕ) → m.kind ≡ kind.Continue c n → ((before : List ℕ) → ¬ IsOpen A c n before) → (w : Option Opened) (octets : List ℕ) → w ≡ None → HoldsOpened w octets (A ++ Some a ∷ [])
  shut_after c n is none w octets same = subst (λ x. HoldsOpened x octets (A ++ Some a ∷ [])) (sym same)
      (λ d p xs o.
      let h = (laws.continuation_opens A a xs m c n d p spells is).0 o in
      let j = (laws.continuation_joins A a xs m c n spells is).0 h.2 in
      none j.0 j.1)

  -- a frame is open
  module _ (c n d e : ℕ) (is : m.kind ≡ kind.Continue c n) (before : List ℕ) (o : IsOpen A d e before) where
    is_open : IsOpenBefore (A ++ Some a ∷ []) (length A)
    is_open = open_more laws A (Some a ∷ []) ((laws.open_before A).1 (d, e, before, o))

    some_open : ¬ HasReason (A ++ Some a ∷ []) (length A) no_open_frame
    some_open h = h.1 is_open

    here : IsOpen (take (length A) (A ++ Some a ∷ [])) d e before
    here = subst (λ l. IsOpen l d e before) (sym (those_before A (Some a ∷ []))) o

    meets : MeetsOpen (A ++ Some a ∷ []) (length A) c n d e
    meets = (m, before, joins.spelled laws A a m spells sound, is, here)

    meets_only : (c' n' d' e' : ℕ) → MeetsOpen (A ++ Some a ∷ []) (length A) c' n' d' e' → (c' ≡ c) × (n' ≡ n) × (d' ≡ d) × (e' ≡ e)
    meets_only c' n' d' e' (x, before', at, continues, opens) =
        let same = joins.alone laws A a m spells sound x at in
        let kinds : kind.Continue c' n' ≡ kind.Continue c n = sym continues ∙ (ap (λ (y : PlainPacket). y.kind) same ∙ is) in
        let one = laws.one_open A d' d e' e before' before (subst (λ l. IsOpen l d' e' before') (those_before A (Some a ∷ [])) opens) o in
        let first : c' ≡ c = cc kinds in
        let second : n' ≡ n = cc kinds in
        (first, second, one.0, one.1)

    not_count : c ≢ d → (b : List ℕ) → ¬ IsOpen A c n b
    not_count other b p = other (laws.one_open A c d n e b before p o).0

    not_place : n ≢ e → (b : List ℕ) → ¬ IsOpen A c n b
    not_place other b p = other (laws.one_open A c d n e b before p o).1

    same_count : c ≡ d → ¬ HasReason (A ++ Some a ∷ []) (length A) other_frame_count
    same_count same (c', n', d', e', meeting, other) = let h = meets_only c' n' d' e' meeting in other (h.0 ∙ (same ∙ sym h.2))

    same_place : n ≡ e → ¬ HasReason (A ++ Some a ∷ []) (length A) other_fragment_count
    same_place same (c', n', d', e', meeting, other) = let h = meets_only c' n' d' e' meeting in other (h.1 ∙ (same ∙ sym h.3))

    count_cause : c ≢ d → IsCause (A ++ Some a ∷ []) (length A) cause.Count
    count_cause other = record {
      reason = other_frame_count;
      named = refl;
      here = (c, n, d, e, meets, other);
      none_before = joins.up_to_open laws A a m spells sound some_open;
    }

    place_cause : c ≡ d → n ≢ e → IsCause (A ++ Some a ∷ []) (length A) cause.Fragment
    place_cause same other = record {
      reason = other_fragment_count;
      named = refl;
      here = (c, n, d, e, meets, other);
      none_before = joins.up_to_frame_count laws A a m spells sound some_open (same_count same);
    }

    continues : c ≡ d → n ≡ e → joins.Ends laws A a m spells sound (kind.Continue c n) c ((n + 1) % 4) (before ++ m.mdata)
    continues same next = record {
      is = is;
      fragment = refl;
      ends = λ le. (laws.continuation_joins A a (before ++ m.mdata) m c n spells is).1 (before, subst (λ x. IsOpen A x n before) (sym same) (subst (λ x. IsOpen A d x before) (sym next) o), refl, le);
      only = λ xs end.
          let h = (laws.continuation_joins A a xs m c n spells is).0 end in
          (h.2 ∙ ap (λ (l : List ℕ). l ++ m.mdata) (laws.one_open A c d n e h.0 before h.1 o).2, h.3);
      opens = λ p q xs. laws.continuation_opens A a xs m c n p q spells is;
      long = λ over. (d, e, before, here, over);
      fits = λ le over.
          let one = laws.one_open A over.0 d over.1 e over.2 before (subst (λ l. IsOpen l over.0 over.1 over.2) (those_before A (Some a ∷ [])) over.3) o in
          omega (arith, le, over.4, ap (λ (l : List ℕ). length (l ++ m.mdata)) one.2);
      before = joins.up_to_counts laws A a m spells sound some_open (same_count same) (same_place next);
    }

  no_frame_cause : (c n : ℕ) → m.kind ≡ kind.Continue c n → ((d e : ℕ) (before : List ℕ) → ¬ IsOpen A d e before) → IsCause (A ++ Some a ∷ []) (length A) cause.NoFrame
  no_frame_cause c n is none = record {
    reason = no_open_frame;
    named = refl;
    here = (joins.kind_has laws A a m spells sound is_continue (kind.Continue c n) is refl, λ before. let h = (laws.open_before A).0 (open_less laws A (Some a ∷ []) before) in none h.0 h.1 h.2 h.3);
    none_before = joins.before_open laws A a m spells sound;
  }

  continued_taken : (c n : ℕ) → m.kind ≡ kind.Continue c n → (was : Option Opened) (before : List ℕ) → HoldsOpened was before A → (r : Receiver) (o : Outcome)
      → ContinuedTo o c n m.mdata m.check was before r.opened r.octets.items → IsTaken (A ++ Some a ∷ []) (length A) (taking r.whole.items r.octets.items o)
  continued_taken c n is None before none r o (same, shut) =
      subst (λ x. IsTaken (A ++ Some a ∷ []) (length A) (taking r.whole.items r.octets.items x)) (sym same) (nothing_open c n is (λ b. none c n b), no_frame_cause c n is none)
  continued_taken c n is (Some w) before h r o (inl (same, other, shut)) =
      subst (λ x. IsTaken (A ++ Some a ∷ []) (length A) (taking r.whole.items r.octets.items x)) (sym same)
      (nothing_open c n is (not_count c n w.frame_count w.next is before h.0 other), count_cause c n w.frame_count w.next is before h.0 other)
  continued_taken c n is (Some w) before h r o (inr (inl (same, count, other, shut))) =
      subst (λ x. IsTaken (A ++ Some a ∷ []) (length A) (taking r.whole.items r.octets.items x)) (sym same)
      (nothing_open c n is (not_place c n w.frame_count w.next is before h.0 other), place_cause c n w.frame_count w.next is before h.0 count other)
  continued_taken c n is (Some w) before h r o (inr (inr (count, place, goes))) =
      joins.joined_taken laws A a m spells sound (kind.Continue c n) c ((n + 1) % 4) (before ++ m.mdata) (continues c n w.frame_count w.next is before h.0 count place) r o (goes h.1)

  continued_holds : (c n : ℕ) → m.kind ≡ kind.Continue c n → (was : Option Opened) (before : List ℕ) → HoldsOpened was before A → (r : Receiver) (o : Outcome)
      → ContinuedTo o c n m.mdata m.check was before r.opened r.octets.items → HoldsOpened r.opened r.octets.items (A ++ Some a ∷ [])
  continued_holds c n is None before none r o (same, shut) = shut_after c n is (λ b. none c n b) r.opened r.octets.items shut
  continued_holds c n is (Some w) before h r o (inl (same, other, shut)) = shut_after c n is (not_count c n w.frame_count w.next is before h.0 other) r.opened r.octets.items shut
  continued_holds c n is (Some w) before h r o (inr (inl (same, count, other, shut))) = shut_after c n is (not_place c n w.frame_count w.next is before h.0 other) r.opened r.octets.items shut
  continued_holds c n is (Some w) before h r o (inr (inr (count, place, goes))) =
      joins.joined_holds laws A a m spells sound (kind.Continue c n) c ((n + 1) % 4) (before ++ m.mdata) (continues c n w.frame_count w.next is before h.0 count place) o r.opened r.octets.items (goes h.1)

  -- ---- each kind

  pub sorted_taken : (k : Kind) → m.kind ≡ k → (old new : Receiver) (o : Outcome) → HoldsOpened old.opened old.octets.items A → SortedTo k o m.mdata m.check old new → IsTaken (A ++ Some a ∷ []) (length A) (taking new.whole.items new.octets.items o)
  sorted_taken kind.Express is old new o holds s = express_taken is new o s.0
  sorted_taken kind.Verify is old new o holds s = verify_taken is new o s.0
  sorted_taken kind.Respond is old new o holds s = respond_taken is new o s.0
  sorted_taken (kind.Start c) is old new o holds s = joins.joined_taken laws A a m spells sound (kind.Start c) c 0 m.mdata (start_ends c is) new o s
  sorted_taken (kind.Continue c n) is old new o holds s = continued_taken c n is old.opened old.octets.items holds new o s

  pub sorted_holds : (k : Kind) → m.kind ≡ k → (old new : Receiver) (o : Outcome) → HoldsOpened old.opened old.octets.items A → SortedTo k o m.mdata m.check old new → HoldsOpened new.opened new.octets.items (A ++ Some a ∷ [])
  sorted_holds kind.Express is old new o holds s = same_holds kind.Express is refl old.opened new.opened old.octets.items new.octets.items holds s.1 s.2
  sorted_holds kind.Verify is old new o holds s = same_holds kind.Verify is refl old.opened new.opened old.octets.items new.octets.items holds s.1 s.2
  sorted_holds kind.Respond is old new o holds s = same_holds kind.Respond is refl old.opened new.opened old.octets.items new.octets.items holds s.1 s.2
  sorted_holds (kind.Start c) is old new o holds s = joins.joined_holds laws A a m spells sound (kind.Start c) c 0 m.mdata (start_ends c is) o new.opened new.octets.items s
  sorted_holds (kind.Continue c n) is old new o holds s = continued_holds c n is old.opened old.octets.items holds new o s
