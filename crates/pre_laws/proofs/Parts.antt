-- A frame goes over an arc in one express mPacket, or in fragments that carry it.
use Rattle.std.proofs.Common.{ℕ, suc, ◌≡◌, ◌⊎◌, ◌+◌, ◌-◌, ◌<◌, ◌≤◌, Bool, true, false, List, [], ◌∷◌}
use Rattle.std.proofs.Common.{◌++◌, length, take, drop, refl, sym, ◌∙◌, ap, inl, inr, arith, subst, Some, map}
use Rattle.std.specs.Prelude.{slice_get}
use Rattle.std.specs.List.{AllByRecursion as Every}
use Rattle.std.proofs.lemmas.List.{map-append, length-take-le, length-drop}
use Rattle.pre_base.specs.declared.numbers.FrameNo.{FrameNo}
use Rattle.pre_mpacket.specs.declared.packets.Kind.{Kind}
use Rattle.pre_mpacket.specs.declared.packets.Kind.TheVariants as kind
use Rattle.pre_mpacket.specs.Arrivals.{is_fragment, is_start, is_continue}
use Rattle.pre_mpacket.specs.Pieces as pieces
use Rattle.pre_mpacket.proofs.Carried.{last_check-append}
use Rattle.pre_history.specs.declared.events.What.TheVariants as what
use Rattle.pre_history.specs.Scenario.{Scenario, arc, FrameOf}
use Rattle.pre_history.specs.History.{History, Begin, Ended}
use Rattle.pre_history.specs.Queries.{Begins, Ends, Packet, packet, end_of, fragment_data, joined_data, Rest, rest_of, Interrupted}
use Rattle.pre_history.specs.Rules.{last_four}
use Rattle.pre_history.specs.Legal.{LegalUpTo}
use Rattle.pre_laws.specs.Routed.{IsRouted}
use Rattle.pre_laws.specs.Parts.{RunTo, plain_of, WentInParts, GoesOn}
use Rattle.pre_laws.proofs.Runs.{AllContinued, AllChecked, check_of, end_is, every_push}
use Rattle.pre_laws.proofs.RunSteps.{Run, Joins, fragment_at, finished, check_full, check_at, last_check_at, part_sent}
use Rattle.pre_laws.proofs.FirstOctets.{same_frame, whole_from}

module _ (w : Scenario) (h : History) where
  pub joined_plain : (ps : List Packet) → pieces.joined (map (plain_of w h) ps) ≡ joined_data w h ps
  joined_plain [] = refl
  joined_plain (p ∷ ps) = ap (λ l. fragment_data w h p ++ l) (joined_plain ps)

  pub continued_plain : (c n : ℕ) (ps : List Packet) → AllContinued c n ps → pieces.IsContinued c n (map (plain_of w h) ps)
  continued_plain c n [] all = tt
  continued_plain c n (p ∷ ps) (here, more) = (here, continued_plain c (n + 1) ps more)

  pub checked_plain : (acc : List ℕ) (ps : List Packet) (p : Packet) → AllChecked w h acc ps → pieces.IsChecked acc (map (plain_of w h) (ps ++ p ∷ []))
  checked_plain acc [] p all = tt
  checked_plain acc (q ∷ []) p (here, more) = (here, tt)
  checked_plain acc (q ∷ r ∷ ps) p (here, more) = (here, checked_plain (acc ++ fragment_data w h q) (r ∷ ps) p more)

  sizes_plain : (add : ℕ) (ps : List Packet) (p : Packet) → Every (λ q. pieces.least_fragment add ≤ length (fragment_data w h q)) ps → 64 ≤ length (fragment_data w h p) + length (check_of p)
      → pieces.HasSizes add (map (plain_of w h) (ps ++ p ∷ []))
  sizes_plain add [] p all long = tt
  sizes_plain add (q ∷ []) p (here, more) long = (here, long)
  sizes_plain add (q ∷ r ∷ []) p (here, more) long = (here, sizes_plain add (r ∷ []) p more long)
  sizes_plain add (q ∷ r ∷ s ∷ ps) p (here, more) long = (here, sizes_plain add (r ∷ s ∷ ps) p more long)

module _ (w : Scenario) (routed : IsRouted w) (n : ℕ) (h : History) (legal : LegalUpTo w n h) (a : ℕ) (a_lt : a < length w.net.arcs) where
  -- a run whose last fragment has ended and has the frame's last octets
  pub run_carries : (i : ℕ) (b : Begin) (r : Run w routed n h legal a a_lt (suc i) i b) (e : Ended) → slice_get (Ends h a) i ≡ Some e → b.from + e.size ≡ length (FrameOf w r.frame.0) → WentInParts w h a i r.frame
  run_carries i b r e over full =
      let end_at : end_of h a b.ord ≡ Some e = end_is w n h legal a a_lt i b r.begun ∙ over in
      let F = FrameOf w r.frame.0 in
      let p = packet h a b in
      let left = r.left in
      let long : 64 ≤ e.size = omega (arith, left, full) in
      let all : RunTo h a (suc i) ≡ r.before ++ p ∷ [] = r.run ∙ r.parts in
      let check = check_at w routed n h legal a a_lt (suc i) i b r e end_at in
      let check_long : length (last_four F) ≡ 4 = (let x = length-drop (length F - 4) F in omega (arith, x, left)) in
      let check_is = ap length (check ∙ check_full w routed n h legal a a_lt (suc i) i b r e end_at full) in
      let rest_long = length-drop b.from F in
      let part_long : length (take (e.size - 4) (drop b.from F)) ≡ e.size - 4 = length-take-le (e.size - 4) (drop b.from F) (omega (arith, rest_long, full, left)) in
      let part_is = ap length (part_sent w routed n h legal a a_lt (suc i) i b r e end_at) in
      record {
        all_carry = subst (Every (λ (q : Packet). q.begin.what ≡ what.Frame r.frame)) (sym all) (every_push (λ (q : Packet). q.begin.what ≡ what.Frame r.frame) r.before p r.all_carry r.carries);
        carried = record {
          sequence = (r.count, subst (λ ps. pieces.IsSequenceOf r.count (map (plain_of w h) ps)) (sym r.run) (r.first_kind, continued_plain w h r.count 0 r.more r.continued));
          whole = subst (λ ps. pieces.joined (map (plain_of w h) ps) ++ pieces.last_check (map (plain_of w h) ps) ≡ F) (sym all)
              (ap (λ l. l ++ pieces.last_check (map (plain_of w h) (r.before ++ p ∷ []))) (joined_plain w h (r.before ++ p ∷ []))
              ∙ (ap (λ l. joined_data w h (r.before ++ p ∷ []) ++ l) (ap pieces.last_check (map-append (plain_of w h) r.before (p ∷ [])) ∙ (last_check-append (map (plain_of w h) r.before) (plain_of w h p) ∙ (check ∙ sym (last_check_at w routed n h legal a a_lt (suc i) i b r e end_at))))
              ∙ finished w routed n h legal a a_lt (suc i) i b r e end_at full long));
          checked = subst (λ ps. pieces.IsChecked [] (map (plain_of w h) ps)) (sym all) (checked_plain w h [] r.before p r.checked);
          sizes = subst (λ ps. pieces.HasSizes (arc w a).add_frag (map (plain_of w h) ps)) (sym all) (sizes_plain w h (arc w a).add_frag r.before p r.sizes (omega (arith, check_long, check_is, part_long, part_is, long)));
        };
      }

  -- a frame whose last octets ended went whole or in parts
  pub finished_frame : (i : ℕ) (b : Begin) (e : Ended) (f : FrameNo) → slice_get (Begins h a) i ≡ Some b → slice_get (Ends h a) i ≡ Some e → b.what ≡ what.Frame f → b.from + e.size ≡ length (FrameOf w f.0)
      → ((b.kind ≡ kind.Express) × (b.from ≡ 0)) ⊎ WentInParts w h a i f
  finished_frame i b e f at over carries full = go (is_fragment b.kind) refl
    where
      go : (x : Bool) → is_fragment b.kind ≡ x → ((b.kind ≡ kind.Express) × (b.from ≡ 0)) ⊎ WentInParts w h a i f
      go false off = let o = whole_from w routed n h legal a a_lt i b f (at, carries) off in inl (o.1, o.0)
      go true on =
          let r = (fragment_at w routed n h legal a a_lt i b at on).0 in
          let same : r.frame ≡ f = same_frame r.frame f (sym r.carries ∙ carries) in
          inr (subst (WentInParts w h a i) same (run_carries i b r e over (full ∙ ap (λ (g : FrameNo). length (FrameOf w g.0)) (sym same))))

  continue_fragment : (k : Kind) → is_continue k ≡ true → (is_fragment k ≡ true) × (is_start k ≡ false)
  continue_fragment (kind.Continue c i) is = (refl, refl)
  continue_fragment (kind.Start c) is = absurd (cc is)
  continue_fragment kind.Express is = absurd (cc is)
  continue_fragment kind.Verify is = absurd (cc is)
  continue_fragment kind.Respond is = absurd (cc is)

  -- a continuation goes on with the frame of the fragment before it
  pub continuation : (m : ℕ) (d : Begin) → slice_get (Begins h a) m ≡ Some d → is_continue d.kind ≡ true → GoesOn w h a m d
  continuation m d at is = let k = continue_fragment d.kind is in go k.1 (fragment_at w routed n h legal a a_lt m d at k.0).1
    where
      go : is_start d.kind ≡ false → Joins w routed n h legal a a_lt m d → GoesOn w h a m d
      go off (inl (start, from)) = absurd (cc (sym start ∙ off))
      go off (inr (k, b, r, c)) = record {
        place = k;
        before = b;
        ended = c.ended;
        frame = r.frame;
        begun = r.begun;
        over = c.over;
        earlier = r.below;
        by = c.by;
        fragment = r.fragment;
        none_since = r.none_since;
        carried = r.carries;
        carries = c.carries;
        from = c.from;
        least = c.least;
        left = c.left;
      }

  -- a first fragment has the first octets of a frame
  start_kind : (k : Kind) → is_start k ≡ true → (is_fragment k ≡ true) × (is_continue k ≡ false)
  start_kind (kind.Start c) is = (refl, refl)
  start_kind (kind.Continue c i) is = absurd (cc is)
  start_kind kind.Express is = absurd (cc is)
  start_kind kind.Verify is = absurd (cc is)
  start_kind kind.Respond is = absurd (cc is)

  pub start : (m : ℕ) (d : Begin) → slice_get (Begins h a) m ≡ Some d → is_start d.kind ≡ true → (d.from ≡ 0) × ((f : FrameNo) × (d.what ≡ what.Frame f))
  start m d at is =
      let o = fragment_at w routed n h legal a a_lt m d at (start_kind d.kind is).0 in
      (go o.1, (o.0.frame, o.0.carries))
    where
      go : Joins w routed n h legal a a_lt m d → d.from ≡ 0
      go (inl (start, from)) = from
      go (inr (k, b, r, c)) = absurd (cc (sym is ∙ ap is_start c.kind_is))

-- one frame at most is interrupted
pub one_interrupted : (w : Scenario) (h : History) (a t : ℕ) (l r : Rest) → Interrupted w h a t l → Interrupted w h a t r → l ≡ r
one_interrupted w h a t l r (first, more, run, ended, cut, is) (first', more', run', ended', cut', is') =
    let same : first ∷ more ≡ first' ∷ more' = sym run ∙ run' in
    let first_is : first ≡ first' = cc same in
    let more_is : more ≡ more' = cc same in
    is ∙ (ap (λ x. rest_of w h x more) first_is ∙ (ap (rest_of w h first') more_is ∙ sym is'))
