-- The frame that a sender keeps is the one that a history says is interrupted.
use Rattle.std.proofs.Common.{ℕ, suc, ◌≡◌, ◌≢◌, ◌⊎◌, ◌==◌, ◌+◌, ◌-◌, ◌%◌, ◌≤◌, Bool, true, false, List}
use Rattle.std.proofs.Common.{[], ◌∷◌, ◌++◌, length, take, drop, refl, sym, ◌∙◌, ap, ap₂, inl}
use Rattle.std.proofs.Common.{inr, arith, subst, Option, Some, None, filter}
use Rattle.std.specs.Prelude.{if◌then◌else◌, unwrap_or, option_map, option_and_then}
use Rattle.std.proofs.Math.Seq.{take-add}
use Rattle.std.proofs.lemmas.List.{append-nil, length-append, take-append-drop}
use Rattle.std.proofs.lemmas.List.Elements.{filter-append}
use Rattle.std.proofs.lemmas.Grind.{flat_map-append}
use Rattle.std.proofs.lemmas.Bool.Decides.{eqb_tells}
use Rattle.pre_crc.specs.Checks.{Mcrc}
use Rattle.pre_crc.proofs.CheckFacts.{length-Mcrc}
use Rattle.pre_mpacket.specs.declared.packets.Kind.{Kind}
use Rattle.pre_mpacket.specs.declared.packets.Kind.TheVariants as kind
use Rattle.pre_mpacket.specs.Arrivals.{is_start, is_fragment}
use Rattle.pre_rings.specs.declared.slots.FrameRef.{FrameRef}
use Rattle.pre_rings.specs.Stores.{HoldsAt}
use Rattle.pre_send.specs.Calls.{Chosen, express, whole, first, rest, verify, respond, lldp}
use Rattle.pre_send.specs.Sendings.{Sending, Part, held, part_at, mdata_at, left_by, after_fragment, after_rest, part_after, interrupted, is_first, firsts, IsCut, Follows, AreSent}
use Rattle.pre_send.specs.Frames.{frame_of_part, frame_by}
use Rattle.pre_history.specs.declared.events.What.TheVariants as what
use Rattle.pre_history.specs.Scenario.{Scenario, FrameOf}
use Rattle.pre_history.specs.History.{History, Begin, Ended}
use Rattle.pre_history.specs.Selected.{from_last, frame_number}
use Rattle.pre_history.specs.Queries.{Packet, fragment_data, joined_data, last_check}
use Rattle.pre_history.specs.Octets.{WholeOf, whole_of}
use Rattle.pre_history.specs.Rules.{CheckOf, last_four}
use Rattle.pre_history.proofs.Chosen.{last_push}
use Rattle.pre_outgoing.specs.Matching.{IsSized, IsStored, what_of, what_of_frame}
use Rattle.pre_outgoing.proofs.Pairs.{last_yes, last_no, Done, packet_of, Pairs}

-- ---- the run of a list of mPackets

abbrev pub starts : Packet → Bool
starts p = is_start p.begin.kind

abbrev pub fragments : Packet → Bool
fragments p = is_fragment p.begin.kind

abbrev pub run_of : List Packet → List Packet
run_of ps = from_last starts (filter fragments ps)

run_other : (ps : List Packet) (x : Packet) → fragments x ≡ false → run_of (ps ++ x ∷ []) ≡ run_of ps
run_other ps x fails =
    let none : filter fragments (x ∷ []) ≡ [] = rw fails refl in
    ap (from_last starts) (filter-append fragments ps (x ∷ []) ∙ (ap (λ xs. filter fragments ps ++ xs) none ∙ append-nil (filter fragments ps)))

pushed : (ps : List Packet) (x : Packet) → fragments x ≡ true → filter fragments (ps ++ x ∷ []) ≡ filter fragments ps ++ x ∷ []
pushed ps x passes = let one : filter fragments (x ∷ []) ≡ x ∷ [] = rw passes refl in filter-append fragments ps (x ∷ []) ∙ ap (λ xs. filter fragments ps ++ xs) one

run_start : (ps : List Packet) (x : Packet) → fragments x ≡ true → starts x ≡ true → run_of (ps ++ x ∷ []) ≡ x ∷ []
run_start ps x passes start = ap (from_last starts) (pushed ps x passes) ∙ last_yes starts (filter fragments ps) x start

run_more : (ps : List Packet) (x r : Packet) (rs : List Packet) → fragments x ≡ true → starts x ≡ false → run_of ps ≡ r ∷ rs → run_of (ps ++ x ∷ []) ≡ r ∷ (rs ++ x ∷ [])
run_more ps x r rs passes fails is = ap (from_last starts) (pushed ps x passes) ∙ last_no starts (filter fragments ps) x r rs fails is

-- ---- what a run stands for

module _ (w : Scenario) (h : History) where
  -- it has the fragments so far of an interrupted frame
  pub record IsRun (x : Part) (began : ℕ) (run : List Packet) : Type 0 where
    pub start : Packet
    pub more : List Packet
    pub run_is : run ≡ start ∷ more
    pub carries : start.begin.what ≡ what.Frame x.frame.frame
    pub kind : start.begin.kind ≡ kind.Start ((began + 3) % 4)
    pub count : length more ≡ x.continuations
    pub joins : joined_data w h run ≡ x.so_far
    pub same : x.so_far ≡ take x.place (FrameOf w x.frame.frame.0)
    pub sized : x.frame.size ≡ length (FrameOf w x.frame.frame.0)
    pub left : x.place + 64 ≤ x.frame.size
    pub check : length (last_check w h run) ≡ 4

  -- it has all fragments of a frame
  pub record IsFrame (run : List Packet) : Type 0 where
    pub start : Packet
    pub more : List Packet
    pub run_is : run ≡ start ∷ more
    pub all : joined_data w h run ++ last_check w h run ≡ FrameOf w (frame_number start.begin.what)

  abbrev pub RunAfter : Option Part → ℕ → List Packet → Type 0
  RunAfter None began run = (run ≡ []) ⊎ IsFrame run
  RunAfter (Some x) began run = IsRun x began run

  -- ---- one more fragment
  module _ (f : FrameRef) (before : List ℕ) (k began unsent add_frag cost : ℕ) (p : Sending) (older : List Sending) (b : Begin) (e : Ended)
      (done : Done w h p older b e) (frame_is : frame_by p.told.chosen (interrupted older) ≡ Some f) (carries : b.what ≡ what.Frame f.frame)
      (run : List Packet) (joins : joined_data w h run ≡ before) (same : before ≡ take p.from (FrameOf w f.frame.0))
      (total : p.from + unsent ≡ f.size) (cut : IsCut cost add_frag p.told unsent p.size) (few : (p.from ≡ 0) ⊎ (p.from + 64 ≤ f.size))
      (start : Packet) (more : List Packet) (run_is : run ++ packet_of b e ∷ [] ≡ start ∷ more) (start_carries : start.begin.what ≡ what.Frame f.frame)
      (start_kind : start.begin.kind ≡ kind.Start ((began + 3) % 4)) (count : length more ≡ k) where
    F : List ℕ
    F = FrameOf w f.frame.0

    sized : f.size ≡ length F
    unfolding F
    sized = subst (λ o. IsSized w o) frame_is done.fits.sized

    stored : HoldsAt done.end.store f.slot F
    unfolding F
    stored = subst (λ o. IsStored w o done.end.store) frame_is done.stored

    whole_is : WholeOf w h b ≡ F
    unfolding F
    whole_is = ap (whole_of w h b) carries

    part : List ℕ
    part = take (p.size - 4) (drop p.from F)

    fragment : fragment_data w h (packet_of b e) ≡ part
    unfolding F part
    fragment =
        ap (λ n. take (n - 4) (drop b.from (FrameOf w (frame_number b.what)))) done.size
        ∙ (ap (λ n. take (p.size - 4) (drop n (FrameOf w (frame_number b.what)))) (sym done.fits.from)
        ∙ ap (λ x. take (p.size - 4) (drop p.from (FrameOf w (frame_number x)))) carries)

    joined : joined_data w h (run ++ packet_of b e ∷ []) ≡ before ++ part
    unfolding part
    joined = flat_map-append (fragment_data w h) run (packet_of b e ∷ []) ∙ ap₂ (λ (x y : List ℕ). x ++ y) joins (append-nil (fragment_data w h (packet_of b e)) ∙ fragment)

    to : before ++ part ≡ take (p.from + (p.size - 4)) F
    unfolding F part
    to = ap (λ x. x ++ take (p.size - 4) (drop p.from F)) same ∙ sym (take-add p.from (p.size - 4) F)

    part_sent : mdata_at f p.from p.size p.told.end ≡ part
    unfolding part
    part_sent = ap (mdata_at f p.from p.size) done.is_end ∙ ap (λ x. part_at x p.from p.size) (ap held stored)

    checked : last_check w h (run ++ packet_of b e ∷ []) ≡ CheckOf w h b e.size
    checked = ap (λ o. unwrap_or (option_map (λ (d : Ended). d.check) (option_and_then (λ (x : Packet). x.ended) o)) []) (last_push run (packet_of b e)) ∙ done.check

    check_at_size : CheckOf w h b e.size ≡ (if p.from + p.size == f.size then last_four F else Mcrc (take (p.from + p.size - 4) F))
    unfolding F
    check_at_size =
        ap (λ (xs : List ℕ). if b.from + e.size == length xs then last_four xs else Mcrc (take (b.from + e.size - 4) xs)) whole_is
        ∙ (ap (λ n. if n + e.size == length F then last_four F else Mcrc (take (n + e.size - 4) F)) (sym done.fits.from)
        ∙ (ap (λ n. if p.from + n == length F then last_four F else Mcrc (take (p.from + n - 4) F)) done.size
        ∙ ap (λ n. if p.from + p.size == n then last_four F else Mcrc (take (p.from + p.size - 4) F)) (sym sized)))

    equal : (p.from + p.size == f.size) ≡ true → p.from + p.size ≡ f.size
    equal is = elim (eqb_tells (p.from + p.size) f.size) [ inl same' ↦ same'.1 | inr other ↦ absurd (cc (is, other.0)) ]

    unequal : (p.from + p.size == f.size) ≡ false → p.from + p.size ≢ f.size
    unequal is = elim (eqb_tells (p.from + p.size) f.size) [ inl same' ↦ absurd (cc (is, same'.0)) | inr other ↦ other.1 ]

    at_end : p.from + p.size ≡ f.size → p.from + (p.size - 4) ≡ length F - 4
    at_end is = elim few [ inl zero' ↦ omega (arith, is, sized, zero') | inr left' ↦ omega (arith, is, sized, left') ]

    before_end : p.from + p.size ≢ f.size → p.from + (p.size - 4) + 64 ≤ f.size
    before_end more' = elim cut [
      | inl (d, (long, left', waits), least, is) ↦ omega (arith, is, left', total)
      | inr (none, is) ↦ absurd (more' (omega (arith, is, total)))
    ]

    check_is : (test : Bool) → (p.from + p.size == f.size) ≡ test → last_check w h (run ++ packet_of b e ∷ []) ≡ (if test then last_four F else Mcrc (take (p.from + p.size - 4) F))
    check_is test is = checked ∙ (check_at_size ∙ ap (λ (x : Bool). if x then last_four F else Mcrc (take (p.from + p.size - 4) F)) is)

    pub grown : (test : Bool) → (p.from + p.size == f.size) ≡ test
        → RunAfter (left_by test (record { frame = f; place = p.from + (p.size - 4); so_far = before ++ mdata_at f p.from p.size p.told.end; continuations = k })) began (run ++ packet_of b e ∷ [])
    unfolding F part
    grown true test = inr (record { start = start; more = more; run_is = run_is; all = whole_frame })
      where
        whole_frame : joined_data w h (run ++ packet_of b e ∷ []) ++ last_check w h (run ++ packet_of b e ∷ []) ≡ FrameOf w (frame_number start.begin.what)
        whole_frame =
            ap₂ (λ (x y : List ℕ). x ++ y) (joined ∙ (to ∙ ap (λ n. take n F) (at_end (equal test)))) (check_is true test)
            ∙ (take-append-drop (length F - 4) F ∙ ap (λ x. FrameOf w (frame_number x)) (sym start_carries))
    grown false test = record {
      start = start;
      more = more;
      run_is = run_is;
      carries = start_carries;
      kind = start_kind;
      count = count;
      joins = joined ∙ ap (λ x. before ++ x) (sym part_sent);
      same = ap (λ x. before ++ x) part_sent ∙ to;
      sized = sized;
      left = before_end (unequal test);
      check = ap length (check_is false test) ∙ length-Mcrc (take (p.from + p.size - 4) F);
    }

  -- ---- after these mPackets
  module _ (cost add_frag : ℕ) where
    unmoved : (o : Option Part) (n : ℕ) (run run' : List Packet) → run' ≡ run → RunAfter o n run → RunAfter o (0 + n) run'
    unmoved o n run run' same old = subst (λ k. RunAfter o k run') (omega arith) (subst (RunAfter o n) (sym same) old)

    module _ (p : Sending) (older : List Sending) (b : Begin) (e : Ended) (front : List Packet) (done : Done w h p older b e)
        (old : RunAfter (interrupted older) (firsts older) (run_of front)) where
      other : (k : Kind) → p.kind ≡ k → is_fragment k ≡ false → RunAfter (interrupted older) (0 + firsts older) (run_of (front ++ packet_of b e ∷ []))
      other k is fails = unmoved (interrupted older) (firsts older) (run_of front) (run_of (front ++ packet_of b e ∷ []))
          (run_other front (packet_of b e) (ap is_fragment (sym done.fits.kind ∙ is) ∙ fails)) old

      one_more : (ch : Chosen) → p.told.chosen ≡ ch → Follows cost add_frag ch older p
          → RunAfter (part_after ch (interrupted older) p) (is_first ch + firsts older) (run_of (front ++ packet_of b e ∷ []))
      one_more (express f) is follows = other kind.Express follows.0 refl
      one_more (whole f) is follows = other kind.Express follows.0 refl
      one_more verify is follows = other kind.Verify follows.0 refl
      one_more respond is follows = other kind.Respond follows.0 refl
      one_more lldp is follows = other kind.Express follows.0 refl
      one_more (first f) is follows =
          let kind_is : b.kind ≡ kind.Start (firsts older % 4) = sym done.fits.kind ∙ follows.0 in
          let carries : b.what ≡ what.Frame f.frame = done.fits.carries ∙ ap (λ c. what_of c (interrupted older)) is in
          subst (RunAfter (after_fragment f [] 0 p) (1 + firsts older)) (sym (run_start front (packet_of b e) (ap is_fragment kind_is) (ap is_start kind_is)))
          (grown f [] 0 (1 + firsts older) f.size add_frag cost p older b e done (ap (λ c. frame_by c (interrupted older)) is) carries [] refl
          (sym (ap (λ n. take n (FrameOf w f.frame.0)) follows.1)) (omega (arith, follows.1)) follows.2 (inl follows.1) (packet_of b e) [] refl carries
          (kind_is ∙ ap (λ c. kind.Start c) (omega arith)) refl (p.from + p.size == f.size) refl)
      one_more rest is (y, interrupts, kind_is, from, cut) =
          let r : IsRun y (firsts older) (run_of front) = subst (λ o. RunAfter o (firsts older) (run_of front)) interrupts old in
          let begin_is = sym done.fits.kind ∙ kind_is in
          let more = run_more front (packet_of b e) r.start r.more (ap is_fragment begin_is) (ap is_start begin_is) r.run_is in
          let grows : run_of front ++ packet_of b e ∷ [] ≡ r.start ∷ (r.more ++ packet_of b e ∷ []) = ap (λ l. l ++ packet_of b e ∷ []) r.run_is in
          subst (λ o. RunAfter (after_rest o p) (0 + firsts older) (run_of (front ++ packet_of b e ∷ []))) (sym interrupts)
          (unmoved (after_fragment y.frame y.so_far (suc y.continuations) p) (firsts older) (run_of front ++ packet_of b e ∷ []) (run_of (front ++ packet_of b e ∷ [])) (more ∙ sym grows)
          (grown y.frame y.so_far (suc y.continuations) (firsts older) (y.frame.size - y.place) add_frag cost p older b e done
          (ap (λ c. frame_by c (interrupted older)) is ∙ ap frame_of_part interrupts)
          (done.fits.carries ∙ (ap (λ c. what_of c (interrupted older)) is ∙ ap (λ o. what_of_frame (frame_of_part o)) interrupts))
          (run_of front) r.joins (r.same ∙ ap (λ n. take n (FrameOf w y.frame.frame.0)) (sym from)) (omega (arith, from, r.left)) cut (inr (omega (arith, from, r.left)))
          r.start (r.more ++ packet_of b e ∷ []) grows r.carries r.kind (omega (arith, length-append r.more (packet_of b e ∷ []), r.count)) (p.from + p.size == y.frame.size) refl))

    pub run_after : (packets : List Sending) (ps : List Packet) → AreSent cost add_frag packets → Pairs w h packets ps → RunAfter (interrupted packets) (firsts packets) (run_of ps)
    run_after [] ps sent none = inl (ap run_of none)
    run_after (p ∷ older) ps (follows, those) (front, b, e, is, done, pairs) =
        subst (λ xs. RunAfter (interrupted (p ∷ older)) (firsts (p ∷ older)) (run_of xs)) (sym is)
        (one_more p older b e front done (run_after older front those pairs) p.told.chosen refl follows)
