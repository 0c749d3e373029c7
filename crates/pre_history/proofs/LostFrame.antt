-- The history of one express frame that is lost is legal.
use Rattle.std.proofs.Common.{ℕ, zero, suc, ◌≡◌, ◌≢◌, ◌==◌, ◌+◌, ◌*◌, ◌<◌, nat_le, Bool, true, List, [], ◌∷◌}
use Rattle.std.proofs.Common.{◌++◌, length, refl, sym, ◌∙◌, ap, inl, inr, arith, subst, Some, None, false}
use Rattle.std.specs.Prelude.{if◌then◌else◌, slice_get, count_by, option_map, option_and_then}
use Rattle.std.specs.List.{list_any, AllByRecursion as Every}
use Rattle.pre_script.specs.declared.scripts.SendLine.{SendLine}
use Rattle.pre_script.specs.declared.scripts.Loss.{Loss}
use Rattle.pre_mpacket.specs.declared.packets.Kind.{Kind}
use Rattle.pre_mpacket.specs.Spelling.{mpacket_of}
use Rattle.pre_mpacket.specs.Arrivals.{Given, Gives, HasKind, HasCome, IsLost, is_continue, is_fragment}
use Rattle.pre_mpacket.specs.Counters.{HoldsOf, IsAssError, IsSmdError, IsAssOk, IsFragRx}
use Rattle.pre_history.specs.declared.events.Outcome.TheVariants as outcome
use Rattle.pre_history.specs.Scenario.{Scenario, arc}
use Rattle.pre_history.specs.Moments.{Phase, moments}
use Rattle.pre_history.specs.History.{PlainEvent, History, Begin, Ended}
use Rattle.pre_history.specs.Queries.{Begins, Ends, Arrivals, Waiting, packet}
use Rattle.pre_history.specs.Octets.{Air, names_loss, is_lost, Damaged, Sent}
use Rattle.pre_history.specs.Rules.{EndDue, HappensIn}
use Rattle.pre_history.specs.Legal.{LegalUpTo, Legal, Alias, CountsOf, last_moment}
use Rattle.pre_history.specs.Examples.{LosesOneFrame, first_begin, first_end, lost, lost_frame_body, lost_frame}
use Rattle.pre_history.proofs.Arrived.{lost_gives_nothing}
use Rattle.pre_history.proofs.Undamaged.{air_at}
use Rattle.pre_history.proofs.WholeFrames.{NoFragments, no_counts, lines_none}
use Rattle.pre_history.proofs.PairFacts.{two_arcs, no_delay, next, idle}
use Rattle.pre_history.proofs.Quiet.{selected, other_arc, gone, quiet_sets, quiet_expiries, quiet_ends, quiet_arrivals, quiet_entries, quiet_starts, quiet_phase}
use Rattle.pre_history.proofs.OneFrame.{begun, from_one, ended, begun_whole, begun_waits, begun_begins, first_not_due, first_tick, ends_now}

module _ (w : Scenario) (l : LosesOneFrame w) where
  lost_in : (h : History) → slice_get (Begins h 0) 0 ≡ Some first_begin → IsLost (Air w h 0) 0
  lost_in h at =
      let is : is_lost w first_begin ≡ true = ap (λ (xs : List Loss). list_any (names_loss first_begin) xs) l.losses in
      air_at w h 0 0 first_begin at ∙ ap Some (ap (λ (x : Bool). if x then None else option_map (Damaged w first_begin) (Sent w h (packet h 0 first_begin))) is)

  arrives_now : HappensIn w (ended w l.script) 72 (Phase.arrivals 0) (lost ∷ [])
  unfolding HappensIn
  arrives_now =
      let now : 72 + (arc w 0).delay ≡ 72 = omega (arith, no_delay w (from_one w l.script) 0) in
      (lost ∷ [], [], inl (now, (outcome.Lost, inl (lost_in (ended w l.script) refl, refl), refl)), refl, refl)

  body_whole : NoFragments (lost_frame_body w)
  body_whole a = selected (λ (b : Begin). is_fragment b.kind ≡ false) first_begin (0 == a) refl

  body_waits : (t a p : ℕ) → 0 < t → Waiting (lost_frame_body w) a p t ≡ []
  unfolding Waiting
  body_waits t a p lt = gone t a p (0 == a) (6 == p) lt

  body_begins : (t a : ℕ) → t ≢ 72 → Every (λ (b : Begin). (e : PlainEvent) → ¬ EndDue w (lost_frame_body w) t b e) (Begins (lost_frame_body w) a)
  body_begins t a other = selected (λ (b : Begin). (e : PlainEvent) → ¬ EndDue w (lost_frame_body w) t b e) first_begin (0 == a) (first_not_due w l.script (lost_frame_body w) t other)

  body_ends : (t a : ℕ) → t ≢ 72 → Every (λ (e : Ended). e.tick ≢ t) (Ends (lost_frame_body w) a)
  body_ends t a other = selected (λ (e : Ended). e.tick ≢ t) (first_end w) (0 == a) (λ e. other (sym e))

  body_legal : LegalUpTo w 50010 (lost_frame_body w)
  body_legal =
      let s = from_one w l.script in
      let h = lost_frame_body w in
      let e = ended w l.script in
      let l720 : LegalUpTo w 720 begun
      = idle w s begun 1 72 (omega arith)
      (λ r from to. quiet_phase w s begun r (omega (arith, from)) (begun_whole w l.script) (λ a. inr (λ p. begun_waits w l.script r a p (omega (arith, from)))) (λ a. begun_begins w l.script r a (λ e. absurd (omega (arith, e, to)))) (λ a. tt)) (first_tick w l.script) in
      let l721 : LegalUpTo w 721 begun = next w s 720 begun [] 72 Phase.sets refl (quiet_sets w s begun 72) l720 in
      let l722 : LegalUpTo w 722 e = next w s 721 begun (PlainEvent.ended (first_end w) ∷ []) 72 (Phase.ends 0) refl (ends_now w l.script) l721 in
      let l723 : LegalUpTo w 723 e = next w s 722 e [] 72 (Phase.ends 1) refl (quiet_ends w s e 72 1 tt) l722 in
      let l724 : LegalUpTo w 724 h = next w s 723 e (lost ∷ []) 72 (Phase.arrivals 0) refl arrives_now l723 in
      let l725 : LegalUpTo w 725 h = next w s 724 h [] 72 (Phase.arrivals 1) refl (quiet_arrivals w s h 72 1 tt) l724 in
      let l726 : LegalUpTo w 726 h = next w s 725 h [] 72 (Phase.expiries 0) refl (quiet_expiries w s h 72 0) l725 in
      let l727 : LegalUpTo w 727 h = next w s 726 h [] 72 (Phase.expiries 1) refl (quiet_expiries w s h 72 1) l726 in
      let l728 : LegalUpTo w 728 h = next w s 727 h [] 72 Phase.entries refl (quiet_entries w s h 72 (omega arith)) l727 in
      let l729 : LegalUpTo w 729 h = next w s 728 h [] 72 (Phase.starts 0) refl (quiet_starts w s h 72 0 body_whole (inr (λ p. body_waits 72 0 p (omega arith)))) l728 in
      let l730 : LegalUpTo w 730 h = next w s 729 h [] 72 (Phase.starts 1) refl (quiet_starts w s h 72 1 body_whole (inr (λ p. body_waits 72 1 p (omega arith)))) l729 in
      idle w s h 73 5001 (omega arith)
      (λ r from to. quiet_phase w s h r (omega (arith, from)) body_whole (λ a. inr (λ p. body_waits r a p (omega (arith, from)))) (λ a. body_begins r a (λ e. absurd (omega (arith, e, from)))) (λ a. body_ends r a (λ e. absurd (omega (arith, e, from))))) l730

  -- ---- no alias and no counts

  nothing_given : (g : Given) → Gives (Air w (lost_frame_body w) 0) 0 g → ⊥
  nothing_given g gives = lost_gives_nothing (Air w (lost_frame_body w) 0) 0 g (lost_in (lost_frame_body w) refl) gives

  no_kind : (test : Kind → Bool) → HasKind (Air w (lost_frame_body w) 0) test 0 → ⊥
  no_kind test (m, spells, pass) = let none = ap (λ o. option_and_then (λ a. option_and_then mpacket_of a) o) (lost_in (lost_frame_body w) refl) in cc (sym none ∙ spells)

  not_come : HasCome (Air w (lost_frame_body w) 0) 0 → ⊥
  not_come (octets, at) = let same : Some octets ≡ None = cc (sym at ∙ lost_in (lost_frame_body w) refl) in cc same

  no_arrivals : (a : ℕ) → Arrivals (lost_frame_body w) (suc a) ≡ []
  no_arrivals a = rw (other_arc a) refl

  no_begins : (a : ℕ) → Begins (lost_frame_body w) (suc a) ≡ []
  no_begins a = rw (other_arc a) refl

  no_alias : (a i : ℕ) → i < length (Arrivals (lost_frame_body w) a) → ¬ Alias w (lost_frame_body w) a i
  no_alias zero zero lt (inl (gives, other)) = nothing_given Given.verify gives
  no_alias zero zero lt (inr (inl (gives, other))) = nothing_given Given.respond gives
  no_alias zero zero lt (inr (inr (octets, gives, other))) = nothing_given (Given.frame octets) gives
  no_alias zero (suc i) lt alias = omega (arith, lt)
  no_alias (suc a) i lt alias = let none = ap length (no_arrivals a) in omega (arith, lt, none)

  counts_none : (a : ℕ) → CountsOf w (lost_frame_body w) a no_counts
  counts_none zero = (
    record {
      ass_errors = inr (no_error, refl);
      smd_errors = inr ((λ x. not_come x.0), refl);
      ass_oks = inr ((λ x. no_kind _ x.0), refl);
      frag_rxs = inr ((λ x. no_kind _ x.0), refl);
    },
    refl,
  )
    where
      no_error : IsAssError (Air w (lost_frame_body w) 0) 0 → ⊥
      no_error (inl (open', inl start)) = no_kind _ start
      no_error (inl (open', inr (more, refused))) = no_kind _ more
      no_error (inr (start, refused)) = no_kind _ start
  counts_none (suc a) = (
    record {
      ass_errors = none (IsAssError (Air w (lost_frame_body w) (suc a)));
      smd_errors = none (IsSmdError (Air w (lost_frame_body w) (suc a)));
      ass_oks = none (IsAssOk (Air w (lost_frame_body w) (suc a)));
      frag_rxs = none (IsFragRx (Air w (lost_frame_body w) (suc a)));
    },
    sym (ap (count_by (λ (b : Begin). is_continue b.kind)) (no_begins a)),
  )
    where
      none : (P : ℕ → Type 0) → HoldsOf P (length (Arrivals (lost_frame_body w) (suc a))) 0
      none P = subst (λ n. HoldsOf P n 0) (sym (ap length (no_arrivals a))) refl

  pub lost_frame_legal : Legal w (lost_frame w)
  lost_frame_legal =
      let sent : count_by (λ (x : SendLine). nat_le x.send.tick.0 w.script.until.0) w.script.sends ≡ 1
      = ap (λ (n : ℕ). count_by (λ (x : SendLine). nat_le x.send.tick.0 n) w.script.sends) l.script.until ∙ ap (count_by (λ (x : SendLine). nat_le x.send.tick.0 5000)) l.script.sends in
      let at : last_moment w ≡ 50010 = ap (λ (n : ℕ). (n + 1) * moments (length w.net.arcs)) l.script.until ∙ ap (λ (n : ℕ). 5001 * moments n) (two_arcs w (from_one w l.script)) in (
        lost_frame_body w,
        [],
        (subst (λ n. LegalUpTo w n (lost_frame_body w)) (sym at) body_legal, no_alias),
        lines_none w (lost_frame_body w) counts_none (length w.net.arcs),
        λ i. lost_frame_body w ++ PlainEvent.end (record { until = sym l.script.until i; sent = sym sent i; delivered = 0; dropped = 0 }) ∷ [],
      )
