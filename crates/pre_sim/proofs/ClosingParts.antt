-- The closing events of a run: the `count` lines, and the end.
use Rattle.std.proofs.Common.{ℕ, zero, suc, ◌≡◌, ◌==◌, ◌&&◌, ◌+◌, ◌-◌, ◌*◌, ◌^◌, ◌<◌, ◌≤◌, Bool, true}
use Rattle.std.proofs.Common.{false, List, [], ◌∷◌, ◌++◌, length, refl, sym, ◌∙◌, ap, inl, arith, subst, Some, append_assoc}
use Rattle.std.specs.Prelude.{slice_get, count_by}
use Rattle.std.proofs.lemmas.List.{append-nil}
use Rattle.pre_mpacket.specs.Arrivals.{is_continue}
use Rattle.pre_mpacket.proofs.CountersFound.{counters_some}
use Rattle.pre_history.specs.Scenario.{Scenario}
use Rattle.pre_history.specs.Moments.{moments}
use Rattle.pre_history.specs.Placed.{number}
use Rattle.pre_history.specs.History.{PlainEvent, Counts, History}
use Rattle.pre_history.specs.Queries.{Begins, Ends, Arrivals}
use Rattle.pre_history.specs.Octets.{Air}
use Rattle.pre_history.specs.Legal.{LegalUpTo, LegalBefore, Legal, CountLines, count_line, closing, last_moment}
use Rattle.pre_history.proofs.InOrder.{steady}
use Rattle.pre_history.proofs.Rising.{place_le_tick}
use Rattle.pre_links.proofs.Early.{arrived_by}
use Rattle.pre_bridge.specs.Inside.{inside, of_arc}
use Rattle.pre_sim.specs.declared.lanes.Lane.{Lane}
use Rattle.pre_sim.specs.declared.ticks.Progress.{Progress}
use Rattle.pre_sim.specs.Closing.{TellsCounts}
use Rattle.pre_sim.specs.Stages.{stage_at}
use Rattle.pre_sim.specs.Stands.{Reaches}
use Rattle.pre_sim.specs.Parts.{CountsPart, CountsFront, ClosesPart, ClosesFront, end_event}
use Rattle.pre_sim.proofs.Lists.{there}

-- ---- the line of an arc

abbrev all_zero : Counts → Bool
all_zero c = (c.err == 0) && (c.smd == 0) && (c.ok == 0) && (c.rx == 0) && (c.tx == 0)

pub no_line : (a : ℕ) (c : Counts) → all_zero c ≡ true → [] ≡ count_line a c
no_line a c none = rw none refl

pub one_line : (a : ℕ) (c : Counts) → all_zero c ≡ false → PlainEvent.count a c ∷ [] ≡ count_line a c
one_line a c some = rw some refl

-- no more than one mPacket a tick has arrived
few_arrivals : (w : Scenario) (t : ℕ) (h : History) (a : ℕ) → a < length w.net.arcs → LegalUpTo w (number (length w.net.arcs) t 0) h → length (Arrivals h a) ≤ t + 1
few_arrivals w t h a a_lt legal = go (length (Arrivals h a)) refl
  where
    go : (n : ℕ) → length (Arrivals h a) ≡ n → length (Arrivals h a) ≤ t + 1
    go zero is = omega (arith, is)
    go (suc n) is =
        let o = (steady w (number (length w.net.arcs) t 0) h a a_lt legal).ordered in
        let x = there (Arrivals h a) n (omega (arith, is)) in
        let e = there (Ends h a) n (omega (arith, is, o.arrivals_ended)) in
        let b = there (Begins h a) n (omega (arith, is, o.arrivals_ended, o.ends_begun)) in
        let from = place_le_tick w (number (length w.net.arcs) t 0) h legal a a_lt n b.0 b.1 in
        let span = o.spans n b.0 e.0 b.1 e.1 in
        let travel = o.travels n e.0 x.0 e.1 x.1 in
        let by = arrived_by w t 0 h a legal (omega arith) n x.0 x.1 in
        omega (arith, is, from, span, travel, by)

-- ---- the lines of all arcs

-- more of them follow
lines_up : (w : Scenario) (h : History) (k n : ℕ) (es : List PlainEvent) → CountLines w h n es → (rest : List PlainEvent) × CountLines w h (n + k) (es ++ rest)
lines_up w h zero n es lines =
    let same : n ≡ n + 0 = omega arith in
    ([], subst (λ m. CountLines w h m (es ++ [])) same (subst (CountLines w h n) (sym (append-nil es)) lines))
lines_up w h (suc k) n es lines =
    let o = counters_some (Air w h n) (length (Arrivals h n)) in
    let c : Counts = record { err = o.0; smd = o.1; ok = o.2; rx = o.3; tx = count_by (λ b. is_continue b.kind) (Begins h n) } in
    let next : CountLines w h (suc n) (es ++ count_line n c) = (es, c, lines, (o.4, refl), refl) in
    let more = lines_up w h k (suc n) (es ++ count_line n c) next in
    let same : suc n + k ≡ n + suc k = omega arith in
    (count_line n c ++ more.0, subst (λ m. CountLines w h m (es ++ (count_line n c ++ more.0))) same (subst (CountLines w h (suc n + k)) (append_assoc es (count_line n c) more.0) more.1))

pub all_lines : (w : Scenario) (h : History) (n m : ℕ) (es : List PlainEvent) → n ≤ m → CountLines w h n es → (rest : List PlainEvent) × CountLines w h m (es ++ rest)
all_lines w h n m es le lines =
    let more = lines_up w h (m - n) n es lines in
    let same : n + (m - n) ≡ m = omega (arith, le) in
    (more.0, subst (λ k. CountLines w h k (es ++ more.0)) same more.1)

module _ (w : Scenario) (p : Progress) (until : w.script.until.0 ≤ 4 * 10 ^ 12) where
  abbrev A : ℕ
  A = length w.net.arcs

  -- the lines of one arc more
  module _ (n : ℕ) (lane : Lane) (here : slice_get p.lanes.items n ≡ Some lane) (n_lt : n < A) (es fs : History) (so_far : CountsPart w p n es) (next : TellsCounts n lane fs) where
    pub one_more_line : CountsPart w p (n + 1) (es ++ fs)
    one_more_line h r =
        let few = few_arrivals w (w.script.until.0 + 1) h n n_lt r.legal.0 in
        let c = next w h (number A (w.script.until.0 + 1) 0) (stage_at A (w.script.until.0 + 1) 0 n) (of_arc n (inside w.net w.streams r.calls)) n_lt r.legal.0 (omega (arith, few, until))
        (r.lanes n lane here) in
        let line : CountLines w h (suc n) (es ++ fs) = (es, c.0, so_far h r, c.1, ap (λ gs. es ++ gs) c.2) in
        let same : suc n ≡ n + 1 = omega arith in
        subst (λ m. CountLines w h m (es ++ fs)) same line

    pub one_more_front : CountsFront w p (es ++ fs)
    one_more_front h r = all_lines w h (n + 1) A (es ++ fs) (omega (arith, n_lt)) (one_more_line h r)

  -- ---- the end

  legal_body : (h : History) → Reaches w (w.script.until.0 + 1) 0 h p → LegalBefore w h (last_moment w)
  legal_body h r = subst (LegalBefore w h) (same ((w.script.until.0 + 1) * moments A)) r.legal
    where
      same : (x : ℕ) → x + 0 ≡ x
      same x = omega arith

  its_end : (h : History) → Reaches w (w.script.until.0 + 1) 0 h p → PlainEvent.end (closing w h) ≡ end_event w p
  its_end h r = λ i. PlainEvent.end (record { until = w.script.until.0; sent = (closing w h).sent; delivered = sym r.deliveries i; dropped = sym r.drops i })

  pub closes : (es : History) → CountsPart w p A es → ClosesPart w p (es ++ end_event w p ∷ [])
  closes es lines h r = (h, es, legal_body h r, lines h r, sym (append_assoc h es (end_event w p ∷ [])) ∙ ap (λ e. h ++ es ++ e ∷ []) (sym (its_end h r)))

  pub counts_front : (es : History) → CountsFront w p es → ClosesFront w p es
  counts_front es front h r =
      let all = front h r in
      let e = end_event w p in
      let whole : (h ++ (es ++ all.0)) ++ e ∷ [] ≡ (h ++ es) ++ (all.0 ++ e ∷ []) = ap (λ g. g ++ e ∷ []) (sym (append_assoc h es all.0)) ∙ append_assoc (h ++ es) all.0 (e ∷ []) in
      (all.0 ++ e ∷ [], inl (subst (Legal w) whole (h, es ++ all.0, legal_body h r, all.1, ap (λ x. (h ++ (es ++ all.0)) ++ x ∷ []) (sym (its_end h r)))))

  pub end_front : (es : History) → CountsPart w p A es → ClosesFront w p (es ++ end_event w p ∷ [])
  end_front es lines h r = ([], inl (subst (Legal w) (sym (append-nil (h ++ (es ++ end_event w p ∷ [])))) (closes es lines h r)))

-- no line yet
pub no_lines : (w : Scenario) (p : Progress) → CountsPart w p 0 []
no_lines w p h r = refl
