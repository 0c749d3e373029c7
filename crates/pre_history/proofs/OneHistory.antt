-- There is one history that is legal up to a moment.
use Rattle.std.proofs.Common.{ℕ, zero, suc, ◌≡◌, length, sym, ◌∙◌, ap, subst}
use Rattle.pre_history.specs.Scenario.{Scenario}
use Rattle.pre_history.specs.Moments.{Phase, moment_at}
use Rattle.pre_history.specs.History.{History}
use Rattle.pre_history.specs.Queries.{Begins, Ends, Arrivals}
use Rattle.pre_history.specs.Octets.{Air}
use Rattle.pre_history.specs.Rules.{OneOrNone, EndDue, Arriving, StartDue, HappensIn, Happens}
use Rattle.pre_history.specs.Legal.{LegalUpTo, Legal, CountsOf, CountLines, count_line, last_moment}
use Rattle.pre_history.proofs.Deciding.{IsOne, one_or_none, each}
use Rattle.pre_history.proofs.Sizes.{end_one}
use Rattle.pre_history.proofs.Starts.{start_one, expiry_one}
use Rattle.pre_history.proofs.Arrived.{OneGiven, arriving_one}
use Rattle.pre_mpacket.proofs.Counted.{counters_one}

-- the rules decide the events of each phase
pub happens_one : OneGiven → (w : Scenario) (past : History) (t : ℕ) (p : Phase) → IsOne (HappensIn w past t p)
unfolding HappensIn
happens_one one w past t Phase.sets es fs h k = h ∙ sym k
happens_one one w past t Phase.entries es fs h k = h ∙ sym k
happens_one one w past t (Phase.ends a) es fs h k =
    each (λ b gs. OneOrNone (EndDue w past t b) gs) (λ b. one_or_none (EndDue w past t b) (end_one w past t b)) (Begins past a) es fs h k
happens_one one w past t (Phase.arrivals a) es fs h k =
    each (Arriving w past t a) (arriving_one one w past t a) (Ends past a) es fs h k
happens_one one w past t (Phase.expiries a) es fs h k = expiry_one w past t a es fs h k
happens_one one w past t (Phase.starts a) es fs h k = one_or_none (StartDue w past t a) (start_one w past t a) es fs h k

pub legal_one : OneGiven → (w : Scenario) (n : ℕ) → IsOne (LegalUpTo w n)
legal_one one w zero g h p q = p ∙ sym q
legal_one one w (suc n) g h (past, es, is, legal, happens) (past', es', is', legal', happens') =
    let before : past ≡ past' = legal_one one w n past past' legal legal' in
    let m = moment_at (length w.net.arcs) n in
    let here : Happens w past' m es = subst (λ x. Happens w x m es) before happens in
    let same : es ≡ es' = happens_one one w past' m.tick m.phase es es' here happens' in
    cc (is, is', before, same)

counts_one : (w : Scenario) (h : History) (a : ℕ) → IsOne (CountsOf w h a)
counts_one w h a c d (p, p_tx) (q, q_tx) =
    let same = counters_one (Air w h a) (length (Arrivals h a)) c.err c.smd c.ok c.rx d.err d.smd d.ok d.rx p q in
    let tx = p_tx ∙ sym q_tx in
    λ i. record { err = same.0 i; smd = same.1 i; ok = same.2 i; rx = same.3 i; tx = tx i }

lines_one : (w : Scenario) (h : History) (n : ℕ) → IsOne (CountLines w h n)
lines_one w h zero es fs p q = p ∙ sym q
lines_one w h (suc a) es fs (before, c, lines, counts, is) (before', c', lines', counts', is') =
    cc (lines_one w h a before before' lines lines', ap (count_line a) (counts_one w h a c c' counts counts'), is, is')

-- there is at most one legal history
pub one_history : OneGiven → (w : Scenario) → IsOne (Legal w)
one_history one w g h (body, counts, legal, lines, is) (body', counts', legal', lines', is') =
    let same : body ≡ body' = legal_one one w (last_moment w) body body' legal.0 legal'.0 in
    let counts_same : counts ≡ counts' = lines_one w body' (length w.net.arcs) counts counts' (subst (λ x. CountLines w x (length w.net.arcs) counts) same lines) lines' in
    cc (same, counts_same, is, is')
