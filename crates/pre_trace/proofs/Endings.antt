-- A legal history has few events of the end.
use Rattle.std.proofs.Common.{ℕ, zero, suc, ◌≡◌, ◌==◌, ◌&&◌, ◌≤◌, Bool, true, false, List, [], ◌∷◌, ◌++◌, length}
use Rattle.std.proofs.Common.{refl, ◌∙◌, ap, arith, if◌then◌else◌, length-append, append_assoc}
use Rattle.std.proofs.lemmas.List.Elements.{filter-append}
use Rattle.std.proofs.lemmas.List.Sums.{count_by-le-length, length-filter}
use Rattle.pre_history.specs.History.{PlainEvent, History}
use Rattle.pre_history.specs.Scenario.{Scenario}
use Rattle.pre_history.specs.Legal.{CountLines, Legal, LegalUpTo, closing, count_line, last_moment}
use Rattle.pre_history.specs.Placed.{AllBefore}
use Rattle.pre_trace.specs.Figures.{closings, is_closing, most_closings}

-- none of the others is one
no_closing_before : (arcs n : ℕ) (h : History) → AllBefore arcs n h → closings h ≡ []
no_closing_before arcs n [] are = refl
no_closing_before arcs n (PlainEvent.set tick arc value ∷ h) (here, more) = no_closing_before arcs n h more
no_closing_before arcs n (PlainEvent.begin b ∷ h) (here, more) = no_closing_before arcs n h more
no_closing_before arcs n (PlainEvent.ended e ∷ h) (here, more) = no_closing_before arcs n h more
no_closing_before arcs n (PlainEvent.arrive x ∷ h) (here, more) = no_closing_before arcs n h more
no_closing_before arcs n (PlainEvent.deliver d ∷ h) (here, more) = no_closing_before arcs n h more
no_closing_before arcs n (PlainEvent.active tick arc value ∷ h) (here, more) = no_closing_before arcs n h more
no_closing_before arcs n (PlainEvent.enter e ∷ h) (here, more) = no_closing_before arcs n h more
no_closing_before arcs n (PlainEvent.dropped e ∷ h) (here, more) = no_closing_before arcs n h more
no_closing_before arcs n (PlainEvent.count arc c ∷ h) (here, more) = absurd here.2
no_closing_before arcs n (PlainEvent.end e ∷ h) (here, more) = absurd here.2

one_line : (b : Bool) (e : PlainEvent) → length (if b then [] else e ∷ []) ≤ 1
one_line true e = omega arith
one_line false e = omega arith

few_lines : (w : Scenario) (body : History) (n : ℕ) (counts : List PlainEvent) → CountLines w body n counts → length counts ≤ n
few_lines w body zero counts is = omega (arith, ap length is)
few_lines w body (suc a) counts (before, c, more, figures, is) =
    let rest = few_lines w body a before more in
    let here = one_line ((c.err == 0) && (c.smd == 0) && (c.ok == 0) && (c.rx == 0) && (c.tx == 0)) (PlainEvent.count a c) in
    omega (arith, ap length is, length-append before (count_line a c), rest, here)

pub few_closings : ((w : Scenario) (n : ℕ) (h : History) → LegalUpTo w n h → AllBefore (length w.net.arcs) n h) → (w : Scenario) (h : History) → Legal w h → length (closings h) ≤ most_closings
few_closings placed w h legal =
    let body = legal.0 in
    let counts = legal.1 in
    let before = no_closing_before (length w.net.arcs) (last_moment w) body (placed w (last_moment w) body legal.2.0) in
    let few = few_lines w body (length w.net.arcs) counts legal.3 in
    let ending : List PlainEvent = counts ++ PlainEvent.end (closing w body) ∷ [] in
    let split : closings h ≡ closings ending = ap closings (legal.4 ∙ append_assoc body counts (PlainEvent.end (closing w body) ∷ []))
    ∙ (filter-append is_closing body ending ∙ ap (λ (l : History). l ++ closings ending) before) in
    omega (arith, ap length split, length-filter is_closing ending, count_by-le-length is_closing ending, length-append counts (PlainEvent.end (closing w body) ∷ []), few, w.net.rules.arc_count.1)
