-- A history grows by an event, and its text by a line.
use Rattle.std.proofs.Common.{◌≡◌, ℕ, List, [], ◌∷◌, ◌++◌, Option, None, Some, Result, Ok, Err, sym, ◌∙◌, ap, append_assoc}
use Rattle.std.proofs.lemmas.List.{append-nil}
use Rattle.pre_base.specs.Told.{WhereTold}
use Rattle.pre_base.specs.Sinks.{Taken, TakesAll}
use Rattle.pre_topo.specs.declared.network.Network.{Network}
use Rattle.pre_history.specs.History.{PlainEvent, History}
use Rattle.pre_history.specs.Names.{IsOf, AreOf}
use Rattle.pre_trace.specs.Text.{line, text}
use Rattle.pre_trace.specs.Watching.{GoesOn, HoldsText, HoldsTorn}

pub text-push : (net : Network) (h : History) (e : PlainEvent) → text net (h ++ e ∷ []) ≡ text net h ++ line net e
text-push net [] e = append-nil (line net e)
text-push net (f ∷ h) e = ap (λ (l : List ℕ). line net f ++ l) (text-push net h e) ∙ sym (append_assoc (line net f) (text net h) (line net e))

pub AreOf-front : (net : Network) (h : History) (e : PlainEvent) → AreOf net (h ++ e ∷ []) → AreOf net h
AreOf-front net [] e are = tt
AreOf-front net (f ∷ h) e are = (are.0, AreOf-front net h e are.1)

pub AreOf-last : (net : Network) (h : History) (e : PlainEvent) → AreOf net (h ++ e ∷ []) → IsOf net e
AreOf-last net [] e are = are.0
AreOf-last net (f ∷ h) e are = AreOf-last net h e are.1

-- a line was written, or a front of it
pub line_goes : {T E : Type 0} (net : Network) (a b : Option Taken) (r : Result T E) (e : PlainEvent) → WhereTold a b (TakesAll r (line net e)) → GoesOn r (HoldsText net a) (HoldsText net b) (HoldsTorn net b) e
line_goes net None None (Ok u) e took = λ base h holds are. tt
line_goes net None None (Err d) e took = λ base h holds are known. tt
line_goes net None (Some y) r e took = absurd took
line_goes net (Some x) None r e took = absurd took
line_goes net (Some x) (Some y) (Ok u) e took = λ base h holds are.
    took ∙ ap (λ (l : List ℕ). l ++ line net e) (holds (AreOf-front net h e are)) ∙ append_assoc base (text net h) (line net e) ∙ ap (λ (l : List ℕ). base ++ l) (sym (text-push net h e))
line_goes net (Some x) (Some y) (Err d) e took = λ base h holds are known.
    (took.1.0, took.0, took.1.1, took.1.2 ∙ ap (λ (l : List ℕ). l ++ took.1.0) (holds are))
