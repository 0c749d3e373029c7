-- What was told by a part that ended early, behind some events.
use Rattle.std.proofs.Common.{◌≡◌, ℕ, [], ◌∷◌, ◌++◌, Result, Err, refl, sym, subst}
use Rattle.pre_topo.specs.declared.network.Network.{Network}
use Rattle.pre_history.specs.History.{PlainEvent, History}
use Rattle.pre_sim.specs.declared.halts.Halt.{Halt}
use Rattle.pre_sim.specs.Telling.{TellsAll}
use Rattle.pre_sim.specs.Parts.{TellsOne, TellsPart, NoArrival}
use Rattle.pre_sim.proofs.Told.{Takes, Fails}
use Rattle.pre_sim.proofs.TellParts.{part_of_one, then_front}

-- the watcher failed at an event
pub one_failed : {T U : Type 0} (net : Network) (r : Result T Halt) (s : Result U Halt) (a b c : Takes) (torn : Fails) (es : History) (e : PlainEvent)
    (Whole : U → History → Type 0) (Front : History → Type 0) (Before : ℕ → ℕ → History → Type 0)
    → TellsAll net a b es → TellsOne net r b c torn e → Front (es ++ e ∷ []) → (d : Halt) → r ≡ Err d → s ≡ Err d → TellsPart net s a c torn Whole Front Before
one_failed net r s a b c torn es e Whole Front Before told one front d was is =
    then_front net r s a b c torn es (λ x fs. fs ≡ e ∷ []) (λ fs. fs ≡ e ∷ []) Whole Front Before told
    (part_of_one net r b c torn e (λ x fs. fs ≡ e ∷ []) (λ fs. fs ≡ e ∷ []) NoArrival one (λ x. refl) refl)
    (λ fs at. subst (λ gs. Front (es ++ gs)) (sym at) front) d was is
