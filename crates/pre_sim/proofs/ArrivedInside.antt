-- The frames inside the bridge at an arc's end, when one more arrives.
use Rattle.std.proofs.Common.{ℕ, ◌≡◌, ◌+◌, ◌<◌, ◌≤◌, List, [], ◌∷◌, ◌++◌, drop, sym, ◌∙◌, ap, arith, subst, map, filter_map}
use Rattle.std.specs.List.{AllByRecursion as Every}
use Rattle.std.proofs.lemmas.List.{map-append, take-append-le, length-append}
use Rattle.std.proofs.lemmas.List.Elements.{filter_map-append}
use Rattle.pre_history.specs.Scenario.{Scenario, latency}
use Rattle.pre_history.specs.History.{Begin, Arrive}
use Rattle.pre_bridge.specs.Inside.{Entry}
use Rattle.pre_sim.specs.Stands.{onward, passes, AreInside}
use Rattle.pre_sim.proofs.Lists.{every-append, drop-append}

-- it stands behind the others
pub arrived_inside : (w : Scenario) (a t : ℕ) (bs : List Begin) (xs : List Arrive) (items : List Entry) (x : Arrive) (more : List Entry) → AreInside w a bs xs t items → t ≤ x.tick + latency w a
    → filter_map (onward w a bs) (x ∷ []) ≡ map passes more → AreInside w a bs (xs ++ x ∷ []) t (items ++ more)
arrived_inside w a t bs xs items x more is late goes =
    let dropped : drop is.gone (xs ++ x ∷ []) ≡ drop is.gone xs ++ x ∷ [] = drop-append is.gone xs (x ∷ []) is.few in
    record {
      gone = is.gone;
      few = omega (arith, length-append xs (x ∷ []), is.few);
      past = subst (Every (λ (y : Arrive). y.tick + latency w a < t)) (sym (take-append-le is.gone xs (x ∷ []) is.few)) is.past;
      later = subst (Every (λ (y : Arrive). t ≤ y.tick + latency w a)) (sym dropped) (every-append (λ (y : Arrive). t ≤ y.tick + latency w a) (drop is.gone xs) (x ∷ []) is.later (late, tt));
      are = ap (filter_map (onward w a bs)) dropped
          ∙ (filter_map-append (onward w a bs) (drop is.gone xs) (x ∷ [])
          ∙ (ap (λ ys. ys ++ filter_map (onward w a bs) (x ∷ [])) is.are ∙ (ap (λ ys. map passes items ++ ys) goes ∙ sym (map-append passes items more))));
    }
