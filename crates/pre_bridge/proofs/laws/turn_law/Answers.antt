use Rattle.std.proofs.Common.{ap, ◌∙◌}
use Rattle.pre_bridge.specs.Inside.{taken, inside, leaving, comes_out, without_first}
use Rattle.pre_bridge.proofs.Standing.{inside-push}
use Rattle.pre_bridge.proofs.TurnLemmas.{turn_comes, turn_of, in_order, none_late, late_none}
use Rattle.pre_bridge.proofs.laws.turn_law.Goals as goal

pub returns : goal.returns
returns c = record {
  comes_out = λ net streams calls t before behind entry whole turn.
      let out = turn_comes t before behind entry turn in
      (ap (leaving t) whole ∙ out.0, inside-push net streams calls (taken t) ∙ ap (λ xs. without_first (comes_out t xs) xs) whole ∙ out.1);
  turn = λ relay net streams calls t entry s e. turn_of t (inside net streams calls) entry (in_order relay net streams calls s) e;
  none = λ relay net streams calls t s. (late_none relay net streams calls t s, none_late t (inside net streams calls));
}
