-- Files come to one script that is run at most, or to one answer in its place.
use Rattle.std.proofs.Common.{◌≡◌, sym, ◌∙◌, ap}
use Rattle.pre_cli.specs.declared.statuses.Status.{Status}
use Rattle.pre_cli.specs.declared.statuses.Status.TheVariants as status
use Rattle.pre_cli.specs.Curves.{CurvesHold}
use Rattle.pre_cli.specs.Judging.{judging}
use Rattle.pre_cli.specs.Replaying.{script_in, Replay, scripted_in, IsUnrulyAt, replaying}
use Rattle.pre_cli.specs.Words.{ReplayWords}
use Rattle.pre_cli.proofs.CurveLemmas.{holds_unruly, one_unruly}
use Rattle.pre_cli.proofs.DueReadings.{Decided, then_decided, tested_decided}
use Rattle.pre_cli.proofs.DueTexts.{script_decided}
use Rattle.pre_cli.proofs.DueVerdicts.{judging_decided}

none_unruly : (x : Replay) (s : Status) → CurvesHold x.0.1.0.rows x.1.sends → IsUnrulyAt x s → ⊥
none_unruly x s holds (line, unruly, is) = holds_unruly x.0.1.0.rows x.1.sends line holds unruly

one_unruly_at : (x : Replay) (s t : Status) → IsUnrulyAt x s → IsUnrulyAt x t → s ≡ t
one_unruly_at x s t (line, unruly, is) (other, broken, was) = is ∙ ap (λ n. status.Unruly n) (one_unruly x.0.1.0.rows x.1.sends line other unruly broken) ∙ sym was

pub replaying_decided : (words : ReplayWords) → Decided (replaying words)
replaying_decided words =
    tested_decided (scripted_in words) (λ x. CurvesHold x.0.1.0.rows x.1.sends) IsUnrulyAt
    (then_decided (judging words.plan) (λ x. script_in words.script x.0 x.1.0)
    (judging_decided words.plan)
    (λ x. script_decided words.script x.0 x.1.0))
    none_unruly one_unruly_at
