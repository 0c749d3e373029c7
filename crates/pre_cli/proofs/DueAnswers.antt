-- The cause of an answer to words leaves no other.
use Rattle.std.proofs.Common.{◌≡◌, ◌⊎◌, inl, inr, ℕ, List, refl, ◌∙◌, ap, subst}
use Rattle.pre_history.specs.Scenario.{Scenario}
use Rattle.pre_history.specs.History.{History}
use Rattle.pre_history.specs.Legal.{Legal, FirstAliasAt}
use Rattle.pre_cli.specs.declared.statuses.Status.{Status}
use Rattle.pre_cli.specs.declared.statuses.Status.TheVariants as status
use Rattle.pre_cli.specs.Answers.{Outside}
use Rattle.pre_cli.specs.Commands.{Command, certifies, lists, judges, migrates, admits, replays, drills, captures, dissects, unknown, command_of, CauseBy, CauseOf}
use Rattle.pre_cli.specs.Admitting.{admitting}
use Rattle.pre_cli.specs.Capturing.{capturing}
use Rattle.pre_cli.specs.Capturing as captured
use Rattle.pre_cli.specs.Judging.{judging}
use Rattle.pre_cli.specs.Replaying.{RunsTo, replaying, scenario_in}
use Rattle.pre_cli.proofs.AdmitLemmas.{admitting_refusing}
use Rattle.pre_cli.proofs.CaptureLemmas.{capturing_refusing}
use Rattle.pre_cli.proofs.JudgeLemmas.{judging_refusing}
use Rattle.pre_cli.proofs.ReadingLemmas.{no_words}
use Rattle.pre_cli.proofs.ReplayLemmas.{replaying_refusing}

pub wrong_words : (s : Status) (words : List (List ℕ)) (o : Outside) → command_of words ≡ unknown → CauseOf s words o → s ≡ status.Words
wrong_words s words o is cause = subst (λ (k : Command). CauseBy k s o) is cause

-- wrong words are no end of a run
pub not_done : status.Words ≡ status.Done → ⊥
not_done e = subst IsWords e tt
  where
    IsWords : Status → Type 0
    IsWords status.Words = Unit {0}
    IsWords _ = ⊥

runs_to_no_words : (w : Scenario) → RunsTo w status.Words → ⊥
runs_to_no_words w (inl (e, has)) = not_done e
runs_to_no_words w (inr (arc, ordinal, e, first)) = subst IsWords e tt
  where
    IsWords : Status → Type 0
    IsWords status.Words = Unit {0}
    IsWords _ = ⊥

only_unknown : (k : Command) (o : Outside) → CauseBy k status.Words o → k ≡ unknown
only_unknown (certifies net streams) o cause = absurd cause
only_unknown (lists name) o cause = absurd cause
only_unknown (judges words) o cause = absurd (no_words (judging words) (λ x s. s ≡ status.Done) o (judging_refusing words) (λ x e. not_done e) cause)
only_unknown (migrates words) o cause = absurd (no_words (judging words) (λ x s. s ≡ status.Done) o (judging_refusing words) (λ x e. not_done e) cause)
only_unknown (admits words) o cause = absurd (no_words (admitting words) (λ x s. s ≡ status.Done) o (admitting_refusing words) (λ x e. not_done e) cause)
only_unknown (replays words) o cause = absurd (no_words (replaying words) (λ x s. RunsTo (scenario_in x) s) o (replaying_refusing words) (λ x ends. runs_to_no_words (scenario_in x) ends) cause)
only_unknown (drills number) o cause = absurd cause
only_unknown (captures words) o cause = absurd (no_words (capturing words) (λ x s. RunsTo (captured.scenario_in x) s) o (capturing_refusing words) (λ x ends. runs_to_no_words (captured.scenario_in x) ends) cause)
only_unknown (dissects name) o cause = absurd cause
only_unknown unknown o cause = refl

pub known_words : (words : List (List ℕ)) (o : Outside) → CauseOf status.Words words o → command_of words ≡ unknown
known_words words o cause = only_unknown (command_of words) o cause

-- a run leads to one answer
module _ (w : Scenario) (some : (v : Scenario) → ((h : History) × Legal v h) ⊎ ((h : History) × (t a i : ℕ) × FirstAliasAt v h t a i)) (one : (v : Scenario) (g h : History) → Legal v g → Legal v h → g ≡ h)
    (never : (v : Scenario) (g h : History) (t a i : ℕ) → Legal v g → ¬ FirstAliasAt v h t a i)
    (alone : (v : Scenario) (g h : History) (s a i t b j : ℕ) → FirstAliasAt v g s a i → FirstAliasAt v h t b j → (g ≡ h) × (s ≡ t) × (a ≡ b) × (i ≡ j)) where
  done_alone : (g : History) → Legal w g → (t : Status) → RunsTo w t → t ≡ status.Done
  done_alone g legal t (inl (is, has)) = is
  done_alone g legal t (inr (arc, ordinal, is, (h, (tick, first)))) = absurd (never w g h tick arc.0 ordinal legal first)

  alias_alone : (g : History) (s a i : ℕ) → FirstAliasAt w g s a i → (t : Status) → RunsTo w t → t ≡ status.Alias (record { 0 = a }) i
  alias_alone g s a i first t (inl (is, (h, legal))) = absurd (never w h g s a i legal first)
  alias_alone g s a i first t (inr (arc, ordinal, is, (h, (tick, other)))) =
      let same = alone w h g tick arc.0 ordinal s a i other first in
      is ∙ (ap (λ (n : ℕ). status.Alias (record { 0 = n }) ordinal) same.2 ∙ ap (λ (n : ℕ). status.Alias (record { 0 = a }) n) same.3)

  leads : ((h : History) × Legal w h) ⊎ ((h : History) × (t a i : ℕ) × FirstAliasAt w h t a i) → (s : Status) × RunsTo w s × ((t : Status) → RunsTo w t → t ≡ s)
  leads (inl (h, legal)) = (status.Done, inl (refl, (h, legal)), done_alone h legal)
  leads (inr (h, t, a, i, first)) = (status.Alias (record { 0 = a }) i, inr (record { 0 = a }, i, refl, (h, (t, first))), alias_alone h t a i first)

  pub runs_to_one : (s : Status) × RunsTo w s × ((t : Status) → RunsTo w t → t ≡ s)
  runs_to_one = leads (some w)
