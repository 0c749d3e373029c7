-- What the parts of the command that captures an arc answer, as answers of the whole.
use Rattle.std.proofs.Common.{◌≡◌, inl, inr, ℕ, ◌≤◌, List, Option, None, Some, refl, subst, sym}
use Rattle.pre_base.specs.Told.{WhereTold}
use Rattle.pre_base.specs.Shelves.{Told, Files}
use Rattle.pre_base.specs.declared.numbers.ArcId.{ArcId}
use Rattle.pre_topo.specs.declared.network.Network.{Network}
use Rattle.pre_topo.specs.Named.{arc_named}
use Rattle.pre_cli.specs.declared.statuses.Status.{Status}
use Rattle.pre_cli.specs.declared.statuses.Status.TheVariants as status
use Rattle.pre_cli.specs.Answers.{Outside}
use Rattle.pre_cli.specs.Capturing.{arc_in, watched_in, sent_in, Capture, capturing, scenario_in, watched_arc, CapturingCause, CaptureEnds, CapturingLeaves}
use Rattle.pre_cli.specs.Files.{OfFiles, IsNetIn}
use Rattle.pre_cli.specs.Judging.{network_in, streams_in}
use Rattle.pre_cli.specs.Readings.{Instead, Gave}
use Rattle.pre_cli.specs.Replaying.{script_in}
use Rattle.pre_cli.specs.Runs.{RunCause}
use Rattle.pre_cli.specs.Words.{CaptureWords}
use Rattle.pre_cli.proofs.CertifyLemmas.{of_more}
use Rattle.pre_cli.proofs.ReadingLemmas.{IsInstead, Refusing, text_refusing, then_refusing, is_instead}

-- ---- an arc

-- no arc has the name
pub no_arc : (net_word arc_word : List ℕ) (net : Network) (before now : ℕ) (a b : Option Told) → arc_named net arc_word ≡ None → WhereTold a b (OfFiles (IsNetIn net_word net))
    → Instead (watched_in net_word arc_word) status.NoArc before now a b
no_arc net_word arc_word net before now a b none read =
    inr (inl (inr (net, refl), of_more a b (IsNetIn net_word net) ((watched_in net_word arc_word).refused status.NoArc) (λ files p. inr (net, p, (none, refl))) read))

-- one has
pub arc_given : (net_word arc_word : List ℕ) (net : Network) (arc : ArcId) (a b : Option Told) → arc_named net arc_word ≡ Some arc.0 → WhereTold a b (OfFiles (IsNetIn net_word net))
    → WhereTold a b (OfFiles ((watched_in net_word arc_word).gives (net, arc)))
arc_given net_word arc_word net arc a b is = of_more a b (IsNetIn net_word net) ((watched_in net_word arc_word).gives (net, arc)) (λ files p. (p, is))

-- ---- which answers may come

pub capturing_refusing : (words : CaptureWords) → Refusing (capturing words)
capturing_refusing words =
    then_refusing (watched_in words.net words.arc) (λ x. sent_in words.streams words.script x.0)
    (then_refusing (network_in words.net) (arc_in words.arc) text_refusing (λ net s is. subst IsInstead (sym is) tt))
    (λ x. then_refusing (streams_in words.streams x.0) (script_in words.script x.0) text_refusing (λ streams. text_refusing))

-- ---- the command

-- which answer it is
abbrev IsDone : Status → Type 0
IsDone status.Done = Unit {0}
IsDone _ = ⊥

abbrev IsAlias : Status → Type 0
IsAlias (status.Alias arc ordinal) = Unit {0}
IsAlias _ = ⊥

abbrev IsTorn : Status → Type 0
IsTorn status.WriteFault = Unit {0}
IsTorn _ = ⊥

abbrev IsMemory : Status → Type 0
IsMemory status.Memory = Unit {0}
IsMemory _ = ⊥

module _ (words : CaptureWords) (o : Outside) where
  -- nothing is run, and the sink is left alone
  pub nothing_run : (s : Status) → Instead (capturing words) s o.shelf_before o.shelf_after o.told_before o.told_after → o.taken_after ≡ o.taken_before → CapturingLeaves words s o
  nothing_run s cause same =
      let is = is_instead (capturing words) s o.shelf_before o.shelf_after o.told_before o.told_after (capturing_refusing words) cause in
      record { done = λ e. absurd (subst IsInstead e is); alias = λ arc ordinal e. absurd (subst IsInstead e is); torn = λ e. absurd (subst IsInstead e is); nothing = λ p q n. same }

  module _ (x : Capture) (given : Gave (capturing words) o x) where
    pub run_cause : (s : Status) → RunCause (scenario_in x) s o.sink_before o.sink_after → CapturingCause words s o
    run_cause status.Done cause = inl (x, given, inl (inl (refl, cause.1)))
    run_cause (status.Alias arc ordinal) cause = inl (x, given, inl (inr (arc, ordinal, refl, cause.1)))
    run_cause status.WriteFault cause = inl (x, given, inr (refl, cause.1))
    run_cause status.Memory cause = inr (inr (inr refl))
    run_cause status.Words cause = absurd cause
    run_cause status.ReadFault cause = absurd cause
    run_cause (status.Rules kind row rule) cause = absurd cause
    run_cause (status.Unfit u) cause = absurd cause
    run_cause (status.Rejected clause row) cause = absurd cause
    run_cause (status.Unruly line) cause = absurd cause
    run_cause (status.Unsettled arc prio) cause = absurd cause
    run_cause status.NoArc cause = absurd cause
    run_cause (status.Form kind line rule) cause = absurd cause

    abbrev Ends : Status → Type 0
    Ends s = CaptureEnds (scenario_in x) (watched_arc x) s o.taken_before o.taken_after

    pub run_leaves : (s : Status) → CaptureEnds (scenario_in x) (watched_arc x) s o.taken_before o.taken_after → CapturingLeaves words s o
    run_leaves status.Done ends = record {
      done = λ e. (x, given, ends);
      alias = λ arc ordinal e. absurd (subst IsDone e tt);
      torn = λ e. absurd (subst IsDone e tt);
      nothing = λ p q n. absurd (p refl);
    }
    run_leaves (status.Alias arc ordinal) ends = record {
      done = λ e. absurd (subst IsAlias e tt);
      alias = λ a i e. (x, given, subst Ends e ends);
      torn = λ e. absurd (subst IsAlias e tt);
      nothing = λ p q n. absurd (n arc ordinal refl);
    }
    run_leaves status.WriteFault ends = record {
      done = λ e. absurd (subst IsTorn e tt);
      alias = λ arc ordinal e. absurd (subst IsTorn e tt);
      torn = λ e. (x, given, ends);
      nothing = λ p q n. absurd (q refl);
    }
    run_leaves status.Memory ends = record {
      done = λ e. absurd (subst IsMemory e tt);
      alias = λ arc ordinal e. absurd (subst IsMemory e tt);
      torn = λ e. absurd (subst IsMemory e tt);
      nothing = λ p q n. ends;
    }
    run_leaves status.Words ends = absurd ends
    run_leaves status.ReadFault ends = absurd ends
    run_leaves (status.Rules kind row rule) ends = absurd ends
    run_leaves (status.Unfit u) ends = absurd ends
    run_leaves (status.Rejected clause row) ends = absurd ends
    run_leaves (status.Unruly line) ends = absurd ends
    run_leaves (status.Unsettled arc prio) ends = absurd ends
    run_leaves status.NoArc ends = absurd ends
    run_leaves (status.Form kind line rule) ends = absurd ends
