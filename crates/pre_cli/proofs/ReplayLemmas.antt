-- What the parts of the command that runs a script answer, as answers of the whole.
use Rattle.std.proofs.Common.{◌≡◌, ◌+◌, inl, inr, ℕ, List, Option, Result, Ok, Err, refl, sym, subst}
use Rattle.pre_base.specs.Told.{WhereTold, WhereTold-map}
use Rattle.pre_base.specs.Shelves.{Told}
use Rattle.pre_base.specs.Sinks.{Taken}
use Rattle.pre_topo.specs.declared.network.Network.{Network}
use Rattle.pre_streams.specs.declared.rows.Streams.{Streams}
use Rattle.pre_bound.specs.Listed.{GoodCertificate}
use Rattle.pre_script.specs.declared.scripts.Script.{Script}
use Rattle.pre_script.specs.declared.scripts.ScriptFault.{ScriptFault}
use Rattle.pre_script.specs.declared.scripts.ScriptFault.TheVariants.{Fault, Memory}
use Rattle.pre_script.specs.Reading.{script_of, ReadsAs}
use Rattle.pre_script.proofs.Rising.{lines_rise}
use Rattle.pre_history.specs.Scenario.{Scenario}
use Rattle.pre_history.specs.History.{History}
use Rattle.pre_history.specs.Legal.{Legal}
use Rattle.pre_delay.specs.Runs.{IsRun}
use Rattle.pre_delay.specs.Timely.{Timely}
use Rattle.pre_cli.specs.declared.statuses.FileWord.TheVariants as file
use Rattle.pre_cli.specs.declared.statuses.Status.{Status}
use Rattle.pre_cli.specs.declared.statuses.Status.TheVariants as status
use Rattle.pre_cli.specs.Answers.{Outside}
use Rattle.pre_cli.specs.Files.{OfFiles, IsFileIn, IsNoFile, InPlace}
use Rattle.pre_cli.specs.Curves.{CurvesHold, LinesRise}
use Rattle.pre_cli.specs.Headline.{Headline}
use Rattle.pre_cli.specs.Judging.{judging}
use Rattle.pre_cli.specs.Readings.{Instead, Gave}
use Rattle.pre_cli.specs.Replaying.{script_status, ScriptRefused, script_in, Replay, scenario_in, certificate_in, scripted_in, IsUnrulyAt, replaying, ReplayingCause, ReplayingLeaves}
use Rattle.pre_cli.specs.Runs.{RunEnds, RunCause}
use Rattle.pre_cli.specs.Words.{ReplayWords}
use Rattle.pre_cli.specs.Written.{TakesTrace}
use Rattle.pre_cli.proofs.CertifyLemmas.{of_more}
use Rattle.pre_cli.proofs.HeadlineLemmas.{headline}
use Rattle.pre_cli.proofs.JudgeLemmas.{judging_refusing}
use Rattle.pre_cli.proofs.ReadingLemmas.{gone_file, text_instead, IsInstead, Refusing, text_refusing, then_refusing, tested_refusing, is_instead}

-- ---- a script

script_fault : (word text : List ℕ) (net : Network) (streams : Streams) (place : ℕ × ℕ) (s : Status) (a b : Option Told) → script_of net streams text ≡ Err place
    → s ≡ status.Form file.Script place.0 place.1
    → WhereTold a b (OfFiles (IsFileIn word text)) → WhereTold a b (OfFiles (ScriptRefused word net streams s))
script_fault word text net streams place s a b read is = of_more a b (IsFileIn word text) (ScriptRefused word net streams s) (λ files p. inr (text, p, (place, read, is)))

pub script_refused : (fault : ScriptFault) (word text : List ℕ) (net : Network) (streams : Streams) (before now : ℕ) (a b : Option Told) → ReadsAs (Err fault) (script_of net streams text)
    → WhereTold a b (OfFiles (IsFileIn word text))
    → InPlace (script_status fault) (IsNoFile word) (ScriptRefused word net streams) before now a b
script_refused Memory word text net streams before now a b due is = tt
script_refused (Fault line rule) word text net streams before now a b due is = by (script_of net streams text) refl due
  where
    by : (r : Result Script (ℕ × ℕ)) → r ≡ script_of net streams text → ReadsAs (Err (Fault line rule)) r → WhereTold a b (OfFiles (ScriptRefused word net streams (status.Form file.Script line rule)))
    by (Ok script) same due = absurd due
    by (Err place) same due = script_fault word text net streams place (status.Form file.Script line rule) a b (sym same) (λ i. status.Form file.Script (due.0 i) (due.1 i)) is

pub script_instead : (word : List ℕ) (net : Network) (streams : Streams) (s : Status) (before now : ℕ) (a b : Option Told) → InPlace s (IsNoFile word) (ScriptRefused word net streams) before now a b
    → Instead (script_in word net streams) s before now a b
script_instead word net streams s before now a b = text_instead (script_in word net streams) (IsNoFile word) s before now a b (gone_file word) (λ p. p)

-- its sends stand in the order of their lines
pub script_rises : (net : Network) (streams : Streams) (text : List ℕ) (script : Script) → ReadsAs (Ok script) (script_of net streams text) → LinesRise script.sends
script_rises net streams text script due = by (script_of net streams text) refl due
  where
    by : (r : Result Script (ℕ × ℕ)) → r ≡ script_of net streams text → ReadsAs (Ok script) r → LinesRise script.sends
    by (Ok read) same is = subst (λ (s : Script). LinesRise s.sends) (sym is) (lines_rise net streams text read (sym same))
    by (Err place) same is = absurd is

-- ---- which answers may come

unruly_refusing : (x : Replay) (s : Status) → IsUnrulyAt x s → IsInstead s
unruly_refusing x s (line, breaks, is) = subst IsInstead (sym is) tt

pub replaying_refusing : (words : ReplayWords) → Refusing (replaying words)
replaying_refusing words =
    tested_refusing (scripted_in words) (λ x. CurvesHold x.0.1.0.rows x.1.sends) IsUnrulyAt
    (then_refusing (judging words.plan) (λ x. script_in words.script x.0 x.1.0)
    (judging_refusing words.plan)
    (λ x. text_refusing))
    unruly_refusing

-- ---- the command

-- which answer it is
abbrev IsDone : Status → Type 0
IsDone status.Done = Unit {0}
IsDone _ = ⊥

abbrev IsAlias : Status → Type 0
IsAlias (status.Alias arc ordinal) = Unit {0}
IsAlias _ = ⊥

abbrev IsTorn : Status → Type 0
IsTorn status.WriteFault = Unit {0}
IsTorn _ = ⊥

abbrev IsMemory : Status → Type 0
IsMemory status.Memory = Unit {0}
IsMemory _ = ⊥

module _ (words : ReplayWords) (o : Outside) where
  -- nothing is run, and the sink is left alone
  pub nothing_run : (s : Status) → Instead (replaying words) s o.shelf_before o.shelf_after o.told_before o.told_after → o.taken_after ≡ o.taken_before → ReplayingLeaves words s o
  nothing_run s cause same =
      let is = is_instead (replaying words) s o.shelf_before o.shelf_after o.told_before o.told_after (replaying_refusing words) cause in
      record { done = λ e. absurd (subst IsInstead e is); alias = λ arc ordinal e. absurd (subst IsInstead e is); torn = λ e. absurd (subst IsInstead e is); nothing = λ p q n. same }

  module _ (x : Replay) (given : Gave (replaying words) o x) where
    abbrev w : Scenario
    w = scenario_in x

    pub run_cause : (s : Status) → RunCause w s o.sink_before o.sink_after → ReplayingCause words s o
    run_cause status.Done cause = inl (x, given, inl (inl (refl, cause.1)))
    run_cause (status.Alias arc ordinal) cause = inl (x, given, inl (inr (arc, ordinal, refl, cause.1)))
    run_cause status.WriteFault cause = inl (x, given, inr (refl, cause.1))
    run_cause status.Memory cause = inr (inr (inr refl))
    run_cause status.Words cause = absurd cause
    run_cause status.ReadFault cause = absurd cause
    run_cause (status.Rules kind row rule) cause = absurd cause
    run_cause (status.Unfit u) cause = absurd cause
    run_cause (status.Rejected clause row) cause = absurd cause
    run_cause (status.Unruly line) cause = absurd cause
    run_cause (status.Unsettled arc prio) cause = absurd cause
    run_cause status.NoArc cause = absurd cause
    run_cause (status.Form kind line rule) cause = absurd cause

    -- of the trace the headline holds
    module _ (run : IsRun (scenario_in x)) (good : GoodCertificate x.0.0 x.0.1.0 x.0.1.1)
        (timely : (h : History) → Legal (scenario_in x) h → Timely (scenario_in x) h (x.1.until.0 + 1) good.values) where
      trace_headline : (a b : Taken) → TakesTrace (scenario_in x) a b → Headline (scenario_in x) (certificate_in x) a b
      trace_headline a b ((h, legal, once, written, octets), flushed) = headline (scenario_in x) (certificate_in x) run good h once (timely h legal) a b legal written octets flushed

      pub run_leaves : (s : Status) → RunEnds w s o.taken_before o.taken_after → ReplayingLeaves words s o
      run_leaves status.Done ends = record {
        done = λ e. (x, given, WhereTold-map o.taken_before o.taken_after (TakesTrace w) (Headline w (certificate_in x)) trace_headline ends);
        alias = λ arc ordinal e. absurd (subst IsDone e tt);
        torn = λ e. absurd (subst IsDone e tt);
        nothing = λ p q n. absurd (p refl);
      }
      run_leaves (status.Alias arc ordinal) ends = record {
        done = λ e. absurd (subst IsAlias e tt);
        alias = λ a i e. (x, given, subst (λ t. RunEnds w t o.taken_before o.taken_after) e ends);
        torn = λ e. absurd (subst IsAlias e tt);
        nothing = λ p q n. absurd (n arc ordinal refl);
      }
      run_leaves status.WriteFault ends = record {
        done = λ e. absurd (subst IsTorn e tt);
        alias = λ arc ordinal e. absurd (subst IsTorn e tt);
        torn = λ e. (x, given, ends);
        nothing = λ p q n. absurd (q refl);
      }
      run_leaves status.Memory ends = record {
        done = λ e. absurd (subst IsMemory e tt);
        alias = λ arc ordinal e. absurd (subst IsMemory e tt);
        torn = λ e. absurd (subst IsMemory e tt);
        nothing = λ p q n. ends;
      }
      run_leaves status.Words ends = absurd ends
      run_leaves status.ReadFault ends = absurd ends
      run_leaves (status.Rules kind row rule) ends = absurd ends
      run_leaves (status.Unfit u) ends = absurd ends
      run_leaves (status.Rejected clause row) ends = absurd ends
      run_leaves (status.Unruly line) ends = absurd ends
      run_leaves (status.Unsettled arc prio) ends = absurd ends
      run_leaves status.NoArc ends = absurd ends
      run_leaves (status.Form kind line rule) ends = absurd ends
