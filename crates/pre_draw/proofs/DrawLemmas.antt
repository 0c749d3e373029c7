-- What becomes of a picture behind a reading.
use Rattle.std.proofs.Common.{inl, inr, ℕ, List, sym, ◌∙◌, subst}
use Rattle.pre_base.specs.Sinks.{TakesFront}
use Rattle.pre_cli.specs.declared.statuses.Status.{Status}
use Rattle.pre_cli.specs.declared.statuses.Status.TheVariants as status
use Rattle.pre_cli.specs.Answers.{Outside}
use Rattle.pre_cli.specs.Certifying.{TakesFlushed}
use Rattle.pre_cli.specs.Readings.{Reading, Gave}
use Rattle.pre_topo.specs.declared.network.Network.{Network}
use Rattle.pre_streams.specs.declared.rows.Streams.{Streams}
use Rattle.pre_bound.specs.declared.certificate.Certificate.{Certificate}
use Rattle.pre_cli.specs.Judging.{judging}
use Rattle.pre_cli.specs.Words.{JudgeWords}
use Rattle.pre_cli.proofs.JudgeLemmas.{judging_refusing}
use Rattle.pre_cli.proofs.ReadingLemmas.{Refusing, IsInstead, put_leaves, text_refusing, then_refusing, tested_refusing}
use Rattle.pre_draw.specs.Queues.{HasArc, LacksArc, queued_in}
use Rattle.pre_draw.specs.Traces.{trace_in, judged_told_in}
use Rattle.pre_draw.specs.Drawing.{DrawnEnds, DrawnCause, DrawingCause, DrawingLeaves}

abbrev IsMemory : Status → Type 0
IsMemory status.Memory = Unit {0}
IsMemory _ = ⊥

module _ {X : Type 0} (R : Reading X) (s : Status) (o : Outside) (x : X) where
  pub drawn_cause : Gave R o x → DrawnCause s o.sink_before o.sink_after → DrawingCause R s o
  drawn_cause given (inl (later, inl is)) = inl (x, given, inl is)
  drawn_cause given (inl (later, inr failed)) = inl (x, given, inr failed)
  drawn_cause given (inr (is, later)) = inr (inr (inr is))

  pub drawn_leaves : (picture : X → List ℕ) → Gave R o x → DrawnEnds s (picture x) o.taken_before o.taken_after → DrawingLeaves R picture s o
  drawn_leaves picture given (inl ends) =
      put_leaves R (λ y. TakesFlushed (picture y)) (λ y. TakesFront (picture y)) s o (picture x) x (λ a b took. took) (λ a b took. took) given ends
  drawn_leaves picture given (inr (is, same)) = record {
    done = λ e. absurd (subst IsMemory (sym is ∙ e) tt);
    torn = λ e. absurd (subst IsMemory (sym is ∙ e) tt);
    nothing = λ p q. same;
  }

-- what is answered in the place of a queue's picture is no Done and no failed write
pub queued_refusing : (words : JudgeWords) (trace_word arc_word : List ℕ) → Refusing (queued_in words trace_word arc_word)
queued_refusing words trace_word arc_word =
    tested_refusing (judged_told_in words trace_word) (HasArc arc_word) (LacksArc arc_word)
    (then_refusing (judging words) (λ (x : Network × (Streams × Certificate)). trace_in trace_word x.0) (judging_refusing words) (λ x. text_refusing))
    (λ x s fails. subst IsInstead (sym fails.1) tt)
