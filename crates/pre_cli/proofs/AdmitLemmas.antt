-- What the parts of the command that admits streams answer, as answers of the whole.
use Rattle.std.proofs.Common.{◌≡◌, ◌⊎◌, inl, inr, ℕ, map, ◌≤◌, List, [], ◌∷◌, ◌++◌, false, Option, None, Some, Ok, is_none, IsSome, refl, sym, ◌∙◌, ap, subst}
use Rattle.std.specs.Prelude.{All}
use Rattle.std.proofs.lemmas.Bool.{or_parts}
use Rattle.std.proofs.lemmas.List.Elements.{All-nil, All-cons}
use Rattle.pre_base.specs.Told.{WhereTold}
use Rattle.pre_base.specs.Faults.{Rose}
use Rattle.pre_base.specs.Shelves.{Told}
use Rattle.pre_base.specs.Sinks.{Taken, TakesWhole, TakesFront}
use Rattle.pre_curve.specs.declared.curves.Curve.{Curve}
use Rattle.pre_topo.specs.declared.network.Network.{Network}
use Rattle.pre_streams.specs.declared.rows.Row.{Row}
use Rattle.pre_streams.specs.declared.rows.Streams.{Streams}
use Rattle.pre_streams.specs.declared.faults.StreamFault.{StreamFault}
use Rattle.pre_streams.specs.Fits.{Fits}
use Rattle.pre_streams.specs.Made.{row_parts}
use Rattle.pre_streams.specs.StreamsOf as stream_files
use Rattle.pre_bound.specs.declared.certificate.Certificate.{Certificate}
use Rattle.pre_certify.specs.declared.unfit.Unfit.{Unfit}
use Rattle.pre_certify.specs.declared.unfit.Unfit.TheVariants as unfit
use Rattle.pre_certify.specs.Causes.{Cause}
use Rattle.pre_certify.specs.Refusals.{NoneRefuses, IsAlone}
use Rattle.pre_certify.specs.Text.{certificate_text}
use Rattle.pre_admit.specs.declared.admissions.Outcome.{Outcome}
use Rattle.pre_admit.specs.Admissions.{Admits, admitted, with_streams}
use Rattle.pre_admit.specs.Certified.{IsPlan}
use Rattle.pre_cli.specs.declared.statuses.FileWord.TheVariants as file
use Rattle.pre_cli.specs.declared.statuses.Status.{Status}
use Rattle.pre_cli.specs.declared.statuses.Status.TheVariants as status
use Rattle.pre_cli.specs.Answers.{Outside}
use Rattle.pre_cli.specs.Runs.{FlushEnds}
use Rattle.pre_cli.specs.Files.{OfFiles, IsFileIn, IsNoFile, InPlace, stream_status}
use Rattle.pre_cli.specs.Certifying.{unfit_status}
use Rattle.pre_cli.specs.Judging.{network_in, streams_in}
use Rattle.pre_cli.specs.Readings.{Instead, Gave, AnswerCause, AnswerLeaves}
use Rattle.pre_cli.specs.Outcomes.{outcome_lines, held_lines}
use Rattle.pre_cli.specs.Words.{AdmitWords}
use Rattle.pre_cli.specs.Admitting.{AreMoreIn, MoreRefused, rows_in, has_flow, HasNoFlow, FlowRefused, more_in, Additions, both_in, adding}
use Rattle.pre_cli.specs.Admitting.{HasPlan, PlanRefused, admitting, Admissions, admission_text, AdmitsAll, AdmitsFront, AdmitsTo, AddsTo}
use Rattle.pre_cli.proofs.CertifyLemmas.{alone_at, of_more, stream_file_refused}
use Rattle.pre_cli.proofs.HeldLines.{lines_by_held}
use Rattle.pre_cli.proofs.OneReading.{one_streams}
use Rattle.pre_cli.proofs.ReadingLemmas.{gone_file, text_instead, failed_instead, passed_given, IsInstead, Refusing, text_refusing, then_refusing}
use Rattle.pre_cli.proofs.ReadingLemmas.{tested_refusing, nothing_left, put_leaves, flushed_ends, flushed_cause}

-- ---- a file of more streams

pub more_refused : (fault : StreamFault) (word text : List ℕ) (net : Network) (before now : ℕ) (a b : Option Told) → stream_files.IsDue fault (stream_files.streams_of net text) → WhereTold a b (OfFiles (IsFileIn word text))
    → InPlace (stream_status file.More fault) (IsNoFile word) (MoreRefused word net) before now a b
more_refused fault word text net before now a b =
    stream_file_refused file.More (IsNoFile word) (MoreRefused word net) (IsFileIn word text) text net before now a b (λ e files p read. inr (text, p, (e, read, refl))) fault

pub more_read : (word text : List ℕ) (net : Network) (more : Streams) (a b : Option Told) → stream_files.ReadsAs (Ok more) (stream_files.streams_of net text) → WhereTold a b (OfFiles (IsFileIn word text))
    → WhereTold a b (OfFiles (AreMoreIn word net more))
more_read word text net more a b read = of_more a b (IsFileIn word text) (AreMoreIn word net more) (λ files p. (text, p, read))

pub rows_instead : (word : List ℕ) (net : Network) (s : Status) (before now : ℕ) (a b : Option Told) → InPlace s (IsNoFile word) (MoreRefused word net) before now a b → Instead (rows_in word net) s before now a b
rows_instead word net s before now a b = text_instead (rows_in word net) (IsNoFile word) s before now a b (gone_file word) (λ p. p)

-- rows of which none is a flow are streams
pub are_streams : (rows : List Row) → has_flow rows ≡ false → All (λ r. IsSome r.curve) rows
are_streams [] none = All-nil (λ (r : Row). IsSome r.curve)
are_streams (r ∷ rows) none =
    let parts = or_parts (is_none r.curve) (has_flow rows) none in
    All-cons (λ (x : Row). IsSome x.curve) r rows (has_curve r.curve parts.0) (are_streams rows parts.1)
  where
    has_curve : (o : Option Curve) → is_none o ≡ false → IsSome o
    has_curve (Some c) is = refl
    has_curve None is = absurd (cc)

-- ---- which answers may come

more_refusing : (word : List ℕ) (net : Network) → Refusing (more_in word net)
more_refusing word net = tested_refusing (rows_in word net) HasNoFlow FlowRefused text_refusing (λ more s p. subst IsInstead (sym p.1) tt)

adding_refusing : (words : AdmitWords) → Refusing (adding words)
adding_refusing words =
    then_refusing (network_in words.net) (both_in words.streams words.more) text_refusing
    (λ net. then_refusing (streams_in words.streams net) (λ streams. more_in words.more net) text_refusing (λ streams. more_refusing words.more net))

pub admitting_refusing : (words : AdmitWords) → Refusing (admitting words)
admitting_refusing words = tested_refusing (adding words) HasPlan PlanRefused (adding_refusing words) (λ x s p. subst IsInstead (sym p.2) tt)

-- ---- what was written

-- what came of the rows, and the plan after them
module _ (net after : Network) (streams more held : Streams) (c : Certificate) (outcomes : List Outcome) (fit : Fits net more) (express : has_flow more.rows ≡ false) (same : after ≡ net)
    (plan : IsPlan after held c) (each : Admits net streams.rows more.rows outcomes held.rows) (in_order : held.rows ≡ with_streams streams.rows (admitted more.rows outcomes)) where
  abbrev its : Additions
  its = (net, (streams, more))

  made : Admissions its
  made = record { fit = fit; outcomes = outcomes; held = held; each = each; in_order = in_order; certificate = c; is_theirs = subst (λ n. IsPlan n held c) same plan }

  abbrev text : List ℕ
  text = held_lines held.rows outcomes ++ certificate_text after held.rows c

  text_is : text ≡ admission_text its made
  unfolding made
  text_is =
      ap (λ (l : List ℕ). l ++ certificate_text after held.rows c) (lines_by_held net streams.rows more.rows outcomes held.rows (are_streams more.rows express) each)
      ∙ ap (λ (n : Network). outcome_lines more.rows outcomes ++ certificate_text n held.rows c) same

  -- the lines and the certificate were written, and then passed on or not
  pub flushed_to : (s : Status) (before between now : ℕ) (old middle new : Option Taken) → before ≤ between → WhereTold old middle (TakesWhole text)
      → FlushEnds status.Done s middle new between now → AdmitsTo its s before now old new
  flushed_to s before between now old middle new sooner took ends =
      inl (
        made,
        flushed_ends s (admission_text its made) old middle new between now (subst (λ (l : List ℕ). WhereTold old middle (TakesWhole l)) text_is took) ends,
        flushed_cause s before between now middle new sooner ends,
      )

  pub torn_to : (before now : ℕ) (old new : Option Taken) → Rose before now → before ≤ now → WhereTold old new (TakesFront text) → AdmitsTo its status.WriteFault before now old new
  torn_to before now old new rose later took = inl (made, inr (refl, subst (λ (l : List ℕ). WhereTold old new (TakesFront l)) text_is took), (later, inr (refl, rose)))

-- the streams were certified
pub opened_to : (net at : Network) (streams opened more : Streams) (c : Certificate) (s : Status) (before now : ℕ) (old new : Option Taken) → at ≡ net → opened.rows ≡ streams.rows → IsPlan net opened c
    → NoneRefuses net streams.rows → AdmitsTo (at, (opened, more)) s before now old new → AddsTo (net, (streams, more)) s before now old new
opened_to net at streams opened more c s before now old new same rows plan none ends =
    let are : opened ≡ streams = one_streams opened streams (ap (map row_parts) rows) in
    let theirs : IsPlan net streams c = subst (λ t. IsPlan net t c) are plan in
    let has : HasPlan (net, (streams, more)) = record { certificate = c; least = record { least = theirs.certified.least; ranked = theirs.certified.ranked }; none = none } in
    inl (has, subst (λ n. AdmitsTo (n, (streams, more)) s before now old new) same (subst (λ t. AdmitsTo (at, (t, more)) s before now old new) are ends))

-- or refused
pub refused_to : (u : Unfit) (net : Network) (streams more : Streams) (count : ℕ) (a : Option Taken) → Cause net streams.rows u → (u ≡ unfit.Memory) ⊎ IsAlone net streams u
    → AddsTo (net, (streams, more)) (unfit_status u) count count a a
refused_to (unfit.Overload arc) net streams more count a cause alone = inr (inl ((unfit.Overload arc, alone_at (unfit.Overload arc) net streams (λ e. cc) cause alone, refl), refl))
refused_to (unfit.Cycle arcs) net streams more count a cause alone = inr (inl ((unfit.Cycle arcs, alone_at (unfit.Cycle arcs) net streams (λ e. cc) cause alone, refl), refl))
refused_to (unfit.Large arc prio) net streams more count a cause alone = inr (inl ((unfit.Large arc prio, alone_at (unfit.Large arc prio) net streams (λ e. cc) cause alone, refl), refl))
refused_to (unfit.Ring arc prio need) net streams more count a cause alone = inr (inl ((unfit.Ring arc prio need, alone_at (unfit.Ring arc prio need) net streams (λ e. cc) cause alone, refl), refl))
refused_to unfit.Memory net streams more count a cause alone = inr (inr (refl, refl))

-- ---- the command

module _ (words : AdmitWords) (x : Additions) (s : Status) (o : Outside) (given : Gave (adding words) o x) where
  refused_so : PlanRefused x s → Instead (admitting words) s o.shelf_before o.shelf_after o.told_before o.told_after
  refused_so refused = failed_instead (adding words) HasPlan PlanRefused x s o.shelf_before o.shelf_after o.told_before o.told_after refused given

  pub adds_cause : AddsTo x s o.sink_before o.sink_after o.taken_before o.taken_after → AnswerCause (admitting words) s o
  adds_cause (inl (plan, inl (a, ends, put))) = inl (x, passed_given (adding words) HasPlan PlanRefused x o.told_before o.told_after plan given, put.1)
  adds_cause (inl (plan, inr (memory, same))) = inr (inr (inr memory))
  adds_cause (inr (inl (refused, same))) = inr (refused_so refused)
  adds_cause (inr (inr (memory, same))) = inr (inr (inr memory))

  pub adds_leaves : AddsTo x s o.sink_before o.sink_after o.taken_before o.taken_after → AnswerLeaves (admitting words) AdmitsAll AdmitsFront s o
  adds_leaves (inl (plan, inl (a, ends, put))) =
      put_leaves (admitting words) AdmitsAll AdmitsFront s o (admission_text x a) x (λ old new took. (a, took)) (λ old new took. (a, took))
      (passed_given (adding words) HasPlan PlanRefused x o.told_before o.told_after plan given) ends
  adds_leaves (inl (plan, inr (memory, same))) = nothing_left (admitting words) AdmitsAll AdmitsFront s o (admitting_refusing words) (inr (inr memory)) same
  adds_leaves (inr (inl (refused, same))) = nothing_left (admitting words) AdmitsAll AdmitsFront s o (admitting_refusing words) (refused_so refused) same
  adds_leaves (inr (inr (memory, same))) = nothing_left (admitting words) AdmitsAll AdmitsFront s o (admitting_refusing words) (inr (inr memory)) same
