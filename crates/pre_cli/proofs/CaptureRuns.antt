-- What a run told, as the capture that its sink took.
use Rattle.std.proofs.Common.{◌≡◌, ℕ, ◌<◌, List, [], ◌∷◌, ◌++◌, length, Bool, true, Option, None, Some, Result, Ok, Err, refl, sym, ◌∙◌, ap, inl, inr, subst, append_assoc}
use Rattle.std.specs.Prelude.{IfSome, IsOk, IsErr}
use Rattle.std.proofs.lemmas.Bool.{false≢true}
use Rattle.std.proofs.lemmas.List.{append-nil}
use Rattle.std.proofs.lemmas.Grind.{flat_map-append}
use Rattle.pre_base.specs.declared.numbers.ArcId.{ArcId}
use Rattle.pre_base.specs.Told.{WhereTold, WhereTold-join, WhereTold-map, StillTells}
use Rattle.pre_base.specs.Sinks.{Taken, TakesAll}
use Rattle.pre_base.specs.Sinks.{TakesWhole, TakesFront}
use Rattle.pre_pcap.specs.Written.{Stamped, header_octets, record_octets}
use Rattle.pre_history.specs.Scenario.{Scenario}
use Rattle.pre_history.specs.History.{PlainEvent, History}
use Rattle.pre_history.specs.Legal.{Legal}
use Rattle.pre_dissect.specs.declared.newest.Newest.{Newest}
use Rattle.pre_dissect.specs.Captured.{Added, CaptureOf, Recorded, octets_of}
use Rattle.pre_dissect.specs.Fronts.{FilesFit, IsFront, IsLegalFront}
use Rattle.pre_dissect.specs.Watching.{HasTaken, HoldsTorn}
use Rattle.pre_dissect.proofs.Within.{legal_front, alias_front, empty_front}
use Rattle.pre_sim.specs.declared.runs.Step.{Step}
use Rattle.pre_sim.specs.declared.runs.Step.TheVariants.{More, Ended, Alias, Stopped}
use Rattle.pre_sim.specs.Parts.{IsFrontOfLegal}
use Rattle.pre_sim.specs.Views.{SimView, HasTold}
use Rattle.pre_sim.specs.Steps.{StepTells}
use Rattle.pre_cli.specs.declared.statuses.Status.{Status}
use Rattle.pre_cli.specs.declared.statuses.Status.TheVariants as status
use Rattle.pre_cli.specs.Capturing.{Captured, CapturedBefore, CapturedFront, CaptureLeaves, CaptureEnds}
use Rattle.pre_cli.specs.Runs.{FlushEnds}
use Rattle.pre_cli.specs.Written.{IsBeforeAlias}

module _ (w : Scenario) (arc : ℕ) where
  -- records behind the header are the capture
  capture_is : (h : History) (x y z : Taken) → TakesWhole header_octets x y → z.octets ≡ y.octets ++ octets_of (Recorded w h arc) → z.octets ≡ x.octets ++ CaptureOf w h arc
  capture_is h x y z head took = took ∙ (ap (λ l. l ++ octets_of (Recorded w h arc)) head ∙ append_assoc x.octets header_octets (octets_of (Recorded w h arc)))

  -- ---- the header

  empty_capture : CaptureOf w [] arc ≡ header_octets
  empty_capture = append-nil header_octets

  -- a front of the header is one of a capture of nothing
  pub header_front : {T E : Type 0} (r : Result T E) → IsErr r → (a b : Option Taken) → WhereTold a b (TakesAll r header_octets) → CaptureLeaves w arc Stopped a b
  header_front (Ok t) is a b = absurd (false≢true is)
  header_front (Err e) is a b = WhereTold-map a b (TakesFront header_octets) (CapturedFront w arc) (λ x y took. record {
    history = [];
    history_is_front = empty_front w;
    rest = took.0;
    capture_but_the_rest = (took.1.0, empty_capture ∙ took.1.1, took.1.2);
  })

  -- ---- the records

  module _ (fits : FilesFit w) (known : arc < length w.net.arcs) (active active' : Bool) (newest newest' : Option Newest) (advert advert' : List ℕ) (x y z : Taken)
      (head : TakesWhole header_octets x y) (nothing : HasTaken w arc active newest advert (Some y) y.octets []) where
    abbrev Old : List ℕ → History → Type 0
    Old = HasTaken w arc active newest advert (Some y)

    abbrev New : List ℕ → History → Type 0
    New = HasTaken w arc active' newest' advert' (Some z)

    took : (es : History) → ((base : List ℕ) (h : History) → Old base h → New base (h ++ es)) → IsFront w es → z.octets ≡ x.octets ++ CaptureOf w es arc
    took es told front = capture_is es x y z head (told y.octets [] nothing fits front).1

    whole : (es : History) → ((base : List ℕ) (h : History) → Old base h → New base (h ++ es)) → Legal w es → Captured w arc x z
    whole es told legal = record { files_fit = fits; arc_is_known = known; history = es; history_is_legal = legal; capture_is_its = took es told (legal_front w es legal) }

    before : (a i : ℕ) (es : History) → ((base : List ℕ) (h : History) → Old base h → New base (h ++ es)) → IsBeforeAlias w a i es → CapturedBefore w arc a i x z
    before a i es told first = record {
      files_fit = fits;
      arc_is_known = known;
      history = es;
      history_is_before = first;
      capture_is_its = took es told (alias_front w es first.0 a i first.1);
    }

    torn : (es : History) (e : PlainEvent) → ((base : List ℕ) (h : History) → Old base h → HoldsTorn w arc (Some z) base (h ++ es) e) → IsFrontOfLegal w (es ++ e ∷ []) → CapturedFront w arc x z
    torn es e told (rest, legal) =
        let begun : IsLegalFront w (es ++ e ∷ []) = record { whole = (es ++ e ∷ []) ++ rest; rest = rest; joined = refl; legal = legal } in
        let t = told y.octets [] nothing fits begun in
        let front = t.2.0 in
        let left = t.2.1 in
        let old = octets_of (Recorded w es arc) in
        let all : octets_of (Recorded w (es ++ e ∷ []) arc) ≡ old ++ (front ++ left) =
        ap octets_of t.1 ∙ (flat_map-append (λ (one : Stamped). record_octets one.tick one.octets) (Recorded w es arc) (Added w es arc e) ∙ ap (λ l. old ++ l) t.2.2) in
        record {
          history = es ++ e ∷ [];
          history_is_front = t.0;
          rest = left;
          capture_but_the_rest = (
            header_octets ++ (old ++ front),
            ap (λ l. header_octets ++ l) (all ∙ sym (append_assoc old front left)) ∙ sym (append_assoc header_octets (old ++ front) left),
            t.2.3 ∙ append_assoc y.octets old front ∙ (ap (λ l. l ++ (old ++ front)) head ∙ append_assoc x.octets header_octets (old ++ front)),
          );
        }

  module _ (fits : FilesFit w) (known : arc < length w.net.arcs) (active active' : Bool) (newest newest' : Option Newest) (advert advert' : List ℕ) (s u : SimView) (same : s.run ≡ w) (begun : HasTold s []) where
    leaves : (step : Step) (a b d : Option Taken) → WhereTold a b (TakesWhole header_octets) → StillTells b d
        → ((base : List ℕ) → IfSome b (λ t. t.octets ≡ base) → HasTaken w arc active newest advert b base [])
        → (step ≡ More → ⊥) → StepTells s step u (HasTaken w arc active newest advert b) (HasTaken w arc active' newest' advert' d) (HoldsTorn w arc d) → CaptureLeaves w arc step a d
    leaves More a b d head still nothing last told = absurd (last refl)
    leaves Ended None None None head still nothing last told = tt
    leaves Ended (Some x) (Some y) (Some z) head still nothing last (es, told, ends) =
        whole fits known active active' newest newest' advert advert' x y z head (nothing y.octets refl) es told.1 (subst (λ (v : Scenario). Legal v es) same (ends [] begun))
    leaves Ended None (Some y) d head still nothing last told = absurd head
    leaves Ended (Some x) None d head still nothing last told = absurd head
    leaves Ended None None (Some z) head still nothing last told = absurd still
    leaves Ended (Some x) (Some y) None head still nothing last told = absurd still
    leaves (Alias a i) None None None head still nothing last told = tt
    leaves (Alias a i) (Some x) (Some y) (Some z) head still nothing last (es, told, first) =
        before fits known active active' newest newest' advert advert' x y z head (nothing y.octets refl) a.0 i es told.1 (subst (λ (v : Scenario). IsBeforeAlias v a.0 i es) same (first [] begun))
    leaves (Alias a i) None (Some y) d head still nothing last told = absurd head
    leaves (Alias a i) (Some x) None d head still nothing last told = absurd head
    leaves (Alias a i) None None (Some z) head still nothing last told = absurd still
    leaves (Alias a i) (Some x) (Some y) None head still nothing last told = absurd still
    leaves Stopped None None None head still nothing last told = tt
    leaves Stopped (Some x) (Some y) (Some z) head still nothing last (es, e, all, one, told, front) =
        torn fits known active active' newest newest' advert advert' x y z head (nothing y.octets refl) es e told (subst (λ (v : Scenario). IsFrontOfLegal v (es ++ e ∷ [])) same (front [] begun))
    leaves Stopped None (Some y) d head still nothing last told = absurd head
    leaves Stopped (Some x) None d head still nothing last told = absurd head
    leaves Stopped None None (Some z) head still nothing last told = absurd still
    leaves Stopped (Some x) (Some y) None head still nothing last told = absurd still

    -- behind a header that was written
    pub capture_leaves : {T E : Type 0} (step : Step) (r : Result T E) → IsOk r → (a b d : Option Taken) → WhereTold a b (TakesAll r header_octets) → StillTells b d
        → ((base : List ℕ) → IfSome b (λ t. t.octets ≡ base) → HasTaken w arc active newest advert b base [])
        → (step ≡ More → ⊥) → StepTells s step u (HasTaken w arc active newest advert b) (HasTaken w arc active' newest' advert' d) (HoldsTorn w arc d) → CaptureLeaves w arc step a d
    capture_leaves step (Ok t) is a b d head = leaves step a b d head
    capture_leaves step (Err e) is a b d head = absurd (false≢true is)

  -- ---- passed on

  whole_front : (a b : Taken) → Captured w arc a b → CapturedFront w arc a b
  whole_front a b c = record {
    history = c.history;
    history_is_front = legal_front w c.history c.history_is_legal;
    rest = [];
    capture_but_the_rest = (CaptureOf w c.history arc, sym (append-nil (CaptureOf w c.history arc)), c.capture_is_its);
  }

  before_front : (alias_arc ordinal : ℕ) (a b : Taken) → CapturedBefore w arc alias_arc ordinal a b → CapturedFront w arc a b
  before_front alias_arc ordinal a b c = record {
    history = c.history;
    history_is_front = alias_front w c.history c.history_is_before.0 alias_arc ordinal c.history_is_before.1;
    rest = [];
    capture_but_the_rest = (CaptureOf w c.history arc, sym (append-nil (CaptureOf w c.history arc)), c.capture_is_its);
  }

  front_on : (x y z : Taken) → CapturedFront w arc x y → z.octets ≡ y.octets → CapturedFront w arc x z
  front_on x y z c same = record {
    history = c.history;
    history_is_front = c.history_is_front;
    rest = c.rest;
    capture_but_the_rest = (c.capture_but_the_rest.0, c.capture_but_the_rest.1, same ∙ c.capture_but_the_rest.2);
  }

  pub flushed_whole : (s : Status) (a b d : Option Taken) (before now : ℕ) → WhereTold a b (Captured w arc) → FlushEnds status.Done s b d before now → CaptureEnds w arc s a d
  flushed_whole s a b d before now took (inl (is, told, later)) =
      subst (λ t. CaptureEnds w arc t a d) (sym is) (WhereTold-join a b d _ _ (λ x z. Captured w arc x z × (z.flushed ≡ true)) (λ x y z p q. (still x y z p q.0, q.1)) took told)
    where
      still : (x y z : Taken) → Captured w arc x y → z.octets ≡ y.octets → Captured w arc x z
      still x y z c same = record { files_fit = c.files_fit; arc_is_known = c.arc_is_known; history = c.history; history_is_legal = c.history_is_legal; capture_is_its = same ∙ c.capture_is_its }
  flushed_whole s a b d before now took (inr (is, told, later, rose)) =
      subst (λ t. CaptureEnds w arc t a d) (sym is) (WhereTold-join a b d _ _ (CapturedFront w arc) (λ x y z p q. front_on x y z (whole_front x y p) q) took told)

  pub flushed_before : (alias_arc : ArcId) (ordinal : ℕ) (s : Status) (a b d : Option Taken) (before now : ℕ) → WhereTold a b (CapturedBefore w arc alias_arc.0 ordinal)
      → FlushEnds (status.Alias alias_arc ordinal) s b d before now → CaptureEnds w arc s a d
  flushed_before alias_arc ordinal s a b d before now took (inl (is, told, later)) =
      subst (λ t. CaptureEnds w arc t a d) (sym is)
      (WhereTold-join a b d _ _ (λ x z. CapturedBefore w arc alias_arc.0 ordinal x z × (z.flushed ≡ true)) (λ x y z p q. (still x y z p q.0, q.1)) took told)
    where
      still : (x y z : Taken) → CapturedBefore w arc alias_arc.0 ordinal x y → z.octets ≡ y.octets → CapturedBefore w arc alias_arc.0 ordinal x z
      still x y z c same = record { files_fit = c.files_fit; arc_is_known = c.arc_is_known; history = c.history; history_is_before = c.history_is_before; capture_is_its = same ∙ c.capture_is_its }
  flushed_before alias_arc ordinal s a b d before now took (inr (is, told, later, rose)) =
      subst (λ t. CaptureEnds w arc t a d) (sym is) (WhereTold-join a b d _ _ (CapturedFront w arc) (λ x y z p q. front_on x y z (before_front alias_arc.0 ordinal x y p) q) took told)

-- ---- the same, of what a watcher knows by its own fields

module _ (w : Scenario) (arc : ℕ) (active active' : Bool) (newest newest' : Option Newest) (advert advert' : List ℕ) (b d : Option Taken) where
  -- what is told of the scenario, the arc and the sink that the watcher has
  pub told_over : (s u : SimView) (step : Step) (w₁ w₂ : Scenario) (a₁ a₂ : ℕ) (b₁ : Option Taken) → w₁ ≡ w → w₂ ≡ w → a₁ ≡ arc → a₂ ≡ arc → b₁ ≡ b
      → StepTells s step u (HasTaken w₁ a₁ active newest advert b₁) (HasTaken w₂ a₂ active' newest' advert' d) (HoldsTorn w₂ a₂ d)
      → StepTells s step u (HasTaken w arc active newest advert b) (HasTaken w arc active' newest' advert' d) (HoldsTorn w arc d)
  told_over s u step w₁ w₂ a₁ a₂ b₁ first second from to sink told =
      subst (λ (v : Scenario). StepTells s step u (HasTaken w arc active newest advert b) (HasTaken v arc active' newest' advert' d) (HoldsTorn v arc d)) second
      (subst (λ (v : Scenario). StepTells s step u (HasTaken v arc active newest advert b) (HasTaken w₂ arc active' newest' advert' d) (HoldsTorn w₂ arc d)) first
      (subst (λ (k : ℕ). StepTells s step u (HasTaken w₁ arc active newest advert b) (HasTaken w₂ k active' newest' advert' d) (HoldsTorn w₂ k d)) to
      (subst (λ (k : ℕ). StepTells s step u (HasTaken w₁ k active newest advert b) (HasTaken w₂ a₂ active' newest' advert' d) (HoldsTorn w₂ a₂ d)) from
      (subst (λ (t : Option Taken). StepTells s step u (HasTaken w₁ a₁ active newest advert t) (HasTaken w₂ a₂ active' newest' advert' d) (HoldsTorn w₂ a₂ d)) sink told))))

  -- and what it knows before anything was told
  pub nothing_over : (w₁ : Scenario) (b₁ : Option Taken) → w₁ ≡ w → b₁ ≡ b
      → ((base : List ℕ) → IfSome b (λ t. t.octets ≡ base) → HasTaken w₁ arc active newest advert b₁ base [])
      → (base : List ℕ) → IfSome b (λ t. t.octets ≡ base) → HasTaken w arc active newest advert b base []
  nothing_over w₁ b₁ first sink known base is =
      subst (λ (v : Scenario). HasTaken v arc active newest advert b base []) first
      (subst (λ (t : Option Taken). HasTaken w₁ arc active newest advert t base []) sink (known base is))
