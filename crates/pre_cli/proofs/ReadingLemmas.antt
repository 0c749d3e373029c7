-- What becomes of a reading, as a part of others, and of what is written behind it.
use Rattle.std.proofs.Common.{◌≡◌, inl, inr, ℕ, ◌≤◌, List, [], Option, None, Some, refl, sym, ◌∙◌, subst, arith}
use Rattle.std.proofs.lemmas.List.{append-nil}
use Rattle.std.specs.FinMap.{get}
use Rattle.pre_base.specs.Faults.{Rose}
use Rattle.pre_base.specs.Told.{WhereTold, WhereTold-join, WhereTold-map}
use Rattle.pre_base.specs.Shelves.{Told, Files, IsMissing}
use Rattle.pre_base.specs.Sinks.{Taken}
use Rattle.pre_base.specs.Sinks.{TakesWhole, TakesFront}
use Rattle.pre_cli.specs.declared.statuses.Status.{Status}
use Rattle.pre_cli.specs.declared.statuses.Status.TheVariants as status
use Rattle.pre_cli.specs.Answers.{Outside}
use Rattle.pre_cli.specs.Files.{OfFiles, GoneFrom, InPlace}
use Rattle.pre_cli.specs.Certifying.{TakesFlushed}
use Rattle.pre_cli.specs.Readings.{Reading, then_read, tested, IsTextAnswer, Instead, Gave, EndsCause, AnswerLeaves}
use Rattle.pre_cli.specs.Putting.{PutEnds, PutCause}
use Rattle.pre_cli.specs.Runs.{FlushEnds}
use Rattle.pre_cli.proofs.CertifyLemmas.{of_more, of_both}

-- ---- texts that aren't there

gone_more : (P Q : Files → Type 0) (a : Option Told) → ((files : Files) → P files → Q files) → GoneFrom P a → GoneFrom Q a
gone_more P Q None f lacks = absurd lacks
gone_more P Q (Some told) f lacks = f told.files lacks

gone_behind : (P gone all : Files → Type 0) (a b : Option Told) → ((files : Files) → P files → gone files → all files) → WhereTold a b (OfFiles P) → GoneFrom gone b → GoneFrom all a
gone_behind P gone all None None f given lacks = absurd lacks
gone_behind P gone all None (Some y) f given lacks = absurd given
gone_behind P gone all (Some x) None f given lacks = absurd given
gone_behind P gone all (Some x) (Some y) f given lacks = f x.files given.0 (subst gone given.1 lacks)

pub gone_file : (word : List ℕ) (a : Option Told) → IsMissing a word → GoneFrom (λ files. get files word ≡ None) a
gone_file word None missing = missing
gone_file word (Some told) missing = missing

-- ---- readings behind one another, and tested

more_instead : {X Y : Type 0} (R : Reading X) (Q : Reading Y) (s : Status) (before now : ℕ) (a b : Option Told) → ((files : Files) → R.gone files → Q.gone files) → (R.may s → Q.may s)
    → ((files : Files) → R.refused s files → Q.refused s files) → Instead R s before now a b → Instead Q s before now a b
more_instead R Q s before now a b gone may refused (inl (is, inl lacks)) = inl (is, inl (gone_more R.gone Q.gone a gone lacks))
more_instead R Q s before now a b gone may refused (inl (is, inr rose)) = inl (is, inr rose)
more_instead R Q s before now a b gone may refused (inr (inl (can, told))) = inr (inl (may can, of_more a b (R.refused s) (Q.refused s) refused told))
more_instead R Q s before now a b gone may refused (inr (inr memory)) = inr (inr memory)

module _ {X Y : Type 0} (A : Reading X) (B : X → Reading Y) where
  pub first_instead : (s : Status) (before now : ℕ) (a b : Option Told) → Instead A s before now a b → Instead (then_read A B) s before now a b
  first_instead s before now a b = more_instead A (then_read A B) s before now a b (λ files p. inl p) (λ p. inl p) (λ files p. inl p)

  pub second_instead : (x : X) (s : Status) (before between now : ℕ) (a b d : Option Told) → before ≤ between → WhereTold a b (OfFiles (A.gives x)) → Instead (B x) s between now b d
      → Instead (then_read A B) s before now a d
  second_instead x s before between now a b d later given (inl (is, inl lacks)) =
      inl (is, inl (gone_behind (A.gives x) (B x).gone (then_read A B).gone a b (λ files p q. inr (x, p, q)) given lacks))
  second_instead x s before between now a b d later given (inl (is, inr rose)) = inl (is, inr (omega (arith, later, rose)))
  second_instead x s before between now a b d later given (inr (inl (can, told))) =
      inr (inl (inr (x, can), of_both a b d (A.gives x) ((B x).refused s) ((then_read A B).refused s) (λ files p q. inr (x, p, q)) given told))
  second_instead x s before between now a b d later given (inr (inr memory)) = inr (inr memory)

  pub both_given : (x : X) (y : Y) (a b d : Option Told) → WhereTold a b (OfFiles (A.gives x)) → WhereTold b d (OfFiles ((B x).gives y)) → WhereTold a d (OfFiles ((then_read A B).gives (x, y)))
  both_given x y a b d = of_both a b d (A.gives x) ((B x).gives y) ((then_read A B).gives (x, y)) (λ files p q. (p, q))

module _ {X : Type 0} (A : Reading X) (Passes : X → Type 0) (Fails : X → Status → Type 0) where
  pub untested_instead : (s : Status) (before now : ℕ) (a b : Option Told) → Instead A s before now a b → Instead (tested A Passes Fails) s before now a b
  untested_instead s before now a b = more_instead A (tested A Passes Fails) s before now a b (λ files p. p) (λ p. inl p) (λ files p. inl p)

  pub failed_instead : (x : X) (s : Status) (before now : ℕ) (a b : Option Told) → Fails x s → WhereTold a b (OfFiles (A.gives x)) → Instead (tested A Passes Fails) s before now a b
  failed_instead x s before now a b failed given = inr (inl (inr (x, failed), of_more a b (A.gives x) ((tested A Passes Fails).refused s) (λ files p. inr (x, p, failed)) given))

  pub passed_given : (x : X) (a b : Option Told) → Passes x → WhereTold a b (OfFiles (A.gives x)) → WhereTold a b (OfFiles ((tested A Passes Fails).gives x))
  passed_given x a b passed = of_more a b (A.gives x) ((tested A Passes Fails).gives x) (λ files p. (p, passed))

-- ---- one text

pub text_instead : {X : Type 0} (R : Reading X) (gone : Option Told → Type 0) (s : Status) (before now : ℕ) (a b : Option Told) → ((t : Option Told) → gone t → GoneFrom R.gone t)
    → (IsTextAnswer s → R.may s)
    → InPlace s gone R.refused before now a b → Instead R s before now a b
text_instead R gone status.ReadFault before now a b f may (inl lacks) = inl (refl, inl (f a lacks))
text_instead R gone status.ReadFault before now a b f may (inr rose) = inl (refl, inr rose)
text_instead R gone (status.Form kind line rule) before now a b f may cause = inr (inl (may tt, cause))
text_instead R gone (status.Rules kind row rule) before now a b f may cause = inr (inl (may tt, cause))
text_instead R gone status.Memory before now a b f may cause = inr (inr refl)
text_instead R gone status.Done before now a b f may cause = absurd cause
text_instead R gone status.Words before now a b f may cause = absurd cause
text_instead R gone status.WriteFault before now a b f may cause = absurd cause
text_instead R gone (status.Unfit u) before now a b f may cause = absurd cause
text_instead R gone (status.Rejected clause row) before now a b f may cause = absurd cause
text_instead R gone (status.Unruly line) before now a b f may cause = absurd cause
text_instead R gone (status.Unsettled arc prio) before now a b f may cause = absurd cause
text_instead R gone status.NoArc before now a b f may cause = absurd cause
text_instead R gone (status.Alias arc ordinal) before now a b f may cause = absurd cause

-- ---- what isn't written

-- an answer in place of a value
abbrev pub IsInstead : Status → Type 0
IsInstead status.Done = ⊥
IsInstead status.WriteFault = ⊥
IsInstead status.Words = ⊥
IsInstead status.ReadFault = Unit {0}
IsInstead (status.Form kind line rule) = Unit {0}
IsInstead (status.Rules kind row rule) = Unit {0}
IsInstead (status.Unfit u) = Unit {0}
IsInstead (status.Rejected clause row) = Unit {0}
IsInstead (status.Unruly line) = Unit {0}
IsInstead (status.Unsettled arc prio) = ⊥
IsInstead status.NoArc = Unit {0}
IsInstead (status.Alias arc ordinal) = ⊥
IsInstead status.Memory = Unit {0}

-- only such ones may come
abbrev pub Refusing : {X : Type 0} → Reading X → Type 0
Refusing R = (s : Status) → R.may s → IsInstead s

pub text_refusing : (s : Status) → IsTextAnswer s → IsInstead s
text_refusing (status.Form kind line rule) is = tt
text_refusing (status.Rules kind row rule) is = tt
text_refusing status.ReadFault is = absurd is
text_refusing status.Memory is = absurd is
text_refusing status.Done is = absurd is
text_refusing status.Words is = absurd is
text_refusing status.WriteFault is = absurd is
text_refusing (status.Unfit u) is = absurd is
text_refusing (status.Rejected clause row) is = absurd is
text_refusing (status.Unruly line) is = absurd is
text_refusing (status.Unsettled arc prio) is = absurd is
text_refusing status.NoArc is = absurd is
text_refusing (status.Alias arc ordinal) is = absurd is

pub then_refusing : {X Y : Type 0} (A : Reading X) (B : X → Reading Y) → Refusing A → ((x : X) → Refusing (B x)) → Refusing (then_read A B)
then_refusing A B p q s (inl can) = p s can
then_refusing A B p q s (inr (x, can)) = q x s can

pub tested_refusing : {X : Type 0} (A : Reading X) (Passes : X → Type 0) (Fails : X → Status → Type 0) → Refusing A → ((x : X) (s : Status) → Fails x s → IsInstead s)
    → Refusing (tested A Passes Fails)
tested_refusing A Passes Fails p q s (inl can) = p s can
tested_refusing A Passes Fails p q s (inr (x, failed)) = q x s failed

pub is_instead : {X : Type 0} (R : Reading X) (s : Status) (before now : ℕ) (a b : Option Told) → Refusing R → Instead R s before now a b → IsInstead s
is_instead R s before now a b refusing (inl (is, why)) = subst IsInstead (sym is) tt
is_instead R s before now a b refusing (inr (inl (can, told))) = refusing s can
is_instead R s before now a b refusing (inr (inr is)) = subst IsInstead (sym is) tt

-- words that are known aren't wrong
pub no_words : {X : Type 0} (R : Reading X) (Ends : X → Status → Type 0) (o : Outside) → Refusing R → ((x : X) → Ends x status.Words → ⊥) → EndsCause R Ends status.Words o → ⊥
no_words R Ends o refusing none (inl (x, given, inl ends)) = none x ends
no_words R Ends o refusing none (inl (x, given, inr (e, rose))) = cc
no_words R Ends o refusing none (inr cause) = is_instead R status.Words o.shelf_before o.shelf_after o.told_before o.told_after refusing cause

module _ {X : Type 0} (R : Reading X) (Whole Front : X → Taken → Taken → Type 0) (s : Status) (o : Outside) where
  pub nothing_left : Refusing R → Instead R s o.shelf_before o.shelf_after o.told_before o.told_after → o.taken_after ≡ o.taken_before → AnswerLeaves R Whole Front s o
  nothing_left refusing cause same =
      let is = is_instead R s o.shelf_before o.shelf_after o.told_before o.told_after refusing cause in
      record { done = λ e. absurd (subst IsInstead e is); torn = λ e. absurd (subst IsInstead e is); nothing = λ p q. same }

  -- ---- what is written

  pub put_leaves : (text : List ℕ) (x : X) → ((a b : Taken) → TakesFlushed text a b → Whole x a b) → ((a b : Taken) → TakesFront text a b → Front x a b)
      → Gave R o x → PutEnds s text o.taken_before o.taken_after → AnswerLeaves R Whole Front s o
  put_leaves text x whole front given (inl (is, told)) = record {
    done = λ e. (x, given, WhereTold-map o.taken_before o.taken_after (TakesFlushed text) (Whole x) whole told);
    torn = λ e. absurd (subst IsDone (sym is ∙ e) tt);
    nothing = λ p q. absurd (p is);
  }
    where
      IsDone : Status → Type 0
      IsDone status.Done = Unit {0}
      IsDone _ = ⊥
  put_leaves text x whole front given (inr (is, told)) = record {
    done = λ e. absurd (subst IsTorn (sym is ∙ e) tt);
    torn = λ e. (x, given, WhereTold-map o.taken_before o.taken_after (TakesFront text) (Front x) front told);
    nothing = λ p q. absurd (q is);
  }
    where
      IsTorn : Status → Type 0
      IsTorn status.WriteFault = Unit {0}
      IsTorn _ = ⊥

-- all was written, and then passed on or not
pub flushed_ends : (s : Status) (text : List ℕ) (a b d : Option Taken) (between now : ℕ) → WhereTold a b (TakesWhole text) → FlushEnds status.Done s b d between now → PutEnds s text a d
flushed_ends s text a b d between now took (inl (is, ends, later)) = inl (is, WhereTold-join a b d _ _ (TakesFlushed text) (λ x y z p q. (q.0 ∙ p, q.1)) took ends)
flushed_ends s text a b d between now took (inr (is, ends, later, rose)) =
    inr (is, WhereTold-join a b d _ _ (TakesFront text) (λ x y z p q. ([], (text, sym (append-nil text), q ∙ p))) took ends)

pub flushed_cause : (s : Status) (before between now : ℕ) (a b : Option Taken) → before ≤ between → FlushEnds status.Done s a b between now → PutCause s before now
flushed_cause s before between now a b sooner (inl (is, ends, later)) = (omega (arith, sooner, later), inl is)
flushed_cause s before between now a b sooner (inr (is, ends, later, rose)) = (omega (arith, sooner, later), inr (is, omega (arith, sooner, rose)))
