-- Files come to one outcome of a reading at most, which is answered.
use Rattle.std.proofs.Common.{◌≡◌, ◌⊎◌, inl, inr, Some, refl, ap, subst}
use Rattle.pre_base.specs.Faults.{Rose}
use Rattle.pre_base.specs.Told.{WhereTold}
use Rattle.pre_base.specs.Shelves.{Told, Files}
use Rattle.pre_cli.specs.declared.statuses.Status.{Status}
use Rattle.pre_cli.specs.declared.statuses.Status.TheVariants as status
use Rattle.pre_cli.specs.Answers.{Outside}
use Rattle.pre_cli.specs.Files.{OfFiles, GoneFrom}
use Rattle.pre_cli.specs.Due.{TellsFiles}
use Rattle.pre_cli.specs.Readings.{Reading, then_read, tested, Outcome, missing, refuses, reads, ComeTo, EndIsDue, OneOutcome, EndsAreDue}

-- ---- readings that are decided by the files

-- what is said of told files, at the files that are told
pub told_as : (o : Outside) (told : Told) (P : Told → Told → Type 0) → TellsFiles o told → WhereTold o.told_before o.told_after P → (after : Told) × P told after
told_as o told P (before, (after, later)) where_told =
    (after, subst (λ b. WhereTold (Some told) b P) later (subst (λ a. WhereTold a o.told_after P) before where_told))

pub record Decided {X : Type 0} (R : Reading X) : Type 0 where
  pub given_once : (files : Files) (x y : X) → R.gives x files → R.gives y files → x ≡ y
  pub refused_once : (files : Files) (s t : Status) → R.refused s files → R.refused t files → s ≡ t
  pub not_refused : (files : Files) (x : X) (s : Status) → R.gives x files → R.refused s files → ⊥
  pub not_gone : (files : Files) (x : X) → R.gives x files → R.gone files → ⊥
  pub refused_there : (files : Files) (s : Status) → R.refused s files → R.gone files → ⊥

module _ {X Y : Type 0} (A : Reading X) (B : X → Reading Y) (first : Decided A) (second : (x : X) → Decided (B x)) where
  moved : (files : Files) (x z : X) → A.gives x files → A.gives z files → (P : X → Type 0) → P z → P x
  moved files x z here there P given = subst P (first.given_once files z x there here) given

  both_once : (files : Files) (p q : X × Y) → (then_read A B).gives p files → (then_read A B).gives q files → p ≡ q
  both_once files p q (here, more) (there, also) =
      let one : p.0 ≡ q.0 = first.given_once files p.0 q.0 here there in
      let two : p.1 ≡ q.1 = (second p.0).given_once files p.1 q.1 more (moved files p.0 q.0 here there (λ x. (B x).gives q.1 files) also) in
      λ i. (one i, two i)

  both_refused_once : (files : Files) (s t : Status) → (then_read A B).refused s files → (then_read A B).refused t files → s ≡ t
  both_refused_once files s t (inl bad) (inl worse) = first.refused_once files s t bad worse
  both_refused_once files s t (inl bad) (inr (x, given, worse)) = absurd (first.not_refused files x s given bad)
  both_refused_once files s t (inr (x, given, bad)) (inl worse) = absurd (first.not_refused files x t given worse)
  both_refused_once files s t (inr (x, here, bad)) (inr (z, there, worse)) = (second x).refused_once files s t bad (moved files x z here there (λ y. (B y).refused t files) worse)

  both_not_refused : (files : Files) (p : X × Y) (s : Status) → (then_read A B).gives p files → (then_read A B).refused s files → ⊥
  both_not_refused files p s (here, more) (inl bad) = first.not_refused files p.0 s here bad
  both_not_refused files p s (here, more) (inr (z, there, bad)) = (second p.0).not_refused files p.1 s more (moved files p.0 z here there (λ y. (B y).refused s files) bad)

  both_not_gone : (files : Files) (p : X × Y) → (then_read A B).gives p files → (then_read A B).gone files → ⊥
  both_not_gone files p (here, more) (inl lacks) = first.not_gone files p.0 here lacks
  both_not_gone files p (here, more) (inr (z, there, lacks)) = (second p.0).not_gone files p.1 more (moved files p.0 z here there (λ y. (B y).gone files) lacks)

  both_refused_there : (files : Files) (s : Status) → (then_read A B).refused s files → (then_read A B).gone files → ⊥
  both_refused_there files s (inl bad) (inl lacks) = first.refused_there files s bad lacks
  both_refused_there files s (inl bad) (inr (z, there, lacks)) = first.not_refused files z s there bad
  both_refused_there files s (inr (x, here, bad)) (inl lacks) = first.not_gone files x here lacks
  both_refused_there files s (inr (x, here, bad)) (inr (z, there, lacks)) = (second x).refused_there files s bad (moved files x z here there (λ y. (B y).gone files) lacks)

  pub then_decided : Decided (then_read A B)
  then_decided = record { given_once = both_once; refused_once = both_refused_once; not_refused = both_not_refused; not_gone = both_not_gone; refused_there = both_refused_there }

module _ {X : Type 0} (A : Reading X) (Passes : X → Type 0) (Fails : X → Status → Type 0) (first : Decided A) (apart : (x : X) (s : Status) → Passes x → Fails x s → ⊥)
    (one : (x : X) (s t : Status) → Fails x s → Fails x t → s ≡ t) where
  test_refused_once : (files : Files) (s t : Status) → (tested A Passes Fails).refused s files → (tested A Passes Fails).refused t files → s ≡ t
  test_refused_once files s t (inl bad) (inl worse) = first.refused_once files s t bad worse
  test_refused_once files s t (inl bad) (inr (x, given, worse)) = absurd (first.not_refused files x s given bad)
  test_refused_once files s t (inr (x, given, bad)) (inl worse) = absurd (first.not_refused files x t given worse)
  test_refused_once files s t (inr (x, here, bad)) (inr (z, there, worse)) = one x s t bad (subst (λ y. Fails y t) (first.given_once files z x there here) worse)

  test_not_refused : (files : Files) (x : X) (s : Status) → (tested A Passes Fails).gives x files → (tested A Passes Fails).refused s files → ⊥
  test_not_refused files x s (here, passed) (inl bad) = first.not_refused files x s here bad
  test_not_refused files x s (here, passed) (inr (z, there, failed)) = apart x s passed (subst (λ y. Fails y s) (first.given_once files z x there here) failed)

  test_refused_there : (files : Files) (s : Status) → (tested A Passes Fails).refused s files → (tested A Passes Fails).gone files → ⊥
  test_refused_there files s (inl bad) lacks = first.refused_there files s bad lacks
  test_refused_there files s (inr (x, here, failed)) lacks = first.not_gone files x here lacks

  pub tested_decided : Decided (tested A Passes Fails)
  tested_decided = record {
    given_once = λ files x z here there. first.given_once files x z here.0 there.0;
    refused_once = test_refused_once;
    not_refused = test_not_refused;
    not_gone = λ files x here lacks. first.not_gone files x here.0 lacks;
    refused_there = test_refused_there;
  }

-- ---- outcomes

module _ {X : Type 0} (R : Reading X) (decided : Decided R) where
  pub one_outcome : OneOutcome R
  one_outcome files missing missing a b = refl
  one_outcome files missing (refuses t) a b = absurd (decided.refused_there files t b a)
  one_outcome files missing (reads y) a b = absurd (decided.not_gone files y b a)
  one_outcome files (refuses s) missing a b = absurd (decided.refused_there files s a b)
  one_outcome files (refuses s) (refuses t) a b = ap refuses (decided.refused_once files s t a b)
  one_outcome files (refuses s) (reads y) a b = absurd (decided.not_refused files y s b a)
  one_outcome files (reads x) missing a b = absurd (decided.not_gone files x a b)
  one_outcome files (reads x) (refuses t) a b = absurd (decided.not_refused files x t a b)
  one_outcome files (reads x) (reads y) a b = ap reads (decided.given_once files x y a b)

module _ {X : Type 0} (R : Reading X) (Ends : X → Status → Type 0) (decided : Decided R) where
  -- what is due of one outcome is due of the only one
  answered : (o : Outside) (s : Status) (outcome is : Outcome X) (files : Files) → ComeTo R outcome files → ComeTo R is files → EndIsDue Ends o is s → EndIsDue Ends o outcome s
  answered o s outcome is files came comes due = subst (λ k. EndIsDue Ends o k s) (one_outcome R decided files is outcome comes came) due

  memory_due : (o : Outside) (outcome : Outcome X) (s : Status) → s ≡ status.Memory → EndIsDue Ends o outcome s
  memory_due o missing s is = inr is
  memory_due o (refuses t) s is = inr (inl is)
  memory_due o (reads x) s is = inr (inr (inl is))

  fault_due : (o : Outside) (outcome : Outcome X) (s : Status) → s ≡ status.ReadFault → Rose o.shelf_before o.shelf_after → EndIsDue Ends o outcome s
  fault_due o missing s is rose = inl is
  fault_due o (refuses t) s is rose = inr (inr (is, rose))
  fault_due o (reads x) s is rose = inr (inr (inr (is, rose)))

  written_due : (o : Outside) (x : X) (s : Status) → Ends x s ⊎ ((s ≡ status.WriteFault) × Rose o.sink_before o.sink_after) → EndIsDue Ends o (reads x) s
  written_due o x s (inl ends) = inl ends
  written_due o x s (inr torn) = inr (inl torn)

  pub ends_are_due : EndsAreDue R Ends
  ends_are_due s outcome o told tells came (inl (x, given, written)) =
      answered o s outcome (reads x) told.files came (told_as o told (OfFiles (R.gives x)) tells given).1.0 (written_due o x s written)
  ends_are_due s outcome o told tells came (inr (inl (is, inl lacks))) =
      answered o s outcome missing told.files came (subst (λ a. GoneFrom R.gone a) tells.0 lacks) (inl is)
  ends_are_due s outcome o told tells came (inr (inl (is, inr rose))) = fault_due o outcome s is rose
  ends_are_due s outcome o told tells came (inr (inr (inl (can, bad)))) =
      answered o s outcome (refuses s) told.files came (told_as o told (OfFiles (R.refused s)) tells bad).1.0 (inl refl)
  ends_are_due s outcome o told tells came (inr (inr (inr is))) = memory_due o outcome s is
