-- A text that is read as a value, or refused with an answer.
use Rattle.std.proofs.Common.{◌≡◌, ◌⊎◌, inl, inr, ℕ, ◌<◌, ◌≤◌, List, length, Option, Some, None, Result, Ok, Err, sym, ◌∙◌, ap, subst, arith, unwrap_or}
use Rattle.std.proofs.lemmas.Option.{none-some}
use Rattle.pre_cli.specs.declared.statuses.FileWord.{FileWord}
use Rattle.pre_cli.specs.declared.statuses.Status.{Status}
use Rattle.pre_cli.specs.declared.statuses.Status.TheVariants as status
use Rattle.pre_cli.specs.Scripts.{max_file}

is_ok : {A B : Type 0} → Result A B → Type 0
is_ok (Ok x) = Unit {0}
is_ok (Err e) = ⊥

ok_or : {A B : Type 0} → Result A B → A → A
ok_or (Ok x) d = x
ok_or (Err e) d = d

err_or : {A B : Type 0} → Result A B → B → B
err_or (Ok x) d = d
err_or (Err e) d = e

pub ok_err : {A B : Type 0} (r : Result A B) (x : A) (e : B) → r ≡ Ok x → r ≡ Err e → ⊥
unfolding is_ok
ok_err r x e p q = subst is_ok (sym p ∙ q) tt

pub ok_same : {A B : Type 0} (r : Result A B) (x y : A) → r ≡ Ok x → r ≡ Ok y → x ≡ y
unfolding ok_or
ok_same r x y p q = ap (λ s. ok_or s x) (sym p ∙ q)

pub err_same : {A B : Type 0} (r : Result A B) (e f : B) → r ≡ Err e → r ≡ Err f → e ≡ f
unfolding err_or
err_same r e f p q = ap (λ s. err_or s e) (sym p ∙ q)

pub some_same : {A : Type 0} (x y : A) → Some x ≡ Some y → x ≡ y
some_same x y e = ap (λ o. unwrap_or o x) e

-- a text that is named is one
text_same : (named : Option (List ℕ)) (x y : List ℕ) → named ≡ Some x → named ≡ Some y → x ≡ y
text_same named x y p q = some_same x y (sym p ∙ q)

module _ {V E : Type 0} (kind : FileWord) (read : List ℕ → Result V E) (answer : E → Status) where
  -- it is too long, or has this fault
  abbrev pub Refuses : Option (List ℕ) → Status → Type 0
  Refuses named s =
      ((x : List ℕ) × (named ≡ Some x) × (max_file < length x) × (s ≡ status.Form kind 0 0))
      ⊎ ((x : List ℕ) × (named ≡ Some x) × (length x ≤ max_file) × ((e : E) × (read x ≡ Err e) × (s ≡ answer e)))

  abbrev pub Reads : Option (List ℕ) → V → Type 0
  Reads named v = (x : List ℕ) × (named ≡ Some x) × (length x ≤ max_file) × (read x ≡ Ok v)

  pub refused_once : (named : Option (List ℕ)) (s t : Status) → Refuses named s → Refuses named t → s ≡ t
  refused_once named s t (inl (x, p, long, is)) (inl (y, q, long', is')) = is ∙ sym is'
  refused_once named s t (inl (x, p, long, is)) (inr (y, q, short, rest)) = absurd (omega (arith, ap length (text_same named x y p q), long, short))
  refused_once named s t (inr (x, p, short, rest)) (inl (y, q, long, is)) = absurd (omega (arith, ap length (text_same named x y p q), long, short))
  refused_once named s t (inr (x, p, short, (e, fault, is))) (inr (y, q, short', (f, fault', is'))) =
      is ∙ ap answer (err_same (read x) e f fault (ap read (text_same named x y p q) ∙ fault')) ∙ sym is'

  pub refused_not_read : (named : Option (List ℕ)) (s : Status) (v : V) → Refuses named s → Reads named v → ⊥
  refused_not_read named s v (inl (x, p, long, is)) (y, q, short, well) = omega (arith, ap length (text_same named x y p q), long, short)
  refused_not_read named s v (inr (x, p, short, (e, fault, is))) (y, q, short', well) = ok_err (read x) v e (ap read (text_same named x y p q) ∙ well) fault

  pub read_once : (named : Option (List ℕ)) (v u : V) → Reads named v → Reads named u → v ≡ u
  read_once named v u (x, p, short, well) (y, q, short', well') = ok_same (read x) v u well (ap read (text_same named x y p q) ∙ well')

  pub refused_there : (named : Option (List ℕ)) (s : Status) → Refuses named s → named ≡ None → ⊥
  refused_there named s (inl (x, p, long, is)) none = none-some x (sym none ∙ p)
  refused_there named s (inr (x, p, short, rest)) none = none-some x (sym none ∙ p)

  pub read_there : (named : Option (List ℕ)) (v : V) → Reads named v → named ≡ None → ⊥
  read_there named v (x, p, short, well) none = none-some x (sym none ∙ p)
