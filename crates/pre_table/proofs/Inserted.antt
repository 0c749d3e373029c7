-- Whether one of a set's keys passes a test, after one more key is put at its place.
use Rattle.std.proofs.Common.{◌≡◌, Bool, true, false, List, [], ◌∷◌, ◌||◌, refl, ap, ◌∙◌}
use Rattle.std.specs.List.{list_any}
use Rattle.std.specs.BTreeSet.{insert_key}
use Rattle.std.specs.declared.cmp.Ordering.{Ordering}
use Rattle.std.specs.declared.cmp.Ordering.TheVariants.{Less, Equal, Greater}

last_first : (a b : Bool) → (a || b) ≡ (b || a)
last_first true true = refl
last_first true false = refl
last_first false true = refl
last_first false false = refl

joined : (a b c : Bool) → (a || (b || c)) ≡ ((a || b) || c)
joined true b c = refl
joined false b c = refl

once : (a b : Bool) → (a || b) ≡ ((a || b) || a)
once true b = refl
once false true = refl
once false false = refl

module _ {K : Type 0} (cmp : K → K → Ordering) (test : K → Bool) (k : K) (same : (x : K) → cmp k x ≡ Equal → test x ≡ test k) where
  placed : (x : K) (xs : List K) → list_any test (insert_key cmp xs k) ≡ (list_any test xs || test k) →
      (o : Ordering) → cmp k x ≡ o → list_any test (insert_key cmp (x ∷ xs) k) ≡ ((test x || list_any test xs) || test k)
  placed x xs further Less is = rw is (last_first (test k) (test x || list_any test xs))
  placed x xs further Equal is = rw is (once (test x) (list_any test xs) ∙ ap (λ b. (test x || list_any test xs) || b) (same x is))
  placed x xs further Greater is = rw is (ap (λ b. test x || b) further ∙ joined (test x) (list_any test xs) (test k))

  pub any_inserted : (keys : List K) → list_any test (insert_key cmp keys k) ≡ (list_any test keys || test k)
  any_inserted [] = last_first (test k) false
  any_inserted (x ∷ xs) = placed x xs (any_inserted xs) (cmp k x) refl
