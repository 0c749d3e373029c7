-- What a store keeps, through each of its calls.
use Rattle.std.proofs.Common.{◌≡◌, ◌≢◌, ℕ, suc, ◌+◌, ◌*◌, ◌<◌, ◌≤◌, false, cond, List, [], ◌∷◌, ◌++◌, length, get_or, set, replicate}
use Rattle.std.proofs.Common.{Option, None, Some, refl, sym, ◌∙◌, ap, subst, arith, inl, inr, IsSome, IfNone, is_some, is_none, nat_eq, unwrap_or, count_by, All, length-set}
use Rattle.std.proofs.Common.{length-append}
use Rattle.std.proofs.lemmas.List.{get_or_read, get_or-set_same, get_or-set_other, get_or-replicate, length-replicate}
use Rattle.std.proofs.lemmas.List.Sums.{sum_by_push, sum_by-set}
use Rattle.std.proofs.lemmas.List.Folds.{sum_by-replicate}
use Rattle.std.proofs.lemmas.List.Elements.{All-set, All-replicate, All-push, All-pop, All-get_or}
use Rattle.std.proofs.Math.Nat.{mul-le-mul_left}
use Rattle.std.proofs.lemmas.Bool.{cases_eq, eq-eqb}
use Rattle.std.proofs.lemmas.Bool.Decides.{eqb_tells}
use Rattle.pre_rings.specs.Slots.{times, IsFull, IsKept}

eqb_apart : (a b : ℕ) → a ≢ b → nat_eq a b ≡ false
eqb_apart a b ne = elim (eqb_tells a b) [ inl t ↦ absurd (ne t.1) | inr f ↦ f.0 ]

times-push_same : (places : List ℕ) (p : ℕ) → times (places ++ p ∷ []) p ≡ times places p + 1
times-push_same places p = sum_by_push (λ q. cond (nat_eq q p) 1 0) places p ∙ ap (λ b. times places p + cond b 1 0) (eq-eqb p p refl)

times-push_other : (places : List ℕ) (q p : ℕ) → q ≢ p → times (places ++ q ∷ []) p ≡ times places p
times-push_other places q p ne = sum_by_push (λ r. cond (nat_eq r p) 1 0) places q ∙ ap (λ b. times places p + cond b 1 0) (eqb_apart q p ne) ∙ omega arith

-- how often the place of a slot of this size stands in the list
abbrev pub due : Option ℕ → ℕ
due size = cond (is_none size) 1 0

once_set : (sizes : List (Option ℕ)) (old new : List ℕ) (f : ℕ) (size : Option ℕ) → f < length sizes → ((p : ℕ) → p < length sizes → times old p ≡ due (get_or sizes p None)) → times new f ≡ due size → ((p : ℕ) → f ≢ p → times new p ≡ times old p) → (p : ℕ) → p < length (set sizes f size) → times new p ≡ due (get_or (set sizes f size) p None)
once_set sizes old new f size h before here others p k =
    elim (cases_eq p f) [
      | inl same ↦ ap (times new) same ∙ here ∙ ap due (sym (get_or-set_same sizes f size None h)) ∙ ap (λ q. due (get_or (set sizes f size) q None)) (sym same)
      | inr apart ↦ others p (λ e. apart (sym e)) ∙ before p (omega (arith, length-set sizes f size)) ∙ ap due (sym (get_or-set_other sizes f p size None apart))
    ]

is_some_counts : (sizes : List (Option ℕ)) (f : ℕ) (size : Option ℕ) → f < length sizes → count_by (λ s. is_some s) (set sizes f size) + cond (is_some (get_or sizes f None)) 1 0 ≡ count_by (λ s. is_some s) sizes + cond (is_some size) 1 0
is_some_counts sizes f size h = sum_by-set (λ s. cond (is_some s) 1 0) sizes f size None h

due_counts : (size : Option ℕ) → due size + cond (is_some size) 1 0 ≡ 1
due_counts None = refl
due_counts (Some n) = refl

due_none : (size : Option ℕ) → due size ≡ 1 → size ≡ None
due_none None h = refl
due_none (Some n) h = absurd (omega arith)

-- the place that is taken out belongs to a slot that is in
pub pop_is_in : (w : ℕ) (sizes : List (Option ℕ)) (region places : List ℕ) (capacity f : ℕ) → IsKept w sizes region (places ++ f ∷ []) capacity → (f < length sizes) × (get_or sizes f None ≡ None) × (times places f ≡ 0)
pop_is_in w sizes region places capacity f kept =
    let within : f < length sizes = (All-pop (λ q. q < length sizes) (places ++ f ∷ []) places (Some f) refl kept.within).1 in
    let once = kept.once f within in
    let more = times-push_same places f in
    let most = due_counts (get_or sizes f None) in
    (within, due_none (get_or sizes f None) (omega (arith, once, more, most)), omega (arith, once, more, most))

pub IsKept-pop : (w : ℕ) (sizes : List (Option ℕ)) (region places : List ℕ) (capacity room f : ℕ) → capacity ≤ room → IsKept w sizes region (places ++ f ∷ []) capacity → IsKept w (set sizes f (Some 0)) region places room
IsKept-pop w sizes region places capacity room f r kept =
    let popped = pop_is_in w sizes region places capacity f kept in
    let same = length-set sizes f (Some 0) in
    let counts = is_some_counts sizes f (Some 0) popped.0 in
    let was : ◌≡◌ {A = ℕ} (cond (is_some (get_or sizes f None)) 1 0) 0 = ap (λ s. cond (is_some s) 1 0) popped.1 in
    record {
      whole = kept.whole ∙ ap (λ n. w * n) (sym same);
      widths = All-set (λ size. (n : ℕ) → size ≡ Some n → n ≤ w) sizes f (Some 0) (λ n e. let z : 0 ≡ n = cc in omega arith) kept.widths;
      once = once_set sizes (places ++ f ∷ []) places f (Some 0) popped.0 kept.once popped.2 (λ p ne. sym (times-push_other places f p ne));
      within = subst (λ n. All (λ q. q < n) places) (sym same) (All-pop (λ q. q < length sizes) (places ++ f ∷ []) places (Some f) refl kept.within).0;
      count = omega (arith, same, counts, was, kept.count, length-append places (f ∷ []));
      room = omega (arith, same, kept.room);
    }

-- a slot that is out is not in the list
pub out_is_due : (w : ℕ) (sizes : List (Option ℕ)) (region places : List ℕ) (capacity f n : ℕ) → IsKept w sizes region places capacity → f < length sizes → get_or sizes f None ≡ Some n → times places f ≡ 0
out_is_due w sizes region places capacity f n kept h e = kept.once f h ∙ ap due e

-- and there is room for its place
pub out_has_room : (w : ℕ) (sizes : List (Option ℕ)) (region places : List ℕ) (capacity f n : ℕ) → IsKept w sizes region places capacity → f < length sizes → get_or sizes f None ≡ Some n → length places < capacity
out_has_room w sizes region places capacity f n kept h e =
    let counts = is_some_counts sizes f None h in
    let was : ◌≡◌ {A = ℕ} (cond (is_some (get_or sizes f None)) 1 0) 1 = ap (λ s. cond (is_some s) 1 0) e in
    omega (arith, counts, was, kept.count, kept.room)

pub IsKept-push : (w : ℕ) (sizes : List (Option ℕ)) (region places : List ℕ) (capacity room f n : ℕ) → capacity ≤ room → f < length sizes → get_or sizes f None ≡ Some n → IsKept w sizes region places capacity → IsKept w (set sizes f None) region (places ++ f ∷ []) room
IsKept-push w sizes region places capacity room f n r h e kept =
    let same = length-set sizes f None in
    let counts = is_some_counts sizes f None h in
    let was : ◌≡◌ {A = ℕ} (cond (is_some (get_or sizes f None)) 1 0) 1 = ap (λ s. cond (is_some s) 1 0) e in
    let none = out_is_due w sizes region places capacity f n kept h e in
    record {
      whole = kept.whole ∙ ap (λ m. w * m) (sym same);
      widths = All-set (λ size. (m : ℕ) → size ≡ Some m → m ≤ w) sizes f None (λ m g. absurd (cc)) kept.widths;
      once = once_set sizes places (places ++ f ∷ []) f None h kept.once (times-push_same places f ∙ ap (λ m. m + 1) none) (λ p ne. times-push_other places f p ne);
      within = subst (λ m. All (λ q. q < m) (places ++ f ∷ [])) (sym same) (All-push (λ q. q < length sizes) places f kept.within h);
      count = omega (arith, same, counts, was, kept.count, length-append places (f ∷ []));
      room = omega (arith, same, kept.room);
    }

pub IsKept-fill : (w : ℕ) (sizes : List (Option ℕ)) (region new places : List ℕ) (capacity f n m : ℕ) → f < length sizes → get_or sizes f None ≡ Some n → m ≤ w → length new ≡ length region → IsKept w sizes region places capacity → IsKept w (set sizes f (Some m)) new places capacity
IsKept-fill w sizes region new places capacity f n m h e short long kept =
    let same = length-set sizes f (Some m) in
    let counts = is_some_counts sizes f (Some m) h in
    let was : ◌≡◌ {A = ℕ} (cond (is_some (get_or sizes f None)) 1 0) 1 = ap (λ s. cond (is_some s) 1 0) e in
    let none = out_is_due w sizes region places capacity f n kept h e in
    record {
      whole = long ∙ kept.whole ∙ ap (λ k. w * k) (sym same);
      widths = All-set (λ size. (k : ℕ) → size ≡ Some k → k ≤ w) sizes f (Some m) (λ k g. let z : m ≡ k = cc in omega arith) kept.widths;
      once = once_set sizes places places f (Some m) h kept.once none (λ p ne. refl);
      within = subst (λ k. All (λ q. q < k) places) (sym same) kept.within;
      count = omega (arith, same, counts, was, kept.count);
      room = omega (arith, same, kept.room);
    }

pub IsKept-new : (w count capacity : ℕ) (region places : List ℕ) → length region ≡ w * count → count ≤ capacity → IsFull count places → IsKept w (replicate count None) region places capacity
IsKept-new w count capacity region places whole room full =
    let long = length-replicate {A = Option ℕ} count None in
    record {
      whole = whole ∙ ap (λ n. w * n) (sym long);
      widths = All-replicate (λ size. (n : ℕ) → size ≡ Some n → n ≤ w) count None (λ n e. absurd (cc));
      once = λ p h. full.once p (omega (arith, long)) ∙ ap due (sym (get_or-replicate count p None None (omega (arith, long))));
      within = subst (λ n. All (λ q. q < n) places) (sym long) full.within;
      count = omega (arith, long, full.all, sum_by-replicate {X = Option ℕ} (λ size. cond (is_some size) 1 0) count None);
      room = omega (arith, long);
    }

due_some : (size : Option ℕ) → 0 ≡ due size → IsSome size
due_some None h = absurd (omega arith)
due_some (Some n) h = refl

-- where the list is empty, every slot is out
pub all_are_out : (w : ℕ) (sizes : List (Option ℕ)) (region : List ℕ) (capacity : ℕ) → IsKept w sizes region [] capacity → (p : ℕ) → p < length sizes → IsSome (get_or sizes p None)
all_are_out w sizes region capacity kept p h = due_some (get_or sizes p None) (kept.once p h)

IsFull-push-due : (places : List ℕ) (q p n : ℕ) → times places p ≡ n → q ≢ p → times (places ++ q ∷ []) p ≡ n
IsFull-push-due places q p n h ne = times-push_other places q p ne ∙ h

-- one more place, in order
pub times-passed : (places : List ℕ) (q : ℕ) → ((p : ℕ) → p < q → times places p ≡ 1) → ((p : ℕ) → q ≤ p → times places p ≡ 0) → (p : ℕ) → p < q + 1 → times (places ++ q ∷ []) p ≡ 1
times-passed places q passed ahead p h =
    elim (cases_eq q p) [
      | inl same ↦ subst (λ r. times (places ++ q ∷ []) r ≡ 1) same (times-push_same places q ∙ ap (λ n. n + 1) (ahead q (omega arith)))
      | inr apart ↦ IsFull-push-due places q p 1 (passed p (omega (arith, apart))) apart
    ]

pub times-ahead : (places : List ℕ) (q : ℕ) → ((p : ℕ) → q ≤ p → times places p ≡ 0) → (p : ℕ) → q + 1 ≤ p → times (places ++ q ∷ []) p ≡ 0
times-ahead places q ahead p h = IsFull-push-due places q p 0 (ahead p (omega arith)) (λ e. absurd (omega arith))

-- a slot's part lies within the region
pub part_within : (w : ℕ) (sizes : List (Option ℕ)) (region places : List ℕ) (capacity at m : ℕ) → IsKept w sizes region places capacity → at < length sizes → m ≤ w → at * w + m ≤ length region
part_within w sizes region places capacity at m kept h short =
    let below : w * suc at ≤ w * length sizes = mul-le-mul_left w (let l : suc at ≤ length sizes = omega arith in l) in
    omega (arith, kept.whole)

pub size_within : (w : ℕ) (sizes : List (Option ℕ)) (region places : List ℕ) (capacity at n : ℕ) → IsKept w sizes region places capacity → at < length sizes → get_or sizes at None ≡ Some n → n ≤ w
size_within w sizes region places capacity at n kept h e = All-get_or (λ size. (m : ℕ) → size ≡ Some m → m ≤ w) sizes at None h kept.widths n e

-- the size that was read
pub size_read : (sizes : List (Option ℕ)) (at n : ℕ) (read : Option ℕ) → at < length sizes → read ≡ get_or sizes at read → get_or sizes at None ≡ Some n → unwrap_or read 0 ≡ n
size_read sizes at n read h e is = ap (λ o. unwrap_or o 0) (get_or_read sizes at read h e None ∙ is)

pub IfNone-always : {X : Type 0} {P : Type 0} (o : Option X) → P → IfNone o P
IfNone-always None p = p
IfNone-always (Some x) p = tt
