-- A round ranks the arcs at which no longer chain ends.
use Rattle.std.proofs.Common.{◌≡◌, ℕ, zero, suc, ◌+◌, ◌<◌, ◌≤◌, Bool, true, false, cond, List, [], ◌∷◌, Option, Some}
use Rattle.std.proofs.Common.{None, refl, sym, ap, subst, arith, inl, inr, length, get_or, replicate}
use Rattle.std.specs.Prelude.{slice_get, is_none, ◌⊎◌}
use Rattle.std.proofs.lemmas.Bool.{cases_lt}
use Rattle.std.proofs.lemmas.List.Sums.{sum_by-cons}
use Rattle.std.proofs.lemmas.Option.{slice_get-get_or, slice_get_within, get_or_from_slice_get}
use Rattle.pre_streams.specs.declared.rows.Row.{Row}
use Rattle.pre_bound.specs.Chains.{EndsChain, IsRank}
use Rattle.pre_certify.specs.Peelings.{FollowedWithin}
use Rattle.pre_certify.specs.Peels.{IsOpen, HasOpenBefore, IsNextRank, IsRound, Peeled, open_count, IsClosed}

-- a chain has shorter ones at its end
chain_down : (rows : List Row) (m n a : ℕ) → n ≤ m → EndsChain rows m a → EndsChain rows n a
chain_down rows m zero a h chain = tt
chain_down rows zero (suc n) a h chain = absurd (omega arith)
chain_down rows (suc m) (suc n) a h chain = (chain.0, chain.1, chain_down rows m n chain.0 (omega arith) chain.2)

-- an arc of the list is open or ranked
open_or_ranked : (o : Option ℕ) → (o ≡ None) ⊎ ((r : ℕ) × (o ≡ Some r))
open_or_ranked None = inl refl
open_or_ranked (Some r) = inr (r, refl)

module _ (rows : List Row) (round : ℕ) (ranks next : List (Option ℕ)) (step : IsRound rows round ranks next) where
  -- what was at the place of what is
  place : (a : ℕ) (o : Option ℕ) → slice_get next a ≡ Some o → (a < length ranks) × IsNextRank rows round ranks a o
  place a o at =
      let inside = slice_get_within next a o at in
      let here : a < length ranks = omega (arith, inside, step.long) in
      (here, subst (λ x. IsNextRank rows round ranks a x) (get_or_from_slice_get next a o o at) (step.each a o here))

  was : (a : ℕ) → a < length ranks → IsOpen ranks a ⊎ ((r : ℕ) × (slice_get ranks a ≡ Some (Some r)))
  was a inside =
      let at = slice_get-get_or ranks a None inside in
      elim (open_or_ranked (get_or ranks a None)) [
        | inl none ↦ inl (subst (λ o. slice_get ranks a ≡ Some o) none at)
        | inr some ↦ inr (some.0, subst (λ o. slice_get ranks a ≡ Some o) some.1 at)
      ]

  -- an arc that is open was open
  pub was_open : (a : ℕ) → IsOpen next a → IsOpen ranks a × HasOpenBefore rows ranks a
  was_open a now =
      let at = place a None now in
      elim (was a at.0) [
        | inl before ↦ (before, at.1.stays before refl)
        | inr some ↦ absurd (let no = at.1.kept some.0 some.1 in cc)
      ]

  pub peeled-step : FollowedWithin rows (length ranks) → Peeled rows round ranks → Peeled rows (round + 1) next
  peeled-step within before = record {
    still = λ a now.
        let old = was_open a now in
        let more : EndsChain rows (suc round) a = (old.1.before, old.1.follows, before.still old.1.before old.1.still) in
        let eq : suc round ≡ round + 1 = omega arith in
        subst (λ n. EndsChain rows n a) eq more;
    ranked = λ a r now.
        let at = place a (Some r) now in
        elim (was a at.0) [
          | inl old ↦
              let new = at.1.ranked old r refl in
              let same : r ≡ round = new.0 in
              let chain : EndsChain rows r a = subst (λ n. EndsChain rows n a) (sym same) (before.still a old) in
              let longest : (m : ℕ) → EndsChain rows m a → m ≤ r =
              λ m long.
              elim (cases_lt r m) [
                | inl more ↦
                    absurd (let longer : EndsChain rows (suc round) a = chain_down rows m (suc round) a (omega arith) long in
                    elim (was longer.0 (within longer.0 a longer.1)) [
                      | inl still ↦ new.1 longer.0 longer.1 still
                      | inr done ↦
                          let old' = before.ranked longer.0 done.0 done.1 in
                          let under = old'.0.longest round longer.2 in
                          let less = old'.1 in
                          absurd (omega (arith, under, less))
                    ])
                | inr fits ↦ fits
              ]
              in
              (record { chain = chain; longest = longest }, omega arith)
          | inr done ↦
              let kept = at.1.kept done.0 done.1 in
              let same : done.0 ≡ r = cc in
              let old' = before.ranked a done.0 done.1 in
              let less = old'.1 in
              (subst (λ n. IsRank rows a n) same old'.0, omega (arith, same, less))
        ];
  }

-- the open places of lists, one of which is open only where the other is
count_cons : (o : Option ℕ) (xs : List (Option ℕ)) → open_count (o ∷ xs) ≡ cond (is_none o) 1 0 + open_count xs
count_cons o xs = sum_by-cons (λ x. cond (is_none x) 1 0) o xs

cond_less : (p q : Bool) → (p ≡ true → q ≡ true) → cond p 1 0 ≤ cond q 1 0
cond_less false q h = omega arith
cond_less true true h = omega arith
cond_less true false h = absurd (let no = h refl in cc)

none_is : (o : Option ℕ) → is_none o ≡ true → o ≡ None
none_is None h = refl
none_is (Some r) h = absurd (cc)

pub counts_less : (xs ys : List (Option ℕ)) → length xs ≡ length ys → ((a : ℕ) → IsOpen xs a → IsOpen ys a) → open_count xs ≤ open_count ys
counts_less [] [] long h = omega arith
counts_less [] (y ∷ ys) long h = absurd (omega arith)
counts_less (x ∷ xs) [] long h = absurd (omega arith)
counts_less (x ∷ xs) (y ∷ ys) long h =
    let rest = counts_less xs ys (omega arith) (λ a. h (suc a)) in
    let first : cond (is_none x) 1 0 ≤ cond (is_none y) 1 0 =
    cond_less (is_none x) (is_none y) (λ e. let at : Some y ≡ Some None = h 0 (ap Some (none_is x e)) in let same : y ≡ None = cc in ap is_none same)
    in
    omega (arith, rest, first, count_cons x xs, count_cons y ys)

-- and where as many are open, the same are
pub counts_same : (xs ys : List (Option ℕ)) → length xs ≡ length ys → ((a : ℕ) → IsOpen xs a → IsOpen ys a) → open_count ys ≤ open_count xs → (a : ℕ) → IsOpen ys a → IsOpen xs a
counts_same [] [] long h more a at = at
counts_same [] (y ∷ ys) long h more a at = absurd (omega arith)
counts_same (x ∷ xs) [] long h more a at = absurd (omega arith)
counts_same (x ∷ xs) (y ∷ ys) long h more a at =
    let rest = counts_less xs ys (omega arith) (λ b. h (suc b)) in
    let first : cond (is_none x) 1 0 ≤ cond (is_none y) 1 0 =
    cond_less (is_none x) (is_none y) (λ e. let there : Some y ≡ Some None = h 0 (ap Some (none_is x e)) in let same : y ≡ None = cc in ap is_none same)
    in
    let heads : cond (is_none y) 1 0 ≤ cond (is_none x) 1 0 = omega (arith, rest, first, more, count_cons x xs, count_cons y ys) in
    let tails : open_count ys ≤ open_count xs = omega (arith, rest, first, more, count_cons x xs, count_cons y ys) in
    at_place x y xs ys a heads (counts_same xs ys (omega arith) (λ b. h (suc b)) tails) at
  where
    head_is : (o p : Option ℕ) → cond (is_none p) 1 0 ≤ cond (is_none o) 1 0 → p ≡ None → o ≡ None
    head_is None p h e = refl
    head_is (Some r) None h e = absurd (omega arith)
    head_is (Some r) (Some s) h e = absurd (cc)

    at_place : (o p : Option ℕ) (os ps : List (Option ℕ)) (b : ℕ) → cond (is_none p) 1 0 ≤ cond (is_none o) 1 0 → ((k : ℕ) → IsOpen ps k → IsOpen os k) → IsOpen (p ∷ ps) b → IsOpen (o ∷ os) b
    at_place o p os ps zero h rest e = let same : p ≡ None = cc in ap Some (head_is o p h same)
    at_place o p os ps (suc b) h rest e = rest b e

-- a round that ranks no arc finds each open one behind an open one
pub closed-from_round : (rows : List Row) (round : ℕ) (ranks next : List (Option ℕ)) → IsRound rows round ranks next → open_count ranks ≤ open_count next → IsClosed rows ranks
closed-from_round rows round ranks next step more a at =
    let now = counts_same next ranks step.long (λ b e. (was_open rows round ranks next step b e).0) more a at in
    (was_open rows round ranks next step a now).1

-- before the first round
pub peeled-none : (rows : List Row) (n : ℕ) → Peeled rows 0 (replicate n None)
peeled-none rows n = record { still = λ a e. tt; ranked = λ a r e. absurd (no n a r e) }
  where
    no : (n a r : ℕ) → slice_get (replicate n None) a ≡ Some (Some r) → ⊥
    no zero a r e = cc
    no (suc n) zero r e = cc
    no (suc n) (suc a) r e = no n a r e

pub count_none : (n : ℕ) → open_count (replicate n None) ≡ n
count_none zero = refl
count_none (suc n) = let rest = count_none n in omega (arith, rest, count_cons None (replicate n None))
