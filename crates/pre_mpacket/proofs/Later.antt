-- Later arrivals change nothing.
use Rattle.std.proofs.Common.{ℕ, zero, suc, ◌≡◌, ◌≤◌, ◌<◌, ◌-◌, List, [], ◌∷◌, ◌++◌, length, take, drop, refl, sym, ◌∙◌, ap, inl, inr, arith, subst, Option}
use Rattle.std.specs.Prelude.{slice_get, option_and_then, ◌↔◌, Bool}
use Rattle.std.proofs.lemmas.List.{take-append-le, drop-append-le, length-drop}
use Rattle.pre_mpacket.specs.declared.packets.Kind.{Kind}
use Rattle.pre_mpacket.specs.Spelling.{mpacket_of}
use Rattle.pre_mpacket.specs.Pieces.{joined}
use Rattle.pre_mpacket.specs.Arrivals.{Given, is_start, is_fragment, fragments_of, IsChain, HasKind, Spelled, Fragments, Chain, EndsChain, Gives}

-- two lists that agree up to place i
record Agree (A B : List (Option (List ℕ))) (i : ℕ) : Type 0 where
  spelled : (k : ℕ) → k ≤ i → Spelled A k ≡ Spelled B k
  fragments : (j : ℕ) → j ≤ i → Fragments A j i ≡ Fragments B j i

agree_back : (A B : List (Option (List ℕ))) (i : ℕ) → Agree A B i → Agree B A i
agree_back A B i a = record { spelled = λ k le. sym (a.spelled k le); fragments = λ j le. sym (a.fragments j le) }

has_kind : (A B : List (Option (List ℕ))) (i k : ℕ) (test : Kind → Bool) → Agree A B i → k ≤ i → HasKind A test k → HasKind B test k
has_kind A B i k test a le (m, at, is) = (m, sym (a.spelled k le) ∙ at, is)

chain_like : (A B : List (Option (List ℕ))) (i j : ℕ) → Agree A B i → Chain A j i → Chain B j i
chain_like A B i j a (le, first, last, chain) =
    (le, has_kind A B i j is_start a le first, has_kind A B i i is_fragment a (omega arith) last, subst IsChain (a.fragments j le) chain)

ends_like : (A B : List (Option (List ℕ))) (i : ℕ) (all : List ℕ) → Agree A B i → EndsChain A i all → EndsChain B i all
ends_like A B i all a (j, chain, is) = (j, chain_like A B i j a chain, is ∙ ap joined (a.fragments j chain.0))

gives_like : (A B : List (Option (List ℕ))) (i : ℕ) (g : Given) → Agree A B i → Gives A i g → Gives B i g
gives_like A B i (Given.frame octets) a (m, at, inl express) = (m, sym (a.spelled i (omega arith)) ∙ at, inl express)
gives_like A B i (Given.frame octets) a (m, at, inr (all, ends, check, is)) = (m, sym (a.spelled i (omega arith)) ∙ at, inr (all, ends_like A B i all a ends, check, is))
gives_like A B i Given.part a (m, at, (all, ends, check)) = (m, sym (a.spelled i (omega arith)) ∙ at, (all, ends_like A B i all a ends, check))
gives_like A B i Given.verify a (m, at, bare) = (m, sym (a.spelled i (omega arith)) ∙ at, bare)
gives_like A B i Given.respond a (m, at, bare) = (m, sym (a.spelled i (omega arith)) ∙ at, bare)

pub slice_get-append : (A B : List (Option (List ℕ))) (k : ℕ) → k < length A → slice_get (A ++ B) k ≡ slice_get A k
slice_get-append [] B k lt = absurd (omega arith)
slice_get-append (a ∷ A) B zero lt = refl
slice_get-append (a ∷ A) B (suc k) lt = slice_get-append A B k (omega arith)

agree_more : (A B : List (Option (List ℕ))) (i : ℕ) → i < length A → Agree (A ++ B) A i
agree_more A B i lt = record {
  spelled = λ k le. ap (λ o. option_and_then (λ a. option_and_then mpacket_of a) o) (slice_get-append A B k (omega (arith, lt, le)));
  fragments = λ j le. ap fragments_of (ap (take (suc i - j)) (drop-append-le j A B (omega (arith, lt, le))) ∙ take-append-le (suc i - j) (drop j A) B (omega (arith, lt, le, length-drop j A)));
}

pub gives_more : (A B : List (Option (List ℕ))) (i : ℕ) (g : Given) → i < length A → Gives (A ++ B) i g ↔ Gives A i g
gives_more A B i g lt = (gives_like (A ++ B) A i g (agree_more A B i lt), gives_like A (A ++ B) i g (agree_back (A ++ B) A i (agree_more A B i lt)))
