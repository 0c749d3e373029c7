-- The counters of the first arrivals, as a receiver keeps them.
use Rattle.std.proofs.Common.{ℕ, zero, suc, ◌≡◌, ◌^◌, ◌<◌, ◌≤◌, List, length, take, drop, inl, inr, arith, subst, Option}
use Rattle.std.specs.Prelude.{min}
use Rattle.std.proofs.lemmas.List.{length-take-le, take-append-drop}
use Rattle.pre_mpacket.specs.Counters.{HoldsOf, CountersOf}
use Rattle.pre_mpacket.proofs.Counted.{counters_more}
use Rattle.pre_receive.specs.declared.counters.Counters.{Counters}
use Rattle.pre_receive.specs.Counts.{Count, last_count}

few_hold : (P : ℕ → Type 0) (n count : ℕ) → HoldsOf P n count → count ≤ n
few_hold P zero count is = omega (arith, is)
few_hold P (suc n) count (inl (p, (less, is, holds))) = let few = few_hold P n less holds in omega (arith, is, few)
few_hold P (suc n) count (inr (none, holds)) = let few = few_hold P n count holds in omega (arith, few)

uncut : (P : ℕ → Type 0) (n count kept : ℕ) → n < 2 ^ 64 → HoldsOf P n count → kept ≡ min count last_count → HoldsOf P n kept
uncut P n count kept few holds is = let bound = few_hold P n count holds in let same : count ≡ kept = omega (arith, few, bound, is) in subst (HoldsOf P n) same holds

pub counts_are : (A : List (Option (List ℕ))) (k : ℕ) (x : Counters) → k ≤ length A → k < 2 ^ 64 → Count (take k A) x
    → CountersOf A k x.frame_ass_error x.frame_smd_error x.frame_ass_ok x.frag_count_rx
counts_are A k x le few (a, b, c, d, counters, is_a, is_b, is_c, is_d) =
    let here : CountersOf (take k A) k a b c d = subst (λ n. CountersOf (take k A) n a b c d) (length-take-le k A le) counters in
    let all : CountersOf A k a b c d
    = subst (λ xs. CountersOf xs k a b c d) (take-append-drop k A) ((counters_more (take k A) (drop k A) k a b c d (omega (arith, length-take-le k A le))).1 here) in
    record {
      ass_errors = uncut _ k a x.frame_ass_error few all.ass_errors is_a;
      smd_errors = uncut _ k b x.frame_smd_error few all.smd_errors is_b;
      ass_oks = uncut _ k c x.frame_ass_ok few all.ass_oks is_c;
      frag_rxs = uncut _ k d x.frag_count_rx few all.frag_rxs is_d;
    }
