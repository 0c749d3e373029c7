-- What an arrival gives is decided.
use Rattle.std.proofs.Common.{ℕ, suc, ◌≡◌, ◌⊎◌, ◌+◌, ◌%◌, ◌≤◌, Bool, List, [], ◌∷◌, ◌++◌, length, refl, sym}
use Rattle.std.proofs.Common.{◌∙◌, inl, inr, arith, subst, Option, Some, None, replicate}
use Rattle.std.specs.Prelude.{slice_get, IsTrue}
use Rattle.pre_base.specs.declared.limits.TheConstants.{GREATEST_DATA, GREATEST_FRAME}
use Rattle.pre_crc.specs.Checks.{Fcs, Mcrc}
use Rattle.pre_mpacket.specs.declared.packets.Kind.{Kind}
use Rattle.pre_mpacket.specs.declared.packets.Kind.TheVariants as kind
use Rattle.pre_mpacket.specs.Spelling.{PlainPacket}
use Rattle.pre_mpacket.specs.Pieces.{joined, IsContinued, IsSequence, IsChecked}
use Rattle.pre_mpacket.specs.Arrivals.{Given, is_start, is_fragment, IsExpress, IsBare, IsLost, Spelled, HasKind, Fragments, Data, Chain, EndsChain, GivesAs, Gives, GivesNothing}
use Rattle.pre_mpacket.proofs.Decisions.{IsDecided, both, equal, at_most, equal_lists, is_true, some_below}

-- ---- kinds

pub is_express : (k : Kind) → IsDecided (k ≡ kind.Express)
is_express kind.Express = inl refl
is_express kind.Verify = inr (λ e. cc e)
is_express kind.Respond = inr (λ e. cc e)
is_express (kind.Start c) = inr (λ e. cc e)
is_express (kind.Continue c n) = inr (λ e. cc e)

pub is_verify_kind : (k : Kind) → IsDecided (k ≡ kind.Verify)
is_verify_kind kind.Express = inr (λ e. cc e)
is_verify_kind kind.Verify = inl refl
is_verify_kind kind.Respond = inr (λ e. cc e)
is_verify_kind (kind.Start c) = inr (λ e. cc e)
is_verify_kind (kind.Continue c n) = inr (λ e. cc e)

pub is_respond_kind : (k : Kind) → IsDecided (k ≡ kind.Respond)
is_respond_kind kind.Express = inr (λ e. cc e)
is_respond_kind kind.Verify = inr (λ e. cc e)
is_respond_kind kind.Respond = inl refl
is_respond_kind (kind.Start c) = inr (λ e. cc e)
is_respond_kind (kind.Continue c n) = inr (λ e. cc e)

is_continuation : (k : Kind) (c n : ℕ) → IsDecided (k ≡ kind.Continue c n)
is_continuation kind.Express c n = inr (λ e. cc e)
is_continuation kind.Verify c n = inr (λ e. cc e)
is_continuation kind.Respond c n = inr (λ e. cc e)
is_continuation (kind.Start d) c n = inr (λ e. cc e)
is_continuation (kind.Continue d m) c n = elim (equal d c) [
  | inr other ↦ inr (λ e. other (cc e))
  | inl same ↦ elim (equal m n) [ inl same' ↦ inl (cc (same, same')) | inr other ↦ inr (λ e. other (cc e)) ]
]

-- ---- chains

continued : (c n : ℕ) (ms : List PlainPacket) → IsDecided (IsContinued c n ms)
continued c n [] = inl tt
continued c n (m ∷ ms) = both (is_continuation m.kind c (n % 4)) (continued c (n + 1) ms)

sequence : (ms : List PlainPacket) → IsDecided (IsSequence ms)
sequence [] = inr (λ x. x.1)
sequence (m ∷ ms) = go m.kind refl
  where
    go : (k : Kind) → m.kind ≡ k → IsDecided (IsSequence (m ∷ ms))
    go kind.Express is = inr (λ x. absurd (cc (sym is ∙ x.1.0)))
    go kind.Verify is = inr (λ x. absurd (cc (sym is ∙ x.1.0)))
    go kind.Respond is = inr (λ x. absurd (cc (sym is ∙ x.1.0)))
    go (kind.Continue c n) is = inr (λ x. absurd (cc (sym is ∙ x.1.0)))
    go (kind.Start c) is = elim (continued c 0 ms) [
      | inl more ↦ inl (c, (is, more))
      | inr nay ↦ inr (λ x. let same : x.0 ≡ c = cc (sym x.1.0 ∙ is) in nay (subst (λ d. IsContinued d 0 ms) same x.1.1))
    ]

checked : (before : List ℕ) (ms : List PlainPacket) → IsDecided (IsChecked before ms)
checked before [] = inl tt
checked before (m ∷ []) = inl tt
checked before (m ∷ n ∷ ms) = both (equal_lists m.check (Mcrc (before ++ m.mdata))) (checked (before ++ m.mdata) (n ∷ ms))

module _ (A : List (Option (List ℕ))) where
  pub has_kind : (test : Kind → Bool) (i : ℕ) → IsDecided (HasKind A test i)
  has_kind test i = go (Spelled A i) refl
    where
      go : (o : Option PlainPacket) → Spelled A i ≡ o → IsDecided (HasKind A test i)
      go None is = inr (λ x. absurd (cc (sym is ∙ x.1)))
      go (Some m) is = elim (is_true (test m.kind)) [
        | inl pass ↦ inl (m, is, pass)
        | inr nay ↦ inr (λ x. let same : x.0 ≡ m = cc (sym x.1 ∙ is) in nay (subst (λ (y : PlainPacket). IsTrue (test y.kind)) same x.2))
      ]

  chain : (j i : ℕ) → IsDecided (Chain A j i)
  chain j i = four (at_most j i) (has_kind is_start j) (has_kind is_fragment i) (three (sequence (Fragments A j i)) (at_most (length (joined (Fragments A j i))) GREATEST_DATA) (checked [] (Fragments A j i)))
    where
      three : {P Q R : Type 0} → IsDecided P → IsDecided Q → IsDecided R → IsDecided (P × Q × R)
      three (inl p) (inl q) (inl r) = inl (p, q, r)
      three (inl p) (inl q) (inr nay) = inr (λ x. nay x.2)
      three (inl p) (inr nay) r = inr (λ x. nay x.1)
      three (inr nay) q r = inr (λ x. nay x.0)

      four : {P Q R S : Type 0} → IsDecided P → IsDecided Q → IsDecided R → IsDecided S → IsDecided (P × Q × R × S)
      four (inl p) (inl q) (inl r) (inl s) = inl (p, q, r, s)
      four (inl p) (inl q) (inl r) (inr nay) = inr (λ x. nay x.3)
      four (inl p) (inl q) (inr nay) s = inr (λ x. nay x.2)
      four (inl p) (inr nay) r s = inr (λ x. nay x.1)
      four (inr nay) q r s = inr (λ x. nay x.0)

  -- a chain that ends at i, of which this holds
  ends_chain : (i : ℕ) (Q : List ℕ → Type 0) → ((all : List ℕ) → IsDecided (Q all)) → ((all : List ℕ) × EndsChain A i all × Q all) ⊎ ((all : List ℕ) → EndsChain A i all → ¬ Q all)
  ends_chain i Q decided = elim (some_below (λ j. Chain A j i × Q (Data A j i)) (suc i) (λ j lt. both (chain j i) (decided (Data A j i)))) [
    | inl o ↦ inl (Data A o.0 i, (o.0, o.2.0, refl), o.2.1)
    | inr none ↦ inr (λ all (j, c, is) q. none j (omega (arith, c.0)) (c, subst Q is q))
  ]

  module _ (i : ℕ) (m : PlainPacket) where
    express : IsDecided (IsExpress m (m.mdata ++ m.check))
    express = five (is_express m.kind) (at_most 64 (length (m.mdata ++ m.check))) (at_most (length (m.mdata ++ m.check)) GREATEST_FRAME) (equal_lists m.check (Fcs m.mdata))
      where
        five : {P R S T : Type 0} {octets : List ℕ} → IsDecided P → IsDecided R → IsDecided S → IsDecided T → IsDecided (P × (octets ≡ octets) × R × S × T)
        five (inl p) (inl r) (inl s) (inl t) = inl (p, refl, r, s, t)
        five (inl p) (inl r) (inl s) (inr nay) = inr (λ x. nay x.4)
        five (inl p) (inl r) (inr nay) t = inr (λ x. nay x.3)
        five (inl p) (inr nay) s t = inr (λ x. nay x.2)
        five (inr nay) r s t = inr (λ x. nay x.0)

    bare : (k : Kind) → IsDecided (m.kind ≡ k) → IsDecided (IsBare m k)
    bare k (inr nay) = inr (λ x. nay x.0)
    bare k (inl is) = elim (equal_lists m.mdata (replicate 60 0)) [
      | inr nay ↦ inr (λ x. nay x.1)
      | inl zeros ↦ elim (equal_lists m.check (Mcrc m.mdata)) [ inl check ↦ inl (is, zeros, check) | inr nay ↦ inr (λ x. nay x.2) ]
    ]

    gives_as : ((g : Given) × GivesAs A i m g) ⊎ ((g : Given) → ¬ GivesAs A i m g)
    gives_as = first express (ends_chain i (λ all. m.check ≡ Fcs all) (λ all. equal_lists m.check (Fcs all))) (ends_chain i (λ all. m.check ≡ Mcrc all) (λ all. equal_lists m.check (Mcrc all)))
        (bare kind.Verify (is_verify_kind m.kind)) (bare kind.Respond (is_respond_kind m.kind))
      where
        first : IsDecided (IsExpress m (m.mdata ++ m.check))
            → ((all : List ℕ) × EndsChain A i all × (m.check ≡ Fcs all)) ⊎ ((all : List ℕ) → EndsChain A i all → ¬ (m.check ≡ Fcs all))
            → ((all : List ℕ) × EndsChain A i all × (m.check ≡ Mcrc all)) ⊎ ((all : List ℕ) → EndsChain A i all → ¬ (m.check ≡ Mcrc all))
            → IsDecided (IsBare m kind.Verify) → IsDecided (IsBare m kind.Respond) → ((g : Given) × GivesAs A i m g) ⊎ ((g : Given) → ¬ GivesAs A i m g)
        first (inl whole) last' part' verify respond = inl (Given.frame (m.mdata ++ m.check), inl whole)
        first (inr w) (inl (all, ends, is)) part' verify respond = inl (Given.frame (all ++ m.check), inr (all, ends, is, refl))
        first (inr w) (inr l) (inl p) verify respond = inl (Given.part, p)
        first (inr w) (inr l) (inr p) (inl v) respond = inl (Given.verify, v)
        first (inr w) (inr l) (inr p) (inr v) (inl r) = inl (Given.respond, r)
        first (inr w) (inr l) (inr p) (inr v) (inr r) = inr none
          where
            none : (g : Given) → ¬ GivesAs A i m g
            none (Given.frame octets) (inl (k, is, few, many, check)) = w (k, refl, subst (λ (x : List ℕ). 64 ≤ length x) is few, subst (λ (x : List ℕ). length x ≤ GREATEST_FRAME) is many, check)
            none (Given.frame octets) (inr (all, ends, check, is)) = l all ends check
            none Given.part (all, ends, check) = p all ends check
            none Given.verify x = v x
            none Given.respond x = r x

  pub gives_decided : (i : ℕ) → ((g : Given) × Gives A i g) ⊎ GivesNothing A i
  gives_decided i = go (Spelled A i) refl
    where
      go : (o : Option PlainPacket) → Spelled A i ≡ o → ((g : Given) × Gives A i g) ⊎ GivesNothing A i
      go None is = inr (λ g x. absurd (cc (sym is ∙ x.1)))
      go (Some m) is = elim (gives_as i m) [
        | inl o ↦ inl (o.0, (m, is, o.1))
        | inr none ↦ inr (λ g x. let same : x.0 ≡ m = cc (sym x.1 ∙ is) in none g (subst (λ (y : PlainPacket). GivesAs A i y g) same x.2))
      ]

  pub lost_decided : (i : ℕ) → IsDecided (IsLost A i)
  lost_decided i = go (slice_get A i) refl
    where
      go : (o : Option (Option (List ℕ))) → slice_get A i ≡ o → IsDecided (IsLost A i)
      go None is = inr (λ x. absurd (cc (sym is ∙ x)))
      go (Some None) is = inl is
      go (Some (Some octets)) is = inr (λ x. let same : Some octets ≡ None = cc (sym is ∙ x) in absurd (cc same))
