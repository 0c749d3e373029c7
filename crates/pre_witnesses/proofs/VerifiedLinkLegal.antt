-- The history of a link that is verified is legal.
use Rattle.std.proofs.Common.{ℕ, ◌≡◌, ◌<◌, Bool, false, [], ◌∷◌, length, refl, sym, ◌∙◌, ap, inl, inr, arith, subst, Some}
use Rattle.std.specs.Prelude.{slice_get, count_by}
use Rattle.pre_mpacket.specs.declared.packets.Kind.{Kind}
use Rattle.pre_mpacket.specs.declared.packets.Kind.TheVariants as kind
use Rattle.pre_mpacket.specs.Arrivals.{Spelled, HasKind, is_start, is_continue, is_fragment}
use Rattle.pre_mpacket.specs.Counters.{HoldsOf, IsAssError, IsSmdError, IsAssOk, IsFragRx}
use Rattle.pre_mpacket.specs.Spelling.{PlainPacket}
use Rattle.pre_history.specs.Scenario.{Scenario}
use Rattle.pre_history.specs.History.{Begin, Ended}
use Rattle.pre_history.specs.Queries.{Begins, Ends, Arrivals}
use Rattle.pre_history.specs.Octets.{Air}
use Rattle.pre_history.specs.Legal.{Legal, CountsOf}
use Rattle.pre_history.proofs.WholeFrames.{no_counts}
use Rattle.pre_laws.proofs.Reassembled.{told, spelled}
use Rattle.pre_laws.proofs.NoAlias.{legal_before}
use Rattle.pre_witnesses.specs.VerifiedLink.{VerifiesLink, verified_link}
use Rattle.pre_witnesses.proofs.Receptions.{other_kind}
use Rattle.pre_witnesses.proofs.NegotiatingPair.{Negotiating, scenario_of, of_all, routed, advert_begin, advert_end}
use Rattle.pre_witnesses.proofs.VerifiedLink.{both_active, bare_begin, bare_end, up_to_end}

module _ (g : Negotiating) where
  abbrev w : Scenario
  w = scenario_of g

  -- ---- no fragment arrives, so no counter rises

  module _ (a i : ℕ) (a_lt : a < 2) (b : Begin) (e : Ended) (at : slice_get (Begins both_active a) i ≡ Some b) (over : slice_get (Ends both_active a) i ≡ Some e)
      (whole : is_fragment b.kind ≡ false) where
    abbrev m : PlainPacket
    m = told w (routed g) 2410 both_active (up_to_end g) a a_lt i b e at over

    spells : Spelled (Air w both_active a) i ≡ Some m
    spells = spelled w (routed g) 2410 both_active (up_to_end g) a a_lt i b e at over (refl, refl)

    none_start : (k : Kind) → is_fragment k ≡ false → is_start k ≡ false
    none_start (kind.Start c) is = absurd (cc is)
    none_start (kind.Continue c n) is = refl
    none_start kind.Express is = refl
    none_start kind.Verify is = refl
    none_start kind.Respond is = refl

    none_more : (k : Kind) → is_fragment k ≡ false → is_continue k ≡ false
    none_more (kind.Start c) is = refl
    none_more (kind.Continue c n) is = absurd (cc is)
    none_more kind.Express is = refl
    none_more kind.Verify is = refl
    none_more kind.Respond is = refl

    other : (test : Kind → Bool) → test b.kind ≡ false → HasKind (Air w both_active a) test i → ⊥
    other test off here = other_kind (Air w both_active a) i m spells test off here

    no_ass_error : ¬ IsAssError (Air w both_active a) i
    no_ass_error (inl (open', inl start)) = other is_start (none_start b.kind whole) start
    no_ass_error (inl (open', inr (more, refused))) = other is_continue (none_more b.kind whole) more
    no_ass_error (inr (start, refused)) = other is_start (none_start b.kind whole) start

    no_smd_error : ¬ IsSmdError (Air w both_active a) i
    no_smd_error (came, inl none) = none (m, spells, refl)
    no_smd_error (came, inr (more, shut)) = other is_continue (none_more b.kind whole) more

    no_ass_ok : ¬ IsAssOk (Air w both_active a) i
    no_ass_ok x = other is_fragment whole x.0

    no_frag_rx : ¬ IsFragRx (Air w both_active a) i
    no_frag_rx x = other is_continue (none_more b.kind whole) x.0

  -- none of an arc's three mPackets is a fragment
  module _ (a : ℕ) (lt : a < 2) (begun : Begins both_active a ≡ advert_begin a ∷ bare_begin 84 1 kind.Verify a ∷ bare_begin 168 2 kind.Respond a ∷ [])
      (ended : Ends both_active a ≡ advert_end a ∷ bare_end 156 1 a ∷ bare_end 240 2 a ∷ []) where
    none_of : (P : ℕ → Type 0) → ((i : ℕ) (b : Begin) (e : Ended) → slice_get (Begins both_active a) i ≡ Some b → slice_get (Ends both_active a) i ≡ Some e → is_fragment b.kind ≡ false → ¬ P i)
        → HoldsOf P 3 0
    none_of P none =
        let begun_at : (i : ℕ) (b : Begin) → slice_get (advert_begin a ∷ bare_begin 84 1 kind.Verify a ∷ bare_begin 168 2 kind.Respond a ∷ []) i ≡ Some b → slice_get (Begins both_active a) i ≡ Some b
        = (λ i b at. ap (λ xs. slice_get xs i) begun ∙ at) in
        let ended_at : (i : ℕ) (e : Ended) → slice_get (advert_end a ∷ bare_end 156 1 a ∷ bare_end 240 2 a ∷ []) i ≡ Some e → slice_get (Ends both_active a) i ≡ Some e
        = (λ i e at. ap (λ xs. slice_get xs i) ended ∙ at) in
        inr (
          none 2 (bare_begin 168 2 kind.Respond a) (bare_end 240 2 a) (begun_at 2 _ refl) (ended_at 2 _ refl) refl,
          inr (
            none 1 (bare_begin 84 1 kind.Verify a) (bare_end 156 1 a) (begun_at 1 _ refl) (ended_at 1 _ refl) refl,
            inr (none 0 (advert_begin a) (advert_end a) (begun_at 0 _ refl) (ended_at 0 _ refl) refl, refl),
          ),
        )

    not_counted : length (Arrivals both_active a) ≡ 3 → CountsOf w both_active a no_counts
    not_counted three = (
      record {
        ass_errors =
            subst (λ n. HoldsOf (IsAssError (Air w both_active a)) n 0) (sym three) (none_of (IsAssError (Air w both_active a)) (λ i b e at over whole. no_ass_error a i lt b e at over whole));
        smd_errors =
            subst (λ n. HoldsOf (IsSmdError (Air w both_active a)) n 0) (sym three) (none_of (IsSmdError (Air w both_active a)) (λ i b e at over whole. no_smd_error a i lt b e at over whole));
        ass_oks = subst (λ n. HoldsOf (IsAssOk (Air w both_active a)) n 0) (sym three) (none_of (IsAssOk (Air w both_active a)) (λ i b e at over whole. no_ass_ok a i lt b e at over whole));
        frag_rxs = subst (λ n. HoldsOf (IsFragRx (Air w both_active a)) n 0) (sym three) (none_of (IsFragRx (Air w both_active a)) (λ i b e at over whole. no_frag_rx a i lt b e at over whole));
      },
      sym (ap (count_by (λ (b : Begin). is_continue b.kind)) begun),
    )

  legal : Legal w verified_link
  legal = (
    both_active,
    [],
    legal_before w (routed g) refl 2410 both_active (up_to_end g) (λ a i b at on. refl),
    ([], no_counts, ([], no_counts, refl, not_counted 0 (omega arith) refl refl refl, refl), not_counted 1 (omega arith) refl refl refl, refl),
    refl,
  )

pub verified_link_legal : (w : Scenario) → VerifiesLink w → Legal w verified_link
verified_link_legal = of_all (λ w. Legal w verified_link) legal
