-- What an mPacket gives that ended in a legal history and is neither lost nor damaged.
use Rattle.std.proofs.Common.{ℕ, suc, ◌≡◌, ◌+◌, ◌-◌, ◌≤◌, Bool, true, false, List, [], ◌∷◌, ◌++◌, length, take}
use Rattle.std.proofs.Common.{drop, refl, sym, ◌∙◌, ap, inl, arith, subst, Option, Some, length-append}
use Rattle.std.proofs.lemmas.List.{append-nil}
use Rattle.pre_crc.specs.Checks.{Fcs, Mcrc}
use Rattle.pre_crc.proofs.CheckFacts.{length-Fcs}
use Rattle.pre_mpacket.specs.declared.packets.Kind.{Kind}
use Rattle.pre_mpacket.specs.declared.packets.Kind.TheVariants as kind
use Rattle.pre_mpacket.specs.Spelling.{PlainPacket}
use Rattle.pre_mpacket.specs.Pieces.{joined}
use Rattle.pre_mpacket.specs.Arrivals.{Given, Gives, Spelled, HasKind, Fragments, fragments_of, IsChain, Chain, is_start, is_fragment}
use Rattle.pre_mpacket.proofs.Chains.{first_fragment}

nothing_taken : (l : List (Option (List ℕ))) → fragments_of (take 0 l) ≡ []
nothing_taken [] = refl
nothing_taken (x ∷ l) = refl

module _ (A : List (Option (List ℕ))) (i : ℕ) (m : PlainPacket) (spells : Spelled A i ≡ Some m) where
  -- the kind that is spelled passes each test that some kind spelled there passes
  pub kind_there : (test : Kind → Bool) → HasKind A test i → test m.kind ≡ true
  kind_there test (x, at, pass) = let same : x ≡ m = cc (sym at ∙ spells) in ap (λ (y : PlainPacket). test y.kind) (sym same) ∙ pass

  pub other_kind : (test : Kind → Bool) → test m.kind ≡ false → HasKind A test i → ⊥
  other_kind test off here = cc (sym off ∙ kind_there test here)

  -- a first fragment with the mCRC of its mData
  pub part_given : (c : ℕ) → m.kind ≡ kind.Start c → length m.mdata ≤ 1996 → m.check ≡ Mcrc m.mdata → Gives A i Given.part
  part_given c is short check = (m, spells, (m.mdata, (i, chain, data_is), check))
    where
      start : is_start m.kind ≡ true
      start = ap is_start is

      fragment : is_fragment m.kind ≡ true
      fragment = ap is_fragment is

      alone : Fragments A i i ≡ m ∷ []
      alone =
          let one : suc i - i ≡ 1 = omega arith in
          ap (λ x. fragments_of (take x (drop i A))) one ∙ (first_fragment A i 0 m spells fragment ∙ ap (λ l. m ∷ l) (nothing_taken (drop (suc i) A)))

      data_is : m.mdata ≡ joined (Fragments A i i)
      data_is = sym (append-nil m.mdata) ∙ ap joined (sym alone)

      long : length (joined (Fragments A i i)) ≤ 1996
      long = let same = ap length data_is in omega (arith, same, short)

      is_chain : IsChain (Fragments A i i)
      is_chain = subst IsChain (sym alone) ((c, (is, tt)), let same = ap length (append-nil m.mdata) in omega (arith, same, short), tt)

      chain : Chain A i i
      chain = (omega arith, (m, spells, start), (m, spells, fragment), is_chain)

  -- a whole frame in an express mPacket, whose octets end with their FCS
  pub frame_given : (user : List ℕ) → m.kind ≡ kind.Express → m.mdata ≡ user → m.check ≡ Fcs user → 60 ≤ length user → length user ≤ 1996 → Gives A i (Given.frame (user ++ Fcs user))
  frame_given user is data_is check low high =
      let long : length (user ++ Fcs user) ≡ length user + 4 = omega (arith, length-append user (Fcs user), length-Fcs user) in (
        m,
        spells,
        inl (is, ap (λ l. l ++ Fcs user) (sym data_is) ∙ ap (λ l. m.mdata ++ l) (sym check), omega (arith, long, low), omega (arith, long, high), check ∙ ap Fcs (sym data_is)),
      )
