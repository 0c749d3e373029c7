-- What the last arrival gives, where it spells an mPacket.
use Rattle.std.proofs.Common.{ℕ, suc, ◌≡◌, ◌⊎◌, ◌≤◌, ◌<◌, List, [], ◌∷◌, ◌++◌, length, length-append, refl, sym}
use Rattle.std.proofs.Common.{◌∙◌, ap, arith, subst, inl, inr, Option, Some, None, true, false, Bool}
use Rattle.std.specs.Prelude.{◌≢◌, ◌↔◌, replicate}
use Rattle.pre_base.specs.declared.limits.TheConstants.{GREATEST_DATA}
use Rattle.pre_crc.specs.Checks.{Fcs, Mcrc}
use Rattle.pre_crc.specs.Register as register
use Rattle.pre_mpacket.specs.declared.packets.Kind.{Kind}
use Rattle.pre_mpacket.specs.declared.packets.Kind.TheVariants as kind
use Rattle.pre_mpacket.specs.declared.reading.MFault.{MFault}
use Rattle.pre_mpacket.specs.declared.reading.MFault.TheVariants as fault
use Rattle.pre_mpacket.specs.Spelling.{PlainPacket, Spells, IsFirstFault}
use Rattle.pre_mpacket.specs.Arrivals.{Given, is_continue, is_fragment, HasKind, Spelled, EndsChain, GivesAs, GivesNothing}
use Rattle.pre_mpacket.specs.Open.{IsOpen}
use Rattle.pre_receive.specs.declared.taken.Cause.{Cause}
use Rattle.pre_receive.specs.declared.taken.Cause.TheVariants as cause
use Rattle.pre_receive.specs.declared.opened.Opened.{Opened}
use Rattle.pre_receive.specs.declared.outcomes.Outcome.{Outcome}
use Rattle.pre_receive.specs.declared.outcomes.Outcome.TheVariants as outcome
use Rattle.pre_receive.specs.declared.receivers.Receiver.{Receiver}
use Rattle.pre_receive.specs.Causes.{Reason, no_delimiter, no_fragment_count, short, no_open_frame, other_frame_count, other_fragment_count, long}
use Rattle.pre_receive.specs.Causes.{other_check, place_of, Breaks, MeetsOpen, IsLong, HasReason, IsCause}
use Rattle.pre_receive.specs.Takings.{IsTaken}
use Rattle.pre_receive.specs.Held.{HoldsOpened}
use Rattle.pre_receive.specs.Steps.{Opens, JoinedTo}
use Rattle.pre_receive.specs.Receivers.{taking}
use Rattle.pre_receive.proofs.PacketLaws.{PacketLaws}
use Rattle.pre_receive.proofs.Places.{last_get, last_spelled}

-- ---- reasons before a reason

NoBreaks : List (Option (List ℕ)) → ℕ → Type 0
NoBreaks A i = (e : MFault) → ¬ Breaks A i e

below_three : (A : List (Option (List ℕ))) (i : ℕ) → NoBreaks A i → (r : Reason) → place_of r < 3 → ¬ HasReason A i r
unfolding NoBreaks
below_three A i sound no_delimiter lt h = elim h [ inl x ↦ sound fault.Smd x | inr x ↦ sound fault.Preamble x ]
below_three A i sound no_fragment_count lt h = sound fault.Fragment h
below_three A i sound short lt h = sound fault.Short h
below_three A i sound no_open_frame lt h = omega arith
below_three A i sound other_frame_count lt h = omega arith
below_three A i sound other_fragment_count lt h = omega arith
below_three A i sound long lt h = omega arith
below_three A i sound other_check lt h = omega arith

-- one more place
pub next_place : (A : List (Option (List ℕ))) (i : ℕ) (n : ℕ) (at : Reason) → place_of at ≡ n → ((r : Reason) → place_of r ≡ n → r ≡ at)
    → ((r : Reason) → place_of r < n → ¬ HasReason A i r) → ¬ HasReason A i at → (r : Reason) → place_of r < suc n → ¬ HasReason A i r
next_place A i n at is only before none r lt h =
    elim (nat_split (place_of r) n lt) [
      | inl lower ↦ before r lower h
      | inr same ↦ none (subst (λ (x : Reason). HasReason A i x) (only r same) h)
    ]
  where
    nat_split : (p n : ℕ) → p < suc n → (p < n) ⊎ (p ≡ n)
    nat_split p n lt = grind arith

at_three : (r : Reason) → place_of r ≡ 3 → r ≡ no_open_frame
at_three no_delimiter is = absurd (cc is)
at_three no_fragment_count is = absurd (omega arith)
at_three short is = absurd (omega arith)
at_three no_open_frame is = refl
at_three other_frame_count is = absurd (omega arith)
at_three other_fragment_count is = absurd (omega arith)
at_three long is = absurd (omega arith)
at_three other_check is = absurd (omega arith)

at_four : (r : Reason) → place_of r ≡ 4 → r ≡ other_frame_count
at_four no_delimiter is = absurd (omega arith)
at_four no_fragment_count is = absurd (omega arith)
at_four short is = absurd (omega arith)
at_four no_open_frame is = absurd (omega arith)
at_four other_frame_count is = refl
at_four other_fragment_count is = absurd (omega arith)
at_four long is = absurd (omega arith)
at_four other_check is = absurd (omega arith)

at_five : (r : Reason) → place_of r ≡ 5 → r ≡ other_fragment_count
at_five no_delimiter is = absurd (omega arith)
at_five no_fragment_count is = absurd (omega arith)
at_five short is = absurd (omega arith)
at_five no_open_frame is = absurd (omega arith)
at_five other_frame_count is = absurd (omega arith)
at_five other_fragment_count is = refl
at_five long is = absurd (omega arith)
at_five other_check is = absurd (omega arith)

at_six : (r : Reason) → place_of r ≡ 6 → r ≡ long
at_six no_delimiter is = absurd (omega arith)
at_six no_fragment_count is = absurd (omega arith)
at_six short is = absurd (omega arith)
at_six no_open_frame is = absurd (omega arith)
at_six other_frame_count is = absurd (omega arith)
at_six other_fragment_count is = absurd (omega arith)
at_six long is = refl
at_six other_check is = absurd (omega arith)

-- ---- an mPacket

module _ (laws : PacketLaws) (A : List (Option (List ℕ))) (a : List ℕ) (m : PlainPacket) (spells : Spells m a) (sound : (e : MFault) → ¬ IsFirstFault e a) where
  pub spelled : Spelled (A ++ Some a ∷ []) (length A) ≡ Some m
  spelled = last_spelled A (Some a) ∙ (laws.spelled m a).1 spells

  pub alone : (x : PlainPacket) → Spelled (A ++ Some a ∷ []) (length A) ≡ Some x → x ≡ m
  alone x at = let here = spelled in cc (here, at)

  no_breaks : NoBreaks (A ++ Some a ∷ []) (length A)
  unfolding NoBreaks
  no_breaks e (octets, at, first) = let here = last_get A (Some a) in let same : octets ≡ a = cc (here, at) in sound e (subst (IsFirstFault e) same first)

  pub kind_not : (test : Kind → Bool) (k : Kind) → m.kind ≡ k → test k ≡ false → ¬ HasKind (A ++ Some a ∷ []) test (length A)
  kind_not test k is fails (x, there, passes) = let same = alone x there in cc (ap (λ (y : PlainPacket). test y.kind) same, ap test is, fails, passes)

  pub kind_has : (test : Kind → Bool) (k : Kind) → m.kind ≡ k → test k ≡ true → HasKind (A ++ Some a ∷ []) test (length A)
  kind_has test k is passes = (m, spelled, ap test is ∙ passes)

  pub before_open : (r : Reason) → place_of r < 3 → ¬ HasReason (A ++ Some a ∷ []) (length A) r
  before_open = below_three (A ++ Some a ∷ []) (length A) no_breaks

  pub up_to_open : ¬ HasReason (A ++ Some a ∷ []) (length A) no_open_frame → (r : Reason) → place_of r < 4 → ¬ HasReason (A ++ Some a ∷ []) (length A) r
  up_to_open none = next_place (A ++ Some a ∷ []) (length A) 3 no_open_frame refl at_three before_open none

  pub up_to_frame_count : ¬ HasReason (A ++ Some a ∷ []) (length A) no_open_frame → ¬ HasReason (A ++ Some a ∷ []) (length A) other_frame_count
      → (r : Reason) → place_of r < 5 → ¬ HasReason (A ++ Some a ∷ []) (length A) r
  up_to_frame_count none same = next_place (A ++ Some a ∷ []) (length A) 4 other_frame_count refl at_four (up_to_open none) same

  pub up_to_counts : ¬ HasReason (A ++ Some a ∷ []) (length A) no_open_frame → ¬ HasReason (A ++ Some a ∷ []) (length A) other_frame_count
      → ¬ HasReason (A ++ Some a ∷ []) (length A) other_fragment_count → (r : Reason) → place_of r < 6 → ¬ HasReason (A ++ Some a ∷ []) (length A) r
  up_to_counts none same next = next_place (A ++ Some a ∷ []) (length A) 5 other_fragment_count refl at_five (up_to_frame_count none same) next

  pub up_to_long : ((r : Reason) → place_of r < 6 → ¬ HasReason (A ++ Some a ∷ []) (length A) r) → ¬ IsLong (A ++ Some a ∷ []) (length A) m m.kind
      → (r : Reason) → place_of r < 7 → ¬ HasReason (A ++ Some a ∷ []) (length A) r
  up_to_long before fits = next_place (A ++ Some a ∷ []) (length A) 6 long refl at_six before
      (λ (x, at, is). fits (subst (λ (y : PlainPacket). IsLong (A ++ Some a ∷ []) (length A) y y.kind) (alone x at) is))

  -- what is no continuation has none of the reasons of one
  no_meeting : (k : Kind) → m.kind ≡ k → is_continue k ≡ false → (c n d e : ℕ) → ¬ MeetsOpen (A ++ Some a ∷ []) (length A) c n d e
  no_meeting k is fails c n d e (x, before, at, continues, rest) = let same = alone x at in cc (ap (λ (y : PlainPacket). is_continue y.kind) same, ap is_continue is, fails, ap is_continue continues)

  pub up_to_long_other : (k : Kind) → m.kind ≡ k → is_continue k ≡ false → (r : Reason) → place_of r < 6 → ¬ HasReason (A ++ Some a ∷ []) (length A) r
  up_to_long_other k is fails = up_to_counts
      (λ h. kind_not is_continue k is fails h.0)
      (λ h. no_meeting k is fails h.0 h.1 h.2 h.3 h.4)
      (λ h. no_meeting k is fails h.0 h.1 h.2 h.3 h.4)

  pub cause_long : (c : Cause) (k : Kind) → m.kind ≡ k → c ≡ cause.Size → IsLong (A ++ Some a ∷ []) (length A) m k
      → ((r : Reason) → place_of r < 6 → ¬ HasReason (A ++ Some a ∷ []) (length A) r) → IsCause (A ++ Some a ∷ []) (length A) c
  cause_long c k is named here before = record {
    reason = long;
    named = named;
    here = (m, spelled, subst (IsLong (A ++ Some a ∷ []) (length A) m) (sym is) here);
    none_before = before;
  }

  pub cause_check : (c : Cause) (k : Kind) → m.kind ≡ k → c ≡ cause.Check → ¬ IsLong (A ++ Some a ∷ []) (length A) m k
      → ((r : Reason) → place_of r < 6 → ¬ HasReason (A ++ Some a ∷ []) (length A) r) → IsCause (A ++ Some a ∷ []) (length A) c
  cause_check c k is named fits before = record {
    reason = other_check;
    named = named;
    here = tt;
    none_before = up_to_long before (λ h. fits (subst (IsLong (A ++ Some a ∷ []) (length A) m) is h));
  }

  -- ---- what gives nothing

  pub nothing : ((g : Given) → ¬ GivesAs (A ++ Some a ∷ []) (length A) m g) → GivesNothing (A ++ Some a ∷ []) (length A)
  nothing none g (x, at, gives) = none g (subst (λ (y : PlainPacket). GivesAs (A ++ Some a ∷ []) (length A) y g) (alone x at) gives)

  no_chain : (k : Kind) → m.kind ≡ k → is_fragment k ≡ false → (all : List ℕ) → ¬ EndsChain (A ++ Some a ∷ []) (length A) all
  no_chain k is fails all (j, chain, whole) = kind_not is_fragment k is fails chain.2

  pub express_nothing : m.kind ≡ kind.Express → ((length m.mdata ≤ GREATEST_DATA) → (m.check ≡ Fcs m.mdata) → ⊥) → GivesNothing (A ++ Some a ∷ []) (length A)
  express_nothing is none = nothing refused
    where
      refused : (g : Given) → ¬ GivesAs (A ++ Some a ∷ []) (length A) m g
      refused (Given.frame octets) (inl e) = none (omega (arith, e.3, ap length e.1, length-append m.mdata m.check, spells.whole.check)) e.4
      refused (Given.frame octets) (inr (all, ends, check, whole)) = no_chain kind.Express is refl all ends
      refused Given.part (all, ends, rest) = no_chain kind.Express is refl all ends
      refused Given.verify bare = cc (is, bare.0)
      refused Given.respond bare = cc (is, bare.0)

  pub bare_nothing : (k : Kind) → m.kind ≡ k → (k ≡ kind.Verify) ⊎ (k ≡ kind.Respond) → ¬ ((m.mdata ≡ replicate 60 0) × (m.check ≡ Mcrc m.mdata)) → GivesNothing (A ++ Some a ∷ []) (length A)
  bare_nothing k is which none = nothing refused
    where
      no_fragment : (k ≡ kind.Verify) ⊎ (k ≡ kind.Respond) → is_fragment k ≡ false
      no_fragment (inl v) = ap is_fragment v
      no_fragment (inr r) = ap is_fragment r

      not_express : (k ≡ kind.Verify) ⊎ (k ≡ kind.Respond) → ¬ (m.kind ≡ kind.Express)
      not_express (inl v) e = cc (is, v, e)
      not_express (inr r) e = cc (is, r, e)

      refused : (g : Given) → ¬ GivesAs (A ++ Some a ∷ []) (length A) m g
      refused (Given.frame octets) (inl e) = not_express which e.0
      refused (Given.frame octets) (inr (all, ends, check, whole)) = no_chain k is (no_fragment which) all ends
      refused Given.part (all, ends, rest) = no_chain k is (no_fragment which) all ends
      refused Given.verify bare = none (bare.1, bare.2)
      refused Given.respond bare = none (bare.1, bare.2)

  pub fragment_nothing : is_fragment m.kind ≡ true → ((all : List ℕ) → EndsChain (A ++ Some a ∷ []) (length A) all → (m.check ≢ Fcs all) × (m.check ≢ Mcrc all)) → GivesNothing (A ++ Some a ∷ []) (length A)
  fragment_nothing fragment none = nothing refused
    where
      refused : (g : Given) → ¬ GivesAs (A ++ Some a ∷ []) (length A) m g
      refused (Given.frame octets) (inl e) = cc (fragment, ap is_fragment e.0)
      refused (Given.frame octets) (inr (all, ends, check, rest)) = (none all ends).0 check
      refused Given.part (all, ends, check) = (none all ends).1 check
      refused Given.verify bare = cc (fragment, ap is_fragment bare.0)
      refused Given.respond bare = cc (fragment, ap is_fragment bare.0)

  -- ---- data that is joined

  -- this data ends here, no other does, and what is open afterwards is a part of it
  pub record Ends (k : Kind) (c next : ℕ) (all : List ℕ) : Type 0 where
    pub is : m.kind ≡ k
    pub fragment : is_fragment k ≡ true
    pub ends : length all ≤ GREATEST_DATA → EndsChain (A ++ Some a ∷ []) (length A) all
    pub only : (xs : List ℕ) → EndsChain (A ++ Some a ∷ []) (length A) xs → (xs ≡ all) × (length xs ≤ GREATEST_DATA)
    pub opens : (d n : ℕ) (xs : List ℕ) → IsOpen (A ++ Some a ∷ []) d n xs ↔ ((d ≡ c) × (n ≡ next) × EndsChain (A ++ Some a ∷ []) (length A) xs × (m.check ≡ Mcrc xs))
    pub long : GREATEST_DATA < length all → IsLong (A ++ Some a ∷ []) (length A) m k
    pub fits : length all ≤ GREATEST_DATA → ¬ IsLong (A ++ Some a ∷ []) (length A) m k
    pub before : (r : Reason) → place_of r < 6 → ¬ HasReason (A ++ Some a ∷ []) (length A) r

  pub joined_taken : (k : Kind) (c next : ℕ) (all : List ℕ) → Ends k c next all → (r : Receiver) (o : Outcome)
      → JoinedTo o c next all m.check r.opened r.octets.items → IsTaken (A ++ Some a ∷ []) (length A) (taking r.whole.items r.octets.items o)
  joined_taken k c next all e r outcome.Joined (le, check, none, kept) = (m, spelled, inr (all, e.ends le, check, kept))
  joined_taken k c next all e r outcome.Part (le, check, opens, kept) = (m, spelled, (all, e.ends le, check))
  joined_taken k c next all e r (outcome.Nothing x) (none, inl (size, over)) = (
    fragment_nothing (ap is_fragment e.is ∙ e.fragment) (λ xs ends. let h = e.only xs ends in absurd (omega (arith, over, h.1, ap length h.0))),
    cause_long x k e.is size (e.long over) e.before,
  )
  joined_taken k c next all e r (outcome.Nothing x) (none, inr (check, le, no_fcs, no_mcrc)) = (
    fragment_nothing (ap is_fragment e.is ∙ e.fragment) (λ xs ends. let h = e.only xs ends in (λ f. no_fcs (f ∙ ap Fcs h.0), λ f. no_mcrc (f ∙ ap Mcrc h.0))),
    cause_check x k e.is check (e.fits le) e.before,
  )
  joined_taken k c next all e r outcome.Express h = absurd h
  joined_taken k c next all e r outcome.Verify h = absurd h
  joined_taken k c next all e r outcome.Respond h = absurd h

  -- nothing is open after data whose check isn't its Mcrc, or that is too long
  shut : (k : Kind) (c next : ℕ) (all : List ℕ) → Ends k c next all → ((length all ≤ GREATEST_DATA) → m.check ≢ Mcrc all) → (w : Option Opened) (octets : List ℕ) → w ≡ None
      → HoldsOpened w octets (A ++ Some a ∷ [])
  shut k c next all e none w octets is = subst (λ v. HoldsOpened v octets (A ++ Some a ∷ [])) (sym is)
      (λ d n xs o. let h = (e.opens d n xs).0 o in let only = e.only xs h.2 in none (omega (arith, only.1, ap length only.0)) (h.3 ∙ ap Mcrc only.0))

  opened : (k : Kind) (c next : ℕ) (all : List ℕ) → Ends k c next all → length all ≤ GREATEST_DATA → m.check ≡ Mcrc all → (w : Option Opened) (octets : List ℕ)
      → Opens w c next all → octets ≡ all → HoldsOpened w octets (A ++ Some a ∷ [])
  opened k c next all e le check None octets opens kept = absurd opens
  opened k c next all e le check (Some o) octets (count, n, stands) kept = (
    (e.opens o.frame_count o.next octets).1 (count, n, subst (EndsChain (A ++ Some a ∷ []) (length A)) (sym kept) (e.ends le), check ∙ ap Mcrc (sym kept)),
    subst (register.Stands o.check) (sym kept) stands,
  )

  pub joined_holds : (k : Kind) (c next : ℕ) (all : List ℕ) → Ends k c next all → (o : Outcome) (w : Option Opened) (octets : List ℕ)
      → JoinedTo o c next all m.check w octets → HoldsOpened w octets (A ++ Some a ∷ [])
  joined_holds k c next all e outcome.Joined w octets (le, check, none, kept) = shut k c next all e (λ fits part. laws.checks_differ all (sym check ∙ part)) w octets none
  joined_holds k c next all e outcome.Part w octets (le, check, opens, kept) = opened k c next all e le check w octets opens kept
  joined_holds k c next all e (outcome.Nothing x) w octets (none, inl (size, over)) = shut k c next all e (λ fits part. omega (arith, over, fits)) w octets none
  joined_holds k c next all e (outcome.Nothing x) w octets (none, inr (check, le, no_fcs, no_mcrc)) = shut k c next all e (λ fits part. no_mcrc part) w octets none
  joined_holds k c next all e outcome.Express w octets h = absurd h
  joined_holds k c next all e outcome.Verify w octets h = absurd h
  joined_holds k c next all e outcome.Respond w octets h = absurd h
