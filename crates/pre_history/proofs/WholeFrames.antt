-- A whole frame that isn't lost or damaged gives, where it arrives, the frame that was sent. So where only such frames arrive, none is an
-- alias and no counter of an arc rises.
use Rattle.std.proofs.Common.{ℕ, zero, suc, ◌≡◌, ◌+◌, ◌<◌, ◌≤◌, Bool, false, List, [], ◌∷◌, ◌++◌, length, refl}
use Rattle.std.proofs.Common.{sym, ◌∙◌, ap, inl, inr, arith, subst, Some, length-append}
use Rattle.std.specs.Prelude.{slice_get, count_by}
use Rattle.std.specs.List.{AllByRecursion as Every}
use Rattle.pre_base.specs.declared.limits.TheConstants.{GREATEST_FRAME}
use Rattle.pre_crc.specs.Checks.{Fcs}
use Rattle.pre_crc.proofs.CheckFacts.{length-Fcs}
use Rattle.pre_mpacket.specs.declared.packets.Kind.{Kind}
use Rattle.pre_mpacket.specs.declared.packets.Kind.TheVariants as kind
use Rattle.pre_mpacket.specs.Spelling.{PlainPacket, head_of}
use Rattle.pre_mpacket.specs.Arrivals.{Given, Gives, Spelled, HasKind, is_start, is_continue, is_fragment}
use Rattle.pre_mpacket.specs.Counters.{HoldsOf, IsAssError, IsSmdError, IsAssOk, IsFragRx}
use Rattle.pre_history.specs.declared.events.What.TheVariants as what
use Rattle.pre_history.specs.Scenario.{Scenario, send, FrameOf}
use Rattle.pre_history.specs.History.{History, Begin, Ended, Counts}
use Rattle.pre_history.specs.Queries.{Begins, Ends, Arrivals, end_of}
use Rattle.pre_history.specs.Octets.{whole_of, WholeOf, Air}
use Rattle.pre_history.specs.Starts.{SizeOf}
use Rattle.pre_history.specs.Rules.{CheckOf}
use Rattle.pre_history.specs.Legal.{Alias, IsLastOf, CountsOf, CountLines}
use Rattle.pre_history.proofs.Arrived.{OneGiven}
use Rattle.pre_history.proofs.Free.{first_numbered}
use Rattle.pre_history.proofs.Spelled.{OneSpelled, express_spelled, express_gives}
use Rattle.pre_history.proofs.Undamaged.{user_of, length-FrameOf, air_at, arrives_as_sent, whole_sent}

-- the express mPacket of a whole frame
abbrev pub express_of : Scenario → ℕ → PlainPacket
express_of w f = record { kind = kind.Express; mdata = (user_of w f).0; check = Fcs (user_of w f).0 }

-- mPacket i of the arc carried the whole frame, and gives it where it arrives
pub record IsFrameAt (w : Scenario) (h : History) (a i f : ℕ) : Type 0 where
  pub begin : Begin
  pub ended : Ended
  pub begun : slice_get (Begins h a) i ≡ Some begin
  pub over : slice_get (Ends h a) i ≡ Some ended
  pub carries : begin.what ≡ what.Frame (record { 0 = f })
  pub full : begin.from + ended.size ≡ length (FrameOf w f)
  pub spells : Spelled (Air w h a) i ≡ Some (express_of w f)
  pub gives : Gives (Air w h a) i (Given.frame (FrameOf w f))

pub whole_arrives : OneSpelled → (w : Scenario) (h : History) (a i f : ℕ) (b : Begin) (e : Ended) → w.script.losses ≡ [] → w.script.damages ≡ []
    → slice_get (Begins h a) i ≡ Some b → slice_get (Ends h a) i ≡ Some e → b.ord ≡ i → ((j : ℕ) (d : Ended) → slice_get (Ends h a) j ≡ Some d → d.ord ≡ j)
    → b.kind ≡ kind.Express → b.from ≡ 0 → b.what ≡ what.Frame (record { 0 = f }) → SizeOf w h b.kind b e.size → e.check ≡ CheckOf w h b e.size
    → 64 ≤ (send w f).send.size → (send w f).send.size ≤ GREATEST_FRAME → IsFrameAt w h a i f
whole_arrives spelled w h a i f b e no_loss no_damage at ended ord places is_express from_start is_frame sized checked low high =
    let user = (user_of w f).0 in
    let whole : FrameOf w f ≡ user ++ Fcs user = (user_of w f).1 in
    let end_is : end_of h a b.ord ≡ Some e = first_numbered (Ends h a) 0 i b.ord (omega (arith, ord)) (λ j d here. let is : d.ord ≡ j = places j d here in omega (arith, is)) ∙ ended in
    let octets : slice_get (Air w h a) i ≡ Some (Some (head_of kind.Express ++ user ++ Fcs user))
    = air_at w h a i b at
    ∙ ap Some (arrives_as_sent w h b e a no_loss no_damage end_is ∙ ap Some (whole_sent w h b e (record { 0 = f }) is_express from_start is_frame sized checked (omega (arith, low)))) in
    let long : length (user ++ Fcs user) ≡ length user + 4 = omega (arith, length-append user (Fcs user), length-Fcs user) in
    let size : length (FrameOf w f) ≡ (send w f).send.size = length-FrameOf w f (omega (arith, low)) in
    let same = ap length whole in
    let all : e.size ≡ length (WholeOf w h b) = subst (λ k. SizeOf w h k b e.size) is_express sized in
    record {
      begin = b;
      ended = e;
      begun = at;
      over = ended;
      carries = is_frame;
      full = omega (arith, from_start, all, ap length (ap (whole_of w h b) is_frame));
      spells = express_spelled spelled (Air w h a) i user octets (omega (arith, low, size, same, long));
      gives = subst (λ xs. Gives (Air w h a) i (Given.frame xs)) (sym whole)
          (express_gives spelled (Air w h a) i user octets (omega (arith, low, size, same, long)) (omega (arith, high, size, same, long)));
    }

module _ (w : Scenario) (h : History) (a i f : ℕ) (is : IsFrameAt w h a i f) where
  -- ---- no alias

  is_last : IsLastOf w h a i (FrameOf w f)
  is_last = (
    is.begin,
    is.ended,
    is.begun,
    is.over,
    (λ none. let other : what.Frame (record { 0 = f }) ≡ what.Nothing = sym is.carries ∙ none in cc other),
    sym (ap (whole_of w h is.begin) is.carries),
    is.full,
  )

  no_alias_at : OneGiven → ¬ Alias w h a i
  no_alias_at one (inl (gives, other)) = let same : Given.verify ≡ Given.frame (FrameOf w f) = one (Air w h a) i Given.verify (Given.frame (FrameOf w f)) gives is.gives in cc same
  no_alias_at one (inr (inl (gives, other))) = let same : Given.respond ≡ Given.frame (FrameOf w f) = one (Air w h a) i Given.respond (Given.frame (FrameOf w f)) gives is.gives in cc same
  no_alias_at one (inr (inr (octets, gives, other))) =
      let same : Given.frame octets ≡ Given.frame (FrameOf w f) = one (Air w h a) i (Given.frame octets) (Given.frame (FrameOf w f)) gives is.gives in
      let octets_are : octets ≡ FrameOf w f = cc same in
      other (subst (IsLastOf w h a i) (sym octets_are) is_last)

  -- ---- no counter rises

  other_kind : (test : Kind → Bool) → test kind.Express ≡ false → HasKind (Air w h a) test i → ⊥
  other_kind test none (m, at, passes) =
      let same : express_of w f ≡ m = cc (is.spells, at) in
      let kind_is : kind.Express ≡ m.kind = ap (λ (x : PlainPacket). x.kind) same in
      cc (none, ap test kind_is, passes)

  no_ass_error : ¬ IsAssError (Air w h a) i
  no_ass_error (inl (open', inl start)) = other_kind is_start refl start
  no_ass_error (inl (open', inr (more, refused))) = other_kind is_continue refl more
  no_ass_error (inr (start, refused)) = other_kind is_start refl start

  no_smd_error : ¬ IsSmdError (Air w h a) i
  no_smd_error x = elim x.1 [ inl none ↦ none (express_of w f, is.spells, refl) | inr more ↦ other_kind is_continue refl more.0 ]

  no_ass_ok : ¬ IsAssOk (Air w h a) i
  no_ass_ok x = other_kind is_fragment refl x.0

  no_frag_rx : ¬ IsFragRx (Air w h a) i
  no_frag_rx x = other_kind is_continue refl x.0

-- ---- histories in which only whole frames arrive

-- no mPacket that began is a fragment
abbrev pub NoFragments : History → Type 0
NoFragments h = (a : ℕ) → Every (λ (b : Begin). is_fragment b.kind ≡ false) (Begins h a)

abbrev pub OnlyFrames : Scenario → History → Type 0
OnlyFrames w h = (a i : ℕ) → i < length (Arrivals h a) → (f : ℕ) × IsFrameAt w h a i f

abbrev pub no_counts : Counts
no_counts = record { err = 0; smd = 0; ok = 0; rx = 0; tx = 0 }

none_holds : (P : ℕ → Type 0) (n : ℕ) → ((i : ℕ) → i < n → ¬ P i) → HoldsOf P n 0
none_holds P zero none = refl
none_holds P (suc n) none = inr (none n (omega arith), none_holds P n (λ i lt. none i (omega (arith, lt))))

no_continue : (k : Kind) → is_fragment k ≡ false → is_continue k ≡ false
no_continue (kind.Start c) is = refl
no_continue (kind.Continue c n) is = absurd (cc is)
no_continue kind.Express is = refl
no_continue kind.Verify is = refl
no_continue kind.Respond is = refl

none_count : (bs : List Begin) → Every (λ (b : Begin). is_fragment b.kind ≡ false) bs → count_by (λ b. is_continue b.kind) bs ≡ 0
none_count [] none = refl
none_count (b ∷ bs) (here, more) = rw (no_continue b.kind here) (none_count bs more)

-- an arc of which no counter rose has no `count` line
pub lines_none : (w : Scenario) (h : History) → ((a : ℕ) → CountsOf w h a no_counts) → (n : ℕ) → CountLines w h n []
lines_none w h none zero = refl
lines_none w h none (suc a) = ([], no_counts, lines_none w h none a, none a, refl)

module _ (w : Scenario) (h : History) (only : OnlyFrames w h) where
  pub no_alias : OneGiven → (a i : ℕ) → i < length (Arrivals h a) → ¬ Alias w h a i
  no_alias one a i lt = let is = only a i lt in no_alias_at w h a i is.0 is.1 one

  counts_none : NoFragments h → (a : ℕ) → CountsOf w h a no_counts
  counts_none whole a = (
    record {
      ass_errors = none_holds (IsAssError (Air w h a)) (length (Arrivals h a)) (λ i lt. let is = only a i lt in no_ass_error w h a i is.0 is.1);
      smd_errors = none_holds (IsSmdError (Air w h a)) (length (Arrivals h a)) (λ i lt. let is = only a i lt in no_smd_error w h a i is.0 is.1);
      ass_oks = none_holds (IsAssOk (Air w h a)) (length (Arrivals h a)) (λ i lt. let is = only a i lt in no_ass_ok w h a i is.0 is.1);
      frag_rxs = none_holds (IsFragRx (Air w h a)) (length (Arrivals h a)) (λ i lt. let is = only a i lt in no_frag_rx w h a i is.0 is.1);
    },
    sym (none_count (Begins h a) (whole a)),
  )

  pub no_counts_told : NoFragments h → (n : ℕ) → CountLines w h n []
  no_counts_told whole n = lines_none w h (counts_none whole) n
