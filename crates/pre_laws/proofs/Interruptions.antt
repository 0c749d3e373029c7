-- What is left of the frame that is interrupted at a tick.
use Rattle.std.proofs.Common.{ℕ, zero, suc, ◌≡◌, ◌⊎◌, ◌+◌, ◌<◌, ◌≤◌, length, refl, sym, ◌∙◌, ap, inl, inr, arith, subst, Some, filter}
use Rattle.std.specs.Prelude.{slice_get, nat_lt}
use Rattle.std.proofs.lemmas.Bool.{cases_lt}
use Rattle.pre_mpacket.specs.declared.packets.Kind.TheVariants as kind
use Rattle.pre_history.specs.declared.events.What.TheVariants as what
use Rattle.pre_history.specs.Scenario.{Scenario, FrameOf}
use Rattle.pre_history.specs.History.{History, Begin}
use Rattle.pre_history.specs.Selected.{from_last}
use Rattle.pre_history.specs.Queries.{Begins, Packet, Packets, LastRun, Rest, Interrupted}
use Rattle.pre_history.specs.Legal.{LegalUpTo}
use Rattle.pre_history.proofs.Lists.{there, within, one_at}
use Rattle.pre_history.proofs.LaterEnds.{packet_back}
use Rattle.pre_laws.specs.Routed.{IsRouted}
use Rattle.pre_laws.specs.Parts.{IsLeft}
use Rattle.pre_laws.proofs.Runs.{run_to, filter_front, is_begun_start, is_begun_fragment, no_lt}
use Rattle.pre_laws.proofs.RunSteps.{Run, State, Continues, rest_continues, state}
use Rattle.pre_history.proofs.Rising.{rises}
use Rattle.pre_history.proofs.NatTests.{is_lt}

module _ (w : Scenario) (n : ℕ) (h : History) (legal : LegalUpTo w n h) (a : ℕ) (a_lt : a < length w.net.arcs) (t : ℕ) where
  -- those begun before the tick stand before place m, of the first l
  pub record Parted (l : ℕ) : Type 0 where
    pub place : ℕ
    pub within : place ≤ l
    pub early : (k : ℕ) (b : Begin) → k < place → slice_get (Begins h a) k ≡ Some b → b.tick < t
    pub late : (k : ℕ) (b : Begin) → place ≤ k → k < l → slice_get (Begins h a) k ≡ Some b → t ≤ b.tick

  parted : (l : ℕ) → l ≤ length (Begins h a) → Parted l
  parted zero le = record { place = 0; within = omega arith; early = λ k b lt at. absurd (omega (arith, lt)); late = λ k b from lt at. absurd (omega (arith, lt)) }
  parted (suc l) le = go (parted l (omega (arith, le))) (cases_lt d.0.tick t)
    where
      d : (d : Begin) × (slice_get (Begins h a) l ≡ Some d)
      d = there (Begins h a) l (omega (arith, le))

      order : (i j : ℕ) → i ≤ j → (i ≡ j) ⊎ (i < j)
      order i j le = grind arith

      tick_at : (k : ℕ) (b : Begin) → k ≡ l → slice_get (Begins h a) k ≡ Some b → b.tick ≡ d.0.tick
      tick_at k b same at = ap (λ (x : Begin). x.tick) (one_at (Begins h a) l b d.0 (ap (slice_get (Begins h a)) (sym same) ∙ at) d.1)

      go : Parted l → (d.0.tick < t) ⊎ (t ≤ d.0.tick) → Parted (suc l)
      go p (inl less) = record {
        place = suc l;
        within = omega arith;
        early = λ k b lt at. elim (order k l (omega (arith, lt))) [
          | inl same ↦ let is = tick_at k b same at in omega (arith, is, less)
          | inr before ↦ let lower = rises w n h legal a a_lt k l b d.0 before at d.1 in omega (arith, lower, less)
        ];
        late = λ k b from lt at. absurd (omega (arith, from, lt));
      }
      go p (inr more) = record {
        place = p.place;
        within = (let le' = p.within in omega (arith, le'));
        early = p.early;
        late = λ k b from lt at. elim (order k l (omega (arith, lt))) [
          | inl same ↦ let is = tick_at k b same at in omega (arith, is, more)
          | inr before ↦ p.late k b from before at
        ];
      }

  whole : Parted (length (Begins h a))
  whole = parted (length (Begins h a)) (omega arith)

  last_run : LastRun h a t ≡ run_to w n h legal a a_lt whole.place
  last_run = ap (λ ps. from_last is_begun_start (filter is_begun_fragment ps)) (filter_front (λ (p : Packet). nat_lt p.begin.tick t) (Packets h a) whole.place
      (λ k p lt at. let o = packet_back h a k p at in ap (λ (q : Packet). nat_lt q.begin.tick t) (sym o.2) ∙ is_lt o.0.tick t (whole.early k o.0 lt o.1))
      (λ k p le at. let o = packet_back h a k p at in ap (λ (q : Packet). nat_lt q.begin.tick t) (sym o.2) ∙ no_lt o.0.tick t (whole.late k o.0 le (within (Begins h a) k o.0 o.1) o.1)))

  pub interruption : IsRouted w → (left : Rest) → Interrupted w h a t left → IsLeft w h a t left
  interruption routed left (first, more, run, ended, cut, is) = go (state w routed n h legal a a_lt whole.place whole.within)
    where
      d : Begin
      d = record { tick = t; arc = a; ord = 0; kind = kind.Continue left.frame_count left.fragment_count; what = what.Frame (record { 0 = left.frame }); from = left.from }

      found : (k : ℕ) (b : Begin) (r : Run w routed n h legal a a_lt whole.place k b) → Continues w routed n h legal a a_lt whole.place k b d r → IsLeft w h a t left
      found k b r c =
          let number : left.frame ≡ r.frame.0 = cc c.carries in
          record {
            place = k;
            last = b;
            ended = c.ended;
            begun = r.begun;
            over = c.over;
            before = whole.early k b r.below r.begun;
            by = c.by;
            fragment = r.fragment;
            carries = r.carries ∙ ap (λ x. what.Frame (record { 0 = x })) (sym number);
            none_since = λ j z after at early. elim (cases_lt j whole.place) [
              | inl lt ↦ r.none_since j z after lt at
              | inr from ↦ absurd (let late = whole.late j z from (within (Begins h a) j z at) at in omega (arith, late, early))
            ];
            from = c.from;
            least = c.least;
            more = subst (λ x. left.from + 64 ≤ length (FrameOf w x)) (sym number) c.left;
          }

      go : State w routed n h legal a a_lt whole.place → IsLeft w h a t left
      go (inl none) = absurd (let empty = sym none ∙ (sym last_run ∙ run) in cc empty)
      go (inr (k, b, r)) = found k b r (rest_continues w routed n h legal a a_lt whole.place k b d r last_run left (first, more, run, ended, cut, is) refl)
