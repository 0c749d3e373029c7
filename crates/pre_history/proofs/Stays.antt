-- Later events leave the octets of an mPacket and its size as they are.
use Rattle.std.proofs.Common.{ℕ, suc, ◌≡◌, ◌==◌, ◌&&◌, ◌+◌, ◌-◌, ◌*◌, ◌<◌, ◌≤◌, nat_le, Bool, false, List}
use Rattle.std.proofs.Common.{◌++◌, length, refl, sym, ◌∙◌, ap, inl, inr, arith, Some, None, filter_map, take}
use Rattle.std.specs.Prelude.{if◌then◌else◌, unwrap_or}
use Rattle.std.specs.List.{AllByRecursion as Every}
use Rattle.std.proofs.Math.Nat.{mul-le-mul_left}
use Rattle.std.proofs.lemmas.Bool.{cases_lt}
use Rattle.std.proofs.lemmas.List.Elements.{filter_map-append}
use Rattle.pre_mpacket.specs.declared.packets.Kind.{Kind}
use Rattle.pre_mpacket.specs.declared.packets.Kind.TheVariants as kind
use Rattle.pre_mpacket.specs.Pieces.{Begun, CutRule}
use Rattle.pre_history.specs.declared.events.What.{What}
use Rattle.pre_history.specs.declared.events.What.TheVariants as what
use Rattle.pre_history.specs.Scenario.{Scenario, arc}
use Rattle.pre_history.specs.History.{PlainEvent, History, Begin}
use Rattle.pre_history.specs.Selected.{active_on}
use Rattle.pre_history.specs.Queries.{Waiting}
use Rattle.pre_history.specs.Octets.{ToldActive, WholeOf, whole_of, AdvertAt}
use Rattle.pre_lldp.specs.LldpLayout.{lldp_frame}
use Rattle.pre_history.specs.Starts.{ExpressWaits, begun, SizeOf}
use Rattle.pre_crc.specs.Checks.{Mcrc}
use Rattle.pre_history.specs.Rules.{CheckOf, last_four}
use Rattle.pre_history.proofs.IsLater.{IsLater, AllLater}
use Rattle.pre_history.proofs.Lists.{every_weaker, none_selected, no_append}
use Rattle.pre_history.proofs.Later.{waiting_later}
use Rattle.pre_base.specs.Last.{last}
use Rattle.pre_history.proofs.NatTests.{and_false, not_by}

untold : (a t : ℕ) (e : PlainEvent) → IsLater (suc t) e → active_on a t e ≡ None
untold a t (PlainEvent.active s b v) later =
    let no : nat_le s t ≡ false = not_by s t (omega (arith, later)) in
    ap (λ (x : Bool). if x then Some v else None) (ap (λ x. (b == a) && x) no ∙ and_false (b == a))
untold a t (PlainEvent.set s b v) later = refl
untold a t (PlainEvent.begin b) later = refl
untold a t (PlainEvent.ended e) later = refl
untold a t (PlainEvent.arrive x) later = refl
untold a t (PlainEvent.deliver d) later = refl
untold a t (PlainEvent.enter e) later = refl
untold a t (PlainEvent.dropped e) later = refl
untold a t (PlainEvent.count b c) later = refl
untold a t (PlainEvent.end e) later = refl

-- where no `active` event of the arc up to the tick is added
pub told_same : (w : Scenario) (h es : History) (a t : ℕ) → Every (λ e. active_on a t e ≡ None) es → ToldActive w (h ++ es) a t ≡ ToldActive w h a t
told_same w h es a t none =
    ap (λ (xs : List Bool). unwrap_or (last xs) false) (filter_map-append (active_on a t) h es ∙ no_append (filter_map (active_on a t) h) (filter_map (active_on a t) es) (none_selected (active_on a t) es none))

pub told_later : (w : Scenario) (h es : History) (a t : ℕ) → AllLater (suc t) es → ToldActive w (h ++ es) a t ≡ ToldActive w h a t
told_later w h es a t later = told_same w h es a t (every_weaker (IsLater (suc t)) (λ e. active_on a t e ≡ None) (untold a t) es later)

whole_like : (w : Scenario) (h es : History) (b : Begin) (x : What) → ToldActive w (h ++ es) b.arc b.tick ≡ ToldActive w h b.arc b.tick → whole_of w (h ++ es) b x ≡ whole_of w h b x
whole_like w h es b (what.Frame f) told = refl
whole_like w h es b what.Nothing told = refl
whole_like w h es b what.Lldp told = ap (λ (v : Bool). lldp_frame (arc w b.arc).from.0 b.arc (record (AdvertAt w h b.arc b.tick) { active = v })) told

-- what an mPacket carries depends on no more of later events than what they tell of its tick
pub whole_told : (w : Scenario) (h es : History) (b : Begin) → ToldActive w (h ++ es) b.arc b.tick ≡ ToldActive w h b.arc b.tick → WholeOf w (h ++ es) b ≡ WholeOf w h b
whole_told w h es b told = whole_like w h es b b.what told

pub whole_later : (w : Scenario) (h es : History) (b : Begin) → AllLater (suc b.tick) es → WholeOf w (h ++ es) b ≡ WholeOf w h b
whole_later w h es b later = whole_told w h es b (told_later w h es b.arc b.tick later)

-- so its check stays
pub check_later : (w : Scenario) (h es : History) (b : Begin) (size : ℕ) → AllLater (suc b.tick) es → CheckOf w (h ++ es) b size ≡ CheckOf w h b size
check_later w h es b size later =
    ap (λ (xs : List ℕ). if b.from + size == length xs then last_four xs else Mcrc (take (b.from + size - 4) xs)) (whole_later w h es b later)

-- a size that fits what waits up to the end fits what waits as seen later
pub cut_like : (W V : ℕ → Type 0) (b : Begun) (size : ℕ) → 1 ≤ b.octet_ticks
    → ((t : ℕ) → t < b.tick + b.octet_ticks * (size + 8) → W t → V t) → ((t : ℕ) → t < b.tick + b.octet_ticks * (size + 8) → V t → W t)
    → CutRule W b size → CutRule V b size
cut_like W V b size some to from (inl (d, (long, left, waits), least, is)) =
    let reach : b.octet_ticks * (1 + (8 + d)) ≤ b.octet_ticks * (size + 8) = mul-le-mul_left b.octet_ticks (omega (arith, is)) in
    let now : b.tick + b.octet_ticks * (8 + d) < b.tick + b.octet_ticks * (size + 8) = omega (arith, reach, some) in
    inl (
      d,
      (long, left, to (b.tick + b.octet_ticks * (8 + d)) now waits),
      (λ e cut. elim (cases_lt e d) [
        | inr le ↦ le
        | inl lt ↦
            let reach' : b.octet_ticks * (8 + e) ≤ b.octet_ticks * (8 + d) = mul-le-mul_left b.octet_ticks (omega (arith, lt)) in
            least e (cut.0, cut.1, from (b.tick + b.octet_ticks * (8 + e)) (omega (arith, reach', now)) cut.2)
      ]),
      is,
    )
cut_like W V b size some to from (inr (none, is)) =
    inr (
      (λ e cut.
          let reach : b.octet_ticks * (1 + (8 + e)) ≤ b.octet_ticks * (size + 8) = mul-le-mul_left b.octet_ticks (omega (arith, is, cut.1)) in
          none e (cut.0, cut.1, from (b.tick + b.octet_ticks * (8 + e)) (omega (arith, reach, some)) cut.2)),
      is,
    )

pub waits_like : (w : Scenario) (g h : History) (a t : ℕ) → ((p : ℕ) → Waiting g a p t ≡ Waiting h a p t) → ExpressWaits w g a t → ExpressWaits w h a t
waits_like w g h a t same (p, from, to, some) = (p, from, to, λ none. some (same p ∙ none))

-- Events after an mPacket's end leave its size as it is.
pub size_later : (w : Scenario) (h es : History) (k : Kind) (b : Begin) (size : ℕ) → 1 ≤ (arc w b.arc).cost
    → ((t : ℕ) → t < b.tick + (arc w b.arc).cost * (size + 8) → AllLater t es) → SizeOf w h k b size → SizeOf w (h ++ es) k b size
size_later w h es k b size some later sized = go k sized
  where
    reach : (arc w b.arc).cost * 8 ≤ (arc w b.arc).cost * (size + 8)
    reach = mul-le-mul_left (arc w b.arc).cost (omega arith)

    whole : WholeOf w (h ++ es) b ≡ WholeOf w h b
    whole = whole_later w h es b (later (suc b.tick) (omega (arith, reach, some)))

    cut : CutRule (ExpressWaits w h b.arc) (begun w h b) size → CutRule (ExpressWaits w (h ++ es) b.arc) (begun w h b) size
    cut rule =
        cut_like (ExpressWaits w h b.arc) (ExpressWaits w (h ++ es) b.arc) (begun w h b) size some
        (λ t lt. waits_like w h (h ++ es) b.arc t (λ p. sym (waiting_later h es b.arc p t (later t lt))))
        (λ t lt. waits_like w (h ++ es) h b.arc t (λ p. waiting_later h es b.arc p t (later t lt))) rule

    go : (k : Kind) → SizeOf w h k b size → SizeOf w (h ++ es) k b size
    go (kind.Start c) rule = cut rule
    go (kind.Continue c n) rule = cut rule
    go kind.Express is = is ∙ ap length (sym whole)
    go kind.Verify is = is ∙ ap length (sym whole)
    go kind.Respond is = is ∙ ap length (sym whole)
