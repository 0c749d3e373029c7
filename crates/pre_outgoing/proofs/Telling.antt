-- A tick is settled once it was told where an express frame waits.
use Rattle.std.proofs.Common.{ℕ, zero, suc, ◌≡◌, ◌⊎◌, ◌+◌, ◌-◌, ◌*◌, ◌<◌, ◌≤◌, true, false, List, []}
use Rattle.std.proofs.Common.{◌∷◌, ◌++◌, length, refl, sym, ◌∙◌, ap, inl, inr, arith, subst, Option, Some, None}
use Rattle.std.specs.Prelude.{slice_get, ◌↔◌}
use Rattle.std.proofs.Math.Nat.{not-le_of_lt}
use Rattle.std.proofs.lemmas.Bool.{cases_lt}
use Rattle.std.proofs.lemmas.List.{length-append}
use Rattle.std.proofs.lemmas.List.Sums.{fold-append}
use Rattle.pre_mpacket.proofs.CutSizes.{cut_some}
use Rattle.pre_send.specs.Calls.{Call, Chosen, express, whole, first, rest, verify, respond, lldp, waited, End, Told, waits_from, tells, told_by}
use Rattle.pre_send.specs.Sendings.{Sending, Waits, IsCut, Follows, IsSending}
use Rattle.pre_history.specs.Scenario.{Scenario, arc}
use Rattle.pre_history.specs.History.{History, Begin, Ended}
use Rattle.pre_history.specs.Queries.{Begins, Ends}
use Rattle.pre_history.specs.Starts.{ExpressWaits}
use Rattle.pre_history.specs.Ordered.{IsOrdered}
use Rattle.pre_history.specs.Legal.{LegalUpTo}
use Rattle.pre_history.specs.Placed.{number}
use Rattle.pre_history.proofs.Lists.{at_last, there, within, every_placed}
use Rattle.pre_history.proofs.InOrder.{steady}
use Rattle.pre_outgoing.specs.Matching.{EndsFit, Agree, WaitsAgree, Matches}
use Rattle.pre_outgoing.proofs.Waitings.{waits_on, waited_before}
use Rattle.pre_outgoing.proofs.Agreeing.{begun_early}
use Rattle.pre_outgoing.proofs.Stepping.{entered_by}

-- ---- the newest mPacket began last

less_or_same : (i j : ℕ) → i < suc j → (i < j) ⊎ (i ≡ j)
less_or_same i j lt = grind arith

begins_rise : (w : Scenario) (h : History) (a : ℕ) → IsOrdered w h a → (i j : ℕ) (b c : Begin) → i < j → slice_get (Begins h a) i ≡ Some b → slice_get (Begins h a) j ≡ Some c → b.tick ≤ c.tick
begins_rise w h a o i zero b c lt at at' = absurd (omega (arith, lt))
begins_rise w h a o i (suc j) b c lt at at' =
    let in_j : suc j < length (Begins h a) = within (Begins h a) (suc j) c at' in
    let d = there (Begins h a) j (omega (arith, in_j)) in
    let e = there (Ends h a) j (omega (arith, in_j, o.few_open)) in
    let span : e.0.tick ≡ d.0.tick + (arc w a).cost * (e.0.size + 8) = o.spans j d.0 e.0 d.1 e.1 in
    let gap : e.0.tick + 12 * (arc w a).cost ≤ c.tick = o.apart j e.0 c e.1 at' in
    let step : d.0.tick ≤ c.tick = omega (arith, span, gap) in
    elim (less_or_same i j lt) [
      | inl less ↦ let before : b.tick ≤ d.0.tick = begins_rise w h a o i j b d.0 less at d.1 in omega (arith, before, step)
      | inr same ↦ let is : b ≡ d.0 = cc (at, d.1, same) in subst (λ (x : Begin). x.tick ≤ c.tick) (sym is) step
    ]

newest_last : (w : Scenario) (h : History) (a : ℕ) → IsOrdered w h a → (p : Sending) (older : List Sending) → Agree w (p ∷ older) (Begins h a) (Ends h a)
    → (i : ℕ) (b : Begin) → slice_get (Begins h a) i ≡ Some b → b.tick ≤ p.told.began
newest_last w h a o p older (front, c, before, bs_is, ends, same_length, fits, others) i b at =
    let here : slice_get (Begins h a) (length front) ≡ Some c = ap (λ xs. slice_get xs (length front)) bs_is ∙ at_last front c in
    let lt : i < length (Begins h a) = within (Begins h a) i b at in
    elim (less_or_same i (length front) (omega (arith, lt, ap length bs_is, length-append front (c ∷ [])))) [
      | inl less ↦ let le : b.tick ≤ c.tick = begins_rise w h a o i (length front) b c less at here in omega (arith, le, fits.began)
      | inr same ↦ let is : b ≡ c = cc (at, here, same) in let le : c.tick ≤ p.told.began = omega (arith, fits.began) in subst (λ (x : Begin). x.tick ≤ p.told.began) (sym is) le
    ]

-- ---- what was told anew

abbrev waits_told : Told → ℕ → Told
waits_told p t = record p { waits = waits_from t p.end p.waits }

abbrev retold : Sending → Told → ℕ → Sending
retold p told size = record { told = told; kind = p.kind; from = p.from; size = size }

-- the waits are decided
waits_decided : (v : Option ℕ) (t : ℕ) → Waits v t ⊎ ¬ Waits v t
waits_decided None t = inr (λ x. x)
waits_decided (Some s) t = elim (cases_lt t s) [ inl lt ↦ inr (not-le_of_lt lt) | inr le ↦ inl le ]

module _ (cost add_frag t : ℕ) (p : Sending) (older : List Sending) where
  abbrev Retold : Type 0
  Retold = (size : ℕ) × Follows cost add_frag p.told.chosen older (retold p (waits_told p.told t) size) × ((p.told.end ≡ None) ⊎ (size ≡ p.size))

  -- a fragment under way has a new size
  anew : (ch : Chosen) → p.told.end ≡ None → Follows cost add_frag ch older p
      → (size : ℕ) × Follows cost add_frag ch older (retold p (waits_told p.told t) size) × ((p.told.end ≡ None) ⊎ (size ≡ p.size))
  anew (express f) none h = (p.size, h, inl none)
  anew (whole f) none h = (p.size, h, inl none)
  anew verify none h = (p.size, h, inl none)
  anew respond none h = (p.size, h, inl none)
  anew lldp none h = (p.size, h, inl none)
  anew (first f) none (kind_is, from, cut) =
      let v = waits_from t p.told.end p.told.waits in
      let size = cut_some (Waits v) (waits_decided v) (record { tick = p.told.began; octet_ticks = cost; add_frag = add_frag; unsent = f.size }) in
      (size.0, (kind_is, from, size.1), inl none)
  anew rest none (x, is, kind_is, from, cut) =
      let v = waits_from t p.told.end p.told.waits in
      let size = cut_some (Waits v) (waits_decided v) (record { tick = p.told.began; octet_ticks = cost; add_frag = add_frag; unsent = x.frame.size - x.place }) in
      (size.0, (x, is, kind_is, from, size.1), inl none)

  -- one that has ended is as it was
  as_was : (ch : Chosen) (end : End) → p.told.end ≡ Some end → Follows cost add_frag ch older p
      → (size : ℕ) × Follows cost add_frag ch older (retold p (waits_told p.told t) size) × ((p.told.end ≡ None) ⊎ (size ≡ p.size))
  as_was (express f) end is h = (p.size, h, inr refl)
  as_was (whole f) end is h = (p.size, h, inr refl)
  as_was verify end is h = (p.size, h, inr refl)
  as_was respond end is h = (p.size, h, inr refl)
  as_was lldp end is h = (p.size, h, inr refl)
  as_was (first f) end is (kind_is, from, cut) =
      let same : waits_from t p.told.end p.told.waits ≡ p.told.waits = ap (λ o. waits_from t o p.told.waits) is in
      (p.size, (kind_is, from, subst (λ v. IsCut cost add_frag (record p.told { waits = v }) f.size p.size) (sym same) cut), inr refl)
  as_was rest end is (x, found, kind_is, from, cut) =
      let same : waits_from t p.told.end p.told.waits ≡ p.told.waits = ap (λ o. waits_from t o p.told.waits) is in
      (p.size, (x, found, kind_is, from, subst (λ v. IsCut cost add_frag (record p.told { waits = v }) (x.frame.size - x.place) p.size) (sym same) cut), inr refl)

  retell : (o : Option End) → p.told.end ≡ o → Follows cost add_frag p.told.chosen older p → Retold
  retell None is h = anew p.told.chosen is h
  retell (Some end) is h = as_was p.told.chosen end is h

retold_agrees : (w : Scenario) (t size : ℕ) (p : Sending) (older : List Sending) (bs : List Begin) (es : List Ended) → (p.told.end ≡ None) ⊎ (size ≡ p.size)
    → Agree w (p ∷ older) bs es → Agree w (retold p (waits_told p.told t) size ∷ older) bs es
retold_agrees w t size p older bs es same (front, b, before, bs_is, ends, same_length, fits, others) = (
  front,
  b,
  before,
  bs_is,
  go p.told.end refl ends,
  same_length,
  record { began = fits.began; kind = fits.kind; from = fits.from; carries = fits.carries; sized = fits.sized },
  others,
)
  where
    size_same : (end : End) → p.told.end ≡ Some end → (p.told.end ≡ None) ⊎ (size ≡ p.size) → size ≡ p.size
    size_same end is (inl none) = absurd (cc (is, none))
    size_same end is (inr same) = same

    go : (o : Option End) → p.told.end ≡ o → EndsFit w p older o before es
        → EndsFit w (record p { told = record p.told { waits = waits_from t p.told.end p.told.waits }; size = size }) older o before es
    go None is fit = fit
    go (Some end) is (e, es_is, tick, size_is, stored) = (e, es_is, tick, size_is ∙ sym (size_same end is same), stored)

-- ---- a tick at which an express frame waits, and one at which none does

module _ (w : Scenario) (past : History) (t a : ℕ) (a_lt : a < length w.net.arcs) (legal : LegalUpTo w (number (length w.net.arcs) t (2 + 3 * length w.net.arcs + a)) past) where
  ordered : IsOrdered w past a
  ordered = (steady w (number (length w.net.arcs) t (2 + 3 * length w.net.arcs + a)) past a a_lt legal).ordered

  -- it goes on waiting
  on_from : (s u : ℕ) → s ≤ u → ((i : ℕ) (b : Begin) → slice_get (Begins past a) i ≡ Some b → b.tick < s) → ExpressWaits w past a s → ExpressWaits w past a u
  on_from s u le early waits = waits_on w past a s u le (every_placed (λ (b : Begin). b.tick < u → b.tick < s) (Begins past a) (λ i b at lt. early i b at)) waits

  module _ (p : Sending) (older : List Sending) (agree : Agree w (p ∷ older) (Begins past a) (Ends past a)) (began : p.told.began < t) where
    -- told now, or told before
    told_now : (v : Option ℕ) → ((s : ℕ) → v ≡ Some s → (p.told.began < s) × (s < t)) → ((u : ℕ) → p.told.began < u → u < t → ExpressWaits w past a u ↔ Waits v u) → ExpressWaits w past a t
        → ((s : ℕ) → waits_from t None v ≡ Some s → (p.told.began < s) × (s < t + 1)) × ((u : ℕ) → p.told.began < u → ExpressWaits w past a u ↔ Waits (waits_from t None v) u)
    told_now None by known now = (
      λ s is. let same : t ≡ s = cc is in (omega (arith, began, same), omega (arith, same)),
      λ u lt. (
        λ x. elim (cases_lt u t) [ inr le ↦ le | inl early ↦ absurd ((known u lt early).0 x) ],
        λ le. on_from t u le (begun_early w past t a legal) now,
      ),
    )
    told_now (Some s) by known now = (
      λ r is. let b = by r is in (b.0, omega (arith, b.1)),
      λ u lt. elim (cases_lt u t) [
        | inl early ↦ known u lt early
        | inr le ↦ (λ x. let b = by s refl in omega (arith, b.1, le), λ x. on_from t u le (begun_early w past t a legal) now)
      ],
    )

    told_none : (v : Option ℕ) → ((s : ℕ) → v ≡ Some s → (p.told.began < s) × (s < t)) → ((u : ℕ) → p.told.began < u → u < t → ExpressWaits w past a u ↔ Waits v u) → ¬ ExpressWaits w past a t
        → (u : ℕ) → p.told.began < u → ExpressWaits w past a u ↔ Waits v u
    told_none None by known none u lt = elim (cases_lt u t) [
      | inl early ↦ known u lt early
      | inr le ↦ (λ x. none (waited_before w past a t u le (λ q i e at. entered_by w past t a a_lt legal q i e at) x), λ never. absurd never)
    ]
    told_none (Some s) by known none u lt =
        let b = by s refl in
        let there' : ExpressWaits w past a s = (known s b.0 b.1).1 (omega arith) in
        absurd (none (on_from s t (omega (arith, b.1)) (λ i c at. let le : c.tick ≤ p.told.began = newest_last w past a ordered p older agree i c at in omega (arith, le, b.0)) there'))

  untold_all : (packets : List Sending) → Agree w packets (Begins past a) (Ends past a) → WaitsAgree w past a t false packets → ¬ ExpressWaits w past a t → WaitsAgree w past a (t + 1) true packets
  untold_all [] agree waits none = tt
  untold_all (p ∷ older) agree waits none = λ under_way part.
      let k = waits under_way part in (
        λ s is. let b = k.0 s is in (b.0, omega (arith, b.1)),
        λ u lt known. told_none p older agree (newest_early p older agree) p.told.waits k.0 k.1 none u lt,
      )
    where
      newest_early : (p : Sending) (older : List Sending) → Agree w (p ∷ older) (Begins past a) (Ends past a) → p.told.began < t
      newest_early p older (front, c, before, bs_is, ends, same_length, fits, others) =
          let lt : c.tick < t = begun_early w past t a legal (length front) c (ap (λ xs. slice_get xs (length front)) bs_is ∙ at_last front c) in omega (arith, lt, fits.began)

  pub untold : (calls : List Call) → Matches w past a t false calls → ¬ ExpressWaits w past a t → Matches w past a (t + 1) true calls
  untold calls m none = record { packets = m.packets; sending = m.sending; agree = m.agree; waits = untold_all m.packets m.agree m.waits none }

  pub told : (calls : List Call) → Matches w past a t false calls → ExpressWaits w past a t → Matches w past a (t + 1) true (calls ++ waited t ∷ [])
  told calls m now = go m.packets m.sending m.agree m.waits
    where
      push : told_by (calls ++ waited t ∷ []) ≡ tells (told_by calls) (waited t)
      push = fold-append tells [] calls (waited t ∷ [])

      newest_early : (p : Sending) (older : List Sending) → Agree w (p ∷ older) (Begins past a) (Ends past a) → p.told.began < t
      newest_early p older (front, c, before, bs_is, ends, same_length, fits, others) =
          let lt : c.tick < t = begun_early w past t a legal (length front) c (ap (λ xs. slice_get xs (length front)) bs_is ∙ at_last front c) in omega (arith, lt, fits.began)

      go : (packets : List Sending) → IsSending (arc w a).cost (arc w a).add_frag calls packets → Agree w packets (Begins past a) (Ends past a) → WaitsAgree w past a t false packets
          → Matches w past a (t + 1) true (calls ++ waited t ∷ [])
      go [] sending agree waits = record {
        packets = [];
        sending = record { told = push ∙ ap (λ (l : List Told). tells l (waited t)) sending.told; sent = tt };
        agree = agree;
        waits = tt;
      }
      go (p ∷ older) sending agree waits =
          let r = retell (arc w a).cost (arc w a).add_frag t p older p.told.end refl sending.sent.0 in
          record {
            packets = retold p (waits_told p.told t) r.0 ∷ older;
            sending = record { told = push ∙ ap (λ (l : List Told). tells l (waited t)) sending.told; sent = (r.1, sending.sent.1) };
            agree = retold_agrees w t r.0 p older (Begins past a) (Ends past a) r.2 agree;
            waits = λ under_way part.
                let k = waits under_way part in
                let n = told_now p older agree (newest_early p older agree) p.told.waits k.0 k.1 now in (
                  λ s is. n.0 s (sym (ap (λ o. waits_from t o p.told.waits) under_way) ∙ is),
                  λ u lt known. subst (λ o. ExpressWaits w past a u ↔ Waits (waits_from t o p.told.waits) u) (sym under_way) (n.1 u lt),
                );
          }
