-- What a sender's fields tell of its calls.
use Rattle.std.proofs.Common.{ℕ, ◌≡◌, ◌⊎◌, ◌≤◌, ◌+◌, ◌*◌, List, [], ◌∷◌, map, sym, ◌∙◌, ap, subst, arith, inl, inr, Option, Some, None, true}
use Rattle.std.specs.Prelude.{nat_le}
use Rattle.std.proofs.lemmas.Bool.{leb-true, le-leb}
use Rattle.pre_base.specs.declared.numbers.Tick.{Tick}
use Rattle.pre_send.specs.declared.pieces.Piece.{Piece}
use Rattle.pre_send.specs.declared.going.Going.{Going}
use Rattle.pre_send.specs.Calls.{Told, End}
use Rattle.pre_send.specs.Sendings.{Sending, HasGap, IsFree}
use Rattle.pre_send.specs.Answers.{IsUnderWay, IsFreeAt}
use Rattle.pre_send.specs.Senders.{IsAt, is_gone, is_free_with}

-- an arc that is free stays so with no call
pub free_later : (cost : ℕ) (told : List Told) (t u : ℕ) → t ≤ u → IsFree cost told t → IsFree cost told u
free_later cost [] t u le h = tt
free_later cost (p ∷ older) t u le h = (gap p.end h.0, free_later cost older t u le h.1)
  where
    gap : (e : Option End) → HasGap cost e t → HasGap cost e u
    gap None g = g
    gap (Some e) g = omega (arith, g, le)

gap_of : (cost : ℕ) (e : Option End) (end : End) (t : ℕ) → e ≡ Some end → HasGap cost e t → end.tick + 12 * cost ≤ t
gap_of cost e end t is h = let g : HasGap cost (Some end) t = subst (λ (o : Option End). HasGap cost o t) is h in g

of_gap : (cost : ℕ) (e : Option End) (end : End) (t : ℕ) → e ≡ Some end → end.tick + 12 * cost ≤ t → HasGap cost e t
of_gap cost e end t is h = subst (λ (o : Option End). HasGap cost o t) (sym is) h

busy : (cost : ℕ) (e : Option End) (t : ℕ) → e ≡ None → ¬ HasGap cost e t
busy cost e t is h = let g : HasGap cost None t = subst (λ (o : Option End). HasGap cost o t) is h in g

-- free, by what the fields tell
pub free_is : (cost : ℕ) (going : Option Going) (kept : Option Piece) (last : Option ℕ) (packets : List Sending) (t : ℕ) → IsAt cost going kept last packets
    → (is_free_with going cost last t ≡ true → IsFree cost (map (λ p. p.told) packets) t) × (IsFree cost (map (λ p. p.told) packets) t → is_free_with going cost last t ≡ true)
free_is cost None kept last [] t at = (λ h. tt, λ h. ap (λ (o : Option ℕ). is_gone cost o t) at.1)
free_is cost None kept last (p ∷ older) t (end, ended, last_is, keeps, older_free, before) = (
  λ h.
      let gone : nat_le (end.tick + 12 * cost) t ≡ true = sym (ap (λ (o : Option ℕ). is_gone cost o t) last_is) ∙ h in
      let le : end.tick + 12 * cost ≤ t = leb-true (end.tick + 12 * cost) t gone in
      (of_gap cost p.told.end end t ended le, free_later cost (map (λ q. q.told) older) p.told.began t (omega (arith, before, le)) older_free),
  λ h. ap (λ (o : Option ℕ). is_gone cost o t) last_is ∙ le-leb (end.tick + 12 * cost) t (gap_of cost p.told.end end t ended h.0),
)
free_is cost (Some g) kept last [] t at = absurd at
free_is cost (Some g) kept last (p ∷ older) t at = (λ h. absurd (cc h), λ h. absurd (busy cost p.told.end t at.0 h.0))

pub under_way : (cost : ℕ) (g : Going) (kept : Option Piece) (last : Option ℕ) (packets : List Sending) → IsAt cost (Some g) kept last packets → IsUnderWay (map (λ p. p.told) packets)
under_way cost g kept last [] at = at
under_way cost g kept last (p ∷ older) at = at.0

-- the least tick at which it is free
pub free_from : (cost : ℕ) (kept : Option Piece) (last : Option ℕ) (packets : List Sending) (t : Tick) → IsAt cost None kept last packets
    → ((u : ℕ) → (is_gone cost last u ≡ true → t.0 ≤ u) × (t.0 ≤ u → is_gone cost last u ≡ true)) → IsFreeAt cost (map (λ p. p.told) packets) (Some t)
free_from cost kept last packets t at from = (
  (free_is cost None kept last packets t.0 at).0 ((from t.0).1 (omega arith)),
  λ u free. (from u).0 ((free_is cost None kept last packets u at).1 free),
)

pub gone_from : (cost : ℕ) (last : Option ℕ) (t : ℕ) → ((last ≡ None) × (t ≡ 0)) ⊎ ((e : ℕ) × (last ≡ Some e) × (t ≡ e + 12 * cost)) → (u : ℕ) → (is_gone cost last u ≡ true → t ≤ u)
    × (t ≤ u → is_gone cost last u ≡ true)
gone_from cost last t (inl (none, is)) u = (λ h. omega (arith, is), λ h. ap (λ (o : Option ℕ). is_gone cost o u) none)
gone_from cost last t (inr (e, some, is)) u = (
  λ h. let gone : nat_le (e + 12 * cost) u ≡ true = sym (ap (λ (o : Option ℕ). is_gone cost o u) some) ∙ h in omega (arith, is, leb-true (e + 12 * cost) u gone),
  λ h. ap (λ (o : Option ℕ). is_gone cost o u) some ∙ le-leb (e + 12 * cost) u (omega (arith, is, h)),
)
