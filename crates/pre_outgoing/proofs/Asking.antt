-- The answers of a sending end, by the history that it stands for.
use Rattle.std.proofs.Common.{ℕ, ◌≡◌, ◌≢◌, ◌+◌, ◌*◌, ◌<◌, Bool, true, false, ◌==◌, inl, inr, [], length, refl, sym, ◌∙◌, ap, Option, Some, None}
use Rattle.std.specs.Prelude.{◌↔◌, option_map}
use Rattle.std.proofs.lemmas.Bool.Decides.{eqb_tells}
use Rattle.pre_base.specs.declared.numbers.Tick.{Tick}
use Rattle.pre_send.specs.Endings.{plans_end}
use Rattle.pre_send.specs.Senders.{is_free, is_interrupted}
use Rattle.pre_history.specs.Scenario.{Scenario, arc}
use Rattle.pre_history.specs.History.{History}
use Rattle.pre_history.specs.Moments.{Phase}
use Rattle.pre_history.specs.Queries.{Occupied}
use Rattle.pre_history.specs.Rules.{HappensIn}
use Rattle.pre_history.specs.Starts.{Choice as Start, Item, There, rest_begins}
use Rattle.pre_history.specs.Legal.{LegalUpTo}
use Rattle.pre_history.specs.Placed.{number}
use Rattle.pre_outgoing.specs.declared.outgoing.Outgoing.{Outgoing}
use Rattle.pre_outgoing.specs.Sends.{Sends}
use Rattle.pre_outgoing.proofs.Agreeing.{gaps}
use Rattle.pre_outgoing.proofs.Happening.{nothing_ends, rests}
use Rattle.pre_outgoing.proofs.Fields.{free_of, planned_of, tick_of}

module _ (w : Scenario) (past : History) (t a now : ℕ) (settled : Bool) (o : Outgoing) (a_lt : a < length w.net.arcs)
    (legal : LegalUpTo w (number (length w.net.arcs) t (2 + 3 * length w.net.arcs + a)) past) (sends : Sends w past a now settled o) where
  pub free_agrees : (is_free o.sender t ≡ true) ↔ (¬ Occupied w past a t)
  free_agrees =
      let own = free_of o.sender (arc w a).cost (arc w a).add_frag t sends.calls sends.stands in
      let past' = gaps w past t a now settled sends.calls a_lt legal sends.matches in
      (λ x. past'.0 (own.0 x), λ x. own.1 (past'.1 x))

  pub rest_agrees : is_free o.sender t ≡ true → (is_interrupted o.sender ≡ true) ↔ ((c : Start) × There w past a t Item.rest c)
  rest_agrees free =
      let k = rests w past t a now settled sends.calls o.sender a_lt legal sends.matches sends.stands free in (
        λ x. let r = k.0 x in (rest_begins r.0, (r.0, r.1, refl)),
        λ x. k.1 (x.1.0, x.1.1),
      )

pub ends_agree : (w : Scenario) (past : History) (t a : ℕ) (o : Outgoing) → a < length w.net.arcs → LegalUpTo w (number (length w.net.arcs) t (1 + a)) past → Sends w past a t true o
    → plans_end o.sender ≢ Some t → HappensIn w past t (Phase.ends a) []
ends_agree w past t a o a_lt legal sends other =
    nothing_ends w past t a true sends.calls a_lt legal sends.matches (option_map tick_of (plans_end o.sender))
    (planned_of o.sender (arc w a).cost (arc w a).add_frag sends.calls sends.stands) (λ is. other (by_plan (plans_end o.sender) is))
  where
    by_plan : (p : Option ℕ) → option_map tick_of p ≡ Some (tick_of t) → p ≡ Some t
    by_plan None is = absurd (cc is)
    by_plan (Some u) is = let same : tick_of u ≡ tick_of t = cc is in ap (λ (x : Tick). Some x.0) same

-- what ends at another tick doesn't end at this one
pub no_end : (o : Outgoing) (at : Option Tick) (due t : ℕ) → option_map (λ (x : Tick). x.0) at ≡ plans_end o.sender → at ≡ Some (tick_of due) → (due == t) ≡ false → plans_end o.sender ≢ Some t
no_end o at due t plans is other now =
    let some : Some due ≡ Some t = sym (ap (option_map (λ (x : Tick). x.0)) is) ∙ (plans ∙ now) in
    let same : due ≡ t = cc some in
    elim (eqb_tells due t) [ inl yes' ↦ absurd (cc (yes'.0, other)) | inr no' ↦ absurd (no'.1 same) ]

pub never_ends : (o : Outgoing) (at : Option Tick) (t : ℕ) → option_map (λ (x : Tick). x.0) at ≡ plans_end o.sender → at ≡ None → plans_end o.sender ≢ Some t
never_ends o at t plans is now =
    let none : None ≡ Some t = sym (ap (option_map (λ (x : Tick). x.0)) is) ∙ (plans ∙ now) in absurd (cc none)
