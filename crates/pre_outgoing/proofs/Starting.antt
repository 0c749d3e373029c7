-- The mPacket that a sender was told to begin, and those before it.
use Rattle.std.proofs.Common.{ℕ, ◌≡◌, List, [], ◌∷◌, ◌++◌, sym, ◌∙◌, ap, None, map}
use Rattle.std.proofs.lemmas.List.Sums.{fold-append}
use Rattle.pre_send.specs.Calls.{Call, Chosen, begun, Told, tells, told_by}
use Rattle.pre_send.specs.Sendings.{Sending, IsSending}

module _ (cost add_frag t : ℕ) (calls : List Call) (ch : Chosen) (p : Sending) (older : List Sending) (sending : IsSending cost add_frag (calls ++ begun t ch ∷ []) (p ∷ older)) where
  told_is : record { began = t; chosen = ch; waits = None; end = None } ∷ told_by calls ≡ p.told ∷ map (λ q. q.told) older
  told_is = sym (fold-append tells [] calls (begun t ch ∷ [])) ∙ sending.told

  pub chosen_is : p.told.chosen ≡ ch
  chosen_is = let one : record { began = t; chosen = ch; waits = None; end = None } ≡ p.told = cc told_is in ap (λ (x : Told). x.chosen) (sym one)

  pub before_it : IsSending cost add_frag calls older
  before_it = let rest' : told_by calls ≡ map (λ q. q.told) older = cc told_is in record { told = rest'; sent = sending.sent.1 }
