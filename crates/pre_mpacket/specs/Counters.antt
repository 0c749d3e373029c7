-- The counters of a receiver as counts of arrivals (IEEE 802.3, 30.14).
use Rattle.std.specs.Prelude.{ℕ, zero, suc, ◌≡◌, ◌⊎◌, Bool, true, List, Option}
use Rattle.pre_mpacket.specs.declared.packets.Kind.{Kind}
use Rattle.pre_mpacket.specs.Arrivals.{Given, is_start, is_continue, is_fragment, HasCome, HasKind, Gives, IsOpenBefore}

-- P holds of this many of the numbers below n
abbrev pub HoldsOf : (ℕ → Type 0) → ℕ → ℕ → Type 0
HoldsOf P zero count = count ≡ 0
HoldsOf P (suc n) count = (P n × ((less : ℕ) × (count ≡ suc less) × HoldsOf P n less)) ⊎ ¬ P n × HoldsOf P n count

abbrev pub any_kind : Kind → Bool
any_kind k = true

module _ (A : List (Option (List ℕ))) where
  -- arrival i gives a frame, part, verify or respond
  abbrev pub IsAccepted : ℕ → Type 0
  IsAccepted i = (g : Given) × Gives A i g

  -- A start or continuation that discards an open frame, or a start that gives neither frame nor part.
  abbrev pub IsAssError : ℕ → Type 0
  IsAssError i =
      (IsOpenBefore A i × (HasKind A is_start i ⊎ HasKind A is_continue i × ¬ IsAccepted i))
      ⊎ HasKind A is_start i × ¬ IsAccepted i

  -- What comes spells no mPacket, or is a continuation while no frame is open.
  abbrev pub IsSmdError : ℕ → Type 0
  IsSmdError i = HasCome A i × (¬ HasKind A any_kind i ⊎ HasKind A is_continue i × ¬ IsOpenBefore A i)

  -- A start or continuation that gives a frame.
  abbrev pub IsAssOk : ℕ → Type 0
  IsAssOk i = HasKind A is_fragment i × ((octets : List ℕ) × Gives A i (Given.frame octets))

  -- A continuation that is accepted.
  abbrev pub IsFragRx : ℕ → Type 0
  IsFragRx i = HasKind A is_continue i × IsAccepted i

  -- the counters of the first n arrivals
  pub record CountersOf (n ass_error smd_error ass_ok frag_rx : ℕ) : Type 0 where
    pub ass_errors : HoldsOf IsAssError n ass_error
    pub smd_errors : HoldsOf IsSmdError n smd_error
    pub ass_oks : HoldsOf IsAssOk n ass_ok
    pub frag_rxs : HoldsOf IsFragRx n frag_rx
