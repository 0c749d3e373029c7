-- A whole frame that arrives as it was sent gives that frame.
use Rattle.std.proofs.Common.{ℕ, ◌≡◌, ◌≤◌, List, ◌++◌, length, refl, ◌∙◌, ap, inl, arith, Some, length-append, Option}
use Rattle.std.specs.Prelude.{slice_get, ◌↔◌, option_and_then}
use Rattle.pre_base.specs.declared.limits.TheConstants.{GREATEST_DATA}
use Rattle.pre_crc.specs.Checks.{Fcs}
use Rattle.pre_crc.proofs.CheckFacts.{length-Fcs}
use Rattle.pre_mpacket.specs.declared.packets.Kind.TheVariants as kind
use Rattle.pre_mpacket.specs.Spelling.{PlainPacket, IsWhole, Spells, head_of, mpacket_of}
use Rattle.pre_mpacket.specs.Arrivals.{Given, Gives, Spelled}

-- octets spell one mPacket at most, which `mpacket_of` gives: a law of mPackets
abbrev pub OneSpelled : Type 0
OneSpelled = (m : PlainPacket) (octets : List ℕ) → (mpacket_of octets ≡ Some m) ↔ Spells m octets

pub express_spelled : OneSpelled → (A : List (Option (List ℕ))) (i : ℕ) (user : List ℕ) → slice_get A i ≡ Some (Some (head_of kind.Express ++ user ++ Fcs user))
    → 60 ≤ length user → Spelled A i ≡ Some (record { kind = kind.Express; mdata = user; check = Fcs user })
express_spelled one A i user at low =
    let m : PlainPacket = record { kind = kind.Express; mdata = user; check = Fcs user } in
    let whole : IsWhole m = record { counts = tt; mdata = low; check = length-Fcs user } in
    let spelled : mpacket_of (head_of kind.Express ++ user ++ Fcs user) ≡ Some m = (one m (head_of kind.Express ++ user ++ Fcs user)).1 (record { whole = whole; joined = refl }) in
    ap (λ o. option_and_then (λ a. option_and_then mpacket_of a) o) at ∙ spelled

pub express_gives : OneSpelled → (A : List (Option (List ℕ))) (i : ℕ) (user : List ℕ) → slice_get A i ≡ Some (Some (head_of kind.Express ++ user ++ Fcs user))
    → 60 ≤ length user → length user ≤ GREATEST_DATA → Gives A i (Given.frame (user ++ Fcs user))
express_gives one A i user at low high = (
  record { kind = kind.Express; mdata = user; check = Fcs user },
  express_spelled one A i user at low,
  inl (refl, refl, omega (arith, length-append user (Fcs user), length-Fcs user, low), omega (arith, length-append user (Fcs user), length-Fcs user, high), refl),
)
