-- The arrival that comes last, and those before it.
use Rattle.std.proofs.Common.{ℕ, zero, suc, ◌≡◌, ◌<◌, List, [], ◌∷◌, ◌++◌, length, take, refl, sym, ◌∙◌, ap, arith, Option, Some, None, true, false}
use Rattle.std.specs.Prelude.{slice_get, option_and_then, is_some}
use Rattle.std.proofs.Math.Seq.{take-append_seam}
use Rattle.pre_mpacket.specs.Spelling.{mpacket_of}
use Rattle.pre_mpacket.specs.Arrivals.{Given, Spelled, IsOpenBefore}
use Rattle.pre_receive.specs.declared.opened.Opened.{Opened}
use Rattle.pre_receive.specs.Held.{HoldsOpened}
use Rattle.pre_receive.proofs.PacketLaws.{PacketLaws}

pub last_get : (A : List (Option (List ℕ))) (a : Option (List ℕ)) → slice_get (A ++ a ∷ []) (length A) ≡ Some a
last_get [] a = refl
last_get (x ∷ A) a = last_get A a

pub last_spelled : (A : List (Option (List ℕ))) (a : Option (List ℕ)) → Spelled (A ++ a ∷ []) (length A) ≡ option_and_then mpacket_of a
last_spelled [] a = refl
last_spelled (x ∷ A) a = last_spelled A a

pub earlier_get : (A B : List (Option (List ℕ))) (k : ℕ) → k < length A → slice_get (A ++ B) k ≡ slice_get A k
earlier_get [] B k lt = absurd (omega arith)
earlier_get (a ∷ A) B zero lt = refl
earlier_get (a ∷ A) B (suc k) lt = earlier_get A B k (omega arith)

pub earlier_spelled : (A B : List (Option (List ℕ))) (k : ℕ) → k < length A → Spelled (A ++ B) k ≡ Spelled A k
earlier_spelled A B k lt = ap (λ o. option_and_then (λ a. option_and_then mpacket_of a) o) (earlier_get A B k lt)

pub those_before : (A B : List (Option (List ℕ))) → take (length A) (A ++ B) ≡ A
those_before A B = take-append_seam A B

-- what is open before the last one is open whether it comes or not
pub open_more : PacketLaws → (A B : List (Option (List ℕ))) → IsOpenBefore A (length A) → IsOpenBefore (A ++ B) (length A)
open_more laws A B (j, lt, gives, none) =
    (j, lt, (laws.later_given A B j Given.part lt).1 gives, λ k past before m at. none k past before m (sym (earlier_spelled A B k before) ∙ at))

pub open_less : PacketLaws → (A B : List (Option (List ℕ))) → IsOpenBefore (A ++ B) (length A) → IsOpenBefore A (length A)
open_less laws A B (j, lt, gives, none) =
    (j, lt, (laws.later_given A B j Given.part lt).0 gives, λ k past before m at. none k past before m (earlier_spelled A B k before ∙ at))

-- the receiver knows whether a frame is open
pub held_open : PacketLaws → (A B : List (Option (List ℕ))) (w : Option Opened) (octets : List ℕ) → HoldsOpened w octets A → is_some w ≡ true → IsOpenBefore (A ++ B) (length A)
held_open laws A B None octets holds is = absurd (cc is)
held_open laws A B (Some o) octets holds is = open_more laws A B ((laws.open_before A).1 (o.frame_count, o.next, octets, holds.0))

pub held_shut : PacketLaws → (A B : List (Option (List ℕ))) (w : Option Opened) (octets : List ℕ) → HoldsOpened w octets A → is_some w ≡ false → ¬ IsOpenBefore (A ++ B) (length A)
held_shut laws A B None octets holds is before =
    let h = (laws.open_before A).0 (open_less laws A B before) in
    holds h.0 h.1 h.2 h.3
held_shut laws A B (Some o) octets holds is before = cc is
