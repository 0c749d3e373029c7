-- Frames of the script as octets, what is sent of one that goes whole, and what arrives where nothing is lost or damaged.
use Rattle.std.proofs.Common.{ℕ, zero, suc, ◌≡◌, ◌==◌, ◌+◌, ◌-◌, ◌≤◌, Bool, true, false, List, [], ◌∷◌, ◌++◌}
use Rattle.std.proofs.Common.{length, take, drop, refl, ◌∙◌, ap, arith, subst, Some, None, map, filter, length-append}
use Rattle.std.specs.Prelude.{slice_get, if◌then◌else◌, option_map, fold}
use Rattle.std.specs.List.{list_any}
use Rattle.pre_base.specs.declared.numbers.FrameNo.{FrameNo}
use Rattle.pre_crc.specs.Checks.{Fcs, Mcrc}
use Rattle.pre_crc.proofs.CheckFacts.{length-Fcs}
use Rattle.pre_frame.specs.Layout.{frame_of, header_of, address_of, tag_control, script_type, payload_of}
use Rattle.pre_lldp.specs.LldpLayout.{is_lldp_frame}
use Rattle.pre_frame.proofs.FrameFacts.{length-frame_of}
use Rattle.pre_script.specs.declared.scripts.Damage.{Damage}
use Rattle.pre_mpacket.specs.declared.packets.Kind.TheVariants as kind
use Rattle.pre_mpacket.specs.Spelling.{head_of}
use Rattle.pre_history.specs.declared.events.What.TheVariants as what
use Rattle.pre_history.specs.Scenario.{Scenario, row, send, source, destination, FrameOf}
use Rattle.pre_history.specs.History.{History, Begin, Ended}
use Rattle.pre_history.specs.Queries.{Begins, Packet, Packets, packet, end_of}
use Rattle.pre_history.specs.Octets.{whole_of, WholeOf, SentOctets, Damaged, is_lost, names_loss, names_damage, xored, smd_place, Arrived, Air}
use Rattle.pre_history.specs.Starts.{SizeOf}
use Rattle.pre_history.specs.Rules.{CheckOf, last_four}
use Rattle.pre_history.proofs.Free.{packet_at}
use Rattle.pre_history.proofs.NatTests.{is_eq}

take-first : (xs ys : List ℕ) (n : ℕ) → n ≡ length xs → take n (xs ++ ys) ≡ xs
take-first [] ys zero is = refl
take-first [] ys (suc n) is = absurd (omega (arith, is))
take-first (x ∷ xs) ys zero is = absurd (omega (arith, is))
take-first (x ∷ xs) ys (suc n) is = ap (λ zs. x ∷ zs) (take-first xs ys n (omega (arith, is)))

drop-first : (xs ys : List ℕ) (n : ℕ) → n ≡ length xs → drop n (xs ++ ys) ≡ ys
drop-first [] ys zero is = refl
drop-first [] ys (suc n) is = absurd (omega (arith, is))
drop-first (x ∷ xs) ys zero is = absurd (omega (arith, is))
drop-first (x ∷ xs) ys (suc n) is = drop-first xs ys n (omega (arith, is))

-- the frame without its check
pub user_of : (w : Scenario) (f : ℕ) → (user : List ℕ) × (FrameOf w f ≡ user ++ Fcs user)
unfolding frame_of
user_of w f = (header_of (address_of (destination w f)) (address_of (source w f)) (tag_control (row w f).prio false (row w f).vid) script_type ++ payload_of f ((send w f).send.size - 22), refl)

-- a user frame goes to a node, so it is no LLDP frame
pub user_frame : (w : Scenario) (f : ℕ) → is_lldp_frame (FrameOf w f) ≡ false
unfolding frame_of
user_frame w f = refl

pub length-FrameOf : (w : Scenario) (f : ℕ) → 26 ≤ (send w f).send.size → length (FrameOf w f) ≡ (send w f).send.size
length-FrameOf w f low = length-frame_of (destination w f) (source w f) (row w f).prio (row w f).vid f (send w f).send.size low

pub air_at : (w : Scenario) (h : History) (a i : ℕ) (b : Begin) → slice_get (Begins h a) i ≡ Some b → slice_get (Air w h a) i ≡ Some (Arrived w h (packet h a b))
unfolding Air
air_at w h a i b at = go (Packets h a) i (packet_at h a i b at)
  where
    go : (ps : List Packet) (i : ℕ) → slice_get ps i ≡ Some (packet h a b) → slice_get (map (Arrived w h) ps) i ≡ Some (Arrived w h (packet h a b))
    go [] i at = absurd (cc at)
    go (p ∷ ps) zero at = let same : p ≡ packet h a b = cc at in ap (λ (x : Packet). Some (Arrived w h x)) same
    go (p ∷ ps) (suc i) at = go ps i at

-- what isn't lost or damaged arrives as it was sent
pub arrives_as_sent : (w : Scenario) (h : History) (b : Begin) (e : Ended) (a : ℕ) → w.script.losses ≡ [] → w.script.damages ≡ [] → end_of h a b.ord ≡ Some e
    → Arrived w h (packet h a b) ≡ Some (SentOctets w h b e)
arrives_as_sent w h b e a no_loss no_damage ended =
    let kept : is_lost w b ≡ false = ap (list_any (names_loss b)) no_loss in
    let same : Damaged w b (SentOctets w h b e) ≡ SentOctets w h b e = ap (λ (ds : List Damage). fold (λ xs d. xored (smd_place b.kind + d.offset) d.octets xs) (SentOctets w h b e) (filter (names_damage b) ds)) no_damage in
    ap (λ (x : Bool). if x then None else option_map (Damaged w b) (option_map (SentOctets w h b) (end_of h a b.ord))) kept
    ∙ (ap (λ o. option_map (Damaged w b) (option_map (SentOctets w h b) o)) ended ∙ ap Some same)

-- the octets of an mPacket that carries a whole frame
pub whole_sent : (w : Scenario) (h : History) (b : Begin) (e : Ended) (f : FrameNo) → b.kind ≡ kind.Express → b.from ≡ 0 → b.what ≡ what.Frame f
    → SizeOf w h b.kind b e.size → e.check ≡ CheckOf w h b e.size → 26 ≤ (send w f.0).send.size
    → SentOctets w h b e ≡ head_of kind.Express ++ (user_of w f.0).0 ++ Fcs (user_of w f.0).0
whole_sent w h b e f is_express from_start is_frame sized checked low =
    let user = (user_of w f.0).0 in
    let whole : WholeOf w h b ≡ user ++ Fcs user = ap (whole_of w h b) is_frame ∙ (user_of w f.0).1 in
    let size : e.size ≡ length (WholeOf w h b) = subst (λ k. SizeOf w h k b e.size) is_express sized in
    let long : length (user ++ Fcs user) ≡ length user + 4 = omega (arith, length-append user (Fcs user), length-Fcs user) in
    let cut : e.size - 4 ≡ length user = omega (arith, size, ap length whole, long) in
    let sent_data : take (e.size - 4) (drop b.from (WholeOf w h b)) ≡ user
    = ap (λ n. take (e.size - 4) (drop n (WholeOf w h b))) from_start ∙ (ap (take (e.size - 4)) whole ∙ take-first user (Fcs user) (e.size - 4) cut) in
    let all : (b.from + e.size == length (WholeOf w h b)) ≡ true = is_eq (b.from + e.size) (length (WholeOf w h b)) (omega (arith, from_start, size)) in
    let check : e.check ≡ Fcs user
    = checked ∙ (ap (λ (x : Bool). if x then last_four (WholeOf w h b) else Mcrc (take (b.from + e.size - 4) (WholeOf w h b))) all
    ∙ (ap last_four whole ∙ drop-first user (Fcs user) (length (user ++ Fcs user) - 4) (omega (arith, long)))) in
    ap (λ k. head_of k ++ take (e.size - 4) (drop b.from (WholeOf w h b)) ++ e.check) is_express
    ∙ (ap (λ xs. head_of kind.Express ++ xs ++ e.check) sent_data ∙ ap (λ xs. head_of kind.Express ++ user ++ xs) check)
