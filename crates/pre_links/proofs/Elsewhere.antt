-- Events of later moments that neither begin nor end on an arc leave its link.
use Rattle.std.proofs.Common.{ℕ, ◌≡◌, ◌==◌, ◌<◌, List, [], ◌++◌, length, refl, sym, ◌∙◌, ap, arith, subst, map, filter}
use Rattle.std.specs.Prelude.{◌↔◌, slice_get, Any}
use Rattle.std.proofs.lemmas.List.{append-nil}
use Rattle.std.proofs.lemmas.List.Elements.{filter_map-append}
use Rattle.pre_lldp.specs.LinkState as link
use Rattle.pre_mpacket.specs.declared.packets.Kind.TheVariants as kind
use Rattle.pre_history.specs.declared.events.Outcome.TheVariants as outcome
use Rattle.pre_history.specs.declared.events.What.TheVariants as what
use Rattle.pre_history.specs.Scenario.{Scenario}
use Rattle.pre_history.specs.History.{History, Begin, Ended}
use Rattle.pre_history.specs.Selected.{begin_on, ended_on, is_verify}
use Rattle.pre_history.specs.Queries.{Begins, Ends, Packet, Packets}
use Rattle.pre_history.specs.LinkState.{Began}
use Rattle.pre_history.specs.Legal.{LegalUpTo}
use Rattle.pre_history.specs.Placed.{AllWithin}
use Rattle.pre_links.specs.Standing.{AreOver, LinkStands, Verifies, verify_in}
use Rattle.pre_links.specs.declared.links.Link.{Link}
use Rattle.pre_links.proofs.Latest.{latest_like}
use Rattle.pre_links.proofs.Staying.{decides_like, good_on, received_on, active_before_on, wanting_on}

-- mPackets from their begins and ends
abbrev pub packet_of : List Ended → Begin → Packet
packet_of ends b = record { begin = b; ended = slice_get (filter (λ e. e.ord == b.ord) ends) 0 }

abbrev pub verifies_in : List Begin → List Ended → List link.Verify
verifies_in begins ends = map verify_in (filter (λ p. is_verify p.begin.kind) (map (packet_of ends) begins))

pub verifies_by : (h : History) (a : ℕ) → Verifies h a ≡ verifies_in (Begins h a) (Ends h a)
unfolding Packets
verifies_by h a = refl

-- what begins on the arc is as it was
same_began : (g h : History) (a : ℕ) → Begins g a ≡ Begins h a → (P : Begin → Type 0) → Any P (Begins g a) ↔ Any P (Begins h a)
same_began g h a same P = (subst (Any P) same, subst (Any P) (sym same))

module _ (w : Scenario) (m n : ℕ) (h es : History) (a t : ℕ) (state : Link) (a_lt : a < length w.net.arcs) (legal : LegalUpTo w m h) (within : AllWithin (length w.net.arcs) m n es)
    (past : AreOver w t m) where
  pub elsewhere : Begins es a ≡ [] → Ends es a ≡ [] → LinkStands w h a t state → LinkStands w (h ++ es) a t state
  elsewhere no_begins no_ends s =
      let begins : Begins (h ++ es) a ≡ Begins h a = filter_map-append (begin_on a) h es ∙ ap (λ xs. Begins h a ++ xs) no_begins ∙ append-nil (Begins h a) in
      let ends : Ends (h ++ es) a ≡ Ends h a = filter_map-append (ended_on a) h es ∙ ap (λ xs. Ends h a ++ xs) no_ends ∙ append-nil (Ends h a) in
      record {
        calls = s.calls;
        stands = s.stands;
        good = λ i lt. decides_like _ (s.good i lt) (good_on w m n h es legal within a a_lt i (past i lt));
        verifies = s.verifies ∙ verifies_by h a ∙ sym (ap (λ xs. verifies_in xs (Ends (h ++ es) a)) begins ∙ ap (λ xs. verifies_in (Begins h a) xs) ends) ∙ sym (verifies_by (h ++ es) a);
        responds = λ r. (
          (λ any. let p = (s.responds r).0 any in (p.0, (received_on w m n h es legal within a a_lt r (past r p.0) outcome.Respond).1 p.1)),
          (λ p. (s.responds r).1 (p.0, (received_on w m n h es legal within a a_lt r (past r p.0) outcome.Respond).0 p.1)),
        );
        setting = s.setting;
        active = decides_like _ s.active (active_before_on w m n h es legal within a a_lt t past);
        lldp = decides_like _ s.lldp (
          (λ (x, lt, wants, none). (
            x,
            lt,
            (wanting_on w m n h es legal within a a_lt x (λ i le. past i (omega (arith, le, lt)))).0 wants,
            λ i from began. none i from ((same_began (h ++ es) h a begins (λ b. (b.what ≡ what.Lldp) × (b.tick ≡ i))).1 began),
          )),
          (λ (x, lt, wants, none). (
            x,
            lt,
            (wanting_on w m n h es legal within a a_lt x (λ i le. past i (omega (arith, le, lt)))).1 wants,
            λ i from began. none i from ((same_began (h ++ es) h a begins (λ b. (b.what ≡ what.Lldp) × (b.tick ≡ i))).0 began),
          )),
        );
        responded = latest_like (Began h a kind.Respond) (Began (h ++ es) a kind.Respond) _ (λ i. same_began (h ++ es) h a begins (λ b. (b.kind ≡ kind.Respond) × (b.tick ≡ i))) s.responded;
      }
