-- Where nothing is damaged and no fragment is lost, each arrival gives what was sent: none is an alias.
use Rattle.std.proofs.Common.{ℕ, suc, ◌≡◌, ◌≢◌, ◌==◌, ◌+◌, ◌-◌, ◌<◌, ◌≤◌, Bool, true, false, List, []}
use Rattle.std.proofs.Common.{◌∷◌, ◌++◌, length, take, drop, refl, sym, ◌∙◌, ap, inl, inr, arith, subst, Option, Some, None, map}
use Rattle.std.proofs.Common.{filter}
use Rattle.std.specs.Prelude.{if◌then◌else◌, slice_get, option_map, option_and_then, nat_lt}
use Rattle.std.specs.List.{list_any}
use Rattle.std.proofs.lemmas.Bool.{and_parts}
use Rattle.std.proofs.lemmas.Bool.Decides.{nat_tests}
use Rattle.std.proofs.lemmas.List.{length-take-le, take-append-drop}
use Rattle.pre_crc.specs.Checks.{Fcs, Mcrc}
use Rattle.pre_crc.proofs.CheckFacts.{Fcs-differs}
use Rattle.pre_topo.specs.declared.arcs.Mode.TheVariants as mode
use Rattle.pre_script.specs.declared.scripts.Loss.{Loss}
use Rattle.pre_mpacket.specs.declared.packets.Kind.TheVariants as kind
use Rattle.pre_mpacket.specs.Spelling.{PlainPacket, mpacket_of}
use Rattle.pre_mpacket.specs.Pieces as pieces
use Rattle.pre_mpacket.specs.Arrivals.{Given, Gives, GivesAs, Spelled, Fragments, Data, Chain, EndsChain, IsChain, is_start, is_fragment}
use Rattle.pre_mpacket.proofs.Chains.{start_is_one}
use Rattle.pre_history.specs.declared.events.What.TheVariants as what
use Rattle.pre_history.specs.Scenario.{Scenario, arc, FrameOf}
use Rattle.pre_history.specs.History.{History, Begin, Ended, Arrive, PlainEvent}
use Rattle.pre_history.specs.Selected.{arrive_on, begin_on}
use Rattle.pre_history.specs.Queries.{Begins, Ends, Arrivals, Packet, packet, end_of, joined_data, last_check, PacketsBefore, Packets}
use Rattle.pre_history.specs.Octets.{WholeOf, Air, is_lost, names_loss, names_damage, Damaged, Sent}
use Rattle.pre_history.specs.LinkState.{Active, ActiveIn}
use Rattle.pre_history.specs.Starts.{Item, Choice, There}
use Rattle.pre_history.specs.Rules.{last_four}
use Rattle.pre_history.specs.Placed.{IsBefore, IsAt}
use Rattle.pre_history.specs.Legal.{LegalUpTo, LegalBefore, Legal, Alias, IsLastOf}
use Rattle.pre_history.proofs.Lists.{there, within, every_at, every_selected}
use Rattle.pre_history.proofs.Zips.{every_of_all}
use Rattle.pre_history.proofs.Chosen.{from_filter}
use Rattle.pre_history.proofs.LaterEnds.{packet_back}
use Rattle.pre_history.proofs.Placing.{placed, begins_arc}
use Rattle.pre_history.proofs.Undamaged.{air_at}
use Rattle.pre_history.proofs.InOrder.{steady}
use Rattle.pre_history.proofs.FirstAliases.{arrives_within}
use Rattle.pre_history.proofs.Totals.{some_history}
use Rattle.pre_laws.specs.Routed.{IsRouted}
use Rattle.pre_laws.specs.Parts.{RunTo, plain_of, KeepsFragments, LosesNoFragment}
use Rattle.pre_laws.proofs.Begun.{choice_of, by_item}
use Rattle.pre_laws.proofs.Routed.{from_last_first}
use Rattle.pre_laws.proofs.Runs.{end_is}
use Rattle.pre_laws.proofs.RunSteps.{Run, fragment_at, frame_long, whole_is, checked_as, all_sent, last_check_at, finished}
use Rattle.pre_laws.proofs.Parts.{joined_plain, continued_plain, checked_plain}
use Rattle.pre_laws.proofs.Reassembled.{told, spelled, size_fits, from_start, whole_size, fragments_so}
use Rattle.pre_history.proofs.NatTests.{is_eq}

any_true : {X : Type 0} (test : X → Bool) (xs : List X) → list_any test xs ≡ true → (i : ℕ) × (x : X) × (slice_get xs i ≡ Some x) × (test x ≡ true)
any_true test [] is = absurd (cc is)
any_true {X} test (x ∷ xs) is = go (test x) refl (λ more. any_true test xs more)
  where
    go : (b : Bool) → test x ≡ b → (list_any test xs ≡ true → (i : ℕ) × (y : X) × (slice_get xs i ≡ Some y) × (test y ≡ true)) → (i : ℕ) × (y : X) × (slice_get (x ∷ xs) i ≡ Some y) × (test y ≡ true)
    go true pass later = (0, x, refl, pass)
    go false fail later = let o = later (let rest : list_any test (x ∷ xs) ≡ list_any test xs = rw fail refl in sym rest ∙ is) in (suc o.0, o.1, o.2, o.3)

module _ (w : Scenario) (routed : IsRouted w) (keeps : KeepsFragments w) (n : ℕ) (h : History) (legal : LegalUpTo w n h) (a : ℕ) (a_lt : a < length w.net.arcs) where
  -- ---- on an arc that never preempts no fragment begins

  inactive : (arc w a).mode ≡ mode.Off → (t : ℕ) → Active w h a t → ⊥
  unfolding Active
  inactive off t active = subst (λ m. ActiveIn w h a m t) off active

  no_start : (arc w a).mode ≡ mode.Off → (m : ℕ) (d : Begin) → slice_get (Begins h a) m ≡ Some d → is_start d.kind ≡ false
  no_start off m d at = let it = by_item w n h legal a a_lt m d at in go it.0 it.1
    where
      go : (it : Item) → There w h a d.tick it (choice_of d) → is_start d.kind ≡ false
      go Item.express (f, front, is) = ap (λ (c : Choice). is_start c.kind) is
      go Item.respond (talks, owed, is) = ap (λ (c : Choice). is_start c.kind) is
      go Item.verify (talks, wanted, is) = ap (λ (c : Choice). is_start c.kind) is
      go Item.lldp (talks, wanted, is) = ap (λ (c : Choice). is_start c.kind) is
      go Item.rest (r, left, is) = ap (λ (c : Choice). is_start c.kind) is
      go Item.preemptable (f, k, front, inl (active, k_is), is) = absurd (inactive off d.tick active)
      go Item.preemptable (f, k, front, inr (idle, whole, k_is), is) = ap (λ (c : Choice). is_start c.kind) is ∙ ap is_start k_is

  no_fragment : (arc w a).mode ≡ mode.Off → (m : ℕ) (d : Begin) → slice_get (Begins h a) m ≡ Some d → is_fragment d.kind ≡ false
  no_fragment off m d at = let it = by_item w n h legal a a_lt m d at in go it.0 it.1
    where
      go : (it : Item) → There w h a d.tick it (choice_of d) → is_fragment d.kind ≡ false
      go Item.express (f, front, is) = ap (λ (c : Choice). is_fragment c.kind) is
      go Item.respond (talks, owed, is) = ap (λ (c : Choice). is_fragment c.kind) is
      go Item.verify (talks, wanted, is) = ap (λ (c : Choice). is_fragment c.kind) is
      go Item.lldp (talks, wanted, is) = ap (λ (c : Choice). is_fragment c.kind) is
      go Item.rest (r, (first, more, run, ended, cut, left), is) =
          let o = from_last_first (λ (p : Packet). is_start p.begin.kind) (filter (λ (p : Packet). is_fragment p.begin.kind) (PacketsBefore h a d.tick)) first more run in
          let p = from_filter (λ (p : Packet). is_fragment p.begin.kind) (PacketsBefore h a d.tick) o.0 first o.1 in
          let q = from_filter (λ (p : Packet). nat_lt p.begin.tick d.tick) (Packets h a) p.0 first p.1 in
          let b = packet_back h a q.0 first q.1 in
          let none = no_start off q.0 b.0 b.1 in
          let start : is_start b.0.kind ≡ true = ap (λ (x : Packet). is_start x.begin.kind) b.2 ∙ o.2 in
          absurd (cc (sym none ∙ start))
      go Item.preemptable (f, k, front, inl (active, k_is), is) = absurd (inactive off d.tick active)
      go Item.preemptable (f, k, front, inr (idle, whole, k_is), is) = ap (λ (c : Choice). is_fragment c.kind) is ∙ ap is_fragment k_is

  -- what is lost is on such an arc
  lost_off : (m : ℕ) (d : Begin) → slice_get (Begins h a) m ≡ Some d → is_lost w d ≡ true → (arc w a).mode ≡ mode.Off
  lost_off m d at lost =
      let o = any_true (names_loss d) w.script.losses lost in
      let on = same_arc o.1.arc.0 d.arc (and_parts (o.1.arc.0 == d.arc) (o.1.ordinal == d.ord) o.3).0 in
      let here = every_at (λ (b : Begin). b.arc ≡ a) (Begins h a) m d (begins_arc h a) at in
      let off = every_at (λ (l : Loss). (arc w l.arc.0).mode ≡ mode.Off) w.script.losses o.0 o.1 (every_of_all (λ (l : Loss). (arc w l.arc.0).mode ≡ mode.Off) w.script.losses keeps.losses) o.2 in
      subst (λ x. (arc w x).mode ≡ mode.Off) (on ∙ here) off
    where
      same_arc : (x y : ℕ) → (x == y) ≡ true → x ≡ y
      same_arc x y e = grind (arith, nat_tests)

  pub none_lost : (i : ℕ) (b : Begin) → slice_get (Begins h a) i ≡ Some b → is_fragment b.kind ≡ true → is_lost w b ≡ false
  none_lost i b at on = go (is_lost w b) refl
    where
      go : (x : Bool) → is_lost w b ≡ x → is_lost w b ≡ false
      go false kept = kept
      go true lost = let none = no_fragment (lost_off i b at lost) i b at in absurd (cc (sym none ∙ on))

module _ (w : Scenario) (routed : IsRouted w) (none_damaged : w.script.damages ≡ []) (n : ℕ) (h : History) (legal : LegalUpTo w n h) (kept_fragments : LosesNoFragment w h) (a : ℕ) (a_lt : a < length w.net.arcs) where
  undamaged : (d : Begin) → filter (names_damage d) w.script.damages ≡ []
  undamaged d = ap (filter (names_damage d)) none_damaged

  -- ---- what arrives

  module _ (i : ℕ) (b : Begin) (e : Ended) (at : slice_get (Begins h a) i ≡ Some b) (over : slice_get (Ends h a) i ≡ Some e) where
    lost_gives : is_lost w b ≡ true → (g : Given) → Gives (Air w h a) i g → ⊥
    lost_gives lost g (m, spells, gives) =
        let here : slice_get (Air w h a) i ≡ Some None = air_at w h a i b at ∙ ap Some (ap (λ (x : Bool). if x then None else option_map (Damaged w b) (Sent w h (packet h a b))) lost) in
        let none = ap (λ o. option_and_then (λ a. option_and_then mpacket_of a) o) here in
        cc (sym none ∙ spells)

    abbrev sent_as : PlainPacket
    sent_as = told w routed n h legal a a_lt i b e at over

    module _ (kept : is_lost w b ≡ false) where
      spells_it : Spelled (Air w h a) i ≡ Some sent_as
      spells_it = spelled w routed n h legal a a_lt i b e at over (kept, undamaged b)

      as_told : (g : Given) → Gives (Air w h a) i g → GivesAs (Air w h a) i sent_as g
      as_told g (m, spells, gives) = let same : m ≡ sent_as = cc (sym spells ∙ spells_it) in subst (λ (x : PlainPacket). GivesAs (Air w h a) i x g) same gives

      -- a frame that arrives in an express mPacket
      some_what : b.kind ≡ kind.Express → b.what ≢ what.Nothing
      some_what express none = let it = by_item w n h legal a a_lt i b at in go it.0 it.1
        where
          go : (it : Item) → There w h a b.tick it (choice_of b) → ⊥
          go Item.express (f, front, is) = cc (sym none ∙ ap (λ (c : Choice). c.what) is)
          go Item.respond (talks, owed, is) = cc (sym express ∙ ap (λ (c : Choice). c.kind) is)
          go Item.verify (talks, wanted, is) = cc (sym express ∙ ap (λ (c : Choice). c.kind) is)
          go Item.lldp (talks, wanted, is) = cc (sym none ∙ ap (λ (c : Choice). c.what) is)
          go Item.rest (r, left, is) = cc (sym none ∙ ap (λ (c : Choice). c.what) is)
          go Item.preemptable (f, k, front, as', is) = cc (sym none ∙ ap (λ (c : Choice). c.what) is)

      express_last : (octets : List ℕ) → b.kind ≡ kind.Express → octets ≡ sent_as.mdata ++ sent_as.check → IsLastOf w h a i octets
      express_last octets express is =
          let off : is_fragment b.kind ≡ false = ap is_fragment express in
          let s = steady w n h a a_lt legal in
          let from = from_start w routed n h legal a a_lt i b at off in
          let size = whole_size w routed n h legal a a_lt b.kind b e.size off (s.sizes i b e at over) in
          let full : b.from + e.size ≡ length (WholeOf w h b) = omega (arith, from, size) in
          let check : e.check ≡ last_four (WholeOf w h b) = s.checks i b e at over ∙ ap (λ (x : Bool). if x then last_four (WholeOf w h b) else Mcrc (take (b.from + e.size - 4) (WholeOf w h b))) (is_eq (b.from + e.size) (length (WholeOf w h b)) full) in
          let mdata_is : sent_as.mdata ≡ take (length (WholeOf w h b) - 4) (WholeOf w h b) = ap (λ x. take (e.size - 4) (drop x (WholeOf w h b))) from ∙ ap (λ x. take (x - 4) (WholeOf w h b)) size in
          let whole : octets ≡ WholeOf w h b = is ∙ (ap (λ l. l ++ e.check) mdata_is ∙ (ap (λ l. take (length (WholeOf w h b) - 4) (WholeOf w h b) ++ l) check ∙ take-append-drop (length (WholeOf w h b) - 4) (WholeOf w h b))) in
          (b, e, at, over, some_what express, whole, full ∙ ap length (sym whole))

      -- a frame that arrives in fragments
      module _ (on : is_fragment b.kind ≡ true) where
        r : Run w routed n h legal a a_lt (suc i) i b
        r = (fragment_at w routed n h legal a a_lt i b at on).0

        A : List (Option (List ℕ))
        A = Air w h a

        end_at : end_of h a b.ord ≡ Some e
        end_at = end_is w n h legal a a_lt i b at ∙ over

        F : List ℕ
        F = FrameOf w r.frame.0

        parts : Fragments (Air w h a) r.first_place i ≡ map (plain_of w h) (RunTo h a (suc i))
        unfolding r
        parts =
            fragments_so w routed n h legal a a_lt i e over r.first_place r.frame (λ k c at_c on_c carries. (kept_fragments a k c at_c on_c, undamaged c)) (λ k c low high at_c. undamaged c) (suc i) i b
            (omega arith) (omega arith) at on r.carries r.first r.first_begun r.first_carries r.first_from

        all_is : RunTo h a (suc i) ≡ r.before ++ packet h a b ∷ []
        all_is = r.run ∙ r.parts

        data_is : pieces.joined (Fragments (Air w h a) r.first_place i) ≡ take (b.from + (e.size - 4)) F
        unfolding F
        data_is = ap pieces.joined (parts ∙ ap (map (plain_of w h)) all_is) ∙ (joined_plain w h (r.before ++ packet h a b ∷ []) ∙ all_sent w routed n h legal a a_lt (suc i) i b r e end_at)

        fits : (b.from + e.size ≤ length F) × (64 ≤ e.size)
        unfolding F
        fits = let o = size_fits w routed n h legal a a_lt i b e at over in let same = ap length (whole_is w routed n h legal a a_lt (suc i) i b r e end_at) in (omega (arith, o.0, same), o.1)

        is_chain : IsChain (Fragments (Air w h a) r.first_place i)
        unfolding F
        is_chain = (
          (r.count, subst (λ ps. pieces.IsSequenceOf r.count ps) (sym (parts ∙ ap (map (plain_of w h)) r.run)) (r.first_kind, continued_plain w h r.count 0 r.more r.continued)),
          (let long = (frame_long w routed n h legal a a_lt i b r.frame at r.carries).1 in
              let mdata_is = ap length data_is in
              let cut = length-take-le (b.from + (e.size - 4)) F (omega (arith, fits.0, fits.1)) in
              omega (arith, long, mdata_is, cut, fits.0, fits.1)),
          subst (λ ps. pieces.IsChecked [] ps) (sym (parts ∙ ap (map (plain_of w h)) all_is)) (checked_plain w h [] r.before (packet h a b) r.checked),
        )

        chain : Chain (Air w h a) r.first_place i
        chain =
            let low = r.first_before in
            let x = there (Ends h a) r.first_place (let lt = within (Ends h a) i e over in omega (arith, lt, low)) in (
              low,
              (
                told w routed n h legal a a_lt r.first_place r.first x.0 r.first_begun x.1,
                spelled w routed n h legal a a_lt r.first_place r.first x.0 r.first_begun x.1 (kept_fragments a r.first_place r.first r.first_begun (ap is_fragment r.first_kind), undamaged r.first),
                ap is_start r.first_kind,
              ),
              (sent_as, spells_it, on),
              is_chain,
            )

        fragment_last : (octets all : List ℕ) → EndsChain (Air w h a) i all → sent_as.check ≡ Fcs all → octets ≡ all ++ sent_as.check → IsLastOf w h a i octets
        unfolding F
        fragment_last octets all (j, chain_j, all_data) check is = go (b.from + e.size == length (WholeOf w h b)) refl
          where
            place : j ≡ r.first_place
            place = start_is_one (Air w h a) i j r.first_place chain_j chain

            mdata_is : all ≡ take (b.from + (e.size - 4)) F
            mdata_is = all_data ∙ (ap (λ x. Data (Air w h a) x i) place ∙ data_is)

            whole : WholeOf w h b ≡ F
            whole = whole_is w routed n h legal a a_lt (suc i) i b r e end_at

            same_number : (x y : ℕ) → (x == y) ≡ true → x ≡ y
            same_number x y e = grind (arith, nat_tests)

            go : (x : Bool) → (b.from + e.size == length (WholeOf w h b)) ≡ x → IsLastOf w h a i octets
            go true test =
                let full : b.from + e.size ≡ length (WholeOf w h b) = same_number (b.from + e.size) (length (WholeOf w h b)) test in
                let frame_full : b.from + e.size ≡ length F = full ∙ ap length whole in
                let joined : joined_data w h (r.before ++ packet h a b ∷ []) ++ last_check w h (r.before ++ packet h a b ∷ []) ≡ F = finished w routed n h legal a a_lt (suc i) i b r e end_at frame_full fits.1 in
                let sent : joined_data w h (r.before ++ packet h a b ∷ []) ≡ take (b.from + (e.size - 4)) F = all_sent w routed n h legal a a_lt (suc i) i b r e end_at in
                let octets_are : octets ≡ WholeOf w h b = is ∙ (ap (λ l. l ++ e.check) (mdata_is ∙ sym sent) ∙ (ap (λ l. joined_data w h (r.before ++ packet h a b ∷ []) ++ l) (sym (last_check_at w routed n h legal a a_lt (suc i) i b r e end_at)) ∙ (joined ∙ sym whole))) in
                let some : b.what ≢ what.Nothing = λ none. cc (sym none ∙ r.carries) in
                (b, e, at, over, some, octets_are, full ∙ ap length (sym octets_are))
            go false test =
                let cut : e.check ≡ Mcrc (take (b.from + e.size - 4) (WholeOf w h b)) = checked_as w routed n h legal a a_lt (suc i) i b r e end_at ∙ ap (λ (x : Bool). if x then last_four (WholeOf w h b) else Mcrc (take (b.from + e.size - 4) (WholeOf w h b))) test in
                let place_is : b.from + e.size - 4 ≡ b.from + (e.size - 4) = omega (arith, fits.1) in
                let mcrc : e.check ≡ Mcrc all = cut ∙ ap Mcrc (ap (λ x. take x (WholeOf w h b)) place_is ∙ (ap (take (b.from + (e.size - 4))) whole ∙ sym mdata_is)) in
                absurd (Fcs-differs all (sym check ∙ mcrc))

      kept_no_alias : ¬ Alias w h a i
      kept_no_alias (inl (gives, other)) = let is = as_told Given.verify gives in other (b, at, is.0)
      kept_no_alias (inr (inl (gives, other))) = let is = as_told Given.respond gives in other (b, at, is.0)
      kept_no_alias (inr (inr (octets, gives, other))) = other (elim (as_told (Given.frame octets) gives) [
        | inl (express, is, few, many, check) ↦ express_last octets express is
        | inr (all, ends, check, is) ↦ fragment_last (on_fragment ends) octets all ends check is
      ])
        where
          on_fragment : {all : List ℕ} → EndsChain (Air w h a) i all → is_fragment b.kind ≡ true
          on_fragment (j, (low, first, (m, spells, pass), chained), is) = let same : m ≡ sent_as = cc (sym spells ∙ spells_it) in subst (λ (x : PlainPacket). is_fragment x.kind ≡ true) same pass

    pub no_alias_at : ¬ Alias w h a i
    no_alias_at = go (is_lost w b) refl
      where
        go : (x : Bool) → is_lost w b ≡ x → ¬ Alias w h a i
        go false kept = kept_no_alias kept
        go true lost = nothing
          where
            nothing : Alias w h a i → ⊥
            nothing (inl (gives, other)) = lost_gives lost Given.verify gives
            nothing (inr (inl (gives, other))) = lost_gives lost Given.respond gives
            nothing (inr (inr (octets, gives, other))) = lost_gives lost (Given.frame octets) gives

-- none of what ended is an alias
pub no_alias_ended : (w : Scenario) → IsRouted w → w.script.damages ≡ [] → (n : ℕ) (h : History) → LegalUpTo w n h → LosesNoFragment w h → (a : ℕ) → a < length w.net.arcs → (i : ℕ) → i < length (Ends h a) → ¬ Alias w h a i
no_alias_ended w routed none n h legal kept a a_lt i lt =
    let e = there (Ends h a) i lt in
    let b = there (Begins h a) i (let more = (steady w n h a a_lt legal).ordered.ends_begun in omega (arith, lt, more)) in
    no_alias_at w routed none n h legal kept a a_lt i b.0 e.0 b.1 e.1

pub legal_before : (w : Scenario) → IsRouted w → w.script.damages ≡ [] → (n : ℕ) (h : History) → LegalUpTo w n h → LosesNoFragment w h → LegalBefore w h n
legal_before w routed undamaged n h legal kept = (legal, none)
  where
    none : (a i : ℕ) → i < length (Arrivals h a) → ¬ Alias w h a i
    none a i lt =
        let x = there (Arrivals h a) i lt in
        let known : a < length w.net.arcs = every_at (λ (x : Arrive). a < length w.net.arcs) (Arrivals h a) i x.0
        (every_selected (arrive_on a) (IsBefore (length w.net.arcs) n) (λ x. a < length w.net.arcs) (arrives_within (length w.net.arcs) n a) h (placed w n h legal)) x.1 in
        no_alias_ended w routed undamaged n h legal kept a known i (let ended = (steady w n h a known legal).ordered.arrivals_ended in omega (arith, lt, ended))

-- arcs of what began are the network's
begun_known : (w : Scenario) (n : ℕ) (h : History) → LegalUpTo w n h → (a i : ℕ) (b : Begin) → slice_get (Begins h a) i ≡ Some b → a < length w.net.arcs
begun_known w n h legal a i b at =
    every_at (λ (b : Begin). a < length w.net.arcs) (Begins h a) i b (every_selected (begin_on a) (IsBefore (length w.net.arcs) n) (λ b. a < length w.net.arcs) (begins_within (length w.net.arcs) n a) h (placed w n h legal)) at
  where
    begins_within : (arcs n a : ℕ) (e : PlainEvent) (b : Begin) → IsBefore arcs n e → begin_on a e ≡ Some b → a < arcs
    begins_within arcs n a e b (m, lt, stands) is = go e stands is
      where
        go : (e : PlainEvent) → IsAt arcs m e → begin_on a e ≡ Some b → a < arcs
        go (PlainEvent.begin c) (c_lt, at) is = by_arc (c.arc == a) refl is
          where
            by_arc : (same : Bool) → (c.arc == a) ≡ same → (if same then Some c else None) ≡ Some b → a < arcs
            by_arc false off is = absurd (cc is)
            by_arc true on is = let arc_is : c.arc ≡ a = grind (arith, nat_tests) in omega (arith, arc_is, c_lt)
        go (PlainEvent.set s c v) at is = absurd (cc is)
        go (PlainEvent.ended c) at is = absurd (cc is)
        go (PlainEvent.arrive c) at is = absurd (cc is)
        go (PlainEvent.deliver c) at is = absurd (cc is)
        go (PlainEvent.active s c v) at is = absurd (cc is)
        go (PlainEvent.enter c) at is = absurd (cc is)
        go (PlainEvent.dropped c) at is = absurd (cc is)
        go (PlainEvent.count s c) at is = absurd (cc is)
        go (PlainEvent.end c) at is = absurd (cc is)

pub loses_none : (w : Scenario) → IsRouted w → KeepsFragments w → (n : ℕ) (h : History) → LegalUpTo w n h → LosesNoFragment w h
loses_none w routed keeps n h legal a i b at on = none_lost w routed keeps n h legal a (begun_known w n h legal a i b at) i b at on

pub legal_history : (w : Scenario) → IsRouted w → KeepsFragments w → (h : History) × Legal w h
legal_history w routed keeps = elim (some_history w) [
  | inl some ↦ some
  | inr (h, t, a, i, (by, a_lt, before, (e, at, due, alias))) ↦
      absurd (no_alias_ended w routed keeps.undamaged _ h before.0 (loses_none w routed keeps _ h before.0) a a_lt i (within (Ends h a) i e at) alias)
]
