-- Frames that come to rings, some after others.
use Rattle.std.proofs.Common.{ℕ, ◌≡◌, ◌+◌, List, [], ◌++◌, length, refl, sym, ◌∙◌, ap, subst, append_assoc}
use Rattle.std.proofs.lemmas.List.{append-nil, length-append}
use Rattle.std.proofs.lemmas.List.Elements.{filter_map-append}
use Rattle.pre_history.specs.Scenario.{Scenario}
use Rattle.pre_history.specs.History.{History}
use Rattle.pre_history.specs.Selected.{is_dropped, delivery_of}
use Rattle.pre_history.specs.Queries.{Deliveries}
use Rattle.pre_history.specs.Comings.{Coming, EntriesOf}
use Rattle.pre_sim.specs.declared.lanes.Lane.{Lane}
use Rattle.pre_sim.specs.Stands.{RingsStand}
use Rattle.pre_sim.specs.Sends.{BeforeEntries, AreNew, AreSameButRings, ComesPart, ComesFront}
use Rattle.pre_sim.proofs.Lists.{count_by-append}
use Rattle.pre_sim.proofs.EntriesNew.{new_front, new_rest, entries_then}
use Rattle.pre_sim.proofs.NumberTests.{adds}

-- the other parts of the lanes stay, also over two steps
others_then : (a b c : List Lane) → AreSameButRings a b → AreSameButRings b c → AreSameButRings a c
others_then a b c first second i lane at =
    let y = second i lane at in
    let x = first i y.0 y.1 in (
      x.0,
      x.1,
      record {
        outgoing = y.2.outgoing ∙ x.2.outgoing;
        incoming = y.2.incoming ∙ x.2.incoming;
        partner = y.2.partner ∙ x.2.partner;
        setting = y.2.setting ∙ x.2.setting;
        link = y.2.link ∙ x.2.link;
      },
    )

module _ (w : Scenario) (t : ℕ) (old : List Lane) where
  -- none came yet
  pub none_come : ComesPart w t [] old old 0 []
  none_come = record {
    deliveries = refl;
    drops = refl;
    others = λ a lane at. (lane, at, record { outgoing = refl; incoming = refl; partner = refl; setting = refl; link = refl });
    come = λ h news stand early. (refl, subst (λ g. RingsStand w g old) (sym (append-nil h)) stand, subst (BeforeEntries t) (sym (append-nil h)) early);
  }

  module _ (cs ds : List Coming) (mid : List Lane) (lost : ℕ) (es : History) (first : ComesPart w t cs old mid lost es) where
    pub come_then : (new : List Lane) (more : ℕ) (fs : History) → ComesPart w t ds mid new more fs → ComesPart w t (cs ++ ds) old new (lost + more) (es ++ fs)
    come_then new more fs second = record {
      deliveries = ap length (filter_map-append delivery_of es fs) ∙ (length-append (Deliveries es) (Deliveries fs) ∙ adds first.deliveries second.deliveries);
      drops = adds first.drops second.drops ∙ sym (count_by-append is_dropped es fs);
      others = others_then old mid new first.others second.others;
      come = λ h news stand early.
          let one = first.come h (new_front w h cs ds news) stand early in
          let rest : AreNew w (h ++ es) ds = subst (λ g. AreNew w (h ++ g) ds) (sym one.0) (new_rest w t h cs ds news) in
          let two = second.come (h ++ es) rest one.1 one.2 in (
            whole h one.0 two.0,
            subst (λ g. RingsStand w g new) (append_assoc h es fs) two.1,
            subst (BeforeEntries t) (append_assoc h es fs) two.2,
          );
    }
      where
        whole : (h : History) → es ≡ EntriesOf w t h cs → fs ≡ EntriesOf w t (h ++ es) ds → es ++ fs ≡ EntriesOf w t h (cs ++ ds)
        whole h one two =
            ap (λ g. es ++ g) (two ∙ ap (λ g. EntriesOf w t (h ++ g) ds) one) ∙ (ap (λ g. g ++ EntriesOf w t (h ++ EntriesOf w t h cs) ds) one ∙ sym (entries_then w t h cs ds))

    -- some of the others
    pub front_then : (fs : History) → ComesFront w t ds mid fs → ComesFront w t (cs ++ ds) old (es ++ fs)
    front_then fs front h news stand early =
        let one = first.come h (new_front w h cs ds news) stand early in
        let rest : AreNew w (h ++ es) ds = subst (λ g. AreNew w (h ++ g) ds) (sym one.0) (new_rest w t h cs ds news) in
        let f = front (h ++ es) rest one.1 one.2 in (
          cs ++ f.0,
          f.1,
          ap (λ xs. cs ++ xs) f.2 ∙ sym (append_assoc cs f.0 f.1),
          ap (λ g. es ++ g) (f.3 ∙ ap (λ g. EntriesOf w t (h ++ g) f.0) one.0) ∙ (ap (λ g. g ++ EntriesOf w t (h ++ EntriesOf w t h cs) f.0) one.0 ∙ sym (entries_then w t h cs f.0)),
        )

  -- a front of these is one of these and others
  pub front_more : (cs ds : List Coming) (es : History) → ComesFront w t cs old es → ComesFront w t (cs ++ ds) old es
  front_more cs ds es front h news stand early =
      let f = front h (new_front w h cs ds news) stand early in
      (f.0, f.1 ++ ds, ap (λ xs. xs ++ ds) f.2 ∙ append_assoc f.0 f.1 ds, f.3)

-- the same frames, said in another way
pub comes_same : (w : Scenario) (t : ℕ) (old new : List Lane) (cs ds : List Coming) (lost : ℕ) (es : History) → cs ≡ ds → ComesPart w t cs old new lost es → ComesPart w t ds old new lost es
comes_same w t old new cs ds lost es is part = subst (λ xs. ComesPart w t xs old new lost es) is part

pub front_same : (w : Scenario) (t : ℕ) (old : List Lane) (cs ds : List Coming) (es : History) → cs ≡ ds → ComesFront w t cs old es → ComesFront w t ds old es
front_same w t old cs ds es is front = subst (λ xs. ComesFront w t xs old es) is front
