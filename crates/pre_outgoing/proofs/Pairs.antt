-- Where all mPackets have ended: each with its events.
use Rattle.std.proofs.Common.{ℕ, ◌≡◌, ◌&&◌, ◌||◌, not, Bool, true, false, List, [], ◌∷◌, ◌++◌, length, refl, sym, ◌∙◌, ap, arith, Option, Some, None, map, filter}
use Rattle.std.specs.Prelude.{if◌then◌else◌, slice_get}
use Rattle.std.specs.List.{list_any, AllByRecursion as Every}
use Rattle.std.proofs.lemmas.List.{map-append, length-append}
use Rattle.std.proofs.lemmas.List.Folds.{list_any-append}
use Rattle.pre_send.specs.Calls.{End}
use Rattle.pre_send.specs.Sendings.{Sending, interrupted}
use Rattle.pre_send.specs.Frames.{frame_by}
use Rattle.pre_history.specs.Scenario.{Scenario}
use Rattle.pre_history.specs.History.{History, Begin, Ended}
use Rattle.pre_history.specs.Selected.{from_last}
use Rattle.pre_history.specs.Queries.{Packet, Begins, Ends}
use Rattle.pre_history.specs.Rules.{CheckOf}
use Rattle.pre_history.specs.Ordered.{HaveChecks}
use Rattle.pre_history.proofs.Lists.{at_front, at_last}
use Rattle.pre_outgoing.specs.Matching.{IsStored, Fits, EndsFit, Agree}

-- ---- the last element that passes a test, and those after it

pub last_yes : {X : Type 0} (test : X → Bool) (xs : List X) (x : X) → test x ≡ true → from_last test (xs ++ x ∷ []) ≡ x ∷ []
last_yes test [] x is = rw is refl
last_yes {X} test (y ∷ ys) x is = go (test y) (list_any test (ys ++ x ∷ [])) any (last_yes test ys x is)
  where
    or_true : (b : Bool) → (b || true) ≡ true
    or_true true = refl
    or_true false = refl

    any : list_any test (ys ++ x ∷ []) ≡ true
    any = list_any-append test ys (x ∷ []) ∙ (ap (λ b. list_any test ys || (b || false)) is ∙ or_true (list_any test ys))

    go : (b c : Bool) → c ≡ true → from_last test (ys ++ x ∷ []) ≡ x ∷ [] → (if b && not c then y ∷ (ys ++ x ∷ []) else from_last test (ys ++ x ∷ [])) ≡ x ∷ []
    go true true is r = r
    go false true is r = r
    go b false is r = absurd (cc is)

pub last_no : {X : Type 0} (test : X → Bool) (xs : List X) (x r : X) (rs : List X) → test x ≡ false → from_last test xs ≡ r ∷ rs → from_last test (xs ++ x ∷ []) ≡ r ∷ (rs ++ x ∷ [])
last_no test [] x r rs fails is = absurd (cc is)
last_no {X} test (y ∷ ys) x r rs fails is = go (test y) (list_any test ys) (list_any test (ys ++ x ∷ [])) any is (λ e. last_no test ys x r rs fails e)
  where
    or_false : (b : Bool) → (b || false) ≡ b
    or_false true = refl
    or_false false = refl

    any : list_any test (ys ++ x ∷ []) ≡ list_any test ys
    any = list_any-append test ys (x ∷ []) ∙ (ap (λ b. list_any test ys || (b || false)) fails ∙ or_false (list_any test ys))

    go : (b c d : Bool) → d ≡ c → (if b && not c then y ∷ ys else from_last test ys) ≡ r ∷ rs → (from_last test ys ≡ r ∷ rs → from_last test (ys ++ x ∷ []) ≡ r ∷ (rs ++ x ∷ []))
        → (if b && not d then y ∷ (ys ++ x ∷ []) else from_last test (ys ++ x ∷ [])) ≡ r ∷ (rs ++ x ∷ [])
    go true false false e is more = ap (λ l. l ++ x ∷ []) is
    go true true true e is more = more is
    go false c d e is more = more is
    go true true false e is more = absurd (cc e)
    go true false true e is more = absurd (cc e)

-- ---- each mPacket with its events

pub record Done (w : Scenario) (h : History) (p : Sending) (older : List Sending) (b : Begin) (e : Ended) : Type 0 where
  pub fits : Fits w p older b
  pub end : End
  pub is_end : p.told.end ≡ Some end
  pub stored : IsStored w (frame_by p.told.chosen (interrupted older)) end.store
  pub size : e.size ≡ p.size
  pub check : e.check ≡ CheckOf w h b e.size

abbrev pub packet_of : Begin → Ended → Packet
packet_of b e = record { begin = b; ended = Some e }

abbrev pub Pairs : Scenario → History → List Sending → List Packet → Type 0
Pairs w h [] ps = ps ≡ []
Pairs w h (p ∷ older) ps = (front : List Packet) × (b : Begin) × (e : Ended) × (ps ≡ front ++ packet_of b e ∷ []) × Done w h p older b e × Pairs w h older front

module _ (w : Scenario) (h : History) (a : ℕ) (g : Begin → Packet)
    (made : (i : ℕ) (b : Begin) (e : Ended) → slice_get (Begins h a) i ≡ Some b → slice_get (Ends h a) i ≡ Some e → g b ≡ packet_of b e)
    (checks : HaveChecks w h a) where
  pub pairs : (packets : List Sending) (bs : List Begin) (es : List Ended) → Agree w packets bs es → length es ≡ length bs
      → ((i : ℕ) (b : Begin) → slice_get bs i ≡ Some b → slice_get (Begins h a) i ≡ Some b) → ((i : ℕ) (e : Ended) → slice_get es i ≡ Some e → slice_get (Ends h a) i ≡ Some e)
      → Pairs w h packets (map g bs)
  pairs [] bs es (none, none_ended) all in_b in_e = ap (map g) none
  pairs (p ∷ older) bs es (front, b, before, bs_is, ends, same_length, fits, others) all in_b in_e =
      go p.told.end refl ends (λ in_b' in_e'. pairs older front before others same_length in_b' in_e')
    where
      at_b : slice_get (Begins h a) (length front) ≡ Some b
      at_b = in_b (length front) b (ap (λ xs. slice_get xs (length front)) bs_is ∙ at_last front b)

      go : (o : Option End) → p.told.end ≡ o → EndsFit w p older o before es
          → (((i : ℕ) (b : Begin) → slice_get front i ≡ Some b → slice_get (Begins h a) i ≡ Some b)
          → ((i : ℕ) (e : Ended) → slice_get before i ≡ Some e → slice_get (Ends h a) i ≡ Some e) → Pairs w h older (map g front))
          → Pairs w h (p ∷ older) (map g bs)
      go None is fit more = absurd (omega (arith, all, ap length fit, same_length, ap length bs_is, length-append front (b ∷ [])))
      go (Some end) is (e, es_is, tick, size, stored) more =
          let here : slice_get (Ends h a) (length before) ≡ Some e = in_e (length before) e (ap (λ xs. slice_get xs (length before)) es_is ∙ at_last before e) in
          let at_e : slice_get (Ends h a) (length front) ≡ Some e = ap (slice_get (Ends h a)) (sym same_length) ∙ here in (
            map g front,
            b,
            e,
            ap (map g) bs_is ∙ (map-append g front (b ∷ []) ∙ ap (λ x. map g front ++ x ∷ []) (made (length front) b e at_b at_e)),
            record { fits = fits; end = end; is_end = is; stored = stored; size = size; check = checks (length front) b e at_b at_e },
            more (λ i c at. in_b i c (ap (λ xs. slice_get xs i) bs_is ∙ at_front front (b ∷ []) i c at))
                (λ i c at. in_e i c (ap (λ xs. slice_get xs i) es_is ∙ at_front before (e ∷ []) i c at)),
          )

pub every_passes : {X : Type 0} (test : X → Bool) (xs : List X) → Every (λ x. test x ≡ true) xs → filter test xs ≡ xs
every_passes test [] all = refl
every_passes test (x ∷ xs) (here, more) = rw here (ap (λ ys. x ∷ ys) (every_passes test xs more))

pub every_last : {X : Type 0} (P : X → Type 0) (test : X → Bool) (xs : List X) → Every P xs → Every P (from_last test xs)
every_last P test [] all = tt
every_last {X} P test (x ∷ xs) all = go (test x && not (list_any test xs)) (every_last P test xs all.1)
  where
    go : (b : Bool) → Every P (from_last test xs) → Every P (if b then x ∷ xs else from_last test xs)
    go true rest = all
    go false rest = rest
