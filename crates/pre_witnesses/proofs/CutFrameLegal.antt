-- The history of a frame that is cut is legal.
use Rattle.std.proofs.Common.{ℕ, zero, suc, ◌≡◌, ◌<◌, nat_le, Bool, false, List, [], ◌∷◌, ◌++◌, refl, sym, ap, inl, inr, arith, Option, Some}
use Rattle.std.specs.Prelude.{count_by}
use Rattle.pre_script.specs.declared.scripts.SendLine.{SendLine}
use Rattle.pre_mpacket.specs.declared.packets.Kind.{Kind}
use Rattle.pre_mpacket.specs.Arrivals.{Given, Gives, Spelled, HasKind, IsOpenBefore, is_start, is_continue, is_fragment}
use Rattle.pre_mpacket.specs.Counters.{IsAssError, IsSmdError, IsAssOk}
use Rattle.pre_mpacket.specs.Spelling.{PlainPacket}
use Rattle.pre_history.specs.Scenario.{Scenario, FrameOf}
use Rattle.pre_history.specs.History.{PlainEvent, Counts}
use Rattle.pre_history.specs.Octets.{Air}
use Rattle.pre_history.specs.Legal.{Legal, LegalBefore, CountsOf}
use Rattle.pre_history.proofs.Known.{one_given}
use Rattle.pre_history.proofs.WholeFrames.{no_counts}
use Rattle.pre_laws.proofs.Reassembled.{told, spelled}
use Rattle.pre_laws.proofs.NoAlias.{legal_before}
use Rattle.pre_witnesses.specs.CutFrame.{start_begin, express_begin, rest_begin, start_end, express_end, rest_end, CutsFrame, cut_frame}
use Rattle.pre_witnesses.proofs.PairCut.{Files, scenario_of, of_all, routed}
use Rattle.pre_witnesses.proofs.Receptions.{other_kind}
use Rattle.pre_witnesses.proofs.CutFrame.{all_there, part_told, rest_given, up_to_end}

module _ (g : Files) where
  abbrev w : Scenario
  w = scenario_of g

  abbrev A : List (Option (List ℕ))
  A = Air w (all_there g) 0

  -- ---- what the three arrivals spell and give

  abbrev start_told : PlainPacket
  start_told = told w (routed g) 20010 (all_there g) (up_to_end g) 0 (omega arith) 0 start_begin (start_end w) refl refl

  abbrev express_told : PlainPacket
  express_told = told w (routed g) 20010 (all_there g) (up_to_end g) 0 (omega arith) 1 express_begin (express_end w) refl refl

  abbrev rest_told : PlainPacket
  rest_told = told w (routed g) 20010 (all_there g) (up_to_end g) 0 (omega arith) 2 rest_begin (rest_end w) refl refl

  start_spelled : Spelled A 0 ≡ Some start_told
  start_spelled = spelled w (routed g) 20010 (all_there g) (up_to_end g) 0 (omega arith) 0 start_begin (start_end w) refl refl (refl, refl)

  express_spelled : Spelled A 1 ≡ Some express_told
  express_spelled = spelled w (routed g) 20010 (all_there g) (up_to_end g) 0 (omega arith) 1 express_begin (express_end w) refl refl (refl, refl)

  rest_spelled : Spelled A 2 ≡ Some rest_told
  rest_spelled = spelled w (routed g) 20010 (all_there g) (up_to_end g) 0 (omega arith) 2 rest_begin (rest_end w) refl refl (refl, refl)

  part : Gives A 0 Given.part
  part = part_told g 20010 (all_there g) (up_to_end g) refl refl

  whole : Gives A 2 (Given.frame (FrameOf w 0))
  whole = rest_given g 20010 (all_there g) (up_to_end g) refl refl refl

  not_start : (test : Kind → Bool) → test start_told.kind ≡ false → HasKind A test 0 → ⊥
  not_start test off here = other_kind A 0 start_told start_spelled test off here

  not_express : (test : Kind → Bool) → test express_told.kind ≡ false → HasKind A test 1 → ⊥
  not_express test off here = other_kind A 1 express_told express_spelled test off here

  not_rest : (test : Kind → Bool) → test rest_told.kind ≡ false → HasKind A test 2 → ⊥
  not_rest test off here = other_kind A 2 rest_told rest_spelled test off here

  -- the frame is open when its rest arrives
  open_before : IsOpenBefore A 2
  open_before = (0, omega arith, part, between)
    where
      between : (k : ℕ) → 0 < k → k < 2 → (m : PlainPacket) → Spelled A k ≡ Some m → is_fragment m.kind ≡ false
      between zero low high m at = absurd (omega (arith, low))
      between (suc zero) low high m at = let same : express_told ≡ m = cc (sym express_spelled, at) in ap (λ (x : PlainPacket). is_fragment x.kind) (sym same)
      between (suc (suc k)) low high m at = absurd (omega (arith, high))

  -- ---- counters

  no_error_start : ¬ IsAssError A 0
  no_error_start (inl ((j, lt, gives, since), other)) = absurd (omega (arith, lt))
  no_error_start (inr (start, refused)) = refused (Given.part, part)

  no_error_express : ¬ IsAssError A 1
  no_error_express (inl (open', inl start)) = not_express is_start refl start
  no_error_express (inl (open', inr (more, refused))) = not_express is_continue refl more
  no_error_express (inr (start, refused)) = not_express is_start refl start

  no_error_rest : ¬ IsAssError A 2
  no_error_rest (inl (open', inl start)) = not_rest is_start refl start
  no_error_rest (inl (open', inr (more, refused))) = refused (Given.frame (FrameOf w 0), whole)
  no_error_rest (inr (start, refused)) = not_rest is_start refl start

  known_start : ¬ IsSmdError A 0
  known_start (came, inl none) = none (start_told, start_spelled, refl)
  known_start (came, inr (more, shut)) = not_start is_continue refl more

  known_express : ¬ IsSmdError A 1
  known_express (came, inl none) = none (express_told, express_spelled, refl)
  known_express (came, inr (more, shut)) = not_express is_continue refl more

  known_rest : ¬ IsSmdError A 2
  known_rest (came, inl none) = none (rest_told, rest_spelled, refl)
  known_rest (came, inr (more, shut)) = shut open_before

  no_ok_start : ¬ IsAssOk A 0
  no_ok_start (fragment, (octets, gives)) = let same : Given.frame octets ≡ Given.part = one_given A 0 (Given.frame octets) Given.part gives part in cc same

  abbrev counts : Counts
  counts = record { err = 0; smd = 0; ok = 1; rx = 1; tx = 1 }

  counted : CountsOf w (all_there g) 0 counts
  counted = (
    record {
      ass_errors = inr (no_error_rest, inr (no_error_express, inr (no_error_start, refl)));
      smd_errors = inr (known_rest, inr (known_express, inr (known_start, refl)));
      ass_oks = inl (((rest_told, rest_spelled, refl), (FrameOf w 0, whole)), (0, refl, inr ((λ x. not_express is_fragment refl x.0), inr (no_ok_start, refl))));
      frag_rxs =
          inl (((rest_told, rest_spelled, refl), (Given.frame (FrameOf w 0), whole)), (0, refl, inr ((λ x. not_express is_continue refl x.0), inr ((λ x. not_start is_continue refl x.0), refl))));
    },
    refl,
  )

  none_counted : CountsOf w (all_there g) 1 no_counts
  none_counted = (record { ass_errors = refl; smd_errors = refl; ass_oks = refl; frag_rxs = refl }, refl)

  legal : Legal w (cut_frame w)
  legal =
      let sent : count_by (λ (s : SendLine). nat_le s.send.tick.0 2000) w.script.sends ≡ 2 = ap (count_by (λ (s : SendLine). nat_le s.send.tick.0 2000)) g.both in
      let before : LegalBefore w (all_there g) 20010 = legal_before w (routed g) refl 20010 (all_there g) (up_to_end g) (λ a i b at on. refl) in (
        all_there g,
        PlainEvent.count 0 counts ∷ [],
        before,
        (PlainEvent.count 0 counts ∷ [], no_counts, ([], counts, refl, counted, refl), none_counted, refl),
        λ i. all_there g ++ PlainEvent.count 0 counts ∷ PlainEvent.end (record { until = 2000; sent = sym sent i; delivered = 2; dropped = 0 }) ∷ [],
      )

pub cut_frame_legal : (w : Scenario) → CutsFrame w → Legal w (cut_frame w)
cut_frame_legal = of_all (λ w. Legal w (cut_frame w)) legal
