-- A certificate is good, or it is rejected with one clause and row.
use Rattle.std.proofs.Common.{◌≡◌, inl, inr, ℕ, ◌<◌, List, refl, sym, ◌∙◌, ap, subst, arith, if◌then◌else◌}
use Rattle.std.specs.Prelude.{◌==◌}
use Rattle.std.proofs.lemmas.Bool.{cases_lt}
use Rattle.pre_topo.specs.declared.network.Network.{Network}
use Rattle.pre_streams.specs.declared.rows.Row.{Row}
use Rattle.pre_streams.specs.declared.rows.Streams.{Streams}
use Rattle.pre_bound.specs.declared.certificate.Certificate.{Certificate}
use Rattle.pre_bound.specs.Listed.{GoodCertificate}
use Rattle.pre_bound.specs.Values.{Values}
use Rattle.pre_check.specs.Lines.{Clause, number_of, HoldsAt, IsFirstBreach}
use Rattle.pre_check.specs.Lines as clause
use Rattle.pre_check.proofs.Holding.{all_from_good}
use Rattle.pre_cli.specs.declared.statuses.Status.{Status}
use Rattle.pre_cli.specs.declared.statuses.Status.TheVariants as status
use Rattle.pre_cli.specs.Judging.{network_in, streams_in, certificate_in, IsRejected, good_certificate_in, certified_in, judging}
use Rattle.pre_cli.specs.Words.{JudgeWords}
use Rattle.pre_cli.proofs.DueReadings.{Decided, then_decided, tested_decided}
use Rattle.pre_cli.proofs.DueTexts.{network_decided, streams_decided, certificate_decided}

-- a clause is known by its number
clause_at : ℕ → Clause
clause_at n =
    if n == 1 then clause.rank_order
    else if n == 2 then clause.load
    else if n == 3 then clause.first_burst
    else if n == 4 then clause.block
    else if n == 5 then clause.work
    else if n == 6 then clause.delay
    else if n == 7 then clause.growth
    else if n == 8 then clause.size
    else if n == 9 then clause.ring
    else if n == 10 then clause.bound
    else clause.largest

numbered : (k : Clause) → clause_at (number_of k) ≡ k
unfolding clause_at
numbered clause.rank_order = refl
numbered clause.load = refl
numbered clause.first_burst = refl
numbered clause.block = refl
numbered clause.work = refl
numbered clause.delay = refl
numbered clause.growth = refl
numbered clause.size = refl
numbered clause.ring = refl
numbered clause.bound = refl
numbered clause.largest = refl

same_clause : (j k : Clause) → number_of j ≡ number_of k → j ≡ k
same_clause j k e = sym (numbered j) ∙ ap clause_at e ∙ numbered k

module _ (net : Network) (rows : List Row) (v : Values) where
  -- no breach is before another one
  no_clause_before : (n line m other : ℕ) (a : IsFirstBreach net rows v n line) (b : IsFirstBreach net rows v m other) → n < m → ⊥
  no_clause_before n line m other a b lt = let is = a.number_is in a.breaks (b.clauses_before a.broken (omega (arith, is, lt)) line)

  one_number : (n line m other : ℕ) → IsFirstBreach net rows v n line → IsFirstBreach net rows v m other → n ≡ m
  one_number n line m other a b =
      elim (cases_lt n m) [
        | inl lt ↦ absurd (no_clause_before n line m other a b lt)
        | inr le ↦
            elim (cases_lt m n) [
              | inl lt ↦ absurd (no_clause_before m other n line b a lt)
              | inr ge ↦ omega (arith, le, ge)
            ]
      ]

  no_line_before : (n line m other : ℕ) (a : IsFirstBreach net rows v n line) (b : IsFirstBreach net rows v m other) → b.broken ≡ a.broken → line < other → ⊥
  no_line_before n line m other a b same lt = a.breaks (subst (λ k. HoldsAt net rows v k line) same (b.lines_before line lt))

  one_row : (n line m other : ℕ) → IsFirstBreach net rows v n line → IsFirstBreach net rows v m other → line ≡ other
  one_row n line m other a b =
      let number = one_number n line m other a b in
      let same : a.broken ≡ b.broken = same_clause a.broken b.broken (a.number_is ∙ number ∙ sym b.number_is) in
      elim (cases_lt line other) [
        | inl lt ↦ absurd (no_line_before n line m other a b (sym same) lt)
        | inr le ↦
            elim (cases_lt other line) [
              | inl lt ↦ absurd (no_line_before m other n line b a same lt)
              | inr ge ↦ omega (arith, le, ge)
            ]
      ]

rejected_once : (net : Network) (streams : Streams) (c : Certificate) (s t : Status) → IsRejected net streams c s → IsRejected net streams c t → s ≡ t
rejected_once net streams c s t (has, (n, line, breaks, is)) (had, (m, other, broke, was)) =
    let a = breaks has.0 has.1 in
    let b = broke has.0 has.1 in
    let number : n ≡ m = one_number net streams.rows has.0 n line m other a b in
    let row : line ≡ other = one_row net streams.rows has.0 n line m other a b in
    is ∙ (λ i. status.Rejected (number i) (row i)) ∙ sym was

good_not_rejected : (net : Network) (streams : Streams) (c : Certificate) (s : Status) → GoodCertificate net streams c → IsRejected net streams c s → ⊥
good_not_rejected net streams c s good (has, (n, line, breaks, is)) =
    let breach = breaks good.values good.says in
    breach.breaks (all_from_good net streams good.values good.good good.order breach.broken line)

pub certified_decided : (streams_word certificate_word : List ℕ) (net : Network) → Decided (certified_in streams_word certificate_word net)
certified_decided streams_word certificate_word net =
    then_decided (streams_in streams_word net) (good_certificate_in certificate_word net) (streams_decided streams_word net)
    (λ streams. tested_decided (certificate_in certificate_word net streams) (GoodCertificate net streams) (IsRejected net streams) (certificate_decided certificate_word net streams)
    (good_not_rejected net streams) (rejected_once net streams))

pub judging_decided : (words : JudgeWords) → Decided (judging words)
judging_decided words = then_decided (network_in words.net) (certified_in words.streams words.certificate) (network_decided words.net) (certified_decided words.streams words.certificate)
