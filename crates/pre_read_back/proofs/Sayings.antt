-- What each written line says, where it is due.
use Rattle.std.proofs.Common.{◌≡◌, ◌⊎◌, inl, inr, ℕ, ◌^◌, ◌<◌, ◌≤◌, Bool, true, false, ◌&&◌, ◌==◌, if◌then◌else◌, List, [], ◌∷◌, length}
use Rattle.std.proofs.Common.{Option, Some, None, Result, Ok, refl, ◌∙◌, ap, arith, slice_get, codes, is_some, unwrap_or, eq-eqb}
use Rattle.std.specs.Option.{option_map_or}
use Rattle.std.specs.Fmt.{decimal}
use Rattle.std.proofs.lemmas.Fmt.{decimal_digit}
use Rattle.std.proofs.lemmas.Bool.{and_from}
use Rattle.std.proofs.lemmas.Bool.Decides.{nat_tests}
use Rattle.pre_text.specs.Lines.{is_nonempty}
use Rattle.pre_text.specs.Words.{number_of}
use Rattle.pre_text.proofs.Decimals.{decimal_word, name_word, number_back}
use Rattle.pre_base.specs.declared.numbers.StreamId.{StreamId}
use Rattle.pre_topo.specs.declared.network.Network.{Network}
use Rattle.pre_topo.specs.Named.{arc_name}
use Rattle.pre_streams.specs.declared.rows.Row.{Row}
use Rattle.pre_streams.specs.declared.rows.Streams.{Streams}
use Rattle.pre_streams.specs.Fits.{Fits}
use Rattle.pre_script.proofs.NameWords.{arc_back, arc_some, arc_word, row_read}
use Rattle.pre_bound.specs.declared.rows.ArcRow.{ArcRow}
use Rattle.pre_bound.specs.declared.rows.PortRow.{PortRow}
use Rattle.pre_bound.specs.declared.rows.HopRow.{HopRow}
use Rattle.pre_bound.specs.Limits.{limit, PortIsWithin}
use Rattle.pre_certify.specs.Text as text
use Rattle.pre_check.specs.declared.due.Due.TheVariants as due
use Rattle.pre_check.specs.declared.saying.Said.TheVariants as said
use Rattle.pre_check.specs.Due.{arc_due, port_due, hop_due, bound_due, is_arc, is_stream_named}
use Rattle.pre_check.specs.Saying.{given, is_small, kept, large_rule, number_rule, row_rule, said_by}
use Rattle.pre_read_back.proofs.Steps.{AreFilled, IsFilled, Reads}

given-Some : {A B : Type 0} (o : Option A) (rule : ℕ) (next : A → Result B ℕ) (x : A) → o ≡ Some x → given o rule next ≡ next x
given-Some o rule next x e = ap (λ r. given r rule next) e

kept-true : {B : Type 0} (b : Bool) (rule : ℕ) (next : Result B ℕ) → b ≡ true → kept b rule next ≡ next
kept-true b rule next e = ap (λ r. kept r rule next) e

when : {A : Type 0} (b : Bool) (x y : A) → b ≡ true → (if b then x else y) ≡ x
when b x y e = ap (λ t. if t then x else y) e

small : (n : ℕ) → n ≤ limit → is_small n ≡ true
small n le = grind (arith, nat_tests)

fits : (n : ℕ) → n ≤ limit → n < 2 ^ 64
fits n le = omega (arith, le)

nonempty_number : (word : List ℕ) (n : ℕ) → number_of word ≡ Some n → is_nonempty word ≡ true
nonempty_number [] n e = absurd cc
nonempty_number (c ∷ word) n e = refl

number_filled : (n : ℕ) → n < 2 ^ 64 → IsFilled (decimal n)
number_filled n lt = (decimal_word n lt, nonempty_number (decimal n) n (number_back n lt))

limit_filled : (n : ℕ) → n ≤ limit → IsFilled (decimal n)
limit_filled n le = number_filled n (fits n le)

number : {B : Type 0} (n : ℕ) (next : ℕ → Result B ℕ) → n < 2 ^ 64 → given (number_of (decimal n)) number_rule next ≡ next n
number n next lt = given-Some (number_of (decimal n)) number_rule next n (number_back n lt)

-- a line of a version has the rank that it is said with
abbrev pub RankFits : ℕ → Option ℕ → Type 0
RankFits version (Some rank) = version ≡ 2
RankFits version None = version ≡ 3

module _ (net : Network) (streams : Streams) where
  --- ---- the first line and the last one

  first_says : (version n : ℕ) → (n ≡ 2) ⊎ (n ≡ 3) → said_by net streams version due.First (codes "certificate") (decimal n ∷ []) ≡ Ok (said.First n)
  first_says version n (inl two) = rw (two, decimal_digit 2 (omega arith)) refl
  first_says version n (inr three) = rw (three, decimal_digit 3 (omega arith)) refl

  two_or_three : (b : Bool) → (◌≡◌ {A = ℕ} (if b then 2 else 3) 2) ⊎ (◌≡◌ {A = ℕ} (if b then 2 else 3) 3)
  two_or_three true = inl refl
  two_or_three false = inr refl

  versions : (arcs : List ArcRow) → (text.version_of arcs ≡ 2) ⊎ (text.version_of arcs ≡ 3)
  versions [] = inl refl
  versions (row ∷ rows) = two_or_three (is_some row.rank)

  early : (n : ℕ) → (n ≡ 2) ⊎ (n ≡ 3) → n < 2 ^ 64
  early n (inl two) = omega (arith, two)
  early n (inr three) = omega (arith, three)

  pub first_reads : (version : ℕ) (arcs : List ArcRow) → Reads net streams version due.First (text.first_line arcs) (said.First (text.version_of arcs))
  first_reads version arcs = record {
    first = codes "certificate";
    words = decimal (text.version_of arcs) ∷ [];
    line_is = refl;
    first_filled = (name_word (codes "certificate") refl, refl);
    filled = (number_filled (text.version_of arcs) (early (text.version_of arcs) (versions arcs)), tt);
    plain = refl;
    says = first_says version (text.version_of arcs) (versions arcs);
  }

  pub last_reads : (version : ℕ) → Reads net streams version due.End text.last_line said.End
  last_reads version = record { first = codes "end"; words = []; line_is = refl; first_filled = (name_word (codes "end") refl, refl); filled = tt; plain = refl; says = refl }

  --- ---- arcs

  is_here : (arc : ℕ) → arc < length net.arcs → is_arc net arc (arc_name net arc) ≡ true
  is_here arc lt = ap (λ o. option_map_or (λ a. a == arc) o false) (arc_back net arc lt) ∙ eq-eqb arc arc refl

  arc_filled : (arc : ℕ) → arc < length net.arcs → IsFilled (arc_name net arc)
  arc_filled arc lt = (arc_word net arc lt, arc_some net arc lt)

  arc_found : (arc : ℕ) → arc < length net.arcs → arc_due net (due.Arc (record { 0 = arc })) (arc_name net arc) ≡ Some arc
  arc_found arc lt = when (is_arc net arc (arc_name net arc)) (Some arc) None (is_here arc lt)

  abbrev arc_of : ℕ → Option ℕ → ℕ → ArcRow
  arc_of arc rank largest = record { arc = record { 0 = arc }; rank = rank; largest = largest }

  pub arc_reads : (version arc : ℕ) (rank : Option ℕ) (largest : ℕ) → arc < length net.arcs → unwrap_or rank 0 ≤ limit → largest ≤ limit → RankFits version rank
      → Reads net streams version (due.Arc (record { 0 = arc })) (text.arc_line net (arc_of arc rank largest)) (said.Arc (arc_of arc rank largest))
  arc_reads version arc (Some rank) largest inside low most is =
      let d = due.Arc (record { 0 = arc }) in
      let words = arc_name net arc ∷ decimal rank ∷ decimal largest ∷ [] in
      record {
        first = codes "arc";
        words = words;
        line_is = refl;
        first_filled = (name_word (codes "arc") refl, refl);
        filled = (arc_filled arc inside, (number_filled rank (fits rank low), (number_filled largest (fits largest most), tt)));
        plain = refl;
        says = ap (λ n. said_by net streams n d (codes "arc") words) is
            ∙ number rank _ (fits rank low)
            ∙ number largest _ (fits largest most)
            ∙ given-Some (arc_due net d (arc_name net arc)) row_rule _ arc (arc_found arc inside)
            ∙ kept-true (is_small rank && is_small largest) large_rule _ (and_from _ _ (small rank low) (small largest most));
      }
  arc_reads version arc None largest inside low most is =
      let d = due.Arc (record { 0 = arc }) in
      let words = arc_name net arc ∷ decimal largest ∷ [] in
      record {
        first = codes "arc";
        words = words;
        line_is = refl;
        first_filled = (name_word (codes "arc") refl, refl);
        filled = (arc_filled arc inside, (number_filled largest (fits largest most), tt));
        plain = refl;
        says = ap (λ n. said_by net streams n d (codes "arc") words) is
            ∙ number largest _ (fits largest most)
            ∙ given-Some (arc_due net d (arc_name net arc)) row_rule _ arc (arc_found arc inside)
            ∙ kept-true (is_small 0 && is_small largest) large_rule _ (and_from _ _ (small 0 low) (small largest most));
      }

  --- ---- ports

  port_found : (arc prio : ℕ) → arc < length net.arcs → port_due net (due.Port (record { 0 = arc }) prio) (arc_name net arc) prio ≡ Some (arc, prio)
  port_found arc prio inside = when (is_arc net arc (arc_name net arc) && prio == prio) (Some (arc, prio)) None (and_from _ _ (is_here arc inside) (eq-eqb prio prio refl))

  pub port_reads : (version : ℕ) (row : PortRow) → row.arc.0 < length net.arcs → row.prio < 8 → PortIsWithin row
      → Reads net streams version (due.Port row.arc row.prio) (text.port_line net row) (said.Port row)
  port_reads version row inside low within =
      let name = arc_name net row.arc.0 in
      let d = due.Port row.arc row.prio in
      let prio : row.prio < 2 ^ 64 = omega (arith, low) in
      let numbers : AreFilled (decimal row.rate ∷ decimal row.delay ∷ decimal row.size ∷ [])
      = (limit_filled row.rate within.rate, (limit_filled row.delay within.delay, (limit_filled row.size within.size, tt))) in
      let later = and_from _ _ (small row.rate within.rate) (and_from _ _ (small row.delay within.delay) (small row.size within.size)) in
      record {
        first = codes "port";
        words = name ∷ decimal row.prio ∷ decimal row.block ∷ decimal row.work ∷ decimal row.rate ∷ decimal row.delay ∷ decimal row.size ∷ [];
        line_is = refl;
        first_filled = (name_word (codes "port") refl, refl);
        filled = (arc_filled row.arc.0 inside, (number_filled row.prio prio, (limit_filled row.block within.block, (limit_filled row.work within.work, numbers))));
        plain = refl;
        says = number row.prio _ prio
            ∙ number row.block _ (fits row.block within.block)
            ∙ number row.work _ (fits row.work within.work)
            ∙ number row.rate _ (fits row.rate within.rate)
            ∙ number row.delay _ (fits row.delay within.delay)
            ∙ number row.size _ (fits row.size within.size)
            ∙ given-Some (port_due net d name row.prio) row_rule _ (row.arc.0, row.prio) (port_found row.arc.0 row.prio inside)
            ∙ kept-true (is_small row.block && (is_small row.work && (is_small row.rate && (is_small row.delay && is_small row.size)))) large_rule _
            (and_from _ _ (small row.block within.block) (and_from _ _ (small row.work within.work) later));
      }

  --- ---- hops and bounds

  module _ (stream : ℕ) (r : Row) (rules : Fits net streams) (at : slice_get streams.rows stream ≡ Some r) where
    abbrev name : List ℕ
    name = text.stream_name streams.rows stream

    stream_filled : IsFilled name
    stream_filled = let row = row_read net streams stream r rules at in (row.word, row.some)

    is_named : is_stream_named streams stream name ≡ true
    is_named = ap (λ o. option_map_or (λ s. s == stream) o false) ((row_read net streams stream r rules at).back) ∙ eq-eqb stream stream refl

    hop_found : (hop : ℕ) → hop_due streams (due.Hop (record { 0 = stream }) hop) name hop ≡ Some stream
    hop_found hop = when (is_stream_named streams stream name && hop == hop) (Some stream) None (and_from _ _ is_named (eq-eqb hop hop refl))

    bound_found : bound_due streams (due.Bound (record { 0 = stream })) name ≡ Some stream
    bound_found = when (is_stream_named streams stream name) (Some stream) None is_named

    abbrev hop_of : ℕ → ℕ → HopRow
    hop_of hop burst = record { stream = record { 0 = stream }; hop = hop; burst = burst }

    pub hop_reads : (version hop burst : ℕ) → hop < 2 ^ 64 → burst ≤ limit
        → Reads net streams version (due.Hop (record { 0 = stream }) hop) (text.hop_line streams.rows (hop_of hop burst)) (said.Hop (hop_of hop burst))
    hop_reads version hop burst few most = record {
      first = codes "hop";
      words = name ∷ decimal hop ∷ decimal burst ∷ [];
      line_is = refl;
      first_filled = (name_word (codes "hop") refl, refl);
      filled = (stream_filled, (number_filled hop few, (number_filled burst (fits burst most), tt)));
      plain = refl;
      says = number hop _ few
          ∙ number burst _ (fits burst most)
          ∙ given-Some (hop_due streams (due.Hop (record { 0 = stream }) hop) name hop) row_rule _ stream (hop_found hop)
          ∙ kept-true (is_small burst) large_rule _ (small burst most);
    }

    abbrev bound_of : ℕ → StreamId × ℕ
    bound_of bound = (record { 0 = stream }, bound)

    pub bound_reads : (version bound : ℕ) → bound ≤ limit
        → Reads net streams version (due.Bound (record { 0 = stream })) (text.bound_line streams.rows (bound_of bound)) (said.Bound (record { 0 = stream }) bound)
    bound_reads version bound most = record {
      first = codes "bound";
      words = name ∷ decimal bound ∷ [];
      line_is = refl;
      first_filled = (name_word (codes "bound") refl, refl);
      filled = (stream_filled, (number_filled bound (fits bound most), tt));
      plain = refl;
      says = number bound _ (fits bound most)
          ∙ given-Some (bound_due streams (due.Bound (record { 0 = stream })) name) row_rule _ stream bound_found
          ∙ kept-true (is_small bound) large_rule _ (small bound most);
    }
