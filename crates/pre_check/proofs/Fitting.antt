-- A line that is read says a row that is due, with no number above the limit.
use Rattle.std.proofs.Common.{◌≡◌, ℕ, ◌≤◌, Bool, true, false, List, [], ◌∷◌, Option, Some, None, Result, Ok, Err, refl, sym}
use Rattle.std.proofs.Common.{◌∙◌, ap, subst, arith, is_some, if◌then◌else◌, unwrap_or, eq-eqb}
use Rattle.std.specs.Prelude.{slice_get, ◌==◌, ◌&&◌, not, codes}
use Rattle.std.specs.Str.{bytes_eq}
use Rattle.std.proofs.lemmas.Bool.{eqb-true, leb-true, and_parts, true≢false}
use Rattle.std.proofs.lemmas.List.Elements.{All-push, All-nil}
use Rattle.pre_text.specs.Words.{number_of, is_comment}
use Rattle.pre_text.specs.Lines.{words_of}
use Rattle.pre_base.specs.declared.numbers.StreamId.{StreamId}
use Rattle.pre_topo.specs.declared.network.Network.{Network}
use Rattle.pre_streams.specs.declared.rows.Row.{Row}
use Rattle.pre_streams.specs.declared.rows.Streams.{Streams}
use Rattle.pre_bound.specs.declared.rows.ArcRow.{ArcRow}
use Rattle.pre_bound.specs.declared.rows.HopRow.{HopRow}
use Rattle.pre_bound.specs.Limits.{limit, ArcIsWithin, PortIsWithin}
use Rattle.pre_bound.specs.Uses.{has_flow}
use Rattle.pre_check.specs.declared.due.Due.{Due}
use Rattle.pre_check.specs.declared.due.Due.TheVariants as due
use Rattle.pre_check.specs.declared.saying.Said.{Said}
use Rattle.pre_check.specs.declared.saying.Said.TheVariants as said
use Rattle.pre_check.specs.Due.{is_arc, is_stream_named, is_first, is_end, arc_due, port_due, hop_due, bound_due}
use Rattle.pre_check.specs.Saying.{arc_of, arc_said, bound_said, end_said, first_said, given, hop_said, is_small, kept, large_rule, no_words, number_rule, old_arc}
use Rattle.pre_check.specs.Saying.{old_arc_of, old_largest, one, port_of, port_said, ranked_arc, row_rule, said_by, six, split, three, two, unranked_arc}
use Rattle.pre_check.specs.Saying.{version_of, word_rule}
use Rattle.pre_check.specs.Seen.{Seen, nothing_seen, with_said}
use Rattle.pre_check.specs.Reading.{AreSmall, after_line, after_words, by_due, told}

-- the line that a row is due as
abbrev pub due_of : Said → Due
due_of (said.First version) = due.First
due_of (said.Arc row) = due.Arc row.arc
due_of (said.Port row) = due.Port row.arc row.prio
due_of (said.Hop row) = due.Hop row.stream row.hop
due_of (said.Bound stream bound) = due.Bound stream
due_of said.End = due.End

-- an arc has a rank where the version isn't 3
abbrev pub HasVersion : ℕ → ArcRow → Type 0
HasVersion version row = is_some row.rank ≡ not (version == 3)

-- the row has no number above the limit, and a rank by the version
abbrev pub IsSaid : List Row → ℕ → Said → Type 0
IsSaid rows version (said.First other) = Unit {0}
IsSaid rows version (said.Arc row) = ArcIsWithin row × HasVersion version row × (version ≡ 1 → row.largest ≡ old_largest rows row.arc.0)
IsSaid rows version (said.Port row) = PortIsWithin row
IsSaid rows version (said.Hop row) = row.burst ≤ limit
IsSaid rows version (said.Bound stream bound) = bound ≤ limit
IsSaid rows version said.End = Unit {0}

pub record SaidFits (rows : List Row) (version : ℕ) (d : Due) (s : Said) : Type 0 where
  pub is : IsSaid rows version s
  pub due_is : d ≡ due_of s

given-Ok : {A B : Type 0} (o : Option A) (rule : ℕ) (next : A → Result B ℕ) (s : B) → given o rule next ≡ Ok s → (x : A) × (o ≡ Some x) × (next x ≡ Ok s)
given-Ok None rule next s e = absurd cc
given-Ok (Some x) rule next s e = (x, refl, e)

kept-Ok : {B : Type 0} (b : Bool) (rule : ℕ) (next : Result B ℕ) (s : B) → kept b rule next ≡ Ok s → (b ≡ true) × (next ≡ Ok s)
kept-Ok true rule next s e = (refl, e)
kept-Ok false rule next s e = absurd cc

one_of : {B : Type 0} (P : B → Type 0) (b : Bool) (x y : Result B ℕ) → (b ≡ true → (s : B) → x ≡ Ok s → P s) → (b ≡ false → (s : B) → y ≡ Ok s → P s) → (s : B) → (if b then x else y) ≡ Ok s → P s
one_of P true x y f g s e = f refl s e
one_of P false x y f g s e = g refl s e

refused : {B : Type 0} (P : B → Type 0) (rule : ℕ) (s : B) → Err rule ≡ Ok s → P s
refused P rule s e = absurd cc

if_some : {A : Type 0} (b : Bool) (x y : A) → (if b then Some x else None) ≡ Some y → (b ≡ true) × (x ≡ y)
if_some true x y e = (refl, cc)
if_some false x y e = absurd (cc)

-- what is due

first_is : (d : Due) → is_first d ≡ true → d ≡ due.First
first_is due.First e = refl
first_is (due.Arc arc) e = absurd (cc)
first_is (due.Port arc prio) e = absurd (cc)
first_is (due.Hop stream hop) e = absurd (cc)
first_is (due.Bound stream) e = absurd (cc)
first_is due.End e = absurd (cc)

end_is : (d : Due) → is_end d ≡ true → d ≡ due.End
end_is due.First e = absurd (cc)
end_is (due.Arc arc) e = absurd (cc)
end_is (due.Port arc prio) e = absurd (cc)
end_is (due.Hop stream hop) e = absurd (cc)
end_is (due.Bound stream) e = absurd (cc)
end_is due.End e = refl

arc_is : (net : Network) (d : Due) (name : List ℕ) (a : ℕ) → arc_due net d name ≡ Some a → d ≡ due.Arc (record { 0 = a })
arc_is net due.First name a e = absurd (cc)
arc_is net (due.Arc arc) name a e = let is = if_some (is_arc net arc.0 name) arc.0 a e in ap (λ n. due.Arc (record { 0 = n })) is.1
arc_is net (due.Port arc prio) name a e = absurd (cc)
arc_is net (due.Hop stream hop) name a e = absurd (cc)
arc_is net (due.Bound stream) name a e = absurd (cc)
arc_is net due.End name a e = absurd (cc)

port_is : (net : Network) (d : Due) (name : List ℕ) (n : ℕ) (p : ℕ × ℕ) → port_due net d name n ≡ Some p → d ≡ due.Port (record { 0 = p.0 }) p.1
port_is net due.First name n p e = absurd (cc)
port_is net (due.Arc arc) name n p e = absurd (cc)
port_is net (due.Port arc prio) name n p e =
    let pair : ℕ × ℕ = (arc.0, prio) in
    let is = if_some (is_arc net arc.0 name && prio == n) pair p e in
    ap (λ (q : ℕ × ℕ). due.Port (record { 0 = q.0 }) q.1) is.1
port_is net (due.Hop stream hop) name n p e = absurd (cc)
port_is net (due.Bound stream) name n p e = absurd (cc)
port_is net due.End name n p e = absurd (cc)

hop_is : (streams : Streams) (d : Due) (name : List ℕ) (n s : ℕ) → hop_due streams d name n ≡ Some s → d ≡ due.Hop (record { 0 = s }) n
hop_is streams due.First name n s e = absurd (cc)
hop_is streams (due.Arc arc) name n s e = absurd (cc)
hop_is streams (due.Port arc prio) name n s e = absurd (cc)
hop_is streams (due.Hop stream hop) name n s e =
    let is = if_some (is_stream_named streams stream.0 name && hop == n) stream.0 s e in
    let parts = and_parts _ _ is.0 in
    ap (λ m. due.Hop (record { 0 = m }) hop) is.1 ∙ ap (λ m. due.Hop (record { 0 = s }) m) (eqb-true hop n parts.1)
hop_is streams (due.Bound stream) name n s e = absurd (cc)
hop_is streams due.End name n s e = absurd (cc)

bound_is : (streams : Streams) (d : Due) (name : List ℕ) (s : ℕ) → bound_due streams d name ≡ Some s → d ≡ due.Bound (record { 0 = s })
bound_is streams due.First name s e = absurd (cc)
bound_is streams (due.Arc arc) name s e = absurd (cc)
bound_is streams (due.Port arc prio) name s e = absurd (cc)
bound_is streams (due.Hop stream hop) name s e = absurd (cc)
bound_is streams (due.Bound stream) name s e = let is = if_some (is_stream_named streams stream.0 name) stream.0 s e in ap (λ m. due.Bound (record { 0 = m })) is.1
bound_is streams due.End name s e = absurd (cc)

-- what is said

first_fits : (rows : List Row) (version : ℕ) (d : Due) (words : List (List ℕ)) (s : Said) → first_said d words ≡ Ok s → SaidFits rows version d s
first_fits rows version d words s e =
    let w = given-Ok (one words) word_rule _ s e in
    let v = given-Ok (version_of w.0) word_rule _ s w.2 in
    let k = kept-Ok (is_first d) row_rule _ s v.2 in
    let is : said.First v.0 ≡ s = cc (k.1) in
    subst (SaidFits rows version d) is (record { is = tt; due_is = first_is d k.0 })

arc_fits : (net : Network) (rows : List Row) (version : ℕ) (d : Due) (name : List ℕ) (rank : Option ℕ) (largest : ℕ) → is_some rank ≡ not (version == 3) → (version ≡ 1 → ⊥) → (s : Said) → arc_of net d name rank largest ≡ Ok s → SaidFits rows version d s
arc_fits net rows version d name rank largest has newer s e =
    let a = given-Ok (arc_due net d name) row_rule _ s e in
    let k = kept-Ok (is_small (unwrap_or rank 0) && is_small largest) large_rule _ s a.2 in
    let parts = and_parts _ _ k.0 in
    let is : said.Arc (record { arc = record { 0 = a.0 }; rank = rank; largest = largest }) ≡ s = cc (k.1) in
    subst (SaidFits rows version d) is (record { is = (record { rank = leb-true _ _ parts.0; largest = leb-true _ _ parts.1 }, has, λ q. absurd (newer q)); due_is = arc_is net d name a.0 a.1 })

small_largest : (rows : List Row) (arc : ℕ) → old_largest rows arc ≤ limit
small_largest rows arc = both (has_flow rows arc)
  where
    both : (b : Bool) → (if b then 1522 else 0) ≤ limit
    both true = omega arith
    both false = omega arith

old_arc_fits : (net : Network) (rows : List Row) (version : ℕ) (d : Due) (name : List ℕ) (rank : ℕ) → true ≡ not (version == 3) → (s : Said) → old_arc_of net rows d name rank ≡ Ok s → SaidFits rows version d s
old_arc_fits net rows version d name rank has s e =
    let a = given-Ok (arc_due net d name) row_rule _ s e in
    let k = kept-Ok (is_small rank) large_rule _ s a.2 in
    let is : said.Arc (record { arc = record { 0 = a.0 }; rank = Some rank; largest = old_largest rows a.0 }) ≡ s = cc (k.1) in
    subst (SaidFits rows version d) is (record { is = (record { rank = leb-true _ _ k.0; largest = small_largest rows a.0 }, has, λ q. refl); due_is = arc_is net d name a.0 a.1 })

ranked_arc_fits : (net : Network) (rows : List Row) (version : ℕ) (d : Due) (words : List (List ℕ)) → true ≡ not (version == 3) → (version ≡ 1 → ⊥) → (s : Said) → ranked_arc net d words ≡ Ok s → SaidFits rows version d s
ranked_arc_fits net rows version d words has newer s e =
    let w = given-Ok (three words) word_rule _ s e in
    let rank = given-Ok (number_of w.0.1) number_rule _ s w.2 in
    let largest = given-Ok (number_of w.0.2) number_rule _ s rank.2 in
    arc_fits net rows version d w.0.0 (Some rank.0) largest.0 has newer s largest.2

old_line_fits : (net : Network) (rows : List Row) (version : ℕ) (d : Due) (words : List (List ℕ)) → true ≡ not (version == 3) → (s : Said) → old_arc net rows d words ≡ Ok s → SaidFits rows version d s
old_line_fits net rows version d words has s e =
    let w = given-Ok (two words) word_rule _ s e in
    let rank = given-Ok (number_of w.0.1) number_rule _ s w.2 in
    old_arc_fits net rows version d w.0.0 rank.0 has s rank.2

unranked_arc_fits : (net : Network) (rows : List Row) (version : ℕ) (d : Due) (words : List (List ℕ)) → false ≡ not (version == 3) → (version ≡ 1 → ⊥) → (s : Said) → unranked_arc net d words ≡ Ok s → SaidFits rows version d s
unranked_arc_fits net rows version d words has newer s e =
    let w = given-Ok (two words) word_rule _ s e in
    let largest = given-Ok (number_of w.0.1) number_rule _ s w.2 in
    arc_fits net rows version d w.0.0 None largest.0 has newer s largest.2

isnt : (version : ℕ) → (version == 1) ≡ false → version ≡ 1 → ⊥
isnt version other q = true≢false (sym (eq-eqb version 1 q) ∙ other)

arc_said_fits : (net : Network) (rows : List Row) (version : ℕ) (d : Due) (words : List (List ℕ)) (s : Said) → arc_said net rows version d words ≡ Ok s → SaidFits rows version d s
arc_said_fits net rows version d words =
    one_of (SaidFits rows version d) (version == 1) _ _
    (λ first. old_line_fits net rows version d words (sym (ap (λ n. not (n == 3)) (eqb-true version 1 first))))
    (λ not_first. one_of (SaidFits rows version d) (version == 3) _ _
    (λ third. unranked_arc_fits net rows version d words (sym (ap not third)) (isnt version not_first))
    (λ other. ranked_arc_fits net rows version d words (sym (ap not other)) (isnt version not_first)))

port_of_fits : (net : Network) (rows : List Row) (version : ℕ) (d : Due) (name : List ℕ) (prio block work rate delay size : ℕ) (s : Said) → port_of net d name prio block work rate delay size ≡ Ok s → SaidFits rows version d s
port_of_fits net rows version d name prio block work rate delay size s e =
    let p = given-Ok (port_due net d name prio) row_rule _ s e in
    let k = kept-Ok (is_small block && (is_small work && (is_small rate && (is_small delay && is_small size)))) large_rule _ s p.2 in
    let first = and_parts _ _ k.0 in
    let second = and_parts _ _ first.1 in
    let third = and_parts _ _ second.1 in
    let fourth = and_parts _ _ third.1 in
    let is : said.Port (record { arc = record { 0 = p.0.0 }; prio = p.0.1; block = block; work = work; rate = rate; delay = delay; size = size }) ≡ s = cc (k.1) in
    subst (SaidFits rows version d) is
    (record {
      is = record { block = leb-true _ _ first.0; work = leb-true _ _ second.0; rate = leb-true _ _ third.0; delay = leb-true _ _ fourth.0; size = leb-true _ _ fourth.1 };
      due_is = port_is net d name prio p.0 p.1;
    })

port_fits : (net : Network) (rows : List Row) (version : ℕ) (d : Due) (words : List (List ℕ)) (s : Said) → port_said net d words ≡ Ok s → SaidFits rows version d s
port_fits net rows version d words s e =
    let n = given-Ok (split words) word_rule _ s e in
    let w = given-Ok (six n.0.1) word_rule _ s n.2 in
    let prio = given-Ok (number_of w.0.0) number_rule _ s w.2 in
    let block = given-Ok (number_of w.0.1) number_rule _ s prio.2 in
    let work = given-Ok (number_of w.0.2) number_rule _ s block.2 in
    let rate = given-Ok (number_of w.0.3) number_rule _ s work.2 in
    let delay = given-Ok (number_of w.0.4) number_rule _ s rate.2 in
    let size = given-Ok (number_of w.0.5) number_rule _ s delay.2 in
    port_of_fits net rows version d n.0.0 prio.0 block.0 work.0 rate.0 delay.0 size.0 s size.2

hop_fits : (streams : Streams) (version : ℕ) (d : Due) (words : List (List ℕ)) (s : Said) → hop_said streams d words ≡ Ok s → SaidFits streams.rows version d s
hop_fits streams version d words s e =
    let w = given-Ok (three words) word_rule _ s e in
    let hop = given-Ok (number_of w.0.1) number_rule _ s w.2 in
    let burst = given-Ok (number_of w.0.2) number_rule _ s hop.2 in
    let stream = given-Ok (hop_due streams d w.0.0 hop.0) row_rule _ s burst.2 in
    let k = kept-Ok (is_small burst.0) large_rule _ s stream.2 in
    let is : said.Hop (record { stream = record { 0 = stream.0 }; hop = hop.0; burst = burst.0 }) ≡ s = cc (k.1) in
    subst (SaidFits streams.rows version d) is (record { is = leb-true _ _ k.0; due_is = hop_is streams d w.0.0 hop.0 stream.0 stream.1 })

bound_fits : (streams : Streams) (version : ℕ) (d : Due) (words : List (List ℕ)) (s : Said) → bound_said streams d words ≡ Ok s → SaidFits streams.rows version d s
bound_fits streams version d words s e =
    let w = given-Ok (two words) word_rule _ s e in
    let bound = given-Ok (number_of w.0.1) number_rule _ s w.2 in
    let stream = given-Ok (bound_due streams d w.0.0) row_rule _ s bound.2 in
    let k = kept-Ok (is_small bound.0) large_rule _ s stream.2 in
    let is : said.Bound (record { 0 = stream.0 }) bound.0 ≡ s = cc (k.1) in
    subst (SaidFits streams.rows version d) is (record { is = leb-true _ _ k.0; due_is = bound_is streams d w.0.0 stream.0 stream.1 })

end_fits : (rows : List Row) (version : ℕ) (d : Due) (words : List (List ℕ)) (s : Said) → end_said d words ≡ Ok s → SaidFits rows version d s
end_fits rows version d words s e =
    let none = kept-Ok (no_words words) word_rule _ s e in
    let k = kept-Ok (is_end d) row_rule _ s none.1 in
    let is : said.End ≡ s = cc (k.1) in
    subst (SaidFits rows version d) is (record { is = tt; due_is = end_is d k.0 })

pub said_by_fits : (net : Network) (streams : Streams) (version : ℕ) (d : Due) (first : List ℕ) (words : List (List ℕ)) (s : Said) → said_by net streams version d first words ≡ Ok s → SaidFits streams.rows version d s
said_by_fits net streams version d first words =
    one_of (SaidFits streams.rows version d) (bytes_eq first (codes "certificate")) _ _ (λ _. first_fits streams.rows version d words)
    (λ _. one_of (SaidFits streams.rows version d) (bytes_eq first (codes "arc")) _ _ (λ _. arc_said_fits net streams.rows version d words)
    (λ _. one_of (SaidFits streams.rows version d) (bytes_eq first (codes "port")) _ _ (λ _. port_fits net streams.rows version d words)
    (λ _. one_of (SaidFits streams.rows version d) (bytes_eq first (codes "hop")) _ _ (λ _. hop_fits streams version d words)
    (λ _. one_of (SaidFits streams.rows version d) (bytes_eq first (codes "bound")) _ _ (λ _. bound_fits streams version d words)
    (λ _. one_of (SaidFits streams.rows version d) (bytes_eq first (codes "end")) _ _ (λ _. end_fits streams.rows version d words)
    (λ _. refused (SaidFits streams.rows version d) word_rule))))))

-- no number of what is said passes the limit
pub more_small : (rows : List Row) (seen : Seen) (version : ℕ) (s : Said) → AreSmall seen → IsSaid rows version s → AreSmall (with_said seen s)
more_small rows seen version (said.First other) small is = record { each_arc = small.each_arc; each_port = small.each_port; each_hop = small.each_hop; each_bound = small.each_bound }
more_small rows seen version (said.Arc row) small is = record { each_arc = All-push ArcIsWithin seen.rows.arcs row small.each_arc is.0; each_port = small.each_port; each_hop = small.each_hop; each_bound = small.each_bound }
more_small rows seen version (said.Port row) small is = record { each_arc = small.each_arc; each_port = All-push PortIsWithin seen.rows.ports row small.each_port is; each_hop = small.each_hop; each_bound = small.each_bound }
more_small rows seen version (said.Hop row) small is = record { each_arc = small.each_arc; each_port = small.each_port; each_hop = All-push (λ r. r.burst ≤ limit) seen.rows.hops row small.each_hop is; each_bound = small.each_bound }
more_small rows seen version (said.Bound stream bound) small is = record { each_arc = small.each_arc; each_port = small.each_port; each_hop = small.each_hop; each_bound = All-push (λ (r : StreamId × ℕ). r.1 ≤ limit) seen.rows.bounds (stream, bound) small.each_bound is }
more_small rows seen version said.End small is = record { each_arc = small.each_arc; each_port = small.each_port; each_hop = small.each_hop; each_bound = small.each_bound }

pub nothing_small : AreSmall nothing_seen
nothing_small = record { each_arc = All-nil ArcIsWithin; each_port = All-nil PortIsWithin; each_hop = All-nil (λ (r : HopRow). r.burst ≤ limit); each_bound = All-nil (λ (r : StreamId × ℕ). r.1 ≤ limit) }

told_small : (rows : List Row) (line : ℕ) (seen now : Seen) (d : Due) (r : Result Said ℕ) → AreSmall seen → ((s : Said) → r ≡ Ok s → SaidFits rows seen.version d s) → told line seen r ≡ Ok now → AreSmall now
told_small rows line seen now d (Ok s) small fits e = let is : with_said seen s ≡ now = cc in subst AreSmall is (more_small rows seen seen.version s small (fits s refl).is)
told_small rows line seen now d (Err rule) small fits e = absurd cc

due_small : (net : Network) (streams : Streams) (seen now : Seen) (line : ℕ) (first : List ℕ) (words : List (List ℕ)) (o : Option Due) → AreSmall seen → by_due net streams seen line first words o ≡ Ok now → AreSmall now
due_small net streams seen now line first words None small e = absurd cc
due_small net streams seen now line first words (Some d) small e = told_small streams.rows line seen now d (said_by net streams seen.version d first words) small (said_by_fits net streams seen.version d first words) e

words_small : (net : Network) (streams : Streams) (due : List Due) (seen now : Seen) (line : ℕ) (words : List (List ℕ)) → AreSmall seen → after_words net streams due seen line words ≡ Ok now → AreSmall now
words_small net streams due seen now line [] small e = let is : seen ≡ now = cc in subst AreSmall is small
words_small net streams due seen now line (first ∷ words) small e = commented (is_comment first) e
  where
    commented : (b : Bool) → (if b then Ok seen else by_due net streams seen line first words (slice_get due seen.place)) ≡ Ok now → AreSmall now
    commented true h = let is : seen ≡ now = cc in subst AreSmall is small
    commented false h = due_small net streams seen now line first words (slice_get due seen.place) small h

pub line_small : (net : Network) (streams : Streams) (due : List Due) (seen now : Seen) (line : ℕ × List ℕ) → AreSmall seen → after_line net streams due seen line ≡ Ok now → AreSmall now
line_small net streams due seen now line small e = words_small net streams due seen now line.0 (words_of line.1) small e
