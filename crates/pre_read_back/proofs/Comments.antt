-- Comments before the text of a certificate are skipped.
use Rattle.std.proofs.Common.{◌≡◌, ℕ, ◌+◌, Bool, true, false, ◌==◌, List, [], ◌∷◌, ◌++◌, codes, filter, length, Option}
use Rattle.std.proofs.Common.{Some, None, Result, Ok, Err, refl, ◌∙◌, ap, append_assoc, arith, slice_get, if◌then◌else◌}
use Rattle.std.specs.List.{enumerate_from}
use Rattle.pre_text.specs.Lines.{is_nonempty, lines_of, words_of}
use Rattle.pre_text.specs.Reading.{AreWords, IsWord, joined}
use Rattle.pre_text.proofs.ReadBack.{line_back, words_back}
use Rattle.pre_topo.specs.declared.network.Network.{Network}
use Rattle.pre_streams.specs.declared.rows.Streams.{Streams}
use Rattle.pre_check.specs.declared.due.Due.{Due}
use Rattle.pre_check.specs.declared.saying.Said.{Said}
use Rattle.pre_check.specs.Due.{due_lines}
use Rattle.pre_check.specs.Seen.{Rows, Seen, nothing_seen}
use Rattle.pre_check.specs.Saying.{said_by, end_rule}
use Rattle.pre_text.specs.Words.{is_comment}
use Rattle.pre_check.specs.Reading.{after_line, after_lines, after_words, by_due, ended, then_after, told, until_end}
use Rattle.pre_read_back.specs.ReadBack.{comment_line, comment_lines, AreComments, CommentsAreSkipped}
use Rattle.pre_read_back.proofs.Steps.{rest_read}

hash : IsWord (codes "#")
hash = (omega arith, omega arith, omega arith, tt)

-- what isn't the other way is the first one
first_way : {A : Type 0} (b : Bool) (x y z r : A) → (y ≡ r → ⊥) → (if b then x else y) ≡ r → (if b then x else z) ≡ r
first_way true x y z r never is = is
first_way false x y z r never is = absurd (never is)

module _ (net : Network) (streams : Streams) (due : List Due) where
  -- a comment leaves what was seen

  skipped : (seen : Seen) (n : ℕ) (words : List (List ℕ)) → AreWords words → after_line net streams due seen (n, joined (codes "#") words) ≡ Ok seen
  skipped seen n words are = ap (λ (l : List (List ℕ)). after_words net streams due seen n (filter is_nonempty l)) (words_back (codes "#") words hash are)

  comment_read : (seen : Seen) (n : ℕ) (words : List (List ℕ)) (text : List ℕ) → AreWords words → rest_read net streams due seen n (comment_line words ++ text) ≡ rest_read net streams due seen (n + 1) text
  comment_read seen n words text are =
      ap (λ (l : List (List ℕ)). after_lines net streams due seen (enumerate_from n l)) (line_back (codes "#") words text hash are)
      ∙ ap (λ (q : Result Seen (ℕ × ℕ)). then_after q (λ next. rest_read net streams due next (n + 1) text)) (skipped seen n words are)

  comments_read : (comments : List (List (List ℕ))) (seen : Seen) (n : ℕ) (text : List ℕ) → AreComments comments
      → (m : ℕ) × (rest_read net streams due seen n (comment_lines comments ++ text) ≡ rest_read net streams due seen m text)
  comments_read [] seen n text are = (n, refl)
  comments_read (words ∷ comments) seen n text are =
      let rest = comments_read comments seen (n + 1) text are.1 in (
        rest.0,
        ap (rest_read net streams due seen n) (append_assoc (comment_line words) (comment_lines comments) text)
            ∙ comment_read seen n words (comment_lines comments ++ text) are.0 ∙ rest.1,
      )

  -- the number of a line matters to its fault alone

  told_other : (seen next : Seen) (n m : ℕ) (r : Result Said ℕ) → told n seen r ≡ Ok next → told m seen r ≡ Ok next
  told_other seen next n m (Ok s) e = e
  told_other seen next n m (Err rule) e = absurd cc

  due_other : (seen next : Seen) (n m : ℕ) (first : List ℕ) (words : List (List ℕ)) (d : Option Due) → by_due net streams seen n first words d ≡ Ok next → by_due net streams seen m first words d ≡ Ok next
  due_other seen next n m first words None e = absurd cc
  due_other seen next n m first words (Some d) e = told_other seen next n m (said_by net streams seen.version d first words) e

  words_other : (seen next : Seen) (n m : ℕ) (words : List (List ℕ)) → after_words net streams due seen n words ≡ Ok next → after_words net streams due seen m words ≡ Ok next
  words_other seen next n m [] e = e
  words_other seen next n m (first ∷ words) e = by (is_comment first) e
    where
      by : (b : Bool) → (if b then Ok seen else by_due net streams seen n first words (slice_get due seen.place)) ≡ Ok next → (if b then Ok seen else by_due net streams seen m first words (slice_get due seen.place)) ≡ Ok next
      by true e = e
      by false e = due_other seen next n m first words (slice_get due seen.place) e

  lines_other : (lines : List (List ℕ)) (seen last : Seen) (n m : ℕ) → after_lines net streams due seen (enumerate_from n lines) ≡ Ok last → after_lines net streams due seen (enumerate_from m lines) ≡ Ok last
  lines_other [] seen last n m e = e
  lines_other (line ∷ lines) seen last n m e = by (after_line net streams due seen (n, line)) refl (λ next rest. lines_other lines next last (n + 1) (m + 1) rest) e
    where
      by : (r : Result Seen (ℕ × ℕ)) → after_line net streams due seen (n, line) ≡ r
          → ((next : Seen) → after_lines net streams due next (enumerate_from (n + 1) lines) ≡ Ok last → after_lines net streams due next (enumerate_from (m + 1) lines) ≡ Ok last)
          → then_after r (λ s. after_lines net streams due s (enumerate_from (n + 1) lines)) ≡ Ok last
          → then_after (after_line net streams due seen (m, line)) (λ s. after_lines net streams due s (enumerate_from (m + 1) lines)) ≡ Ok last
      by (Ok next) same further rest =
          ap (λ (q : Result Seen (ℕ × ℕ)). then_after q (λ s. after_lines net streams due s (enumerate_from (m + 1) lines))) (words_other seen next n m (words_of line) same)
          ∙ further next rest
      by (Err fault) same further rest = absurd cc

  -- where all was read, the count of lines doesn't matter
  count_other : (seen : Seen) (count other : ℕ) (rows : Rows) → until_end due count seen ≡ Ok rows → until_end due other seen ≡ Ok rows
  count_other seen count other rows e = first_way (seen.place == length due) (Ok seen.rows) (Err (count + 1, end_rule)) (Err (other + 1, end_rule)) (Ok rows) (λ is. cc) e

  all_read : (comments : List (List (List ℕ))) (text : List ℕ) (rows : Rows) (count other : ℕ) → AreComments comments → ended due count (rest_read net streams due nothing_seen 1 text) ≡ Ok rows
      → ended due other (rest_read net streams due nothing_seen 1 (comment_lines comments ++ text)) ≡ Ok rows
  all_read comments text rows count other are e = by (rest_read net streams due nothing_seen 1 text) refl e
    where
      by : (r : Result Seen (ℕ × ℕ)) → rest_read net streams due nothing_seen 1 text ≡ r → ended due count r ≡ Ok rows → ended due other (rest_read net streams due nothing_seen 1 (comment_lines comments ++ text)) ≡ Ok rows
      by (Ok seen) same all =
          let rest = comments_read comments nothing_seen 1 text are in
          ap (ended due other) (rest.1 ∙ lines_other (lines_of text) nothing_seen seen 1 rest.0 same) ∙ count_other seen count other rows all
      by (Err fault) same all = absurd cc

pub comments_skipped : CommentsAreSkipped
comments_skipped net streams comments text rows are e =
    all_read net streams (due_lines net streams.rows) comments text rows (length (lines_of text)) (length (lines_of (comment_lines comments ++ text))) are e
