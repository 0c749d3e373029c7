-- One written line is read where it is due, and so are those of many rows.
use Rattle.std.proofs.Common.{◌≡◌, ℕ, suc, ◌+◌, true, false, List, [], ◌∷◌, ◌++◌, filter, length, map, Some, Result, Ok}
use Rattle.std.proofs.Common.{refl, sym, ◌∙◌, ap, subst, append_assoc, arith, slice_get}
use Rattle.std.specs.List.{enumerate_from, flat_map}
use Rattle.std.proofs.lemmas.List.{length_push}
use Rattle.std.proofs.lemmas.List.Concat.{flat_map-cons}
use Rattle.pre_text.specs.Lines.{is_nonempty, lines_of, words_of}
use Rattle.pre_text.specs.Reading.{AreWords, IsWord, joined}
use Rattle.pre_text.specs.Writing.{line_of}
use Rattle.pre_text.proofs.ReadBack.{line_back, words_back}
use Rattle.pre_topo.specs.declared.network.Network.{Network}
use Rattle.pre_streams.specs.declared.rows.Streams.{Streams}
use Rattle.pre_check.specs.declared.due.Due.{Due}
use Rattle.pre_check.specs.declared.saying.Said.{Said}
use Rattle.pre_check.specs.Seen.{Seen, with_said}
use Rattle.pre_check.specs.Saying.{said_by}
use Rattle.pre_text.specs.Words.{is_comment}
use Rattle.pre_check.specs.Reading.{after_line, after_lines, after_words, then_after}

-- a word that isn't empty
abbrev pub IsFilled : List ℕ → Type 0
IsFilled word = IsWord word × (is_nonempty word ≡ true)

abbrev pub AreFilled : List (List ℕ) → Type 0
AreFilled [] = Unit {0}
AreFilled (word ∷ words) = IsFilled word × AreFilled words

are_words : (words : List (List ℕ)) → AreFilled words → AreWords words
are_words [] h = tt
are_words (word ∷ words) h = (h.0.0, are_words words h.1)

all_kept : (words : List (List ℕ)) → AreFilled words → filter is_nonempty words ≡ words
all_kept [] h = refl
all_kept (word ∷ words) h = rw (h.0.1, all_kept words h.1) refl

-- the line says this where it is the one that is due, of a text of the version
pub record Reads (net : Network) (streams : Streams) (version : ℕ) (d : Due) (line : List ℕ) (s : Said) : Type 0 where
  pub first : List ℕ
  pub words : List (List ℕ)
  pub line_is : line ≡ line_of first words
  pub first_filled : IsFilled first
  pub filled : AreFilled words
  pub plain : is_comment first ≡ false
  pub says : said_by net streams version d first words ≡ Ok s

-- these lines are due from the place on
pub record Stands (due : List Due) (place : ℕ) (left : List Due) : Type 0 where
  pub front : List Due
  pub is : due ≡ front ++ left
  pub long : length front ≡ place

behind_front : (front : List Due) (d : Due) (left : List Due) → slice_get (front ++ d ∷ left) (length front) ≡ Some d
behind_front [] d left = refl
behind_front (x ∷ front) d left = behind_front front d left

stands_at : (due : List Due) (place : ℕ) (d : Due) (left : List Due) → Stands due place (d ∷ left) → slice_get due place ≡ Some d
stands_at due place d left h = subst (λ n. slice_get due n ≡ Some d) h.long (ap (λ l. slice_get l (length h.front)) h.is ∙ behind_front h.front d left)

pub stands_next : (due : List Due) (place next : ℕ) (d : Due) (left : List Due) → next ≡ place + 1 → Stands due place (d ∷ left) → Stands due next left
stands_next due place next d left e h = record {
  front = h.front ++ d ∷ [];
  is = h.is ∙ sym (append_assoc h.front (d ∷ []) left);
  long = omega (arith, length_push h.front d, h.long, e);
}

-- what was seen behind each of the rows
abbrev pub seen_after : {X : Type 0} → (X → Said) → Seen → List X → Seen
seen_after say seen [] = seen
seen_after say seen (x ∷ xs) = seen_after say (with_said seen (say x)) xs

-- what a row says leaves the version, and is one more line
pub record SaysRows {X : Type 0} (say : X → Said) : Type 0 where
  pub version : (seen : Seen) (x : X) → (with_said seen (say x)).version ≡ seen.version
  pub place : (seen : Seen) (x : X) → (with_said seen (say x)).place ≡ seen.place + 1

module _ (net : Network) (streams : Streams) (due : List Due) where
  -- the rest of a text, read from a line on
  abbrev pub rest_read : Seen → ℕ → List ℕ → Result Seen (ℕ × ℕ)
  rest_read seen n text = after_lines net streams due seen (enumerate_from n (lines_of text))

  line_read : (seen : Seen) (n : ℕ) (d : Due) (line : List ℕ) (s : Said) → slice_get due seen.place ≡ Some d → (r : Reads net streams seen.version d line s)
      → after_line net streams due seen (n, joined r.first r.words) ≡ Ok (with_said seen s)
  line_read seen n d line s at r =
      let words : words_of (joined r.first r.words) ≡ r.first ∷ r.words
      = ap (filter is_nonempty) (words_back r.first r.words r.first_filled.0 (are_words r.words r.filled)) ∙ all_kept (r.first ∷ r.words) (r.first_filled, r.filled) in
      ap (after_words net streams due seen n) words ∙ rw (r.plain, at, r.says) refl

  pub step : (seen : Seen) (n : ℕ) (d : Due) (line : List ℕ) (s : Said) (rest : List ℕ) (left : List Due) → Reads net streams seen.version d line s → Stands due seen.place (d ∷ left)
      → rest_read seen n (line ++ rest) ≡ rest_read (with_said seen s) (n + 1) rest
  step seen n d line s rest left r stands =
      ap (λ l. rest_read seen n (l ++ rest)) r.line_is
      ∙ ap (λ (l : List (List ℕ)). after_lines net streams due seen (enumerate_from n l)) (line_back r.first r.words rest r.first_filled.0 (are_words r.words r.filled))
      ∙ ap (λ (q : Result Seen (ℕ × ℕ)). then_after q (λ next. rest_read next (n + 1) rest)) (line_read seen n d line s (stands_at due seen.place d left stands) r)

  -- the lines of rows of one kind were read
  pub record RowsRead {X : Type 0} (line : X → List ℕ) (say : X → Said) (xs : List X) (rest : List ℕ) (n : ℕ) (seen : Seen) (left : List Due) : Type 0 where
    pub next : ℕ
    pub read : rest_read seen n (flat_map line xs ++ rest) ≡ rest_read (seen_after say seen xs) next rest
    pub stands : Stands due (seen_after say seen xs).place left

  -- they are where each of them says its row, and they are due
  pub rows_read : {X : Type 0} (line : X → List ℕ) (key : X → Due) (say : X → Said) (version : ℕ) (xs : List X) → SaysRows say
      → ((i : ℕ) (x : X) → slice_get xs i ≡ Some x → Reads net streams version (key x) (line x) (say x))
      → (rest : List ℕ) (n : ℕ) (seen : Seen) (left : List Due) → seen.version ≡ version → Stands due seen.place (map key xs ++ left) → RowsRead line say xs rest n seen left
  rows_read line key say version [] says each rest n seen left is stands = record { next = n; read = refl; stands = stands }
  rows_read line key say version (x ∷ xs) says each rest n seen left is stands =
      let now : Seen = with_said seen (say x) in
      let behind = stands_next due seen.place now.place (key x) (map key xs ++ left) (says.place seen x) stands in
      let more = rows_read line key say version xs says (λ i y at. each (suc i) y at) rest (n + 1) now left (says.version seen x ∙ is) behind in
      let first = subst (λ v. Reads net streams v (key x) (line x) (say x)) (sym is) (each 0 x refl) in
      let text : flat_map line (x ∷ xs) ++ rest ≡ line x ++ (flat_map line xs ++ rest)
      = ap (λ (l : List ℕ). l ++ rest) (flat_map-cons line x xs) ∙ append_assoc (line x) (flat_map line xs) rest in
      record {
        next = more.next;
        read = ap (rest_read seen n) text ∙ step seen n (key x) (line x) (say x) (flat_map line xs ++ rest) (map key xs ++ left) first stands ∙ more.read;
        stands = more.stands;
      }

pub kept : {X : Type 0} (say : X → Said) → SaysRows say → (xs : List X) (seen : Seen) → (seen_after say seen xs).version ≡ seen.version
kept say says [] seen = refl
kept say says (x ∷ xs) seen = kept say says xs (with_said seen (say x)) ∙ says.version seen x
