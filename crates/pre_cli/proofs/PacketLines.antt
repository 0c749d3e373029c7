-- Reading a file of mPackets line by line.
use Rattle.std.proofs.Common.{◌≡◌, ℕ, ◌≤◌, List, ◌++◌, length, take, drop, Option, None, Some, Result, Ok, Err, refl, sym, ◌∙◌, ap, arith, length-append}
use Rattle.std.specs.Prelude.{option_map}
use Rattle.std.specs.Option.{option_map_or}
use Rattle.std.proofs.Math.Seq.{take-append_seam}
use Rattle.pre_cli.specs.declared.packet_files.PacketFault.{PacketFault}
use Rattle.pre_cli.specs.declared.packet_files.PacketFault.TheVariants.{Line, Memory}
use Rattle.pre_cli.specs.PacketFiles.{ReadsAs, LineReadsAs, then_lines}

-- ---- the octets of a word

pub no_octets : (o : Option (List ℕ)) → None ≡ option_map (λ (xs : List ℕ). length xs) o → None ≡ o
no_octets None is = refl
no_octets (Some xs) is = absurd (cc is)

pub some_octets : (o : Option (List ℕ)) (n : ℕ) (old new : List ℕ) → Some n ≡ option_map (λ (xs : List ℕ). length xs) o
    → new ≡ option_map_or (λ (xs : List ℕ). xs ++ drop (length xs) old) o old → (n ≤ length new) × (Some (take n new) ≡ o)
some_octets None n old new is written = absurd (cc is)
some_octets (Some xs) n old new is written =
    let count : n ≡ length xs = cc is in
    let front : take n new ≡ xs = ap (take n) written ∙ (ap (λ k. take k (xs ++ drop (length xs) old)) count ∙ take-append_seam xs (drop (length xs) old)) in
    (omega (arith, count, ap length written, length-append xs (drop (length xs) old)), ap Some front)

-- ---- a line

-- one that was read well
pub line_goes : (found : List (List ℕ)) (due : Result (List (List ℕ)) ℕ) → LineReadsAs (Ok tt) found due → due ≡ Ok found
line_goes found (Ok more) is = ap Ok (sym is)
line_goes found (Err line) is = absurd is

-- one that wasn't ends the whole
pub line_stops : (e : PacketFault) (found : List (List ℕ)) (due : Result (List (List ℕ)) ℕ) (next : List (List ℕ) → Result (List (List ℕ)) ℕ) (whole : Result (List (List ℕ)) ℕ)
    → LineReadsAs (Err e) found due → then_lines due next ≡ whole → ReadsAs (Err e) whole
line_stops (Line line) found (Ok more) next whole is same = absurd is
line_stops (Line line) found (Err at) next (Ok more) is same = absurd (cc same)
line_stops (Line line) found (Err at) next (Err whole) is same = is ∙ cc same
line_stops Memory found due next whole is same = tt

pub all_read : (found : List (List ℕ)) (whole : Result (List (List ℕ)) ℕ) → Ok found ≡ whole → ReadsAs (Ok found) whole
all_read found (Ok more) same = cc same
all_read found (Err line) same = absurd (cc same)
