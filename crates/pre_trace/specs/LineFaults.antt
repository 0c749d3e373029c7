-- What is wrong with a line of a trace: which words are due in it, and the first fault of those that stand there.
use Rattle.std.specs.Prelude.{ℕ, Bool, true, ◌^◌, List, [], ◌∷◌, map, codes, Option, Some, None, is_some, option_map, Result, Ok, Err, if◌then◌else◌}
use Rattle.std.specs.List.{list_all}
use Rattle.std.specs.Str.{bytes_eq}
use Rattle.pre_base.specs.declared.limits.TheConstants.{GREATEST_FRAME}
use Rattle.pre_text.specs.Lines.{words_of}
use Rattle.pre_text.specs.Words.{number_of}
use Rattle.pre_topo.specs.declared.network.Network.{Network}
use Rattle.pre_topo.specs.Named.{arc_named}
use Rattle.pre_script.specs.Saying.{setting_of}
use Rattle.pre_trace.specs.declared.words.EventFault.{EventFault}
use Rattle.pre_trace.specs.declared.words.EventFault.TheVariants.{Word, Number, Name, Hex}
use Rattle.pre_trace.specs.Values.{check_of, has_single_spaces, kind_of, lower_case_pairs, node_named, number_below, outcome_of, what_of, yes_of}

-- what a word is to be: a number, one below a limit, the name of an arc or node, what an mPacket carries, the four octets of
-- a check, the octets of a frame; or one of the words listed for a setting, a state, a result or a kind of mPacket
pub data Part : Type 0 where
  number : Part
  bounded : ℕ → Part
  arc : Part
  node : Part
  what : Part
  check : Part
  octets : Part
  setting : Part
  state : Part
  result : Part
  kind : Part

abbrev pub is_listed : Part → List ℕ → Bool
is_listed Part.setting word = is_some (setting_of word)
is_listed Part.state word = is_some (yes_of word)
is_listed Part.result word = is_some (outcome_of word)
is_listed Part.kind word = is_some (kind_of word)
is_listed other word = true

abbrev pub missing : {A : Type 0} → Option A → EventFault → Option EventFault
missing None fault = Some fault
missing (Some x) fault = None

abbrev pub fault_at : Network → Part → List ℕ → Option EventFault
fault_at net Part.number word = missing (number_of word) Number
fault_at net (Part.bounded limit) word = missing (number_below limit word) Number
fault_at net Part.arc word = missing (arc_named net word) Name
fault_at net Part.node word = missing (node_named net word) Name
fault_at net Part.what word = missing (what_of word) Number
fault_at net Part.check word = missing (check_of word) Hex
fault_at net Part.octets word = missing (lower_case_pairs GREATEST_FRAME word) Hex
fault_at net other word = None

-- each word with what it is to be, where there are as many
abbrev pub paired : List Part → List (List ℕ) → Option (List (Part × List ℕ))
paired [] [] = Some []
paired [] (word ∷ words) = None
paired (part ∷ parts) [] = None
paired (part ∷ parts) (word ∷ words) = option_map (λ rest. (part, word) ∷ rest) (paired parts words)

abbrev pub first_of : List (Option EventFault) → Option EventFault
first_of [] = None
first_of (None ∷ faults) = first_of faults
first_of (Some fault ∷ faults) = Some fault

-- first whether each word that is to be a listed one is so, and then the leftmost fault of another kind
abbrev pub fault_of_pairs : Network → Option (List (Part × List ℕ)) → Option EventFault
fault_of_pairs net None = Some Word
fault_of_pairs net (Some pairs) = if list_all (λ p. is_listed p.0 p.1) pairs then first_of (map (λ p. fault_at net p.0 p.1) pairs) else Some Word

abbrev pub fault_in : Network → List Part → List (List ℕ) → Option EventFault
fault_in net parts words = fault_of_pairs net (paired parts words)

-- what the words behind the kind are to be
abbrev pub parts_of : List ℕ → Option (List Part)
parts_of name =
    if bytes_eq name (codes "set") then Some (Part.arc ∷ Part.setting ∷ [])
    else if bytes_eq name (codes "begin") then Some (Part.arc ∷ Part.number ∷ Part.kind ∷ Part.what ∷ Part.bounded (2 ^ 16) ∷ [])
    else if bytes_eq name (codes "ended") then Some (Part.arc ∷ Part.number ∷ Part.bounded (2 ^ 16) ∷ Part.check ∷ [])
    else if bytes_eq name (codes "arrive") then Some (Part.arc ∷ Part.number ∷ Part.result ∷ [])
    else if bytes_eq name (codes "deliver") then Some (Part.node ∷ Part.bounded (2 ^ 32) ∷ Part.octets ∷ [])
    else if bytes_eq name (codes "active") then Some (Part.arc ∷ Part.state ∷ [])
    else if bytes_eq name (codes "enter") then Some (Part.arc ∷ Part.bounded 8 ∷ Part.bounded (2 ^ 32) ∷ [])
    else if bytes_eq name (codes "dropped") then Some (Part.arc ∷ Part.bounded 8 ∷ Part.bounded (2 ^ 32) ∷ [])
    else if bytes_eq name (codes "end") then Some (Part.number ∷ Part.number ∷ Part.number ∷ [])
    else None

-- and behind `count`
abbrev pub count_parts : List Part
count_parts = Part.arc ∷ Part.number ∷ Part.number ∷ Part.number ∷ Part.number ∷ Part.number ∷ []

-- the tick stands before the kind
abbrev pub fault_by : Network → List ℕ → Option (List Part) → List (List ℕ) → Option EventFault
fault_by net tick None words = Some Word
fault_by net tick (Some parts) words = fault_in net (Part.number ∷ parts) (tick ∷ words)

abbrev pub fault_after : Network → List ℕ → List (List ℕ) → Option EventFault
fault_after net tick [] = Some Word
fault_after net tick (name ∷ words) = fault_by net tick (parts_of name) words

abbrev pub fault_of_words : Network → List (List ℕ) → Option EventFault
fault_of_words net [] = Some Word
fault_of_words net (first ∷ words) = if bytes_eq first (codes "count") then fault_in net count_parts words else fault_after net first words

-- the first fault of a line, where it has one
abbrev pub first_fault : Network → List ℕ → Option EventFault
first_fault net line = if has_single_spaces line then fault_of_words net (words_of line) else Some Word

abbrev pub fault_of : {A : Type 0} → Result A EventFault → Option EventFault
fault_of (Ok x) = None
fault_of (Err fault) = Some fault
