-- The text of each status of the program that draws pictures.
use Rattle.std.specs.Prelude.{ℕ, List, codes}
use Rattle.pre_cli.specs.declared.statuses.Status.{Status}
use Rattle.pre_cli.specs.declared.statuses.Status.TheVariants as status
use Rattle.pre_cli.specs.Statuses.{text_of}

-- the answer for wrong words
unfoldable pub usage : List ℕ
usage = codes "usage: preempt_picture run, queue or bounds"

-- that of `preempt`, but for wrong words
abbrev pub picture_text_of : Status → List ℕ
picture_text_of status.Words = usage
picture_text_of s = text_of s
