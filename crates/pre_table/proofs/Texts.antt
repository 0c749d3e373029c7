-- What a text is, by what its octets spell.
use Rattle.std.proofs.Common.{◌≡◌, ℕ, Bool, true, false, List, Option, None, refl, sym}
use Rattle.std.specs.Str.{IsUtf8, is_utf8}
use Rattle.std.proofs.lemmas.Str.{IsUtf8-from_is_utf8, is_utf8-from_IsUtf8}
use Rattle.toml.specs.Data.{Members}
use Rattle.toml.specs.Parse.{parse_document}
use Rattle.pre_table.specs.Documents.{document_of}

pub document_is : (text : List ℕ) (due : Option Members) → IsUtf8 text → parse_document text ≡ due → document_of text ≡ due
document_is text due utf8 parsed = rw (is_utf8-from_IsUtf8 text utf8) parsed

pub no_document : (text : List ℕ) → ¬ IsUtf8 text → document_of text ≡ None
no_document text not = by_cases (is_utf8 text) refl
  where
    by_cases : (b : Bool) → b ≡ is_utf8 text → document_of text ≡ None
    by_cases true is = absurd (not (IsUtf8-from_is_utf8 text (sym is)))
    by_cases false is = rw (← is) refl
