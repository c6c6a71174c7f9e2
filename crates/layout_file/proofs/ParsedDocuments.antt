-- The document that octets are, by what the parser says.
use Rattle.std.proofs.Common.{◌≡◌, ℕ, List, None, Some, inl, inr, IsUtf8}
use Rattle.std.specs.Str.{is_utf8}
use Rattle.std.proofs.lemmas.Str.{IsUtf8-from_is_utf8, is_utf8-from_IsUtf8}
use Rattle.std.proofs.lemmas.Bool.{cases_Bool}
use Rattle.toml.specs.Data.{Members}
use Rattle.toml.specs.Parse.{parse_document}
use Rattle.layout_file.specs.Faults.{document}

pub document-some : (bytes : List ℕ) (ms : Members) → IsUtf8 bytes → parse_document bytes ≡ Some ms → document bytes ≡ Some ms
document-some bytes ms u e = rw (is_utf8-from_IsUtf8 bytes u) e

pub document-none : (bytes : List ℕ) → (IsUtf8 bytes → parse_document bytes ≡ None) → document bytes ≡ None
document-none bytes h =
    elim (cases_Bool (is_utf8 bytes)) [
      | inl text ↦ rw text (h (IsUtf8-from_is_utf8 bytes text))
      | inr other ↦ rw other
    ]
