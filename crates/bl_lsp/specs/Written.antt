-- The bytes of a message that the server sends.
use Rattle.std.specs.Prelude.{◌≡◌, ◌≤◌, ℕ, false, List, [], ◌∷◌, ◌++◌, length, codes, decimal, Some}
use Rattle.serde_json.specs.Data.{Data, depth}
use Rattle.serde_json.specs.Read.{max_depth, read}
use Rattle.serde_json.specs.Written.{compact_text, has_float}

-- a content behind its header, which ends with an empty line
abbrev pub with_header : List ℕ → List ℕ
with_header content = codes "Content-Length: " ++ (decimal (length content) ++ (13 ∷ 10 ∷ 13 ∷ 10 ∷ content))

-- the bytes are a message with this data: its text without blanks where no number is a fraction, and in each case a text that reads as it
pub record IsMessage (message : Data) (bytes : List ℕ) : Type 0 where
  pub content : List ℕ
  pub framed : bytes ≡ with_header content
  pub text : has_float message ≡ false → content ≡ compact_text message
  pub reads : depth message ≤ max_depth → read content ≡ Some message
