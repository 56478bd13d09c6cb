-- Bytes cut into tokens, as the writer sees what it has written.
use Rattle.std.specs.Prelude.{Bool, IsTrue, List, cond, drop, false, length, map, not, true, ℕ, ◌&&◌, ◌++◌, ◌==◌, ◌||◌, ◌∷◌, ◌≡◌, []}
use Rattle.bl_tree.specs.Reduce.{all_of}
use Rattle.bl_ctext.specs.Prelude.{prelude}
use Rattle.bl_ctext.specs.Token.{Token, is_blank, is_double_sign, is_token, is_word_byte}
use Rattle.bl_ctext.specs.Token.{put_before}

-- whether two neighbours may stand in one token
abbrev pub joins : ℕ → ℕ → Bool
joins a b = is_word_byte a && is_word_byte b || is_double_sign a b

-- whether a byte and the first of some bytes may stand in one token
abbrev pub may_continue : ℕ → List ℕ → Bool
may_continue a [] = false
may_continue a (b ∷ bs) = joins a b

-- the tokens with one more byte before them: a blank is no part of them, and another byte goes on into the first or not
abbrev pub cut_before : (blank on : Bool) → ℕ → List Token → List Token
cut_before true on b tokens = tokens
cut_before false true b tokens = put_before b tokens
cut_before false false b tokens = (b ∷ []) ∷ tokens

-- the bytes without white space, cut between two neighbours that stand in no one token
abbrev pub tokens_in : List ℕ → List Token
tokens_in [] = []
tokens_in (b ∷ bs) = cut_before (is_blank b) (may_continue b bs) b (tokens_in bs)

-- whether each of the pieces is a token
abbrev pub are_tokens : List Token → Bool
are_tokens tokens = all_of (map is_token tokens)

-- whether the last of the bytes and the first of the next ones may stand in one token
abbrev pub may_merge : List ℕ → List ℕ → Bool
may_merge [] next = false
may_merge (b ∷ []) next = may_continue b next
may_merge (b ∷ c ∷ bs) next = may_merge (c ∷ bs) next

-- whether a byte may stand behind another one in a token
abbrev pub may_follow : ℕ → Bool
may_follow b = is_word_byte b || (b == 61 || (b == 38 || b == 124))

-- whether bytes begin with none that may stand behind another one in a token
abbrev pub begins_apart : List ℕ → Bool
begins_apart [] = true
begins_apart (b ∷ bs) = not (may_follow b)

-- whether bytes hold tokens, whatever stands before them
abbrev pub is_piece : List ℕ → Bool
is_piece bytes = begins_apart bytes && are_tokens (tokens_in bytes)

-- the bytes, and a space where the next bytes would continue their last token
unfoldable pub parted : List ℕ → List ℕ → List ℕ
parted bytes next = cond (may_merge bytes next) (bytes ++ 32 ∷ []) bytes

-- the bytes behind the prelude
unfoldable pub behind_prelude : List ℕ → List ℕ
behind_prelude bytes = drop (length prelude) bytes

-- the bytes are the prelude and then tokens
pub record IsText (bytes : List ℕ) : Type 0 where
  pub begins : bytes ≡ prelude ++ behind_prelude bytes
  pub tokens : IsTrue (are_tokens (tokens_in (behind_prelude bytes)))
