-- Which texts make a name of the subset of every name of the source that they stand before.
use Rattle.std.specs.Prelude.{ℕ, Bool, false, not, ◌&&◌, nat_eq, List, [], ◌∷◌}
use Rattle.std.specs.Char.{is_ascii_digit}
use Rattle.bl_tree.specs.Words as words
use Rattle.bl_ctext.specs.Token.{is_word_byte}

-- whether the text is a letter or `_`, with `_` behind it
abbrev pub is_prefix : List ℕ → Bool
is_prefix (b ∷ u ∷ []) = is_word_byte b && (not (is_ascii_digit b) && nat_eq u 95)
is_prefix _ = false

-- whether the text is a name of the source
unfoldable pub is_source_name : List ℕ → Bool
is_source_name text = words.is_name text
