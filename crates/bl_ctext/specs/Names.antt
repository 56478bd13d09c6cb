-- Which words name something in a text of the C subset.
use Rattle.std.specs.Prelude.{ℕ, Bool, false, not, ◌&&◌, ◌||◌, ◌==◌, nat_eq, List, [], ◌∷◌, map, codes}
use Rattle.std.specs.Char.{is_ascii_digit}
use Rattle.std.specs.List.{starts_with}
use Rattle.std.specs.Cmp.Lexicographic.{pointwise}
use Rattle.bl_tree.specs.Reduce.{all_of, any_of}
use Rattle.bl_ctext.specs.Builtins.{builtins}
use Rattle.bl_ctext.specs.Token.{is_word}

-- whether the word is in the list
unfoldable pub is_among : List ℕ → List (List ℕ) → Bool
is_among word words = any_of (map (λ w. pointwise nat_eq w word) words)

-- the words of the grammar that don't begin with `bl_`
abbrev pub grammar_words : List (List ℕ)
grammar_words =
    codes "bool" ∷ codes "true" ∷ codes "false" ∷ codes "static" ∷ codes "struct" ∷ codes "void" ∷ codes "if" ∷ codes "else"
    ∷ codes "while" ∷ codes "break"
    ∷ codes "return" ∷
    codes "int8_t" ∷ codes "int16_t" ∷ codes "int32_t" ∷ codes "int64_t" ∷
    codes "uint8_t" ∷ codes "uint16_t" ∷ codes "uint32_t" ∷ codes "uint64_t" ∷
    codes "INT8_C" ∷ codes "INT16_C" ∷ codes "INT32_C" ∷ codes "INT64_C" ∷
    codes "INT8_MIN" ∷ codes "INT16_MIN" ∷ codes "INT32_MIN" ∷ codes "INT64_MIN" ∷
    codes "UINT8_C" ∷ codes "UINT16_C" ∷ codes "UINT32_C" ∷ codes "UINT64_C" ∷ []

-- the keywords of C99
abbrev pub c_keywords : List (List ℕ)
c_keywords =
    codes "auto" ∷ codes "break" ∷ codes "case" ∷ codes "char" ∷ codes "const" ∷ codes "continue" ∷ codes "default" ∷ codes "do"
    ∷ codes "double"
    ∷ codes "else" ∷
    codes "enum" ∷ codes "extern" ∷ codes "float" ∷ codes "for" ∷ codes "goto" ∷ codes "if" ∷ codes "inline" ∷ codes "int"
    ∷ codes "long" ∷ codes "register" ∷
    codes "restrict" ∷ codes "return" ∷ codes "short" ∷ codes "signed" ∷ codes "sizeof" ∷ codes "static" ∷ codes "struct"
    ∷ codes "switch" ∷ codes "typedef"
    ∷ codes "union" ∷
    codes "unsigned" ∷ codes "void" ∷ codes "volatile" ∷ codes "while" ∷ codes "_Bool" ∷ codes "_Complex" ∷ codes "_Imaginary" ∷ []

-- whether the word begins with a digit
abbrev pub begins_with_digit : List ℕ → Bool
begins_with_digit [] = false
begins_with_digit (b ∷ bs) = is_ascii_digit b

-- whether a word is a name: it begins with neither a digit nor `bl_`, and isn't a word of the grammar, a keyword of C99 or `abort`
unfoldable pub is_name : List ℕ → Bool
is_name word =
    is_word word && (not (begins_with_digit word) && (not (starts_with nat_eq word (codes "bl_")) &&
    (not (is_among word grammar_words) && (not (is_among word c_keywords) && not (is_among word (codes "abort" ∷ []))))))

-- whether a word may name a struct: a name, or that of the state, of the inputs or of the outputs
unfoldable pub is_struct_name : List ℕ → Bool
is_struct_name word = is_name word || is_among word (codes "bl_state" ∷ codes "bl_in" ∷ codes "bl_out" ∷ [])

-- whether a word may name a function: a name, or that of one of the two functions that are called from outside
unfoldable pub is_function_name : List ℕ → Bool
is_function_name word = is_name word || is_among word (codes "bl_init" ∷ codes "bl_tick" ∷ [])

-- the names of the prelude's functions
abbrev pub prelude_functions : List (List ℕ)
prelude_functions = map (λ e. e.0) builtins

-- whether a word may be called: a name, or that of a function of the prelude
unfoldable pub is_callee : List ℕ → Bool
is_callee word = is_name word || is_among word prelude_functions

-- the name of a loop's counter of turns: `t` and one or more digits
unfoldable pub is_turn_name : List ℕ → Bool
is_turn_name [] = false
is_turn_name (t ∷ digits) = t == 116 && (is_word digits && all_of (map is_ascii_digit digits))
