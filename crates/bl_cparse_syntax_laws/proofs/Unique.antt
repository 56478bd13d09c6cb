-- Bytes are spaced into tokens in one way: into their pieces.
use Rattle.std.proofs.Common.{◌≡◌, ℕ, ◌≤◌, true, false, List, [], ◌∷◌, ◌++◌, length, map, refl, sym, ap, ◌∙◌, append-nil, append_assoc, inl, inr, arith}
use Rattle.std.proofs.lemmas.Bool.Decides.{nat_tests}
use Rattle.std.proofs.lemmas.List.{length-append}
use Rattle.std.proofs.lemmas.Bool.{false_from_ne_true, or_left, or_right}
use Rattle.bl_tree.proofs.Basics.{and_first, and_second, either_of}
use Rattle.bl_tree.specs.Reduce.{all_of}
use Rattle.bl_ctext.specs.Token.{Token, is_blank, is_word_byte, is_sign_byte, is_double_sign, is_word, is_sign, is_token, IsLongest, SpacedC}
use Rattle.bl_ctext.proofs.Bytes.{sign_byte-not_blank}
use Rattle.bl_cparse_syntax.specs.Pieces.{pieces}
use Rattle.bl_cparse_syntax.proofs.PieceLemmas.{blank_first, begins_word, word_more, word_pieces, begins_pair, single_piece, pair_pieces}

blanks_first : (blanks rest : List ℕ) → all_of (map is_blank blanks) ≡ true → pieces (blanks ++ rest) ≡ pieces rest
blanks_first [] rest h = refl
blanks_first (b ∷ bs) rest h = blank_first b (bs ++ rest) (and_first _ _ h) ∙ blanks_first bs rest (and_second _ _ h)

all_blank : (text : List ℕ) → all_of (map is_blank text) ≡ true → pieces text ≡ []
all_blank text h = ap pieces (sym (append-nil text)) ∙ blanks_first text [] h

-- the longest token goes on by no byte
no_longer : (t : Token) (c : ℕ) (rest : List ℕ) → IsLongest t (c ∷ rest) → is_token (t ++ c ∷ []) ≡ true → ⊥
no_longer t c rest longest token =
    let short : length (t ++ c ∷ []) ≤ length t = longest (t ++ c ∷ []) rest (append_assoc t (c ∷ []) rest) token in
    let long = length-append t (c ∷ []) in
    omega (arith, short, long)

word_ends : (w rest : List ℕ) → is_word w ≡ true → IsLongest w rest → begins_word rest ≡ false
word_ends w [] h longest = refl
word_ends w (c ∷ cs) h longest =
    false_from_ne_true (is_word_byte c) (λ (k : is_word_byte c ≡ true). no_longer w c cs longest
    (or_left (is_word (w ++ c ∷ [])) (is_sign (w ++ c ∷ [])) (word_more w c h k)))

no_pair_behind : (a : ℕ) (rest : List ℕ) → IsLongest (a ∷ []) rest → begins_pair (a ∷ rest) ≡ false
no_pair_behind a [] longest = refl
no_pair_behind a (b ∷ bs) longest =
    false_from_ne_true (is_double_sign a b) (λ (k : is_double_sign a b ≡ true). no_longer (a ∷ []) b bs longest
    (or_right (is_word (a ∷ b ∷ [])) (is_sign (a ∷ b ∷ [])) k))

sign_no_word : (a : ℕ) → is_sign_byte a ≡ true → is_word_byte a ≡ false
sign_no_word a h = grind (arith, nat_tests)

sign_first : (t rest : List ℕ) → is_sign t ≡ true → IsLongest t rest → pieces (t ++ rest) ≡ t ∷ pieces rest
sign_first [] rest h longest = cc
sign_first (a ∷ []) rest h longest = single_piece a rest (sign_byte-not_blank a h) (sign_no_word a h) (no_pair_behind a rest longest)
sign_first (a ∷ b ∷ []) rest h longest = pair_pieces a b rest h
sign_first (a ∷ b ∷ c ∷ more) rest h longest = cc

token_first : (t rest : List ℕ) → is_token t ≡ true → IsLongest t rest → pieces (t ++ rest) ≡ t ∷ pieces rest
token_first t rest h longest =
    elim (either_of (is_word t) (is_sign t) h) [
      | inl word ↦ word_pieces t rest word
          (word_ends t rest word longest)
      | inr sign ↦ sign_first t rest sign longest
    ]

pub tokens_are : (tokens : List Token) (text : List ℕ) → SpacedC tokens text → pieces text ≡ tokens
tokens_are [] text spaced = all_blank text spaced
tokens_are (t ∷ ts) text (after, (begins, spaced)) =
    ap pieces begins.cut
    ∙ (blanks_first begins.blanks (t ++ after) begins.blank
    ∙ (token_first t after begins.is_one begins.longest ∙ ap (λ (us : List Token). t ∷ us) (tokens_are ts after spaced)))

pub one_list : (tokens others : List Token) (text : List ℕ) → SpacedC tokens text → SpacedC others text → tokens ≡ others
one_list tokens others text spaced other = sym (tokens_are tokens text spaced) ∙ tokens_are others text other
