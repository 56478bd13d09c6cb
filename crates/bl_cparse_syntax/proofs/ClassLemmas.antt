-- Which classes share no piece, and which are the same.
use Rattle.std.proofs.Common.{◌≡◌, ℕ, Bool, true, false, not, cond, ◌&&◌, ◌||◌, List, [], ◌∷◌, refl, ap, subst, nat_eq}
use Rattle.std.specs.Prelude.{codes}
use Rattle.std.specs.List.{list_all, starts_with}
use Rattle.std.specs.Cmp.Lexicographic.{pointwise}
use Rattle.std.proofs.lemmas.Bool.{false_from_ne_true, not-true}
use Rattle.bl_tree.proofs.Basics.{number_itself}
use Rattle.bl_tree.specs.declared.scalar.Width.TheVariants.{W8, W16, W32, W64}
use Rattle.bl_ctext.specs.Token.{Token, is_word}
use Rattle.bl_ctext.specs.Names.{begins_with_digit, c_keywords, grammar_words, is_among, is_name, is_turn_name, prelude_functions}
use Rattle.bl_grammar.proofs.Predictive.{and_left, and_right, not_both}
use Rattle.bl_cparse_syntax.specs.declared.grammar.Group.{Group}
use Rattle.bl_cparse_syntax.specs.declared.grammar.Group.TheVariants.{ScalarTypes, PlainLiterals, Operators, IndexFunctions, StructWords, FunctionWords}
use Rattle.bl_cparse_syntax.specs.declared.grammar.Group.TheVariants.{PreludeFunctions}
use Rattle.bl_cparse_syntax.specs.declared.grammar.Digits.TheVariants.{Elements, Int, Negated, Unsigned}
use Rattle.bl_cparse_syntax.specs.Pieces.{is_same}
use Rattle.bl_cparse_syntax.specs.Classes.{Class, words_of, spells_number, matches}
use Rattle.bl_cparse_syntax.specs.Classes.Class.{exactly, one_of, a_name, number, turn}
use Rattle.bl_cparse_syntax.specs.Tables.{turn_name_for}
use Rattle.bl_cparse_syntax.specs.Stack.{sample}
use Rattle.bl_cparse_syntax.specs.Grammar.{with_turn_name}
use Rattle.bl_cparse_syntax.specs.inner.Words.{is_numbered, is_unreserved}
use Rattle.bl_cparse_syntax.proofs.SameLemmas.{is_same-same}

-- no word of the list is of the class
abbrev pub has_none : Class → List Token → Bool
has_none class words = list_all (λ word. not (matches class word)) words

-- the classes share no piece, as far as this is found by going over words
abbrev pub class_apart : Class → Class → Bool
class_apart (exactly word) other = not (matches other word)
class_apart (one_of PreludeFunctions) a_name = true
class_apart (one_of group) other = has_none other (words_of group)
class_apart a_name (one_of PreludeFunctions) = true
class_apart a_name (exactly word) = not (matches a_name word)
class_apart a_name (one_of group) = has_none a_name (words_of group)
class_apart (number of) (exactly word) = not (matches (number of) word)
class_apart turn (exactly word) = not (matches turn word)
class_apart _ _ = false

same_self : (word : List ℕ) → pointwise nat_eq word word ≡ true
same_self [] = refl
same_self (b ∷ bs) = rw (number_itself b) (same_self bs)

pub is_same-self : (word : List ℕ) → is_same word word ≡ true
unfolding is_same
is_same-self word = same_self word

-- of a test that all words pass, a piece that is one of them passes it
pub among_all : (test : Token → Bool) (words : List Token) (piece : Token) → list_all test words ≡ true →
    is_among piece words ≡ true → test piece ≡ true
unfolding is_among is_same
among_all test [] piece all is = absurd (not_both false is refl)
among_all test (word ∷ words) piece all is = by_same (pointwise nat_eq word piece) refl is (among_all test words piece (and_right (test word) _ all))
  where
    by_same : (b : Bool) → pointwise nat_eq word piece ≡ b → b || is_among piece words ≡ true →
        (is_among piece words ≡ true → test piece ≡ true) → test piece ≡ true
    by_same true e is rest = subst (λ t. test t ≡ true) (is_same-same word piece e) (and_left _ _ all)
    by_same false e is rest = rest is

exactly_apart : (word : Token) (other : Class) (piece : Token) → not (matches other word) ≡ true →
    matches (exactly word) piece ≡ true → matches other piece ≡ false
unfolding matches
exactly_apart word other piece none is = subst (λ t. matches other t ≡ false) (is_same-same word piece is) (not-true _ none)

from_exactly : (word : Token) (other : Class) (piece : Token) → not (matches other word) ≡ true → matches other piece ≡ true →
    matches (exactly word) piece ≡ false
from_exactly word other piece none is = false_from_ne_true _ (λ same. not_both _ is (exactly_apart word other piece none same))

group_apart : (group : Group) (other : Class) (piece : Token) → has_none other (words_of group) ≡ true →
    matches (one_of group) piece ≡ true → matches other piece ≡ false
unfolding matches
group_apart group other piece none is = not-true _ (among_all (λ word. not (matches other word)) (words_of group) piece none is)

from_group : (group : Group) (other : Class) (piece : Token) → has_none other (words_of group) ≡ true → matches other piece ≡ true →
    matches (one_of group) piece ≡ false
from_group group other piece none is = false_from_ne_true _ (λ one. not_both _ is (group_apart group other piece none one))

prelude_begin : list_all (λ word. starts_with nat_eq word (codes "bl_")) prelude_functions ≡ true
prelude_begin = refl

-- no other word is a function of the prelude
pub prelude_begins : (word : Token) → starts_with nat_eq word (codes "bl_") ≡ false → is_among word prelude_functions ≡ false
prelude_begins word none = false_from_ne_true _ (λ one. not_both _ (among_all (λ w. starts_with nat_eq w (codes "bl_")) prelude_functions word prelude_begin one) none)

-- no list of words without a digit at the second place has a word with one
unlisted : (words : List Token) (word : Token) → list_all (λ w. not (is_numbered w)) words ≡ true → is_numbered word ≡ true →
    is_among word words ≡ false
unlisted words word none is = false_from_ne_true _ (λ one. not_both _ is (not-true _ (among_all (λ w. not (is_numbered w)) words word none one)))

pub numbered_is_unreserved : (word : Token) → is_numbered word ≡ true → is_unreserved word ≡ true
numbered_is_unreserved word is =
    rw (unlisted grammar_words word refl is) (rw (unlisted c_keywords word refl is) (rw (unlisted (codes "abort" ∷ []) word refl is) refl))

no_name : (word : Token) → starts_with nat_eq word (codes "bl_") ≡ true → is_name word ≡ false
unfolding is_name
no_name word h = by_word (is_word word) (not (begins_with_digit word)) _ h
  where
    by_word : (a b rest : Bool) → starts_with nat_eq word (codes "bl_") ≡ true →
        a && (b && (not (starts_with nat_eq word (codes "bl_")) && rest)) ≡ false
    by_word true true rest h = rw h refl
    by_word true false rest h = refl
    by_word false b rest h = refl

prelude_apart : (piece : Token) → matches (one_of PreludeFunctions) piece ≡ true → matches a_name piece ≡ false
unfolding matches
prelude_apart piece is = no_name piece (among_all (λ word. starts_with nat_eq word (codes "bl_")) prelude_functions piece prelude_begin is)

from_prelude : (piece : Token) → matches a_name piece ≡ true → matches (one_of PreludeFunctions) piece ≡ false
from_prelude piece is = false_from_ne_true _ (λ one. not_both _ is (prelude_apart piece one))

pub apart_of : (one other : Class) (piece : Token) → class_apart one other ≡ true → matches one piece ≡ true → matches other piece ≡ false
apart_of (exactly word) other piece e is = exactly_apart word other piece e is
apart_of (one_of PreludeFunctions) a_name piece e is = prelude_apart piece is
apart_of (one_of group) other piece e is = group_apart group other piece e is
apart_of a_name (one_of PreludeFunctions) piece e is = from_prelude piece is
apart_of a_name (exactly word) piece e is = from_exactly word a_name piece e is
apart_of a_name (one_of group) piece e is = from_group group a_name piece e is
apart_of (number of) (exactly word) piece e is = from_exactly word (number of) piece e is
apart_of turn (exactly word) piece e is = from_exactly word turn piece e is
apart_of _ _ piece e is = absurd (not_both _ e refl)

abbrev pub same_group : Group → Group → Bool
same_group ScalarTypes ScalarTypes = true
same_group PlainLiterals PlainLiterals = true
same_group PreludeFunctions PreludeFunctions = true
same_group _ _ = false

abbrev pub same_class : Class → Class → Bool
same_class (exactly one) (exactly other) = is_same one other
same_class (one_of one) (one_of other) = same_group one other
same_class a_name a_name = true
same_class _ _ = false

same_group_is : (one other : Group) → same_group one other ≡ true → one ≡ other
same_group_is ScalarTypes ScalarTypes e = refl
same_group_is PlainLiterals PlainLiterals e = refl
same_group_is PreludeFunctions PreludeFunctions e = refl
same_group_is _ _ e = absurd (not_both _ e refl)

pub same_is : (one other : Class) → same_class one other ≡ true → one ≡ other
same_is (exactly one) (exactly other) e = ap exactly (is_same-same one other e)
same_is (one_of one) (one_of other) e = ap one_of (same_group_is one other e)
same_is a_name a_name e = refl
same_is _ _ e = absurd (not_both _ e refl)

-- names of turns

pub named_of : (name : Token) (class : Class) (piece : Token) → is_turn_name name ≡ true → matches (with_turn_name name class) piece ≡ true →
    matches class piece ≡ true
unfolding matches
named_of name (exactly word) piece is m = m
named_of name (one_of group) piece is m = m
named_of name a_name piece is m = m
named_of name (number of) piece is m = m
named_of name turn piece is m = subst (λ t. is_turn_name t ≡ true) (is_same-same name piece m) is

pub exactly_is : (name piece : Token) → matches (exactly name) piece ≡ true → name ≡ piece
unfolding matches
exactly_is name piece m = is_same-same name piece m

first_turn : is_turn_name (codes "t0") ≡ true
unfolding is_turn_name
first_turn = refl

pub turn_of_is : (piece : Token) → is_turn_name (turn_name_for piece) ≡ true
turn_of_is piece = by_turn (is_turn_name piece) refl
  where
    by_turn : (b : Bool) → is_turn_name piece ≡ b → is_turn_name (cond b piece (codes "t0")) ≡ true
    by_turn true e = e
    by_turn false e = first_turn

pub turn_of_turn : (piece : Token) → is_turn_name piece ≡ true → turn_name_for piece ≡ piece
turn_of_turn piece is = rw is refl

-- samples

pub sampled : (class : Class) → matches class (sample class) ≡ true
unfolding matches sample is_same is_among is_name spells_number is_turn_name
sampled (exactly word) = same_self word
sampled (one_of ScalarTypes) = refl
sampled (one_of PlainLiterals) = refl
sampled (one_of Operators) = refl
sampled (one_of IndexFunctions) = refl
sampled (one_of StructWords) = refl
sampled (one_of FunctionWords) = refl
sampled (one_of PreludeFunctions) = refl
sampled a_name = refl
sampled (number Elements) = refl
sampled (number (Int W8)) = refl
sampled (number (Int W16)) = refl
sampled (number (Int W32)) = refl
sampled (number (Int W64)) = refl
sampled (number (Negated W8)) = refl
sampled (number (Negated W16)) = refl
sampled (number (Negated W32)) = refl
sampled (number (Negated W64)) = refl
sampled (number (Unsigned W8)) = refl
sampled (number (Unsigned W16)) = refl
sampled (number (Unsigned W32)) = refl
sampled (number (Unsigned W64)) = refl
sampled turn = refl
