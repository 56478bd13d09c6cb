-- Tests of the first tokens of a list: which one stands there, and which don't.
use Rattle.std.proofs.Common.{◌≡◌, Bool, true, false, not, nat_eq, List, [], ◌∷◌, map, refl, sym, ◌∙◌, subst, inl, inr, arith, codes}
use Rattle.std.proofs.lemmas.Bool.Decides.{nat_tests}
use Rattle.std.specs.Cmp.Lexicographic.{pointwise}
use Rattle.bl_tree.proofs.Basics.{and_first, and_second, either_of, same_number}
use Rattle.bl_tree.specs.Reduce.{all_of, any_of}
use Rattle.bl_ctext.specs.Token.{Token}
use Rattle.bl_ctext.specs.Names.{is_among, is_name, is_callee}
use Rattle.bl_ctext.proofs.PrefixedNames.{name-callee}

abbrev pub is : Token → Token → Bool
is t w = pointwise nat_eq t w

abbrev pub among : Token → List Token → Bool
among t ws = any_of (map (λ w. is t w) ws)

abbrev pub first : List Token → Token
first [] = []
first (t ∷ ts) = t

abbrev pub tail : List Token → List Token
tail [] = []
tail (t ∷ ts) = ts

abbrev pub second : List Token → Token
second ts = first (tail ts)

pub is_same : (t w : Token) → is t w ≡ true → t ≡ w
is_same [] [] h = refl
is_same [] (y ∷ ys) h = cc
is_same (x ∷ xs) [] h = cc
is_same (x ∷ xs) (y ∷ ys) h =
    let head : x ≡ y = same_number x y (and_first _ _ h) in
    let rest : xs ≡ ys = is_same xs ys (and_second _ _ h) in
    rw (head, rest) refl

-- what holds of each of some words holds of a word among them
pub among_all : (p : Token → Bool) (t : Token) (ws : List Token) → among t ws ≡ true → all_of (map p ws) ≡ true → p t ≡ true
among_all p t [] h k = cc
among_all p t (w ∷ ws) h k =
    elim (either_of (is t w) (among t ws) h) [
      | inl same ↦ subst (λ (t : Token). p t ≡ true) (sym (is_same t w same)) (and_first _ _ k)
      | inr other ↦ among_all p t ws other (and_second _ _ k)
    ]

never : (a b : Bool) → a ≡ true → not a ≡ true → b ≡ false
never true b h k = cc
never false b h k = cc

-- a word with a property is among none that lack it
pub among_none : (p : Token → Bool) (t : Token) (ws : List Token) → p t ≡ true → all_of (map (λ w. not (p w)) ws) ≡ true → among t ws ≡ false
among_none p t ws h k = by_test (among t ws) refl
  where
    by_test : (v : Bool) → among t ws ≡ v → v ≡ false
    by_test true e = never (p t) true h (among_all (λ w. not (p w)) t ws e k)
    by_test false e = refl

-- the words and signs of the grammar that are no name
abbrev pub reserved : List Token
reserved =
    codes "(" ∷ codes ")" ∷ codes "[" ∷ codes "]" ∷ codes "{" ∷ codes "}" ∷ codes "." ∷ codes "," ∷ codes ";" ∷ codes "="
    ∷ codes "*" ∷ codes "&" ∷ codes "!" ∷ codes "-" ∷
    codes "true" ∷ codes "false" ∷ codes "static" ∷ codes "struct" ∷ codes "void" ∷ codes "if" ∷ codes "else" ∷ codes "while"
    ∷ codes "break" ∷ codes "return" ∷
    codes "bool" ∷ codes "int8_t" ∷ codes "int16_t" ∷ codes "int32_t" ∷ codes "int64_t" ∷ codes "uint8_t" ∷ codes "uint16_t"
    ∷ codes "uint32_t" ∷ codes "uint64_t" ∷
    codes "INT8_C" ∷ codes "INT16_C" ∷ codes "INT32_C" ∷ codes "INT64_C" ∷ codes "UINT8_C" ∷ codes "UINT16_C" ∷ codes "UINT32_C"
    ∷ codes "UINT64_C" ∷
    codes "INT8_MIN" ∷ codes "INT16_MIN" ∷ codes "INT32_MIN" ∷ codes "INT64_MIN" ∷ []

none_callee : all_of (map (λ w. not (is_callee w)) reserved) ≡ true
unfolding is_callee is_name is_among
none_callee = refl

-- words that are all reserved
abbrev pub are_reserved : List Token → Bool
are_reserved ws = all_of (map (λ w. among w reserved) ws)

pub callee_off : (t : Token) (ws : List Token) → is_callee t ≡ true → are_reserved ws ≡ true → among t ws ≡ false
callee_off t ws h within = by_test (among t ws) refl
  where
    by_test : (v : Bool) → among t ws ≡ v → v ≡ false
    by_test true e = sym (among_all (λ w. among w reserved) t ws e within) ∙ among_none is_callee t reserved h none_callee
    by_test false e = refl

pub name_off : (t : Token) (ws : List Token) → is_name t ≡ true → are_reserved ws ≡ true → among t ws ≡ false
name_off t ws h within = callee_off t ws (name-callee t h) within

-- a word that is none of them is not this one of them
pub lacks : (t : Token) (ws : List Token) (w : Token) → among t ws ≡ false → among w ws ≡ true → is t w ≡ false
lacks t ws w h k = by_test (is t w) refl
  where
    by_test : (v : Bool) → is t w ≡ v → v ≡ false
    by_test true e = sym (subst (λ (t : Token). among t ws ≡ true) (sym (is_same t w e)) k) ∙ h
    by_test false e = refl

-- nor one of fewer
pub fewer_lacks : (t : Token) (ws small : List Token) → among t ws ≡ false → all_of (map (λ w. among w ws) small) ≡ true → among t small ≡ false
fewer_lacks t ws small h k = by_test (among t small) refl
  where
    by_test : (v : Bool) → among t small ≡ v → v ≡ false
    by_test true e = sym (among_all (λ w. among w ws) t small e k) ∙ h
    by_test false e = refl
