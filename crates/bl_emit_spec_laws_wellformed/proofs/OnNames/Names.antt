-- Names that are a letter and a number differ where their numbers do, and from names with another letter. So do those with the name of a variable behind.
use Rattle.std.proofs.Common.{◌≡◌, ℕ, ◌<◌, ◌^◌, Bool, true, false, not}
use Rattle.std.proofs.Common.{◌&&◌, ◌||◌, List, [], ◌∷◌, ◌++◌, map, drop, length}
use Rattle.std.proofs.Common.{refl, sym, ap, ◌∙◌, arith}
use Rattle.std.proofs.lemmas.Bool.Decides.{nat_tests}
use Rattle.std.proofs.lemmas.Fmt.{decimal_injective, decimal_is_IsNumeral}
use Rattle.std.proofs.lemmas.List.Folds.{list_any-append}
use Rattle.std.proofs.lemmas.Slice.Eq.{bytes_eq-Decides}
use Rattle.std.specs.Fmt.{decimal}
use Rattle.std.specs.List.{list_any}
use Rattle.std.specs.Prelude.{bytes_eq, nat_eq, nat_lt, slice_get}
use Rattle.std.proofs.lemmas.Bool.{and_from, not-true, or_from}
use Rattle.bl_tree.proofs.Basics.{and_first, and_second}
use Rattle.bl_tree.specs.declared.text.Text.{Text}
use Rattle.bl_tree.specs.declared.tree.Var.{Var}
use Rattle.bl_tree.specs.Words.{are_distinct, is_among}
use Rattle.bl_emit_acts.specs.Types.{numbered_name, source_name}
use Rattle.bl_emit_acts_laws_simulation.proofs.NumberedNames.{names_differ, words_differ}
use Rattle.bl_emit_spec.specs.Names.{NumberedWord, numbered_word, with_word}
use Rattle.bl_emit_spec_laws_wellformed.specs.Names.{are_numbers}
use Rattle.bl_emit_functions_laws_wellformed.proofs.OnFormed.Head.{among_neither}

-- ---- letters

-- whether a name begins with this byte
abbrev pub begins : ℕ → Text → Bool
begins b [] = false
begins b (c ∷ rest) = nat_eq b c

-- whether one of some names does
abbrev pub some_begins : ℕ → List Text → Bool
some_begins b names = list_any (begins b) names

-- a name that begins as none of some names does is none of them
pub not-among : (b : ℕ) (x : Text) (names : List Text) → begins b x ≡ true → some_begins b names ≡ false → is_among x names ≡ false
not-among b x [] own none = refl
not-among b x (y ∷ names) own none =
    or_from (bytes_eq x y) (is_among x names) (by (bytes_eq x y) refl) (not-among b x names own (later (begins b y) (some_begins b names) none))
  where
    later : (p q : Bool) → (p || q) ≡ false → q ≡ false
    later false q h = h
    later true q h = absurd (cc)

    first : (p q : Bool) → (p || q) ≡ false → p ≡ false
    first false q h = refl
    first true q h = absurd (cc)

    by : (t : Bool) → bytes_eq x y ≡ t → t ≡ false
    by false is = refl
    by true is =
        absurd (let no : true ≡ false = sym own ∙ ap (begins b) ((bytes_eq-Decides x y).0 is) ∙ first (begins b y) (some_begins b names) none in
        cc)

pub begins-append : (b : ℕ) (xs ys : List Text) → some_begins b xs ≡ false → some_begins b ys ≡ false → some_begins b (xs ++ ys) ≡ false
begins-append b xs ys one other = list_any-append (begins b) xs ys ∙ or_from (some_begins b xs) (some_begins b ys) one other

-- ---- families

pub low : (k : ℕ) → nat_lt k (2 ^ 64) ≡ true → k < 2 ^ 64
low k h = grind (arith, nat_tests)

-- a letter alone is no longer name
letter_other : (b c : ℕ) (ds : List ℕ) → 0 < length ds → bytes_eq (b ∷ []) (c ∷ ds) ≡ false
letter_other b c [] some = absurd (omega arith)
letter_other b c (d ∷ ds) some = by (nat_eq b c)
  where
    by : (t : Bool) → (t && false) ≡ false
    by true = refl
    by false = refl

-- names that are a letter, and behind it a text for one of some things that have numbers. The texts for different numbers differ, and none is empty
module _ {X : Type 0} (text : X → Text) (number : X → ℕ)
    (apart : (b : ℕ) (j k : X) → number j < 2 ^ 64 → number k < 2 ^ 64 → nat_eq (number j) (number k) ≡ false → bytes_eq (b ∷ text j) (b ∷ text k) ≡ false)
    (some : (k : X) → number k < 2 ^ 64 → 0 < length (text k)) where
  abbrev lettered : ℕ → List X → List Text
  lettered b ks = map (λ k. b ∷ text k) ks

  lettered-begins : (b c : ℕ) (ks : List X) → nat_eq b c ≡ false → some_begins b (lettered c ks) ≡ false
  lettered-begins b c [] other = refl
  lettered-begins b c (k ∷ ks) other = or_from (nat_eq b c) (some_begins b (lettered c ks)) other (lettered-begins b c ks other)

  lettered-new : (b : ℕ) (j : X) (ks : List X) → number j < 2 ^ 64 → are_numbers (map number ks) ≡ true → list_any (nat_eq (number j)) (map number ks) ≡ false →
      is_among (b ∷ text j) (lettered b ks) ≡ false
  lettered-new b j [] less all new = refl
  lettered-new b j (k ∷ ks) less all new =
      let small : number k < 2 ^ 64 = low (number k) (and_first (nat_lt (number k) (2 ^ 64)) _ all) in
      let rest : are_numbers (map number ks) ≡ true =
      and_second (not (list_any (nat_eq (number k)) (map number ks))) (are_numbers (map number ks)) (and_second (nat_lt (number k) (2 ^ 64)) _ all) in
      or_from (bytes_eq (b ∷ text j) (b ∷ text k)) (is_among (b ∷ text j) (lettered b ks))
      (apart b j k less small (first (nat_eq (number j) (number k)) (list_any (nat_eq (number j)) (map number ks)) new))
      (lettered-new b j ks less rest (later (nat_eq (number j) (number k)) (list_any (nat_eq (number j)) (map number ks)) new))
    where
      later : (p q : Bool) → (p || q) ≡ false → q ≡ false
      later false q h = h
      later true q h = absurd (cc)

      first : (p q : Bool) → (p || q) ≡ false → p ≡ false
      first false q h = refl
      first true q h = absurd (cc)

  lettered-distinct : (b : ℕ) (ks : List X) (others : List Text) → are_numbers (map number ks) ≡ true → some_begins b others ≡ false →
      are_distinct others ≡ true → are_distinct (lettered b ks ++ others) ≡ true
  lettered-distinct b [] others all none differ = differ
  lettered-distinct b (k ∷ ks) others all none differ =
      let small : number k < 2 ^ 64 = low (number k) (and_first (nat_lt (number k) (2 ^ 64)) _ all) in
      let more = and_second (nat_lt (number k) (2 ^ 64)) _ all in
      let new : list_any (nat_eq (number k)) (map number ks) ≡ false =
      not-true (list_any (nat_eq (number k)) (map number ks))
      (and_first (not (list_any (nat_eq (number k)) (map number ks))) (are_numbers (map number ks)) more) in
      let rest : are_numbers (map number ks) ≡ true =
      and_second (not (list_any (nat_eq (number k)) (map number ks))) (are_numbers (map number ks)) more in
      and_from (not (is_among (b ∷ text k) (lettered b ks ++ others))) (are_distinct (lettered b ks ++ others))
      (ap not (among_neither (b ∷ text k) (lettered b ks) others (lettered-new b k ks small rest new)
      (not-among b (b ∷ text k) others (own b) none)))
      (lettered-distinct b ks others rest none differ)
    where
      own : (b : ℕ) → nat_eq b b ≡ true
      own b = grind (arith, nat_tests)

  lettered-longer : (b c : ℕ) (ks : List X) → are_numbers (map number ks) ≡ true → is_among (b ∷ []) (lettered c ks) ≡ false
  lettered-longer b c [] all = refl
  lettered-longer b c (k ∷ ks) all =
      let small : number k < 2 ^ 64 = low (number k) (and_first (nat_lt (number k) (2 ^ 64)) _ all) in
      let rest : are_numbers (map number ks) ≡ true =
      and_second (not (list_any (nat_eq (number k)) (map number ks))) (are_numbers (map number ks)) (and_second (nat_lt (number k) (2 ^ 64)) _ all) in
      or_from (bytes_eq (b ∷ []) (c ∷ text k)) (is_among (b ∷ []) (lettered c ks)) (letter_other b c (text k) (some k small))
      (lettered-longer b c ks rest)

-- ---- a letter and a number

apart_by : (b j k : ℕ) → j < 2 ^ 64 → k < 2 ^ 64 → nat_eq j k ≡ false → bytes_eq (b ∷ decimal j) (b ∷ decimal k) ≡ false
apart_by b j k less least other = by (bytes_eq (b ∷ decimal j) (b ∷ decimal k)) refl
  where
    by : (t : Bool) → bytes_eq (b ∷ decimal j) (b ∷ decimal k) ≡ t → t ≡ false
    by false is = refl
    by true is =
        let text : (b ∷ decimal j) ≡ (b ∷ decimal k) = (bytes_eq-Decides (b ∷ decimal j) (b ∷ decimal k)).0 is in
        let same : j ≡ k = decimal_injective j k less least (ap (drop 1) text) in
        absurd (let no : nat_eq j j ≡ false = ap (nat_eq j) same ∙ other in grind (arith, nat_tests, no))

itself : (ks : List ℕ) → map (λ k. k) ks ≡ ks
itself [] = refl
itself (k ∷ ks) = ap (λ rest. k ∷ rest) (itself ks)

number_some : (k : ℕ) → k < 2 ^ 64 → 0 < length (decimal k)
number_some k small = let numeral = decimal_is_IsNumeral k small in numeral.0.0

-- the names that are a letter and one of some numbers
abbrev pub family : ℕ → List ℕ → List Text
family b ks = map (λ k. b ∷ decimal k) ks

pub family-begins : (b c : ℕ) (ks : List ℕ) → nat_eq b c ≡ false → some_begins b (family c ks) ≡ false
family-begins = lettered-begins decimal (λ k. k) apart_by number_some

-- a family before names none of which begins with its letter
pub family-distinct : (b : ℕ) (ks : List ℕ) (others : List Text) → are_numbers ks ≡ true → some_begins b others ≡ false →
    are_distinct others ≡ true → are_distinct (family b ks ++ others) ≡ true
family-distinct b ks others all =
    lettered-distinct decimal (λ k. k) apart_by number_some b ks others (ap are_numbers (itself ks) ∙ all)

-- a letter alone is in no family
pub letter-new : (b c : ℕ) (ks : List ℕ) → are_numbers ks ≡ true → is_among (b ∷ []) (family c ks) ≡ false
letter-new b c ks all = lettered-longer decimal (λ k. k) apart_by number_some b c ks (ap are_numbers (itself ks) ∙ all)

-- ---- a letter, a number and the name of a variable

variables_apart : (vars : List Var) (b j k : ℕ) → j < 2 ^ 64 → k < 2 ^ 64 → nat_eq j k ≡ false →
    bytes_eq (b ∷ numbered_name vars j) (b ∷ numbered_name vars k) ≡ false
variables_apart vars b j k less least other =
    names_differ b vars j k less least
    (λ same. absurd (let no : nat_eq j j ≡ false = ap (nat_eq j) same ∙ other in grind (arith, nat_tests, no)))

longer : (ds more : List ℕ) → 0 < length ds → 0 < length (ds ++ 95 ∷ more)
longer [] more some = absurd (omega arith)
longer (d ∷ ds) more some = omega arith

variable_some : (vars : List Var) (k : ℕ) → k < 2 ^ 64 → 0 < length (numbered_name vars k)
variable_some vars k small = longer (decimal k) (source_name (slice_get vars k)) (number_some k small)

-- the names that are a letter with the number and the name of one of some variables
abbrev pub named_family : List Var → ℕ → List ℕ → List Text
named_family vars b ks = map (λ k. b ∷ numbered_name vars k) ks

pub named_family-begins : (vars : List Var) (b c : ℕ) (ks : List ℕ) → nat_eq b c ≡ false → some_begins b (named_family vars c ks) ≡ false
named_family-begins vars = lettered-begins (numbered_name vars) (λ k. k) (variables_apart vars) (variable_some vars)

pub named_family-distinct : (vars : List Var) (b : ℕ) (ks : List ℕ) (others : List Text) → are_numbers ks ≡ true → some_begins b others ≡ false →
    are_distinct others ≡ true → are_distinct (named_family vars b ks ++ others) ≡ true
named_family-distinct vars b ks others all =
    lettered-distinct (numbered_name vars) (λ k. k) (variables_apart vars) (variable_some vars) b ks others (ap are_numbers (itself ks) ∙ all)

pub named_letter-new : (vars : List Var) (b c : ℕ) (ks : List ℕ) → are_numbers ks ≡ true → is_among (b ∷ []) (named_family vars c ks) ≡ false
named_letter-new vars b c ks all =
    lettered-longer (numbered_name vars) (λ k. k) (variables_apart vars) (variable_some vars) b c ks (ap are_numbers (itself ks) ∙ all)

-- ---- a letter, a number and a word

-- names with different numbers differ, behind any letters
pub words_apart : (b c : ℕ) (j k : NumberedWord) → j.number < 2 ^ 64 → k.number < 2 ^ 64 → nat_eq j.number k.number ≡ false →
    bytes_eq (b ∷ numbered_word j) (c ∷ numbered_word k) ≡ false
words_apart b c j k less least other = behind (nat_eq b c) (bytes_eq (numbered_word j) (numbered_word k)) texts
  where
    behind : (p q : Bool) → q ≡ false → (p && q) ≡ false
    behind true q h = h
    behind false q h = refl

    texts : bytes_eq (numbered_word j) (numbered_word k) ≡ false
    texts =
        words_differ 0 j.number k.number j.word k.word less least
        (λ same. absurd (let no : nat_eq j.number j.number ≡ false = ap (nat_eq j.number) same ∙ other in grind (arith, nat_tests, no)))

-- names for things of which each has a number and a word
module _ {X : Type 0} (word : X → NumberedWord) where
  abbrev text_of : X → Text
  text_of x = numbered_word (word x)

  word_some : (x : X) → (word x).number < 2 ^ 64 → 0 < length (text_of x)
  word_some x small = longer (decimal (word x).number) (word x).word (number_some (word x).number small)

  -- the names that are a letter with the number and word of one of some things
  abbrev pub word_family : ℕ → List X → List Text
  word_family b xs = map (λ x. b ∷ numbered_word (word x)) xs

  pub word_family-begins : (b c : ℕ) (xs : List X) → nat_eq b c ≡ false → some_begins b (word_family c xs) ≡ false
  word_family-begins = lettered-begins text_of (λ x. (word x).number) (λ b x y. words_apart b b (word x) (word y)) word_some

  pub word_family-distinct : (b : ℕ) (xs : List X) (others : List Text) → are_numbers (map (λ x. (word x).number) xs) ≡ true →
      some_begins b others ≡ false → are_distinct others ≡ true → are_distinct (word_family b xs ++ others) ≡ true
  word_family-distinct = lettered-distinct text_of (λ x. (word x).number) (λ b x y. words_apart b b (word x) (word y)) word_some

  pub word_letter-new : (b c : ℕ) (xs : List X) → are_numbers (map (λ x. (word x).number) xs) ≡ true → is_among (b ∷ []) (word_family c xs) ≡ false
  word_letter-new = lettered-longer text_of (λ x. (word x).number) (λ b x y. words_apart b b (word x) (word y)) word_some

-- the names that are a letter with one of some numbers and its word
abbrev pub worded_family : (ℕ → Text) → ℕ → List ℕ → List Text
worded_family words b ks = word_family (with_word words) b ks

pub worded_family-begins : (words : ℕ → Text) (b c : ℕ) (ks : List ℕ) → nat_eq b c ≡ false → some_begins b (worded_family words c ks) ≡ false
worded_family-begins words = word_family-begins (with_word words)

pub worded_family-distinct : (words : ℕ → Text) (b : ℕ) (ks : List ℕ) (others : List Text) → are_numbers ks ≡ true → some_begins b others ≡ false →
    are_distinct others ≡ true → are_distinct (worded_family words b ks ++ others) ≡ true
worded_family-distinct words b ks others all =
    word_family-distinct (with_word words) b ks others (ap are_numbers (itself ks) ∙ all)

pub worded_letter-new : (words : ℕ → Text) (b c : ℕ) (ks : List ℕ) → are_numbers ks ≡ true → is_among (b ∷ []) (worded_family words c ks) ≡ false
worded_letter-new words b c ks all = word_letter-new (with_word words) b c ks (ap are_numbers (itself ks) ∙ all)

-- a name before others
pub one-distinct : (x : Text) (others : List Text) → is_among x others ≡ false → are_distinct others ≡ true →
    are_distinct (x ∷ others) ≡ true
one-distinct x others new differ = and_from (not (is_among x others)) (are_distinct others) (ap not new) differ
