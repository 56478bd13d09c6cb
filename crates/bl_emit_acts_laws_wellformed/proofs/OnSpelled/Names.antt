-- A letter with a number behind it begins a name of the subset: no word of C or of the grammar has a digit as its second byte.
use Rattle.std.proofs.Common.{◌≡◌, ℕ, zero, suc, ◌<◌, ◌^◌, Bool, true, false, not, ◌&&◌, ◌||◌, nat_eq, List, [], ◌∷◌, ◌++◌}
use Rattle.std.proofs.Common.{map, length, take, Some}
use Rattle.std.proofs.Common.{refl, sym, ap, ◌∙◌, arith, codes}
use Rattle.std.proofs.lemmas.Bool.{eqb-true}
use Rattle.std.proofs.lemmas.Bool.Decides.{nat_tests}
use Rattle.std.proofs.lemmas.Fmt.{decimal_is_IsNumeral}
use Rattle.std.specs.Prelude.{bytes_eq, if◌then◌else◌, slice_get}
use Rattle.std.specs.Char.{digit_value, is_ascii_digit}
use Rattle.std.specs.Cmp.Lexicographic.{pointwise}
use Rattle.std.specs.Fmt.{decimal}
use Rattle.std.specs.List.{list_all, starts_with}
use Rattle.std.specs.Str.Parse.{AllDigits}
use Rattle.std.proofs.lemmas.Bool.{and_from, not-true, or_right}
use Rattle.bl_tree.proofs.Basics.{and_first, and_second, second_false}
use Rattle.bl_tree.specs.declared.text.Text.{Text}
use Rattle.bl_tree.specs.declared.tree.Var.{Var}
use Rattle.bl_tree.specs.Program.{names_of}
use Rattle.bl_tree.specs.Reduce.{all_of, any_of}
use Rattle.bl_tree.specs.Words as words
use Rattle.bl_ctext.specs.declared.builtin.Builtin.{Builtin}
use Rattle.bl_ctext.specs.Builtins.{builtins}
use Rattle.bl_ctext.specs.Token.{is_word, is_word_byte}
use Rattle.bl_ctext.specs.Names.{begins_with_digit, c_keywords, grammar_words, is_among, is_callee, is_name, prelude_functions}
use Rattle.bl_ctext.specs.inner.Prefixes.{is_source_name}
use Rattle.bl_ctext.proofs.PrefixedNames.{name-callee, name-with_prefix}
use Rattle.bl_ctext_semantics.specs.Builtin.{builtin_of}
use Rattle.bl_ctext_semantics.specs.Tables.{found}
use Rattle.bl_emit_acts.specs.Types.{copy_name, elements_name, field_name, numbered_name, source_name, unit_name, variable_name}

-- ---- digits

pub digit_is : (c : ℕ) → digit_value c < 10 → is_ascii_digit c ≡ true
digit_is c h = grind (arith, nat_tests)

word_digit : (c : ℕ) → digit_value c < 10 → is_word_byte c ≡ true
word_digit c h = grind (arith, nat_tests)

pub digits_begin : (ds more : List ℕ) → 0 < length ds → AllDigits 10 ds → begins_with_digit (ds ++ more) ≡ true
digits_begin [] more some all = absurd (omega arith)
digits_begin (c ∷ ds) more some all = digit_is c all.0

pub digits_word : (ds : List ℕ) → AllDigits 10 ds → all_of (map is_word_byte ds) ≡ true
digits_word [] all = refl
digits_word (c ∷ ds) all = and_from (is_word_byte c) (all_of (map is_word_byte ds)) (word_digit c all.0) (digits_word ds all.1)

-- ---- a letter before them

-- whether the second byte is no digit
abbrev has_other_second : List ℕ → Bool
has_other_second (first ∷ second ∷ rest) = not (is_ascii_digit second)
has_other_second _ = true

no_digit : (x d : ℕ) → is_ascii_digit x ≡ false → is_ascii_digit d ≡ true → nat_eq x d ≡ false
no_digit x d other digit = by (nat_eq x d) refl
  where
    by : (b : Bool) → nat_eq x d ≡ b → b ≡ false
    by false is = refl
    by true is = let same : x ≡ d = eqb-true x d is in let none : false ≡ true = sym other ∙ ap is_ascii_digit same ∙ digit in absurd (cc)

differs : (w : List ℕ) (b d : ℕ) (word : List ℕ) → has_other_second w ≡ true
    → is_ascii_digit d ≡ true → pointwise nat_eq w (b ∷ d ∷ word) ≡ false
differs [] b d word h digit = refl
differs (x ∷ []) b d word h digit = second_false (nat_eq x b) false refl
differs (x ∷ y ∷ w) b d word h digit =
    second_false (nat_eq x b) (nat_eq y d && pointwise nat_eq w word)
    (ap (λ t. t && pointwise nat_eq w word) (no_digit y d (not-true (is_ascii_digit y) h) digit))

not-among : (b d : ℕ) (word : List ℕ) (words : List (List ℕ)) → all_of (map has_other_second words) ≡ true → is_ascii_digit d ≡ true →
    is_among (b ∷ d ∷ word) words ≡ false
unfolding is_among
not-among b d word [] h digit = refl
not-among b d word (w ∷ words) h digit =
    rw (differs w b d word (and_first (has_other_second w) (all_of (map has_other_second words)) h) digit)
    (not-among b d word words (and_second (has_other_second w) (all_of (map has_other_second words)) h) digit)

no_front : (b d : ℕ) (word : List ℕ) → is_ascii_digit d ≡ true → starts_with nat_eq (b ∷ d ∷ word) (codes "bl_") ≡ false
no_front b d word digit =
    second_false (nat_eq 98 b) (nat_eq 108 d && pointwise nat_eq (codes "_") (take 1 word))
    (ap (λ t. t && pointwise nat_eq (codes "_") (take 1 word)) (no_digit 108 d refl digit))

-- a letter and what begins with a digit is a name
pub lettered-name : (b : ℕ) (rest : List ℕ) → is_word_byte b ≡ true → is_ascii_digit b ≡ false → begins_with_digit rest ≡ true →
    all_of (map is_word_byte rest) ≡ true → is_name (b ∷ rest) ≡ true
unfolding is_name
lettered-name b [] h i first all = absurd (cc)
lettered-name b (d ∷ word) h i first all =
    and_from (is_word (b ∷ d ∷ word)) _ (and_from (is_word_byte b) (all_of (map is_word_byte (d ∷ word))) h all)
    (and_from (not (is_ascii_digit b)) _ (ap not i)
    (and_from (not (starts_with nat_eq (b ∷ d ∷ word) (codes "bl_"))) _ (ap not (no_front b d word first))
    (and_from (not (is_among (b ∷ d ∷ word) grammar_words)) _ (ap not (not-among b d word grammar_words refl first))
    (and_from (not (is_among (b ∷ d ∷ word) c_keywords)) (not (is_among (b ∷ d ∷ word) (codes "abort" ∷ [])))
    (ap not (not-among b d word c_keywords refl first)) (ap not (not-among b d word (codes "abort" ∷ []) refl first))))))

begins_itself : (ds : List ℕ) → 0 < length ds → AllDigits 10 ds → begins_with_digit ds ≡ true
begins_itself [] some all = absurd (omega arith)
begins_itself (c ∷ ds) some all = digit_is c all.0

-- a letter and a number
pub numbered-name : (b k : ℕ) → is_word_byte b ≡ true → is_ascii_digit b ≡ false → k < 2 ^ 64 → is_name (b ∷ decimal k) ≡ true
numbered-name b k h i small =
    let numeral = decimal_is_IsNumeral k small in
    lettered-name b (decimal k) h i (begins_itself (decimal k) numeral.0.0 numeral.0.1) (digits_word (decimal k) numeral.0.1)

-- ---- names of the source

word_bytes : (text : List ℕ) → list_all words.is_word_byte text ≡ true → all_of (map is_word_byte text) ≡ true
word_bytes [] h = refl
word_bytes (b ∷ bs) h =
    and_from (is_word_byte b) (all_of (map is_word_byte bs)) (and_first (words.is_word_byte b) (list_all words.is_word_byte bs) h)
    (word_bytes bs (and_second (words.is_word_byte b) (list_all words.is_word_byte bs) h))

plain_bytes : (text : List ℕ) → words.is_plain_word text ≡ true → list_all words.is_word_byte text ≡ true
plain_bytes [] h = refl
plain_bytes (b ∷ bs) h = and_second (not (is_ascii_digit b)) (list_all words.is_word_byte (b ∷ bs)) h

pub name_bytes : (name : Text) → words.is_name name ≡ true → all_of (map is_word_byte name) ≡ true
name_bytes name h = word_bytes name (plain_bytes name (and_first (words.is_plain_word name) _ h))

-- what a variable's name has in C of its name in the source
named_bytes : (vars : List Var) (k : ℕ) → list_all words.is_name (names_of vars) ≡ true →
    all_of (map is_word_byte (source_name (slice_get vars k))) ≡ true
named_bytes [] k all = refl
named_bytes (var ∷ vars) zero all = name_bytes var.name (and_first (words.is_name var.name) (list_all words.is_name (names_of vars)) all)
named_bytes (var ∷ vars) (suc k) all =
    named_bytes vars k (and_second (words.is_name var.name) (list_all words.is_name (names_of vars)) all)

bytes_behind : (ds more : List ℕ) → AllDigits 10 ds → all_of (map is_word_byte more) ≡ true → all_of (map is_word_byte (ds ++ more)) ≡ true
bytes_behind [] more all h = h
bytes_behind (c ∷ ds) more all h =
    and_from (is_word_byte c) (all_of (map is_word_byte (ds ++ more))) (word_digit c all.0) (bytes_behind ds more all.1 h)

-- a letter, a number, `_`, and a word
pub worded-name : (b k : ℕ) (word : Text) → is_word_byte b ≡ true → is_ascii_digit b ≡ false → all_of (map is_word_byte word) ≡ true → k < 2 ^ 64 →
    is_name (b ∷ (decimal k ++ 95 ∷ word)) ≡ true
worded-name b k word h i all small =
    let numeral = decimal_is_IsNumeral k small in
    lettered-name b (decimal k ++ 95 ∷ word) h i (digits_begin (decimal k) (95 ∷ word) numeral.0.0 numeral.0.1)
    (bytes_behind (decimal k) (95 ∷ word) numeral.0.1 (and_from (is_word_byte 95) _ refl all))

-- a letter, the position of a variable, `_`, and its name in the source
source-name : (b : ℕ) (vars : List Var) (k : ℕ) → is_word_byte b ≡ true → is_ascii_digit b ≡ false → list_all words.is_name (names_of vars) ≡ true →
    k < 2 ^ 64 → is_name (b ∷ numbered_name vars k) ≡ true
source-name b vars k h i all small = worded-name b k (source_name (slice_get vars k)) h i (named_bytes vars k all) small

-- ---- names that are made

pub variable-name : (vars : List Var) (k : ℕ) → list_all words.is_name (names_of vars) ≡ true → k < 2 ^ 64 → is_name (variable_name vars k) ≡ true
variable-name vars k all small = source-name 118 vars k refl refl all small

pub copy-name : (vars : List Var) (k : ℕ) → list_all words.is_name (names_of vars) ≡ true → k < 2 ^ 64 → is_name (copy_name vars k) ≡ true
copy-name vars k all small = source-name 112 vars k refl refl all small

pub memory-name : is_name (codes "m") ≡ true
unfolding is_name is_among
memory-name = refl

pub elements-name : is_name elements_name ≡ true
unfolding is_name is_among
elements-name = refl

pub field-name : (name : Text) → is_source_name name ≡ true → is_name (field_name name) ≡ true
field-name name h = name-with_prefix (codes "m_") name refl h

pub callee-name : (name : Text) → is_source_name name ≡ true → is_callee (unit_name name) ≡ true
callee-name name h = name-callee (unit_name name) (name-with_prefix (codes "a_") name refl h)

-- ---- functions of the prelude

among_found : (name : Text) (entries : List (List ℕ × Builtin)) (b : Builtin) → found name entries ≡ Some b →
    any_of (map (λ w. pointwise nat_eq w name) (map (λ (e : List ℕ × Builtin). e.0) entries)) ≡ true
among_found name [] b is = absurd (cc)
among_found name (entry ∷ entries) b is = by (bytes_eq entry.0 name) refl (among_found name entries b)
  where
    by : (t : Bool) → bytes_eq entry.0 name ≡ t →
        (found name entries ≡ Some b → any_of (map (λ w. pointwise nat_eq w name) (map (λ (e : List ℕ × Builtin). e.0) entries)) ≡ true) →
        (bytes_eq entry.0 name || any_of (map (λ w. pointwise nat_eq w name) (map (λ (e : List ℕ × Builtin). e.0) entries))) ≡ true
    by true same later = ap (λ t. t || any_of (map (λ w. pointwise nat_eq w name) (map (λ (e : List ℕ × Builtin). e.0) entries))) same
    by false same later =
        ap (λ t. t || any_of (map (λ w. pointwise nat_eq w name) (map (λ (e : List ℕ × Builtin). e.0) entries))) same
        ∙ later (ap (λ (t : Bool). if t then Some entry.1 else found name entries) (sym same) ∙ is)

-- what the prelude has may be called
pub builtin-callee : (name : Text) (b : Builtin) → builtin_of name ≡ Some b → is_callee name ≡ true
unfolding is_callee builtin_of is_among
builtin-callee name b is = or_right (is_name name) (is_among name prelude_functions) (among_found name builtins b is)
