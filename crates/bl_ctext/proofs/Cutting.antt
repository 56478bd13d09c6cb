-- What becomes of the tokens where bytes are put together.
use Rattle.std.proofs.Common.{◌≡◌, ℕ, zero, suc, ◌-◌, Bool, true, false, List, [], ◌∷◌, ◌++◌, length, map, drop, Some, None, refl, ◌∙◌}
use Rattle.std.proofs.Common.{ap, inl, inr}
use Rattle.std.specs.Prelude.{slice_get}
use native.Mathlib.Numerals.{unary_clauses}
use Rattle.std.proofs.lemmas.Bool.{and_from, or_left, or_right}
use Rattle.bl_tree.proofs.Basics.{and_first, and_second, either_of}
use Rattle.bl_tree.specs.Reduce.{all_of}
use Rattle.bl_ctext.specs.Token.{Token, is_blank, is_word_byte, is_word, is_sign, is_token}
use Rattle.bl_ctext.specs.inner.Cut.{joins, may_continue, cut_before, tokens_in, may_merge, begins_apart}
use Rattle.bl_ctext.proofs.Bytes.{follows-none, joined-not_blank, joins-blank, word_byte-not_blank, sign_byte-not_blank}

-- whether the last byte of the first and the first of the second join
pub meets-last : (xs ys : List ℕ) (a b : ℕ) → slice_get xs (length xs - 1) ≡ Some a → slice_get ys 0 ≡ Some b → may_merge xs ys ≡ joins a b
meets-last [] ys a b h k = cc
meets-last (x ∷ []) [] a b h k = cc
meets-last (x ∷ []) (y ∷ ys) a b h k = let e : x ≡ a = cc in let f : y ≡ b = cc in rw (e, f) refl
meets-last (x ∷ z ∷ xs) ys a b h k = meets-last (z ∷ xs) ys a b (simp unary_clauses (simp unary_clauses at h)) k

pub meets-nothing_behind : (xs ys : List ℕ) → slice_get ys 0 ≡ None → may_merge xs ys ≡ false
meets-nothing_behind [] ys h = refl
meets-nothing_behind (x ∷ []) [] h = refl
meets-nothing_behind (x ∷ []) (y ∷ ys) h = cc
meets-nothing_behind (x ∷ z ∷ xs) ys h = meets-nothing_behind (z ∷ xs) ys h

-- behind a space nothing goes on
pub meets-space : (xs ys : List ℕ) → may_merge (xs ++ 32 ∷ []) ys ≡ false
meets-space [] [] = refl
meets-space [] (y ∷ ys) = refl
meets-space (x ∷ []) [] = refl
meets-space (x ∷ []) (y ∷ ys) = refl
meets-space (x ∷ z ∷ xs) ys = meets-space (z ∷ xs) ys

pub before_a_space : (xs : List ℕ) → may_merge xs (32 ∷ []) ≡ false
before_a_space [] = refl
before_a_space (x ∷ []) = joins-blank x 32 refl
before_a_space (x ∷ z ∷ xs) = before_a_space (z ∷ xs)

-- what begins apart goes on nothing
pub meets-apart : (xs ys : List ℕ) → begins_apart ys ≡ true → may_merge xs ys ≡ false
meets-apart [] ys h = refl
meets-apart (x ∷ []) [] h = refl
meets-apart (x ∷ []) (y ∷ ys) h = follows-none x y h
meets-apart (x ∷ z ∷ xs) ys h = meets-apart (z ∷ xs) ys h

-- a longer part of the bytes meets what the shorter meets
pub meets-drop : (n : ℕ) (xs ys : List ℕ) → may_merge xs ys ≡ false → may_merge (drop n xs) ys ≡ false
meets-drop zero xs ys h = h
meets-drop (suc n) [] ys h = refl
meets-drop (suc n) (x ∷ []) ys h = meets-drop n [] ys refl
meets-drop (suc n) (x ∷ z ∷ xs) ys h = meets-drop n (z ∷ xs) ys h

apart : (blank : Bool) (b : ℕ) (tokens : List Token) → cut_before blank false b tokens ≡ cut_before blank false b [] ++ tokens
apart true b tokens = refl
apart false b tokens = refl

holds_one : (on : Bool) (b : ℕ) (ts : List Token) → (t : Token) × ((us : List Token) × (cut_before false on b ts ≡ t ∷ us))
holds_one false b ts = (b ∷ [], (ts, refl))
holds_one true b [] = (b ∷ [], ([], refl))
holds_one true b (t ∷ ts) = (b ∷ t, (ts, refl))

-- bytes that begin with no blank hold a token
pub first_token : (b : ℕ) (bs : List ℕ) → is_blank b ≡ false → (t : Token) × ((ts : List Token) × (tokens_in (b ∷ bs) ≡ t ∷ ts))
first_token b bs h =
    let e : tokens_in (b ∷ bs) ≡ cut_before false (may_continue b bs) b (tokens_in bs) =
    ap (λ (v : Bool). cut_before v (may_continue b bs) b (tokens_in bs)) h in
    let (t, rest) = holds_one (may_continue b bs) b (tokens_in bs) in
    let (ts, f) = rest in
    (t, (ts, e ∙ f))

continued : (blank on : Bool) (b : ℕ) (ts us : List Token) → (on ≡ true → (t : Token) × ((rest : List Token) × (ts ≡ t ∷ rest))) →
    cut_before blank on b (ts ++ us) ≡ cut_before blank on b ts ++ us
continued true on b ts us h = refl
continued false false b ts us h = refl
continued false true b ts us h =
    let (t, rest) = h refl in
    let (more, e) = rest in
    rw e refl

-- where the last byte and the next don't join, the tokens of and_from together are those of the one and those of the other
pub tokens_in-append : (xs ys : List ℕ) → may_merge xs ys ≡ false → tokens_in (xs ++ ys) ≡ tokens_in xs ++ tokens_in ys
tokens_in-append [] ys h = refl
tokens_in-append (b ∷ []) ys h = rw h (apart (is_blank b) b (tokens_in ys))
tokens_in-append (b ∷ c ∷ xs) ys h =
    ap (λ (ts : List Token). cut_before (is_blank b) (joins b c) b ts) (tokens_in-append (c ∷ xs) ys h)
    ∙ continued (is_blank b) (joins b c) b (tokens_in (c ∷ xs)) (tokens_in ys) (λ (j : joins b c ≡ true). first_token c xs (joined-not_blank b c j).1)

-- a word is one token of its bytes, and so is a sign
word_bytes : (b : ℕ) (bs : List ℕ) → is_word_byte b ≡ true → all_of (map is_word_byte bs) ≡ true → tokens_in (b ∷ bs) ≡ (b ∷ bs) ∷ []
word_bytes b [] h k = rw (word_byte-not_blank b h) refl
word_bytes b (c ∷ cs) h k =
    let first : is_word_byte c ≡ true = and_first _ _ k in
    let on : joins b c ≡ true = or_left _ _ (and_from _ _ h first) in
    let rest : tokens_in (c ∷ cs) ≡ (c ∷ cs) ∷ [] = word_bytes c cs first (and_second _ _ k) in
    let none : is_blank b ≡ false = word_byte-not_blank b h in
    ap (λ (ts : List Token). cut_before (is_blank b) (joins b c) b ts) rest ∙ rw (none, on) refl

tokens_in-word : (t : Token) → is_word t ≡ true → tokens_in t ≡ t ∷ []
tokens_in-word [] h = cc
tokens_in-word (b ∷ bs) h = word_bytes b bs (and_first _ _ h) (and_second _ _ h)

tokens_in-sign : (t : Token) → is_sign t ≡ true → tokens_in t ≡ t ∷ []
tokens_in-sign [] h = cc
tokens_in-sign (a ∷ []) h = rw (sign_byte-not_blank a h) refl
tokens_in-sign (a ∷ b ∷ []) h =
    let on : joins a b ≡ true = or_right _ _ h in
    let none : (is_blank a ≡ false) × (is_blank b ≡ false) = joined-not_blank a b on in
    rw (none.0, on, none.1) refl
tokens_in-sign (a ∷ b ∷ c ∷ more) h = cc

pub tokens_in-token : (t : Token) → is_token t ≡ true → tokens_in t ≡ t ∷ []
tokens_in-token t h = elim (either_of (is_word t) (is_sign t) h) [ inl word ↦ tokens_in-word t word | inr sign ↦ tokens_in-sign t sign ]
