-- The pieces of bytes, where each is a token, are the tokens that the bytes are spaced into.
use Rattle.std.proofs.Common.{◌≡◌, ◌⊎◌, ℕ, ◌≤◌, Bool, true, false, ◌&&◌, ◌||◌, cond, List, [], ◌∷◌, ◌++◌, length, map, refl, sym, ap, ◌∙◌, subst, inl, inr}
use Rattle.std.proofs.Common.{arith}
use Rattle.std.proofs.lemmas.Bool.Decides.{nat_tests}
use Rattle.std.proofs.lemmas.Bool.{and_from, or_left, or_right}
use Rattle.bl_tree.proofs.Basics.{and_first, and_second, either_of}
use Rattle.bl_tree.specs.Reduce.{all_of}
use Rattle.bl_ctext.specs.Token.{Token, is_blank, is_word_byte, is_double_sign, is_word, is_sign, is_token, IsLongest, SpacedC}
use Rattle.bl_ctext.specs.inner.Cut.{are_tokens}
use Rattle.bl_ctext.specs.Token.{put_before}
use Rattle.bl_ctext.proofs.Bytes.{word_byte-not_blank}
use Rattle.bl_cparse_syntax.specs.Pieces.{cut_off, pieces}
use Rattle.bl_cparse_syntax.proofs.PieceLemmas.{no_pair}
use Rattle.bl_ctext.proofs.Longest.{no_blanks}

-- whether the bytes may go on a piece: a word by a byte of words, a single byte by the second of a sign
abbrev goes : ℕ → List ℕ → List ℕ → Bool
goes a [] [] = false
goes a [] (c ∷ after) = is_word_byte a && is_word_byte c || is_double_sign a c
goes a (b ∷ more) [] = false
goes a (b ∷ more) (c ∷ after) = is_word_byte a && is_word_byte c

-- the next piece of the bytes
record Next (piece : Token) (bytes after : List ℕ) : Type 0 where
  blanks : List ℕ
  blank : all_of (map is_blank blanks) ≡ true
  cut : bytes ≡ blanks ++ (piece ++ after)
  first : ℕ
  others : List ℕ
  some : piece ≡ first ∷ others
  stops : goes first others after ≡ false

abbrev Cuts : List Token → List ℕ → Type 0
Cuts [] bytes = all_of (map is_blank bytes) ≡ true
Cuts (piece ∷ others) bytes = (after : List ℕ) × (Next piece bytes after × Cuts others after)

one_blank : (b : ℕ) (bs : List ℕ) (ts : List Token) → is_blank b ≡ true → Cuts ts bs → Cuts ts (b ∷ bs)
one_blank b bs [] h cuts = and_from _ _ h cuts
one_blank b bs (t ∷ ts) h (after, (next, rest)) = (
  after,
  (
    record {
      blanks = b ∷ next.blanks;
      blank = and_from _ _ h next.blank;
      cut = ap (λ (xs : List ℕ). b ∷ xs) next.cut;
      first =
          next.first;
      others = next.others;
      some = next.some;
      stops = next.stops;
    },
    rest,
  ),
)

-- a piece that begins with a byte of words and doesn't go on has no such byte behind it
word_stops : (c : ℕ) (others after : List ℕ) (a : ℕ) (more : List ℕ) → is_word_byte c ≡ true → goes c others after ≡ false →
    goes a (c ∷ more) after ≡ false
word_stops c [] [] a more h stops = refl
word_stops c [] (d ∷ after) a more h stops = no_more (is_word_byte a) (is_word_byte d) (rw h at stops)
  where
    no_more : (v w : Bool) → (w || is_double_sign c d) ≡ false → (v && w) ≡ false
    no_more false w k = refl
    no_more true true k = cc
    no_more true false k = refl
word_stops c (x ∷ others) [] a more h stops = refl
word_stops c (x ∷ others) (d ∷ after) a more h stops = no_more (is_word_byte a) (is_word_byte d) (rw h at stops)
  where
    no_more : (v w : Bool) → w ≡ false → (v && w) ≡ false
    no_more false w k = refl
    no_more true w k = k

one_more : (a c : ℕ) (cs : List ℕ) (t : Token) (ts : List Token) → is_word_byte c ≡ true → Cuts (t ∷ ts) (c ∷ cs) →
    Cuts ((a ∷ t) ∷ ts) (a ∷ c ∷ cs)
one_more a c cs t ts h (after, (next, rest)) =
    let here : c ∷ cs ≡ t ++ after = no_blanks c cs next.blanks (t ++ after) (word_byte-not_blank c h) next.blank next.cut in
    let begins : c ∷ cs ≡ next.first ∷ (next.others ++ after) = here ∙ ap (λ (xs : List ℕ). xs ++ after) next.some in
    let same : c ≡ next.first = cc in
    let word : is_word_byte next.first ≡ true = subst (λ (x : ℕ). is_word_byte x ≡ true) same h in
    let stops : goes a (next.first ∷ next.others) after ≡ false = word_stops next.first next.others after a next.others word next.stops in (
      after,
      (
        record {
          blanks = [];
          blank = refl;
          cut = ap (λ (xs : List ℕ). a ∷ xs) here;
          first = a;
          others =
              next.first ∷ next.others;
          some = ap (λ (xs : List ℕ). a ∷ xs) next.some;
          stops = stops;
        },
        rest,
      ),
    )

-- the pieces of bytes that begin with a byte of words
some_piece : (c : ℕ) (cs : List ℕ) → is_word_byte c ≡ true → (t : Token) × ((ts : List Token) × (pieces (c ∷ cs) ≡ t ∷ ts))
some_piece c [] h = (c ∷ [], ([], rw (word_byte-not_blank c h) refl))
some_piece c (d ∷ ds) h = elim (is_word_byte d) as (λ v. is_word_byte d ≡ v →
    (t : Token) × ((ts : List Token) × (pieces (c ∷ d ∷ ds) ≡ t ∷ ts))) [
      | true ↦ λ e. goes_on e (put (pieces (d ∷ ds)))
      | false ↦ λ e. (c ∷ [], (pieces (d ∷ ds), rw (word_byte-not_blank c h, no_pair c d h, h, e) refl))
    ] refl
  where
    Put : List Token → Type 0
    Put ts = (t : Token) × ((us : List Token) × (put_before c ts ≡ t ∷ us))

    put : (ts : List Token) → (t : Token) × ((us : List Token) × (put_before c ts ≡ t ∷ us))
    put [] = (c ∷ [], ([], refl))
    put (t ∷ ts) = (c ∷ t, (ts, refl))

    goes_on : is_word_byte d ≡ true → (t : Token) × ((us : List Token) × (put_before c (pieces (d ∷ ds)) ≡ t ∷ us)) →
        (t : Token) × ((ts : List Token) × (pieces (c ∷ d ∷ ds) ≡ t ∷ ts))
    goes_on e (t, (us, f)) = (t, (us, rw (word_byte-not_blank c h, no_pair c d h, h, e) f))

pair_no_word : (a b : ℕ) → is_double_sign a b ≡ true → is_word_byte a ≡ false
pair_no_word a b h = grind (arith, nat_tests)

pair_stops : (a b : ℕ) (bs : List ℕ) → is_double_sign a b ≡ true → goes a (b ∷ []) bs ≡ false
pair_stops a b [] h = refl
pair_stops a b (c ∷ cs) h = rw (pair_no_word a b h) refl

step : (a b : ℕ) (bs : List ℕ) (blank pair word : Bool) → is_blank a ≡ blank → is_double_sign a b ≡ pair →
    (is_word_byte a && is_word_byte b) ≡ word →
    Cuts (pieces bs) bs → Cuts (pieces (b ∷ bs)) (b ∷ bs) → Cuts (cut_off blank pair word a b (pieces bs) (pieces (b ∷ bs))) (a ∷ b ∷ bs)
step a b bs true pair word h k w far near = one_blank a (b ∷ bs) (pieces (b ∷ bs)) h near
step a b bs false true word h k w far near =
    (bs, (record { blanks = []; blank = refl; cut = refl; first = a; others = b ∷ []; some = refl; stops = pair_stops a b bs k }, far))
step a b bs false false true h k w far near =
    let next_word : is_word_byte b ≡ true = and_second (is_word_byte a) (is_word_byte b) w in
    let (t, rest) = some_piece b bs next_word in
    let (ts, e) = rest in
    let P : List Token → Type 0 = λ us. Cuts us (b ∷ bs) in
    let Q : List Token → Type 0 = λ us. Cuts (put_before a us) (a ∷ b ∷ bs) in
    subst Q (sym e) (one_more a b bs t ts next_word (subst P e near))
step a b bs false false false h k w far near =
    (b ∷ bs, (record { blanks = []; blank = refl; cut = refl; first = a; others = []; some = refl; stops = rw (w, k) refl }, near))

single : (a : ℕ) (v : Bool) → is_blank a ≡ v → Cuts (cond v [] ((a ∷ []) ∷ [])) (a ∷ [])
single a true h = and_from _ _ h refl
single a false h = ([], (record { blanks = []; blank = refl; cut = refl; first = a; others = []; some = refl; stops = refl }, refl))

cuts : (bs : List ℕ) → Cuts (pieces bs) bs
cuts [] = refl
cuts (a ∷ []) = single a (is_blank a) refl
cuts (a ∷ b ∷ bs) = step a b bs (is_blank a) (is_double_sign a b) (is_word_byte a && is_word_byte b) refl refl refl (cuts bs) (cuts (b ∷ bs))

all_in : (others : List ℕ) (c : ℕ) (more : List ℕ) → all_of (map is_word_byte (others ++ c ∷ more)) ≡ true → is_word_byte c ≡ true
all_in [] c more h = and_first _ _ h
all_in (o ∷ others) c more h = all_in others c more (and_second _ _ h)

word_goes : (f : ℕ) (others : List ℕ) (c : ℕ) (more rest : List ℕ) → is_word ((f ∷ others) ++ c ∷ more) ≡ true →
    goes f others (c ∷ rest) ≡ true
word_goes f [] c more rest h =
    or_left (is_word_byte f && is_word_byte c) (is_double_sign f c) (and_from (is_word_byte f) (is_word_byte c) (and_first _ _ h) (all_in [] c more (and_second _ _ h)))
word_goes f (o ∷ others) c more rest h = and_from (is_word_byte f) (is_word_byte c) (and_first _ _ h) (all_in (o ∷ others) c more (and_second _ _ h))

sign_goes : (f : ℕ) (others : List ℕ) (c : ℕ) (more rest : List ℕ) → is_sign ((f ∷ others) ++ c ∷ more) ≡ true →
    goes f others (c ∷ rest) ≡ true
sign_goes f [] c [] rest h = or_right (is_word_byte f && is_word_byte c) (is_double_sign f c) h
sign_goes f [] c (m ∷ more) rest h = cc
sign_goes f (o ∷ []) c more rest h = cc
sign_goes f (o ∷ x ∷ others) c more rest h = cc

-- where a longer token begins there, the piece goes on
token_goes : (f : ℕ) (others : List ℕ) (c : ℕ) (more rest : List ℕ) → is_token ((f ∷ others) ++ c ∷ more) ≡ true →
    goes f others (c ∷ rest) ≡ true
token_goes f others c more rest h =
    elim (either_of (is_word ((f ∷ others) ++ c ∷ more)) (is_sign ((f ∷ others) ++ c ∷ more)) h)
    [ inl word ↦ word_goes f others c more rest word | inr sign ↦ sign_goes f others c more rest sign ]

-- Of two fronts of the same bytes one goes on where the other ends.
record GoesOn (t longer after : List ℕ) : Type 0 where
  c : ℕ
  more : List ℕ
  rest : List ℕ
  long : longer ≡ t ++ (c ∷ more)
  next : after ≡ c ∷ rest

beyond : (t longer behind after : List ℕ) → longer ++ behind ≡ t ++ after → (length longer ≤ length t) ⊎ GoesOn t longer after
beyond t [] behind after e = inl (omega arith)
beyond [] (x ∷ xs) behind after e = inr (record { c = x; more = xs; rest = xs ++ behind; long = refl; next = sym e })
beyond (a ∷ t) (x ∷ xs) behind after e =
    let same : x ≡ a = cc in
    let tails : xs ++ behind ≡ t ++ after = cc in
    elim (beyond t xs behind after tails) [
      | inl short ↦ inl (omega arith)
      | inr on ↦ inr (record { c = on.c; more = on.more; rest = on.rest; long = rw (same, on.long) refl; next = on.next })
    ]

longest : (first : ℕ) (others after : List ℕ) → goes first others after ≡ false → IsLongest (first ∷ others) after
longest first others after stops longer behind same token =
    elim (beyond (first ∷ others) longer behind after same) [
      | inl short ↦ short
      | inr on ↦
          let whole : is_token ((first ∷ others) ++ (on.c ∷ on.more)) ≡ true = rw on.long at token in
          let met : goes first others (on.c ∷ on.rest) ≡ true = token_goes first others on.c on.more on.rest whole in
          let not_met : goes first others (on.c ∷ on.rest) ≡ false = rw on.next at stops in
          cc
    ]

spaced_cuts : (ts : List Token) (bs : List ℕ) → are_tokens ts ≡ true → Cuts ts bs → SpacedC ts bs
spaced_cuts [] bs h cuts = cuts
spaced_cuts (t ∷ ts) bs h (after, (next, rest)) = (
  after,
  (
    record {
      blanks = next.blanks;
      blank = next.blank;
      cut = next.cut;
      is_one = and_first _ _ h;
      longest = rw next.some (longest next.first next.others after next.stops);
    },
    spaced_cuts ts after (and_second _ _ h) rest,
  ),
)

pub spaced : (bs : List ℕ) → are_tokens (pieces bs) ≡ true → SpacedC (pieces bs) bs
spaced bs h = spaced_cuts (pieces bs) bs h (cuts bs)
