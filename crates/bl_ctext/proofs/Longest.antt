-- Bytes are spaced tokens, each the longest at its place, where they are cut as the writer cuts them.
use Rattle.std.proofs.Common.{◌≡◌, ◌⊎◌, ℕ, ◌≤◌, Bool, true, false, ◌&&◌, List, [], ◌∷◌, ◌++◌, length, map, refl, sym, ap, subst, inl, inr, arith}
use Rattle.std.proofs.lemmas.Bool.{and_from, or_left, or_right}
use Rattle.bl_tree.proofs.Basics.{and_first, and_second, either_of}
use Rattle.bl_tree.specs.Reduce.{all_of}
use Rattle.bl_ctext.specs.Token.{Token, is_blank, is_word_byte, is_double_sign, is_word, is_sign, is_token, IsLongest, SpacedC}
use Rattle.bl_ctext.specs.inner.Cut.{joins, may_continue, cut_before, tokens_in, may_merge, are_tokens}
use Rattle.bl_ctext.specs.Token.{put_before}
use Rattle.bl_ctext.proofs.Bytes.{joined-not_blank}
use Rattle.bl_ctext.proofs.Cutting.{first_token}

-- the next token of the bytes, cut as the writer cuts them
record Next (token : Token) (bytes after : List ℕ) : Type 0 where
  blanks : List ℕ
  blank : all_of (map is_blank blanks) ≡ true
  cut : bytes ≡ blanks ++ (token ++ after)
  first : ℕ
  others : List ℕ
  some : token ≡ first ∷ others
  apart : may_merge token after ≡ false

abbrev Cuts : List Token → List ℕ → Type 0
Cuts [] bytes = all_of (map is_blank bytes) ≡ true
Cuts (token ∷ tokens) bytes = (after : List ℕ) × (Next token bytes after × Cuts tokens after)

-- a blank before the bytes changes nothing
one_blank : (b : ℕ) (bs : List ℕ) (ts : List Token) → is_blank b ≡ true → Cuts ts bs → Cuts ts (b ∷ bs)
one_blank b bs [] h cuts = and_from _ _ h cuts
one_blank b bs (t ∷ ts) h (after, (next, rest)) = (
  after,
  (
    record {
      blanks = b
          ∷ next.blanks;
      blank = and_from _ _ h next.blank;
      cut = ap (λ (xs : List ℕ). b ∷ xs) next.cut;
      first = next.first;
      others = next.others;
      some =
          next.some;
      apart = next.apart;
    },
    rest,
  ),
)

pub no_blanks : (c : ℕ) (cs blanks rest : List ℕ) → is_blank c ≡ false → all_of (map is_blank blanks) ≡ true → c ∷ cs ≡ blanks ++ rest →
    c ∷ cs ≡ rest
no_blanks c cs [] rest h k e = e
no_blanks c cs (d ∷ ds) rest h k e =
    let same : c ≡ d = cc in
    let blank : is_blank d ≡ true = and_first _ _ k in
    let not_blank : is_blank d ≡ false = rw same at h in
    cc

-- a byte that goes on into the next one goes before the first token
one_more : (b c : ℕ) (cs : List ℕ) (t : Token) (us : List Token) → joins b c ≡ true → Cuts (t ∷ us) (c ∷ cs) →
    Cuts ((b ∷ t) ∷ us) (b ∷ c ∷ cs)
one_more b c cs t us on (after, (next, rest)) =
    let here : c ∷ cs ≡ t ++ after = no_blanks c cs next.blanks (t ++ after) (joined-not_blank b c on).1 next.blank next.cut in
    let behind : may_merge (next.first ∷ next.others) after ≡ false = rw next.some at next.apart in
    let apart : may_merge (b ∷ t) after ≡ false = rw next.some behind in
    (after, (record { blanks = []; blank = refl; cut = ap (λ (xs : List ℕ). b ∷ xs) here; first = b; others = t; some = refl; apart = apart }, rest))

one_before : (b : ℕ) (bs : List ℕ) (blank on : Bool) → is_blank b ≡ blank → may_continue b bs ≡ on → Cuts (tokens_in bs) bs →
    Cuts (cut_before blank on b (tokens_in bs)) (b ∷ bs)
one_before b bs true on h k cuts = one_blank b bs (tokens_in bs) h cuts
one_before b bs false false h k cuts = (bs, (record { blanks = []; blank = refl; cut = refl; first = b; others = []; some = refl; apart = k }, cuts))
one_before b [] false true h k cuts = cc
one_before b (c ∷ cs) false true h k cuts =
    let (t, rest) = first_token c cs (joined-not_blank b c k).1 in
    let (us, e) = rest in
    let P : List Token → Type 0 = λ ts. Cuts ts (c ∷ cs) in
    let Q : List Token → Type 0 = λ ts. Cuts (put_before b ts) (b ∷ c ∷ cs) in
    subst Q (sym e) (one_more b c cs t us k (subst P e cuts))

cuts : (bs : List ℕ) → Cuts (tokens_in bs) bs
cuts [] = refl
cuts (b ∷ bs) = one_before b bs (is_blank b) (may_continue b bs) refl refl (cuts bs)

-- where a token goes on by a byte, its last byte joins that one
word_meets : (t : Token) (c : ℕ) (more after : List ℕ) → is_word (t ++ (c ∷ more)) ≡ true → (first : ℕ) (others : List ℕ) →
    t ≡ first ∷ others →
    may_merge t (c ∷ after) ≡ true
word_meets [] c more after h first others e = cc
word_meets (b ∷ []) c more after h first others e =
    let left : is_word_byte b ≡ true = and_first (is_word_byte b) (is_word_byte c && all_of (map is_word_byte more)) h in
    let right : is_word_byte c ≡ true =
    and_first (is_word_byte c) (all_of (map is_word_byte more)) (and_second (is_word_byte b) (is_word_byte c && all_of (map is_word_byte more)) h) in
    or_left (is_word_byte b && is_word_byte c) (is_double_sign b c) (and_from (is_word_byte b) (is_word_byte c) left right)
word_meets (b ∷ d ∷ t) c more after h first others e = word_meets (d ∷ t) c more after (and_second _ _ h) d t refl

sign_meets : (t : Token) (c : ℕ) (more after : List ℕ) → is_sign (t ++ (c ∷ more)) ≡ true → (first : ℕ) (others : List ℕ) →
    t ≡ first ∷ others →
    may_merge t (c ∷ after) ≡ true
sign_meets [] c more after h first others e = cc
sign_meets (b ∷ []) c [] after h first others e = or_right _ _ h
sign_meets (b ∷ []) c (m ∷ more) after h first others e = cc
sign_meets (b ∷ d ∷ []) c more after h first others e = cc
sign_meets (b ∷ d ∷ x ∷ t) c more after h first others e = cc

longer_meets : (t : Token) (c : ℕ) (more after : List ℕ) → is_token (t ++ (c ∷ more)) ≡ true → (first : ℕ) (others : List ℕ) →
    t ≡ first ∷ others →
    may_merge t (c ∷ after) ≡ true
longer_meets t c more after h first others e =
    elim (either_of (is_word (t ++ (c ∷ more))) (is_sign (t ++ (c ∷ more))) h)
    [ inl word ↦ word_meets t c more after word first others e | inr sign ↦ sign_meets t c more after sign first others e ]

-- Of two fronts of the same bytes one goes on where the other ends.
record GoesOn (t longer after : List ℕ) : Type 0 where
  c : ℕ
  more : List ℕ
  rest : List ℕ
  long : longer ≡ t ++ (c ∷ more)
  next : after ≡ c ∷ rest

beyond : (t longer behind after : List ℕ) → longer ++ behind ≡ t ++ after → (length longer ≤ length t) ⊎ GoesOn t longer after
beyond t [] behind after e = inl (omega arith)
beyond [] (x ∷ xs) behind after e = inr (record { c = x; more = xs; rest = xs ++ behind; long = refl; next = sym e })
beyond (a ∷ t) (x ∷ xs) behind after e =
    let same : x ≡ a = cc in
    let tails : xs ++ behind ≡ t ++ after = cc in
    elim (beyond t xs behind after tails) [
      | inl short ↦ inl (omega arith)
      | inr on ↦ inr (record { c = on.c; more = on.more; rest = on.rest; long = rw (same, on.long) refl; next = on.next })
    ]

longest : (t after : List ℕ) (first : ℕ) (others : List ℕ) → t ≡ first ∷ others → may_merge t after ≡ false → IsLongest t after
longest t after first others e apart longer behind same token =
    elim (beyond t longer behind after same) [
      | inl short ↦ short
      | inr on ↦
          let whole : is_token (t ++ (on.c ∷ on.more)) ≡ true = rw on.long at token in
          let met : may_merge t (on.c ∷ on.rest) ≡ true = longer_meets t on.c on.more on.rest whole first others e in
          let not_met : may_merge t (on.c ∷ on.rest) ≡ false = rw on.next at apart in
          cc
    ]

spaced_cuts : (ts : List Token) (bs : List ℕ) → are_tokens ts ≡ true → Cuts ts bs → SpacedC ts bs
spaced_cuts [] bs h cuts = cuts
spaced_cuts (t ∷ ts) bs h (after, (next, rest)) = (
  after,
  (
    record {
      blanks = next.blanks;
      blank = next.blank;
      cut = next.cut;
      is_one = and_first _ _ h;
      longest = longest t after next.first next.others
          next.some next.apart;
    },
    spaced_cuts ts after (and_second _ _ h) rest,
  ),
)

pub spaced : (bs : List ℕ) → are_tokens (tokens_in bs) ≡ true → SpacedC (tokens_in bs) bs
spaced bs h = spaced_cuts (tokens_in bs) bs h (cuts bs)
