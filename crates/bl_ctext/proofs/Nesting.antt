-- How many brackets are open over lists of tokens, by how the lists are put together.
use Rattle.std.proofs.Common.{◌≡◌, ℕ, ◌+◌, ◌-◌, ◌≤◌, max, Bool, true, false, ◌||◌, List, [], ◌∷◌, ◌++◌, refl, sym, ◌∙◌, ap, subst, arith}
use Rattle.bl_tree.proofs.Basics.{neither_first, neither_second}
use Rattle.bl_tree.specs.Reduce.{joined}
use Rattle.bl_ctext.specs.Token.{Token}
use Rattle.bl_ctext.specs.Spelling.{listed, with_commas}
use Rattle.bl_ctext.specs.Spellable.{is_opening, is_closing, open_behind, most_open}

-- how many brackets are open behind the tokens, where so many are before them
abbrev pub open_after : ℕ → List Token → ℕ
open_after n [] = n
open_after n (token ∷ tokens) = open_after (open_behind n token) tokens

-- at least those are open at once that are open at first
pub most_open-first : (n : ℕ) (ts : List Token) → n ≤ most_open n ts
most_open-first n [] = omega arith
most_open-first n (t ∷ ts) = omega arith

pub open_after-append : (n : ℕ) (xs ys : List Token) → open_after n (xs ++ ys) ≡ open_after (open_after n xs) ys
open_after-append n [] ys = refl
open_after-append n (x ∷ xs) ys = open_after-append (open_behind n x) xs ys

pub most_open-append : (n : ℕ) (xs ys : List Token) → most_open n (xs ++ ys) ≡ max (most_open n xs) (most_open (open_after n xs) ys)
most_open-append n [] ys = omega (arith, most_open-first n ys)
most_open-append n (x ∷ xs) ys = omega (arith, most_open-append (open_behind n x) xs ys)

-- whether the token is a bracket
abbrev pub is_bracket : Token → Bool
is_bracket t = is_opening t || is_closing t

-- The tokens close all of so many brackets that are open, and never more than the depth are open, beside those that are
-- open outside.
pub record Closes (inner depth : ℕ) (tokens : List Token) : Type 0 where
  pub after : (n : ℕ) → open_after (n + inner) tokens ≡ n
  pub within : (n : ℕ) → most_open (n + inner) tokens ≤ n + depth

-- the tokens close each bracket that they open, and no other
abbrev pub Nests : ℕ → List Token → Type 0
Nests depth tokens = Closes 0 depth tokens

pub closes-nil : (d : ℕ) → Nests d []
closes-nil d = record { after = λ n. omega arith; within = λ n. omega arith }

pub opened : (n : ℕ) (t : Token) → is_opening t ≡ true → open_behind n t ≡ n + 1
opened n t h = rw h

closed : (n : ℕ) (t : Token) → is_opening t ≡ false → is_closing t ≡ true → open_behind n t ≡ n - 1
closed n t h k = rw (h, k)

left : (n : ℕ) (t : Token) → is_opening t ≡ false → is_closing t ≡ false → open_behind n t ≡ n
left n t h k = rw (h, k)

-- a step of one token, by what is open behind it
stepped : (k m d : ℕ) (t : Token) (ts : List Token) → k ≤ d → ((n : ℕ) → open_behind (n + k) t ≡ n + m) → Closes m d ts →
    Closes k d (t ∷ ts)
stepped k m d t ts le step c = record {
  after = λ n. ap (λ (i : ℕ). open_after i ts) (step n) ∙ c.after n;
  within = λ n. let e : most_open (open_behind (n + k) t) ts ≡ most_open (n + m) ts = ap (λ (i : ℕ). most_open i ts) (step n) in
      omega (arith, c.within n);
}

-- an opening bracket before tokens that close it
pub closes-open : (k d : ℕ) (t : Token) (ts : List Token) → is_opening t ≡ true → k ≤ d → Closes (k + 1) d ts → Closes k d (t ∷ ts)
closes-open k d t ts h le c = stepped k (k + 1) d t ts le (λ n. opened (n + k) t h ∙ omega arith) c

pub closes-close : (k d : ℕ) (t : Token) (ts : List Token) → is_opening t ≡ false → is_closing t ≡ true → k + 1 ≤ d →
    Closes k d ts → Closes (k + 1) d (t ∷ ts)
closes-close k d t ts h i le c = stepped (k + 1) k d t ts le (λ n. closed (n + (k + 1)) t h i ∙ omega arith) c

-- a token that is no bracket
pub closes-plain : (k d : ℕ) (t : Token) (ts : List Token) → is_bracket t ≡ false → k ≤ d → Closes k d ts → Closes k d (t ∷ ts)
closes-plain k d t ts h le c = stepped k k d t ts le (λ n. left (n + k) t (neither_first _ _ h) (neither_second _ _ h)) c

-- tokens whose own brackets are closed, where the depth leaves room for theirs
pub closes-append : (k d e : ℕ) (xs ys : List Token) → Nests e xs → k + e ≤ d → Closes k d ys → Closes k d (xs ++ ys)
closes-append k d e xs ys x le y = record {
  after = λ n. open_after-append (n + k) xs ys ∙ (ap (λ (i : ℕ). open_after i ys) (same n) ∙ y.after n);
  within = λ n.
      let first : most_open (n + k) xs ≤ n + k + e = subst (λ (i : ℕ). most_open i xs ≤ n + k + e) (plus_zero (n + k)) (x.within (n + k)) in
      let rest : most_open (open_after (n + k) xs) ys ≡ most_open (n + k) ys = ap (λ (i : ℕ). most_open i ys) (same n) in
      omega (arith, most_open-append (n + k) xs ys, y.within n);
}
  where
    plus_zero : (n : ℕ) → n + 0 ≡ n
    plus_zero n = omega arith

    same : (n : ℕ) → open_after (n + k) xs ≡ n + k
    same n = ap (λ (i : ℕ). open_after i xs) (sym (plus_zero (n + k))) ∙ x.after (n + k)

pub nests-append : (d : ℕ) (xs ys : List Token) → Nests d xs → Nests d ys → Nests d (xs ++ ys)
nests-append d xs ys x y = closes-append 0 d d xs ys x (omega arith) y

-- a greater depth
pub nests-more : (d e : ℕ) (ts : List Token) → d ≤ e → Nests d ts → Nests e ts
nests-more d e ts le c = record { after = c.after; within = λ n. omega (arith, c.within n) }

-- each of the lists closes its brackets
abbrev pub EachNests : ℕ → List (List Token) → Type 0
EachNests d [] = Unit {0}
EachNests d (part ∷ parts) = Nests d part × EachNests d parts

pub nests-joined : (d : ℕ) (parts : List (List Token)) → EachNests d parts → Nests d (joined parts)
nests-joined d [] each = closes-nil d
nests-joined d (part ∷ parts) (one, each) = nests-append d part (joined parts) one (nests-joined d parts each)

nests-listed : (d : ℕ) (first : Bool) (parts : List (List Token)) → EachNests d parts → Nests d (listed first parts)
nests-listed d first [] each = closes-nil d
nests-listed d true (part ∷ parts) (one, each) = nests-append d part (listed false parts) one (nests-listed d false parts each)
nests-listed d false (part ∷ parts) (one, each) =
    closes-plain 0 d _ _ refl (omega arith) (nests-append d part (listed false parts) one (nests-listed d false parts each))

pub nests-with_commas : (d : ℕ) (parts : List (List Token)) → EachNests d parts → Nests d (with_commas parts)
nests-with_commas d parts each = nests-listed d true parts each

-- what the whole comes to: as many are open at once as the depth says
pub nests-most_open : (d : ℕ) (ts : List Token) → Nests d ts → most_open 0 ts ≤ d
nests-most_open d ts c = omega (arith, c.within 0)
