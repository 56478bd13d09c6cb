-- Lists of parts: where each part is told by its tokens, a list of them is, if what follows it is no part more.
use Rattle.std.proofs.Common.{◌≡◌, ℕ, Bool, true, false, List, [], ◌∷◌, ◌++◌, map, refl, sym, ap, ◌∙◌, subst, append_assoc, codes}
use Rattle.bl_tree.proofs.Basics.{and_first, and_second, from_true_false}
use Rattle.bl_tree.specs.Reduce.{all_of, joined}
use Rattle.bl_ctext.specs.Token.{Token}
use Rattle.bl_ctext.specs.Spelling.{listed, with_commas, braced}
use Rattle.bl_cparse_syntax_laws.proofs.Tests.{is, first, tail, is_same}

-- Whatever has the same tokens as the part, each followed by what may follow it, is the part, and the same follows it.
abbrev pub Only : {A B : Type 0} → (A → List Token) → (A → B) → (A → Bool) → (List Token → Bool) → A → Type 0
Only {A} {B} tokens bare ok off x =
    ok x ≡ true → (y : A) → ok y ≡ true → (a b : List Token) → off a ≡ true → off b ≡ true → tokens x ++ a ≡ tokens y ++ b →
    (bare x ≡ bare y) × (a ≡ b)

-- P of each of a list
abbrev pub Each : {A : Type 0} → (A → Type 0) → List A → Type 0
Each P [] = Unit {0}
Each P (x ∷ xs) = P x × Each P xs

pub each_shown : {A : Type 0} (P : A → Type 0) (xs : List ((x : A) × P x)) → Each P (map (λ e. e.0) xs)
each_shown P [] = tt
each_shown P (x ∷ xs) = (x.1, each_shown P xs)

pub each_by : {A : Type 0} (P : A → Type 0) → ((x : A) → P x) → (xs : List A) → Each P xs
each_by P h [] = tt
each_by P h (x ∷ xs) = (h x, each_by P h xs)

-- how parts stand in a list of them: `off` may follow a part, and `stop` a list
pub record InRow {A : Type 0} (tokens : A → List Token) (ok : A → Bool) (off stop : List Token → Bool) : Type 0 where
  pub starts : (y : A) (r : List Token) → ok y ≡ true → stop (tokens y ++ r) ≡ false
  pub between : (y : A) (r : List Token) → ok y ≡ true → off (tokens y ++ r) ≡ true
  pub ends : (r : List Token) → stop r ≡ true → off r ≡ true

module _ {A B : Type 0} (tokens : A → List Token) (bare : A → B) (ok : A → Bool) (off stop : List Token → Bool) (row : InRow tokens ok off stop) where
  follows : (ys : List A) (b : List Token) → all_of (map ok ys) ≡ true → stop b ≡ true → off (joined (map tokens ys) ++ b) ≡ true
  follows [] b h s = row.ends b s
  follows (y ∷ ys) b h s = ap off (append_assoc (tokens y) (joined (map tokens ys)) b) ∙ row.between y (joined (map tokens ys) ++ b) (and_first _ _ h)

  ended : {P : Type 0} (y : A) (ys : List A) (a b : List Token) → ok y ≡ true → stop a ≡ true → a ≡ joined (map tokens (y ∷ ys)) ++ b → P
  ended y ys a b h s e = from_true_false (sym s ∙ (ap stop (e ∙ append_assoc (tokens y) (joined (map tokens ys)) b)
      ∙ row.starts y (joined (map tokens ys) ++ b) h))

  pub rows_same : (xs ys : List A) → Each (Only tokens bare ok off) xs → all_of (map ok xs) ≡ true → all_of (map ok ys) ≡ true →
      (a b : List Token) → stop a ≡ true → stop b ≡ true
      → joined (map tokens xs) ++ a ≡ joined (map tokens ys) ++ b → (map bare xs ≡ map bare ys) × (a ≡ b)
  rows_same [] [] each h k a b s t e = (refl, e)
  rows_same [] (y ∷ ys) each h k a b s t e = ended y ys a b (and_first _ _ k) s e
  rows_same (x ∷ xs) [] each h k a b s t e = ended x xs b a (and_first _ _ h) t (sym e)
  rows_same (x ∷ xs) (y ∷ ys) (one, each) h k a b s t e =
      let apart : tokens x ++ (joined (map tokens xs) ++ a) ≡ tokens y ++ (joined (map tokens ys) ++ b) =
      sym (append_assoc (tokens x) (joined (map tokens xs)) a) ∙ (e ∙ append_assoc (tokens y) (joined (map tokens ys)) b) in
      let m = one (and_first _ _ h) y (and_first _ _ k) (joined (map tokens xs) ++ a) (joined (map tokens ys) ++ b)
      (follows xs a (and_second _ _ h) s) (follows ys b (and_second _ _ k) t) apart in
      let rest = rows_same xs ys each (and_second _ _ h) (and_second _ _ k) a b s t m.1 in
      (ap (λ z. z ∷ map bare xs) m.0 ∙ ap (λ zs. bare y ∷ zs) rest.0, rest.1)

-- whether this token stands first
abbrev pub stands : Token → List Token → Bool
stands w ts = is (first ts) w

pub stands_is : (off : List Token → Bool) (b : ℕ) (bs : List ℕ) → ((r : List Token) → off ((b ∷ bs) ∷ r) ≡ true) →
    (r : List Token) → stands (b ∷ bs) r ≡ true → off r ≡ true
stands_is off b bs h [] s = cc
stands_is off b bs h (t ∷ ts) s = subst (λ (t : Token). off (t ∷ ts) ≡ true) (sym (is_same t (b ∷ bs) s)) (h ts)

-- ---- lists with commas, in parentheses

commas : {A : Type 0} (tokens : A → List Token) (xs : List A) → listed false (map tokens xs) ≡ joined (map (λ x. codes "," ∷ tokens x) xs)
commas tokens [] = refl
commas tokens (x ∷ xs) = ap (λ ts. codes "," ∷ (tokens x ++ ts)) (commas tokens xs)

-- how parts stand in such a list
pub record InCommas {A : Type 0} (tokens : A → List Token) (ok : A → Bool) (off : List Token → Bool) : Type 0 where
  pub starts : (y : A) (r : List Token) → ok y ≡ true → stands (codes ")") (tokens y ++ r) ≡ false
  pub comma : (r : List Token) → off (codes "," ∷ r) ≡ true
  pub close : (r : List Token) → off (codes ")" ∷ r) ≡ true

module _ {A B : Type 0} (tokens : A → List Token) (bare : A → B) (ok : A → Bool) (off : List Token → Bool) (row : InCommas tokens ok off) where
  abbrev behind : A → List Token
  behind x = codes "," ∷ tokens x

  in_row : InRow behind ok off (stands (codes ")"))
  in_row = record {
    starts = λ y r h. refl;
    between = λ y r h. row.comma (tokens y ++ r);
    ends = λ r s. stands_is off _ _ row.close r s;
  }

  behind_only : (x : A) → Only tokens bare ok off x → Only behind bare ok off x
  behind_only x one h y k a b s t e = one h y k a b s t (ap tail e)

  each_behind : (xs : List A) → Each (Only tokens bare ok off) xs → Each (Only behind bare ok off) xs
  each_behind [] each = tt
  each_behind (x ∷ xs) (one, each) = (behind_only x one, each_behind xs each)

  more_same : (xs ys : List A) → Each (Only tokens bare ok off) xs → all_of (map ok xs) ≡ true → all_of (map ok ys) ≡ true → (a b : List Token)
      → listed false (map tokens xs) ++ (codes ")" ∷ a) ≡ listed false (map tokens ys) ++ (codes ")" ∷ b) →
      (map bare xs ≡ map bare ys) × (codes ")" ∷ a ≡ codes ")" ∷ b)
  more_same xs ys each h k a b e =
      rows_same behind bare ok off (stands (codes ")")) in_row xs ys (each_behind xs each) h k (codes ")" ∷ a) (codes ")" ∷ b) refl refl
      (sym (ap (λ ts. ts ++ (codes ")" ∷ a)) (commas tokens xs)) ∙ (e ∙ ap (λ ts. ts ++ (codes ")" ∷ b)) (commas tokens ys)))

  off_more : (ys : List A) (b : List Token) → off (listed false (map tokens ys) ++ (codes ")" ∷ b)) ≡ true
  off_more [] b = row.close b
  off_more (y ∷ ys) b = row.comma ((tokens y ++ listed false (map tokens ys)) ++ (codes ")" ∷ b))

  none : {P : Type 0} (y : A) (ys : List A) (a b : List Token) → ok y ≡ true →
      codes ")" ∷ a ≡ with_commas (map tokens (y ∷ ys)) ++ (codes ")" ∷ b) → P
  none y ys a b h e =
      from_true_false (ap (stands (codes ")")) (e ∙ append_assoc (tokens y) (listed false (map tokens ys)) (codes ")" ∷ b))
      ∙ row.starts y (listed false (map tokens ys) ++ (codes ")" ∷ b)) h)

  pub commas_same : (xs ys : List A) → Each (Only tokens bare ok off) xs → all_of (map ok xs) ≡ true → all_of (map ok ys) ≡ true →
      (a b : List Token)
      → with_commas (map tokens xs) ++ (codes ")" ∷ a) ≡ with_commas (map tokens ys) ++ (codes ")" ∷ b) → (map bare xs ≡ map bare ys) × (a ≡ b)
  commas_same [] [] each h k a b e = (refl, ap tail e)
  commas_same [] (y ∷ ys) each h k a b e = none y ys a b (and_first _ _ k) e
  commas_same (x ∷ xs) [] each h k a b e = none x xs b a (and_first _ _ h) (sym e)
  commas_same (x ∷ xs) (y ∷ ys) (one, each) h k a b e =
      let xr = listed false (map tokens xs) ++ (codes ")" ∷ a) in
      let yr = listed false (map tokens ys) ++ (codes ")" ∷ b) in
      let apart : tokens x ++ xr ≡ tokens y ++ yr =
      sym (append_assoc (tokens x) (listed false (map tokens xs)) (codes ")" ∷ a))
      ∙ (e ∙ append_assoc (tokens y) (listed false (map tokens ys)) (codes ")" ∷ b)) in
      let m = one (and_first _ _ h) y (and_first _ _ k) xr yr (off_more xs a) (off_more ys b) apart in
      let rest = more_same xs ys each (and_second _ _ h) (and_second _ _ k) a b m.1 in
      (ap (λ z. z ∷ map bare xs) m.0 ∙ ap (λ zs. bare y ∷ zs) rest.0, ap tail rest.1)

-- ---- lists in braces

pub braces : (xs a : List Token) → (xs ++ codes "}" ∷ []) ++ a ≡ xs ++ (codes "}" ∷ a)
braces xs a = append_assoc xs (codes "}" ∷ []) a

module _ {A B : Type 0} (tokens : A → List Token) (bare : A → B) (ok : A → Bool) (off : List Token → Bool)
    (row : InRow tokens ok off (stands (codes "}"))) where
  -- a list up to the brace behind it
  pub closed_same : (xs ys : List A) → Each (Only tokens bare ok off) xs → all_of (map ok xs) ≡ true → all_of (map ok ys) ≡ true →
      (a b : List Token)
      → joined (map tokens xs) ++ (codes "}" ∷ a) ≡ joined (map tokens ys) ++ (codes "}" ∷ b) → (map bare xs ≡ map bare ys) × (a ≡ b)
  closed_same xs ys each h k a b e = let r = rows_same tokens bare ok off (stands (codes "}")) row xs ys each h k (codes "}" ∷ a)
      (codes "}" ∷ b) refl refl e in (r.0, ap tail r.1)

  pub braced_same : (xs ys : List A) → Each (Only tokens bare ok off) xs → all_of (map ok xs) ≡ true → all_of (map ok ys) ≡ true →
      (a b : List Token)
      → braced (map tokens xs) ++ a ≡ braced (map tokens ys) ++ b → (map bare xs ≡ map bare ys) × (a ≡ b)
  braced_same xs ys each h k a b e = closed_same xs ys each h k a b
      (sym (braces (joined (map tokens xs)) a) ∙ (ap tail e ∙ braces (joined (map tokens ys)) b))
