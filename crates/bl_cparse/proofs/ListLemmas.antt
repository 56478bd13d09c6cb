-- What is read of a list of parts, with one part more.
use Rattle.std.proofs.Common.{◌≡◌, ◌<◌, ◌≤◌, Bool, true, false, List, [], ◌∷◌, ◌++◌, length, map, refl, sym, ap, ◌∙◌, append_assoc, append-nil, arith}
use Rattle.std.specs.Prelude.{codes}
use Rattle.std.proofs.lemmas.List.{length-append}
use Rattle.bl_tree.specs.Reduce.{joined}
use Rattle.bl_ctext.specs.Token.{Token}
use Rattle.bl_ctext.specs.Spelling.{listed, with_commas, comma_before}
use Rattle.bl_ctext.specs.Spellable.{has_any}
use Rattle.bl_cparse_syntax_laws.proofs.Told.{joined_more as joined_snoc}

pub any_more : {A : Type 0} (xs : List A) (x : A) → has_any (xs ++ x ∷ []) ≡ true
any_more [] x = refl
any_more (y ∷ xs) x = refl

pub joined_more : {A : Type 0} (f : A → List Token) (before old new : List Token) (xs : List A) (x : A) →
    before ≡ joined (map f xs) ++ old → old ≡ f x ++ new → before ≡ joined (map f (xs ++ x ∷ [])) ++ new
joined_more f before old new xs x h k =
    h ∙ (ap (λ ts. joined (map f xs) ++ ts) k ∙ (sym (append_assoc (joined (map f xs)) (f x) new) ∙ ap (λ ts. ts ++ new) (sym (joined_snoc f xs x))))

listed_snoc : {A : Type 0} (f : A → List Token) (first : Bool) (y : A) (xs : List A) (x : A) →
    listed first (map f ((y ∷ xs) ++ x ∷ [])) ≡ listed first (map f (y ∷ xs)) ++ (codes "," ∷ f x)
listed_snoc f first y [] x =
    ap (λ ts. comma_before first ++ (f y ++ codes "," ∷ ts)) (append-nil (f x))
    ∙ (sym (append_assoc (comma_before first) (f y) (codes "," ∷ f x))
    ∙ ap (λ ts. comma_before first ++ ts ++ (codes "," ∷ f x)) (sym (append-nil (f y))))
listed_snoc f first y (z ∷ xs) x =
    ap (λ ts. comma_before first ++ (f y ++ ts)) (listed_snoc f false z xs x)
    ∙ (ap (λ ts. comma_before first ++ ts) (sym (append_assoc (f y) (listed false (map f (z ∷ xs))) (codes "," ∷ f x)))
    ∙ sym (append_assoc (comma_before first) (f y ++ listed false (map f (z ∷ xs))) (codes "," ∷ f x)))

pub commas_snoc : {A : Type 0} (f : A → List Token) (xs : List A) (x : A) → has_any xs ≡ true →
    with_commas (map f (xs ++ x ∷ [])) ≡ with_commas (map f xs) ++ (codes "," ∷ f x)
commas_snoc f [] x h = cc
commas_snoc f (y ∷ xs) x h = listed_snoc f true y xs x

pub commas_more : {A : Type 0} (f : A → List Token) (before old mid new : List Token) (xs : List A) (x : A) → has_any xs ≡ true →
    before ≡ with_commas (map f xs) ++ old → old ≡ codes "," ∷ mid → mid ≡ f x ++ new → before ≡ with_commas (map f (xs ++ x ∷ [])) ++ new
commas_more f before old mid new xs x any h comma k =
    h ∙ (ap (λ ts. with_commas (map f xs) ++ ts) (comma ∙ ap (λ ts. codes "," ∷ ts) k)
    ∙ (sym (append_assoc (with_commas (map f xs)) (codes "," ∷ f x) new) ∙ ap (λ ts. ts ++ new) (sym (commas_snoc f xs x any))))

-- what is left is less where something was read
pub shorter : (old ts new : List Token) → old ≡ ts ++ new → 1 ≤ length ts → length new < length old
shorter old ts new h some = omega (arith, ap length h, length-append ts new)

pub some_behind : (xs : List Token) (t : Token) (ys : List Token) → 1 ≤ length (xs ++ (t ∷ ys))
some_behind xs t ys = omega (arith, length-append xs (t ∷ ys))
