-- How what is read of statements changes, where one is read, opened or closed.
use Rattle.std.proofs.Common.{◌≡◌, Bool, true, List, [], ◌∷◌, ◌++◌, map, refl, sym, ap, ◌∙◌, append_assoc, append-nil}
use Rattle.std.specs.Prelude.{codes}
use Rattle.std.proofs.lemmas.Bool.{and_from}
use Rattle.bl_tree.proofs.Basics.{and_first, and_second}
use Rattle.bl_tree.specs.Reduce.{all_of, joined}
use Rattle.bl_ctext.specs.Token.{Token}
use Rattle.bl_cparse_syntax_laws.proofs.Told.{all_more, joined_more}

pub one_more : {A : Type 0} (f : A → List Token) (before body : List A) (s : A) (k : List Token) → body ≡ before ++ s ∷ [] →
    f s ≡ k → joined (map f body) ≡ joined (map f before) ++ k
one_more f before body s k e h = ap (λ xs. joined (map f xs)) e ∙ (joined_more f before s ∙ ap (λ ts. joined (map f before) ++ ts) h)

pub all_with : {A : Type 0} (p : A → Bool) (before body : List A) (s : A) → body ≡ before ++ s ∷ [] → all_of (map p before) ≡ true →
    p s ≡ true → all_of (map p body) ≡ true
all_with p before body s e h k = ap (λ xs. all_of (map p xs)) e ∙ all_more p before s h k

all_snoc : {A : Type 0} (p : A → Bool) (xs : List A) (x : A) → all_of (map p (xs ++ x ∷ [])) ≡ true → (all_of (map p xs) ≡ true) × (p x ≡ true)
all_snoc p [] x h = (refl, and_first _ _ h)
all_snoc p (y ∷ xs) x h = let rest = all_snoc p xs x (and_second _ _ h) in (and_from _ _ (and_first _ _ h) rest.0, rest.1)

pub all_but : {A : Type 0} (p : A → Bool) (before body : List A) (s : A) → body ≡ before ++ s ∷ [] → all_of (map p body) ≡ true →
    (all_of (map p before) ≡ true) × (p s ≡ true)
all_but p before body s e h = all_snoc p before s (sym (ap (λ xs. all_of (map p xs)) e) ∙ h)

-- a statement is read
pub read_one : (fs before body k old new : List Token) → body ≡ before ++ k → old ≡ k ++ new → (fs ++ before) ++ old ≡ (fs ++ body) ++ new
read_one fs before body k old new e h =
    ap (λ ts. (fs ++ before) ++ ts) h ∙ (sym (append_assoc (fs ++ before) k new)
    ∙ ap (λ ts. ts ++ new) (append_assoc fs before k ∙ ap (λ ts. fs ++ ts) (sym e)))

-- a brace is opened
pub read_open : (fs before op next old new : List Token) → next ≡ fs ++ (before ++ op) → old ≡ op ++ new → (fs ++ before) ++ old ≡ next ++ new
read_open fs before op next old new e h =
    ap (λ ts. (fs ++ before) ++ ts) h ∙ (sym (append_assoc (fs ++ before) op new) ∙ ap (λ ts. ts ++ new) (append_assoc fs before op ∙ sym e))

-- the frames and the body of which the last frame is taken off
pub read_close : (all fs f body old : List Token) → all ≡ fs ++ f → (all ++ body) ++ old ≡ fs ++ (f ++ (body ++ old))
read_close all fs f body old e =
    ap (λ ts. (ts ++ body) ++ old) e ∙ (append_assoc (fs ++ f) body old ∙ append_assoc fs f (body ++ old))

-- a statement is whole: its front, its body and its end
pub whole : (fs before op body cl k next old new : List Token) → next ≡ fs ++ (before ++ k) → k ≡ op ++ (body ++ cl) →
    old ≡ cl ++ new → fs ++ ((before ++ op) ++ (body ++ old)) ≡ next ++ new
whole fs before op body cl k next old new e h o =
    ap (λ ts. fs ++ ((before ++ op) ++ (body ++ ts))) o
    ∙ (ap (λ ts. fs ++ ((before ++ op) ++ ts)) (sym (append_assoc body cl new))
    ∙ (ap (λ ts. fs ++ ts) (append_assoc before op ((body ++ cl) ++ new)
    ∙ ap (λ ts. before ++ ts) (sym (append_assoc op (body ++ cl) new) ∙ ap (λ ts. ts ++ new) (sym h)) ∙ sym (append_assoc before k new))
    ∙ (sym (append_assoc fs (before ++ k) new) ∙ ap (λ ts. ts ++ new) (sym e))))

-- a brace is closed, and another opened
pub reopened : (fs before op body cl op' next old new : List Token) → next ≡ fs ++ (before ++ op') → op' ≡ op ++ (body ++ cl) →
    old ≡ cl ++ new → fs ++ ((before ++ op) ++ (body ++ old)) ≡ next ++ new
reopened fs before op body cl op' next old new e h o = whole fs before op body cl op' next old new e h o

pub pushed : {A : Type 0} (f : A → List Token) (outer items : List A) (x : A) (rest : List Token) → items ≡ outer ++ x ∷ [] →
    rest ≡ [] → joined (map f items) ++ rest ≡ joined (map f outer) ++ f x
pushed f outer items x rest e h = ap (λ ts. joined (map f items) ++ ts) h ∙ (append-nil (joined (map f items)) ∙ one_more f outer items x (f x) e refl)

pub then_whole : (test body : List Token) → codes "if" ∷ (test ++ ((codes "{" ∷ (body ++ codes "}" ∷ [])) ++ []))
    ≡ (codes "if" ∷ (test ++ codes "{" ∷ [])) ++ (body ++ codes "}" ∷ [])
then_whole test body =
    ap (λ ts. codes "if" ∷ ts) (ap (λ ts. test ++ ts) (append-nil (codes "{" ∷ (body ++ codes "}" ∷ [])))
    ∙ sym (append_assoc test (codes "{" ∷ []) (body ++ codes "}" ∷ [])))

pub else_open : (test body : List Token) → codes "if"
    ∷ (test ++ ((codes "{" ∷ (body ++ codes "}" ∷ [])) ++ codes "else" ∷ codes "{" ∷ [])) ≡ (codes "if" ∷ (test ++ codes "{" ∷ []))
    ++ (body ++ codes "}" ∷ codes "else" ∷ codes "{" ∷ [])
else_open test body =
    ap (λ ts. codes "if" ∷ ts) (ap (λ ts. test ++ codes "{" ∷ ts) (append_assoc body (codes "}" ∷ []) (codes "else" ∷ codes "{" ∷ []))
    ∙ sym (append_assoc test (codes "{" ∷ []) (body ++ codes "}" ∷ codes "else" ∷ codes "{" ∷ [])))

pub else_whole : (test first body : List Token) → codes "if"
    ∷ (test ++ (first ++ codes "else" ∷ (codes "{" ∷ (body ++ codes "}" ∷ []))))
    ≡ (codes "if" ∷ (test ++ (first ++ codes "else" ∷ codes "{" ∷ []))) ++ (body ++ codes "}" ∷ [])
else_whole test first body =
    ap (λ ts. codes "if" ∷ ts) (ap (λ ts. test ++ ts) (sym (append_assoc first (codes "else" ∷ codes "{" ∷ []) (body ++ codes "}" ∷ [])))
    ∙ sym (append_assoc test (first ++ codes "else" ∷ codes "{" ∷ []) (body ++ codes "}" ∷ [])))

pub turns_whole : (front test counted body : List Token) →
    front ++ (test ++ (counted ++ (body ++ codes "}" ∷ codes "}" ∷ []))) ≡ (front ++ (test ++ counted)) ++ (body ++ codes "}" ∷ codes "}" ∷ [])
turns_whole front test counted body =
    ap (λ ts. front ++ ts) (sym (append_assoc test counted (body ++ codes "}" ∷ codes "}" ∷ [])))
    ∙ sym (append_assoc front (test ++ counted) (body ++ codes "}" ∷ codes "}" ∷ []))
