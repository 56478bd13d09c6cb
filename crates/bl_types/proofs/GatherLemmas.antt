-- Lists that grow by what is made.
use Rattle.std.proofs.Common.{refl, ◌≡◌, map, List, [], ◌∷◌, ◌++◌, Option, Some, None, sym, ap, ◌∙◌, append_assoc}
use Rattle.std.specs.List.{cons_option}
use Rattle.bl_tree.specs.declared.tree.Var.{Var}
use Rattle.bl_types.specs.declared.environment.Variable.{Variable}
use Rattle.bl_types.specs.Units.{var_of, vars_of}

-- one more is made
pub made_one : {A : Type 0} (made grown rest whole : List A) (one : Option A) (x : A) → one ≡ Some x → grown ≡ made ++ x ∷ [] →
    made ++ cons_option one rest ≡ whole → grown ++ rest ≡ whole
made_one made grown rest whole one x is push h =
    ap (λ l. l ++ rest) push ∙ append_assoc made (x ∷ []) rest ∙ ap (λ o. made ++ cons_option o rest) (sym is) ∙ h

-- none is made
pub made_none : {A : Type 0} (made grown rest whole : List A) (one : Option A) → one ≡ None → grown ≡ made →
    made ++ cons_option one rest ≡ whole → grown ++ rest ≡ whole
made_none made grown rest whole one is same h = ap (λ l. l ++ rest) same ∙ ap (λ o. made ++ cons_option o rest) (sym is) ∙ h

-- one more, where it is made
pub kept_one : {A : Type 0} (made grown rest whole : List A) (one : Option A) → grown ≡ made ++ cons_option one [] →
    made ++ cons_option one rest ≡ whole → grown ++ rest ≡ whole
kept_one made grown rest whole (Some x) push h = ap (λ l. l ++ rest) push ∙ append_assoc made (x ∷ []) rest ∙ h
kept_one made grown rest whole None push h = ap (λ l. l ++ rest) push ∙ append_assoc made [] rest ∙ h

-- one more element
pub mapped_one : {A B : Type 0} (f : A → B) (all rest : List A) (item : A) (made grown found : List B) (x : B) → all ≡ item ∷ rest →
    x ≡ f item → grown ≡ made ++ x ∷ []
    → made ++ map f all ≡ found → grown ++ map f rest ≡ found
mapped_one f all rest item made grown found x is same push h =
    ap (λ l. l ++ map f rest) (push ∙ ap (λ y. made ++ y ∷ []) same) ∙ append_assoc made (f item ∷ []) (map f rest)
    ∙ ap (λ l. made ++ map f l) (sym is) ∙ h

with_option : {A : Type 0} (one : Option A) (xs ys : List A) → cons_option one (xs ++ ys) ≡ cons_option one xs ++ ys
with_option (Some x) xs ys = refl
with_option None xs ys = refl

vars_of-append : (xs ys : List Variable) → vars_of (xs ++ ys) ≡ vars_of xs ++ vars_of ys
vars_of-append [] ys = refl
vars_of-append (x ∷ xs) ys = ap (cons_option (var_of x)) (vars_of-append xs ys) ∙ with_option (var_of x) (vars_of xs) (vars_of ys)

-- one more variable
pub vars_of-next : (xs : List Variable) (var : Variable) (made grown : List Var) (one : Option Var) → one ≡ var_of var →
    made ≡ vars_of xs → grown ≡ made ++ cons_option one [] → grown ≡ vars_of (xs ++ var ∷ [])
vars_of-next xs var made grown one is same push = push ∙ (λ i. same i ++ cons_option (is i) []) ∙ sym (vars_of-append xs (var ∷ []))
