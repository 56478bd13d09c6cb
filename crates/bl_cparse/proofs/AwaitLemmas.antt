-- What is expected behind parts that are open, where one is opened or closed.
use Rattle.std.proofs.Common.{◌≡◌, List, [], ◌∷◌, ◌++◌, sym, ap, ◌∙◌, append_assoc, append-nil}
use Rattle.bl_cparse_syntax.specs.Grammar.{Wanted}
use Rattle.bl_cparse.specs.inner.Awaiting.{unwound}

-- one more, which is closed first
unwound_more : {A : Type 0} (f : A → List Wanted) (xs : List A) (x : A) → unwound f (xs ++ x ∷ []) ≡ f x ++ unwound f xs
unwound_more f [] x = sym (append-nil (f x))
unwound_more f (y ∷ ys) x = ap (λ (w : List Wanted). w ++ f y) (unwound_more f ys x) ∙ append_assoc (f x) (unwound f ys) (f y)

pub unwound_one : {A : Type 0} (f : A → List Wanted) (xs more : List A) (x : A) → more ≡ xs ++ x ∷ [] → unwound f more ≡ f x ++ unwound f xs
unwound_one f xs more x is = ap (unwound f) is ∙ unwound_more f xs x

-- the last one is taken off
pub unwound_off : {A : Type 0} (f : A → List Wanted) (xs items : List A) (x : A) → items ≡ xs ++ x ∷ [] → unwound f items ≡ f x ++ unwound f xs
unwound_off f xs items x is = unwound_one f xs items x is
