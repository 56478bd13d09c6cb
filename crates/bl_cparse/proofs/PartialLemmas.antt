-- How what is read of an expression changes, where a part of it is read.
use Rattle.std.proofs.Common.{◌≡◌, true, List, [], ◌∷◌, ◌++◌, map, refl, sym, ap, ◌∙◌, append_assoc, append-nil}
use Rattle.std.specs.Prelude.{codes}
use Rattle.bl_tree.specs.Reduce.{joined}
use Rattle.bl_tree.specs.declared.c.CArg.{CArg}
use Rattle.bl_ctext.specs.Token.{Token}
use Rattle.bl_ctext.specs.Spelling.{with_commas, arg_tokens}
use Rattle.bl_ctext.specs.Spellable.{has_any}
use Rattle.bl_cparse.specs.inner.Partial.{args_before}
use Rattle.bl_cparse.proofs.ListLemmas.{commas_snoc}
use Rattle.bl_cparse_syntax_laws.proofs.Told.{joined_more}

-- some of the next tokens go on what is read
pub go_on : (fs t p rest new : List Token) → p ≡ fs ++ t → rest ≡ t ++ new → fs ++ rest ≡ p ++ new
go_on fs t p rest new e h = ap (λ (ts : List Token). fs ++ ts) h ∙ (sym (append_assoc fs t new) ∙ ap (λ (ts : List Token). ts ++ new) (sym e))

-- the arguments with one more
pub args_snoc : (args : List CArg) (arg : CArg) → with_commas (map arg_tokens (args ++ arg ∷ [])) ≡ args_before args ++ arg_tokens arg
args_snoc [] arg = append-nil (arg_tokens arg)
args_snoc (x ∷ xs) arg = commas_snoc arg_tokens (x ∷ xs) arg refl
    ∙ sym (append_assoc (with_commas (map arg_tokens (x ∷ xs))) (codes "," ∷ []) (arg_tokens arg))

pub args_with : (args more : List CArg) (arg : CArg) → more ≡ args ++ arg ∷ [] →
    with_commas (map arg_tokens more) ≡ args_before args ++ arg_tokens arg
args_with args more arg e = ap (λ (xs : List CArg). with_commas (map arg_tokens xs)) e ∙ args_snoc args arg

pub before_any : (args : List CArg) → has_any args ≡ true → args_before args ≡ with_commas (map arg_tokens args) ++ codes "," ∷ []
before_any [] h = cc
before_any (x ∷ xs) h = refl

-- an argument is read, and the sign behind it
pub argument_on : (name sign : Token) (front arg w before old new : List Token) → name ∷ codes "(" ∷ w ≡ front ++ arg →
    before ≡ w ++ sign ∷ [] → old ≡ sign ∷ new →
    front ++ (arg ++ old) ≡ (name ∷ codes "(" ∷ before) ++ new
argument_on name sign front arg w before old new h b o =
    sym (append_assoc front arg old)
    ∙ (ap (λ (ts : List Token). ts ++ old) (sym h)
    ∙ (ap (λ (ts : List Token). name ∷ codes "(" ∷ (w ++ ts)) o
    ∙ ap (λ (ts : List Token). name ∷ codes "(" ∷ ts) (sym (append_assoc w (sign ∷ []) new) ∙ ap (λ (ts : List Token). ts ++ new) (sym b))))

-- a place with one step more
pub place_with : {A : Type 0} (f : A → List Token) (root : List Token) (steps more : List A) (s : A) → more ≡ steps ++ s ∷ [] →
    root ++ joined (map f more) ≡ (root ++ joined (map f steps)) ++ f s
place_with {A = A} f root steps more s e =
    ap (λ (xs : List A). root ++ joined (map f xs)) e
    ∙ (ap (λ (ts : List Token). root ++ ts) (joined_more f steps s) ∙ sym (append_assoc root (joined (map f steps)) (f s)))

-- the innermost of the open brackets is taken off
pub taken_off : {A : Type 0} (f : A → List Token) (outer items : List A) (held : A) (rest : List Token) → items ≡ outer ++ held ∷ [] →
    joined (map f items) ++ rest ≡ joined (map f outer) ++ (f held ++ rest)
taken_off {A = A} f outer items held rest e =
    ap (λ (ts : List Token). ts ++ rest) (ap (λ (xs : List A). joined (map f xs)) e ∙ joined_more f outer held)
    ∙ append_assoc (joined (map f outer)) (f held) rest
