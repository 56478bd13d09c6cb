-- Names, steps and arguments, one after another.
use Rattle.std.proofs.Common.{◌≡◌, ℕ, ◌+◌, Bool, true, false, ◌⊎◌, inl, inr, List, [], ◌∷◌, ◌++◌, refl, sym, subst, append_assoc, arith, codes}
use Rattle.bl_tree.proofs.Basics.{either_of}
use Rattle.bl_tree.specs.Reduce.{joined}
use Rattle.bl_ctext.specs.Token.{Token}
use Rattle.bl_ctext.specs.Names.{is_among, is_name, is_struct_name, is_function_name, is_callee, prelude_functions}
use Rattle.bl_ctext.specs.Spelling.{listed, with_commas, call_tokens, root_tokens}
use Rattle.bl_ctext.proofs.Nesting.{is_bracket}
use Rattle.bl_ctext.proofs.PlainWords.{name-plain, callee-plain, struct_name-plain, function_name-plain}
use Rattle.bl_grammar.specs.declared.symbol.Symbol.TheVariants.{Terminal}
use Rattle.bl_cparse_syntax.specs.declared.grammar.Group.TheVariants.{Operators, PreludeFunctions, StructWords, FunctionWords}
use Rattle.bl_cparse_syntax.specs.declared.grammar.Part.{Part}
use Rattle.bl_cparse_syntax.specs.declared.grammar.Part.TheVariants.{StructName, FuncName, Stmt, AfterName, AssignTail, Value, AfterOpen, Expr, Simple, Inside}
use Rattle.bl_cparse_syntax.specs.declared.grammar.Part.TheVariants.{NameUse, Steps, Index, Args, ArgRest, Arg, Place}
use Rattle.bl_cparse_syntax.specs.Classes.{matches}
use Rattle.bl_cparse_syntax.specs.Classes.Class.{exactly, one_of, a_name}
use Rattle.bl_cparse_syntax.specs.Grammar.{Wanted}
use Rattle.bl_cparse_syntax.specs.Grammar.IsAmong.{here, later}
use Rattle.bl_cparse_syntax_laws.proofs.Shallow.{Goes, at, roomed, free, open_then, close_then, class_then, word_then, one_open, one_behind}
use Rattle.bl_cparse_syntax_laws.proofs.Literals.{Begun, OfKindTokens}
use Rattle.bl_cparse_syntax_laws.proofs.Literals.Begun.{bracketed, simple}

-- the tokens are those of the part
abbrev pub Whole : Part → List Token → Type 0
Whole part xs = (k : ℕ) (ss : List Wanted) (ts : List Token) → Goes k ss ts → Goes k (at k part ∷ ss) (xs ++ ts)

-- P of each of them
abbrev pub Each : (List Token → Type 0) → List (List Token) → Type 0
Each P [] = Unit {0}
Each P (xs ∷ rest) = P xs × Each P rest

-- the tokens of what follows the ones
pub apart : (k : ℕ) (ss : List Wanted) (xs ys ts : List Token) → Goes k ss (xs ++ (ys ++ ts)) → Goes k ss ((xs ++ ys) ++ ts)
apart k ss xs ys ts go = subst (λ (zs : List Token). Goes k ss zs) (sym (append_assoc xs ys ts)) go

-- the same of three
pub apart_twice : (k : ℕ) (ss : List Wanted) (xs ys zs ts : List Token) → Goes k ss (xs ++ (ys ++ (zs ++ ts))) → Goes k ss (((xs ++ ys) ++ zs) ++ ts)
apart_twice k ss xs ys zs ts go = apart k ss (xs ++ ys) zs ts (apart k ss xs ys (zs ++ ts) go)

pub name_is : (w : Token) → is_name w ≡ true → matches a_name w ≡ true
unfolding matches
name_is w h = h

pub among_is : (w : Token) → is_among w prelude_functions ≡ true → matches (one_of PreludeFunctions) w ≡ true
unfolding matches
among_is w h = h

pub name_then : (k : ℕ) (w : Token) (ss : List Wanted) (ts : List Token) → is_name w ≡ true → Goes k ss ts →
    Goes k (Terminal a_name ∷ ss) (w ∷ ts)
name_then k w ss ts h go = class_then a_name k w ss ts (name_is w h) (name-plain w h) go

pub callee_either : (w : Token) → is_callee w ≡ true → (is_name w ≡ true) ⊎ (is_among w prelude_functions ≡ true)
unfolding is_callee
callee_either w h = either_of _ _ h

pub struct_name : (w : Token) → is_struct_name w ≡ true → (k j : ℕ) (ss : List Wanted) (ts : List Token) → Goes k ss ts →
    Goes k (at j StructName ∷ ss) (w ∷ ts)
unfolding is_struct_name matches
struct_name w h k j ss ts go = elim (either_of _ _ h) [
  | inl plain ↦ free k j StructName ss (w ∷ ts) here (omega arith) (name_then k w ss ts plain go)
  | inr other ↦ free k j StructName ss (w ∷ ts) (later here) (omega arith) (class_then (one_of StructWords) k w ss ts other (struct_name-plain w h) go)
]

pub function_name : (w : Token) → is_function_name w ≡ true → Whole FuncName (w ∷ [])
unfolding is_function_name matches
function_name w h k ss ts go = elim (either_of _ _ h) [
  | inl plain ↦ free k k FuncName ss (w ∷ ts) here (omega arith) (name_then k w ss ts plain go)
  | inr other ↦ free k k FuncName ss (w ∷ ts) (later here) (omega arith) (class_then (one_of FunctionWords) k w ss ts other (function_name-plain w h) go)
]

-- expressions

pub expr_of : (k : ℕ) (ss : List Wanted) (ts xs : List Token) → Begun k ss ts xs → Goes k (at k Expr ∷ ss) (xs ++ ts)
expr_of k ss ts xs (bracketed rest e go) = subst (λ (zs : List Token). Goes k (at k Expr ∷ ss) (zs ++ ts)) (sym e)
    (roomed k k Expr ss (codes "(" ∷ (rest ++ ts)) here (λ few. one_open k (rest ++ ts) few) (open_then k _ _ _ refl go))
expr_of k ss ts xs (simple go) = free k k Expr ss (xs ++ ts) (later here) (omega arith) go

pub value_of : (k : ℕ) (ss : List Wanted) (ts xs : List Token) → Begun k ss ts xs → Goes k (at k Value ∷ ss) (xs ++ ts)
value_of k ss ts xs (bracketed rest e go) = subst (λ (zs : List Token). Goes k (at k Value ∷ ss) (zs ++ ts)) (sym e)
    (roomed k k Value ss (codes "(" ∷ (rest ++ ts)) here (λ few. one_open k (rest ++ ts) few) (open_then k _ _ _ refl
    (free (k + 1) k AfterOpen ss (rest ++ ts) (later here) (omega arith) go)))
value_of k ss ts xs (simple go) = free k k Value ss (xs ++ ts) (later here) (omega arith) go

pub whole_expr : (xs : List Token) → OfKindTokens xs → Whole Expr xs
whole_expr xs of k ss ts go = expr_of k ss ts xs (of k ss ts go)

pub not_begun : (xs : List Token) → Whole Expr xs → OfKindTokens (codes "(" ∷ codes "!" ∷ (xs ++ codes ")" ∷ []))
not_begun xs of k ss ts go = bracketed (codes "!" ∷ (xs ++ codes ")" ∷ [])) refl
    (free (k + 1) k Inside ss (codes "!" ∷ ((xs ++ codes ")" ∷ []) ++ ts)) (later here) (omega arith)
    (word_then (k + 1) _ _ _ refl (apart (k + 1) _ xs (codes ")" ∷ []) ts (of (k + 1) _ (codes ")" ∷ ts) (close_then k _ _ _ refl refl go)))))

pub two_begun : (xs ys : List Token) (sign : Token) → matches (one_of Operators) sign ≡ true → is_bracket sign ≡ false →
    Whole Expr xs → Whole Expr ys
    → OfKindTokens (codes "(" ∷ (xs ++ (sign ∷ (ys ++ codes ")" ∷ []))))
two_begun xs ys sign m h of_left of_right k ss ts go = bracketed (xs ++ (sign ∷ (ys ++ codes ")" ∷ []))) refl
    (free (k + 1) k Inside ss ((xs ++ (sign ∷ (ys ++ codes ")" ∷ []))) ++ ts) (later (later (later here))) (omega arith)
    (apart (k + 1) _ xs _ ts (of_left (k + 1) _ (sign ∷ ((ys ++ codes ")" ∷ []) ++ ts))
    (class_then (one_of Operators) (k + 1) sign _ _ m h
    (apart (k + 1) _ ys (codes ")" ∷ []) ts (of_right (k + 1) _ (codes ")" ∷ ts) (close_then k _ _ _ refl refl go)))))))

-- arguments

rest_goes : (parts : List (List Token)) → Each (Whole Arg) parts → Whole ArgRest (listed false parts)
rest_goes [] each k ss ts go = free k k ArgRest ss ts (later here) (omega arith) go
rest_goes (xs ∷ parts) each k ss ts go = free k k ArgRest ss (codes "," ∷ ((xs ++ listed false parts) ++ ts)) here (omega arith)
    (word_then k _ _ _ refl (apart k _ xs (listed false parts) ts (each.0 k _ (listed false parts ++ ts) (rest_goes parts each.1 k ss ts go))))

pub args_goes : (parts : List (List Token)) → Each (Whole Arg) parts → Whole Args (with_commas parts)
args_goes [] each k ss ts go = free k k Args ss ts (later here) (omega arith) go
args_goes (xs ∷ parts) each k ss ts go = free k k Args ss ((xs ++ listed false parts) ++ ts) here (omega arith)
    (apart k _ xs (listed false parts) ts (each.0 k _ (listed false parts ++ ts) (rest_goes parts each.1 k ss ts go)))

-- the arguments in their parentheses
abbrev pub bracketed_args : List (List Token) → List Token
bracketed_args parts = codes "(" ∷ (with_commas parts ++ codes ")" ∷ [])

in_brackets : (parts : List (List Token)) → Each (Whole Arg) parts → (k : ℕ) (ss : List Wanted) (ts : List Token) → Goes k ss ts
    → Goes k (Terminal (exactly (codes "(")) ∷ at (k + 1) Args ∷ Terminal (exactly (codes ")")) ∷ ss) (bracketed_args parts ++ ts)
in_brackets parts each k ss ts go =
    open_then k _ _ _ refl (apart (k + 1) _ (with_commas parts) (codes ")" ∷ []) ts
    (args_goes parts each (k + 1) _ (codes ")" ∷ ts) (close_then k _ _ _ refl refl go)))

pub call_simple : (name : Token) (parts : List (List Token)) → is_callee name ≡ true → Each (Whole Arg) parts → Whole Simple (call_tokens name parts)
call_simple name parts h each k ss ts go = elim (callee_either name h) [
  | inl plain ↦ free k k Simple ss (name ∷ (bracketed_args parts ++ ts)) here (omega arith) (name_then k name _ _ plain
      (roomed k k NameUse ss (bracketed_args parts ++ ts) here (λ few. one_open k _ few) (in_brackets parts each k ss ts go)))
  | inr other ↦ roomed k k Simple ss (name ∷ (bracketed_args parts ++ ts)) (later here) (λ few. one_behind k name _ (callee-plain name h) few)
      (class_then (one_of PreludeFunctions) k name _ _ (among_is name other) (callee-plain name h) (in_brackets parts each k ss ts go))
]

pub call_stmt : (name : Token) (parts : List (List Token)) → is_callee name ≡ true → Each (Whole Arg) parts →
    (k : ℕ) (ss : List Wanted) (ts : List Token) → Goes k ss ts
    → Goes k (at k Stmt ∷ ss) (call_tokens name parts ++ (codes ";" ∷ ts))
call_stmt name parts h each k ss ts go = elim (callee_either name h) [
  | inl plain ↦ free k k Stmt ss (name ∷ (bracketed_args parts ++ (codes ";" ∷ ts))) here (omega arith) (name_then k name _ _ plain
      (roomed k k AfterName ss (bracketed_args parts ++ (codes ";" ∷ ts)) here (λ few. one_open k _ few)
      (in_brackets parts each k _ (codes ";" ∷ ts) (word_then k _ _ _ refl go))))
  | inr other ↦ roomed k k Stmt ss (name ∷ (bracketed_args parts ++ (codes ";" ∷ ts))) (later here)
      (λ few. one_behind k name _ (callee-plain name h) few)
      (class_then (one_of PreludeFunctions) k name _ _ (among_is name other) (callee-plain name h)
      (in_brackets parts each k _ (codes ";" ∷ ts) (word_then k _ _ _ refl go)))
]

-- steps

-- the tokens are those of a step
abbrev pub OfStepTokens : List Token → Type 0
OfStepTokens xs = (k : ℕ) (ss : List Wanted) (ts : List Token) → Goes k ss ts →
    Goes k (Terminal (exactly (codes ".")) ∷ Terminal a_name ∷ at k Index ∷ ss) (xs ++ ts)

pub steps_goes : (parts : List (List Token)) → Each OfStepTokens parts → Whole Steps (joined parts)
steps_goes [] each k ss ts go = free k k Steps ss ts (later here) (omega arith) go
steps_goes (xs ∷ parts) each k ss ts go = free k k Steps ss ((xs ++ joined parts) ++ ts) here (omega arith)
    (apart k _ xs (joined parts) ts (each.0 k _ (joined parts ++ ts) (steps_goes parts each.1 k ss ts go)))

use_goes : (parts : List (List Token)) → Each OfStepTokens parts → Whole NameUse (joined parts)
use_goes [] each k ss ts go = free k k NameUse ss ts (later (later here)) (omega arith) go
use_goes (xs ∷ parts) each k ss ts go = free k k NameUse ss ((xs ++ joined parts) ++ ts) (later here) (omega arith)
    (apart k _ xs (joined parts) ts (each.0 k _ (joined parts ++ ts) (steps_goes parts each.1 k ss ts go)))

-- steps before what is assigned
tail_goes : (parts : List (List Token)) → Each OfStepTokens parts → (k : ℕ) (ss : List Wanted) (ts : List Token) → Goes k (at k AssignTail ∷ ss) ts
    → Goes k (at k AssignTail ∷ ss) (joined parts ++ ts)
tail_goes [] each k ss ts go = go
tail_goes (xs ∷ parts) each k ss ts go = free k k AssignTail ss ((xs ++ joined parts) ++ ts) (later here) (omega arith)
    (apart k _ xs (joined parts) ts (each.0 k _ (joined parts ++ ts) (tail_goes parts each.1 k ss ts go)))

-- what a place is in an expression, behind `&`, and where it is set
pub record OfPlaceTokens (xs : List Token) : Type 0 where
  pub read : OfKindTokens xs
  pub whole : Whole Place xs
  pub set : (k : ℕ) (ss : List Wanted) (ts : List Token) → Goes k (at k AssignTail ∷ ss) ts → Goes k (at k Stmt ∷ ss) (xs ++ ts)

-- a pointer behind its parenthesis
starred : (name : Token) (k : ℕ) (ss : List Wanted) (ts : List Token) → is_name name ≡ true → Goes k ss ts
    → Goes (k + 1) (Terminal (exactly (codes "*")) ∷ Terminal a_name ∷ Terminal (exactly (codes ")")) ∷ ss) (codes "*" ∷ name ∷ codes ")" ∷ ts)
starred name k ss ts h go = word_then (k + 1) _ _ _ refl (name_then (k + 1) name _ _ h (close_then k _ _ _ refl refl go))

pub place_goes : (through : Bool) (name : Token) (parts : List (List Token)) → is_name name ≡ true → Each OfStepTokens parts →
    OfPlaceTokens (root_tokens through name ++ joined parts)
place_goes true name parts h each = record {
  read = λ k ss ts go. bracketed (codes "*" ∷ name ∷ codes ")" ∷ joined parts) refl
      (free (k + 1) k Inside ss (codes "*" ∷ name ∷ codes ")" ∷ (joined parts ++ ts)) here (omega arith)
      (starred name k _ _ h (steps_goes parts each k ss ts go)));
  whole = λ k ss ts go. roomed k k Place ss (codes "(" ∷ codes "*" ∷ name ∷ codes ")" ∷ (joined parts ++ ts)) (later here)
      (λ few. one_open k (codes "*" ∷ name ∷ codes ")" ∷ (joined parts ++ ts)) few)
      (open_then k _ _ _ refl (starred name k _ _ h (steps_goes parts each k ss ts go)));
  set = λ k ss ts go. roomed k k Stmt ss (codes "(" ∷ codes "*" ∷ name ∷ codes ")" ∷ (joined parts ++ ts)) (later (later here))
      (λ few. one_open k (codes "*" ∷ name ∷ codes ")" ∷ (joined parts ++ ts)) few)
      (open_then k _ _ _ refl (starred name k _ _ h (tail_goes parts each k ss ts go)));
}
place_goes false name parts h each = record {
  read = λ k ss ts go. simple (free k k Simple ss (name ∷ (joined parts ++ ts)) here (omega arith)
      (name_then k name _ _ h (use_goes parts each k ss ts go)));
  whole = λ k ss ts go. free k k Place ss (name ∷ (joined parts ++ ts)) here (omega arith) (name_then k name _ _ h (steps_goes parts each k ss ts go));
  set = λ k ss ts go. free k k Stmt ss (name ∷ (joined parts ++ ts)) here (omega arith) (name_then k name _ _ h
      (free k k AfterName ss (joined parts ++ ts) (later here) (omega arith) (tail_goes parts each k ss ts go)));
}
