-- What is expected behind what is read of an expression or of the statements of a function.
use Rattle.std.specs.Prelude.{ℕ, Bool, true, false, List, [], ◌∷◌, ◌++◌, Result, MatchResult, codes}
use Rattle.bl_ctext.specs.Token.{Token}
use Rattle.bl_cparse_syntax.specs.declared.grammar.Part.TheVariants.{Else, Stmts, Expr, Steps, Arg, ArgRest}
use Rattle.bl_cparse_syntax.specs.Grammar.{Wanted}
use Rattle.bl_cparse_syntax.specs.Expects.{Expects}
use Rattle.bl_cparse.specs.declared.refusal.CRefusal.{CRefusal}
use Rattle.bl_cparse.specs.declared.parser.expr.Use.{Use}
use Rattle.bl_cparse.specs.declared.parser.expr.Use.TheVariants.{Value, Address}
use Rattle.bl_cparse.specs.declared.parser.expr.Held.{Held}
use Rattle.bl_cparse.specs.declared.parser.expr.Held.TheVariants as held
use Rattle.bl_cparse.specs.declared.parser.expr.Next.{Next}
use Rattle.bl_cparse.specs.declared.parser.expr.Next.TheVariants as next
use Rattle.bl_cparse.specs.declared.parser.expr.Partial.{Partial}
use Rattle.bl_cparse.specs.declared.parser.stmt.Opened.{Opened}
use Rattle.bl_cparse.specs.declared.parser.stmt.Opened.TheVariants.{Then, Turns}
use Rattle.bl_cparse.specs.declared.parser.stmt.Opened.TheVariants as opened
use Rattle.bl_cparse.specs.declared.parser.stmt.Frame.{Frame}
use Rattle.bl_cparse.specs.declared.parser.stmt.Nest.{Nest}
use Rattle.bl_cparse.specs.inner.Reading.{sign, operator, elements, part}
use Rattle.bl_cparse.specs.Places.{WantsMemory}

-- what is expected behind all of a list's parts that are open, from the last one on
abbrev pub unwound : {A : Type 0} → (A → List Wanted) → List A → List Wanted
unwound f [] = []
unwound f (x ∷ xs) = unwound f xs ++ f x

-- behind a place
abbrev pub use_wanted : Use → List Wanted
use_wanted Value = []
use_wanted (Address call) = part ArgRest call.room ∷ sign (codes ")") ∷ []

-- behind an expression that is held
abbrev pub held_wanted : Held → List Wanted
held_wanted held.Negation = sign (codes ")") ∷ []
held_wanted (held.First room) = operator ∷ part Expr room ∷ sign (codes ")") ∷ []
held_wanted (held.Second left o) = sign (codes ")") ∷ []
held_wanted (held.Argument call) = part ArgRest call.room ∷ sign (codes ")") ∷ []
held_wanted (held.Index i) = sign (codes ",") ∷ elements ∷ sign (codes ")") ∷ sign (codes "]") ∷ part Steps i.place.room ∷ use_wanted i.of

-- behind the innermost expression that isn't whole
abbrev pub behind : List Held → List Wanted
behind items = unwound held_wanted items

-- what stands next of the innermost expression
abbrev pub next_wanted : Next → List Wanted
next_wanted (next.Wanted room) = part Expr room ∷ []
next_wanted (next.Argument call) = part Arg call.room ∷ part ArgRest call.room ∷ sign (codes ")") ∷ []
next_wanted (next.Place of place) = part Steps place.room ∷ use_wanted of
next_wanted (next.Whole e) = []

-- what is expected behind what is read of an expression
abbrev pub partial_wanted : Partial → List Wanted
partial_wanted p = next_wanted p.next ++ behind p.outer.items

-- whether the innermost expression is read to its end
abbrev pub is_whole_next : Next → Bool
is_whole_next (next.Whole e) = true
is_whole_next _ = false

-- where these symbols are expected, one more part is read, and what its rest awaits is expected behind it
abbrev pub GoesOn : Result Partial CRefusal → List Wanted → List Token → List Token → Type 0
GoesOn result symbols old new = (rest : List Wanted) → Expects (symbols ++ rest) old →
    MatchResult result (λ p. Expects (partial_wanted p ++ rest) new) WantsMemory

-- where these symbols are expected, nothing is read, and what the result awaits is expected instead
abbrev pub Stays : Result Partial CRefusal → List Wanted → Type 0
Stays result symbols = (rest : List Wanted) (pieces : List Token) → Expects (symbols ++ rest) pieces →
    MatchResult result (λ p. Expects (partial_wanted p ++ rest) pieces) WantsMemory

-- where these symbols are expected, what the expression that is read in part awaits is expected too
abbrev pub Awaits : Partial → List Wanted → Type 0
Awaits p symbols = (rest : List Wanted) (pieces : List Token) → Expects (symbols ++ rest) pieces → Expects (partial_wanted p ++ rest) pieces

-- behind the brace of an open statement that closes its part
abbrev pub closed_wanted : Opened → ℕ → List Wanted
closed_wanted (Then test) room = part Else room ∷ []
closed_wanted (opened.Else test then_part) room = []
closed_wanted (Turns turn test) room = sign (codes "}") ∷ []

-- what is expected behind the brace that closes the open part of a statement
abbrev pub frame_wanted : Frame → List Wanted
frame_wanted f = closed_wanted f.opened f.room ++ part Stmts f.room ∷ sign (codes "}") ∷ []

-- behind the innermost brace
abbrev pub outside : List Frame → List Wanted
outside items = unwound frame_wanted items

-- what is expected behind what is read of a function's body
abbrev pub nest_wanted : Nest → List Wanted
nest_wanted n = part Stmts n.room ∷ sign (codes "}") ∷ outside n.outer.items

-- where these symbols are expected, a statement or a front or an end of one is read
abbrev pub Nests : Result Nest CRefusal → List Wanted → List Token → List Token → Type 0
Nests result symbols old new = (rest : List Wanted) → Expects (symbols ++ rest) old →
    MatchResult result (λ n. Expects (nest_wanted n ++ rest) new) WantsMemory

-- where these symbols are expected, no token is read, and what the rest of the statement awaits is expected instead
abbrev pub NestStays : Result Nest CRefusal → List Wanted → Type 0
NestStays result symbols = (rest : List Wanted) (pieces : List Token) → Expects (symbols ++ rest) pieces →
    MatchResult result (λ n. Expects (nest_wanted n ++ rest) pieces) WantsMemory
