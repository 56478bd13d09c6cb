-- The tables by which the next token decides on a production, as they follow from the grammar.
use Rattle.std.specs.Prelude.{ℕ, zero, suc, Bool, true, false, not, cond, List, [], ◌∷◌, ◌++◌, Option, Some, None}
use Rattle.std.specs.List.{list_any}
use Rattle.bl_grammar.specs.declared.symbol.Symbol.TheVariants.{Terminal, Nonterminal}
use Rattle.bl_parse_syntax.specs.declared.grammar.Class.{Class}
use Rattle.bl_parse_syntax.specs.declared.grammar.TokenView.{TokenView}
use Rattle.bl_parse_syntax.specs.declared.grammar.Part.{Part}
use Rattle.bl_parse_syntax.specs.declared.grammar.Part.TheVariants.{AfterReturn}
use Rattle.bl_parse_syntax.specs.declared.choice.Choice.{Choice as Row}
use Rattle.bl_parse_syntax.specs.Grammar.{Piece, productions, same_class}

-- whether the class is in the list
abbrev pub has : List Class → Class → Bool
has classes class = list_any (λ one. same_class one class) classes

-- the classes that a production can begin with, where those of the parts are known
abbrev pub firsts : (Part → List Class) → List Piece → List Class
firsts known [] = []
firsts known (Terminal class ∷ rest) = class ∷ []
firsts known (Nonterminal part ∷ rest) = known part

-- the classes that productions can begin with
abbrev pub all_firsts : (Part → List Class) → List (List Piece) → List Class
all_firsts known [] = []
all_firsts known (production ∷ others) = firsts known production ++ all_firsts known others

-- the classes that a part can begin with, as far as so many productions in turn show them
abbrev pub starts_within : ℕ → Part → List Class
starts_within zero part = []
starts_within (suc depth) part = all_firsts (starts_within depth) (productions part)

-- the classes that a part can begin with
unfoldable pub starts : Part → List Class
starts part = starts_within 20 part

-- a production, and the classes of next tokens that decide on it
pub record Choice : Type 0 where
  pub on : List Class
  pub production : List Piece

-- the choices among productions that stand for something
abbrev pub choices_of : List (List Piece) → List Choice
choices_of [] = []
choices_of ([] ∷ others) = choices_of others
choices_of ((first ∷ rest) ∷ others) = record { on = firsts starts (first ∷ rest); production = first ∷ rest } ∷ choices_of others

-- the choices of a part
unfoldable pub choices : Part → List Choice
choices part = choices_of (productions part)

-- what a choice in the code says
abbrev pub shown : Row → Choice
shown row = record { on = row.on.now; production = row.production.now }

-- whether one of the productions is empty
abbrev pub has_empty : List (List Piece) → Bool
has_empty [] = false
has_empty ([] ∷ others) = true
has_empty ((first ∷ rest) ∷ others) = has_empty others

-- the part may be absent
unfoldable pub absent : Part → Bool
absent part = has_empty (productions part)

-- the production of the first choice that the class decides on
abbrev pub chosen : List Choice → Class → Option (List Piece)
chosen [] class = None
chosen (choice ∷ others) class = cond (has choice.on class) (Some choice.production) (chosen others class)

-- whether the part may begin at a token whose class allows it: the value of `return` begins on the line of `return`
abbrev pub permits : Part → TokenView → Bool
permits AfterReturn next = not next.fresh
permits _ next = true

-- the production, or else none of its symbols where the part may be absent
abbrev pub or_absent : Bool → Option (List Piece) → Option (List Piece)
or_absent may (Some production) = Some production
or_absent true None = Some []
or_absent false None = None

-- the production that the next token decides on
unfoldable pub pick : Part → TokenView → Option (List Piece)
pick part next = or_absent (absent part) (cond (permits part next) (chosen (choices part) next.class) None)
