-- The tables by which the next piece decides on a production, as they follow from the grammar.
use Rattle.std.specs.Prelude.{ℕ, zero, suc, nat_le, Bool, true, false, cond, List, [], ◌∷◌, ◌++◌, map, Option, Some, None, codes}
use Rattle.std.specs.List.{list_any}
use Rattle.bl_ctext.specs.Token.{Token}
use Rattle.bl_ctext.specs.Names.{is_turn_name}
use Rattle.bl_grammar.specs.declared.symbol.Symbol.TheVariants.{Terminal, Nonterminal}
use Rattle.bl_cparse_syntax.specs.declared.grammar.Part.{Part}
use Rattle.bl_cparse_syntax.specs.declared.grammar.Roomed.{Roomed}
use Rattle.bl_cparse_syntax.specs.Classes.{Class, matches}
use Rattle.bl_cparse_syntax.specs.Grammar.{Shape, Wanted, Production, productions, wanted_for}

-- the piece is of one of these classes
abbrev pub has : List Class → Token → Bool
has classes piece = list_any (λ class. matches class piece) classes

-- the classes that a production can begin with, where those of the parts are known
abbrev pub firsts : (Part → List Class) → List Shape → List Class
firsts known [] = []
firsts known (Terminal class ∷ rest) = class ∷ []
firsts known (Nonterminal within ∷ rest) = known within.part

-- the classes that productions can begin with
abbrev pub all_firsts : (Part → List Class) → List Production → List Class
all_firsts known [] = []
all_firsts known (production ∷ others) = firsts known production.shapes ++ all_firsts known others

-- the classes that a part can begin with, as far as so many productions in turn show them
abbrev pub starts_within : ℕ → Part → List Class
starts_within zero part = []
starts_within (suc depth) part = all_firsts (starts_within depth) (productions part)

-- the classes that a part can begin with
unfoldable pub starts : Part → List Class
starts part = starts_within 8 part

-- a production, and the classes of next pieces that decide on it
pub record Choice : Type 0 where
  pub on : List Class
  pub production : Production

-- the choices with that of a nonempty production in front
abbrev pub choice_before : Production → List Shape → List Choice → List Choice
choice_before production [] others = others
choice_before production (first ∷ rest) others = record { on = firsts starts (first ∷ rest); production = production } ∷ others

-- the choices among productions that stand for something
abbrev pub choices_of : List Production → List Choice
choices_of [] = []
choices_of (production ∷ others) = choice_before production production.shapes (choices_of others)

-- the choices of a part
unfoldable pub choices : Part → List Choice
choices part = choices_of (productions part)

-- the shapes are none
abbrev pub is_none : List Shape → Bool
is_none [] = true
is_none (first ∷ rest) = false

-- one of the productions is empty
abbrev pub has_empty : List Production → Bool
has_empty [] = false
has_empty (production ∷ others) = cond (is_none production.shapes) true (has_empty others)

-- the part may be absent
unfoldable pub absent : Part → Bool
absent part = has_empty (productions part)

-- the production of the first choice that the piece decides on
abbrev pub decided_production : List Choice → Token → Option Production
decided_production [] piece = None
decided_production (choice ∷ others) piece = cond (has choice.on piece) (Some choice.production) (decided_production others piece)

-- the piece, if it can name the turns of a loop, and else some such name
abbrev pub turn_name_for : Token → Token
turn_name_for piece = cond (is_turn_name piece) piece (codes "t0")

-- the symbols of the production in this room, where the piece comes next
abbrev pub wanted_of : ℕ → Token → Production → List Wanted
wanted_of room piece production = map (wanted_for room (turn_name_for piece)) production.shapes

-- the production where there is room for it, or else nothing where the part may be absent
abbrev pub decided : ℕ → Token → Bool → Option Production → Option (List Wanted)
decided room piece may (Some production) = cond (nat_le production.needs room) (Some (wanted_of room piece production)) None
decided room piece true None = Some []
decided room piece false None = None

-- the symbols on which the next piece decides
unfoldable pub pick : Roomed → Token → Option (List Wanted)
pick whole piece = decided whole.room piece (absent whole.part) (decided_production (choices whole.part) piece)
