-- What is checked of the grammar part by part, by computing: that the tables are right and one piece decides.
use Rattle.std.proofs.Common.{◌≡◌, ℕ, Bool, true, false, not, cond, ◌&&◌, ◌||◌, List, [], ◌∷◌, ◌++◌, refl}
use Rattle.std.specs.Prelude.{nat_lt, nat_le}
use Rattle.std.specs.List.{list_all, list_any}
use Rattle.bl_ctext.specs.Names.{is_among, is_name, is_turn_name}
use Rattle.bl_grammar.specs.declared.symbol.Symbol.TheVariants.{Terminal, Nonterminal}
use Rattle.bl_cparse_syntax.specs.declared.grammar.Part.{Part}
use Rattle.bl_cparse_syntax.specs.declared.grammar.Part.TheVariants.{File}
use Rattle.bl_cparse_syntax.specs.Pieces.{is_same}
use Rattle.bl_cparse_syntax.specs.Classes.{Class, matches, spells_number}
use Rattle.bl_cparse_syntax.specs.Classes.Class.{turn}
use Rattle.bl_cparse_syntax.specs.Grammar.{Shape, Production, productions}
use Rattle.bl_cparse_syntax.specs.Follow.{avoided, height, depth, is_lower}
use Rattle.bl_cparse_syntax.specs.Tables.{starts, absent, is_none, Choice, choices}
use Rattle.bl_cparse_syntax.proofs.ClassLemmas.{class_apart, same_class}

-- no piece is in a class of both
abbrev pub are_apart : List Class → List Class → Bool
are_apart ones others = list_all (λ one. list_all (class_apart one) others) ones

-- each class is among the others
abbrev pub are_within : List Class → List Class → Bool
are_within ones others = list_all (λ one. list_any (same_class one) others) ones

-- all classes that decide on choices
abbrev pub all_on : List Choice → List Class
all_on [] = []
all_on (choice ∷ others) = choice.on ++ all_on others

-- no piece decides on two choices
abbrev pub are_separate : List Choice → Bool
are_separate [] = true
are_separate (choice ∷ others) = are_apart choice.on (all_on others) && are_separate others

-- the classes that shapes can begin with, also where parts before are absent
abbrev pub heads_of : List Shape → List Class
heads_of [] = []
heads_of (Terminal class ∷ rest) = class ∷ []
heads_of (Nonterminal within ∷ rest) = starts within.part ++ cond (absent within.part) (heads_of rest) []

abbrev pub may_vanish : List Shape → Bool
may_vanish [] = true
may_vanish (Terminal class ∷ rest) = false
may_vanish (Nonterminal within ∷ rest) = absent within.part && may_vanish rest

-- what can follow a part of the production isn't avoided
abbrev pub follows : List Class → List Shape → Bool
follows outer [] = true
follows outer (Terminal class ∷ rest) = follows outer rest
follows outer (Nonterminal within ∷ rest) =
    are_apart (heads_of rest) (avoided within.part) && ((not (may_vanish rest) || are_within (avoided within.part) outer) && follows outer rest)

-- the production begins with a class or with a part that stands for something and is less deep
abbrev pub is_headed : Bool → ℕ → List Shape → Bool
is_headed may deep [] = true
is_headed may deep (Terminal class ∷ rest) = true
is_headed may deep (Nonterminal within ∷ rest) = not (absent within.part) && nat_lt (depth within.part) (cond may 32 deep)

-- some production needs no room and has only parts of less height
abbrev pub has_lower : ℕ → List Production → Bool
has_lower high [] = false
has_lower high (production ∷ others) = is_lower high production || has_lower high others

abbrev pub is_turn : Class → Bool
is_turn turn = true
is_turn _ = false

-- the class `turn` isn't among the shapes
abbrev pub has_no_turn : List Shape → Bool
has_no_turn [] = true
has_no_turn (Terminal class ∷ rest) = not (is_turn class) && has_no_turn rest
has_no_turn (Nonterminal within ∷ rest) = has_no_turn rest

-- the class `turn` stands first, if at all
abbrev pub names_first : List Shape → Bool
names_first [] = true
names_first (Terminal class ∷ rest) = is_turn class || has_no_turn rest
names_first (Nonterminal within ∷ rest) = has_no_turn rest

-- where the production is empty it needs no room
abbrev pub is_free : Production → Bool
is_free production = not (is_none production.shapes) || nat_le production.needs 0

abbrev pub AreStarts : Part → Type 0
AreStarts part = all_on (choices part) ≡ starts part

pub starts_are : (part : Part) → AreStarts part
unfolding starts choices
starts_are File = refl
starts_are _ = refl

pub separate : (part : Part) → are_separate (choices part) ≡ true
unfolding choices starts matches is_same is_among is_name is_turn_name spells_number
separate File = refl
separate _ = refl

pub headed : (part : Part) → list_all (λ production. is_headed (absent part) (depth part) production.shapes) (productions part) ≡ true
unfolding absent depth
headed File = refl
headed _ = refl

pub followed : (part : Part) → list_all (λ production. follows (avoided part) production.shapes) (productions part) ≡ true
unfolding absent avoided starts matches is_same is_among is_name is_turn_name spells_number
followed File = refl
followed _ = refl

pub shallow : (part : Part) → nat_lt 0 (depth part) && nat_lt (depth part) 32 ≡ true
unfolding depth
shallow File = refl
shallow _ = refl

pub lower : (part : Part) → has_lower (height part) (productions part) ≡ true
unfolding height
lower File = refl
lower _ = refl

pub named_first : (part : Part) → list_all (λ production. names_first production.shapes) (productions part) ≡ true
named_first File = refl
named_first _ = refl

pub free : (part : Part) → list_all is_free (productions part) ≡ true
free File = refl
free _ = refl

-- what begins a part that may be absent doesn't follow it
pub own_avoided : (part : Part) → not (absent part) || are_within (starts part) (avoided part) ≡ true
unfolding absent starts avoided is_same
own_avoided File = refl
own_avoided _ = refl
