-- What is checked of the grammar part by part, by computing: that the tables are right and one token decides.
use Rattle.std.proofs.Common.{◌≡◌, ℕ, Bool, true, false, not, cond, ◌&&◌, ◌||◌, List, [], ◌∷◌, ◌++◌, refl}
use Rattle.std.specs.Prelude.{nat_lt}
use Rattle.std.specs.List.{list_all}
use Rattle.bl_grammar.specs.declared.symbol.Symbol.TheVariants.{Terminal, Nonterminal}
use Rattle.bl_parse_syntax.specs.declared.grammar.Class.{Class}
use Rattle.bl_parse_syntax.specs.declared.grammar.Part.{Part}
use Rattle.bl_parse_syntax.specs.declared.grammar.Part.TheVariants.{Program, AfterReturn}
use Rattle.bl_parse_syntax.specs.Grammar.{Piece, productions}
use Rattle.bl_parse_syntax.specs.Follow.{avoided, height, depth, are_lower}
use Rattle.bl_parse_syntax.specs.Tables.{has, starts, absent, Choice, choices}

-- no class is in both
abbrev pub are_apart : List Class → List Class → Bool
are_apart ones others = list_all (λ class. not (has others class)) ones

-- each class is among the others
abbrev pub are_within : List Class → List Class → Bool
are_within ones others = list_all (has others) ones

-- all classes that decide on choices
abbrev pub all_on : List Choice → List Class
all_on [] = []
all_on (choice ∷ others) = choice.on ++ all_on others

-- no class decides on two choices
abbrev pub are_separate : List Choice → Bool
are_separate [] = true
are_separate (choice ∷ others) = are_apart choice.on (all_on others) && are_separate others

-- the classes that symbols can begin with, also where parts before are absent
abbrev pub heads_of : List Piece → List Class
heads_of [] = []
heads_of (Terminal class ∷ rest) = class ∷ []
heads_of (Nonterminal part ∷ rest) = starts part ++ cond (absent part) (heads_of rest) []

abbrev pub may_vanish : List Piece → Bool
may_vanish [] = true
may_vanish (Terminal class ∷ rest) = false
may_vanish (Nonterminal part ∷ rest) = absent part && may_vanish rest

-- what can follow a part of the production isn't avoided
abbrev pub follows : List Class → List Piece → Bool
follows outer [] = true
follows outer (Terminal class ∷ rest) = follows outer rest
follows outer (Nonterminal part ∷ rest) =
    are_apart (heads_of rest) (avoided part) && ((not (may_vanish rest) || are_within (avoided part) outer) && follows outer rest)

-- the production begins with a token or with a part that stands for something and is less deep
abbrev pub is_headed : Bool → ℕ → List Piece → Bool
is_headed may deep [] = true
is_headed may deep (Terminal class ∷ rest) = true
is_headed may deep (Nonterminal part ∷ rest) = not (absent part) && nat_lt (depth part) (cond may 32 deep)

-- some production has only parts of less height
abbrev pub has_lower : ℕ → List (List Piece) → Bool
has_lower high [] = false
has_lower high (production ∷ others) = are_lower high production || has_lower high others

abbrev pub AreStarts : Part → Type 0
AreStarts part = all_on (choices part) ≡ starts part

pub starts_are : (part : Part) → AreStarts part
unfolding starts choices
starts_are Program = refl
starts_are _ = refl

pub separate : (part : Part) → are_separate (choices part) ≡ true
unfolding choices starts
separate Program = refl
separate _ = refl

pub headed : (part : Part) → list_all (is_headed (absent part) (depth part)) (productions part) ≡ true
unfolding absent depth
headed Program = refl
headed _ = refl

pub followed : (part : Part) → list_all (follows (avoided part)) (productions part) ≡ true
unfolding absent avoided starts
followed Program = refl
followed _ = refl

pub shallow : (part : Part) → nat_lt 0 (depth part) && nat_lt (depth part) 32 ≡ true
unfolding depth
shallow Program = refl
shallow _ = refl

pub lower : (part : Part) → has_lower (height part) (productions part) ≡ true
unfolding height
lower Program = refl
lower _ = refl

-- what begins a part that may be absent doesn't follow it, but for the expression of `return`
abbrev pub is_bare : Part → Bool
is_bare AfterReturn = true
is_bare _ = false

pub own_avoided : (part : Part) → is_bare part || (not (absent part) || are_within (starts part) (avoided part)) ≡ true
unfolding absent starts avoided
own_avoided Program = refl
own_avoided _ = refl
