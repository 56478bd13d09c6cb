-- What the stack says of the pieces that were read.
use Rattle.std.proofs.Common.{◌≡◌, ◌<◌, Bool, true, false, ◌&&◌, List, [], ◌∷◌, ◌++◌, map, reverse, refl, ap, sym, ◌∙◌, subst, append_assoc}
use Rattle.std.specs.Prelude.{Some, None}
use Rattle.std.proofs.lemmas.List.{reverse-append}
use Rattle.std.specs.List.{list_all}
use Rattle.bl_ctext.specs.Token.{Token}
use Rattle.bl_grammar.specs.declared.symbol.Symbol.{Symbol}
use Rattle.bl_grammar.specs.declared.symbol.Symbol.TheVariants.{Terminal, Nonterminal}
use Rattle.bl_grammar.proofs.Predictive.{complete, Completed, descend}
use Rattle.bl_grammar.proofs.Runs as RunLaws
use Rattle.bl_cparse_syntax.specs.declared.grammar.Class.{Class as Row}
use Rattle.bl_cparse_syntax.specs.declared.grammar.Roomed.{Roomed}
use Rattle.bl_cparse_syntax.specs.Classes.{Class, matches}
use Rattle.bl_cparse_syntax.specs.Grammar.{Wanted, whole_text, Produces, SpellText}
use Rattle.bl_cparse_syntax.specs.Tables.{absent, pick}
use Rattle.bl_cparse_syntax.specs.Stack.{tables, file, IsGood, CStackCompletes}
use Rattle.bl_cparse_syntax.specs.inner.Stacks.{StackExpands, StackAnswers, level, vanish, may_vanish, shown, class_shown}
use Rattle.bl_cparse_syntax.specs.Rules.{BeginsText}
use Rattle.bl_cparse_syntax.proofs.Predictive.{predictive}

-- the stack

pub start : CStackCompletes [] (whole_text ∷ [])
start = RunLaws.starts Produces matches tables predictive file

pub opened : (next : Token) (stack : List Wanted) → IsGood stack → StackExpands next stack stack
opened next stack good = RunLaws.opened Produces matches tables predictive next stack good

expand : (next : Token) (stack rest production : List Wanted) (part : Roomed) → StackExpands next stack (Nonterminal part ∷ rest) →
    pick part next ≡ Some production → StackExpands next stack (production ++ rest)
expand next stack rest production part now picked = RunLaws.expand Produces matches tables predictive next stack part rest production now picked

terminal_answer : (next : Token) (stack rest : List Wanted) (class : Class) (taken : Bool) →
    StackExpands next stack (Terminal class ∷ rest) → taken ≡ matches class next → StackAnswers next stack taken rest
terminal_answer next stack rest class true now is = RunLaws.take Produces matches tables predictive next stack class rest now (sym is)
terminal_answer next stack rest class false now is = RunLaws.refuse_other Produces matches tables predictive next stack class rest now (sym is)

none_picked : (next : Token) (stack rest : List Wanted) (part : Roomed) → StackExpands next stack (Nonterminal part ∷ rest) →
    pick part next ≡ None → StackAnswers next stack false rest
none_picked next stack rest part now none = RunLaws.refuse_unpicked Produces matches tables predictive next stack part rest now none

pub none_left : (next : Token) (stack rest : List Wanted) → StackExpands next stack [] → StackAnswers next stack false rest
none_left next stack rest now = RunLaws.refuse_more Produces matches tables predictive next stack now

-- the stack as the code has it

abbrev pub Rows : Type 0
Rows = List (Symbol Row Roomed)

-- the stack, from its top on
abbrev pub seen : Rows → List Wanted
seen rows = reverse (map shown rows)

map_append : (xs ys : Rows) → map shown (xs ++ ys) ≡ map shown xs ++ map shown ys
map_append [] ys = refl
map_append (x ∷ xs) ys = ap (λ (ws : List Wanted). shown x ∷ ws) (map_append xs ys)

pub popped : (xs ys : Rows) (s : Symbol Row Roomed) → xs ≡ ys ++ s ∷ [] → seen xs ≡ shown s ∷ seen ys
popped xs ys s is = ap seen is ∙ ap reverse (map_append ys (s ∷ [])) ∙ reverse-append (map shown ys) (shown s ∷ [])

-- what was on top of a stack whose list ends with it
module _ (next : Token) (stack : List Wanted) (xs ys : Rows) (s : Symbol Row Roomed) (now : StackExpands next stack (seen xs))
    (top : xs ≡ ys ++ s ∷ []) where
  opened_at : (wanted : Wanted) → shown s ≡ wanted → StackExpands next stack (wanted ∷ seen ys)
  opened_at wanted is = subst (λ (x : Wanted). StackExpands next stack (x ∷ seen ys)) is
      (subst (λ (zs : List Wanted). StackExpands next stack zs) (popped xs ys s top) now)

  pub at_terminal : (class : Row) (taken : Bool) → s ≡ Terminal class → taken ≡ matches (class_shown class) next →
      StackAnswers next stack taken (seen ys)
  at_terminal class taken is same = terminal_answer next stack (seen ys) (class_shown class) taken (opened_at (Terminal (class_shown class)) (ap shown is)) same

  pub at_none : (part : Roomed) → s ≡ Nonterminal part → None ≡ pick part next → StackAnswers next stack false (seen ys)
  at_none part is none = none_picked next stack (seen ys) part (opened_at (Nonterminal part) (ap shown is)) (sym none)

  module _ (part : Roomed) (is : s ≡ Nonterminal part) (production : List Wanted) (picked : Some production ≡ pick part next)
      (news : Rows) (pushed : seen news ≡ production ++ seen ys) where
    pub at_part : StackExpands next stack (seen news)
    at_part = subst (λ (zs : List Wanted). StackExpands next stack zs) (sym pushed)
        (expand next stack (seen ys) production part (opened_at (Nonterminal part) (ap shown is)) (sym picked))

    pub nearer : level (seen news) < level (seen xs)
    nearer = rw (pushed, popped xs ys s top, is) (descend Produces matches tables predictive part (seen ys) next production (sym picked))

-- fronts of texts

-- what was read begins a text
pub begins_text : (front : List Token) (stack : List Wanted) → CStackCompletes front stack → BeginsText front
begins_text front stack stands =
    let h : Completed Produces matches tables predictive stack [] = complete Produces matches tables predictive stack in
    (h.tokens, stands.back h.tokens h.spells)

-- with a piece that the stack refuses it doesn't
pub begins_none : (front : List Token) (piece : Token) (stack rest : List Wanted) → CStackCompletes front stack →
    StackAnswers piece stack false rest → ¬ BeginsText (front ++ piece ∷ [])
begins_none front piece stack rest stands refuses b = refuses b.0 (stands.there (piece ∷ b.0) (subst SpellText (append_assoc front (piece ∷ []) b.0) b.1))

pub read_one : (front : List Token) (piece : Token) (stack rest : List Wanted) → CStackCompletes front stack →
    StackAnswers piece stack true rest → CStackCompletes (front ++ piece ∷ []) rest
read_one front piece stack rest stands takes = RunLaws.next Produces matches tables predictive file front piece stack rest stands takes

pub accepts : (pieces : List Token) (stack : List Wanted) → CStackCompletes pieces stack → vanish stack ≡ true → SpellText pieces
accepts pieces stack stands vanishes = RunLaws.accepts Produces matches tables predictive file pieces stack stands vanishes

pub rejects : (pieces : List Token) (stack : List Wanted) → CStackCompletes pieces stack → vanish stack ≡ false → ¬ SpellText pieces
rejects pieces stack stands stays = RunLaws.rejects Produces matches tables predictive file pieces stack stands stays

-- the end

vanish_all : (xs : List Wanted) → vanish xs ≡ list_all may_vanish xs
vanish_all [] = refl
vanish_all (Terminal class ∷ xs) = refl
vanish_all (Nonterminal part ∷ xs) = ap (λ b. absent part.part && b) (vanish_all xs)

and_comm : (a b : Bool) → a && b ≡ b && a
and_comm true true = refl
and_comm true false = refl
and_comm false true = refl
and_comm false false = refl

and_assoc : (a b c : Bool) → (a && b) && c ≡ a && (b && c)
and_assoc true b c = refl
and_assoc false b c = refl

all_append : (xs ys : List Wanted) → list_all may_vanish (xs ++ ys) ≡ list_all may_vanish xs && list_all may_vanish ys
all_append [] ys = refl
all_append (x ∷ xs) ys = ap (λ b. may_vanish x && b) (all_append xs ys) ∙ sym (and_assoc (may_vanish x) (list_all may_vanish xs) (list_all may_vanish ys))

and_true : (b : Bool) → b && true ≡ b
and_true true = refl
and_true false = refl

all_reverse : (xs : List Wanted) → list_all may_vanish (reverse xs) ≡ list_all may_vanish xs
all_reverse [] = refl
all_reverse (x ∷ xs) =
    ap (list_all may_vanish) (reverse-append (x ∷ []) xs) ∙ all_append (reverse xs) (x ∷ []) ∙ and_comm (list_all may_vanish (reverse xs)) _
    ∙ ap (λ b. b && list_all may_vanish (reverse xs)) (and_true (may_vanish x)) ∙ ap (λ b. may_vanish x && b) (all_reverse xs)

pub vanish_seen : (xs : List Wanted) → vanish (reverse xs) ≡ list_all may_vanish xs
vanish_seen xs = vanish_all (reverse xs) ∙ all_reverse xs
