-- What the stack says of the tokens that were read.
use Rattle.std.proofs.Common.{◌≡◌, ℕ, suc, ◌+◌, ◌<◌, ◌≤◌, Bool, true, false, not, ◌&&◌, ◌==◌, List, [], ◌∷◌, ◌++◌, length, get_or, take, take_all, drop}
use Rattle.std.proofs.Common.{add-one, drop-cons, reverse, refl, ap, sym, ◌∙◌, subst, arith, append_assoc, inl, inr}
use Rattle.std.specs.Prelude.{Option, Some, None, MatchOption}
use Rattle.std.proofs.lemmas.List.{reverse-append, take-append-drop}
use Rattle.std.proofs.Math.Seq.{take-suc}
use Rattle.std.proofs.lemmas.Bool.{eq-eqb, ne_eqb}
use Rattle.std.specs.List.{list_all}
use Rattle.bl_tree.specs.declared.place.Place.{Place}
use Rattle.bl_tree.specs.declared.token.Token.{Token}
use Rattle.bl_tree.specs.declared.token.TokenKind.{TokenKind}
use Rattle.bl_tree.specs.declared.token.TokenKind.TheVariants.{Name, Number, Word, Sign}
use Rattle.bl_grammar.specs.declared.symbol.Symbol.TheVariants.{Terminal, Nonterminal}
use Rattle.bl_grammar.specs.Predictive
use Rattle.bl_grammar.specs.Derivations.{next_of}
use Rattle.bl_grammar.proofs.Predictive.{complete, Completed, descend}
use Rattle.bl_grammar.proofs.Runs as RunLaws
use Rattle.bl_parse_syntax.specs.declared.grammar.Class.{Class}
use Rattle.bl_parse_syntax.specs.declared.grammar.Class.TheVariants.{AnyName, AnyNumber, Keyword, Mark}
use Rattle.bl_parse_syntax.specs.declared.grammar.TokenView.{TokenView}
use Rattle.bl_parse_syntax.specs.declared.grammar.Part.{Part}
use Rattle.bl_parse_syntax.specs.declared.grammar.Part.TheVariants.{Program}
use Rattle.bl_parse_syntax.specs.Grammar.{Piece, the, class_of, is_fresh, view_of, views_after, views, last_line, same_class, matches, Produces, IsProgram}
use Rattle.bl_parse_syntax.specs.Tables.{absent, pick}
use Rattle.bl_parse_syntax.specs.inner.Stacks.{StackExpands}
use Rattle.bl_parse_syntax.specs.Stack.{tables, IsGood, SourceStackCompletes, StackAnswers, level, vanish, may_vanish, fault_at_end}
use Rattle.bl_parse_syntax.specs.Rules.{SpellsProgram, BeginsProgram, FailsAtToken, FailsSyntax}
use Rattle.bl_parse_syntax.proofs.Predictive.{predictive}

-- the stack

pub popped : (xs ys : List Piece) (s : Piece) → xs ≡ ys ++ s ∷ [] → reverse xs ≡ s ∷ reverse ys
popped xs ys s is = ap reverse is ∙ reverse-append ys (s ∷ [])

pub start : SourceStackCompletes [] (the Program ∷ [])
start = RunLaws.starts Produces matches tables predictive Program

pub opened : (next : TokenView) (stack : List Piece) → IsGood stack → StackExpands next stack stack
opened next stack good = RunLaws.opened Produces matches tables predictive next stack good

pub expand : (next : TokenView) (stack rest production : List Piece) (part : Part) → StackExpands next stack (Nonterminal part ∷ rest) →
    pick part next ≡ Some production → StackExpands next stack (production ++ rest)
expand next stack rest production part now picked = RunLaws.expand Produces matches tables predictive next stack part rest production now picked

pub terminal_answer : (next : TokenView) (stack rest : List Piece) (class : Class) (taken : Bool) →
    StackExpands next stack (Terminal class ∷ rest) → taken ≡ same_class class next.class → StackAnswers next stack taken rest
terminal_answer next stack rest class true now is = RunLaws.take Produces matches tables predictive next stack class rest now (sym is)
terminal_answer next stack rest class false now is = RunLaws.refuse_other Produces matches tables predictive next stack class rest now (sym is)

pub none_picked : (next : TokenView) (stack rest : List Piece) (part : Part) → StackExpands next stack (Nonterminal part ∷ rest) →
    pick part next ≡ None → StackAnswers next stack false rest
none_picked next stack rest part now none = RunLaws.refuse_unpicked Produces matches tables predictive next stack part rest now none

pub none_left : (next : TokenView) (stack rest : List Piece) → StackExpands next stack [] → StackAnswers next stack false rest
none_left next stack rest now = RunLaws.refuse_more Produces matches tables predictive next stack now

-- what was on top of a stack whose list ends with it
module _ (next : TokenView) (stack xs ys : List Piece) (s : Piece) (now : StackExpands next stack (reverse xs)) (top : xs ≡ ys ++ s ∷ []) where
  opened_at : (symbol : Piece) → s ≡ symbol → StackExpands next stack (symbol ∷ reverse ys)
  opened_at symbol is = subst (λ (x : Piece). StackExpands next stack (x ∷ reverse ys)) is
      (subst (λ (zs : List Piece). StackExpands next stack zs) (popped xs ys s top) now)

  pub at_terminal : (class : Class) (taken : Bool) → s ≡ Terminal class → taken ≡ same_class class next.class →
      StackAnswers next stack taken (reverse ys)
  at_terminal class taken is same = terminal_answer next stack (reverse ys) class taken (opened_at (Terminal class) is) same

  pub at_none : (part : Part) → s ≡ Nonterminal part → None ≡ pick part next → StackAnswers next stack false (reverse ys)
  at_none part is none = none_picked next stack (reverse ys) part (opened_at (Nonterminal part) is) (sym none)

  module _ (part : Part) (is : s ≡ Nonterminal part) (production : List Piece) (picked : Some production ≡ pick part next)
      (news : List Piece) (pushed : news ≡ production ++ reverse ys) where
    pub at_part : StackExpands next stack news
    at_part = subst (λ (zs : List Piece). StackExpands next stack zs) (sym pushed)
        (expand next stack (reverse ys) production part (opened_at (Nonterminal part) is) (sym picked))

    pub nearer : level news < level (reverse xs)
    nearer = rw (pushed, popped xs ys s top, is) (descend Produces matches tables predictive part (reverse ys) next production (sym picked))

-- tokens and views

views_append : (before : Option ℕ) (xs ys : List Token) → views_after before (xs ++ ys) ≡ views_after before xs ++ views_after (last_line before xs) ys
views_append before [] ys = refl
views_append before (x ∷ xs) ys = ap (λ vs. view_of before x ∷ vs) (views_append (Some x.line) xs ys)

pub line_next : (before : Option ℕ) (front : List Token) (t : Token) → last_line before (front ++ t ∷ []) ≡ Some t.line
line_next before [] t = refl
line_next before (x ∷ front) t = line_next (Some x.line) front t

kind_of : Class → TokenKind
kind_of AnyName = Name
kind_of AnyNumber = Number 0
kind_of (Keyword k) = Word k
kind_of (Mark k) = Sign k

class_of_kind : (c : Class) → class_of (kind_of c) ≡ c
unfolding kind_of
class_of_kind AnyName = refl
class_of_kind AnyNumber = refl
class_of_kind (Keyword k) = refl
class_of_kind (Mark k) = refl

token_at : Class → ℕ → Token
token_at class line = record { kind = kind_of class; place = record { start = 0; end = 0 }; line = line }

record Tokens (before : Option ℕ) (ws : List TokenView) : Type 0 where
  more : List Token
  seen : views_after before more ≡ ws

one_token : (before : Option ℕ) (w : TokenView) (ws : List TokenView) (line : ℕ) → is_fresh before line ≡ w.fresh → Tokens (Some line) ws →
    Tokens before (w ∷ ws)
unfolding token_at
one_token before w ws line fresh rest = record {
  more = token_at w.class line ∷ rest.more;
  seen = rw (class_of_kind w.class, fresh, rest.seen) refl;
}

next_line : (line : ℕ) → not (line == line + 1) ≡ true
next_line line = ap not (ne_eqb line (line + 1) (λ e. absurd (omega (arith, e))))

tokens_on : (line : ℕ) (ws : List TokenView) → Tokens (Some line) ws
tokens_on line [] = record { more = []; seen = refl }
tokens_on line (w ∷ ws) = by_line w.fresh refl (λ n. tokens_on n ws)
  where
    by_line : (b : Bool) → w.fresh ≡ b → ((n : ℕ) → Tokens (Some n) ws) → Tokens (Some line) (w ∷ ws)
    by_line true e rest = one_token (Some line) w ws (line + 1) (next_line line ∙ sym e) (rest (line + 1))
    by_line false e rest = one_token (Some line) w ws line (ap not (eq-eqb line line refl) ∙ sym e) (rest line)

-- tokens that are seen so, where the first begins a line
tokens_for : (before : Option ℕ) (ws : List TokenView) → Predictive.IsNeutral Produces matches tables (next_of ws) → Tokens before ws
tokens_for (Some line) ws neutral = tokens_on line ws
tokens_for None [] neutral = record { more = []; seen = refl }
tokens_for None (w ∷ ws) neutral = one_token None w ws 0 (sym neutral) (tokens_on 0 ws)

-- what was read begins a program
begins_program : (front : List Token) (stack : List Piece) → SourceStackCompletes (views front) stack → BeginsProgram front
begins_program front stack stands =
    let h : Completed Produces matches tables predictive stack [] = complete Produces matches tables predictive stack in
    let t : Tokens (last_line None front) h.tokens = tokens_for (last_line None front) h.tokens h.neutral in
    (t.more, subst IsProgram (ap (λ ws. views front ++ ws) (sym t.seen) ∙ sym (views_append None front t.more)) (stands.back h.tokens h.spells))

-- with a token that the stack refuses it doesn't
begins_none : (front : List Token) (t : Token) (stack rest : List Piece) → SourceStackCompletes (views front) stack →
    StackAnswers (view_of (last_line None front) t) stack false rest → ¬ BeginsProgram (front ++ t ∷ [])
begins_none front t stack rest stands refuses b =
    let seen : views (front ++ t ∷ [] ++ b.0) ≡ views front ++ (view_of (last_line None front) t ∷ views_after (Some t.line) b.0) =
    ap views (append_assoc front (t ∷ []) b.0) ∙ views_append None front (t ∷ b.0) in
    refuses (views_after (Some t.line) b.0) (stands.there (view_of (last_line None front) t ∷ views_after (Some t.line) b.0) (subst IsProgram seen b.1))

one_more : (tokens : List Token) (i : ℕ) (d : Token) → i < length tokens → take i tokens ++ get_or tokens i d ∷ [] ≡ take (i + 1) tokens
one_more tokens i d inside = sym (take-suc tokens i d inside) ∙ ap (λ n. take n tokens) (sym (add-one i))

pub line_after : (tokens : List Token) (i : ℕ) (d : Token) → i < length tokens → Some (get_or tokens i d).line ≡ last_line None (take (i + 1) tokens)
line_after tokens i d inside = sym (line_next None (take i tokens) (get_or tokens i d))
    ∙ ap (λ (ts : List Token). last_line None ts) (one_more tokens i d inside)

module _ (tokens : List Token) (i : ℕ) (d : Token) (inside : i < length tokens) (line : Option ℕ)
    (on : line ≡ last_line None (take i tokens)) (view : TokenView) (is : view ≡ view_of line (get_or tokens i d))
    (stack rest : List Piece) (stands : SourceStackCompletes (views (take i tokens)) stack) where
  seen_so : view ≡ view_of (last_line None (take i tokens)) (get_or tokens i d)
  seen_so = is ∙ ap (λ l. view_of l (get_or tokens i d)) on

  fault_at_token : StackAnswers view stack false rest → FailsAtToken tokens (get_or tokens i d).place
  fault_at_token refuses = record {
    before = take i tokens;
    token = get_or tokens i d;
    after = drop (suc i) tokens;
    stands = sym (take-append-drop i tokens) ∙ ap (λ ys. take i tokens ++ ys) (drop-cons tokens i d inside);
    begins = begins_program (take i tokens) stack stands;
    ends = begins_none (take i tokens) (get_or tokens i d) stack rest stands (subst (λ (v : TokenView). StackAnswers v stack false rest) seen_so refuses);
    at = refl;
  }

  read_one : StackAnswers view stack true rest → SourceStackCompletes (views (take (i + 1) tokens)) rest
  read_one takes = subst (λ (ts : List Token). SourceStackCompletes (views ts) rest) (one_more tokens i d inside)
      (subst (λ (vs : List TokenView). SourceStackCompletes vs rest) (sym (views_append None (take i tokens) (get_or tokens i d ∷ [])))
      (RunLaws.next Produces matches tables predictive Program (views (take i tokens))
      (view_of (last_line None (take i tokens)) (get_or tokens i d)) stack rest stands (subst (λ (v : TokenView). StackAnswers v stack true rest) seen_so takes)))

  pub fault_here : (size : ℕ) (taken : Bool) → StackAnswers view stack taken rest → taken ≡ false → FailsSyntax size tokens (get_or tokens i d).place
  fault_here size taken answers is_no = inl (fault_at_token (subst (λ (b : Bool). StackAnswers view stack b rest) is_no answers))

  pub read_next : (taken : Bool) → StackAnswers view stack taken rest → taken ≡ true → SourceStackCompletes (views (take (i + 1) tokens)) rest
  read_next taken answers is_yes = read_one (subst (λ (b : Bool). StackAnswers view stack b rest) is_yes answers)

-- the end

vanish_all : (xs : List Piece) → vanish xs ≡ list_all may_vanish xs
vanish_all [] = refl
vanish_all (Terminal class ∷ xs) = refl
vanish_all (Nonterminal part ∷ xs) = ap (λ b. absent part && b) (vanish_all xs)

and_comm : (a b : Bool) → a && b ≡ b && a
and_comm true true = refl
and_comm true false = refl
and_comm false true = refl
and_comm false false = refl

and_assoc : (a b c : Bool) → (a && b) && c ≡ a && (b && c)
and_assoc true b c = refl
and_assoc false b c = refl

all_append : (xs ys : List Piece) → list_all may_vanish (xs ++ ys) ≡ list_all may_vanish xs && list_all may_vanish ys
all_append [] ys = refl
all_append (x ∷ xs) ys = ap (λ b. may_vanish x && b) (all_append xs ys) ∙ sym (and_assoc (may_vanish x) (list_all may_vanish xs) (list_all may_vanish ys))

and_true : (b : Bool) → b && true ≡ b
and_true true = refl
and_true false = refl

all_reverse : (xs : List Piece) → list_all may_vanish (reverse xs) ≡ list_all may_vanish xs
all_reverse [] = refl
all_reverse (x ∷ xs) =
    ap (list_all may_vanish) (reverse-append (x ∷ []) xs) ∙ all_append (reverse xs) (x ∷ []) ∙ and_comm (list_all may_vanish (reverse xs)) _
    ∙ ap (λ b. b && list_all may_vanish (reverse xs)) (and_true (may_vanish x)) ∙ ap (λ b. may_vanish x && b) (all_reverse xs)

pub fault_at_the_end : (tokens : List Token) (items : List Piece) (size : ℕ) → SourceStackCompletes (views tokens) (reverse items) →
    MatchOption (fault_at_end (list_all may_vanish items) size) (SpellsProgram tokens) (FailsSyntax size tokens)
fault_at_the_end tokens items size stands = by_end (list_all may_vanish items) (vanish_all (reverse items) ∙ all_reverse items)
  where
    by_end : (b : Bool) → vanish (reverse items) ≡ b → MatchOption (fault_at_end b size) (SpellsProgram tokens) (FailsSyntax size tokens)
    by_end true vanishes = RunLaws.accepts Produces matches tables predictive Program (views tokens) (reverse items) stands vanishes
    by_end false stays = inr (record {
      begins = begins_program tokens (reverse items) stands;
      no_program = RunLaws.rejects Produces matches tables predictive Program (views tokens) (reverse items) stands stays;
      at = refl;
    })

pub whole : (tokens : List Token) (i : ℕ) (items : List Piece) (size : ℕ) (found : Option Place) → length tokens ≤ i →
    SourceStackCompletes (views (take i tokens)) (reverse items) → found ≡ fault_at_end (list_all may_vanish items) size
    → MatchOption found (SpellsProgram tokens) (FailsSyntax size tokens)
whole tokens i items size found long stands is =
    rw is (fault_at_the_end tokens items size (subst (λ (ts : List Token). SourceStackCompletes (views ts) (reverse items)) (take_all i tokens long) stands))
