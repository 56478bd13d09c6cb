-- What is spelled as an expression derives one.
use Rattle.std.proofs.Common.{ℕ, ◌≤◌, Bool, List, [], ◌∷◌, refl, arith}
use Rattle.bl_tree.specs.declared.scalar.Op.{Op}
use Rattle.bl_tree.specs.declared.token.Token.{Token}
use Rattle.bl_tree.specs.declared.token.TokenKind.{TokenKind}
use Rattle.bl_grammar.specs.declared.symbol.Symbol.TheVariants.{Terminal}
use Rattle.bl_lex.specs.declared.sign.TheConstants.{COMMA}
use Rattle.bl_parse_syntax.specs.declared.grammar.Part.TheVariants.{Expr, Unary, Primary, NameUse, NoOutputs, Access, Accesses, Inputs, InputList, InputRest}
use Rattle.bl_parse_syntax.specs.Grammar.{the, name, sign, class_of, productions, IsAmong}
use Rattle.bl_parse_syntax.specs.Grammar.IsAmong.{here, later}
use Rattle.bl_parse_tree.specs.declared.expr.RawExpr.{RawExpr}
use Rattle.bl_parse_tree.specs.declared.expr.RawPart.{RawPart}
use Rattle.bl_parse_tree.specs.declared.expr.RawTarget.{RawTarget}
use Rattle.bl_parse.specs.Operators.{IsPrefix}
use Rattle.bl_parse.specs.Expressions.{IsTruth, SpellsNone, SpellsExpr, SpellsTarget, SpellsPart, SpellsParts, SpellsInputs, SpellsExprs}
use Rattle.bl_parse_laws.proofs.Spans.{Spans, Chain, Listed, token, then, made, empty, add, repeated, listed_one, listed_more}
use Rattle.bl_parse_laws.proofs.Levels.{Open, whole, two_open, cast_open, unary_open, primary_open}
use Rattle.bl_parse_laws.proofs.Types.{a_name}

among_prefix : {kind : TokenKind} {op : Op} → IsPrefix kind op → IsAmong (Terminal (class_of kind) ∷ the Unary ∷ []) (productions Unary)
among_prefix IsPrefix.negation = here
among_prefix IsPrefix.complement = later here
among_prefix IsPrefix.denial = later (later here)

among_truth : {kind : TokenKind} {b : Bool} → IsTruth kind b → IsAmong (Terminal (class_of kind) ∷ []) (productions Primary)
among_truth IsTruth.yes = later here
among_truth IsTruth.no = later (later here)

no_outputs : {tokens : List Token} {from to : ℕ} → SpellsNone tokens from to → Spans (the NoOutputs ∷ []) tokens from to
no_outputs (SpellsNone.absent is) = empty NoOutputs (later here) (λ n. refl) is
no_outputs (SpellsNone.empty opens closes) = made NoOutputs here (λ n. refl) (then (token opens) (token closes))

-- a name and the parts behind it
pub record Reached (tokens : List Token) (from to : ℕ) : Type 0 where
  pub m : ℕ
  pub root : Spans (name ∷ []) tokens from m
  pub parts : Chain (the Access ∷ []) tokens m to

used : {tokens : List Token} {from to : ℕ} → Chain (the Access ∷ []) tokens from to → Spans (the NameUse ∷ []) tokens from to
used (Chain.over is) = empty NameUse (later (later here)) (λ n. refl) is
used (Chain.more a c) = made NameUse (later here) (λ n. refl)
    (then a (repeated (the Access ∷ []) Accesses here (λ n. refl) c (empty Accesses (later here) (λ n. refl) refl)))

read_of : {tokens : List Token} {from to : ℕ} → Reached tokens from to → Spans (the Primary ∷ []) tokens from to
read_of r = made Primary (later (later (later (later here)))) (λ n. refl) (then r.root (used r.parts))

-- expressions with commas between them
abbrev pub Exprs : List Token → ℕ → ℕ → Type 0
Exprs tokens from to = Listed (the Expr ∷ []) (sign COMMA ∷ the Expr ∷ []) tokens from to

input_list : {tokens : List Token} {from to : ℕ} → Exprs tokens from to → Spans (the InputList ∷ []) tokens from to
input_list l = made InputList here (λ n. refl) (then l.head
    (repeated (sign COMMA ∷ the Expr ∷ []) InputRest here (λ n. refl) l.rest (empty InputRest (later here) (λ n. refl) refl)))

at_zero : {tokens : List Token} {from to : ℕ} → (0 ≤ 10 → Open tokens 0 from to) → Spans (the Expr ∷ []) tokens from to
at_zero o = whole 0 (o (omega arith))

at_ten : {tokens : List Token} {from to : ℕ} → (10 ≤ 10 → Open tokens 10 from to) → Spans (the Unary ∷ []) tokens from to
at_ten o = whole 10 (o (omega arith))

module _ {text : List ℕ} {tokens : List Token} where
  mutual
    open_expr : {level : ℕ} {e : RawExpr} {from to : ℕ} → SpellsExpr text tokens level e from to → level ≤ 10 → Open tokens level from to
    open_expr (SpellsExpr.two le a op b is) room = two_open le op (open_expr a) (open_expr b)
    open_expr (SpellsExpr.cast le a t s is) room = cast_open le t s (open_expr a)
    open_expr (SpellsExpr.negative le minus n is) room =
        unary_open le (made Unary here (λ n. refl) (then (token minus)
        (made Unary (later (later (later here))) (λ n. refl) (made Primary here (λ n. refl) (token n)))))
    open_expr (SpellsExpr.one le op no_number a is) room =
        unary_open le (made Unary (among_prefix op.is) (λ n. refl) (then (token op.token) (at_ten (open_expr a))))
    open_expr (SpellsExpr.number n is) room = primary_open room (made Primary here (λ n. refl) (token n))
    open_expr (SpellsExpr.truth t is) room = primary_open room (made Primary (among_truth t.is) (λ n. refl) (token t.token))
    open_expr (SpellsExpr.before word n is) room = primary_open room (made Primary (later (later (later here))) (λ n. refl) (then (token word) (a_name n)))
    open_expr (SpellsExpr.read place is) room = primary_open room (read_of (target place))
    open_expr (SpellsExpr.call n inputs none is) room =
        primary_open room (made Primary (later (later (later (later here)))) (λ n. refl)
        (then (a_name n) (made NameUse here (λ n. refl) (then (inputs_of inputs) (no_outputs none)))))
    open_expr (SpellsExpr.parentheses opens e closes) room =
        primary_open room (made Primary (later (later (later (later (later here))))) (λ n. refl)
        (then (token opens) (then (at_zero (open_expr e)) (token closes))))

    pub target : {place : RawTarget} {from to : ℕ} → SpellsTarget text tokens place from to → Reached tokens from to
    target (SpellsTarget.parted n parts is) = record { m = _; root = a_name n; parts = parts_of parts }

    access : {part : RawPart} {from to : ℕ} → SpellsPart text tokens part from to → Spans (the Access ∷ []) tokens from to
    access (SpellsPart.field dot n is) = made Access here (λ n. refl) (then (token dot) (a_name n))
    access (SpellsPart.index opens e closes is) = made Access (later here) (λ n. refl) (then (token opens) (then (at_zero (open_expr e)) (token closes)))

    parts_of : {parts : List RawPart} {from to : ℕ} → SpellsParts text tokens parts from to → Chain (the Access ∷ []) tokens from to
    parts_of (SpellsParts.no_parts none is) = Chain.over is
    parts_of (SpellsParts.more_parts parts part is) = add (parts_of parts) (access part)

    pub inputs_of : {inputs : List RawExpr} {from to : ℕ} → SpellsInputs text tokens inputs from to → Spans (the Inputs ∷ []) tokens from to
    inputs_of (SpellsInputs.no_inputs opens closes is) =
        made Inputs here (λ n. refl) (then (token opens) (then (empty InputList (later here) (λ n. refl) refl) (token closes)))
    inputs_of (SpellsInputs.some_inputs opens es closes) = made Inputs here (λ n. refl) (then (token opens) (then (input_list (exprs_of es)) (token closes)))

    exprs_of : {all : List RawExpr} {from to : ℕ} → SpellsExprs text tokens all from to → Exprs tokens from to
    exprs_of (SpellsExprs.first_expr e is) = listed_one (at_zero (open_expr e))
    exprs_of (SpellsExprs.more_exprs es comma e is) = listed_more (exprs_of es) (then (token comma) (at_zero (open_expr e)))

  pub an_expr : {e : RawExpr} {from to : ℕ} → SpellsExpr text tokens 0 e from to → Spans (the Expr ∷ []) tokens from to
  an_expr e = at_zero (open_expr e)
