-- An expression is no deeper than the run that it ends in is long.
use Rattle.std.proofs.Common.{◌≡◌, ℕ, ◌+◌, ◌≤◌, Bool, true, false, List, map, max, refl, ap, sym, ◌∙◌, arith}
use Rattle.bl_tree.specs.declared.place.Place.{Place}
use Rattle.bl_tree.specs.declared.scalar.Op.{Op}
use Rattle.bl_tree.specs.declared.scalar.Scalar.{Scalar as ScalarType}
use Rattle.bl_tree.specs.declared.token.Token.{Token}
use Rattle.bl_tree.specs.declared.token.TokenKind.{TokenKind}
use Rattle.bl_tree.specs.Reduce.{greatest}
use Rattle.bl_parse_syntax.specs.Depth.{is_counted, is_last}
use Rattle.bl_parse_tree.specs.declared.expr.RawExpr.{RawExpr, fold-roll-RawExpr}
use Rattle.bl_parse_tree.specs.declared.expr.RawExprKind.{RawExprKind, fold-RawExprKind, fold-roll-RawExprKind}
use Rattle.bl_parse_tree.specs.declared.expr.RawExprKind.TheVariants.{rolls-Number, rolls-Truth, rolls-Read, rolls-Prev, rolls-One, rolls-Two, rolls-Cast, rolls-Call}
use Rattle.bl_parse_tree.specs.declared.expr.RawExprKind as kind
use Rattle.bl_parse_tree.specs.declared.expr.RawPart.{RawPart, fold-RawPart, fold-roll-RawPart}
use Rattle.bl_parse_tree.specs.declared.expr.RawPart as step
use Rattle.bl_parse_tree.specs.declared.expr.RawPart.TheVariants.{rolls-Field, rolls-Index}
use Rattle.bl_parse_tree.specs.declared.expr.RawTarget.{RawTarget, fold-roll-RawTarget}
use Rattle.bl_parse_tree.specs.declared.name.Name.{Name}
use Rattle.bl_parse_tree.specs.Depths.{kind_depth, part_depth, expr_layer_depth, target_layer_depth, expr_depth, target_depth}
use Rattle.bl_parse.specs.Expressions.{expr, target, IsTruth, SpellsNone, SpellsExpr, SpellsTarget, SpellsPart, SpellsParts, SpellsInputs, SpellsExprs}
use Rattle.bl_parse.specs.Operators.{IsOperator, IsPrefix, IsScalar}
use Rattle.bl_parse_laws.proofs.Counts.{run_at, is_inner, counts, keeps, Base, behind}
use Rattle.bl_parse_laws.proofs.Members.{greatest_of_more}

-- how deep what an expression says is nested
abbrev depth_in : RawExprKind → ℕ
depth_in = fold-RawExprKind ℕ ℕ ℕ ℕ kind_depth part_depth expr_layer_depth target_layer_depth

abbrev step_depth : RawPart → ℕ
step_depth = fold-RawPart ℕ ℕ ℕ ℕ kind_depth part_depth expr_layer_depth target_layer_depth

-- ---- the depth of what is made

expr_is : (at : Place) (what : RawExprKind) → expr_depth (expr at what) ≡ depth_in what
expr_is at what = rw fold-roll-RawExpr refl

number_is : (minus : Bool) (n : ℕ) → depth_in (kind.Number minus n) ≡ 0
number_is minus n = ap depth_in (sym (rolls-Number minus n)) ∙ rw fold-roll-RawExprKind refl

truth_is : (b : Bool) → depth_in (kind.Truth b) ≡ 0
truth_is b = ap depth_in (sym (rolls-Truth b)) ∙ rw fold-roll-RawExprKind refl

read_is : (from : RawTarget) → depth_in (kind.Read from) ≡ target_depth from
read_is from = ap depth_in (sym (rolls-Read from)) ∙ rw fold-roll-RawExprKind refl

before_is : (n : Name) → depth_in (kind.Prev n) ≡ 0
before_is n = ap depth_in (sym (rolls-Prev n)) ∙ rw fold-roll-RawExprKind refl

one_is : (op : Op) (a : RawExpr) → depth_in (kind.One op a) ≡ 1 + expr_depth a
one_is op a = ap depth_in (sym (rolls-One op a)) ∙ rw fold-roll-RawExprKind refl

two_is : (op : Op) (a b : RawExpr) → depth_in (kind.Two op a b) ≡ 1 + max (expr_depth a) (expr_depth b)
two_is op a b = ap depth_in (sym (rolls-Two op a b)) ∙ rw fold-roll-RawExprKind refl

cast_is : (s : ScalarType) (a : RawExpr) → depth_in (kind.Cast s a) ≡ 1 + expr_depth a
cast_is s a = ap depth_in (sym (rolls-Cast s a)) ∙ rw fold-roll-RawExprKind refl

call_is : (n : Name) (inputs : List RawExpr) → depth_in (kind.Call n inputs) ≡ 1 + greatest (map expr_depth inputs)
call_is n inputs = ap depth_in (sym (rolls-Call n inputs)) ∙ rw fold-roll-RawExprKind refl

target_is : (at : Place) (root : Name) (parts : List RawPart) → target_depth (target at root parts) ≡ greatest (map step_depth parts)
target_is at root parts = rw fold-roll-RawTarget refl

field_is : (n : Name) → step_depth (step.Field n) ≡ 0
field_is n = ap step_depth (sym (rolls-Field n)) ∙ rw fold-roll-RawPart refl

index_is : (e : RawExpr) → step_depth (step.Index e) ≡ 1 + expr_depth e
index_is e = ap step_depth (sym (rolls-Index e)) ∙ rw fold-roll-RawPart refl

made : {e : RawExpr} {at : Place} {what : RawExprKind} {n : ℕ} → e ≡ expr at what → depth_in what ≡ n → expr_depth e ≡ n
made {at = at} {what = what} is depth = ap expr_depth is ∙ (expr_is at what ∙ depth)

-- ---- operators

-- a token that a run counts, and that no expression ends with
record IsCounted (kind : TokenKind) : Type 0 where
  pub inside : is_inner kind ≡ true
  pub counted : is_counted kind ≡ true
  pub opens : is_last kind ≡ false

infix_counted : {kind : TokenKind} {own : ℕ} {op : Op} → IsOperator kind own op → IsCounted kind
infix_counted IsOperator.either = record { inside = refl; counted = refl; opens = refl }
infix_counted IsOperator.both = record { inside = refl; counted = refl; opens = refl }
infix_counted IsOperator.equal = record { inside = refl; counted = refl; opens = refl }
infix_counted IsOperator.differs = record { inside = refl; counted = refl; opens = refl }
infix_counted IsOperator.less = record { inside = refl; counted = refl; opens = refl }
infix_counted IsOperator.at_most = record { inside = refl; counted = refl; opens = refl }
infix_counted IsOperator.greater = record { inside = refl; counted = refl; opens = refl }
infix_counted IsOperator.at_least = record { inside = refl; counted = refl; opens = refl }
infix_counted IsOperator.bits_or = record { inside = refl; counted = refl; opens = refl }
infix_counted IsOperator.bits_xor = record { inside = refl; counted = refl; opens = refl }
infix_counted IsOperator.bits_and = record { inside = refl; counted = refl; opens = refl }
infix_counted IsOperator.shift_left = record { inside = refl; counted = refl; opens = refl }
infix_counted IsOperator.shift_right = record { inside = refl; counted = refl; opens = refl }
infix_counted IsOperator.plus = record { inside = refl; counted = refl; opens = refl }
infix_counted IsOperator.minus = record { inside = refl; counted = refl; opens = refl }
infix_counted IsOperator.times = record { inside = refl; counted = refl; opens = refl }
infix_counted IsOperator.divided = record { inside = refl; counted = refl; opens = refl }
infix_counted IsOperator.remainder = record { inside = refl; counted = refl; opens = refl }

prefix_counted : {kind : TokenKind} {op : Op} → IsPrefix kind op → IsCounted kind
prefix_counted IsPrefix.negation = record { inside = refl; counted = refl; opens = refl }
prefix_counted IsPrefix.complement = record { inside = refl; counted = refl; opens = refl }
prefix_counted IsPrefix.denial = record { inside = refl; counted = refl; opens = refl }

-- a token that goes on with a run, and isn't counted
record IsKept (kind : TokenKind) : Type 0 where
  pub inside : is_inner kind ≡ true
  pub uncounted : is_counted kind ≡ false

truth_kept : {kind : TokenKind} {b : Bool} → IsTruth kind b → IsKept kind
truth_kept IsTruth.yes = record { inside = refl; uncounted = refl }
truth_kept IsTruth.no = record { inside = refl; uncounted = refl }

scalar_kept : {kind : TokenKind} {s : ScalarType} → IsScalar kind s → IsKept kind
scalar_kept IsScalar.bool = record { inside = refl; uncounted = refl }
scalar_kept IsScalar.int8 = record { inside = refl; uncounted = refl }
scalar_kept IsScalar.int16 = record { inside = refl; uncounted = refl }
scalar_kept IsScalar.int32 = record { inside = refl; uncounted = refl }
scalar_kept IsScalar.int64 = record { inside = refl; uncounted = refl }
scalar_kept IsScalar.nat8 = record { inside = refl; uncounted = refl }
scalar_kept IsScalar.nat16 = record { inside = refl; uncounted = refl }
scalar_kept IsScalar.nat32 = record { inside = refl; uncounted = refl }
scalar_kept IsScalar.nat64 = record { inside = refl; uncounted = refl }
scalar_kept IsScalar.bits8 = record { inside = refl; uncounted = refl }
scalar_kept IsScalar.bits16 = record { inside = refl; uncounted = refl }
scalar_kept IsScalar.bits32 = record { inside = refl; uncounted = refl }
scalar_kept IsScalar.bits64 = record { inside = refl; uncounted = refl }

-- ---- expressions

none : {tokens : List Token} {from to : ℕ} → SpellsNone tokens from to → run_at tokens from ≤ run_at tokens to
none {tokens} (SpellsNone.absent is) = omega (arith, ap (run_at tokens) is)
none (SpellsNone.empty opens closes) = omega (arith, counts opens refl refl, keeps closes refl refl)

module _ {text : List ℕ} {tokens : List Token} where
  mutual
    pub expression : {level : ℕ} {e : RawExpr} {from to base : ℕ} → SpellsExpr text tokens level e from to → Base tokens from base →
        base + expr_depth e ≤ run_at tokens to
    expression (SpellsExpr.two le a op b is) h =
        let o = infix_counted op.is in
        omega (arith, made is (two_is _ _ _), expression a h, counts op.token o.inside o.counted, expression b (behind op.token o.opens))
    expression (SpellsExpr.cast le a word s is) h =
        let k = scalar_kept s.is in
        omega (arith, made is (cast_is _ _), expression a h, counts word refl refl, keeps s.token k.inside k.uncounted)
    expression (SpellsExpr.negative le minus n is) h = omega (arith, made is (number_is _ _), h.low, counts minus refl refl, keeps n refl refl)
    expression (SpellsExpr.one le op no_number a is) h =
        let o = prefix_counted op.is in
        omega (arith, made is (one_is _ _), h.low, counts op.token o.inside o.counted, expression a (behind op.token o.opens))
    expression (SpellsExpr.number n is) h = omega (arith, made is (number_is _ _), h.low, keeps n refl refl)
    expression (SpellsExpr.truth t is) h = let k = truth_kept t.is in omega (arith, made is (truth_is _), h.low, keeps t.token k.inside k.uncounted)
    expression (SpellsExpr.before word n is) h = omega (arith, made is (before_is _), h.low, keeps word refl refl, (behind word refl).named _ n.token)
    expression (SpellsExpr.read from is) h = omega (arith, made is (read_is _), place from h)
    expression (SpellsExpr.call n given after is) h = omega (arith, made is (call_is _ _), h.named _ n.token, inputs given, none after)
    expression (SpellsExpr.parentheses opens e closes) h =
        omega (arith, h.low, counts opens refl refl, expression e (behind opens refl), keeps closes refl refl)

    pub place : {t : RawTarget} {from to base : ℕ} → SpellsTarget text tokens t from to → Base tokens from base →
        base + target_depth t ≤ run_at tokens to
    place (SpellsTarget.parted n behind is) h = omega (arith, ap target_depth is ∙ target_is _ _ _, h.named _ n.token, parts behind)

    part : {one : RawPart} {from to : ℕ} → SpellsPart text tokens one from to → run_at tokens from + step_depth one ≤ run_at tokens to
    part (SpellsPart.field dot n is) = omega (arith, ap step_depth is ∙ field_is _, keeps dot refl refl, (behind dot refl).named _ n.token)
    part (SpellsPart.index opens e closes is) = omega (
      arith,
      ap step_depth is ∙ index_is _,
      counts opens refl refl,
      expression e (behind opens refl),
      keeps closes refl refl,
    )

    parts : {all : List RawPart} {from to : ℕ} → SpellsParts text tokens all from to →
        run_at tokens from + greatest (map step_depth all) ≤ run_at tokens to
    parts (SpellsParts.no_parts none is) = omega (arith, ap (λ xs. greatest (map step_depth xs)) none, ap (run_at tokens) is)
    parts (SpellsParts.more_parts {parts = front} {part = last} others one is) =
        omega (arith, greatest_of_more step_depth front last is, parts others, part one)

    -- the opening parenthesis counts
    pub inputs : {all : List RawExpr} {from to : ℕ} → SpellsInputs text tokens all from to →
        run_at tokens from + (1 + greatest (map expr_depth all)) ≤ run_at tokens to
    inputs (SpellsInputs.no_inputs opens closes none) =
        omega (arith, ap (λ xs. greatest (map expr_depth xs)) none, counts opens refl refl, keeps closes refl refl)
    inputs (SpellsInputs.some_inputs opens es closes) = omega (arith, counts opens refl refl, expressions es (behind opens refl), keeps closes refl refl)

    expressions : {all : List RawExpr} {from to base : ℕ} → SpellsExprs text tokens all from to → Base tokens from base →
        base + greatest (map expr_depth all) ≤ run_at tokens to
    expressions (SpellsExprs.first_expr e is) h = omega (arith, ap (λ xs. greatest (map expr_depth xs)) is, expression e h)
    expressions (SpellsExprs.more_exprs {es = front} {e = last} es comma e is) h =
        omega (arith, greatest_of_more expr_depth front last is, expressions es h, keeps comma refl refl, expression e (behind comma refl))
