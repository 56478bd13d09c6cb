-- How far what is spelled reaches: expressions, paths and statements have a token, and end within the list of tokens.
use Rattle.std.proofs.Common.{◌≡◌, ℕ, suc, ◌+◌, ◌-◌, ◌<◌, ◌≤◌, Bool, true, ◌&&◌, List, [], ◌∷◌, ◌++◌, ⊎_elim, length, take, refl, ap}
use Rattle.std.proofs.Common.{sym, ◌∙◌, subst, arith}
use Rattle.std.specs.Prelude.{Option, Some, option_map}
use Rattle.std.proofs.lemmas.Option.{slice_get_within}
use Rattle.std.proofs.str.Laws.{order}
use Rattle.bl_tree.specs.declared.token.Keyword.{Keyword}
use Rattle.bl_tree.specs.declared.token.Token.{Token}
use Rattle.bl_tree.specs.declared.scalar.Op.{Op}
use Rattle.bl_tree.specs.declared.token.TokenKind.{TokenKind}
use Rattle.bl_tree.specs.declared.token.TokenKind.TheVariants.{Word}
use Rattle.bl_tree.specs.declared.token.Keyword.TheVariants as keyword
use Rattle.bl_parse_syntax.specs.Depth.{blocks_after, open_after}
use Rattle.bl_parse_syntax.proofs.Depths.{open_next}
use Rattle.bl_parse_tree.specs.declared.expr.RawExpr.{RawExpr}
use Rattle.bl_parse_tree.specs.declared.expr.RawPart.{RawPart}
use Rattle.bl_parse_tree.specs.declared.expr.RawTarget.{RawTarget}
use Rattle.bl_parse_tree.specs.declared.item.RawField.{RawField}
use Rattle.bl_parse_tree.specs.declared.item.RawItem.{RawItem}
use Rattle.bl_parse_tree.specs.declared.item.RawParam.{RawParam}
use Rattle.bl_parse_tree.specs.declared.item.RawUnit.{RawUnit}
use Rattle.bl_parse_tree.specs.declared.name.Name.{Name}
use Rattle.bl_parse_tree.specs.declared.stmt.RawArm.{RawArm}
use Rattle.bl_parse_tree.specs.declared.stmt.RawBranch.{RawBranch}
use Rattle.bl_parse_tree.specs.declared.stmt.RawConstant.{RawConstant}
use Rattle.bl_parse_tree.specs.declared.stmt.RawPath.{RawPath}
use Rattle.bl_parse_tree.specs.declared.stmt.RawStmt.{RawStmt}
use Rattle.bl_parse_tree.specs.declared.stmt.RawStmtKind.{RawStmtKind}
use Rattle.bl_parse_tree.specs.declared.types.RawLength.{RawLength}
use Rattle.bl_parse_tree.specs.declared.types.RawType.{RawType}
use Rattle.bl_parse.specs.At.{Takes}
use Rattle.bl_parse.specs.Operators.{IsOperator}
use Rattle.bl_parse.specs.Expressions.{SpellsNone, SpellsExpr, SpellsTarget, SpellsPart, SpellsParts, SpellsInputs, SpellsExprs}
use Rattle.bl_parse.specs.Programs.{SpellsField, SpellsFieldList, SpellsMark, SpellsParam, SpellsParamList, SpellsParams, SpellsOutputParams}
use Rattle.bl_parse.specs.Programs.{SpellsResult, SpellsUnit, SpellsItem, SpellsItems}
use Rattle.bl_parse.specs.Statements.{SpellsTyping, SpellsMaybeTyping, SpellsValue, SpellsInitial, SpellsConstant, SpellsFields, SpellsPath}
use Rattle.bl_parse.specs.Statements.{SpellsPaths, SpellsOutputs, SpellsReceiver, SpellsWeak, SpellsStmt, SpellsKind, SpellsBlock, SpellsArm, SpellsArms}
use Rattle.bl_parse.specs.Statements.{SpellsElse, SpellsBranch, SpellsBranches}
use Rattle.bl_parse.specs.Types.{SpellsLength, SpellsType}
use Rattle.bl_parse.proofs.ReturnLemmas.{token_at}
use Rattle.bl_parse_laws.proofs.Counts.{is_level, is_opening}
use Rattle.bl_parse_laws.proofs.Counts.{levels, opened as increased, take_more}
use Rattle.bl_parse_laws.proofs.Level.{prefix_level, scalar_level, truth_level}
use Rattle.bl_parse_laws.proofs.Nested.{guard_level, unit_opening}

-- ---- one token

-- the blocks that are open before the token at a position
unfoldable pub opens : List Token → ℕ → ℕ
opens tokens k = open_after 0 (take k tokens)

opens_next : {tokens : List Token} {kind : TokenKind} {from to : ℕ} → Takes tokens kind from to → opens tokens to ≡ blocks_after (opens tokens from) kind
unfolding opens
opens_next {tokens} {kind} {from} {to} t =
    let one = token_at tokens from t.stands in
    let next : to ≡ suc from = omega (arith, t.next) in
    let same : one.0.kind ≡ kind = kind_is one.0 (sym (ap (option_map (λ token. token.kind)) one.1) ∙ t.stands) in
    ap (λ k. open_after 0 (take k tokens)) next ∙ ap (open_after 0) (take_more tokens from one.0 one.1) ∙ open_next 0 (take from tokens) one.0
    ∙ ap (blocks_after (open_after 0 (take from tokens))) same
  where
    kind_is : (one : Token) → Some one.kind ≡ Some kind → one.kind ≡ kind
    kind_is one e = cc

pub taken : {tokens : List Token} {kind : TokenKind} {from to : ℕ} → Takes tokens kind from to → from < length tokens
taken {tokens} {from = from} t = let one = token_at tokens from t.stands in slice_get_within tokens from one.0 one.1

infix_level : {kind : TokenKind} {own : ℕ} {op : Op} → IsOperator kind own op → is_level kind ≡ true
infix_level IsOperator.either = refl
infix_level IsOperator.both = refl
infix_level IsOperator.equal = refl
infix_level IsOperator.differs = refl
infix_level IsOperator.less = refl
infix_level IsOperator.at_most = refl
infix_level IsOperator.greater = refl
infix_level IsOperator.at_least = refl
infix_level IsOperator.bits_or = refl
infix_level IsOperator.bits_xor = refl
infix_level IsOperator.bits_and = refl
infix_level IsOperator.shift_left = refl
infix_level IsOperator.shift_right = refl
infix_level IsOperator.plus = refl
infix_level IsOperator.minus = refl
infix_level IsOperator.times = refl
infix_level IsOperator.divided = refl
infix_level IsOperator.remainder = refl

-- ---- parts

-- where there is a token, the last one is in the list, and as many blocks are closed as are opened
pub record Goes (tokens : List Token) (from to : ℕ) : Type 0 where
  pub forward : from ≤ to
  pub inside : from < to → to ≤ length tokens
  pub same : opens tokens to ≡ opens tokens from

-- there is a token too
pub record Filled (tokens : List Token) (from to : ℕ) : Type 0 where
  pub forward : from < to
  pub inside : to ≤ length tokens
  pub same : opens tokens to ≡ opens tokens from

token : {tokens : List Token} {kind : TokenKind} {from to : ℕ} → Takes tokens kind from to → is_level kind ≡ true → Goes tokens from to
token {tokens} {kind} {from} t is = record {
  forward = omega (arith, t.next);
  inside = λ some. omega (arith, t.next, taken t);
  same = opens_next t ∙ levels (opens tokens from) kind is;
}

stay : {tokens : List Token} {from to : ℕ} → to ≡ from → Goes tokens from to
stay {tokens} is = record { forward = omega (arith, is); inside = λ some. absurd (omega (arith, is)); same = ap (opens tokens) is }

inside_two : (tokens : List Token) (from at to : ℕ) → at ≤ to → (from < at → at ≤ length tokens) → (at < to → to ≤ length tokens) → from < to →
    to ≤ length tokens
inside_two tokens from at to forward first last some = ⊎_elim last
    (λ more. let same : at ≡ to = omega (arith, forward, more) in
    subst (λ k. k ≤ length tokens) same (first (subst (λ k. from < k) (sym same) some)))
    (order at to)

then : {tokens : List Token} {from at to : ℕ} → Goes tokens from at → Goes tokens at to → Goes tokens from to
then {tokens} {from} {at} {to} a b = record {
  forward = omega (arith, a.forward, b.forward);
  inside = inside_two tokens from at to b.forward a.inside b.inside;
  same = b.same ∙ a.same;
}

fill : {tokens : List Token} {from to : ℕ} → from < to → Goes tokens from to → Filled tokens from to
fill some all = record { forward = some; inside = all.inside some; same = all.same }

-- what begins with a token is filled
begun : {tokens : List Token} {kind : TokenKind} {from at to : ℕ} → Takes tokens kind from at → is_level kind ≡ true → Goes tokens at to →
    Filled tokens from to
begun t is rest = fill (omega (arith, t.next, rest.forward)) (then (token t is) rest)

pub alone : {tokens : List Token} {kind : TokenKind} {from to : ℕ} → Takes tokens kind from to → is_level kind ≡ true → Filled tokens from to
alone t is = fill (omega (arith, t.next)) (token t is)

goes : {tokens : List Token} {from to : ℕ} → Filled tokens from to → Goes tokens from to
goes f = record { forward = omega (arith, f.forward); inside = λ some. f.inside; same = f.same }

followed : {tokens : List Token} {from at to : ℕ} → Filled tokens from at → Goes tokens at to → Filled tokens from to
followed f rest = fill (omega (arith, f.forward, rest.forward)) (then (goes f) rest)

-- a block is open at the end that wasn't open before
record Opened (tokens : List Token) (from to : ℕ) : Type 0 where
  forward : from < to
  inside : to ≤ length tokens
  one_more : opens tokens to ≡ opens tokens from + 1

begin_block : {tokens : List Token} {kind : TokenKind} {from at to : ℕ} → Takes tokens kind from at → is_opening kind ≡ true → Goes tokens at to →
    Opened tokens from to
begin_block {tokens} {kind} {from} {at} {to} t is rest = record {
  forward = omega (arith, t.next, rest.forward);
  inside = inside_two tokens from at to rest.forward (λ some. omega (arith, t.next, taken t)) rest.inside (omega (arith, t.next, rest.forward));
  one_more = rest.same ∙ opens_next t ∙ increased (opens tokens from) kind is;
}

go_on : {tokens : List Token} {from at to : ℕ} → Opened tokens from at → Goes tokens at to → Opened tokens from to
go_on {tokens} {from} {at} {to} o rest = record {
  forward = omega (arith, o.forward, rest.forward);
  inside = inside_two tokens from at to rest.forward (λ some. o.inside) rest.inside (omega (arith, o.forward, rest.forward));
  one_more = rest.same ∙ o.one_more;
}

end_block : {tokens : List Token} {from at to : ℕ} → Opened tokens from at → Takes tokens (Word keyword.End) at to → Filled tokens from to
end_block {tokens} {at = at} {to = to} o t = record {
  forward = omega (arith, o.forward, t.next);
  inside = omega (arith, t.next, taken t);
  same = let down : opens tokens to ≡ opens tokens at - 1 = opens_next t in omega (arith, down, o.one_more);
}

none : {tokens : List Token} {from to : ℕ} → SpellsNone tokens from to → Goes tokens from to
none (SpellsNone.absent is) = stay is
none (SpellsNone.empty opening closing) = then (token opening refl) (token closing refl)

weakly : {tokens : List Token} {weak : Bool} {from to : ℕ} → SpellsWeak tokens weak from to → Goes tokens from to
weakly (SpellsWeak.strong off is) = stay is
weakly (SpellsWeak.weak on w) = token w refl

mark : {tokens : List Token} {entry : Bool} {from to : ℕ} → SpellsMark tokens entry from to → Goes tokens from to
mark (SpellsMark.absent off is) = stay is
mark (SpellsMark.written on at opening n closing) = then (token at refl) (then (token opening refl) (then (token n refl) (token closing refl)))

-- the head of an arm, and what follows it
record Headed (tokens : List Token) (head : Keyword) (from to : ℕ) : Type 0 where
  at : ℕ
  word : Takes tokens (Word head) from at
  rest : Goes tokens at to

module _ {text : List ℕ} {tokens : List Token} where
  -- ---- types

  length_filled : {n : RawLength} {from to : ℕ} → SpellsLength text tokens n from to → Filled tokens from to
  length_filled (SpellsLength.number t is) = alone t refl
  length_filled (SpellsLength.constant n is) = alone n.token refl

  type_filled : {t : RawType} {from to : ℕ} → SpellsType text tokens t from to → Filled tokens from to
  type_filled (SpellsType.scalar s is) = alone s.token (scalar_level s.is)
  type_filled (SpellsType.named n is) = alone n.token refl
  type_filled (SpellsType.array opening n closing element is) =
      begun opening refl (then (goes (length_filled n)) (then (token closing refl) (goes (type_filled element))))

  -- ---- expressions

  mutual
    pub expr_filled : {level : ℕ} {e : RawExpr} {from to : ℕ} → SpellsExpr text tokens level e from to → Filled tokens from to
    expr_filled (SpellsExpr.two le a op b is) = followed (expr_filled a) (then (token op.token (infix_level op.is)) (goes (expr_filled b)))
    expr_filled (SpellsExpr.cast le a word s is) = followed (expr_filled a) (then (token word refl) (token s.token (scalar_level s.is)))
    expr_filled (SpellsExpr.negative le minus n is) = begun minus refl (token n refl)
    expr_filled (SpellsExpr.one le op no_number a is) = begun op.token (prefix_level op.is) (goes (expr_filled a))
    expr_filled (SpellsExpr.number n is) = alone n refl
    expr_filled (SpellsExpr.truth t is) = alone t.token (truth_level t.is)
    expr_filled (SpellsExpr.before word n is) = begun word refl (token n.token refl)
    expr_filled (SpellsExpr.read from is) = target_filled from
    expr_filled (SpellsExpr.call n given nothing is) = begun n.token refl (then (inputs given) (none nothing))
    expr_filled (SpellsExpr.parentheses opening e closing) = begun opening refl (then (goes (expr_filled e)) (token closing refl))

    pub target_filled : {t : RawTarget} {from to : ℕ} → SpellsTarget text tokens t from to → Filled tokens from to
    target_filled (SpellsTarget.parted n behind is) = begun n.token refl (parts behind)

    part : {one : RawPart} {from to : ℕ} → SpellsPart text tokens one from to → Goes tokens from to
    part (SpellsPart.field dot n is) = then (token dot refl) (token n.token refl)
    part (SpellsPart.index opening e closing is) = then (token opening refl) (then (goes (expr_filled e)) (token closing refl))

    parts : {all : List RawPart} {from to : ℕ} → SpellsParts text tokens all from to → Goes tokens from to
    parts (SpellsParts.no_parts nothing is) = stay is
    parts (SpellsParts.more_parts others one is) = then (parts others) (part one)

    inputs : {all : List RawExpr} {from to : ℕ} → SpellsInputs text tokens all from to → Goes tokens from to
    inputs (SpellsInputs.no_inputs opening closing nothing) = then (token opening refl) (token closing refl)
    inputs (SpellsInputs.some_inputs opening es closing) = then (token opening refl) (then (expressions es) (token closing refl))

    expressions : {all : List RawExpr} {from to : ℕ} → SpellsExprs text tokens all from to → Goes tokens from to
    expressions (SpellsExprs.first_expr e is) = goes (expr_filled e)
    expressions (SpellsExprs.more_exprs es comma e is) = then (expressions es) (then (token comma refl) (goes (expr_filled e)))

  -- ---- parts of statements

  typing : {t : RawType} {from to : ℕ} → SpellsTyping text tokens t from to → Goes tokens from to
  typing h = then (token h.sign refl) (goes (type_filled h.ty_at))

  maybe_typing : {t : Option RawType} {from to : ℕ} → SpellsMaybeTyping text tokens t from to → Goes tokens from to
  maybe_typing (SpellsMaybeTyping.absent nothing is) = stay is
  maybe_typing (SpellsMaybeTyping.written t is) = typing t

  value : {e : RawExpr} {from to : ℕ} → SpellsValue text tokens e from to → Goes tokens from to
  value h = then (token h.sign refl) (goes (expr_filled h.expr))

  initial : {e : Option RawExpr} {from to : ℕ} → SpellsInitial text tokens e from to → Goes tokens from to
  initial (SpellsInitial.absent nothing is) = stay is
  initial (SpellsInitial.given e is) = value e

  constant : {one : RawConstant} {from to : ℕ} → SpellsConstant text tokens one from to → Filled tokens from to
  constant h = begun h.word refl (then (token h.name.token refl) (then (maybe_typing h.typing) (value h.value)))

  fields : {all : List Name} {from to : ℕ} → SpellsFields text tokens all from to → Goes tokens from to
  fields (SpellsFields.none nothing is) = stay is
  fields (SpellsFields.more others dot n is) = then (fields others) (then (token dot refl) (token n.token refl))

  pub path_filled : {one : RawPath} {from to : ℕ} → SpellsPath text tokens one from to → Filled tokens from to
  path_filled h = begun h.root.token refl (fields h.fields)

  paths : {all : List RawPath} {from to : ℕ} → SpellsPaths text tokens all from to → Goes tokens from to
  paths (SpellsPaths.first one is) = goes (path_filled one)
  paths (SpellsPaths.more others comma one is) = then (paths others) (then (token comma refl) (goes (path_filled one)))

  outputs : {all : List RawPath} {from to : ℕ} → SpellsOutputs text tokens all from to → Goes tokens from to
  outputs (SpellsOutputs.absent nothing is) = stay is
  outputs (SpellsOutputs.none opening closing nothing) = then (token opening refl) (token closing refl)
  outputs (SpellsOutputs.some opening all closing) = then (token opening refl) (then (paths all) (token closing refl))

  receiver : {one : Option RawPath} {from to : ℕ} → SpellsReceiver text tokens one from to → Goes tokens from to
  receiver (SpellsReceiver.absent nothing is) = stay is
  receiver (SpellsReceiver.given one assign is) = then (goes (path_filled one)) (token assign refl)

  -- ---- statements

  mutual
    pub stmt_filled : {s : RawStmt} {from to : ℕ} → SpellsStmt text tokens s from to → Filled tokens from to
    stmt_filled (SpellsStmt.placed what is) = kind what

    pub kind : {what : RawStmtKind} {from to : ℕ} → SpellsKind text tokens what from to → Filled tokens from to
    kind (SpellsKind.typed w n t e is) = begun w refl (then (token n.token refl) (then (typing t) (initial e)))
    kind (SpellsKind.inferred w n e is) = begun w refl (then (token n.token refl) (value e))
    kind (SpellsKind.fixed w n t e is) = begun w refl (then (token n.token refl) (then (maybe_typing t) (value e)))
    kind (SpellsKind.constant c is) = constant c
    kind (SpellsKind.assign to e is) = followed (target_filled to) (value e)
    kind (SpellsKind.call n given taken is) = begun n.token refl (then (inputs given) (outputs taken))
    kind (SpellsKind.await w e is) = begun w refl (goes (expr_filled e))
    kind (SpellsKind.run w to n given taken is) = begun w refl (then (receiver to) (then (token n.token refl) (then (inputs given) (outputs taken))))
    kind (SpellsKind.cobegin w all ends is) = end_block (begin_block w refl (branches all)) ends
    kind (SpellsKind.guarded w e guard body ends is) =
        end_block (begin_block w refl (then (goes (expr_filled e)) (then (token guard.token (guard_level guard.is)) (block body)))) ends
    kind (SpellsKind.repeat w body ends is) = end_block (begin_block w refl (block body)) ends
    kind (SpellsKind.until w body u e ends is) =
        end_block (begin_block w refl (then (block body) (then (token u refl) (goes (expr_filled e))))) ends
    kind (SpellsKind.while w e r body ends is) = begun w refl (then (goes (expr_filled e)) (goes (end_block (begin_block r refl (block body)) ends)))
    kind (SpellsKind.branching all other ends is) = end_block (go_on (arms all) (otherwise other)) ends
    kind (SpellsKind.returns w nothing is) = alone w refl
    kind (SpellsKind.returns_value w on e is) = begun w refl (goes (expr_filled e))

    block : {body : List RawStmt} {from to : ℕ} → SpellsBlock text tokens body from to → Goes tokens from to
    block (SpellsBlock.no_stmts nothing is) = stay is
    block (SpellsBlock.more_stmts body s is) = then (block body) (goes (stmt_filled s))

    -- what follows the head of an arm
    arm : {head : Keyword} {one : RawArm} {from to : ℕ} → SpellsArm text tokens head one from to → Headed tokens head from to
    arm (SpellsArm.headed w e t body is) = record { at = _; word = w; rest = then (goes (expr_filled e)) (then (token t refl) (block body)) }

    arms : {all : List RawArm} {from to : ℕ} → SpellsArms text tokens all from to → Opened tokens from to
    arms (SpellsArms.first_arm one is) = let a = arm one in begin_block a.word refl a.rest
    arms (SpellsArms.more_arms others one is) = let a = arm one in go_on (arms others) (then (token a.word refl) a.rest)

    otherwise : {other : List RawStmt} {from to : ℕ} → SpellsElse text tokens other from to → Goes tokens from to
    otherwise (SpellsElse.no_else nothing is) = stay is
    otherwise (SpellsElse.with_else w body) = then (token w refl) (block body)

    branch : {one : RawBranch} {from to : ℕ} → SpellsBranch text tokens one from to → Goes tokens from to
    branch (SpellsBranch.branched may body is) = then (weakly may) (block body)

    branches : {all : List RawBranch} {from to : ℕ} → SpellsBranches text tokens all from to → Goes tokens from to
    branches (SpellsBranches.first_branch one is) = branch one
    branches (SpellsBranches.more_branches others w one is) = then (branches others) (then (token w refl) (branch one))

  -- ---- items

  field : {one : RawField} {from to : ℕ} → SpellsField text tokens one from to → Goes tokens from to
  field h = then (token h.word refl) (then (token h.name.token refl) (typing h.ty))

  field_list : {all : List RawField} {from to : ℕ} → SpellsFieldList text tokens all from to → Goes tokens from to
  field_list (SpellsFieldList.first one is) = field one
  field_list (SpellsFieldList.more others one is) = then (field_list others) (field one)

  param : {one : RawParam} {from to : ℕ} → SpellsParam text tokens one from to → Goes tokens from to
  param h = then (token h.name.token refl) (typing h.ty)

  param_list : {all : List RawParam} {from to : ℕ} → SpellsParamList text tokens all from to → Goes tokens from to
  param_list (SpellsParamList.first one is) = param one
  param_list (SpellsParamList.more others comma one is) = then (param_list others) (then (token comma refl) (param one))

  params : {all : List RawParam} {from to : ℕ} → SpellsParams text tokens all from to → Goes tokens from to
  params (SpellsParams.none opening closing nothing) = then (token opening refl) (token closing refl)
  params (SpellsParams.some opening all closing) = then (token opening refl) (then (param_list all) (token closing refl))

  output_params : {all : List RawParam} {from to : ℕ} → SpellsOutputParams text tokens all from to → Goes tokens from to
  output_params (SpellsOutputParams.absent nothing is) = stay is
  output_params (SpellsOutputParams.written all) = params all

  result : {t : Option RawType} {from to : ℕ} → SpellsResult text tokens t from to → Goes tokens from to
  result (SpellsResult.absent nothing is) = stay is
  result (SpellsResult.written w t is) = then (token w refl) (goes (type_filled t))

  unit : {one : RawUnit} {from to : ℕ} → SpellsUnit text tokens one from to → Goes tokens from to
  unit h =
      let head = then (token h.name.token refl) (then (params h.inputs) (then (output_params h.outputs) (result h.result))) in
      then (mark h.mark) (goes (end_block (begin_block h.kind.token (unit_opening h.kind.is) (then head (block h.body))) h.end))

  item : {one : RawItem} {from to : ℕ} → SpellsItem text tokens one from to → Goes tokens from to
  item (SpellsItem.structure s is) = goes (end_block (begin_block s.word refl (then (token s.name.token refl) (field_list s.fields))) s.end)
  item (SpellsItem.constant c is) = goes (constant c)
  item (SpellsItem.unit u is) = unit u

  pub items : {all : List RawItem} {from to : ℕ} → SpellsItems text tokens all from to → Goes tokens from to
  items (SpellsItems.none nothing is) = stay is
  items (SpellsItems.more others one is) = then (items others) (item one)
