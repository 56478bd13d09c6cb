-- Types, expressions and other parts that hold no statements leave as many blocks open as there were.
use Rattle.std.proofs.Common.{◌≡◌, ℕ, ◌≤◌, Bool, true, List, refl, ap, ◌∙◌, arith}
use Rattle.std.specs.Prelude.{Option}
use Rattle.bl_tree.specs.declared.scalar.Op.{Op}
use Rattle.bl_tree.specs.declared.scalar.Scalar.{Scalar as ScalarType}
use Rattle.bl_tree.specs.declared.token.Token.{Token}
use Rattle.bl_tree.specs.declared.token.TokenKind.{TokenKind}
use Rattle.bl_parse_tree.specs.declared.expr.RawExpr.{RawExpr}
use Rattle.bl_parse_tree.specs.declared.expr.RawPart.{RawPart}
use Rattle.bl_parse_tree.specs.declared.expr.RawTarget.{RawTarget}
use Rattle.bl_parse_tree.specs.declared.item.RawField.{RawField}
use Rattle.bl_parse_tree.specs.declared.item.RawParam.{RawParam}
use Rattle.bl_parse_tree.specs.declared.item.RawStruct.{RawStruct}
use Rattle.bl_parse_tree.specs.declared.name.Name.{Name}
use Rattle.bl_parse_tree.specs.declared.stmt.RawConstant.{RawConstant}
use Rattle.bl_parse_tree.specs.declared.stmt.RawPath.{RawPath}
use Rattle.bl_parse_tree.specs.declared.types.RawLength.{RawLength}
use Rattle.bl_parse_tree.specs.declared.types.RawType.{RawType}
use Rattle.bl_parse.specs.At.{Takes}
use Rattle.bl_parse.specs.Operators.{IsOperator, IsPrefix, IsScalar}
use Rattle.bl_parse.specs.Expressions.{IsTruth, SpellsNone, SpellsExpr, SpellsTarget, SpellsPart, SpellsParts, SpellsInputs, SpellsExprs}
use Rattle.bl_parse.specs.Programs.{SpellsField, SpellsFieldList, SpellsStruct, SpellsMark, SpellsParam, SpellsParamList, SpellsParams, SpellsOutputParams}
use Rattle.bl_parse.specs.Programs.{SpellsResult}
use Rattle.bl_parse.specs.Statements.{SpellsTyping, SpellsMaybeTyping, SpellsValue, SpellsInitial, SpellsConstant, SpellsFields, SpellsPath, SpellsPaths}
use Rattle.bl_parse.specs.Statements.{SpellsOutputs, SpellsReceiver, SpellsWeak}
use Rattle.bl_parse.specs.Types.{SpellsLength, SpellsType}
use Rattle.bl_parse_laws.proofs.Counts.{open_at, is_level, level, opens, closes}

-- between two positions as many blocks are closed as are opened
pub record Level (tokens : List Token) (from to : ℕ) : Type 0 where
  pub moves : from ≤ to
  pub same : open_at tokens to ≡ open_at tokens from

pub stay : {tokens : List Token} {from to : ℕ} → to ≡ from → Level tokens from to
stay {tokens} is = record { moves = omega (arith, is); same = ap (open_at tokens) is }

pub token : {tokens : List Token} {kind : TokenKind} {from to : ℕ} → Takes tokens kind from to → is_level kind ≡ true → Level tokens from to
token t is = record { moves = omega (arith, t.next); same = level t is }

pub then : {tokens : List Token} {from at to : ℕ} → Level tokens from at → Level tokens at to → Level tokens from to
then a b = record { moves = omega (arith, a.moves, b.moves); same = b.same ∙ a.same }

infix_level : {kind : TokenKind} {own : ℕ} {op : Op} → IsOperator kind own op → is_level kind ≡ true
infix_level IsOperator.either = refl
infix_level IsOperator.both = refl
infix_level IsOperator.equal = refl
infix_level IsOperator.differs = refl
infix_level IsOperator.less = refl
infix_level IsOperator.at_most = refl
infix_level IsOperator.greater = refl
infix_level IsOperator.at_least = refl
infix_level IsOperator.bits_or = refl
infix_level IsOperator.bits_xor = refl
infix_level IsOperator.bits_and = refl
infix_level IsOperator.shift_left = refl
infix_level IsOperator.shift_right = refl
infix_level IsOperator.plus = refl
infix_level IsOperator.minus = refl
infix_level IsOperator.times = refl
infix_level IsOperator.divided = refl
infix_level IsOperator.remainder = refl

pub prefix_level : {kind : TokenKind} {op : Op} → IsPrefix kind op → is_level kind ≡ true
prefix_level IsPrefix.negation = refl
prefix_level IsPrefix.complement = refl
prefix_level IsPrefix.denial = refl

pub truth_level : {kind : TokenKind} {b : Bool} → IsTruth kind b → is_level kind ≡ true
truth_level IsTruth.yes = refl
truth_level IsTruth.no = refl

pub scalar_level : {kind : TokenKind} {s : ScalarType} → IsScalar kind s → is_level kind ≡ true
scalar_level IsScalar.bool = refl
scalar_level IsScalar.int8 = refl
scalar_level IsScalar.int16 = refl
scalar_level IsScalar.int32 = refl
scalar_level IsScalar.int64 = refl
scalar_level IsScalar.nat8 = refl
scalar_level IsScalar.nat16 = refl
scalar_level IsScalar.nat32 = refl
scalar_level IsScalar.nat64 = refl
scalar_level IsScalar.bits8 = refl
scalar_level IsScalar.bits16 = refl
scalar_level IsScalar.bits32 = refl
scalar_level IsScalar.bits64 = refl

pub none : {tokens : List Token} {from to : ℕ} → SpellsNone tokens from to → Level tokens from to
none (SpellsNone.absent is) = stay is
none (SpellsNone.empty opens closes) = then (token opens refl) (token closes refl)

pub weakly : {tokens : List Token} {weak : Bool} {from to : ℕ} → SpellsWeak tokens weak from to → Level tokens from to
weakly (SpellsWeak.strong off is) = stay is
weakly (SpellsWeak.weak on w) = token w refl

pub mark : {tokens : List Token} {entry : Bool} {from to : ℕ} → SpellsMark tokens entry from to → Level tokens from to
mark (SpellsMark.absent off is) = stay is
mark (SpellsMark.written on at opens n closes) = then (token at refl) (then (token opens refl) (then (token n refl) (token closes refl)))

module _ {text : List ℕ} {tokens : List Token} where
  -- ---- types

  length : {n : RawLength} {from to : ℕ} → SpellsLength text tokens n from to → Level tokens from to
  length (SpellsLength.number t is) = token t refl
  length (SpellsLength.constant n is) = token n.token refl

  pub ty : {t : RawType} {from to : ℕ} → SpellsType text tokens t from to → Level tokens from to
  ty (SpellsType.scalar s is) = token s.token (scalar_level s.is)
  ty (SpellsType.named n is) = token n.token refl
  ty (SpellsType.array opens n closes element is) = then (token opens refl) (then (length n) (then (token closes refl) (ty element)))

  -- ---- expressions

  mutual
    pub expression : {level : ℕ} {e : RawExpr} {from to : ℕ} → SpellsExpr text tokens level e from to → Level tokens from to
    expression (SpellsExpr.two le a op b is) = then (expression a) (then (token op.token (infix_level op.is)) (expression b))
    expression (SpellsExpr.cast le a word s is) = then (expression a) (then (token word refl) (token s.token (scalar_level s.is)))
    expression (SpellsExpr.negative le minus n is) = then (token minus refl) (token n refl)
    expression (SpellsExpr.one le op no_number a is) = then (token op.token (prefix_level op.is)) (expression a)
    expression (SpellsExpr.number n is) = token n refl
    expression (SpellsExpr.truth t is) = token t.token (truth_level t.is)
    expression (SpellsExpr.before word n is) = then (token word refl) (token n.token refl)
    expression (SpellsExpr.read from is) = target from
    expression (SpellsExpr.call n given nothing is) = then (token n.token refl) (then (inputs given) (none nothing))
    expression (SpellsExpr.parentheses opens e closes) = then (token opens refl) (then (expression e) (token closes refl))

    pub target : {t : RawTarget} {from to : ℕ} → SpellsTarget text tokens t from to → Level tokens from to
    target (SpellsTarget.parted n behind is) = then (token n.token refl) (parts behind)

    part : {one : RawPart} {from to : ℕ} → SpellsPart text tokens one from to → Level tokens from to
    part (SpellsPart.field dot n is) = then (token dot refl) (token n.token refl)
    part (SpellsPart.index opens e closes is) = then (token opens refl) (then (expression e) (token closes refl))

    parts : {all : List RawPart} {from to : ℕ} → SpellsParts text tokens all from to → Level tokens from to
    parts (SpellsParts.no_parts nothing is) = stay is
    parts (SpellsParts.more_parts others one is) = then (parts others) (part one)

    pub inputs : {all : List RawExpr} {from to : ℕ} → SpellsInputs text tokens all from to → Level tokens from to
    inputs (SpellsInputs.no_inputs opens closes nothing) = then (token opens refl) (token closes refl)
    inputs (SpellsInputs.some_inputs opens es closes) = then (token opens refl) (then (expressions es) (token closes refl))

    expressions : {all : List RawExpr} {from to : ℕ} → SpellsExprs text tokens all from to → Level tokens from to
    expressions (SpellsExprs.first_expr e is) = expression e
    expressions (SpellsExprs.more_exprs es comma e is) = then (expressions es) (then (token comma refl) (expression e))

  -- ---- parts of statements

  pub typing : {t : RawType} {from to : ℕ} → SpellsTyping text tokens t from to → Level tokens from to
  typing h = then (token h.sign refl) (ty h.ty_at)

  pub maybe_typing : {t : Option RawType} {from to : ℕ} → SpellsMaybeTyping text tokens t from to → Level tokens from to
  maybe_typing (SpellsMaybeTyping.absent nothing is) = stay is
  maybe_typing (SpellsMaybeTyping.written t is) = typing t

  pub value : {e : RawExpr} {from to : ℕ} → SpellsValue text tokens e from to → Level tokens from to
  value h = then (token h.sign refl) (expression h.expr)

  pub initial : {e : Option RawExpr} {from to : ℕ} → SpellsInitial text tokens e from to → Level tokens from to
  initial (SpellsInitial.absent nothing is) = stay is
  initial (SpellsInitial.given e is) = value e

  pub constant : {one : RawConstant} {from to : ℕ} → SpellsConstant text tokens one from to → Level tokens from to
  constant h = then (token h.word refl) (then (token h.name.token refl) (then (maybe_typing h.typing) (value h.value)))

  fields : {all : List Name} {from to : ℕ} → SpellsFields text tokens all from to → Level tokens from to
  fields (SpellsFields.none nothing is) = stay is
  fields (SpellsFields.more others dot n is) = then (fields others) (then (token dot refl) (token n.token refl))

  path : {one : RawPath} {from to : ℕ} → SpellsPath text tokens one from to → Level tokens from to
  path h = then (token h.root.token refl) (fields h.fields)

  paths : {all : List RawPath} {from to : ℕ} → SpellsPaths text tokens all from to → Level tokens from to
  paths (SpellsPaths.first one is) = path one
  paths (SpellsPaths.more others comma one is) = then (paths others) (then (token comma refl) (path one))

  pub outputs : {all : List RawPath} {from to : ℕ} → SpellsOutputs text tokens all from to → Level tokens from to
  outputs (SpellsOutputs.absent nothing is) = stay is
  outputs (SpellsOutputs.none opens closes nothing) = then (token opens refl) (token closes refl)
  outputs (SpellsOutputs.some opens all closes) = then (token opens refl) (then (paths all) (token closes refl))

  pub receiver : {one : Option RawPath} {from to : ℕ} → SpellsReceiver text tokens one from to → Level tokens from to
  receiver (SpellsReceiver.absent nothing is) = stay is
  receiver (SpellsReceiver.given one assign is) = then (path one) (token assign refl)

  -- ---- parts of items

  field : {one : RawField} {from to : ℕ} → SpellsField text tokens one from to → Level tokens from to
  field h = then (token h.word refl) (then (token h.name.token refl) (typing h.ty))

  pub field_list : {all : List RawField} {from to : ℕ} → SpellsFieldList text tokens all from to → Level tokens from to
  field_list (SpellsFieldList.first one is) = field one
  field_list (SpellsFieldList.more others one is) = then (field_list others) (field one)

  pub structure : {def : RawStruct} {from to : ℕ} → SpellsStruct text tokens def from to → Level tokens from to
  structure h = let inner = then (token h.name.token refl) (field_list h.fields) in record {
    moves = omega (arith, h.word.next, inner.moves, h.end.next);
    same = omega (arith, opens h.word refl, inner.same, closes h.end);
  }

  param : {one : RawParam} {from to : ℕ} → SpellsParam text tokens one from to → Level tokens from to
  param h = then (token h.name.token refl) (typing h.ty)

  param_list : {all : List RawParam} {from to : ℕ} → SpellsParamList text tokens all from to → Level tokens from to
  param_list (SpellsParamList.first one is) = param one
  param_list (SpellsParamList.more others comma one is) = then (param_list others) (then (token comma refl) (param one))

  pub params : {all : List RawParam} {from to : ℕ} → SpellsParams text tokens all from to → Level tokens from to
  params (SpellsParams.none opens closes nothing) = then (token opens refl) (token closes refl)
  params (SpellsParams.some opens all closes) = then (token opens refl) (then (param_list all) (token closes refl))

  pub output_params : {all : List RawParam} {from to : ℕ} → SpellsOutputParams text tokens all from to → Level tokens from to
  output_params (SpellsOutputParams.absent nothing is) = stay is
  output_params (SpellsOutputParams.written all) = params all

  pub result : {t : Option RawType} {from to : ℕ} → SpellsResult text tokens t from to → Level tokens from to
  result (SpellsResult.absent nothing is) = stay is
  result (SpellsResult.written w t is) = then (token w refl) (ty t)
