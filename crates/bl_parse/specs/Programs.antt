-- How tokens spell a program.
use Rattle.std.specs.Prelude.{◌≡◌, ℕ, List, [], ◌∷◌, ◌++◌, length, Bool, true, false, Option, Some, None}
use Rattle.bl_tree.specs.declared.token.Token.{Token}
use Rattle.bl_tree.specs.declared.token.TokenKind.{TokenKind}
use Rattle.bl_tree.specs.declared.token.TokenKind.TheVariants.{Name, Word, Sign}
use Rattle.bl_tree.specs.declared.tree.UnitKind.{UnitKind}
use Rattle.bl_tree.specs.declared.tree.UnitKind.TheVariants.{Function, Activity}
use Rattle.bl_lex.specs.declared.sign.TheConstants.{OPEN_PAREN, CLOSE_PAREN, OPEN_BRACKET, CLOSE_BRACKET, COMMA, AT}
use Rattle.bl_tree.specs.declared.token.Keyword.TheVariants as keyword
use Rattle.bl_parse_tree.specs.declared.item.RawField.{RawField}
use Rattle.bl_parse_tree.specs.declared.item.RawItem.{RawItem}
use Rattle.bl_parse_tree.specs.declared.item.RawParam.{RawParam}
use Rattle.bl_parse_tree.specs.declared.item.RawStruct.{RawStruct}
use Rattle.bl_parse_tree.specs.declared.item.RawUnit.{RawUnit}
use Rattle.bl_parse_tree.specs.declared.raw.Raw.{Raw}
use Rattle.bl_parse_tree.specs.declared.stmt.RawConstant.{RawConstant}
use Rattle.bl_parse_tree.specs.declared.types.RawType.{RawType}
use Rattle.bl_parse.specs.At.{SpellsName, Takes}
use Rattle.bl_parse.specs.Statements.{SpellsBlock, SpellsConstant, SpellsTyping}
use Rattle.bl_parse.specs.Types.{SpellsType}

-- ---- structs

-- `var`, a name, `:` and a type
pub record SpellsField (text : List ℕ) (tokens : List Token) (field : RawField) (from to : ℕ) : Type 0 where
  pub m : ℕ
  pub n : ℕ
  pub word : Takes tokens (Word keyword.Var) from m
  pub name : SpellsName text tokens field.name m n
  pub ty : SpellsTyping text tokens field.ty n to

-- one or more fields
pub data SpellsFieldList (text : List ℕ) (tokens : List Token) : List RawField → ℕ → ℕ → Type 0 where
  first : {fields : List RawField} {field : RawField} {from to : ℕ} → SpellsField text tokens field from to → fields ≡ field ∷ []
      → SpellsFieldList text tokens fields from to
  more : {all fields : List RawField} {field : RawField} {from m to : ℕ} → SpellsFieldList text tokens fields from m → SpellsField text tokens field m to
      → all ≡ fields ++ field ∷ [] → SpellsFieldList text tokens all from to

-- `struct`, a name, fields and `end`
pub record SpellsStruct (text : List ℕ) (tokens : List Token) (def : RawStruct) (from to : ℕ) : Type 0 where
  pub m : ℕ
  pub n : ℕ
  pub o : ℕ
  pub word : Takes tokens (Word keyword.Struct) from m
  pub name : SpellsName text tokens def.name m n
  pub fields : SpellsFieldList text tokens def.fields n o
  pub end : Takes tokens (Word keyword.End) o to

-- ---- units

-- nothing, or `@ [ name ]`, whose name is `EntryPoint` where rule Profile refuses nothing
pub data SpellsMark (tokens : List Token) : Bool → ℕ → ℕ → Type 0 where
  absent : {entry : Bool} {from to : ℕ} → entry ≡ false → to ≡ from → SpellsMark tokens entry from to
  written : {entry : Bool} {from m n o to : ℕ} → entry ≡ true → Takes tokens (Sign AT) from m → Takes tokens (Sign OPEN_BRACKET) m n
      → Takes tokens Name n o → Takes tokens (Sign CLOSE_BRACKET) o to → SpellsMark tokens entry from to

-- the words of the two kinds of units
pub data IsUnit : TokenKind → UnitKind → Type 0 where
  function : IsUnit (Word keyword.Function) Function
  activity : IsUnit (Word keyword.Activity) Activity

-- the token is `function` or `activity`
pub record SpellsUnitKind (tokens : List Token) (kind : UnitKind) (from to : ℕ) : Type 0 where
  pub word : TokenKind
  pub token : Takes tokens word from to
  pub is : IsUnit word kind

-- a name, `:` and a type
pub record SpellsParam (text : List ℕ) (tokens : List Token) (param : RawParam) (from to : ℕ) : Type 0 where
  pub m : ℕ
  pub name : SpellsName text tokens param.name from m
  pub ty : SpellsTyping text tokens param.ty m to

-- one or more parameters, separated by commas
pub data SpellsParamList (text : List ℕ) (tokens : List Token) : List RawParam → ℕ → ℕ → Type 0 where
  first : {params : List RawParam} {param : RawParam} {from to : ℕ} → SpellsParam text tokens param from to → params ≡ param ∷ []
      → SpellsParamList text tokens params from to
  more : {all params : List RawParam} {param : RawParam} {from m n to : ℕ} → SpellsParamList text tokens params from m
      → Takes tokens (Sign COMMA) m n → SpellsParam text tokens param n to
      → all ≡ params ++ param ∷ [] → SpellsParamList text tokens all from to

-- parameters in parentheses, with commas between them
pub data SpellsParams (text : List ℕ) (tokens : List Token) : List RawParam → ℕ → ℕ → Type 0 where
  none : {params : List RawParam} {from m to : ℕ} → Takes tokens (Sign OPEN_PAREN) from m → Takes tokens (Sign CLOSE_PAREN) m to
      → params ≡ [] → SpellsParams text tokens params from to
  some : {params : List RawParam} {from m n to : ℕ} → Takes tokens (Sign OPEN_PAREN) from m → SpellsParamList text tokens params m n
      → Takes tokens (Sign CLOSE_PAREN) n to → SpellsParams text tokens params from to

-- parameters in parentheses, or nothing, which is no parameter either
pub data SpellsOutputParams (text : List ℕ) (tokens : List Token) : List RawParam → ℕ → ℕ → Type 0 where
  absent : {params : List RawParam} {from to : ℕ} → params ≡ [] → to ≡ from → SpellsOutputParams text tokens params from to
  written : {params : List RawParam} {from to : ℕ} → SpellsParams text tokens params from to → SpellsOutputParams text tokens params from to

-- nothing, or `returns` and a type
pub data SpellsResult (text : List ℕ) (tokens : List Token) : Option RawType → ℕ → ℕ → Type 0 where
  absent : {result : Option RawType} {from to : ℕ} → result ≡ None → to ≡ from → SpellsResult text tokens result from to
  written : {result : Option RawType} {ty : RawType} {from m to : ℕ} → Takes tokens (Word keyword.Returns) from m → SpellsType text tokens ty m to
      → result ≡ Some ty → SpellsResult text tokens result from to

-- maybe a mark, `function` or `activity`, a name, inputs, maybe outputs, maybe a result, a block and `end`
pub record SpellsUnit (text : List ℕ) (tokens : List Token) (unit : RawUnit) (from to : ℕ) : Type 0 where
  pub m : ℕ
  pub n : ℕ
  pub o : ℕ
  pub p : ℕ
  pub q : ℕ
  pub r : ℕ
  pub s : ℕ
  pub mark : SpellsMark tokens unit.entry from m
  pub kind : SpellsUnitKind tokens unit.kind m n
  pub name : SpellsName text tokens unit.name n o
  pub inputs : SpellsParams text tokens unit.inputs o p
  pub outputs : SpellsOutputParams text tokens unit.outputs p q
  pub result : SpellsResult text tokens unit.result q r
  pub body : SpellsBlock text tokens unit.body r s
  pub end : Takes tokens (Word keyword.End) s to

-- ---- the whole

-- what the file declares: a struct, a constant or a unit
pub data SpellsItem (text : List ℕ) (tokens : List Token) : RawItem → ℕ → ℕ → Type 0 where
  structure : {item : RawItem} {def : RawStruct} {from to : ℕ} → SpellsStruct text tokens def from to → item ≡ RawItem.Struct def →
      SpellsItem text tokens item from to
  constant : {item : RawItem} {constant : RawConstant} {from to : ℕ} → SpellsConstant text tokens constant from to → item ≡ RawItem.Constant constant
      → SpellsItem text tokens item from to
  unit : {item : RawItem} {unit : RawUnit} {from to : ℕ} → SpellsUnit text tokens unit from to → item ≡ RawItem.Unit unit →
      SpellsItem text tokens item from to

-- items, as many as there are
pub data SpellsItems (text : List ℕ) (tokens : List Token) : List RawItem → ℕ → ℕ → Type 0 where
  none : {items : List RawItem} {from to : ℕ} → items ≡ [] → to ≡ from → SpellsItems text tokens items from to
  more : {all items : List RawItem} {item : RawItem} {from m to : ℕ} → SpellsItems text tokens items from m → SpellsItem text tokens item m to
      → all ≡ items ++ item ∷ [] → SpellsItems text tokens all from to

-- the tokens of a text spell the whole tree, which knows how many bytes the text has
pub record Spells (text : List ℕ) (tokens : List Token) (raw : Raw) : Type 0 where
  pub items : SpellsItems text tokens raw.items 0 (length tokens)
  pub bytes : raw.bytes ≡ length text
