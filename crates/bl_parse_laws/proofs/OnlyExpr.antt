-- An expression is read in one way.
use Rattle.std.proofs.Common.{◌≡◌, ℕ, ◌≤◌, Bool, true, false, cond, List, [], ◌∷◌, refl, ap, sym, ◌∙◌, subst, arith}
use Rattle.std.specs.Prelude.{nat_eq}
use Rattle.bl_tree.specs.declared.scalar.Op.{Op}
use Rattle.bl_tree.specs.declared.token.Token.{Token}
use Rattle.bl_tree.specs.declared.token.TokenKind.{TokenKind}
use Rattle.bl_tree.specs.declared.token.TokenKind.TheVariants.{Number, Word, Sign}
use Rattle.bl_tree.specs.declared.token.Keyword.TheVariants as keyword
use Rattle.bl_tree.specs.Keywords.{same_word}
use Rattle.bl_lex.specs.declared.sign.TheConstants.{OPEN_PAREN, CLOSE_PAREN, OPEN_BRACKET, CLOSE_BRACKET, COMMA, DOT, MINUS, TILDE}
use Rattle.bl_parse_syntax.specs.declared.grammar.Class.{Class}
use Rattle.bl_parse_syntax.specs.declared.grammar.Class.TheVariants.{AnyName, AnyNumber, Keyword, Mark}
use Rattle.bl_parse_syntax.specs.Grammar.{class_of, expression_starts}
use Rattle.bl_parse_syntax.specs.Follow.{after_name, after_expression}
use Rattle.bl_parse_syntax.proofs.Checks.{are_apart, are_within}
use Rattle.bl_parse_tree.specs.declared.expr.RawExpr.{RawExpr}
use Rattle.bl_parse_tree.specs.declared.expr.RawExprKind.{RawExprKind}
use Rattle.bl_parse_tree.specs.declared.expr.RawExprKind as kind
use Rattle.bl_parse_tree.specs.declared.expr.RawPart.{RawPart}
use Rattle.bl_parse_tree.specs.declared.expr.RawPart as step
use Rattle.bl_parse_tree.specs.declared.expr.RawTarget.{RawTarget}
use Rattle.bl_parse_tree.specs.declared.name.Name.{Name}
use Rattle.bl_parse.specs.At.{kind_at, span, Takes, SpellsName}
use Rattle.bl_parse.specs.Operators.{IsPrefix, SpellsPrefix}
use Rattle.bl_parse.specs.Expressions.{expr, target, is_number, IsTruth, SpellsTruth, SpellsNone, SpellsExpr, SpellsTarget, SpellsPart, SpellsParts}
use Rattle.bl_parse.specs.Expressions.{SpellsInputs, SpellsExprs}
use Rattle.bl_parse.specs.inner.Reading.{NoneNext}
use Rattle.bl_parse_laws.proofs.Levels.{room_left}
use Rattle.bl_parse_laws.proofs.Only.{One, Elem, Row, Lined, Linked, Begin, Begun, meets, meets_free, one_name, begun, begun_within, begun_stops, same_kind}
use Rattle.bl_parse_laws.proofs.Only.{next_same, clash, token_none, among_none, stops, fewer, add_row, line_one, line_more, rows_same, lines_same}
use Rattle.bl_parse_laws.proofs.Only.{follows_plain, linked, linked_begin}
use Rattle.bl_parse_laws.proofs.Chains.{OneExpr, Closed, two_closed, cast_closed, unary_closed}

-- two tokens that can't be one
pub differ : {P : Type 0} {tokens : List Token} {k j : ℕ} (a b : List Class) → Begun a tokens k → k ≡ j → Begun b tokens j →
    are_apart a b ≡ true → P
differ {tokens = tokens} a b h e g off = among_none (subst (λ n. Begun b tokens n) (sym e) g) (begun_stops a b off h)

-- ---- what an expression begins with

abbrev prefixes : List Class
prefixes = Mark MINUS ∷ Mark TILDE ∷ Keyword keyword.Not ∷ []

pub begun_in : {tokens : List Token} {kind : TokenKind} {k m : ℕ} (all : List Class) → Takes tokens kind k m →
    are_within (class_of kind ∷ []) all ≡ true → Begun all tokens k
begun_in {kind = kind} all t within = begun_within (class_of kind ∷ []) all within (begun t)

prefix_within : {kind : TokenKind} {op : Op} → IsPrefix kind op → are_within (class_of kind ∷ []) prefixes ≡ true
prefix_within IsPrefix.negation = refl
prefix_within IsPrefix.complement = refl
prefix_within IsPrefix.denial = refl

truth_within : {kind : TokenKind} {b : Bool} → IsTruth kind b → are_within (class_of kind ∷ []) (Keyword keyword.True ∷ Keyword keyword.False ∷ []) ≡ true
truth_within IsTruth.yes = refl
truth_within IsTruth.no = refl

begun_prefix : {tokens : List Token} {op : Op} {k m : ℕ} → SpellsPrefix tokens op k m → Begun prefixes tokens k
begun_prefix h = begun_in prefixes h.token (prefix_within h.is)

begun_truth : {tokens : List Token} {b : Bool} {k m : ℕ} → SpellsTruth tokens b k m → Begun (Keyword keyword.True ∷ Keyword keyword.False ∷ []) tokens k
begun_truth h = begun_in (Keyword keyword.True ∷ Keyword keyword.False ∷ []) h.token (truth_within h.is)

-- the classes that one operand can begin with
abbrev heads : {text : List ℕ} {tokens : List Token} {level : ℕ} {e : RawExpr} {from to : ℕ} → SpellsExpr text tokens level e from to → List Class
heads (SpellsExpr.two le a op b is) = []
heads (SpellsExpr.cast le a t s is) = []
heads (SpellsExpr.negative le minus n is) = Mark MINUS ∷ []
heads (SpellsExpr.one le op none a is) = prefixes
heads (SpellsExpr.number n is) = AnyNumber ∷ []
heads (SpellsExpr.truth t is) = Keyword keyword.True ∷ Keyword keyword.False ∷ []
heads (SpellsExpr.before word n is) = Keyword keyword.Prev ∷ []
heads (SpellsExpr.read place is) = AnyName ∷ []
heads (SpellsExpr.call n inputs none is) = AnyName ∷ []
heads (SpellsExpr.parentheses opens e closes) = Mark OPEN_PAREN ∷ []

pub begun_target : {text : List ℕ} {tokens : List Token} {place : RawTarget} {from to : ℕ} →
    SpellsTarget text tokens place from to → Begun (AnyName ∷ []) tokens from
begun_target (SpellsTarget.parted n parts is) = begun n.token

begun_heads : {text : List ℕ} {tokens : List Token} {level : ℕ} {e : RawExpr} {from to : ℕ}
    (q : SpellsExpr text tokens level e from to) → 10 ≤ level → Begun (heads q) tokens from
begun_heads (SpellsExpr.two le a op b is) ten = let r = (room_left op.is).1 in absurd (omega (arith, r, le, ten))
begun_heads (SpellsExpr.cast le a t s is) ten = absurd (omega (arith, le, ten))
begun_heads (SpellsExpr.negative le minus n is) ten = begun minus
begun_heads (SpellsExpr.one le op none a is) ten = begun_prefix op
begun_heads (SpellsExpr.number n is) ten = begun n
begun_heads (SpellsExpr.truth t is) ten = begun_truth t
begun_heads (SpellsExpr.before word n is) ten = begun word
begun_heads (SpellsExpr.read place is) ten = begun_target place
begun_heads (SpellsExpr.call n inputs none is) ten = begun n.token
begun_heads (SpellsExpr.parentheses opens e closes) ten = begun opens

pub begun_expr : {text : List ℕ} {tokens : List Token} {level : ℕ} {e : RawExpr} {from to : ℕ} →
    SpellsExpr text tokens level e from to → Begun expression_starts tokens from
begun_expr (SpellsExpr.two le a op b is) = begun_expr a
begun_expr (SpellsExpr.cast le a t s is) = begun_expr a
begun_expr (SpellsExpr.negative le minus n is) = begun_in expression_starts minus refl
begun_expr (SpellsExpr.one le op none a is) = begun_within prefixes expression_starts refl (begun_prefix op)
begun_expr (SpellsExpr.number n is) = begun_in expression_starts n refl
begun_expr (SpellsExpr.truth t is) = begun_within (Keyword keyword.True ∷ Keyword keyword.False ∷ []) expression_starts refl (begun_truth t)
begun_expr (SpellsExpr.before word n is) = begun_in expression_starts word refl
begun_expr (SpellsExpr.read place is) = begun_within (AnyName ∷ []) expression_starts refl (begun_target place)
begun_expr (SpellsExpr.call n inputs none is) = begun_in expression_starts n.token refl
begun_expr (SpellsExpr.parentheses opens e closes) = begun_in expression_starts opens refl

begun_exprs : {text : List ℕ} {tokens : List Token} {es : List RawExpr} {from to : ℕ} → SpellsExprs text tokens es from to →
    Begun expression_starts tokens from
begun_exprs (SpellsExprs.first_expr e is) = begun_expr e
begun_exprs (SpellsExprs.more_exprs es comma e is) = begun_exprs es

-- ---- lists of parts and of inputs

abbrev pub parting : List Class
parting = Mark DOT ∷ Mark OPEN_BRACKET ∷ []

begun_part : {text : List ℕ} {tokens : List Token} → Begin (SpellsPart text tokens) parting tokens
begun_part y a b (SpellsPart.field dot n is) = begun_in parting dot refl
begun_part y a b (SpellsPart.index opens e closes is) = begun_in parting opens refl

row_of_parts : {text : List ℕ} {tokens : List Token} {parts : List RawPart} {from to : ℕ} → SpellsParts text tokens parts from to →
    Row (SpellsPart text tokens) parts from to
row_of_parts (SpellsParts.no_parts none is) = Row.over none is
row_of_parts (SpellsParts.more_parts parts part is) = add_row (row_of_parts parts) part is

abbrev Link : List ℕ → List Token → RawExpr → ℕ → ℕ → Type 0
Link text tokens = Linked (Sign COMMA) tokens (SpellsExpr text tokens 0)

link : {text : List ℕ} {tokens : List Token} {e : RawExpr} {a b c : ℕ} → Takes tokens (Sign COMMA) a b →
    SpellsExpr text tokens 0 e b c → Link text tokens e a c
link t e = record { m = _; by = t; elem = e }

line_of_exprs : {text : List ℕ} {tokens : List Token} {es : List RawExpr} {from to : ℕ} → SpellsExprs text tokens es from to →
    Lined (SpellsExpr text tokens 0) (Link text tokens) es from to
line_of_exprs (SpellsExprs.first_expr e is) = line_one e is
line_of_exprs (SpellsExprs.more_exprs es comma e is) = line_more (line_of_exprs es) (link comma e) is

-- what is known of a list of expressions
abbrev OneLine : List ℕ → List Token → List RawExpr → ℕ → ℕ → Type 0
OneLine text tokens es from to = Lined (OneExpr text tokens 0) (Elem (Link text tokens) (Mark COMMA ∷ []) after_expression tokens) es from to

-- ---- operands

placed : (tokens : List Token) (from : ℕ) {to end : ℕ} {a b : RawExprKind} {e f : RawExpr} → e ≡ expr (span tokens from to) a →
    f ≡ expr (span tokens from end) b → a ≡ b → to ≡ end → e ≡ f
placed tokens from {to} {end} {a} {b} is other same at =
    is ∙ (ap (λ k. expr (span tokens from k) a) at ∙ (ap (λ x. expr (span tokens from end) x) same ∙ sym other))

no_minus : {P : Type 0} {tokens : List Token} {op : Op} {n : ℕ} {from k m j : ℕ} → Takes tokens (Sign MINUS) from k →
    Takes tokens (Number n) k m → SpellsPrefix tokens op from j → (op ≡ Op.Minus → is_number (kind_at tokens j) ≡ false) → P
no_minus {P} {tokens} {n = n} {from = from} {k = k} {j = j} minus number h none = by_prefix h.kind h.token h.is none
  where
    no_truth : true ≡ false → ⊥
    no_truth e = cc

    by_prefix : {op : Op} (kind : TokenKind) → Takes tokens kind from j → IsPrefix kind op →
        (op ≡ Op.Minus → is_number (kind_at tokens j) ≡ false) → P
    by_prefix kind t IsPrefix.negation none = absurd (no_truth
        (sym (ap (λ i. is_number (kind_at tokens i)) (next_same refl t minus) ∙ ap is_number number.stands) ∙ none refl))
    by_prefix kind t IsPrefix.complement none = clash t refl minus refl
    by_prefix kind t IsPrefix.denial none = clash t refl minus refl

prefix_of : TokenKind → Op
prefix_of (Word w) = Op.Not
prefix_of (Sign s) = cond (nat_eq s MINUS) Op.Minus Op.BitNot
prefix_of _ = Op.BitNot

prefix_as : {kind : TokenKind} {op : Op} → IsPrefix kind op → prefix_of kind ≡ op
unfolding prefix_of
prefix_as IsPrefix.negation = refl
prefix_as IsPrefix.complement = refl
prefix_as IsPrefix.denial = refl

truth_of : TokenKind → Bool
truth_of (Word w) = same_word w keyword.True
truth_of _ = false

truth_as : {kind : TokenKind} {b : Bool} → IsTruth kind b → truth_of kind ≡ b
unfolding truth_of
truth_as IsTruth.yes = refl
truth_as IsTruth.no = refl

number_of : TokenKind → ℕ
number_of (Number n) = n
number_of _ = 0

pub same_number : {tokens : List Token} {n m a b c d : ℕ} → Takes tokens (Number n) a b → a ≡ c → Takes tokens (Number m) c d → n ≡ m
unfolding number_of
same_number t e u = ap number_of (same_kind t e u)

none_same : {tokens : List Token} {a b c d : ℕ} → SpellsNone tokens a b → a ≡ c → SpellsNone tokens c d →
    NoneNext after_name tokens b → NoneNext after_name tokens d → b ≡ d
none_same (SpellsNone.absent is) e (SpellsNone.absent other) s r = is ∙ (e ∙ sym other)
none_same (SpellsNone.absent is) e (SpellsNone.empty opens closes) s r = token_none opens (is ∙ e) refl s
none_same (SpellsNone.empty opens closes) e (SpellsNone.absent other) s r = token_none opens (other ∙ sym e) refl r
none_same (SpellsNone.empty opens closes) e (SpellsNone.empty u v) s r = next_same (next_same e opens u) closes v

-- behind the name of a place no `(` stands
behind_root : {text : List ℕ} {tokens : List Token} {parts : List RawPart} {m to : ℕ} → SpellsParts text tokens parts m to →
    NoneNext after_name tokens to → NoneNext (Mark OPEN_PAREN ∷ []) tokens m
behind_root {text} {tokens} parts s = follows_plain (SpellsPart text tokens) parting
    (Mark OPEN_PAREN ∷ []) after_name tokens begun_part refl refl refl (row_of_parts parts) s

pub no_paren : {P : Type 0} {text : List ℕ} {tokens : List Token} {inputs : List RawExpr} {m k to : ℕ} → m ≡ k →
    NoneNext (Mark OPEN_PAREN ∷ []) tokens m → SpellsInputs text tokens inputs k to → P
no_paren e s (SpellsInputs.no_inputs opens closes none) = token_none opens e refl s
no_paren e s (SpellsInputs.some_inputs opens es closes) = token_none opens e refl s

pub not_call : {P : Type 0} {text : List ℕ} {tokens : List Token} {place : RawTarget} {n : Name} {inputs : List RawExpr}
    {from m k to : ℕ} → SpellsTarget text tokens place from to → NoneNext after_name tokens to
    → SpellsName text tokens n from m → SpellsInputs text tokens inputs m k → P
not_call (SpellsTarget.parted root parts is) s n inputs = no_paren (next_same refl root.token n.token) (behind_root parts s) inputs

-- whatever expression of the tightest level begins there
abbrev Only : List ℕ → List Token → RawExpr → ℕ → ℕ → Type 0
Only text tokens e from to = (f : RawExpr) (end : ℕ) → SpellsExpr text tokens 10 f from end → NoneNext after_name tokens to →
    NoneNext after_name tokens end → (e ≡ f) × (to ≡ end)

ten : 10 ≤ 10
ten = omega arith

module _ {text : List ℕ} {tokens : List Token} {e : RawExpr} where
  only_negative : {n from m to : ℕ} → Takes tokens (Sign MINUS) from m → Takes tokens (Number n) m to →
      e ≡ expr (span tokens from to) (kind.Number true n) → Only text tokens e from to
  only_negative {from = from} minus n is f end (SpellsExpr.negative le other n' also) s r =
      let a = next_same refl minus other in let b = next_same a n n' in (placed tokens from is also (ap (kind.Number true) (same_number n a n')) b, b)
  only_negative {from = from} minus n is f end (SpellsExpr.one le op none a also) s r = no_minus minus n op none
  only_negative {from = from} minus n is f end q s r = differ (Mark MINUS ∷ []) (heads q) (begun minus) refl (begun_heads q ten) refl

  only_one : {op : Op} {a : RawExpr} {from m to : ℕ} → SpellsPrefix tokens op from m →
      (op ≡ Op.Minus → is_number (kind_at tokens m) ≡ false) → OneExpr text tokens 10 a m to
      → e ≡ expr (span tokens from to) (kind.One op a) → Only text tokens e from to
  only_one {from = from} op none a is f end (SpellsExpr.negative le minus n also) s r = no_minus minus n op none
  only_one {from = from} op none a is f end (SpellsExpr.one le other none' b also) s r =
      let x = meets a (next_same refl op.token other.token) b s r in
      let o = sym (prefix_as op.is) ∙ (ap prefix_of (same_kind op.token refl other.token) ∙ prefix_as other.is) in
      (placed tokens from is also (one_same o x.0) x.1, x.1)
    where
      one_same : {o p : Op} {a b : RawExpr} → o ≡ p → a ≡ b → kind.One o a ≡ kind.One p b
      one_same f g = cc
  only_one {from = from} op none a is f end q s r = differ prefixes (heads q) (begun_prefix op) refl (begun_heads q ten) refl

  only_number : {n from to : ℕ} → Takes tokens (Number n) from to → e ≡ expr (span tokens from to) (kind.Number false n) → Only text tokens e from to
  only_number {from = from} n is f end (SpellsExpr.number m also) s r = let b = next_same refl n m in
      (placed tokens from is also (ap (kind.Number false) (same_number n refl m)) b, b)
  only_number {from = from} n is f end q s r = differ (AnyNumber ∷ []) (heads q) (begun n) refl (begun_heads q ten) refl

  only_truth : {b : Bool} {from to : ℕ} → SpellsTruth tokens b from to → e ≡ expr (span tokens from to) (kind.Truth b) → Only text tokens e from to
  only_truth {from = from} t is f end (SpellsExpr.truth u also) s r = let b = next_same refl t.token u.token in
      (placed tokens from is also (ap kind.Truth (sym (truth_as t.is) ∙ (ap truth_of (same_kind t.token refl u.token) ∙ truth_as u.is))) b, b)
  only_truth {from = from} t is f end q s r = differ (Keyword keyword.True ∷ Keyword keyword.False ∷ []) (heads q) (begun_truth t) refl (begun_heads q ten) refl

  only_before : {n : Name} {from m to : ℕ} → Takes tokens (Word keyword.Prev) from m → SpellsName text tokens n m to →
      e ≡ expr (span tokens from to) (kind.Prev n) → Only text tokens e from to
  only_before {from = from} t n is f end (SpellsExpr.before u other also) s r = let x =
      meets_free (one_name n) (next_same refl t u) other in (placed tokens from is also (ap kind.Prev x.0) x.1, x.1)
  only_before {from = from} t n is f end q s r = differ (Keyword keyword.Prev ∷ []) (heads q) (begun t) refl (begun_heads q ten) refl

  only_read : {place : RawTarget} {from to : ℕ} → SpellsTarget text tokens place from to → One (SpellsTarget text tokens) after_name tokens place from to
      → e ≡ expr (span tokens from to) (kind.Read place) → Only text tokens e from to
  only_read {from = from} p one is f end (SpellsExpr.read q also) s r = let x = one.only _ end q s r in (placed tokens from is also (ap kind.Read x.0) x.1, x.1)
  only_read {from = from} p one is f end (SpellsExpr.call n inputs none also) s r = not_call p s n inputs
  only_read {from = from} p one is f end q s r = differ (AnyName ∷ []) (heads q) (begun_target p) refl (begun_heads q ten) refl

  only_call : {n : Name} {inputs : List RawExpr} {from m k to : ℕ} → SpellsName text tokens n from m →
      SpellsInputs text tokens inputs m k → One (SpellsInputs text tokens) [] tokens inputs m k → SpellsNone tokens k to
      → e ≡ expr (span tokens from to) (kind.Call n inputs) → Only text tokens e from to
  only_call {from = from} n ins one none is f end (SpellsExpr.read q also) s r = not_call q r n ins
  only_call {from = from} n ins one none is f end (SpellsExpr.call other inputs none' also) s r =
      let a = meets_free (one_name n) refl other in let b = meets_free one a.1 inputs in let c = none_same none b.1 none' s r in
      (placed tokens from is also (call_same a.0 b.0) c, c)
    where
      call_same : {n m : Name} {xs ys : List RawExpr} → n ≡ m → xs ≡ ys → kind.Call n xs ≡ kind.Call m ys
      call_same f g = cc
  only_call {from = from} n ins one none is f end q s r = differ (AnyName ∷ []) (heads q) (begun n.token) refl (begun_heads q ten) refl

  only_parentheses : {from m k to : ℕ} → Takes tokens (Sign OPEN_PAREN) from m → OneExpr text tokens 0 e m k →
      Takes tokens (Sign CLOSE_PAREN) k to → Only text tokens e from to
  only_parentheses {from = from} opens one closes f end (SpellsExpr.parentheses u q v) s r = let x =
      meets one (next_same refl opens u) q (stops closes refl) (stops v refl) in (x.0, next_same x.1 closes v)
  only_parentheses {from = from} opens one closes f end q s r = differ (Mark OPEN_PAREN ∷ []) (heads q) (begun opens) refl (begun_heads q ten) refl

-- ---- places and inputs

target_same : (tokens : List Token) (from : ℕ) {place other : RawTarget} {root more : Name} {parts qs : List RawPart} {to end : ℕ} →
    place ≡ target (span tokens from to) root parts → other ≡ target (span tokens from end) more qs
    → root ≡ more → parts ≡ qs → to ≡ end → place ≡ other
target_same tokens from {root = root} {more} {parts} {qs} {to} {end} is also f g at = is ∙ (ap (λ k. target (span tokens from k) root parts) at
    ∙ (ap (λ x. target (span tokens from end) x parts) f ∙ (ap (λ x. target (span tokens from end) more x) g ∙ sym also)))

module _ {text : List ℕ} {tokens : List Token} where
  one_part_field : {part : RawPart} {n : Name} {from m to : ℕ} → Takes tokens (Sign DOT) from m → SpellsName text tokens n m to →
      part ≡ step.Field n → Elem (SpellsPart text tokens) parting [] tokens part from to
  one_part_field {part} {from = from} {to = to} dot n is =
      record { begins = begun_in parting dot refl; one = record { only = λ y end q s r. by_part y end q } }
    where
      by_part : (y : RawPart) (end : ℕ) → SpellsPart text tokens y from end → (part ≡ y) × (to ≡ end)
      by_part y end (SpellsPart.field u other also) = let x = meets_free (one_name n) (next_same refl dot u) other in
          (is ∙ (ap step.Field x.0 ∙ sym also), x.1)
      by_part y end (SpellsPart.index u f v also) = clash dot refl u refl

  one_part_index : {part : RawPart} {e : RawExpr} {from m k to : ℕ} → Takes tokens (Sign OPEN_BRACKET) from m →
      OneExpr text tokens 0 e m k → Takes tokens (Sign CLOSE_BRACKET) k to → part ≡ step.Index e
      → Elem (SpellsPart text tokens) parting [] tokens part from to
  one_part_index {part} {from = from} {to = to} opens one closes is =
      record { begins = begun_in parting opens refl; one = record { only = λ y end q s r. by_part y end q } }
    where
      by_part : (y : RawPart) (end : ℕ) → SpellsPart text tokens y from end → (part ≡ y) × (to ≡ end)
      by_part y end (SpellsPart.field u other also) = clash opens refl u refl
      by_part y end (SpellsPart.index u f v also) = let x =
          meets one (next_same refl opens u) f (stops closes refl) (stops v refl) in (is ∙ (ap step.Index x.0 ∙ sym also), next_same x.1 closes v)

  one_target : {place : RawTarget} {root : Name} {parts : List RawPart} {from m to : ℕ} → SpellsName text tokens root from m →
      Row (Elem (SpellsPart text tokens) parting [] tokens) parts m to
      → place ≡ target (span tokens from to) root parts → One (SpellsTarget text tokens) parting tokens place from to
  one_target {place} {from = from} {to = to} n row is = record { only = by_target }
    where
      by_target : (y : RawTarget) (end : ℕ) → SpellsTarget text tokens y from end → NoneNext parting tokens to →
          NoneNext parting tokens end → (place ≡ y) × (to ≡ end)
      by_target y end (SpellsTarget.parted other parts also) s r =
          let a = meets_free (one_name n) refl other in
          let b = rows_same (SpellsPart text tokens) parting [] parting tokens begun_part refl refl refl row _ _ end a.1 (row_of_parts parts) s r in
          (target_same tokens from is also a.0 b.0 b.1, b.1)

  wider_target : {place : RawTarget} {from to : ℕ} → One (SpellsTarget text tokens) parting tokens place from to →
      One (SpellsTarget text tokens) after_name tokens place from to
  wider_target one = record { only = λ y end q s r. one.only y end q (fewer parting after_name refl s) (fewer parting after_name refl r) }

  one_no_inputs : {inputs : List RawExpr} {from m to : ℕ} → Takes tokens (Sign OPEN_PAREN) from m →
      Takes tokens (Sign CLOSE_PAREN) m to → inputs ≡ [] → One (SpellsInputs text tokens) [] tokens inputs from to
  one_no_inputs {inputs} {from} {m} {to} opens closes none = record { only = λ y end q s r. by_inputs y end q }
    where
      by_inputs : (y : List RawExpr) (end : ℕ) → SpellsInputs text tokens y from end → (inputs ≡ y) × (to ≡ end)
      by_inputs y end (SpellsInputs.no_inputs u v nil) = (none ∙ sym nil, next_same (next_same refl opens u) closes v)
      by_inputs y end (SpellsInputs.some_inputs u es v) =
          differ (Mark CLOSE_PAREN ∷ []) expression_starts (begun closes) (next_same refl opens u) (begun_exprs es) refl

  one_some_inputs : {inputs : List RawExpr} {from m k to : ℕ} → Takes tokens (Sign OPEN_PAREN) from m →
      Begun expression_starts tokens m → OneLine text tokens inputs m k → Takes tokens (Sign CLOSE_PAREN) k to
      → One (SpellsInputs text tokens) [] tokens inputs from to
  one_some_inputs {inputs} {from} {m} {k} {to} opens begins line closes = record { only = λ y end q s r. by_inputs y end q }
    where
      by_inputs : (y : List RawExpr) (end : ℕ) → SpellsInputs text tokens y from end → (inputs ≡ y) × (to ≡ end)
      by_inputs y end (SpellsInputs.no_inputs u v nil) = differ (Mark CLOSE_PAREN ∷ []) expression_starts (begun v) (sym (next_same refl opens u)) begins refl
      by_inputs y end (SpellsInputs.some_inputs u es v) =
          let x = lines_same (SpellsExpr text tokens 0) (Link text tokens) (Mark COMMA ∷ []) after_expression
          (Mark COMMA ∷ after_expression) tokens (linked_begin (Sign COMMA) tokens (SpellsExpr text tokens 0)) refl refl refl
          line (next_same refl opens u) (line_of_exprs es) (stops closes refl) (stops v refl) in
          (x.0, next_same x.1 closes v)

-- ---- all

at_zero : {text : List ℕ} {tokens : List Token} {e : RawExpr} {from to : ℕ} → (0 ≤ 10 → Closed text tokens 0 e from to) →
    OneExpr text tokens 0 e from to
at_zero c = (c (omega arith)).one

at_ten : {text : List ℕ} {tokens : List Token} {e : RawExpr} {from to : ℕ} → (10 ≤ 10 → Closed text tokens 10 e from to) →
    OneExpr text tokens 10 e from to
at_ten c = (c (omega arith)).one

module _ {text : List ℕ} {tokens : List Token} where
  mutual
    closed_expr : {level : ℕ} {e : RawExpr} {from to : ℕ} → SpellsExpr text tokens level e from to → level ≤ 10 → Closed text tokens level e from to
    closed_expr (SpellsExpr.two le a op b is) room = two_closed le op (closed_expr a) (closed_expr b) is
    closed_expr (SpellsExpr.cast le a t s is) room = cast_closed le t s (closed_expr a) is
    closed_expr (SpellsExpr.negative le minus n is) room = unary_closed le (record { only = only_negative minus n is })
    closed_expr (SpellsExpr.one le op none a is) room = unary_closed le (record { only = only_one op none (at_ten (closed_expr a)) is })
    closed_expr (SpellsExpr.number n is) room = unary_closed room (record { only = only_number n is })
    closed_expr (SpellsExpr.truth t is) room = unary_closed room (record { only = only_truth t is })
    closed_expr (SpellsExpr.before word n is) room = unary_closed room (record { only = only_before word n is })
    closed_expr (SpellsExpr.read place is) room = unary_closed room (record { only = only_read place (wider_target (only_target place)) is })
    closed_expr (SpellsExpr.call n inputs none is) room = unary_closed room (record { only = only_call n inputs (only_inputs inputs) none is })
    closed_expr (SpellsExpr.parentheses opens e closes) room = unary_closed room (record { only = only_parentheses opens (at_zero (closed_expr e)) closes })

    pub only_target : {place : RawTarget} {from to : ℕ} → SpellsTarget text tokens place from to →
        One (SpellsTarget text tokens) parting tokens place from to
    only_target (SpellsTarget.parted n parts is) = one_target n (only_parts parts) is

    only_part : {part : RawPart} {from to : ℕ} → SpellsPart text tokens part from to → Elem (SpellsPart text tokens) parting [] tokens part from to
    only_part (SpellsPart.field dot n is) = one_part_field dot n is
    only_part (SpellsPart.index opens e closes is) = one_part_index opens (at_zero (closed_expr e)) closes is

    only_parts : {parts : List RawPart} {from to : ℕ} → SpellsParts text tokens parts from to →
        Row (Elem (SpellsPart text tokens) parting [] tokens) parts from to
    only_parts (SpellsParts.no_parts none is) = Row.over none is
    only_parts (SpellsParts.more_parts parts part is) = add_row (only_parts parts) (only_part part) is

    pub only_inputs : {inputs : List RawExpr} {from to : ℕ} → SpellsInputs text tokens inputs from to →
        One (SpellsInputs text tokens) [] tokens inputs from to
    only_inputs (SpellsInputs.no_inputs opens closes is) = one_no_inputs opens closes is
    only_inputs (SpellsInputs.some_inputs opens es closes) = one_some_inputs opens (begun_exprs es) (only_exprs es) closes

    only_exprs : {es : List RawExpr} {from to : ℕ} → SpellsExprs text tokens es from to → OneLine text tokens es from to
    only_exprs (SpellsExprs.first_expr e is) = line_one (at_zero (closed_expr e)) is
    only_exprs (SpellsExprs.more_exprs es comma e is) = line_more (only_exprs es) (linked comma (at_zero (closed_expr e))) is

  pub only_expr : {e : RawExpr} {from to : ℕ} → SpellsExpr text tokens 0 e from to → OneExpr text tokens 0 e from to
  only_expr e = at_zero (closed_expr e)
