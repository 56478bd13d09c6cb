-- Chains of operators are read in one way.
use Rattle.std.proofs.Common.{◌≡◌, ℕ, zero, suc, ◌+◌, ◌-◌, ◌≤◌, Bool, true, false, cond, List, refl, ap, sym, ◌∙◌, subst, arith}
use Rattle.std.specs.Prelude.{nat_eq, nat_lt}
use Rattle.std.proofs.lemmas.Bool.{ltb-true, ltb-false}
use Rattle.bl_tree.specs.declared.scalar.Op.{Op}
use Rattle.bl_tree.specs.declared.scalar.Scalar.{Scalar as ScalarType}
use Rattle.bl_tree.specs.declared.scalar.Scalar.TheVariants.{Bool as OfBool, Int, Nat, Bits}
use Rattle.bl_tree.specs.declared.scalar.Width.TheVariants.{W8, W16, W32, W64}
use Rattle.bl_tree.specs.declared.token.Token.{Token}
use Rattle.bl_tree.specs.declared.token.TokenKind.{TokenKind}
use Rattle.bl_tree.specs.declared.token.TokenKind.TheVariants.{Word, Sign}
use Rattle.bl_tree.specs.declared.token.Keyword.TheVariants as keyword
use Rattle.bl_tree.specs.Keywords.{same_word}
use Rattle.bl_lex.specs.declared.sign.TheConstants.{EQUAL, NOT_EQUAL, LESS, LESS_OR_EQUAL, GREATER, GREATER_OR_EQUAL, BAR, CARET, AMPERSAND, SHIFT_LEFT}
use Rattle.bl_lex.specs.declared.sign.TheConstants.{SHIFT_RIGHT, PLUS, MINUS, STAR, SLASH}
use Rattle.bl_parse_syntax.specs.declared.grammar.Class.{Class}
use Rattle.bl_parse_syntax.specs.declared.grammar.Class.TheVariants.{Keyword}
use Rattle.bl_parse_syntax.specs.Grammar.{class_of, same_class}
use Rattle.bl_parse_syntax.specs.Tables.{has}
use Rattle.bl_parse_syntax.specs.Follow.{after_expression, after_both, after_comparison, after_bits, after_xor, after_and, after_shift, after_sum}
use Rattle.bl_parse_syntax.specs.Follow.{after_product, after_cast, after_unary}
use Rattle.bl_parse_tree.specs.declared.expr.RawExpr.{RawExpr}
use Rattle.bl_parse_tree.specs.declared.expr.RawExprKind as kind
use Rattle.bl_parse.specs.At.{span, Takes}
use Rattle.bl_parse.specs.Expressions.{expr, SpellsExpr}
use Rattle.bl_parse.specs.Operators.{IsOperator, IsScalar, SpellsInfix, SpellsScalar, left_level}
use Rattle.bl_parse.specs.inner.Reading.{NoneNext}
use Rattle.bl_parse_laws.proofs.Levels.{room_left}
use Rattle.bl_parse_laws.proofs.Only.{One, meets, same_kind, next_same, clash, token_none, stops, fewer}

-- the classes that go on with an expression of the level
abbrev pub after : ℕ → List Class
after zero = after_expression
after (suc zero) = after_both
after (suc (suc zero)) = after_comparison
after (suc (suc (suc zero))) = after_bits
after (suc (suc (suc (suc zero)))) = after_xor
after (suc (suc (suc (suc (suc zero))))) = after_and
after (suc (suc (suc (suc (suc (suc zero)))))) = after_shift
after (suc (suc (suc (suc (suc (suc (suc zero))))))) = after_sum
after (suc (suc (suc (suc (suc (suc (suc (suc zero)))))))) = after_product
after (suc (suc (suc (suc (suc (suc (suc (suc (suc zero))))))))) = after_cast
after _ = after_unary

pub looser_stop : (level : ℕ) {tokens : List Token} {k : ℕ} → level ≤ 9 → NoneNext (after level) tokens k → NoneNext (after (level + 1)) tokens k
looser_stop zero le s = fewer after_both after_expression refl s
looser_stop (suc zero) le s = fewer after_comparison after_both refl s
looser_stop (suc (suc zero)) le s = fewer after_bits after_comparison refl s
looser_stop (suc (suc (suc zero))) le s = fewer after_xor after_bits refl s
looser_stop (suc (suc (suc (suc zero)))) le s = fewer after_and after_xor refl s
looser_stop (suc (suc (suc (suc (suc zero))))) le s = fewer after_shift after_and refl s
looser_stop (suc (suc (suc (suc (suc (suc zero)))))) le s = fewer after_sum after_shift refl s
looser_stop (suc (suc (suc (suc (suc (suc (suc zero))))))) le s = fewer after_product after_sum refl s
looser_stop (suc (suc (suc (suc (suc (suc (suc (suc zero)))))))) le s = fewer after_cast after_product refl s
looser_stop (suc (suc (suc (suc (suc (suc (suc (suc (suc zero))))))))) le s = fewer after_unary after_cast refl s
looser_stop (suc (suc (suc (suc (suc (suc (suc (suc (suc (suc n)))))))))) le s = absurd (omega (arith, le))

op_stop : {tokens : List Token} {kind : TokenKind} {level m n : ℕ} {op : Op} → IsOperator kind level op → Takes tokens kind m n →
    NoneNext (after (level + 1)) tokens m
op_stop IsOperator.either t = stops t refl
op_stop IsOperator.both t = stops t refl
op_stop IsOperator.equal t = stops t refl
op_stop IsOperator.differs t = stops t refl
op_stop IsOperator.less t = stops t refl
op_stop IsOperator.at_most t = stops t refl
op_stop IsOperator.greater t = stops t refl
op_stop IsOperator.at_least t = stops t refl
op_stop IsOperator.bits_or t = stops t refl
op_stop IsOperator.bits_xor t = stops t refl
op_stop IsOperator.bits_and t = stops t refl
op_stop IsOperator.shift_left t = stops t refl
op_stop IsOperator.shift_right t = stops t refl
op_stop IsOperator.plus t = stops t refl
op_stop IsOperator.minus t = stops t refl
op_stop IsOperator.times t = stops t refl
op_stop IsOperator.divided t = stops t refl
op_stop IsOperator.remainder t = stops t refl

op_clash : {P : Type 0} {tokens : List Token} {kind : TokenKind} {level k m n : ℕ} {op : Op} → IsOperator kind level op →
    Takes tokens kind m n → k ≡ m → NoneNext (after level) tokens k → P
op_clash IsOperator.either t e s = token_none t e refl s
op_clash IsOperator.both t e s = token_none t e refl s
op_clash IsOperator.equal t e s = token_none t e refl s
op_clash IsOperator.differs t e s = token_none t e refl s
op_clash IsOperator.less t e s = token_none t e refl s
op_clash IsOperator.at_most t e s = token_none t e refl s
op_clash IsOperator.greater t e s = token_none t e refl s
op_clash IsOperator.at_least t e s = token_none t e refl s
op_clash IsOperator.bits_or t e s = token_none t e refl s
op_clash IsOperator.bits_xor t e s = token_none t e refl s
op_clash IsOperator.bits_and t e s = token_none t e refl s
op_clash IsOperator.shift_left t e s = token_none t e refl s
op_clash IsOperator.shift_right t e s = token_none t e refl s
op_clash IsOperator.plus t e s = token_none t e refl s
op_clash IsOperator.minus t e s = token_none t e refl s
op_clash IsOperator.times t e s = token_none t e refl s
op_clash IsOperator.divided t e s = token_none t e refl s
op_clash IsOperator.remainder t e s = token_none t e refl s

not_cast : {kind : TokenKind} {level : ℕ} {op : Op} → IsOperator kind level op → same_class (class_of kind) (Keyword keyword.As) ≡ false
not_cast IsOperator.either = refl
not_cast IsOperator.both = refl
not_cast IsOperator.equal = refl
not_cast IsOperator.differs = refl
not_cast IsOperator.less = refl
not_cast IsOperator.at_most = refl
not_cast IsOperator.greater = refl
not_cast IsOperator.at_least = refl
not_cast IsOperator.bits_or = refl
not_cast IsOperator.bits_xor = refl
not_cast IsOperator.bits_and = refl
not_cast IsOperator.shift_left = refl
not_cast IsOperator.shift_right = refl
not_cast IsOperator.plus = refl
not_cast IsOperator.minus = refl
not_cast IsOperator.times = refl
not_cast IsOperator.divided = refl
not_cast IsOperator.remainder = refl

left_fits : {kind : TokenKind} {level : ℕ} {op : Op} → IsOperator kind level op → level ≤ left_level level
left_fits IsOperator.either = omega arith
left_fits IsOperator.both = omega arith
left_fits IsOperator.equal = omega arith
left_fits IsOperator.differs = omega arith
left_fits IsOperator.less = omega arith
left_fits IsOperator.at_most = omega arith
left_fits IsOperator.greater = omega arith
left_fits IsOperator.at_least = omega arith
left_fits IsOperator.bits_or = omega arith
left_fits IsOperator.bits_xor = omega arith
left_fits IsOperator.bits_and = omega arith
left_fits IsOperator.shift_left = omega arith
left_fits IsOperator.shift_right = omega arith
left_fits IsOperator.plus = omega arith
left_fits IsOperator.minus = omega arith
left_fits IsOperator.times = omega arith
left_fits IsOperator.divided = omega arith
left_fits IsOperator.remainder = omega arith

op_of : TokenKind → Op
op_of (Word w) = cond (same_word w keyword.Or) Op.Or Op.And
op_of (Sign s) = cond (nat_eq s EQUAL) Op.Eq (cond (nat_eq s NOT_EQUAL) Op.Ne
    (cond (nat_eq s LESS) Op.Lt (cond (nat_eq s LESS_OR_EQUAL) Op.Le
    (cond (nat_eq s GREATER) Op.Gt (cond (nat_eq s GREATER_OR_EQUAL) Op.Ge
    (cond (nat_eq s BAR) Op.BitOr (cond (nat_eq s CARET) Op.BitXor
    (cond (nat_eq s AMPERSAND) Op.BitAnd (cond (nat_eq s SHIFT_LEFT) Op.Shl
    (cond (nat_eq s SHIFT_RIGHT) Op.Shr (cond (nat_eq s PLUS) Op.Add
    (cond (nat_eq s MINUS) Op.Sub (cond (nat_eq s STAR) Op.Mul (cond (nat_eq s SLASH) Op.Div (Op.Rem)))))))))))))))
op_of _ = Op.Rem

same_as : {kind : TokenKind} {level : ℕ} {op : Op} → IsOperator kind level op → op_of kind ≡ op
unfolding op_of
same_as IsOperator.either = refl
same_as IsOperator.both = refl
same_as IsOperator.equal = refl
same_as IsOperator.differs = refl
same_as IsOperator.less = refl
same_as IsOperator.at_most = refl
same_as IsOperator.greater = refl
same_as IsOperator.at_least = refl
same_as IsOperator.bits_or = refl
same_as IsOperator.bits_xor = refl
same_as IsOperator.bits_and = refl
same_as IsOperator.shift_left = refl
same_as IsOperator.shift_right = refl
same_as IsOperator.plus = refl
same_as IsOperator.minus = refl
same_as IsOperator.times = refl
same_as IsOperator.divided = refl
same_as IsOperator.remainder = refl

scalar_of : TokenKind → ScalarType
scalar_of (Word w) = cond (same_word w keyword.Int8) (Int W8)
    (cond (same_word w keyword.Int16) (Int W16) (cond (same_word w keyword.Int32) (Int W32)
    (cond (same_word w keyword.Int64) (Int W64) (cond (same_word w keyword.Nat8) (Nat W8)
    (cond (same_word w keyword.Nat16) (Nat W16) (cond (same_word w keyword.Nat32) (Nat W32)
    (cond (same_word w keyword.Nat64) (Nat W64) (cond (same_word w keyword.Bits8) (Bits W8)
    (cond (same_word w keyword.Bits16) (Bits W16) (cond (same_word w keyword.Bits32) (Bits W32)
    (cond (same_word w keyword.Bits64) (Bits W64) (OfBool))))))))))))
scalar_of _ = OfBool

scalar_as : {kind : TokenKind} {s : ScalarType} → IsScalar kind s → scalar_of kind ≡ s
unfolding scalar_of
scalar_as IsScalar.bool = refl
scalar_as IsScalar.int8 = refl
scalar_as IsScalar.int16 = refl
scalar_as IsScalar.int32 = refl
scalar_as IsScalar.int64 = refl
scalar_as IsScalar.nat8 = refl
scalar_as IsScalar.nat16 = refl
scalar_as IsScalar.nat32 = refl
scalar_as IsScalar.nat64 = refl
scalar_as IsScalar.bits8 = refl
scalar_as IsScalar.bits16 = refl
scalar_as IsScalar.bits32 = refl
scalar_as IsScalar.bits64 = refl

pub same_scalar : {tokens : List Token} {s r : ScalarType} {a b c d : ℕ} → SpellsScalar tokens s a b → a ≡ c →
    SpellsScalar tokens r c d → (s ≡ r) × (b ≡ d)
same_scalar h e g = (sym (scalar_as h.is) ∙ (ap scalar_of (same_kind h.token e g.token) ∙ scalar_as g.is), next_same e h.token g.token)

-- ---- chains from the left

-- operators of the level with their right operands, from the left operand on
pub data Tail (text : List ℕ) (tokens : List Token) (level start : ℕ) : RawExpr → ℕ → RawExpr → ℕ → Type 0 where
  ended : {acc e : RawExpr} {from to : ℕ} → acc ≡ e → from ≡ to → Tail text tokens level start acc from e to
  operated : {acc e b all : RawExpr} {op : Op} {from n m to : ℕ} → SpellsInfix tokens level op from n → SpellsExpr text tokens (level + 1) b n m
      → all ≡ expr (span tokens start m) (kind.Two op acc b) → Tail text tokens level start all m e to → Tail text tokens level start acc from e to
  cast : {acc e all : RawExpr} {s : ScalarType} {from n m to : ℕ} → level ≡ 9 → Takes tokens (Word keyword.As) from n → SpellsScalar tokens s n m
      → all ≡ expr (span tokens start m) (kind.Cast s acc) → Tail text tokens level start all m e to → Tail text tokens level start acc from e to

moved : {text : List ℕ} {tokens : List Token} {level start : ℕ} {e w f : RawExpr} {to m end : ℕ} → e ≡ w → to ≡ m →
    Tail text tokens level start w m f end → Tail text tokens level start e to f end
moved {text} {tokens} {level} {start} {e} {w} {f} {to} {m} {end} same at t =
    subst (λ x. Tail text tokens level start x to f end) (sym same) (subst (λ k. Tail text tokens level start w k f end) (sym at) t)

chain : {text : List ℕ} {tokens : List Token} {level start : ℕ} {acc a e : RawExpr} {from m to : ℕ} →
    Tail text tokens level start acc from a m → Tail text tokens level start a m e to → Tail text tokens level start acc from e to
chain (Tail.ended f g) t = moved f g t
chain (Tail.operated op b is r) t = Tail.operated op b is (chain r t)
chain (Tail.cast nine t s is r) u = Tail.cast nine t s is (chain r u)

-- the first operand and the chain
record Heads (text : List ℕ) (tokens : List Token) (level : ℕ) (e : RawExpr) (from to : ℕ) : Type 0 where
  h : RawExpr
  m : ℕ
  head : SpellsExpr text tokens (level + 1) h from m
  tail : Tail text tokens level from h m e to

alone : {text : List ℕ} {tokens : List Token} {level : ℕ} {e : RawExpr} {from to : ℕ} →
    SpellsExpr text tokens (level + 1) e from to → Heads text tokens level e from to
alone h = record { h = _; m = _; head = h; tail = Tail.ended refl refl }

tenth : (level : ℕ) → level ≤ 9 → level + 1 ≤ 10
tenth level le = omega (arith, le)

two_flat : {text : List ℕ} {tokens : List Token} {lower own : ℕ} {e a b : RawExpr} {op : Op} {from m n to : ℕ} (level : ℕ) →
    level ≤ lower → lower ≤ own
    → SpellsExpr text tokens (left_level own) a from m → SpellsInfix tokens own op m n → SpellsExpr text tokens (own + 1) b n to →
    e ≡ expr (span tokens from to) (kind.Two op a b)
    → (level ≤ left_level own → Heads text tokens level a from m) → Heads text tokens level e from to
two_flat {text} {tokens} {lower} {own} {e} {a} {b} {op} {from} {m} {n} {to} level low le left op_at right is deeper = by_less (nat_lt level own) refl
  where
    by_less : (t : Bool) → nat_lt level own ≡ t → Heads text tokens level e from to
    by_less true t = let l = ltb-true level own t in alone (SpellsExpr.two (omega (arith, l)) left op_at right is)
    by_less false t =
        let l = ltb-false level own t in
        let same : own ≡ level = omega (arith, l, low, le) in
        let fit = left_fits op_at.is in
        let d = deeper (omega (arith, fit, low, le)) in
        record {
          h = d.h;
          m = d.m;
          head = d.head;
          tail = chain d.tail (Tail.operated (subst (λ k. SpellsInfix tokens k op m n) same op_at)
              (subst (λ k. SpellsExpr text tokens (k + 1) b n to) same right) is (Tail.ended refl refl));
        }

cast_flat : {text : List ℕ} {tokens : List Token} {e a : RawExpr} {s : ScalarType} {from m n to : ℕ} (level : ℕ) → level ≤ 9
    → SpellsExpr text tokens 9 a from m → Takes tokens (Word keyword.As) m n → SpellsScalar tokens s n to → e ≡ expr (span tokens from to) (kind.Cast s a)
    → (level ≤ 9 → Heads text tokens level a from m) → Heads text tokens level e from to
cast_flat {text} {tokens} {e} {a} {s} {from} {m} {n} {to} level le left t scalar is deeper = by_less (nat_lt level 9) refl
  where
    by_less : (b : Bool) → nat_lt level 9 ≡ b → Heads text tokens level e from to
    by_less true b = let l = ltb-true level 9 b in alone (SpellsExpr.cast (omega (arith, l)) left t scalar is)
    by_less false b =
        let l = ltb-false level 9 b in
        let d = deeper le in
        record { h = d.h; m = d.m; head = d.head; tail = chain d.tail (Tail.cast (omega (arith, l, le)) t scalar is (Tail.ended refl refl)) }

flat : {text : List ℕ} {tokens : List Token} (level : ℕ) {lower : ℕ} {e : RawExpr} {from to : ℕ} →
    SpellsExpr text tokens lower e from to → level ≤ lower → level ≤ 9 → Heads text tokens level e from to
flat level (SpellsExpr.two le a op b is) low nine = two_flat level low le a op b is (λ fit. flat level a fit nine)
flat level (SpellsExpr.cast le a t s is) low nine = cast_flat level nine a t s is (λ fit. flat level a fit nine)
flat level (SpellsExpr.negative le minus n is) low nine = alone (SpellsExpr.negative (tenth level nine) minus n is)
flat level (SpellsExpr.one le op none a is) low nine = alone (SpellsExpr.one (tenth level nine) op none a is)
flat level (SpellsExpr.number n is) low nine = alone (SpellsExpr.number n is)
flat level (SpellsExpr.truth t is) low nine = alone (SpellsExpr.truth t is)
flat level (SpellsExpr.before word n is) low nine = alone (SpellsExpr.before word n is)
flat level (SpellsExpr.read place is) low nine = alone (SpellsExpr.read place is)
flat level (SpellsExpr.call n inputs none is) low nine = alone (SpellsExpr.call n inputs none is)
flat level (SpellsExpr.parentheses opens e closes) low nine = alone (SpellsExpr.parentheses opens e closes)

-- ---- one way

-- of every expression that begins there, it is a beginning from which the same operators go on
record Grows (text : List ℕ) (tokens : List Token) (level : ℕ) (e : RawExpr) (from to : ℕ) : Type 0 where
  goes : NoneNext (after (level + 1)) tokens to → (h : RawExpr) (m : ℕ) (f : RawExpr) (end : ℕ) → SpellsExpr text tokens (level + 1) h from m
      → Tail text tokens level from h m f end → NoneNext (after level) tokens end → Tail text tokens level from e to f end

-- no other expression of the level begins there
abbrev pub OneExpr : List ℕ → List Token → ℕ → RawExpr → ℕ → ℕ → Type 0
OneExpr text tokens level e from to = One (SpellsExpr text tokens level) (after level) tokens e from to

tail_stop : {text : List ℕ} {tokens : List Token} (level : ℕ) {start : ℕ} {h f : RawExpr} {m end : ℕ} → level ≤ 9 →
    Tail text tokens level start h m f end → NoneNext (after level) tokens end
    → NoneNext (after (level + 1)) tokens m
tail_stop {tokens = tokens} level nine (Tail.ended e g) s = looser_stop level nine (subst (λ k. NoneNext (after level) tokens k) (sym g) s)
tail_stop level nine (Tail.operated op b is r) s = op_stop op.is op.token
tail_stop {tokens = tokens} level {m = m} nine (Tail.cast l t sc is r) s = subst (λ k. NoneNext (after (k + 1)) tokens m) (sym l) (stops t refl)

one_down : {text : List ℕ} {tokens : List Token} {e : RawExpr} {from to : ℕ} (level : ℕ) → level ≤ 9 →
    OneExpr text tokens (level + 1) e from to → Grows text tokens level e from to
one_down level nine one = record { goes = λ stop h m f end q t s. let r = one.only h m q stop (tail_stop level nine t s) in moved r.0 r.1 t }

two_same : (tokens : List Token) (start : ℕ) (a : RawExpr) {to m : ℕ} {o p : Op} {b c e w : RawExpr} → o ≡ p → b ≡ c → to ≡ m →
    e ≡ expr (span tokens start to) (kind.Two o a b)
    → w ≡ expr (span tokens start m) (kind.Two p a c) → e ≡ w
two_same tokens start a {to} {m} {o} {p} {b} {c} eo eb et is other = is ∙ (ap (λ k. expr (span tokens start k) (kind.Two o a b)) et
    ∙ (ap (λ x. expr (span tokens start m) (kind.Two x a b)) eo ∙ (ap (λ x. expr (span tokens start m) (kind.Two p a x)) eb ∙ sym other)))

cast_same : (tokens : List Token) (start : ℕ) (a : RawExpr) {to m : ℕ} {s r : ScalarType} {e w : RawExpr} → s ≡ r → to ≡ m →
    e ≡ expr (span tokens start to) (kind.Cast s a)
    → w ≡ expr (span tokens start m) (kind.Cast r a) → e ≡ w
cast_same tokens start a {to} {m} {s} {r} es et is other =
    is ∙ (ap (λ k. expr (span tokens start k) (kind.Cast s a)) et ∙ (ap (λ x. expr (span tokens start m) (kind.Cast x a)) es ∙ sym other))

stepped : {text : List ℕ} {tokens : List Token} {level : ℕ} {start : ℕ} {e a b f : RawExpr} {op : Op} {m n to end : ℕ} →
    SpellsInfix tokens level op m n → OneExpr text tokens (level + 1) b n to
    → e ≡ expr (span tokens start to) (kind.Two op a b) → level ≤ 9 → NoneNext (after (level + 1)) tokens to
    → Tail text tokens level start a m f end → NoneNext (after level) tokens end → Tail text tokens level start e to f end
stepped op one is nine stop (Tail.ended e g) s = op_clash op.is op.token (sym g) s
stepped {tokens = tokens} {level = level} {start = start} {a = a} op one is nine stop (Tail.operated other right also r) s =
    let x = meets one (next_same refl op.token other.token) right stop (tail_stop level nine r s) in
    let o = sym (same_as op.is) ∙ (ap op_of (same_kind op.token refl other.token) ∙ same_as other.is) in
    moved (two_same tokens start a o x.0 x.1 is also) x.1 r
stepped op one is nine stop (Tail.cast l t sc also r) s = clash op.token refl t (not_cast op.is)

cast_stepped : {text : List ℕ} {tokens : List Token} {start : ℕ} {e a f : RawExpr} {s : ScalarType} {m n to end : ℕ} →
    Takes tokens (Word keyword.As) m n → SpellsScalar tokens s n to
    → e ≡ expr (span tokens start to) (kind.Cast s a) → Tail text tokens 9 start a m f end → NoneNext (after 9) tokens end →
    Tail text tokens 9 start e to f end
cast_stepped t sc is (Tail.ended e g) s = token_none t (sym g) refl s
cast_stepped t sc is (Tail.operated op right also r) s = clash op.token refl t (not_cast op.is)
cast_stepped {tokens = tokens} {start = start} {a = a} t sc is (Tail.cast l u other also r) s = let x =
    same_scalar sc (next_same refl t u) other in moved (cast_same tokens start a x.0 x.1 is also) x.1 r

done_at : {text : List ℕ} {tokens : List Token} {level start : ℕ} {e f : RawExpr} {to end : ℕ} →
    Tail text tokens level start e to f end → NoneNext (after level) tokens to → (e ≡ f) × (to ≡ end)
done_at (Tail.ended e g) s = (e, g)
done_at (Tail.operated op b is r) s = op_clash op.is op.token refl s
done_at (Tail.cast l t sc is r) s = token_none t refl (subst (λ k. has (after k) (Keyword keyword.As) ≡ true) (sym l) refl) s

finish : {text : List ℕ} {tokens : List Token} {e : RawExpr} {from to : ℕ} (level : ℕ) → level ≤ 9 →
    Grows text tokens level e from to → OneExpr text tokens level e from to
finish level nine o = record {
  only = λ f end q s r. let d = flat level q (omega arith) nine in
      done_at (o.goes (looser_stop level nine s) d.h d.m f end d.head d.tail r) s;
}

-- what is known of an expression of a level
pub record Closed (text : List ℕ) (tokens : List Token) (level : ℕ) (e : RawExpr) (from to : ℕ) : Type 0 where
  pub one : OneExpr text tokens level e from to
  grows : level ≤ 9 → Grows text tokens level e from to

closed : {text : List ℕ} {tokens : List Token} {e : RawExpr} {from to : ℕ} (level : ℕ) → level ≤ 9 →
    Grows text tokens level e from to → Closed text tokens level e from to
closed level nine g = record { one = finish level nine g; grows = λ le. g }

down_by : {text : List ℕ} {tokens : List Token} {e : RawExpr} {from to : ℕ} (n level own : ℕ) → own ≡ n + level → own ≤ 10 →
    Closed text tokens own e from to → Closed text tokens level e from to
down_by {text} {tokens} {e} {from} {to} zero level own is le o = let same : own ≡ level = omega (arith, is) in
    subst (λ k. Closed text tokens k e from to) same o
down_by {text} {tokens} {e} {from} {to} (suc n) level own is le o =
    let same : own ≡ n + level + 1 = omega (arith, is) in
    down_by n level (n + level) refl (omega (arith, is, le))
    (closed (n + level) (omega (arith, is, le)) (one_down (n + level) (omega (arith, is, le)) (subst (λ k. Closed text tokens k e from to) same o).one))

pub lower_closed : {text : List ℕ} {tokens : List Token} {e : RawExpr} {level own from to : ℕ} → level ≤ own → own ≤ 10 →
    Closed text tokens own e from to → Closed text tokens level e from to
lower_closed {level = level} {own = own} le room o = down_by (own - level) level own (omega (arith, le)) room o

left_grows : {text : List ℕ} {tokens : List Token} {a : RawExpr} {kind : TokenKind} {own from to : ℕ} {op : Op} →
    IsOperator kind own op → Closed text tokens (left_level own) a from to → Grows text tokens own a from to
left_grows IsOperator.either c = c.grows (omega arith)
left_grows IsOperator.both c = c.grows (omega arith)
left_grows IsOperator.equal c = one_down 2 (omega arith) c.one
left_grows IsOperator.differs c = one_down 2 (omega arith) c.one
left_grows IsOperator.less c = one_down 2 (omega arith) c.one
left_grows IsOperator.at_most c = one_down 2 (omega arith) c.one
left_grows IsOperator.greater c = one_down 2 (omega arith) c.one
left_grows IsOperator.at_least c = one_down 2 (omega arith) c.one
left_grows IsOperator.bits_or c = c.grows (omega arith)
left_grows IsOperator.bits_xor c = c.grows (omega arith)
left_grows IsOperator.bits_and c = c.grows (omega arith)
left_grows IsOperator.shift_left c = c.grows (omega arith)
left_grows IsOperator.shift_right c = c.grows (omega arith)
left_grows IsOperator.plus c = c.grows (omega arith)
left_grows IsOperator.minus c = c.grows (omega arith)
left_grows IsOperator.times c = c.grows (omega arith)
left_grows IsOperator.divided c = c.grows (omega arith)
left_grows IsOperator.remainder c = c.grows (omega arith)

step : {text : List ℕ} {tokens : List Token} {level : ℕ} {e a b : RawExpr} {op : Op} {from m n to : ℕ} →
    SpellsInfix tokens level op m n → level ≤ 9 → Grows text tokens level a from m
    → OneExpr text tokens (level + 1) b n to → e ≡ expr (span tokens from to) (kind.Two op a b) → Grows text tokens level e from to
step op nine g one is = record { goes = λ stop h k f end q t s. stepped op one is nine stop (g.goes (op_stop op.is op.token) h k f end q t s) s }

cast_step : {text : List ℕ} {tokens : List Token} {e a : RawExpr} {s : ScalarType} {from m n to : ℕ} → Takes tokens (Word keyword.As) m n →
    SpellsScalar tokens s n to → Grows text tokens 9 a from m
    → e ≡ expr (span tokens from to) (kind.Cast s a) → Grows text tokens 9 e from to
cast_step t sc g is = record { goes = λ stop h k f end q tail s. cast_stepped t sc is (g.goes (stops t refl) h k f end q tail s) s }

pub two_closed : {text : List ℕ} {tokens : List Token} {level own : ℕ} {e a b : RawExpr} {op : Op} {from m n to : ℕ} → level ≤ own →
    SpellsInfix tokens own op m n
    → (left_level own ≤ 10 → Closed text tokens (left_level own) a from m) → (own + 1 ≤ 10 → Closed text tokens (own + 1) b n to) →
    e ≡ expr (span tokens from to) (kind.Two op a b)
    → Closed text tokens level e from to
two_closed {own = own} le op left right is = let r = room_left op.is in let r8 = r.1 in
    lower_closed le (omega (arith, r8)) (closed own (omega (arith, r8))
    (step op (omega (arith, r8)) (left_grows op.is (left r.0)) (right (omega (arith, r8))).one is))

pub cast_closed : {text : List ℕ} {tokens : List Token} {level : ℕ} {e a : RawExpr} {s : ScalarType} {from m n to : ℕ} → level ≤ 9 →
    Takes tokens (Word keyword.As) m n → SpellsScalar tokens s n to
    → (9 ≤ 10 → Closed text tokens 9 a from m) → e ≡ expr (span tokens from to) (kind.Cast s a) → Closed text tokens level e from to
cast_closed le t sc left is = lower_closed le (omega arith) (closed 9 (omega arith) (cast_step t sc ((left (omega arith)).grows (omega arith)) is))

pub unary_closed : {text : List ℕ} {tokens : List Token} {level : ℕ} {e : RawExpr} {from to : ℕ} → level ≤ 10 →
    OneExpr text tokens 10 e from to → Closed text tokens level e from to
unary_closed le one = lower_closed le (omega arith) (record { one = one; grows = λ nine. absurd (omega (arith, nine)) })
