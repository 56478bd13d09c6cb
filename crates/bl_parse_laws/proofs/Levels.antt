-- Expressions by how tightly their operators bind.
use Rattle.std.proofs.Common.{◌≡◌, ℕ, zero, suc, ◌+◌, ◌-◌, ◌≤◌, List, [], ◌∷◌, refl, subst, arith}
use Rattle.bl_tree.specs.declared.scalar.Op.{Op}
use Rattle.bl_tree.specs.declared.scalar.Scalar.{Scalar as ScalarType}
use Rattle.bl_tree.specs.declared.token.Token.{Token}
use Rattle.bl_tree.specs.declared.token.TokenKind.{TokenKind}
use Rattle.bl_tree.specs.declared.token.TokenKind.TheVariants.{Word}
use Rattle.bl_tree.specs.declared.token.Keyword.TheVariants as keyword
use Rattle.bl_parse_syntax.specs.declared.grammar.Part.{Part}
use Rattle.bl_parse_syntax.specs.declared.grammar.Part.TheVariants.{Expr, ExprRest, And, AndRest, Comparison, ComparisonRest, BitOr, BitOrRest, BitXor}
use Rattle.bl_parse_syntax.specs.declared.grammar.Part.TheVariants.{BitXorRest, BitAnd, BitAndRest, Shift, ShiftRest, Sum, SumRest, Product, ProductRest, Cast}
use Rattle.bl_parse_syntax.specs.declared.grammar.Part.TheVariants.{CastRest, Unary, Primary}
use Rattle.bl_parse_syntax.specs.Grammar.{Piece, the}
use Rattle.bl_parse_syntax.specs.Grammar.IsAmong.{here, later}
use Rattle.bl_parse.specs.At.{Takes}
use Rattle.bl_parse.specs.Operators.{IsOperator, SpellsInfix, SpellsScalar, left_level}
use Rattle.bl_parse_laws.proofs.Spans.{Spans, token, nothing, then, made, empty}
use Rattle.bl_parse_laws.proofs.Types.{scalar}

-- the part whose operators bind as tightly as the level
abbrev pub tight : ℕ → Part
tight zero = Expr
tight (suc zero) = And
tight (suc (suc zero)) = Comparison
tight (suc (suc (suc zero))) = BitOr
tight (suc (suc (suc (suc zero)))) = BitXor
tight (suc (suc (suc (suc (suc zero))))) = BitAnd
tight (suc (suc (suc (suc (suc (suc zero)))))) = Shift
tight (suc (suc (suc (suc (suc (suc (suc zero))))))) = Sum
tight (suc (suc (suc (suc (suc (suc (suc (suc zero)))))))) = Product
tight (suc (suc (suc (suc (suc (suc (suc (suc (suc zero))))))))) = Cast
tight _ = Unary

-- what goes on with operators of the level
abbrev pub rests : ℕ → List Piece
rests zero = the ExprRest ∷ []
rests (suc zero) = the AndRest ∷ []
rests (suc (suc zero)) = []
rests (suc (suc (suc zero))) = the BitOrRest ∷ []
rests (suc (suc (suc (suc zero)))) = the BitXorRest ∷ []
rests (suc (suc (suc (suc (suc zero))))) = the BitAndRest ∷ []
rests (suc (suc (suc (suc (suc (suc zero)))))) = the ShiftRest ∷ []
rests (suc (suc (suc (suc (suc (suc (suc zero))))))) = the SumRest ∷ []
rests (suc (suc (suc (suc (suc (suc (suc (suc zero)))))))) = the ProductRest ∷ []
rests (suc (suc (suc (suc (suc (suc (suc (suc (suc zero))))))))) = the CastRest ∷ []
rests _ = []

-- with what goes on behind it, it is of the level
pub record Open (tokens : List Token) (level from to : ℕ) : Type 0 where
  pub goes : (end : ℕ) → Spans (rests level) tokens to end → Spans (the (tight level) ∷ []) tokens from end

ended : (level : ℕ) {tokens : List Token} {k : ℕ} → Spans (rests level) tokens k k
ended zero = empty ExprRest (later here) (λ n. refl) refl
ended (suc zero) = empty AndRest (later here) (λ n. refl) refl
ended (suc (suc zero)) = nothing
ended (suc (suc (suc zero))) = empty BitOrRest (later here) (λ n. refl) refl
ended (suc (suc (suc (suc zero)))) = empty BitXorRest (later here) (λ n. refl) refl
ended (suc (suc (suc (suc (suc zero))))) = empty BitAndRest (later here) (λ n. refl) refl
ended (suc (suc (suc (suc (suc (suc zero)))))) = empty ShiftRest (later (later here)) (λ n. refl) refl
ended (suc (suc (suc (suc (suc (suc (suc zero))))))) = empty SumRest (later (later here)) (λ n. refl) refl
ended (suc (suc (suc (suc (suc (suc (suc (suc zero)))))))) = empty ProductRest (later (later (later here))) (λ n. refl) refl
ended (suc (suc (suc (suc (suc (suc (suc (suc (suc zero))))))))) = empty CastRest (later here) (λ n. refl) refl
ended (suc (suc (suc (suc (suc (suc (suc (suc (suc (suc n)))))))))) = nothing

pub whole : {tokens : List Token} {from to : ℕ} (level : ℕ) → Open tokens level from to → Spans (the (tight level) ∷ []) tokens from to
whole level o = o.goes _ (ended level)

-- ---- looser levels

one_down : (level : ℕ) {tokens : List Token} {from to : ℕ} → level ≤ 9 → Spans (the (tight (suc level)) ∷ []) tokens from to →
    Open tokens level from to
one_down zero le s = record { goes = λ end rest. made Expr here (λ n. refl) (then s rest) }
one_down (suc zero) le s = record { goes = λ end rest. made And here (λ n. refl) (then s rest) }
one_down (suc (suc zero)) le s = record {
  goes = λ end rest. then
      (made Comparison here (λ n. refl) (then s (empty ComparisonRest (later (later (later (later (later (later here)))))) (λ n. refl) refl))) rest;
}
one_down (suc (suc (suc zero))) le s = record { goes = λ end rest. made BitOr here (λ n. refl) (then s rest) }
one_down (suc (suc (suc (suc zero)))) le s = record { goes = λ end rest. made BitXor here (λ n. refl) (then s rest) }
one_down (suc (suc (suc (suc (suc zero))))) le s = record { goes = λ end rest. made BitAnd here (λ n. refl) (then s rest) }
one_down (suc (suc (suc (suc (suc (suc zero)))))) le s = record { goes = λ end rest. made Shift here (λ n. refl) (then s rest) }
one_down (suc (suc (suc (suc (suc (suc (suc zero))))))) le s = record { goes = λ end rest. made Sum here (λ n. refl) (then s rest) }
one_down (suc (suc (suc (suc (suc (suc (suc (suc zero)))))))) le s = record { goes = λ end rest. made Product here (λ n. refl) (then s rest) }
one_down (suc (suc (suc (suc (suc (suc (suc (suc (suc zero))))))))) le s = record { goes = λ end rest. made Cast here (λ n. refl) (then s rest) }
one_down (suc (suc (suc (suc (suc (suc (suc (suc (suc (suc n)))))))))) le s = absurd (omega (arith, le))

down_by : (n level own : ℕ) {tokens : List Token} {from to : ℕ} → own ≡ n + level → own ≤ 10 → Open tokens own from to →
    Open tokens level from to
down_by zero level own {tokens} {from} {to} is le o = let e : own ≡ level = omega (arith, is) in subst (λ k. Open tokens k from to) e o
down_by (suc n) level own {tokens} {from} {to} is le o =
    let e : own ≡ suc (n + level) = omega (arith, is) in
    down_by n level (n + level) refl (omega (arith, is, le))
    (one_down (n + level) (omega (arith, is, le)) (whole (suc (n + level)) (subst (λ k. Open tokens k from to) e o)))

pub lower : {level own : ℕ} {tokens : List Token} {from to : ℕ} → level ≤ own → own ≤ 10 → Open tokens own from to → Open tokens level from to
lower {level} {own} le room o = down_by (own - level) level own (omega (arith, le)) room o

-- ---- operators

pub room_left : {kind : TokenKind} {own : ℕ} {op : Op} → IsOperator kind own op → (left_level own ≤ 10) × (own ≤ 8)
room_left IsOperator.either = (omega arith, omega arith)
room_left IsOperator.both = (omega arith, omega arith)
room_left IsOperator.equal = (omega arith, omega arith)
room_left IsOperator.differs = (omega arith, omega arith)
room_left IsOperator.less = (omega arith, omega arith)
room_left IsOperator.at_most = (omega arith, omega arith)
room_left IsOperator.greater = (omega arith, omega arith)
room_left IsOperator.at_least = (omega arith, omega arith)
room_left IsOperator.bits_or = (omega arith, omega arith)
room_left IsOperator.bits_xor = (omega arith, omega arith)
room_left IsOperator.bits_and = (omega arith, omega arith)
room_left IsOperator.shift_left = (omega arith, omega arith)
room_left IsOperator.shift_right = (omega arith, omega arith)
room_left IsOperator.plus = (omega arith, omega arith)
room_left IsOperator.minus = (omega arith, omega arith)
room_left IsOperator.times = (omega arith, omega arith)
room_left IsOperator.divided = (omega arith, omega arith)
room_left IsOperator.remainder = (omega arith, omega arith)

chained : {kind : TokenKind} {own : ℕ} {op : Op} {tokens : List Token} {from m n to : ℕ} → IsOperator kind own op → Takes tokens kind m n
    → Open tokens (left_level own) from m → Spans (the (tight (own + 1)) ∷ []) tokens n to → Open tokens own from to
chained IsOperator.either t a b = record { goes = λ end rest. a.goes end (made ExprRest here (λ n. refl) (then (token t) (then b rest))) }
chained IsOperator.both t a b = record { goes = λ end rest. a.goes end (made AndRest here (λ n. refl) (then (token t) (then b rest))) }
chained IsOperator.equal t a b = record {
  goes = λ end rest. then
      (made Comparison here (λ n. refl) (then (whole 3 a) (made ComparisonRest here (λ n. refl) (then (token t) b)))) rest;
}
chained IsOperator.differs t a b = record {
  goes =
      λ end rest. then (made Comparison here (λ n. refl) (then (whole 3 a) (made ComparisonRest (later here) (λ n. refl) (then (token t) b)))) rest;
}
chained IsOperator.less t a b = record {
  goes = λ end rest. then
      (made Comparison here (λ n. refl) (then (whole 3 a) (made ComparisonRest (later (later here)) (λ n. refl) (then (token t) b)))) rest;
}
chained IsOperator.at_most t a b = record {
  goes =
      λ end rest. then (made Comparison here (λ n. refl)
      (then (whole 3 a) (made ComparisonRest (later (later (later here))) (λ n. refl) (then (token t) b)))) rest;
}
chained IsOperator.greater t a b = record {
  goes =
      λ end rest. then (made Comparison here (λ n. refl)
      (then (whole 3 a) (made ComparisonRest (later (later (later (later here)))) (λ n. refl) (then (token t) b)))) rest;
}
chained IsOperator.at_least t a b = record {
  goes =
      λ end rest. then (made Comparison here (λ n. refl)
      (then (whole 3 a) (made ComparisonRest (later (later (later (later (later here))))) (λ n. refl) (then (token t) b)))) rest;
}
chained IsOperator.bits_or t a b = record { goes = λ end rest. a.goes end (made BitOrRest here (λ n. refl) (then (token t) (then b rest))) }
chained IsOperator.bits_xor t a b = record { goes = λ end rest. a.goes end (made BitXorRest here (λ n. refl) (then (token t) (then b rest))) }
chained IsOperator.bits_and t a b = record { goes = λ end rest. a.goes end (made BitAndRest here (λ n. refl) (then (token t) (then b rest))) }
chained IsOperator.shift_left t a b = record { goes = λ end rest. a.goes end (made ShiftRest here (λ n. refl) (then (token t) (then b rest))) }
chained IsOperator.shift_right t a b = record { goes = λ end rest. a.goes end (made ShiftRest (later here) (λ n. refl) (then (token t) (then b rest))) }
chained IsOperator.plus t a b = record { goes = λ end rest. a.goes end (made SumRest here (λ n. refl) (then (token t) (then b rest))) }
chained IsOperator.minus t a b = record { goes = λ end rest. a.goes end (made SumRest (later here) (λ n. refl) (then (token t) (then b rest))) }
chained IsOperator.times t a b = record { goes = λ end rest. a.goes end (made ProductRest here (λ n. refl) (then (token t) (then b rest))) }
chained IsOperator.divided t a b = record { goes = λ end rest. a.goes end (made ProductRest (later here) (λ n. refl) (then (token t) (then b rest))) }
chained IsOperator.remainder t a b = record {
  goes =
      λ end rest. a.goes end (made ProductRest (later (later here)) (λ n. refl) (then (token t) (then b rest)));
}

-- operand, operator, operand
pub two_open : {level own : ℕ} {op : Op} {tokens : List Token} {from m n to : ℕ} → level ≤ own → SpellsInfix tokens own op m n
    → (left_level own ≤ 10 → Open tokens (left_level own) from m) → (own + 1 ≤ 10 → Open tokens (own + 1) n to) → Open tokens level from to
two_open {own = own} le op a b = let r = room_left op.is in let r8 = r.1 in
    lower le (omega (arith, r8)) (chained op.is op.token (a r.0) (whole (own + 1) (b (omega (arith, r8)))))

-- operand, `as`, type
pub cast_open : {level : ℕ} {s : ScalarType} {tokens : List Token} {from m n to : ℕ} → level ≤ 9 → Takes tokens (Word keyword.As) m n →
    SpellsScalar tokens s n to
    → (9 ≤ 10 → Open tokens 9 from m) → Open tokens level from to
cast_open {tokens = tokens} {from} {to = to} le t s a = lower le (omega arith) casted
  where
    casted : Open tokens 9 from to
    casted = record { goes = λ end rest. (a (omega arith)).goes end (made CastRest here (λ n. refl) (then (token t) (then (scalar s) rest))) }

-- what begins with an operator, and what has none
pub unary_open : {level : ℕ} {tokens : List Token} {from to : ℕ} → level ≤ 10 → Spans (the Unary ∷ []) tokens from to → Open tokens level from to
unary_open {tokens = tokens} {from} {to} room s = lower room (omega arith) (record { goes = λ end rest. then s rest })

pub primary_open : {level : ℕ} {tokens : List Token} {from to : ℕ} → level ≤ 10 → Spans (the Primary ∷ []) tokens from to →
    Open tokens level from to
primary_open room s = unary_open room (made Unary (later (later (later here))) (λ n. refl) s)
