-- Chains of operators: what goes on with an expression whose operators bind as tightly as a level.
use Rattle.std.proofs.Common.{◌≡◌, ℕ, zero, suc, ◌+◌, ◌<◌, ◌≤◌, min, Bool, true, false, cond, ◌||◌, List, [], ◌∷◌, ◌++◌, refl, ap, sym, ◌∙◌, subst, arith}
use Rattle.std.specs.Prelude.{Some, nat_le, nat_lt, nat_eq}
use Rattle.std.proofs.lemmas.Bool.{le-leb, leb-true, eqb-true, eqb-false, eq-eqb, ltb-true, ltb-false}
use Rattle.std.proofs.Math.Nat.{min-le_left, min-le_right, le-min}
use Rattle.std.proofs.lemmas.Bool.{false_from_ne_true}
use Rattle.bl_tree.proofs.Basics.{from_false}
use Rattle.bl_tree.specs.declared.scalar.Op.{Op}
use Rattle.bl_tree.specs.declared.token.Token.{Token}
use Rattle.bl_tree.specs.declared.token.TokenKind.{TokenKind}
use Rattle.bl_tree.specs.declared.token.TokenKind.TheVariants.{Name, Number, Word, Sign}
use Rattle.bl_grammar.specs.declared.symbol.Symbol.TheVariants.{Terminal}
use Rattle.bl_tree.specs.declared.token.Keyword.TheVariants as keyword
use Rattle.bl_tree.specs.Keywords.{same_word}
use Rattle.bl_lex.specs.declared.sign.TheConstants.{EQUAL, NOT_EQUAL, LESS, LESS_OR_EQUAL, GREATER, GREATER_OR_EQUAL, BAR, CARET, AMPERSAND, SHIFT_LEFT}
use Rattle.bl_lex.specs.declared.sign.TheConstants.{SHIFT_RIGHT, PLUS, MINUS, STAR, SLASH, PERCENT}
use Rattle.bl_parse_syntax.specs.declared.grammar.Class.{Class}
use Rattle.bl_parse_syntax.specs.declared.grammar.Class.TheVariants.{Keyword, Mark}
use Rattle.bl_parse_syntax.specs.declared.grammar.Part.{Part}
use Rattle.bl_parse_syntax.specs.declared.grammar.Part.TheVariants.{Expr, And, Comparison, BitOr, BitXor, BitAnd, Shift, Sum, Product, Cast, ExprRest, AndRest}
use Rattle.bl_parse_syntax.specs.declared.grammar.Part.TheVariants.{ComparisonRest, BitOrRest, BitXorRest, BitAndRest, ShiftRest, SumRest, ProductRest}
use Rattle.bl_parse_syntax.specs.Grammar.{Piece, the, class_of, same_class, productions}
use Rattle.bl_parse_syntax.specs.Tables.{has, has_empty, starts_within}
use Rattle.bl_parse_syntax.proofs.Right.{same_is}
use Rattle.bl_parse.specs.At.{kind_at}
use Rattle.bl_parse.specs.Operators.{IsOperator, SpellsInfix, NoInfix, left_level, operator_classes}
use Rattle.bl_parse.specs.inner.Reading.{next_among, operand, NoneNext, Turns}
use Rattle.bl_parse.proofs.ReadLemmas.{class_word, class_sign, then, stay, opened, opened_one, omit}
use Rattle.bl_parse.proofs.PartLemmas.{kind_among}

-- the part that goes on with operators of a level
abbrev pub rest_of : ℕ → Part
rest_of zero = ExprRest
rest_of (suc zero) = AndRest
rest_of (suc (suc zero)) = ComparisonRest
rest_of (suc (suc (suc zero))) = BitOrRest
rest_of (suc (suc (suc (suc zero)))) = BitXorRest
rest_of (suc (suc (suc (suc (suc zero))))) = BitAndRest
rest_of (suc (suc (suc (suc (suc (suc zero)))))) = ShiftRest
rest_of (suc (suc (suc (suc (suc (suc (suc zero))))))) = SumRest
rest_of _ = ProductRest

-- all levels of operators that take a left operand of the bound are below this one
abbrev pub below : ℕ → ℕ
below zero = 1
below (suc zero) = 2
below (suc (suc zero)) = 2
below (suc (suc (suc n))) = min 9 (n + 4)

-- what goes on with operators of the levels below one, as tight as a level
abbrev pub tails : ℕ → ℕ → List Piece
tails zero level = []
tails (suc m) level = cond (nat_le level m) (the (rest_of m) ∷ tails m level) []

tails_step : (m level : ℕ) → level ≤ m → tails (suc m) level ≡ the (rest_of m) ∷ tails m level
tails_step m level le = rw (le-leb level m le) refl

plain : (n : ℕ) → left_level (suc (suc (suc n))) ≡ suc (suc (suc n))
plain n = by_test (nat_eq (suc (suc (suc n))) 2) refl
  where
    by_test : (b : Bool) → nat_eq (suc (suc (suc n))) 2 ≡ b → cond b 3 (suc (suc (suc n))) ≡ suc (suc (suc n))
    by_test true e = let h : suc (suc (suc n)) ≡ 2 = eqb-true (suc (suc (suc n))) 2 e in absurd (omega (arith, h))
    by_test false e = refl

room : (b m : ℕ) → m < below b → (left_level m ≤ b) × (m ≤ 8)
room b zero h = (omega arith, omega arith)
room zero (suc m) h = absurd (omega (arith, h))
room (suc b) (suc zero) h = (omega arith, omega arith)
room (suc zero) (suc (suc m)) h = absurd (omega (arith, h))
room (suc (suc zero)) (suc (suc m)) h = absurd (omega (arith, h))
room (suc (suc (suc b))) (suc (suc zero)) h = (omega arith, omega arith)
room (suc (suc (suc b))) (suc (suc (suc m))) h = let a = min-le_left 9 (b + 4) in let c = min-le_right 9 (b + 4) in let p =
    plain m in (omega (arith, h, c, p), omega (arith, h, a))

fits : (b own : ℕ) → left_level own ≤ b → own ≤ 8 → own < below b
fits zero zero l e = omega arith
fits zero (suc zero) l e = absurd (omega (arith, l))
fits zero (suc (suc zero)) l e = absurd (omega (arith, l))
fits zero (suc (suc (suc n))) l e = let p = plain n in absurd (omega (arith, l, p))
fits (suc zero) zero l e = omega arith
fits (suc zero) (suc zero) l e = omega arith
fits (suc zero) (suc (suc zero)) l e = absurd (omega (arith, l))
fits (suc zero) (suc (suc (suc n))) l e = let p = plain n in absurd (omega (arith, l, p))
fits (suc (suc zero)) zero l e = omega arith
fits (suc (suc zero)) (suc zero) l e = omega arith
fits (suc (suc zero)) (suc (suc zero)) l e = absurd (omega (arith, l))
fits (suc (suc zero)) (suc (suc (suc n))) l e = let p = plain n in absurd (omega (arith, l, p))
fits (suc (suc (suc b))) zero l e = let h : 1 ≤ min 9 (b + 4) = le-min (omega arith) (omega arith) in omega (arith, h)
fits (suc (suc (suc b))) (suc zero) l e = let h : 2 ≤ min 9 (b + 4) = le-min (omega arith) (omega arith) in omega (arith, h)
fits (suc (suc (suc b))) (suc (suc zero)) l e = let h : 3 ≤ min 9 (b + 4) = le-min (omega arith) (omega arith) in omega (arith, h)
fits (suc (suc (suc b))) (suc (suc (suc n))) l e = let p = plain n in let h : n + 4 ≤ min 9 (b + 4) =
    le-min (omega (arith, e)) (omega (arith, l, p)) in omega (arith, h)

-- ---- which operators go on with a level

level_of : TokenKind → ℕ
level_of Name = 99
level_of (Number n) = 99
level_of (Word w) = cond (same_word w keyword.Or) 0 (cond (same_word w keyword.And) 1 99)
level_of (Sign s) = (cond (nat_eq s EQUAL) 2 (cond (nat_eq s NOT_EQUAL) 2
    (cond (nat_eq s LESS) 2 (cond (nat_eq s LESS_OR_EQUAL) 2
    (cond (nat_eq s GREATER) 2 (cond (nat_eq s GREATER_OR_EQUAL) 2
    (cond (nat_eq s BAR) 3 (cond (nat_eq s CARET) 4 (cond (nat_eq s AMPERSAND) 5
    (cond (nat_eq s SHIFT_LEFT) 6 (cond (nat_eq s SHIFT_RIGHT) 6
    (cond (nat_eq s PLUS) 7 (cond (nat_eq s MINUS) 7 (cond (nat_eq s STAR) 8 (cond (nat_eq s SLASH) 8 (cond (nat_eq s PERCENT) 8 99))))))))))))))))

same_level : {kind : TokenKind} {own : ℕ} {op : Op} → IsOperator kind own op → level_of kind ≡ own
unfolding level_of
same_level IsOperator.either = refl
same_level IsOperator.both = refl
same_level IsOperator.equal = refl
same_level IsOperator.differs = refl
same_level IsOperator.less = refl
same_level IsOperator.at_most = refl
same_level IsOperator.greater = refl
same_level IsOperator.at_least = refl
same_level IsOperator.bits_or = refl
same_level IsOperator.bits_xor = refl
same_level IsOperator.bits_and = refl
same_level IsOperator.shift_left = refl
same_level IsOperator.shift_right = refl
same_level IsOperator.plus = refl
same_level IsOperator.minus = refl
same_level IsOperator.times = refl
same_level IsOperator.divided = refl
same_level IsOperator.remainder = refl

-- of a class that is among some, which one it is
one_of : {c : Class} {P : Type 0} (x : Class) (xs : List Class) → (x ≡ c → P) → (has xs c ≡ true → P) → has (x ∷ xs) c ≡ true → P
one_of {c} {P} x xs here later on = by_here (same_class x c) refl on
  where
    by_here : (b : Bool) → same_class x c ≡ b → b || has xs c ≡ true → P
    by_here true e on = here (same_is x c e)
    by_here false e on = later on

abbrev pub Found : ℕ → TokenKind → Type 0
Found m kind = (op : Op) × IsOperator kind m op

operator_of : (m : ℕ) (kind : TokenKind) → m ≤ 8 → has (starts_within 20 (rest_of m)) (class_of kind) ≡ true → Found m kind
operator_of zero kind le on = one_of (Keyword keyword.Or) ([])
    (λ e. (Op.Or, subst (λ kind. IsOperator kind 0 Op.Or) (sym (class_word kind keyword.Or e)) IsOperator.either)) from_false on
operator_of (suc zero) kind le on = one_of (Keyword keyword.And) ([])
    (λ e. (Op.And, subst (λ kind. IsOperator kind 1 Op.And) (sym (class_word kind keyword.And e)) IsOperator.both)) from_false on
operator_of (suc (suc zero)) kind le on = one_of (Mark EQUAL)
    ((Mark NOT_EQUAL) ∷ (Mark LESS) ∷ (Mark LESS_OR_EQUAL) ∷ (Mark GREATER) ∷ (Mark GREATER_OR_EQUAL) ∷ [])
    (λ e. (Op.Eq, subst (λ kind. IsOperator kind 2 Op.Eq) (sym (class_sign kind EQUAL e)) IsOperator.equal))
    (one_of (Mark NOT_EQUAL) ((Mark LESS) ∷ (Mark LESS_OR_EQUAL) ∷ (Mark GREATER) ∷ (Mark GREATER_OR_EQUAL) ∷ [])
    (λ e. (Op.Ne, subst (λ kind. IsOperator kind 2 Op.Ne) (sym (class_sign kind NOT_EQUAL e)) IsOperator.differs))
    (one_of (Mark LESS) ((Mark LESS_OR_EQUAL) ∷ (Mark GREATER) ∷ (Mark GREATER_OR_EQUAL) ∷ [])
    (λ e. (Op.Lt, subst (λ kind. IsOperator kind 2 Op.Lt) (sym (class_sign kind LESS e)) IsOperator.less))
    (one_of (Mark LESS_OR_EQUAL) ((Mark GREATER) ∷ (Mark GREATER_OR_EQUAL) ∷ [])
    (λ e. (Op.Le, subst (λ kind. IsOperator kind 2 Op.Le) (sym (class_sign kind LESS_OR_EQUAL e)) IsOperator.at_most))
    (one_of (Mark GREATER) ((Mark GREATER_OR_EQUAL) ∷ [])
    (λ e. (Op.Gt, subst (λ kind. IsOperator kind 2 Op.Gt) (sym (class_sign kind GREATER e)) IsOperator.greater))
    (one_of (Mark GREATER_OR_EQUAL) ([]) (λ e. (
      Op.Ge,
      subst (λ kind. IsOperator kind 2 Op.Ge) (sym (class_sign kind GREATER_OR_EQUAL e)) IsOperator.at_least,
    )) from_false))))) on
operator_of (suc (suc (suc zero))) kind le on = one_of (Mark BAR) ([])
    (λ e. (Op.BitOr, subst (λ kind. IsOperator kind 3 Op.BitOr) (sym (class_sign kind BAR e)) IsOperator.bits_or)) from_false on
operator_of (suc (suc (suc (suc zero)))) kind le on =
    one_of (Mark CARET) ([]) (λ e. (Op.BitXor, subst (λ kind. IsOperator kind 4 Op.BitXor) (sym (class_sign kind CARET e)) IsOperator.bits_xor)) from_false on
operator_of (suc (suc (suc (suc (suc zero))))) kind le on =
    one_of (Mark AMPERSAND) ([]) (λ e. (
      Op.BitAnd,
      subst (λ kind. IsOperator kind 5 Op.BitAnd)
          (sym (class_sign kind AMPERSAND e)) IsOperator.bits_and,
    )) from_false on
operator_of (suc (suc (suc (suc (suc (suc zero)))))) kind le on =
    one_of (Mark SHIFT_LEFT) ((Mark SHIFT_RIGHT) ∷ [])
    (λ e. (Op.Shl, subst (λ kind. IsOperator kind 6 Op.Shl) (sym (class_sign kind SHIFT_LEFT e)) IsOperator.shift_left))
    (one_of (Mark SHIFT_RIGHT) ([]) (λ e. (
      Op.Shr,
      subst (λ kind. IsOperator kind 6 Op.Shr)
          (sym (class_sign kind SHIFT_RIGHT e)) IsOperator.shift_right,
    )) from_false) on
operator_of (suc (suc (suc (suc (suc (suc (suc zero))))))) kind le on =
    one_of (Mark PLUS) ((Mark MINUS) ∷ []) (λ e. (
      Op.Add,
      subst (λ kind. IsOperator kind 7 Op.Add) (sym (class_sign kind PLUS e)) IsOperator.plus,
    ))
    (one_of (Mark MINUS) ([]) (λ e. (Op.Sub, subst (λ kind. IsOperator kind 7 Op.Sub) (sym (class_sign kind MINUS e)) IsOperator.minus)) from_false) on
operator_of (suc (suc (suc (suc (suc (suc (suc (suc zero)))))))) kind le on =
    one_of (Mark STAR) ((Mark SLASH) ∷ (Mark PERCENT) ∷ [])
    (λ e. (Op.Mul, subst (λ kind. IsOperator kind 8 Op.Mul) (sym (class_sign kind STAR e)) IsOperator.times))
    (one_of (Mark SLASH) ((Mark PERCENT) ∷ []) (λ e. (
      Op.Div,
      subst (λ kind. IsOperator kind 8 Op.Div) (sym (class_sign kind SLASH e)) IsOperator.divided,
    ))
    (one_of (Mark PERCENT) ([]) (λ e. (Op.Rem, subst (λ kind. IsOperator kind 8 Op.Rem) (sym (class_sign kind PERCENT e)) IsOperator.remainder)) from_false)) on
operator_of (suc (suc (suc (suc (suc (suc (suc (suc (suc n))))))))) kind le on = absurd (omega (arith, le))

rests_empty : (m : ℕ) → has_empty (productions (rest_of m)) ≡ true
rests_empty zero = refl
rests_empty (suc zero) = refl
rests_empty (suc (suc zero)) = refl
rests_empty (suc (suc (suc zero))) = refl
rests_empty (suc (suc (suc (suc zero)))) = refl
rests_empty (suc (suc (suc (suc (suc zero))))) = refl
rests_empty (suc (suc (suc (suc (suc (suc zero)))))) = refl
rests_empty (suc (suc (suc (suc (suc (suc (suc zero))))))) = refl
rests_empty (suc (suc (suc (suc (suc (suc (suc (suc n)))))))) = refl

module _ {tokens : List Token} {k : ℕ} where
  at_9 : {b : List Piece} → Turns (the Cast ∷ b) tokens k (the Cast ∷ tails 9 9 ++ b) k
  at_9 = stay

  at_8 : {b : List Piece} → Turns (the Product ∷ b) tokens k (the Cast ∷ tails 9 8 ++ b) k
  at_8 {b} = then (opened_one (the Cast ∷ the ProductRest ∷ []) (λ v. refl) refl (λ c. (_, refl))) (at_9 {b = the ProductRest ∷ b})

  at_7 : {b : List Piece} → Turns (the Sum ∷ b) tokens k (the Cast ∷ tails 9 7 ++ b) k
  at_7 {b} = then (opened_one (the Product ∷ the SumRest ∷ []) (λ v. refl) refl (λ c. (_, refl))) (at_8 {b = the SumRest ∷ b})

  at_6 : {b : List Piece} → Turns (the Shift ∷ b) tokens k (the Cast ∷ tails 9 6 ++ b) k
  at_6 {b} = then (opened_one (the Sum ∷ the ShiftRest ∷ []) (λ v. refl) refl (λ c. (_, refl))) (at_7 {b = the ShiftRest ∷ b})

  at_5 : {b : List Piece} → Turns (the BitAnd ∷ b) tokens k (the Cast ∷ tails 9 5 ++ b) k
  at_5 {b} = then (opened_one (the Shift ∷ the BitAndRest ∷ []) (λ v. refl) refl (λ c. (_, refl))) (at_6 {b = the BitAndRest ∷ b})

  at_4 : {b : List Piece} → Turns (the BitXor ∷ b) tokens k (the Cast ∷ tails 9 4 ++ b) k
  at_4 {b} = then (opened_one (the BitAnd ∷ the BitXorRest ∷ []) (λ v. refl) refl (λ c. (_, refl))) (at_5 {b = the BitXorRest ∷ b})

  at_3 : {b : List Piece} → Turns (the BitOr ∷ b) tokens k (the Cast ∷ tails 9 3 ++ b) k
  at_3 {b} = then (opened_one (the BitXor ∷ the BitOrRest ∷ []) (λ v. refl) refl (λ c. (_, refl))) (at_4 {b = the BitOrRest ∷ b})

  at_2 : {b : List Piece} → Turns (the Comparison ∷ b) tokens k (the Cast ∷ tails 9 2 ++ b) k
  at_2 {b} = then (opened_one (the BitOr ∷ the ComparisonRest ∷ []) (λ v. refl) refl (λ c. (_, refl))) (at_3 {b = the ComparisonRest ∷ b})

  at_1 : {b : List Piece} → Turns (the And ∷ b) tokens k (the Cast ∷ tails 9 1 ++ b) k
  at_1 {b} = then (opened_one (the Comparison ∷ the AndRest ∷ []) (λ v. refl) refl (λ c. (_, refl))) (at_2 {b = the AndRest ∷ b})

  at_0 : {b : List Piece} → Turns (the Expr ∷ b) tokens k (the Cast ∷ tails 9 0 ++ b) k
  at_0 {b} = then (opened_one (the And ∷ the ExprRest ∷ []) (λ v. refl) refl (λ c. (_, refl))) (at_1 {b = the ExprRest ∷ b})

  -- the first operand of an expression is expected, and then what goes on with operators as tight as the level
  pub operands : (level : ℕ) → level ≤ 9 → Turns (the (operand level) ∷ []) tokens k (the Cast ∷ tails 9 level) k
  operands zero le = at_0
  operands (suc zero) le = at_1
  operands (suc (suc zero)) le = at_2
  operands (suc (suc (suc zero))) le = at_3
  operands (suc (suc (suc (suc zero)))) le = at_4
  operands (suc (suc (suc (suc (suc zero))))) le = at_5
  operands (suc (suc (suc (suc (suc (suc zero)))))) le = at_6
  operands (suc (suc (suc (suc (suc (suc (suc zero))))))) le = at_7
  operands (suc (suc (suc (suc (suc (suc (suc (suc zero)))))))) le = at_8
  operands (suc (suc (suc (suc (suc (suc (suc (suc (suc zero))))))))) le = at_9
  operands (suc (suc (suc (suc (suc (suc (suc (suc (suc (suc n)))))))))) le = absurd (omega (arith, le))

  -- no operator of the level stands next
  lacks : (m : ℕ) → m ≤ 8 → ((kind : TokenKind) (op : Op) → kind_at tokens k ≡ Some kind → IsOperator kind m op → ⊥) →
      NoneNext (starts_within 20 (rest_of m)) tokens k
  lacks m le none = record {
    off = false_from_ne_true _ (λ on. let h = kind_among (starts_within 20 (rest_of m)) (kind_at tokens k) on in
        let f = operator_of m h.0 le h.2 in none h.0 f.0 h.1 f.1);
  }

  steps : (level own : ℕ) {kind : TokenKind} {op : Op} → kind_at tokens k ≡ Some kind → IsOperator kind own op → level ≤ own
      → Turns (the (rest_of own) ∷ tails own level) tokens k (Terminal (class_of kind) ∷ the (operand (own + 1)) ∷ tails (below own) level) k
  steps level own is IsOperator.either le = subst (λ t. Turns (the ExprRest ∷ tails 0 level) tokens k
      (Terminal (Keyword keyword.Or) ∷ the And ∷ t) k) (sym (tails_step 0 level le))
      (opened (Terminal (Keyword keyword.Or) ∷ the And ∷ the ExprRest ∷ []) (λ v. refl) is refl)
  steps level own is IsOperator.both le = subst (λ t. Turns (the AndRest ∷ tails 1 level) tokens k
      (Terminal (Keyword keyword.And) ∷ the Comparison ∷ t) k) (sym (tails_step 1 level le))
      (opened (Terminal (Keyword keyword.And) ∷ the Comparison ∷ the AndRest ∷ []) (λ v. refl) is refl)
  steps level own is IsOperator.equal le = opened (Terminal (Mark EQUAL) ∷ the BitOr ∷ []) (λ v. refl) is refl
  steps level own is IsOperator.differs le = opened (Terminal (Mark NOT_EQUAL) ∷ the BitOr ∷ []) (λ v. refl) is refl
  steps level own is IsOperator.less le = opened (Terminal (Mark LESS) ∷ the BitOr ∷ []) (λ v. refl) is refl
  steps level own is IsOperator.at_most le = opened (Terminal (Mark LESS_OR_EQUAL) ∷ the BitOr ∷ []) (λ v. refl) is refl
  steps level own is IsOperator.greater le = opened (Terminal (Mark GREATER) ∷ the BitOr ∷ []) (λ v. refl) is refl
  steps level own is IsOperator.at_least le = opened (Terminal (Mark GREATER_OR_EQUAL) ∷ the BitOr ∷ []) (λ v. refl) is refl
  steps level own is IsOperator.bits_or le = subst (λ t. Turns (the BitOrRest ∷ tails 3 level) tokens k
      (Terminal (Mark BAR) ∷ the BitXor ∷ t) k) (sym (tails_step 3 level le))
      (opened (Terminal (Mark BAR) ∷ the BitXor ∷ the BitOrRest ∷ []) (λ v. refl) is refl)
  steps level own is IsOperator.bits_xor le = subst (λ t. Turns (the BitXorRest ∷ tails 4 level) tokens k
      (Terminal (Mark CARET) ∷ the BitAnd ∷ t) k) (sym (tails_step 4 level le))
      (opened (Terminal (Mark CARET) ∷ the BitAnd ∷ the BitXorRest ∷ []) (λ v. refl) is refl)
  steps level own is IsOperator.bits_and le = subst (λ t. Turns (the BitAndRest ∷ tails 5 level) tokens k
      (Terminal (Mark AMPERSAND) ∷ the Shift ∷ t) k) (sym (tails_step 5 level le))
      (opened (Terminal (Mark AMPERSAND) ∷ the Shift ∷ the BitAndRest ∷ []) (λ v. refl) is refl)
  steps level own is IsOperator.shift_left le = subst (λ t. Turns (the ShiftRest ∷ tails 6 level) tokens k
      (Terminal (Mark SHIFT_LEFT) ∷ the Sum ∷ t) k) (sym (tails_step 6 level le))
      (opened (Terminal (Mark SHIFT_LEFT) ∷ the Sum ∷ the ShiftRest ∷ []) (λ v. refl) is refl)
  steps level own is IsOperator.shift_right le = subst (λ t. Turns (the ShiftRest ∷ tails 6 level) tokens k
      (Terminal (Mark SHIFT_RIGHT) ∷ the Sum ∷ t) k) (sym (tails_step 6 level le))
      (opened (Terminal (Mark SHIFT_RIGHT) ∷ the Sum ∷ the ShiftRest ∷ []) (λ v. refl) is refl)
  steps level own is IsOperator.plus le = subst (λ t. Turns (the SumRest ∷ tails 7 level) tokens k
      (Terminal (Mark PLUS) ∷ the Product ∷ t) k) (sym (tails_step 7 level le))
      (opened (Terminal (Mark PLUS) ∷ the Product ∷ the SumRest ∷ []) (λ v. refl) is refl)
  steps level own is IsOperator.minus le = subst (λ t. Turns (the SumRest ∷ tails 7 level) tokens k
      (Terminal (Mark MINUS) ∷ the Product ∷ t) k) (sym (tails_step 7 level le))
      (opened (Terminal (Mark MINUS) ∷ the Product ∷ the SumRest ∷ []) (λ v. refl) is refl)
  steps level own is IsOperator.times le = subst (λ t. Turns (the ProductRest ∷ tails 8 level) tokens k
      (Terminal (Mark STAR) ∷ the Cast ∷ t) k) (sym (tails_step 8 level le))
      (opened (Terminal (Mark STAR) ∷ the Cast ∷ the ProductRest ∷ []) (λ v. refl) is refl)
  steps level own is IsOperator.divided le = subst (λ t. Turns (the ProductRest ∷ tails 8 level) tokens k
      (Terminal (Mark SLASH) ∷ the Cast ∷ t) k) (sym (tails_step 8 level le))
      (opened (Terminal (Mark SLASH) ∷ the Cast ∷ the ProductRest ∷ []) (λ v. refl) is refl)
  steps level own is IsOperator.remainder le = subst (λ t. Turns (the ProductRest ∷ tails 8 level) tokens k
      (Terminal (Mark PERCENT) ∷ the Cast ∷ t) k) (sym (tails_step 8 level le))
      (opened (Terminal (Mark PERCENT) ∷ the Cast ∷ the ProductRest ∷ []) (λ v. refl) is refl)

  down : (level own n : ℕ) {kind : TokenKind} {op : Op} → kind_at tokens k ≡ Some kind → IsOperator kind own op → level ≤ own →
      own < n → n ≤ 9
      → Turns (tails n level) tokens k (Terminal (class_of kind) ∷ the (operand (own + 1)) ∷ tails (below own) level) k
  down level own zero is op le inside high = absurd (omega (arith, inside))
  down level own (suc m) {kind} {op = o} is op le inside high =
      subst (λ t. Turns t tokens k (Terminal (class_of kind) ∷ the (operand (own + 1)) ∷ tails (below own) level) k)
      (sym (tails_step m level (omega (arith, le, inside))))
      (by_level (nat_eq own m) refl (λ less. down level own m is op le less (omega (arith, high))))
    where
      by_level : (b : Bool) → nat_eq own m ≡ b → (own < m →
          Turns (tails m level) tokens k (Terminal (class_of kind) ∷ the (operand (own + 1)) ∷ tails (below own) level) k) →
          Turns (the (rest_of m) ∷ tails m level) tokens k (Terminal (class_of kind) ∷ the (operand (own + 1)) ∷ tails (below own) level) k
      by_level true e deeper = subst (λ n. Turns (the (rest_of n) ∷ tails n level) tokens k
          (Terminal (class_of kind) ∷ the (operand (own + 1)) ∷ tails (below own) level) k) (eqb-true own m e) (steps level own is op le)
      by_level false e deeper = then (omit (rests_empty m) (lacks m (omega (arith, high)) (λ other p at found. differs m other p at found e)))
          (deeper (smaller own m inside e))
        where
          differs : (m : ℕ) (other : TokenKind) (p : Op) → kind_at tokens k ≡ Some other → IsOperator other m p → nat_eq own m ≡ false → ⊥
          differs m other p at found e = no_truth (sym (ap (nat_eq own) (same (sym is ∙ at) (same_level op) (same_level found))
              ∙ eq-eqb own own refl) ∙ e)
            where
              same : Some kind ≡ Some other → level_of kind ≡ own → level_of other ≡ m → m ≡ own
              same s a b = cc

              no_truth : true ≡ false → ⊥
              no_truth e = cc

          smaller : (own m : ℕ) → own < suc m → nat_eq own m ≡ false → own < m
          smaller own m le e = by_less (nat_lt own m) refl
            where
              by_less : (b : Bool) → nat_lt own m ≡ b → own < m
              by_less true t = ltb-true own m t
              by_less false t = let h = ltb-false own m t in absurd (eqb-false own m e (omega (arith, le, h)))

  -- what is expected where an operator goes on
  pub next_operator : {level own bound to : ℕ} {op : Op} (is : SpellsInfix tokens own op k to) → own ≤ 8 → level ≤ own → left_level own ≤ bound
      → Turns (tails (below bound) level) tokens k (Terminal (class_of is.kind) ∷ the (operand (own + 1)) ∷ tails (below own) level) k
  next_operator {level} {own} {bound} is high le fit = down level own (below bound) is.token.stands is.is le (fits bound own fit high) (low_bound bound)
    where
      low_bound : (b : ℕ) → below b ≤ 9
      low_bound zero = omega arith
      low_bound (suc zero) = omega arith
      low_bound (suc (suc zero)) = omega arith
      low_bound (suc (suc (suc b))) = min-le_left 9 (b + 4)

  ends : (level bound n : ℕ) → n ≤ below bound → NoInfix tokens level bound k → Turns (tails n level) tokens k [] k
  ends level bound zero le none = stay
  ends level bound (suc m) le none = by_level (nat_le level m) refl (ends level bound m (omega (arith, le)) none)
    where
      by_level : (b : Bool) → nat_le level m ≡ b → Turns (tails m level) tokens k [] k →
          Turns (cond b (the (rest_of m) ∷ tails m level) []) tokens k [] k
      by_level false e deeper = stay
      by_level true e deeper = let r = room bound m (omega (arith, le)) in
          then (omit (rests_empty m) (lacks m r.1 (λ kind op at is. none m op
          (record { kind = kind; token = record { stands = at; next = refl }; is = is }) (leb-true level m e) r.0)))
          deeper

  -- no operator goes on
  pub no_operator : {level bound : ℕ} → NoInfix tokens level bound k → Turns (tails (below bound) level) tokens k [] k
  no_operator {level} {bound} none = ends level bound (below bound) (omega arith) none

-- at a position there is one operator
pub infix_one : {tokens : List Token} {own other k to end : ℕ} {op p : Op} → SpellsInfix tokens own op k to →
    SpellsInfix tokens other p k end → own ≡ other
infix_one a b = same_kind (sym a.token.stands ∙ b.token.stands) (same_level a.is) (same_level b.is)
  where
    same_kind : {kind more : TokenKind} {m n : ℕ} → Some kind ≡ Some more → level_of kind ≡ m → level_of more ≡ n → m ≡ n
    same_kind s a b = cc

is_counted : {kind : TokenKind} {own : ℕ} {op : Op} → IsOperator kind own op → has operator_classes (class_of kind) ≡ true
is_counted IsOperator.either = refl
is_counted IsOperator.both = refl
is_counted IsOperator.equal = refl
is_counted IsOperator.differs = refl
is_counted IsOperator.less = refl
is_counted IsOperator.at_most = refl
is_counted IsOperator.greater = refl
is_counted IsOperator.at_least = refl
is_counted IsOperator.bits_or = refl
is_counted IsOperator.bits_xor = refl
is_counted IsOperator.bits_and = refl
is_counted IsOperator.shift_left = refl
is_counted IsOperator.shift_right = refl
is_counted IsOperator.plus = refl
is_counted IsOperator.minus = refl
is_counted IsOperator.times = refl
is_counted IsOperator.divided = refl
is_counted IsOperator.remainder = refl

pub no_infix : (tokens : List Token) (k level bound : ℕ) → next_among operator_classes (kind_at tokens k) ≡ false → NoInfix tokens level bound k
no_infix tokens k level bound off = λ own op is le fit. no_truth
    (sym (is_counted is.is) ∙ subst (λ o. next_among operator_classes o ≡ false) is.token.stands off)
  where
    no_truth : true ≡ false → ⊥
    no_truth e = cc
