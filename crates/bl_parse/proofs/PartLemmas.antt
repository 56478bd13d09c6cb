-- Which production of a part is left, where others are ruled out.
use Rattle.std.proofs.Common.{◌≡◌, ℕ, Bool, true, false, cond, ◌||◌, ◌&&◌, ◌≤◌, ◌⊎◌, inl, inr, ⊎_elim, List, [], ◌∷◌, refl, ap, sym, ◌∙◌, subst}
use Rattle.std.specs.Prelude.{Option, Some, None, IsNone, nat_le}
use denote.Enum.Bare.{sameb}
use Rattle.bl_tree.specs.contracts.token.Keyword.{the_type}
use Rattle.bl_tree.proofs.Basics.{true_and_false}
use Rattle.bl_tree.proofs.KeywordLemmas.{same_word_is}
use Rattle.bl_tree.specs.declared.scalar.Scalar.{Scalar as ScalarType}
use Rattle.bl_tree.specs.declared.token.Token.{Token}
use Rattle.bl_tree.specs.declared.token.TokenKind.{TokenKind}
use Rattle.bl_tree.specs.declared.token.TokenKind.TheVariants.{Name, Number, Word, Sign}
use Rattle.bl_grammar.specs.declared.symbol.Symbol.TheVariants.{Terminal}
use Rattle.bl_tree.specs.declared.token.Keyword.{Keyword as AnyKeyword}
use Rattle.bl_tree.specs.declared.token.Keyword.TheVariants as keyword
use Rattle.bl_tree.specs.Keywords.{same_word}
use Rattle.bl_lex.specs.declared.sign.TheConstants.{OPEN_BRACKET, CLOSE_BRACKET, OPEN_PAREN, ASSIGN, DOT, AT, MINUS, TILDE, COLON}
use Rattle.bl_parse_syntax.specs.declared.grammar.Class.{Class}
use Rattle.bl_parse_syntax.specs.declared.grammar.Class.TheVariants.{AnyNumber, Keyword, Mark}
use Rattle.bl_parse_syntax.specs.declared.grammar.Part.{Part}
use Rattle.bl_parse_syntax.specs.declared.grammar.Part.TheVariants.{Item, Unit, PlainUnit, UnitTail, Scalar, Guard, RunTail, RunTarget, CallTail, PathRest}
use Rattle.bl_parse_syntax.specs.declared.grammar.Part.TheVariants.{Unary, Primary, Access, AssignTail, VarTail, Expr, AfterName, Length, Block, Stmt}
use Rattle.bl_parse_syntax.specs.Grammar.{Piece, the, name, word, sign, class_of, same_class, productions}
use Rattle.bl_parse_syntax.specs.Follow.{statement_starts}
use Rattle.bl_parse_syntax.specs.declared.grammar.TokenView.{TokenView}
use Rattle.bl_parse_syntax.specs.Tables.{has, or_absent, choices_of, permits}
use Rattle.std.proofs.lemmas.Bool.{leb-true, le-leb}
use Rattle.bl_grammar.proofs.Predictive.{and_left, and_right, and_both}
use Rattle.bl_parse_syntax.proofs.Right.{chosen_none, same_is}
use Rattle.bl_parse.specs.At.{kind_at}
use Rattle.bl_parse.specs.Operators.{IsScalar, IsPrefix, SpellsPrefix, scalar_classes}
use Rattle.bl_parse.specs.Expressions.{is_number, IsTruth}
use Rattle.bl_tree.specs.declared.scalar.Op.{Op}
use Rattle.bl_parse.proofs.ExprLemmas.{minus_sign}
use Rattle.bl_parse.specs.inner.Reading.{next_among, NoneNext, accessing, IsPathTail, IsPlaceTail, Turns}
use Rattle.bl_parse.proofs.ReadLemmas.{picks, chosen_is, opened}

-- what the next token isn't, of its kind
pub off_at : {tokens : List Token} {k : ℕ} {classes : List Class} → NoneNext classes tokens k → (kind : TokenKind) →
    kind_at tokens k ≡ Some kind → has classes (class_of kind) ≡ false
off_at {classes = classes} off kind is = subst (λ o. next_among classes o ≡ false) is off.off

-- where a token of another class stands next
pub next_other : {tokens : List Token} {k : ℕ} {classes : List Class} {kind : TokenKind} → kind_at tokens k ≡ Some kind →
    has classes (class_of kind) ≡ false → NoneNext classes tokens k
next_other {classes = classes} is off = record { off = subst (λ o. next_among classes o ≡ false) (sym is) off }

abbrev pub Left : Part → Class → List Piece → Type 0
Left part c p = (on : Bool) × (picks part c ≡ or_absent false (cond on (Some p) None))

second : (a b : Bool) (p q : List Piece) → a ≡ false → or_absent false (cond a (Some p) (cond b (Some q) None)) ≡ or_absent false (cond b (Some q) None)
second a b p q off = rw off refl

third : (a b c : Bool) (p q r : List Piece) → a ≡ false → b ≡ false →
    or_absent false (cond a (Some p) (cond b (Some q) (cond c (Some r) None))) ≡ or_absent false (cond c (Some r) None)
third a b c p q r ea eb = rw (ea, eb) refl

fourth : (a b c d : Bool) (p q r s : List Piece) → a ≡ false → b ≡ false → c ≡ false →
    or_absent false (cond a (Some p) (cond b (Some q) (cond c (Some r) (cond d (Some s) None)))) ≡ or_absent false (cond d (Some s) None)
fourth a b c d p q r s ea eb ec = rw (ea, eb, ec) refl

pub run_target : (c : Class) → has (Mark OPEN_PAREN ∷ []) c ≡ false → Left RunTail c (the RunTarget ∷ [])
run_target c off = (_, second _ _ _ _ off)

pub target_assign : (c : Class) → has (Mark DOT ∷ []) c ≡ false → Left RunTarget c (sign ASSIGN ∷ name ∷ the CallTail ∷ [])
target_assign c off = (_, second _ _ _ _ off)

pub item_unit : (c : Class) → has (Keyword keyword.Struct ∷ []) c ≡ false → has (Keyword keyword.Const ∷ []) c ≡ false → Left Item c (the Unit ∷ [])
item_unit c a b = (_, third _ _ _ _ _ _ a b)

pub unit_plain : (c : Class) → has (Mark AT ∷ []) c ≡ false → Left Unit c (the PlainUnit ∷ [])
unit_plain c off = (_, second _ _ _ _ off)

pub plain_activity : (c : Class) → has (Keyword keyword.Function ∷ []) c ≡ false → Left PlainUnit c (word keyword.Activity ∷ name ∷ the UnitTail ∷ [])
plain_activity c off = (_, second _ _ _ _ off)

pub guard_reset : (c : Class) → has (Keyword keyword.Abort ∷ []) c ≡ false → Left Guard c (word keyword.Reset ∷ [])
guard_reset c off = (_, second _ _ _ _ off)

pub var_value : (c : Class) → has (Mark COLON ∷ []) c ≡ false → Left VarTail c (sign ASSIGN ∷ the Expr ∷ [])
var_value c off = (_, second _ _ _ _ off)

pub access_index : (c : Class) → has (Mark DOT ∷ []) c ≡ false → Left Access c (sign OPEN_BRACKET ∷ the Expr ∷ sign CLOSE_BRACKET ∷ [])
access_index c off = (_, second _ _ _ _ off)

pub unary_primary : (c : Class) → has (Mark MINUS ∷ []) c ≡ false → has (Mark TILDE ∷ []) c ≡ false →
    has (Keyword keyword.Not ∷ []) c ≡ false → Left Unary c (the Primary ∷ [])
unary_primary c a b d = (_, fourth _ _ _ _ _ _ _ _ a b d)

pub scalar_never : (c : Class) → has scalar_classes c ≡ false → picks Scalar c ≡ None
scalar_never c off = ap (or_absent false) (sym (chosen_is (productions Scalar) c) ∙ chosen_none (choices_of (productions Scalar)) c off)

pub scalar_word : {kind : TokenKind} {s : ScalarType} → IsScalar kind s → picks Scalar (class_of kind) ≡ Some (Terminal (class_of kind) ∷ [])
scalar_word IsScalar.bool = refl
scalar_word IsScalar.int8 = refl
scalar_word IsScalar.int16 = refl
scalar_word IsScalar.int32 = refl
scalar_word IsScalar.int64 = refl
scalar_word IsScalar.nat8 = refl
scalar_word IsScalar.nat16 = refl
scalar_word IsScalar.nat32 = refl
scalar_word IsScalar.nat64 = refl
scalar_word IsScalar.bits8 = refl
scalar_word IsScalar.bits16 = refl
scalar_word IsScalar.bits32 = refl
scalar_word IsScalar.bits64 = refl

-- the same where the first of two is left
before : (a b : Bool) (p q : List Piece) → b ≡ false → or_absent false (cond a (Some p) (cond b (Some q) None)) ≡ or_absent false (cond a (Some p) None)
before a b p q off = rw off refl

pub after_assign : (c : Class) → has (Mark OPEN_PAREN ∷ []) c ≡ false → Left AfterName c (the AssignTail ∷ [])
after_assign c off = (_, second _ _ _ _ off)

pub assign_value : (c : Class) → has (Mark DOT ∷ Mark OPEN_BRACKET ∷ []) c ≡ false → Left AssignTail c (sign ASSIGN ∷ the Expr ∷ [])
assign_value c off = (_, before _ _ _ _ off)

pub length_name : (c : Class) → has (AnyNumber ∷ []) c ≡ false → Left Length c (name ∷ [])
length_name c off = (_, second _ _ _ _ off)

-- where no number stands
pub no_number : (o : Option TokenKind) → is_number o ≡ false → next_among (AnyNumber ∷ []) o ≡ false
no_number None off = refl
no_number (Some Name) off = refl
no_number (Some (Number n)) off = absurd (no_truth off)
  where
    no_truth : true ≡ false → ⊥
    no_truth e = cc
no_number (Some (Word w)) off = refl
no_number (Some (Sign w)) off = refl

off_word : (w k : AnyKeyword) → (k ≡ w → ⊥) → same_word w k || false ≡ false
off_word w k none = by_test (same_word w k) refl
  where
    by_test : (b : Bool) → same_word w k ≡ b → b || false ≡ false
    by_test true e = absurd (none (sym (same_word_is w k e)))
    by_test false e = refl

middle : (a b c : Bool) (p q r : List Piece) → a ≡ false → c ≡ false →
    or_absent false (cond a (Some p) (cond b (Some q) (cond c (Some r) None))) ≡ or_absent false (cond b (Some q) None)
middle a b c p q r ea ec = rw (ea, ec) refl

-- a test of keywords that fails tells them apart
pub other_word : (w k : AnyKeyword) → sameb the_type w w ≡ true → sameb the_type k w ≡ false → k ≡ w → ⊥
other_word w k itself off is = true_and_false (sameb the_type w w) itself (subst (λ k. sameb the_type k w ≡ false) is off)

pub primary_false : (k : AnyKeyword) → (k ≡ keyword.Prev → ⊥) → (k ≡ keyword.True → ⊥) →
    picks Primary (Keyword k) ≡ or_absent false (cond (same_word keyword.False k || false) (Some (word keyword.False ∷ [])) None)
primary_false k np nt = middle (same_word keyword.True k || false) (same_word keyword.False k || false) (same_word keyword.Prev k || false) _ _ _
    (off_word keyword.True k nt) (off_word keyword.Prev k np)

pub none_is : {A : Type 0} {o : Option A} → o ≡ None → IsNone o
none_is e = rw e refl

pub takes_tight : (a b c d : ℕ) → nat_le a b && nat_le c d ≡ true → a ≤ b
takes_tight a b c d e = leb-true a b (and_left _ _ e)

pub takes_left : (a b c d : ℕ) → nat_le a b && nat_le c d ≡ true → c ≤ d
takes_left a b c d e = leb-true c d (and_right (nat_le a b) _ e)

pub takes_none : (a b c d : ℕ) → nat_le a b && nat_le c d ≡ false → a ≤ b → c ≤ d → ⊥
takes_none a b c d e le fit = no_truth (sym (and_both _ _ (le-leb a b le) (le-leb c d fit)) ∙ e)
  where
    no_truth : true ≡ false → ⊥
    no_truth e = cc

pub truth_word : {kind : TokenKind} {b : Bool} → IsTruth kind b → picks Primary (class_of kind) ≡ Some (Terminal (class_of kind) ∷ [])
truth_word IsTruth.yes = refl
truth_word IsTruth.no = refl

prefix_picks : {kind : TokenKind} {op : Op} → IsPrefix kind op → picks Unary (class_of kind) ≡ Some (Terminal (class_of kind) ∷ the Unary ∷ [])
prefix_picks IsPrefix.negation = refl
prefix_picks IsPrefix.complement = refl
prefix_picks IsPrefix.denial = refl

-- what a field or an index begins with
access_is : (c : Class) → has accessing c ≡ true → (c ≡ Mark DOT) ⊎ (c ≡ Mark OPEN_BRACKET)
access_is c on = by_dot (same_class (Mark DOT) c) refl on
  where
    by_dot : (b : Bool) → same_class (Mark DOT) c ≡ b → b || (same_class (Mark OPEN_BRACKET) c || false) ≡ true →
        (c ≡ Mark DOT) ⊎ (c ≡ Mark OPEN_BRACKET)
    by_dot true e on = inl (sym (same_is _ _ e))
    by_dot false e on = inr (sym (same_is _ _ (or_right (same_class (Mark OPEN_BRACKET) c) on)))
      where
        or_right : (b : Bool) → b || false ≡ true → b ≡ true
        or_right true e = refl
        or_right false e = e

picks_access : (part : Part) → IsPlaceTail part → (c : Class) → has accessing c ≡ true → picks part c ≡ Some (the Access ∷ the part ∷ [])
picks_access part is c on = ⊎_elim (λ e. subst (λ c. picks part c ≡ Some (the Access ∷ the part ∷ [])) (sym e) (at_dot part is))
    (λ e. subst (λ c. picks part c ≡ Some (the Access ∷ the part ∷ [])) (sym e) (at_bracket part is)) (access_is c on)
  where
    at_dot : (part : Part) → IsPlaceTail part → picks part (Mark DOT) ≡ Some (the Access ∷ the part ∷ [])
    at_dot part IsPlaceTail.accesses = refl
    at_dot part IsPlaceTail.assigned = refl

    at_bracket : (part : Part) → IsPlaceTail part → picks part (Mark OPEN_BRACKET) ≡ Some (the Access ∷ the part ∷ [])
    at_bracket part IsPlaceTail.accesses = refl
    at_bracket part IsPlaceTail.assigned = refl

permitted : (part : Part) → IsPlaceTail part → (v : TokenView) → permits part v ≡ true
permitted part IsPlaceTail.accesses v = refl
permitted part IsPlaceTail.assigned v = refl

block_picks : (c : Class) → has statement_starts c ≡ true → picks Block c ≡ Some (the Stmt ∷ the Block ∷ [])
block_picks c on = held _ _ on
  where
    held : (b : Bool) (p : List Piece) → b ≡ true → or_absent true (cond b (Some p) None) ≡ Some p
    held b p on = rw on refl

-- the kind of a token that is among some classes
pub kind_among : (classes : List Class) (o : Option TokenKind) → next_among classes o ≡ true →
    (kind : TokenKind) × (o ≡ Some kind) × (has classes (class_of kind) ≡ true)
kind_among classes None on = absurd (no_truth on)
  where
    no_truth : false ≡ true → ⊥
    no_truth e = cc
kind_among classes (Some kind) on = (kind, refl, on)

module _ {tokens : List Token} {k : ℕ} where
  -- a field goes on with a path
  pub dotted : (part : Part) → IsPathTail part → {b : List Piece} → kind_at tokens k ≡ Some (Sign DOT) →
      Turns (the part ∷ b) tokens k (sign DOT ∷ name ∷ the part ∷ b) k
  dotted part IsPathTail.path is = opened (sign DOT ∷ name ∷ the PathRest ∷ []) (λ v. refl) is refl
  dotted part IsPathTail.target is = opened (sign DOT ∷ name ∷ the RunTarget ∷ []) (λ v. refl) is refl

  -- a field or an index goes on with a place
  pub accessed : (part : Part) → IsPlaceTail part → {b : List Piece} → next_among accessing (kind_at tokens k) ≡ true →
      Turns (the part ∷ b) tokens k (the Access ∷ the part ∷ b) k
  accessed part is on = let h = kind_among accessing (kind_at tokens k) on in
      opened (the Access ∷ the part ∷ []) (permitted part is) h.1 (picks_access part is (class_of h.0) h.2)

  -- a block goes on with a statement
  pub block_opens : {b : List Piece} → next_among statement_starts (kind_at tokens k) ≡ true →
      Turns (the Block ∷ b) tokens k (the Stmt ∷ the Block ∷ b) k
  block_opens on = let h = kind_among statement_starts (kind_at tokens k) on in
      opened (the Stmt ∷ the Block ∷ []) (λ v. refl) h.1 (block_picks (class_of h.0) h.2)

  -- an operator before an operand
  pub prefixed : {op : Op} {to : ℕ} {b : List Piece} (is : SpellsPrefix tokens op k to) →
      Turns (the Unary ∷ b) tokens k (Terminal (class_of is.kind) ∷ the Unary ∷ b) k
  prefixed is = opened (Terminal (class_of is.kind) ∷ the Unary ∷ []) (λ v. refl) is.token.stands (prefix_picks is.is)

  pub minus_is : {to : ℕ} → SpellsPrefix tokens Op.Minus k to → kind_at tokens k ≡ Some (Sign MINUS)
  minus_is is = (minus_sign is).stands
