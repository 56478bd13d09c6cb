-- Tokens that spell items end in neither `@` nor `[`.
use Rattle.std.proofs.Common.{◌≡◌, ℕ, zero, suc, ◌+◌, Bool, true, false, not, ◌&&◌, List, [], ◌∷◌, ◌⊎◌, inl, inr, length, refl, sym, ◌∙◌, subst, arith}
use Rattle.std.specs.Prelude.{Option, Some, None, nat_eq, ⊤}
use Rattle.bl_tree.specs.declared.scalar.Scalar.{Scalar as ScalarType}
use Rattle.bl_tree.specs.declared.token.Token.{Token}
use Rattle.bl_tree.specs.declared.token.TokenKind.{TokenKind}
use Rattle.bl_tree.specs.declared.token.TokenKind.TheVariants.{Sign}
use Rattle.bl_lex.specs.declared.sign.TheConstants.{AT, OPEN_BRACKET}
use Rattle.bl_parse_syntax.specs.inner.Depth.{last_kind}
use Rattle.bl_parse_tree.specs.declared.expr.RawExpr.{RawExpr}
use Rattle.bl_parse_tree.specs.declared.expr.RawPart.{RawPart}
use Rattle.bl_parse_tree.specs.declared.expr.RawTarget.{RawTarget}
use Rattle.bl_parse_tree.specs.declared.item.RawItem.{RawItem}
use Rattle.bl_parse.specs.At.{kind_at, Takes}
use Rattle.bl_parse.specs.Expressions.{IsTruth, SpellsExpr, SpellsInputs, SpellsNone, SpellsPart, SpellsParts, SpellsTarget}
use Rattle.bl_parse.specs.Operators.{IsScalar}
use Rattle.bl_parse.specs.Programs.{SpellsItem, SpellsItems}

-- whether the token is neither `@` nor `[`, so that items may end in it
pub ends_items : TokenKind → Bool
ends_items (Sign k) = not (nat_eq k AT) && not (nat_eq k OPEN_BRACKET)
ends_items _ = true

-- there is no last token, or it is neither `@` nor `[`
pub EndsItems : Option TokenKind → Type 0
EndsItems None = ⊤
EndsItems (Some kind) = ends_items kind ≡ true

pub no_at : (kind : TokenKind) → kind ≡ Sign AT → EndsItems (Some kind) → ⊥
unfolding EndsItems ends_items
no_at kind is ends = absurd (clash (subst (λ (k : TokenKind). ends_items k ≡ true) is ends))
  where
    clash : ◌≡◌ {A = Bool} false true → ⊥
    clash same = cc

pub no_bracket : (kind : TokenKind) → kind ≡ Sign OPEN_BRACKET → EndsItems (Some kind) → ⊥
unfolding EndsItems ends_items
no_bracket kind is ends = absurd (clash (subst (λ (k : TokenKind). ends_items k ≡ true) is ends))
  where
    clash : ◌≡◌ {A = Bool} false true → ⊥
    clash same = cc

-- the token before a position is neither `@` nor `[`
record EndsRight (tokens : List Token) (to : ℕ) : Type 0 where
  at : ℕ
  kind : TokenKind
  next : to ≡ at + 1
  stands : kind_at tokens at ≡ Some kind
  ends : ends_items kind ≡ true

took : {tokens : List Token} {kind : TokenKind} {from to : ℕ} → Takes tokens kind from to → ends_items kind ≡ true → EndsRight tokens to
took {kind = kind} {from = from} t ends = record { at = from; kind = kind; next = t.next; stands = t.stands; ends = ends }

stay : {tokens : List Token} {from to : ℕ} → to ≡ from → EndsRight tokens from → EndsRight tokens to
stay is e = record { at = e.at; kind = e.kind; next = is ∙ e.next; stands = e.stands; ends = e.ends }

scalar_ends : {kind : TokenKind} {s : ScalarType} → IsScalar kind s → ends_items kind ≡ true
unfolding ends_items
scalar_ends IsScalar.bool = refl
scalar_ends IsScalar.int8 = refl
scalar_ends IsScalar.int16 = refl
scalar_ends IsScalar.int32 = refl
scalar_ends IsScalar.int64 = refl
scalar_ends IsScalar.nat8 = refl
scalar_ends IsScalar.nat16 = refl
scalar_ends IsScalar.nat32 = refl
scalar_ends IsScalar.nat64 = refl
scalar_ends IsScalar.bits8 = refl
scalar_ends IsScalar.bits16 = refl
scalar_ends IsScalar.bits32 = refl
scalar_ends IsScalar.bits64 = refl

truth_ends : {kind : TokenKind} {b : Bool} → IsTruth kind b → ends_items kind ≡ true
unfolding ends_items
truth_ends IsTruth.yes = refl
truth_ends IsTruth.no = refl

none_ends : {tokens : List Token} {from to : ℕ} → SpellsNone tokens from to → EndsRight tokens from → EndsRight tokens to
unfolding ends_items
none_ends (SpellsNone.absent is) before = stay is before
none_ends (SpellsNone.empty opening closing) before = took closing refl

module _ {text : List ℕ} {tokens : List Token} where
  part_ends : {one : RawPart} {from to : ℕ} → SpellsPart text tokens one from to → EndsRight tokens to
  unfolding ends_items
  part_ends (SpellsPart.field dot n is) = took n.token refl
  part_ends (SpellsPart.index opening e closing is) = took closing refl

  parts_end : {all : List RawPart} {from to : ℕ} → SpellsParts text tokens all from to → EndsRight tokens from → EndsRight tokens to
  parts_end (SpellsParts.no_parts nothing is) before = stay is before
  parts_end (SpellsParts.more_parts others one is) before = part_ends one

  target_ends : {t : RawTarget} {from to : ℕ} → SpellsTarget text tokens t from to → EndsRight tokens to
  unfolding ends_items
  target_ends (SpellsTarget.parted n behind is) = parts_end behind (took n.token refl)

  inputs_end : {all : List RawExpr} {from to : ℕ} → SpellsInputs text tokens all from to → EndsRight tokens to
  unfolding ends_items
  inputs_end (SpellsInputs.no_inputs opening closing nothing) = took closing refl
  inputs_end (SpellsInputs.some_inputs opening es closing) = took closing refl

  expr_ends : {level : ℕ} {e : RawExpr} {from to : ℕ} → SpellsExpr text tokens level e from to → EndsRight tokens to
  unfolding ends_items
  expr_ends (SpellsExpr.two le a op b is) = expr_ends b
  expr_ends (SpellsExpr.cast le a word s is) = took s.token (scalar_ends s.is)
  expr_ends (SpellsExpr.negative le minus n is) = took n refl
  expr_ends (SpellsExpr.one le op no_number a is) = expr_ends a
  expr_ends (SpellsExpr.number n is) = took n refl
  expr_ends (SpellsExpr.truth t is) = took t.token (truth_ends t.is)
  expr_ends (SpellsExpr.before word n is) = took n.token refl
  expr_ends (SpellsExpr.read from is) = target_ends from
  expr_ends (SpellsExpr.call n given nothing is) = none_ends nothing (inputs_end given)
  expr_ends (SpellsExpr.parentheses opening e closing) = took closing refl

  item_ends : {one : RawItem} {from to : ℕ} → SpellsItem text tokens one from to → EndsRight tokens to
  unfolding ends_items
  item_ends (SpellsItem.structure s is) = took s.end refl
  item_ends (SpellsItem.constant c is) = expr_ends c.value.expr
  item_ends (SpellsItem.unit u is) = took u.end refl

  items_end : {all : List RawItem} {from to : ℕ} → SpellsItems text tokens all from to → (to ≡ from) ⊎ EndsRight tokens to
  items_end (SpellsItems.none nothing is) = inl is
  items_end (SpellsItems.more others one is) = inr (item_ends one)

last_at : (before : Option TokenKind) (tokens : List Token) (at : ℕ) (kind : TokenKind) → length tokens ≡ at + 1 → kind_at tokens at ≡ Some kind →
    last_kind before tokens ≡ Some kind
last_at before [] at kind size stands = absurd (omega (arith, size))
last_at before (one ∷ []) zero kind size stands = stands
last_at before (one ∷ (other ∷ tokens)) zero kind size stands = absurd (omega (arith, size))
last_at before (one ∷ tokens) (suc at) kind size stands = last_at (Some one.kind) tokens at kind (omega (arith, size)) stands

none_last : (tokens : List Token) → length tokens ≡ 0 → EndsItems (last_kind None tokens)
unfolding EndsItems
none_last [] size = tt
none_last (one ∷ tokens) size = absurd (omega (arith, size))

ends_right : {tokens : List Token} {to : ℕ} → (e : EndsRight tokens to) → EndsItems (Some e.kind)
unfolding EndsItems
ends_right e = e.ends

-- the last of the tokens that spell items is neither `@` nor `[`
pub items_end_right : (text : List ℕ) (tokens : List Token) (all : List RawItem) → SpellsItems text tokens all 0 (length tokens) →
    EndsItems (last_kind None tokens)
items_end_right text tokens all spells = by_end (items_end spells)
  where
    by_end : (length tokens ≡ 0) ⊎ EndsRight tokens (length tokens) → EndsItems (last_kind None tokens)
    by_end (inl is) = none_last tokens is
    by_end (inr e) = subst (λ (last : Option TokenKind). EndsItems last) (sym (last_at None tokens e.at e.kind e.next e.stands)) (ends_right e)
