-- One level of an expression: its tokens, whether it has a spelling, and itself without places, by what they are of its parts.
use Rattle.std.proofs.Common.{◌≡◌, ℕ, Bool, true, ◌&&◌, List, [], ◌∷◌, ◌++◌, map, Option, Some, None, refl, sym, ap, ◌∙◌, subst, codes}
use Rattle.std.specs.Fmt.{decimal}
use Rattle.bl_tree.specs.declared.c.CPlace.{CPlace, CPlace-F, fold-roll-CPlace, roll-CPlace}
use Rattle.bl_tree.specs.declared.c.CStep.{CStep, CStep-F, fold-roll-CStep, roll-CStep}
use Rattle.bl_tree.specs.declared.c.CIndex.{CIndex, CIndex-F, fold-roll-CIndex, roll-CIndex}
use Rattle.bl_tree.specs.declared.c.CExpr.{CExpr, CExpr-F, fold-roll-CExpr, roll-CExpr}
use Rattle.bl_tree.specs.declared.c.CExprKind.{CExprKind, CExprKind-F, fold-roll-CExprKind, roll-CExprKind}
use Rattle.bl_tree.specs.declared.c.CCall.{CCall, CCall-F, fold-roll-CCall, roll-CCall}
use Rattle.bl_tree.specs.declared.c.CArg.{CArg, CArg-F, fold-roll-CArg, roll-CArg}
use Rattle.bl_tree.specs.Reduce.{all_of, joined}
use Rattle.bl_ctext.specs.Token.{Token}
use Rattle.bl_ctext.specs.Names.{is_name, is_callee}
use Rattle.bl_ctext.specs.Spelling.{literal_tokens, operator_sign, call_tokens, root_tokens, index_front, expr_tokens, kind_tokens, place_tokens, step_tokens}
use Rattle.bl_ctext.specs.Spelling.{index_tokens, ccall_tokens, arg_tokens}
use Rattle.bl_ctext.specs.Spellable.{is_c_operator, is_literal, is_length, spells_expr, spells_kind, spells_place, spells_step, spells_index, spells_call}
use Rattle.bl_ctext.specs.Spellable.{spells_arg}
use Rattle.bl_cparse_syntax_laws.specs.Placeless.{any_place, placeless_expr, placeless_place, placeless_call}
use Rattle.bl_cparse_syntax_laws.specs.inner.Placeless.{placeless_kind, placeless_step, placeless_index, placeless_arg}
use Rattle.bl_cparse_syntax_laws.proofs.Rows.{Only}

abbrev pub Args : Type 0
Args = CArg-F CArg CExprKind CCall CExpr CIndex CPlace CStep

abbrev pub Kinds : Type 0
Kinds = CExprKind-F CArg CExprKind CCall CExpr CIndex CPlace CStep

abbrev pub Calls : Type 0
Calls = CCall-F CArg CExprKind CCall CExpr CIndex CPlace CStep

abbrev pub Exprs : Type 0
Exprs = CExpr-F CArg CExprKind CCall CExpr CIndex CPlace CStep

abbrev pub Indices : Type 0
Indices = CIndex-F CArg CExprKind CCall CExpr CIndex CPlace CStep

abbrev pub Places : Type 0
Places = CPlace-F CArg CExprKind CCall CExpr CIndex CPlace CStep

abbrev pub Steps : Type 0
Steps = CStep-F CArg CExprKind CCall CExpr CIndex CPlace CStep

abbrev pub arg_level : Args → List Token
arg_level (CArg-F.Value e) = expr_tokens e
arg_level (CArg-F.Address at) = codes "&" ∷ place_tokens at

abbrev pub arg_ok : Args → Bool
arg_ok (CArg-F.Value e) = spells_expr e
arg_ok (CArg-F.Address at) = spells_place at

abbrev pub arg_bare : Args → CArg
arg_bare (CArg-F.Value e) = roll-CArg (CArg-F.Value (placeless_expr e))
arg_bare (CArg-F.Address at) = roll-CArg (CArg-F.Address (placeless_place at))

abbrev pub kind_level : Kinds → List Token
kind_level (CExprKind-F.Literal s n) = literal_tokens s n
kind_level (CExprKind-F.Read at) = place_tokens at
kind_level (CExprKind-F.Call call) = ccall_tokens call
kind_level (CExprKind-F.Not e) = codes "(" ∷ codes "!" ∷ (expr_tokens e ++ codes ")" ∷ [])
kind_level (CExprKind-F.Two o a b) = codes "(" ∷ (expr_tokens a ++ (operator_sign o ∷ (expr_tokens b ++ codes ")" ∷ [])))

abbrev pub kind_ok : Kinds → Bool
kind_ok (CExprKind-F.Literal s n) = is_literal s n
kind_ok (CExprKind-F.Read at) = spells_place at
kind_ok (CExprKind-F.Call call) = spells_call call
kind_ok (CExprKind-F.Not e) = spells_expr e
kind_ok (CExprKind-F.Two o a b) = is_c_operator o && (spells_expr a && spells_expr b)

abbrev pub kind_bare : Kinds → CExprKind
kind_bare (CExprKind-F.Literal s n) = roll-CExprKind (CExprKind-F.Literal s n)
kind_bare (CExprKind-F.Read at) = roll-CExprKind (CExprKind-F.Read (placeless_place at))
kind_bare (CExprKind-F.Call call) = roll-CExprKind (CExprKind-F.Call (placeless_call call))
kind_bare (CExprKind-F.Not e) = roll-CExprKind (CExprKind-F.Not (placeless_expr e))
kind_bare (CExprKind-F.Two o a b) = roll-CExprKind (CExprKind-F.Two o (placeless_expr a) (placeless_expr b))

abbrev pub call_level : Calls → List Token
call_level c = call_tokens c.name (map arg_tokens c.args)

abbrev pub call_ok : Calls → Bool
call_ok c = is_callee c.name && all_of (map spells_arg c.args)

abbrev pub call_bare : Calls → CCall
call_bare c = roll-CCall (record { name = c.name; args = map placeless_arg c.args })

abbrev pub expr_level : Exprs → List Token
expr_level e = kind_tokens e.what

abbrev pub expr_ok : Exprs → Bool
expr_ok e = spells_kind e.what

abbrev pub expr_bare : Exprs → CExpr
expr_bare e = roll-CExpr (record { place = any_place; what = placeless_kind e.what })

abbrev pub index_level : Indices → List Token
index_level i = index_front i.signed ++ (expr_tokens i.at ++ codes "," ∷ decimal i.length ∷ codes ")" ∷ codes "]" ∷ [])

abbrev pub index_ok : Indices → Bool
index_ok i = spells_expr i.at && is_length i.length

abbrev pub index_bare : Indices → CIndex
index_bare i = roll-CIndex (record { signed = i.signed; at = placeless_expr i.at; length = i.length })

abbrev pub place_level : Places → List Token
place_level p = root_tokens p.through p.name ++ joined (map step_tokens p.steps)

abbrev pub place_ok : Places → Bool
place_ok p = is_name p.name && all_of (map spells_step p.steps)

abbrev pub place_bare : Places → CPlace
place_bare p = roll-CPlace (record { through = p.through; name = p.name; steps = map placeless_step p.steps })

abbrev pub maybe_index : Option CIndex → List Token
maybe_index None = []
maybe_index (Some i) = index_tokens i

abbrev pub maybe_ok : Option CIndex → Bool
maybe_ok None = true
maybe_ok (Some i) = spells_index i

abbrev pub maybe_bare : Option CIndex → Option CIndex
maybe_bare None = None
maybe_bare (Some i) = Some (placeless_index i)

abbrev pub step_level : Steps → List Token
step_level s = codes "." ∷ s.member ∷ maybe_index s.index

abbrev pub step_ok : Steps → Bool
step_ok s = is_name s.member && maybe_ok s.index

abbrev pub step_bare : Steps → CStep
step_bare s = roll-CStep (record { member = s.member; index = maybe_bare s.index })

-- what the tokens, the spelling and the placeless tree of a whole are, by its level
pub record Levels {A L : Type 0} (tokens : A → List Token) (bare : A → A) (ok : A → Bool) (roll : L → A) (level : L → List Token)
    (bare_level : L → A) (ok_level : L → Bool) (z : L) : Type 0 where
  pub tokens_are : tokens (roll z) ≡ level z
  pub bare_is : bare (roll z) ≡ bare_level z
  pub ok_is : ok (roll z) ≡ ok_level z

pub arg_levels : (z : Args) → Levels arg_tokens placeless_arg spells_arg roll-CArg arg_level arg_bare arg_ok z
arg_levels (CArg-F.Value e) = record { tokens_are = rw fold-roll-CArg refl; bare_is = rw fold-roll-CArg refl; ok_is = rw fold-roll-CArg refl }
arg_levels (CArg-F.Address at) = record { tokens_are = rw fold-roll-CArg refl; bare_is = rw fold-roll-CArg refl; ok_is = rw fold-roll-CArg refl }

pub kind_levels : (z : Kinds) → Levels kind_tokens placeless_kind spells_kind roll-CExprKind kind_level kind_bare kind_ok z
kind_levels (CExprKind-F.Literal s n) = record {
  tokens_are = rw fold-roll-CExprKind refl;
  bare_is =
      rw fold-roll-CExprKind refl;
  ok_is = rw fold-roll-CExprKind refl;
}
kind_levels (CExprKind-F.Read at) = record {
  tokens_are = rw fold-roll-CExprKind refl;
  bare_is =
      rw fold-roll-CExprKind refl;
  ok_is = rw fold-roll-CExprKind refl;
}
kind_levels (CExprKind-F.Call call) = record {
  tokens_are = rw fold-roll-CExprKind refl;
  bare_is =
      rw fold-roll-CExprKind refl;
  ok_is = rw fold-roll-CExprKind refl;
}
kind_levels (CExprKind-F.Not e) = record {
  tokens_are = rw fold-roll-CExprKind refl;
  bare_is = rw fold-roll-CExprKind refl;
  ok_is =
      rw fold-roll-CExprKind refl;
}
kind_levels (CExprKind-F.Two o a b) = record {
  tokens_are = rw fold-roll-CExprKind refl;
  bare_is =
      rw fold-roll-CExprKind refl;
  ok_is = rw fold-roll-CExprKind refl;
}

pub call_levels : (z : Calls) → Levels ccall_tokens placeless_call spells_call roll-CCall call_level call_bare call_ok z
call_levels z = record { tokens_are = rw fold-roll-CCall refl; bare_is = rw fold-roll-CCall refl; ok_is = rw fold-roll-CCall refl }

pub expr_levels : (z : Exprs) → Levels expr_tokens placeless_expr spells_expr roll-CExpr expr_level expr_bare expr_ok z
expr_levels z = record { tokens_are = rw fold-roll-CExpr refl; bare_is = rw fold-roll-CExpr refl; ok_is = rw fold-roll-CExpr refl }

pub index_levels : (z : Indices) → Levels index_tokens placeless_index spells_index roll-CIndex index_level index_bare index_ok z
index_levels z = record { tokens_are = rw fold-roll-CIndex refl; bare_is = rw fold-roll-CIndex refl; ok_is = rw fold-roll-CIndex refl }

pub place_levels : (z : Places) → Levels place_tokens placeless_place spells_place roll-CPlace place_level place_bare place_ok z
place_levels z = record { tokens_are = rw fold-roll-CPlace refl; bare_is = rw fold-roll-CPlace refl; ok_is = rw fold-roll-CPlace refl }

step_levels_at : (member : List ℕ) (index : Option CIndex) →
    Levels step_tokens placeless_step spells_step roll-CStep step_level step_bare step_ok (record { member = member; index = index })
step_levels_at member None = record { tokens_are = rw fold-roll-CStep refl; bare_is = rw fold-roll-CStep refl; ok_is = rw fold-roll-CStep refl }
step_levels_at member (Some i) = record { tokens_are = rw fold-roll-CStep refl; bare_is = rw fold-roll-CStep refl; ok_is = rw fold-roll-CStep refl }

pub step_levels : (z : Steps) → Levels step_tokens placeless_step spells_step roll-CStep step_level step_bare step_ok z
step_levels z = step_levels_at z.member z.index

-- two levels that are told apart by their tokens alone
abbrev pub OnlyLevel : {A L : Type 0} → (L → List Token) → (L → A) → (L → Bool) → (List Token → Bool) → L → Type 0
OnlyLevel {A} {L} level bare ok off x =
    (z : L) → ok x ≡ true → ok z ≡ true → (a b : List Token) → off a ≡ true → off b ≡ true → level x ++ a ≡ level z ++ b →
    (bare x ≡ bare z) × (a ≡ b)

module _ {A L : Type 0} (tokens : A → List Token) (bare : A → A) (ok : A → Bool) (off : List Token → Bool) (roll : L → A)
    (level : L → List Token) (bare_level : L → A) (ok_level : L → Bool)
    (levels : (z : L) → Levels tokens bare ok roll level bare_level ok_level z) where
  only_roll : (x : L) → OnlyLevel level bare_level ok_level off x → ok (roll x) ≡ true → (z : L) → ok (roll z) ≡ true →
      (a b : List Token) → off a ≡ true → off b ≡ true
      → tokens (roll x) ++ a ≡ tokens (roll z) ++ b → (bare (roll x) ≡ bare (roll z)) × (a ≡ b)
  only_roll x one h z k a b s t e =
      let m = one z (sym (levels x).ok_is ∙ h) (sym (levels z).ok_is ∙ k) a b s t
      (sym (ap (λ ts. ts ++ a) (levels x).tokens_are) ∙ (e ∙ ap (λ ts. ts ++ b) (levels z).tokens_are)) in
      ((levels x).bare_is ∙ (m.0 ∙ sym (levels z).bare_is), m.1)

  -- a whole is told by its tokens where its level is
  pub only_whole : (out : A → L) → ((y : A) → roll (out y) ≡ y) → (x : L) → OnlyLevel level bare_level ok_level off x →
      Only tokens bare ok off (roll x)
  only_whole out back x one h y =
      subst (λ (y : A). ok y ≡ true → (a b : List Token) → off a ≡ true → off b ≡ true → tokens (roll x) ++ a ≡ tokens y ++ b →
      (bare (roll x) ≡ bare y) × (a ≡ b))
      (back y) (only_roll x one h (out y))

  -- what holds of the tokens of every level holds of those of every whole
  pub by_level : (out : A → L) → ((y : A) → roll (out y) ≡ y) → (P : List Token → Type 0) →
      ((z : L) → ok_level z ≡ true → P (level z)) → (y : A) → ok y ≡ true → P (tokens y)
  by_level out back P each y =
      subst (λ (y : A). ok y ≡ true → P (tokens y)) (back y)
      (λ (h : ok (roll (out y)) ≡ true). subst P (sym (levels (out y)).tokens_are) (each (out y) (sym (levels (out y)).ok_is ∙ h)))
