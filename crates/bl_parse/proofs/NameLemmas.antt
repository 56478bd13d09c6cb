-- What stands behind a name in an expression, where it isn't called.
use Rattle.std.proofs.Common.{◌≡◌, ℕ, Bool, true, false, cond, ◌||◌, List, [], ◌∷◌, ◌++◌, refl, sym, ◌∙◌, subst}
use Rattle.std.specs.Prelude.{Option, Some, None, slice_get, option_map}
use Rattle.bl_tree.specs.declared.token.Token.{Token}
use Rattle.bl_grammar.proofs.Predictive.{fold_in}
use Rattle.bl_lex.specs.declared.sign.TheConstants.{DOT, OPEN_BRACKET, OPEN_PAREN}
use Rattle.bl_parse_syntax.specs.declared.grammar.Class.{Class}
use Rattle.bl_parse_syntax.specs.declared.grammar.Class.TheVariants.{Mark}
use Rattle.bl_parse_syntax.specs.declared.grammar.TokenView.{TokenView}
use Rattle.bl_parse_syntax.specs.declared.grammar.Part.TheVariants.{NameUse, Access, Accesses}
use Rattle.bl_parse_syntax.specs.Grammar.{Piece, the, matches, Produces}
use Rattle.bl_parse_syntax.specs.Grammar.IsAmong.{here, later}
use Rattle.bl_parse_syntax.specs.Tables.{has, or_absent}
use Rattle.bl_parse_syntax.specs.Follow.{avoided}
use Rattle.bl_parse_syntax.specs.Stack.{IsGood}
use Rattle.bl_parse_syntax.specs.Expects.{Expects}
use Rattle.bl_parse_syntax.proofs.Expecting.{expects_production, expects_absent}
use Rattle.bl_parse.specs.inner.Reading.{left, next_among, NoneNext, Turns}
use Rattle.bl_parse.proofs.ReadLemmas.{picks, pick_is, stands_at}

fewer : (a b c : Bool) → a || (b || (c || false)) ≡ false → a || (b || false) ≡ false
fewer true b c e = e
fewer false true c e = e
fewer false false c e = refl

good_accesses : (rest : List Piece) → IsGood (the NameUse ∷ rest) → IsGood (the Accesses ∷ rest)
unfolding avoided
good_accesses rest good = (λ token leads. fewer _ _ _ (good.0 token leads), good.1)

-- the production of either part by the same test
by_test : (on : Bool) (p : List Piece) → or_absent true (cond on (Some (the Access ∷ the Accesses ∷ [])) None) ≡ Some p →
    (next : Option TokenView) → Produces Accesses next p
by_test true p e next = subst (Produces Accesses next) (same e) (here, refl)
  where
    same : Some (the Access ∷ the Accesses ∷ []) ≡ Some p → (the Access ∷ the Accesses ∷ []) ≡ p
    same e = cc
by_test false p e next = subst (Produces Accesses next) (same e) (later here, refl)
  where
    same : ◌≡◌ {A = Option (List Piece)} (Some []) (Some p) → ◌≡◌ {A = List Piece} [] p
    same e = cc

not_called : (a b : Bool) (q p : List Piece) → a ≡ false →
    or_absent true (cond a (Some q) (cond b (Some p) None)) ≡ or_absent true (cond b (Some p) None)
not_called a b q p off = rw off refl

name_picks : (c : Class) → has (Mark OPEN_PAREN ∷ []) c ≡ false →
    picks NameUse c ≡ or_absent true (cond (has (Mark DOT ∷ Mark OPEN_BRACKET ∷ []) c) (Some (the Access ∷ the Accesses ∷ [])) None)
name_picks c off = not_called _ _ _ _ off

over : (ts : List TokenView) (rest : List Piece) → ((v : TokenView) (vs : List TokenView) → ts ≡ v ∷ vs →
    has (Mark OPEN_PAREN ∷ []) v.class ≡ false) → Expects (the NameUse ∷ rest) ts → Expects (the Accesses ∷ rest) ts
over [] rest off e = record {
  good = good_accesses rest e.good;
  spells =
      fold_in Produces matches [] (later here, refl) (expects_absent NameUse rest e).1.spells;
}
over (v ∷ vs) rest off e =
    let h = expects_production NameUse rest v vs e in
    record {
      good = good_accesses rest e.good;
      spells =
          fold_in Produces matches h.0
          (by_test _ h.0 (sym (name_picks v.class (off v vs refl)) ∙ (sym (pick_is NameUse v refl) ∙ h.1)) (Some v)) h.2.spells;
    }

off_view : (tokens : List Token) (k : ℕ) → NoneNext (Mark OPEN_PAREN ∷ []) tokens k → (v : TokenView) (vs : List TokenView) →
    left tokens k ≡ v ∷ vs → has (Mark OPEN_PAREN ∷ []) v.class ≡ false
off_view tokens k off v vs is = by_token (slice_get tokens k) refl
  where
    by_token : (found : Option Token) → slice_get tokens k ≡ found → has (Mark OPEN_PAREN ∷ []) v.class ≡ false
    by_token None at = absurd (no_views (sym ((stands_at tokens k).none at) ∙ is))
      where
        no_views : [] ≡ v ∷ vs → ⊥
        no_views e = cc
    by_token (Some token) at = let s = (stands_at tokens k).some token at in
        subst (λ c. has (Mark OPEN_PAREN ∷ []) c ≡ false) (sym (class_same (sym is ∙ s.2) ∙ s.3))
        (subst (λ o. next_among (Mark OPEN_PAREN ∷ []) (option_map (λ token. token.kind) o) ≡ false) at off.off)
      where
        class_same : {v w : TokenView} {vs ws : List TokenView} → v ∷ vs ≡ w ∷ ws → v.class ≡ w.class
        class_same e = cc

-- the use of a name, where no `(` stands, is fields and indices
pub as_accesses : {tokens : List Token} {k : ℕ} {b : List Piece} → NoneNext (Mark OPEN_PAREN ∷ []) tokens k →
    Turns (the NameUse ∷ b) tokens k (the Accesses ∷ b) k
as_accesses {tokens} {k} {b} off = record {
  goes =
      λ rest e. record { within = e.within; expects = over (left tokens k) (b ++ rest) (off_view tokens k off) e.expects };
}
