-- A failing place of each rule is one, and what is found is the first failure.
use Rattle.std.proofs.Common.{◌≡◌, ℕ, ◌≤◌, List, [], ◌∷◌, ◌++◌, length, take, refl, ap, sym, ◌∙◌, subst, append_assoc, append-nil, inl, inr, arith}
use Rattle.std.proofs.Math.Seq.{take-append_seam}
use Rattle.bl_tree.specs.declared.place.Place.{Place}
use Rattle.bl_tree.specs.declared.rule.Rule.{Rule}
use Rattle.bl_tree.specs.declared.rule.Rule.TheVariants as rule
use Rattle.bl_tree.specs.declared.token.Token.{Token}
use Rattle.bl_tree.specs.Rules.{number_of}
use Rattle.bl_parse_syntax.specs.Depth.{IsTooDeep}
use Rattle.bl_parse_syntax.specs.Rules.{FailsDepth, PassesDepth, SpellsProgram, BeginsProgram, FailsAtToken, FailsSyntax, Fails, FailsFirst, Passes}

-- of two tokens of a list, each with those before it: they are one, or the one stands before the other
data Order (before : List Token) (token : Token) (front : List Token) (other : Token) : Type 0 where
  same : token ≡ other → Order before token front other
  earlier : (back : List Token) → front ≡ before ++ token ∷ [] ++ back → Order before token front other
  later : (back : List Token) → before ≡ front ++ other ∷ [] ++ back → Order before token front other

order : (before : List Token) (token : Token) (after front : List Token) (other : Token) (back : List Token)
    → before ++ token ∷ after ≡ front ++ other ∷ back → Order before token front other
order [] token after [] other back e = same cc
order [] token after (x ∷ front) other back e = earlier front (let h : x ≡ token = cc in ap (λ y. y ∷ front) h)
order (y ∷ before) token after [] other back e = later before (let h : y ≡ other = cc in ap (λ x. x ∷ before) h)
order (y ∷ before) token after (x ∷ front) other back e =
    let head : y ≡ x = cc in let tail : before ++ token ∷ after ≡ front ++ other ∷ back = cc in
    more y x head (order before token after front other back tail)
  where
    more : (y x : Token) → y ≡ x → Order before token front other → Order (y ∷ before) token (x ∷ front) other
    more y x head (same e) = same e
    more y x head (earlier rest e) = earlier rest (ap (λ (zs : List Token). x ∷ zs) e ∙ ap (λ z. z ∷ (before ++ token ∷ [] ++ rest)) (sym head))
    more y x head (later rest e) = later rest (ap (λ (zs : List Token). y ∷ zs) e ∙ ap (λ z. z ∷ (front ++ other ∷ [] ++ rest)) head)

-- a front of what passes isn't too deep
front_passes : (front back whole : List Token) → whole ≡ front ++ back → PassesDepth whole → ¬ IsTooDeep front
front_passes front back whole is passes deep =
    passes (length front) (subst IsTooDeep (sym (ap (take (length front)) is ∙ take-append_seam front back)) deep)

-- a front of what begins a program begins one
front_begins : (front back whole : List Token) → whole ≡ front ++ back → BeginsProgram whole → BeginsProgram front
front_begins front back whole is begins =
    (back ++ begins.0, subst SpellsProgram (ap (λ (ts : List Token). ts ++ begins.0) is ∙ append_assoc front back begins.0) begins.1)

one_deep : (tokens : List Token) (place elsewhere : Place) → FailsDepth tokens place → FailsDepth tokens elsewhere → place ≡ elsewhere
one_deep tokens place elsewhere a b = by_order (order a.before a.token a.after b.before b.token b.after (sym a.stands ∙ b.stands))
  where
    by_order : Order a.before a.token b.before b.token → place ≡ elsewhere
    by_order (same e) = a.at ∙ ap (λ (t : Token). t.place) e ∙ sym b.at
    by_order (earlier back e) = absurd (front_passes (a.before ++ a.token ∷ []) back b.before e b.first a.too_deep)
    by_order (later back e) = absurd (front_passes (b.before ++ b.token ∷ []) back a.before e a.first b.too_deep)

deep_or_not : (tokens : List Token) (place : Place) → FailsDepth tokens place → ¬ PassesDepth tokens
deep_or_not tokens place a passes =
    front_passes (a.before ++ a.token ∷ []) a.after tokens (a.stands ∙ sym (append_assoc a.before (a.token ∷ []) a.after)) passes a.too_deep

token_or_begins : (tokens : List Token) (place : Place) → FailsAtToken tokens place → ¬ BeginsProgram tokens
token_or_begins tokens place a begins =
    a.ends (front_begins (a.before ++ a.token ∷ []) a.after tokens (a.stands ∙ sym (append_assoc a.before (a.token ∷ []) a.after)) begins)

one_token : (tokens : List Token) (place elsewhere : Place) → FailsAtToken tokens place → FailsAtToken tokens elsewhere → place ≡ elsewhere
one_token tokens place elsewhere a b = by_order (order a.before a.token a.after b.before b.token b.after (sym a.stands ∙ b.stands))
  where
    by_order : Order a.before a.token b.before b.token → place ≡ elsewhere
    by_order (same e) = a.at ∙ ap (λ (t : Token). t.place) e ∙ sym b.at
    by_order (earlier back e) = absurd (a.ends (front_begins (a.before ++ a.token ∷ []) back b.before e b.begins))
    by_order (later back e) = absurd (b.ends (front_begins (b.before ++ b.token ∷ []) back a.before e a.begins))

one_syntax : (size : ℕ) (tokens : List Token) (place elsewhere : Place) → FailsSyntax size tokens place →
    FailsSyntax size tokens elsewhere → place ≡ elsewhere
one_syntax size tokens place elsewhere (inl a) (inl b) = one_token tokens place elsewhere a b
one_syntax size tokens place elsewhere (inl a) (inr b) = absurd (token_or_begins tokens place a b.begins)
one_syntax size tokens place elsewhere (inr a) (inl b) = absurd (token_or_begins tokens elsewhere b a.begins)
one_syntax size tokens place elsewhere (inr a) (inr b) = a.at ∙ sym b.at

-- where a token is too deep, this is the first failure
pub first_depth : (size : ℕ) (tokens : List Token) (place : Place) → FailsDepth tokens place → FailsFirst size tokens rule.Depth place []
first_depth size tokens place fails = record {
  fails = (fails, refl);
  least_rule = least;
  least_places = λ elsewhere further f. inr (one_deep tokens place elsewhere fails f.0, tt);
}
  where
    least : (other : Rule) (elsewhere : Place) (further : List Place) → Fails size tokens other elsewhere further → 4 ≤ number_of other
    least rule.Depth elsewhere further f = omega arith
    least rule.Syntax elsewhere further f = omega arith
    least _ elsewhere further f = absurd f

-- where none is, the failure of the grammar is
pub first_syntax : (size : ℕ) (tokens : List Token) (place : Place) → PassesDepth tokens → FailsSyntax size tokens place
    → FailsFirst size tokens rule.Syntax place []
first_syntax size tokens place passes fails = record {
  fails = (fails, refl);
  least_rule = least;
  least_places = λ elsewhere further f. inr (one_syntax size tokens place elsewhere fails f.0, tt);
}
  where
    least : (other : Rule) (elsewhere : Place) (further : List Place) → Fails size tokens other elsewhere further → 5 ≤ number_of other
    least rule.Depth elsewhere further f = absurd (deep_or_not tokens elsewhere f.0 passes)
    least rule.Syntax elsewhere further f = omega arith
    least _ elsewhere further f = absurd f

begins_itself : (tokens : List Token) → SpellsProgram tokens → BeginsProgram tokens
begins_itself tokens spells = ([], subst SpellsProgram (sym (append-nil tokens)) spells)

no_syntax : (size : ℕ) (tokens : List Token) (place : Place) → SpellsProgram tokens → ¬ FailsSyntax size tokens place
no_syntax size tokens place spells (inl f) = token_or_begins tokens place f (begins_itself tokens spells)
no_syntax size tokens place spells (inr f) = f.no_program spells

pub no_failure : (size : ℕ) (tokens : List Token) (rule : Rule) (place : Place) (also : List Place) → Passes tokens → ¬ Fails size tokens rule place also
no_failure size tokens rule.Depth place also passes f = deep_or_not tokens place f.0 passes.depth
no_failure size tokens rule.Syntax place also passes f = no_syntax size tokens place passes.syntax f.0
no_failure size tokens _ place also passes f = f
