-- In a stack whose parts are followed by nothing that they avoid, what stands for each part is one.
use Rattle.std.proofs.Common.{◌≡◌, Bool, List, [], ◌∷◌, ◌++◌, refl, sym, ◌∙◌, subst}
use Rattle.std.specs.Prelude.{Option, Some}
use Rattle.bl_grammar.specs.declared.symbol.Symbol.{Symbol}
use Rattle.bl_grammar.specs.declared.symbol.Symbol.TheVariants.{Terminal, Nonterminal}
use Rattle.bl_grammar.specs.Derivations.{Derives, next_of}
use Rattle.bl_grammar.specs.Derivations.Derives.{done, terminal, part}
use Rattle.bl_grammar.specs.Predictive
use Rattle.bl_grammar.specs.Predictive.{Tables, IsPredictive}
use Rattle.bl_grammar.proofs.Predictive.{join, leads, good_expand, forced_pick, same_some}

module _ {K P T : Type 0} (Produces : P → Option T → List (Symbol K P) → Type 0) (matches : K → T → Bool) (tables : Tables K P T)
    (right : IsPredictive Produces matches tables) where
  abbrev Spells : List (Symbol K P) → List T → List T → Type 0
  Spells symbols tokens left = Derives Produces matches symbols tokens left

  abbrev Good : List (Symbol K P) → Type 0
  Good stack = Predictive.Good Produces matches tables stack

  nothing : {tokens left : List T} → Spells [] tokens left → tokens ≡ left
  nothing done = refl

  terminal_rest : {class : K} {symbols : List (Symbol K P)} {token : T} {tokens left : List T} →
      Spells (Terminal class ∷ symbols) (token ∷ tokens) left → Spells symbols tokens left
  terminal_rest (terminal m r) = r

  -- no tokens are left of none
  none_left : {symbols : List (Symbol K P)} {tokens left : List T} → Spells symbols tokens left → tokens ≡ [] → left ≡ []
  none_left done e = e
  none_left (terminal m r) e = cc
  none_left (part made inner r) e = none_left r (none_left inner e)

  -- the production and what is left of the tokens after it
  record Made (A : P) (symbols : List (Symbol K P)) (tokens left : List T) : Type 0 where
    production : List (Symbol K P)
    made : Produces A (next_of tokens) production
    between : List T
    first : Spells production tokens between
    rest : Spells symbols between left

  made_of : {A : P} {symbols : List (Symbol K P)} {tokens left : List T} → Spells (Nonterminal A ∷ symbols) tokens left → Made A symbols tokens left
  made_of (part made inner r) = record { production = _; made = made; between = _; first = inner; rest = r }

  -- what is left after the symbols is one, where all the others go on to the end
  Ends : (symbols : List (Symbol K P)) (tokens left : List T) → Type 0
  Ends symbols tokens left = (ys : List (Symbol K P)) (other : List T) → Good (symbols ++ ys) → Spells ys left [] →
      Spells symbols tokens other → Spells ys other [] → left ≡ other

  by_production : (A : P) (p ss : List (Symbol K P)) (tokens between left : List T) → Produces A (next_of tokens) p →
      Spells p tokens between → Spells ss between left → Ends p tokens between → Ends ss between left → Ends (Nonterminal A ∷ ss) tokens left
  unfolding Ends
  by_production A p ss [] between left made inner r one_inner one_rest ys other good after second second_after =
      none_left r (none_left inner refl) ∙ sym (none_left second refl)
  by_production A p ss (t ∷ ts) between left made inner r one_inner one_rest ys other good after second second_after =
      let h : Made A ss (t ∷ ts) other = made_of second in
      let here = forced_pick Produces matches tables right A (ss ++ ys) t (next_of between) good p made
      (leads Produces matches tables right inner) (leads Produces matches tables right (join Produces matches r after)) in
      let there = forced_pick Produces matches tables right A (ss ++ ys) t (next_of h.between) good h.production h.made
      (leads Produces matches tables right h.first) (leads Produces matches tables right (join Produces matches h.rest second_after)) in
      let same : p ≡ h.production = same_some _ _ (sym here ∙ there) in
      let middle : between ≡ h.between = one_inner (ss ++ ys) h.between
      (good_expand Produces matches tables right A (ss ++ ys) (Some t) p good made) (join Produces matches r after)
      (subst (λ (q : List (Symbol K P)). Spells q (t ∷ ts) h.between) (sym same) h.first) (join Produces matches h.rest second_after) in
      one_rest ys other good.1 after (subst (λ (b : List T). Spells ss b other) (sym middle) h.rest) second_after

  ends : {symbols : List (Symbol K P)} {tokens left : List T} → Spells symbols tokens left → Ends symbols tokens left
  unfolding Ends
  ends done ys other good after second second_after = nothing second
  ends (terminal m r) ys other good after second second_after = ends r ys other good after (terminal_rest second) second_after
  ends (part {A = A} {production = p} {symbols = ss} {tokens = ts} {between = bs} {left = ls} made inner r) ys other good after second second_after =
      by_production A p ss ts bs ls made inner r (ends inner) (ends r) ys other good after second second_after

  pub one_split : (xs ys : List (Symbol K P)) (tokens left other : List T) → Good (xs ++ ys) → Spells xs tokens left → Spells ys left [] →
      Spells xs tokens other → Spells ys other [] → left ≡ other
  unfolding Ends
  one_split xs ys tokens left other good first after second second_after = ends first ys other good after second second_after
