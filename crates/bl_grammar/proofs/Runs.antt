-- How a stack goes on from token to token.
use Rattle.std.proofs.Common.{◌≡◌, Bool, true, false, List, [], ◌∷◌, ◌++◌, sym, ◌∙◌, subst, append_assoc, append-nil}
use Rattle.std.specs.Prelude.{Option, Some, None}
use Rattle.bl_grammar.specs.declared.symbol.Symbol.{Symbol}
use Rattle.bl_grammar.specs.declared.symbol.Symbol.TheVariants.{Terminal, Nonterminal}
use Rattle.bl_grammar.specs.Derivations.{Begins}
use Rattle.bl_grammar.specs.Derivations.Derives.{terminal}
use Rattle.bl_grammar.specs.Predictive
use Rattle.bl_grammar.specs.Predictive.{Tables, IsPredictive, Good}
use Rattle.bl_grammar.specs.Runs.{Spells, StackCompletes, StackExpands, StackTakes, StackRefuses}
use Rattle.bl_grammar.proofs.Predictive.{leads, same_some, no_some, not_both, fold_in, terminal_first, good_expand, step, vanish_end, spells_end, complete}

module _ {K P T : Type 0} (Produces : P → Option T → List (Symbol K P) → Type 0) (matches : K → T → Bool) (tables : Tables K P T)
    (right : IsPredictive Produces matches tables) where
  -- before any token the stack is the part alone
  pub starts : (A : P) → StackCompletes Produces matches tables A [] (Nonterminal A ∷ [])
  starts A = record { good = ((λ t none. absurd (no_some t (sym none))), tt); there = λ more d. d; back = λ more d. d }

  pub opened : (t : T) (stack : List (Symbol K P)) → Good Produces matches tables stack → StackExpands Produces matches tables t stack stack
  opened t stack good = record { good = good; there = λ more d. d; back = λ more d. d }

  -- the production that the next token decides on stands for the same as its part
  pub expand : (t : T) (stack : List (Symbol K P)) (A : P) (ss p : List (Symbol K P)) →
      StackExpands Produces matches tables t stack (Nonterminal A ∷ ss) → tables.pick A t ≡ Some p →
      StackExpands Produces matches tables t stack (p ++ ss)
  expand t stack A ss p now picked = record {
    good = good_expand Produces matches tables right A ss (Some t) p now.good (right.picked A t p picked);
    there = λ more d. let h = step Produces matches tables right A ss t more now.good (now.there more d) in
        subst (λ (q : List (Symbol K P)). Spells Produces matches tables (q ++ ss) (t ∷ more)) (same_some _ _ (sym h.1 ∙ picked)) h.2;
    back = λ more d. now.back more (fold_in Produces matches p (right.picked A t p picked) d);
  }

  pub take : (t : T) (stack : List (Symbol K P)) (k : K) (ss : List (Symbol K P)) →
      StackExpands Produces matches tables t stack (Terminal k ∷ ss) → matches k t ≡ true → StackTakes Produces matches tables t stack ss
  take t stack k ss now is = record {
    good = now.good;
    there = λ more d. (terminal_first Produces matches (now.there more d)).1;
    back = λ more d. now.back more (with_token is d);
  }
    where
      with_token : {more : List T} → matches k t ≡ true → Spells Produces matches tables ss more →
          Spells Produces matches tables (Terminal k ∷ ss) (t ∷ more)
      with_token is d = terminal is d

  pub refuse_other : (t : T) (stack : List (Symbol K P)) (k : K) (ss : List (Symbol K P)) →
      StackExpands Produces matches tables t stack (Terminal k ∷ ss) → matches k t ≡ false → StackRefuses Produces matches tables t stack
  refuse_other t stack k ss now other more d = not_both _ (terminal_first Produces matches (now.there more d)).0 other

  pub refuse_unpicked : (t : T) (stack : List (Symbol K P)) (A : P) (ss : List (Symbol K P)) →
      StackExpands Produces matches tables t stack (Nonterminal A ∷ ss) → tables.pick A t ≡ None → StackRefuses Produces matches tables t stack
  refuse_unpicked t stack A ss now none more d = let h = step Produces matches tables right A ss t more now.good (now.there more d) in
      no_some h.0 (sym none ∙ h.1)

  pub refuse_more : (t : T) (stack : List (Symbol K P)) → StackExpands Produces matches tables t stack [] → StackRefuses Produces matches tables t stack
  refuse_more t stack now more d = no_some t (sym (leads Produces matches tables right (now.there more d)))

  -- one token more
  pub next : (A : P) (front : List T) (t : T) (stack rest : List (Symbol K P)) → StackCompletes Produces matches tables A front stack →
      StackTakes Produces matches tables t stack rest → StackCompletes Produces matches tables A (front ++ t ∷ []) rest
  next A front t stack rest stands takes = record {
    good = takes.good;
    there = λ more d. takes.there more (stands.there (t ∷ more)
        (subst (Spells Produces matches tables (Nonterminal A ∷ [])) (append_assoc front (t ∷ []) more) d));
    back = λ more d. subst (Spells Produces matches tables (Nonterminal A ∷ [])) (sym (append_assoc front (t ∷ []) more))
        (stands.back (t ∷ more) (takes.back more d));
  }

  -- the tokens before are the front of a text, and with a token that is refused they aren't
  pub begins : (A : P) (front : List T) (stack : List (Symbol K P)) → StackCompletes Produces matches tables A front stack → Begins Produces matches A front
  begins A front stack stands = let h = complete Produces matches tables right stack in (h.tokens, stands.back h.tokens h.spells)

  pub begins_not : (A : P) (front : List T) (t : T) (stack : List (Symbol K P)) → StackCompletes Produces matches tables A front stack →
      StackRefuses Produces matches tables t stack → ¬ Begins Produces matches A (front ++ t ∷ [])
  begins_not A front t stack stands refuses b = refuses b.0
      (stands.there (t ∷ b.0) (subst (Spells Produces matches tables (Nonterminal A ∷ [])) (append_assoc front (t ∷ []) b.0) b.1))

  -- the whole is a text exactly where the stack that is left may stand for nothing
  pub accepts : (A : P) (tokens : List T) (stack : List (Symbol K P)) → StackCompletes Produces matches tables A tokens stack →
      Predictive.vanish Produces matches tables stack ≡ true → Spells Produces matches tables (Nonterminal A ∷ []) tokens
  accepts A tokens stack stands vanish = subst (Spells Produces matches tables (Nonterminal A ∷ [])) (append-nil tokens)
      (stands.back [] (spells_end Produces matches tables right stack vanish))

  pub rejects : (A : P) (tokens : List T) (stack : List (Symbol K P)) → StackCompletes Produces matches tables A tokens stack →
      Predictive.vanish Produces matches tables stack ≡ false → ¬ Spells Produces matches tables (Nonterminal A ∷ []) tokens
  rejects A tokens stack stands vanish d = not_both _
      (vanish_end Produces matches tables right stack (stands.there []
      (subst (Spells Produces matches tables (Nonterminal A ∷ [])) (sym (append-nil tokens)) d))) vanish
