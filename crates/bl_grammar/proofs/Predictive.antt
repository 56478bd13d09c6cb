-- One token decides: the theorems on grammars with right tables.
use Rattle.std.proofs.Common.{◌≡◌, ℕ, zero, suc, ◌+◌, ◌<◌, ◌≤◌, Bool, true, false, cond, ◌&&◌, ◌||◌, ◌⊎◌, inl, inr, ⊎_elim, List, [], ◌∷◌, ◌++◌, length, refl}
use Rattle.std.proofs.Common.{sym, subst, arith}
use Rattle.std.specs.Prelude.{Option, Some, None}
use Rattle.bl_grammar.specs.declared.symbol.Symbol.{Symbol}
use Rattle.bl_grammar.specs.declared.symbol.Symbol.TheVariants.{Terminal, Nonterminal}
use Rattle.bl_grammar.specs.Derivations.{Derives, next_of}
use Rattle.bl_grammar.specs.Derivations.Derives.{done, terminal, part}
use Rattle.bl_grammar.specs.Predictive
use Rattle.bl_grammar.specs.Predictive.{Tables, IsPredictive}

pub or_left : (a b : Bool) → a ≡ true → a || b ≡ true
or_left a b e = rw e refl

pub or_right : (a b : Bool) → b ≡ true → a || b ≡ true
or_right true b e = refl
or_right false b e = e

pub and_both : (a b : Bool) → a ≡ true → b ≡ true → a && b ≡ true
and_both a b ea eb = rw (ea, eb) refl

pub and_left : (a b : Bool) → a && b ≡ true → a ≡ true
and_left true b e = refl
and_left false b e = e

pub and_right : (a b : Bool) → a && b ≡ true → b ≡ true
and_right true b e = e
and_right false b e = cc

pub same_some : {A : Type 0} (a b : A) → Some a ≡ Some b → a ≡ b
same_some a b e = cc

pub no_some : {A : Type 0} (a : A) → ◌≡◌ {A = Option A} None (Some a) → ⊥
no_some a e = cc

pub not_both : (b : Bool) → b ≡ true → b ≡ false → ⊥
not_both b t f = cc

module _ {K P T : Type 0} (Produces : P → Option T → List (Symbol K P) → Type 0) (matches : K → T → Bool) where
  abbrev pub Spells : List (Symbol K P) → List T → List T → Type 0
  Spells symbols tokens left = Derives Produces matches symbols tokens left

  -- what stands for the one and then what stands for the other
  pub join : {xs ys : List (Symbol K P)} {tokens between left : List T} → Spells xs tokens between → Spells ys between left →
      Spells (xs ++ ys) tokens left
  join done d = d
  join (terminal m r) d = terminal m (join r d)
  join (part made inner r) d = part made inner (join r d)

  pub record Split (xs ys : List (Symbol K P)) (tokens left : List T) : Type 0 where
    pub between : List T
    pub first : Spells xs tokens between
    pub second : Spells ys between left

  pub split : (xs : List (Symbol K P)) {ys : List (Symbol K P)} {tokens left : List T} → Spells (xs ++ ys) tokens left → Split xs ys tokens left
  split [] d = record { between = _; first = done; second = d }
  split (Terminal k ∷ xs) (terminal m r) = let h = split xs r in record { between = h.between; first = terminal m h.first; second = h.second }
  split (Nonterminal A ∷ xs) (part made inner r) = let h = split xs r in record { between = h.between; first = part made inner h.first; second = h.second }

  pub record Expansion (A : P) (symbols : List (Symbol K P)) (tokens left : List T) : Type 0 where
    pub production : List (Symbol K P)
    pub made : Produces A (next_of tokens) production
    pub between : List T
    pub first : Spells production tokens between
    pub rest : Spells symbols between left

  pub expansion : {A : P} {symbols : List (Symbol K P)} {tokens left : List T} → Spells (Nonterminal A ∷ symbols) tokens left →
      Expansion A symbols tokens left
  expansion (part made inner r) = record { production = _; made = made; between = _; first = inner; rest = r }

  -- what stands for a production stands for its part
  pub fold_in : {A : P} {symbols : List (Symbol K P)} {tokens left : List T} (production : List (Symbol K P)) →
      Produces A (next_of tokens) production → Spells (production ++ symbols) tokens left → Spells (Nonterminal A ∷ symbols) tokens left
  fold_in production made d = let h = split production d in part made h.first h.second

  pub terminal_first : {class : K} {symbols : List (Symbol K P)} {token : T} {tokens left : List T} →
      Spells (Terminal class ∷ symbols) (token ∷ tokens) left → (matches class token ≡ true) × Spells symbols tokens left
  terminal_first (terminal m r) = (m, r)

  module _ (tables : Tables K P T) (right : IsPredictive Produces matches tables) where
    abbrev Leads : List (Symbol K P) → Option T → Option T → Type 0
    Leads = Predictive.Leads Produces matches tables

    abbrev Good : List (Symbol K P) → Type 0
    Good = Predictive.Good Produces matches tables

    -- what a derivation begins with is what the tables say
    pub leads : {symbols : List (Symbol K P)} {tokens left : List T} → Spells symbols tokens left → Leads symbols (next_of tokens) (next_of left)
    leads done = refl
    leads (terminal m r) = (_, refl, m)
    leads (part {A = A} {production = p} {symbols = ss} {tokens = ts} {between = bs} {left = ls} made inner r) =
        by_production p (right.headed made) (leads inner) (leads r)
      where
        by_production : (p : List (Symbol K P)) → Predictive.IsHeaded Produces matches tables A (next_of ts) p →
            Leads p (next_of ts) (next_of bs) → Leads ss (next_of bs) (next_of ls) → Leads (Nonterminal A ∷ ss) (next_of ts) (next_of ls)
        by_production [] headed here after = inr (headed, subst (λ n. Leads ss n (next_of ls)) (sym here) after)
        by_production (Terminal k ∷ q) headed here after = inl (here.0, here.1, headed here.0 here.1 here.2)
        by_production (Nonterminal B ∷ q) headed here after =
            ⊎_elim (λ h. inl (h.0, h.1, headed.1 h.0 h.1 h.2)) (λ h. absurd (not_both _ h.0 headed.0)) here

    -- what can begin symbols before others begins the ones, or the others where the ones stand for nothing
    leads_append : (q : List (Symbol K P)) (ss : List (Symbol K P)) (t : T) → Leads (q ++ ss) (Some t) None
        → (Predictive.heads Produces matches tables q t ≡ true) ⊎ ((Predictive.vanish Produces matches tables q ≡ true) × Leads ss (Some t) None)
    leads_append [] ss t l = inr (refl, l)
    leads_append (Terminal k ∷ q) ss t l = inl (subst (λ (x : T). matches k x ≡ true) (sym (same_some _ _ l.1)) l.2)
    leads_append (Nonterminal B ∷ q) ss t l =
        ⊎_elim (λ h. inl (or_left _ _ (subst (λ (x : T). tables.begins B x ≡ true) (sym (same_some _ _ h.1)) h.2)))
        (λ h. ⊎_elim (λ heads. inl (or_right (tables.begins B t) _ (and_both _ _ h.0 heads))) (λ v. inr (and_both _ _ h.0 v.0, v.1))
        (leads_append q ss t h.1))
        l

    -- a production in place of its part keeps a stack good
    good_append : (A : P) (ss : List (Symbol K P)) → Good (Nonterminal A ∷ ss) → (p : List (Symbol K P)) →
        Predictive.Follow Produces matches tables A p → Good (p ++ ss)
    good_append A ss good [] follow = good.1
    good_append A ss good (Terminal k ∷ q) follow = good_append A ss good q follow
    good_append A ss good (Nonterminal B ∷ q) follow =
        ((λ t l. ⊎_elim (λ heads. follow.0 t heads) (λ v. follow.1 v.0 t (good.0 t v.1)) (leads_append q ss t l)), good_append A ss good q follow.2)

    pub good_expand : (A : P) (ss : List (Symbol K P)) (next : Option T) (p : List (Symbol K P)) → Good (Nonterminal A ∷ ss) →
        Produces A next p → Good (p ++ ss)
    good_expand A ss next p good made = good_append A ss good p (right.follow made)

    -- the production that a derivation uses is the one that the next token decides on
    pub forced_pick : (A : P) (ss : List (Symbol K P)) (t : T) (end : Option T) → Good (Nonterminal A ∷ ss) → (p : List (Symbol K P)) →
        Produces A (Some t) p → Leads p (Some t) end → Leads ss end None → tables.pick A t ≡ Some p
    forced_pick A ss t end good p made = by_cases p (right.headed made) (right.forced made)
      where
        by_cases : (p : List (Symbol K P)) → Predictive.IsHeaded Produces matches tables A (Some t) p →
            Predictive.IsForced Produces matches tables A t p → Leads p (Some t) end → Leads ss end None → tables.pick A t ≡ Some p
        by_cases [] headed forced here after = forced (good.0 t (subst (λ n. Leads ss n None) (sym here) after))
        by_cases (Terminal k ∷ q) headed forced here after = forced (subst (λ (x : T). matches k x ≡ true) (sym (same_some _ _ here.1)) here.2)
        by_cases (Nonterminal B ∷ q) headed forced here after =
            ⊎_elim (λ h. forced (subst (λ (x : T). tables.begins B x ≡ true) (sym (same_some _ _ h.1)) h.2)) (λ h. absurd (not_both _ h.0 headed.0)) here

    pub step : (A : P) (ss : List (Symbol K P)) (t : T) (ts : List T) → Good (Nonterminal A ∷ ss) →
        Spells (Nonterminal A ∷ ss) (t ∷ ts) [] → (p : List (Symbol K P)) × (tables.pick A t ≡ Some p) × Spells (p ++ ss) (t ∷ ts) []
    step A ss t ts good d = let e = expansion d in (
      e.production,
      forced_pick A ss t (next_of e.between) good e.production e.made (leads e.first) (leads e.rest),
      join e.first e.rest,
    )

    -- at the end of the tokens the parts that are left are absent
    vanish_of : (ss : List (Symbol K P)) → Leads ss None None → Predictive.vanish Produces matches tables ss ≡ true
    vanish_of [] l = refl
    vanish_of (Terminal k ∷ ss) l = absurd (no_some _ l.1)
    vanish_of (Nonterminal A ∷ ss) l = ⊎_elim (λ h. absurd (no_some _ h.1)) (λ h. and_both _ _ h.0 (vanish_of ss h.1)) l

    pub vanish_end : (ss : List (Symbol K P)) → Spells ss [] [] → Predictive.vanish Produces matches tables ss ≡ true
    vanish_end ss d = vanish_of ss (leads d)

    pub spells_end : (ss : List (Symbol K P)) → Predictive.vanish Produces matches tables ss ≡ true → Spells ss [] []
    spells_end [] v = done
    spells_end (Terminal k ∷ ss) v = absurd (not_both true refl (sym v))
    spells_end (Nonterminal A ∷ ss) v = part (right.ends A (and_left _ _ v)) done (spells_end ss (and_right (tables.absent A) _ v))

    -- tokens that stand for the symbols and go on with what is left
    pub record Completed (ss : List (Symbol K P)) (left : List T) : Type 0 where
      pub tokens : List T
      pub spells : Spells ss tokens left
      pub neutral : Predictive.IsNeutral Produces matches tables (next_of tokens)

    Completes : P → Type 0
    Completes A = (left : List T) → Predictive.IsNeutral Produces matches tables (next_of left) → Completed (Nonterminal A ∷ []) left

    one_then : (A : P) (ss : List (Symbol K P)) (left : List T) → Completes A → Completed ss left → Completed (Nonterminal A ∷ ss) left
    unfolding Completes
    one_then A ss left completes rest =
        let h = completes rest.tokens rest.neutral in record { tokens = h.tokens; spells = join h.spells rest.spells; neutral = h.neutral }

    token_then : (k : K) (ss : List (Symbol K P)) (left : List T) → Completed ss left → Completed (Terminal k ∷ ss) left
    token_then k ss left rest = let s = right.samples k in record { tokens = tables.sample k ∷ rest.tokens; spells = terminal s.0 rest.spells; neutral = s.1 }

    complete_lower : (n : ℕ) → ((A : P) → tables.height A < n → Completes A) → (ss : List (Symbol K P)) →
        Predictive.AreLower Produces matches tables n ss → (left : List T) → Predictive.IsNeutral Produces matches tables (next_of left) →
        Completed ss left
    complete_lower n each [] lower left neutral = record { tokens = left; spells = done; neutral = neutral }
    complete_lower n each (Terminal k ∷ ss) lower left neutral = token_then k ss left (complete_lower n each ss lower left neutral)
    complete_lower n each (Nonterminal A ∷ ss) lower left neutral = one_then A ss left (each A lower.0) (complete_lower n each ss lower.1 left neutral)

    complete_part : (n : ℕ) (A : P) → tables.height A < n → Completes A
    unfolding Completes
    complete_part zero A below left neutral = absurd (omega (arith, below))
    complete_part (suc n) A below left neutral =
        let h = complete_lower (tables.height A) (λ B lower. complete_part n B (omega (arith, below, lower))) (tables.easy A) (right.lower A) left neutral in
        record { tokens = h.tokens; spells = part (right.easy A (next_of h.tokens) h.neutral) h.spells done; neutral = h.neutral }

    pub complete : (ss : List (Symbol K P)) → Completed ss []
    complete [] = record { tokens = []; spells = done; neutral = tt }
    complete (Terminal k ∷ ss) = token_then k ss [] (complete ss)
    complete (Nonterminal A ∷ ss) = one_then A ss [] (complete_part (suc (tables.height A)) A (omega arith)) (complete ss)

    low : (ss : List (Symbol K P)) → 0 < tables.limit → Predictive.level Produces matches tables ss < tables.limit + length ss
    low [] some = omega (arith, some)
    low (Terminal k ∷ ss) some = omega (arith, some)
    low (Nonterminal A ∷ ss) some = by_absent (tables.absent A) (right.ranked A).2
      where
        by_absent : (b : Bool) → tables.rank A ≤ tables.limit → cond b (tables.limit + length ss) (tables.rank A) < tables.limit + suc (length ss)
        by_absent true most = omega arith
        by_absent false most = omega (arith, most)

    -- a production in place of its part brings the next token nearer
    pub descend : (A : P) (ss : List (Symbol K P)) (t : T) (p : List (Symbol K P)) → tables.pick A t ≡ Some p →
        Predictive.level Produces matches tables (p ++ ss) < Predictive.level Produces matches tables (Nonterminal A ∷ ss)
    descend A ss t p picked = by_cases p (right.descends A t p picked)
      where
        ranked : (0 < tables.rank A) × (0 < tables.limit) × (tables.rank A ≤ tables.limit)
        ranked = right.ranked A

        above : (b : Bool) (n : ℕ) → (b ≡ true → n < tables.limit) → (b ≡ false → n < tables.rank A) →
            n < cond b (tables.limit + length ss) (tables.rank A)
        above true n absent not_absent = omega (arith, absent refl)
        above false n absent not_absent = not_absent refl

        by_cases : (p : List (Symbol K P)) → Predictive.Descends Produces matches tables A p →
            Predictive.level Produces matches tables (p ++ ss) < Predictive.level Produces matches tables (Nonterminal A ∷ ss)
        by_cases [] absent = rw absent (low ss ranked.1)
        by_cases (Terminal k ∷ q) _ = above (tables.absent A) 0 (λ _. ranked.1) (λ _. ranked.0)
        by_cases (Nonterminal B ∷ q) d = rw d.0 (above (tables.absent A) (tables.rank B) d.1 d.2)
