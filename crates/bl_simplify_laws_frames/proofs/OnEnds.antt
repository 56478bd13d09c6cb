-- How statements end in which no `break` or `return` stands.
use Rattle.std.proofs.Common.{◌≡◌, ℕ, zero, suc, ◌+◌, ℤ, Bool, true, false, not, ◌||◌, List, [], ◌∷◌, map, Option, Some, None, refl}
use Rattle.std.proofs.lemmas.List.Elements.{All-cons, All-head, All-nil, All-tail}
use Rattle.std.specs.Prelude.{All, is_some, if◌then◌else◌}
use Rattle.bl_tree.specs.Numbers.{is_one}
use Rattle.bl_tree.specs.declared.place.Place.{Place}
use Rattle.bl_tree.specs.declared.c.CExpr.{CExpr}
use Rattle.bl_tree.specs.declared.c.CStmt.{CStmt, fold-roll-CStmt}
use Rattle.bl_tree.specs.declared.c.CStmtKind.{fold-roll-CStmtKind}
use Rattle.bl_tree.specs.declared.c.CStmtKind.TheOpen.{CStmtKind-F}
use Rattle.bl_ctext_semantics.specs.Course.{End, goes_on, breaks, returns, traps, Outcome, ended_by, ending, following_end, loop_with_turns}
use Rattle.bl_ctext_semantics.specs.Course.{going, result_at, turn_end, turn_limit, turn_or_none}
use Rattle.bl_ctext_semantics.specs.Meaning.{CStmtMeaning, Counted, Scope, block_c, block_of, call_c, call_end, given}
use Rattle.bl_ctext_semantics.specs.Meaning.{location_c, next, once_more, runs_c, value_c}
use Rattle.bl_ctext_semantics.specs.Memory.{Memory, scalar_number, set_at, zeros}
use Rattle.bl_ctext_semantics.proofs.Induction.{Optional, StmtCases, induct_stmt, stmt}
use Rattle.bl_simplify_laws_frames.specs.Reached.{Ends, ends_in, goes_through, none_ends}

-- an end that these ends allow
abbrev Allows : Ends → End → Type 0
Allows ends goes_on = Unit {0}
Allows ends breaks = ends.breaks ≡ true
Allows ends (returns n) = ends.returns ≡ true
Allows ends traps = Unit {0}

or-first : (a b : Bool) → a ≡ true → (a || b) ≡ true
or-first true b h = refl
or-first false b h = cc

or-second : (a b : Bool) → b ≡ true → (a || b) ≡ true
or-second true b h = refl
or-second false b h = h

module _ (scope : Scope) where
  abbrev RunEnds : Ends → (Memory → Outcome Memory) → Type 0
  RunEnds ends f = (m : Memory) → Allows ends (f m).end

  -- fewer ends allow less
  allows-first : (one : Ends) (others : List Ends) (e : End) → Allows one e → Allows (none_ends (one ∷ others)) e
  allows-first one others goes_on h = tt
  allows-first one others breaks h = or-first one.breaks (none_ends others).breaks h
  allows-first one others (returns n) h = or-first one.returns (none_ends others).returns h
  allows-first one others traps h = tt

  allows-rest : (one : Ends) (others : List Ends) (e : End) → Allows (none_ends others) e → Allows (none_ends (one ∷ others)) e
  allows-rest one others goes_on h = tt
  allows-rest one others breaks h = or-second one.breaks (none_ends others).breaks h
  allows-rest one others (returns n) h = or-second one.returns (none_ends others).returns h
  allows-rest one others traps h = tt

  ended-ends : {A : Type 0} (ends : Ends) (m : Memory) (n : ℕ) (o : Option A) (f : A → Outcome Memory) → ((a : A) → Allows ends (f a).end) →
      Allows ends (ended_by m n o f).end
  ended-ends ends m n None f h = tt
  ended-ends ends m n (Some a) f h = h a

  following-ends : (ends : Ends) (n : ℕ) (m : Memory) (e : End) (f : Memory → Outcome Memory) → Allows ends e → RunEnds ends f →
      Allows ends (following_end n m e f).end
  following-ends ends n m goes_on f h k = k m
  following-ends ends n m breaks f h k = h
  following-ends ends n m (returns r) f h k = h
  following-ends ends n m traps f h k = tt

  abbrev OfStmt : CStmt → Type 0
  OfStmt s = RunEnds (ends_in s) (runs_c s scope)

  block-ends : (stmts : List CStmt) → All OfStmt stmts → RunEnds (none_ends (map ends_in stmts)) (block_of (map runs_c stmts) scope)
  block-ends [] h m = tt
  block-ends (s ∷ stmts) h m =
      following-ends (none_ends (map ends_in (s ∷ stmts))) (runs_c s scope m).count (runs_c s scope m).memory (runs_c s scope m).end
      (block_of (map runs_c stmts) scope)
      (allows-first (ends_in s) (map ends_in stmts) (runs_c s scope m).end (All-head OfStmt s stmts h m))
      (λ k. allows-rest (ends_in s) (map ends_in stmts) (block_of (map runs_c stmts) scope k).end (block-ends stmts (All-tail OfStmt s stmts h) k))

  chosen-ends : (ends : Ends) (b : Bool) (f g : CStmtMeaning) → RunEnds ends (f scope) → RunEnds ends (g scope) →
      RunEnds ends ((if b then f else g) scope)
  chosen-ends ends true f g h k = h
  chosen-ends ends false f g h k = k

  if-ends : (at : Place) (e : CExpr) (block : List CStmt) (more : Option (List CStmt)) → All OfStmt block → Optional (All OfStmt) more →
      OfStmt (stmt at (CStmtKind-F.If e block more))
  if-ends at e block None h k m =
      rw (fold-roll-CStmt, fold-roll-CStmtKind, fold-roll-CStmt, fold-roll-CStmtKind)
      (ended-ends (none_ends (none_ends (map ends_in block) ∷ none_ends [] ∷ [])) m _ (value_c e scope m).answer _
      (λ v. chosen-ends (none_ends (none_ends (map ends_in block) ∷ none_ends [] ∷ [])) (is_one (scalar_number v)) (block_of (map runs_c block))
      (block_of [])
      (λ k. allows-first (none_ends (map ends_in block)) (none_ends [] ∷ []) (block_of (map runs_c block) scope k).end (block-ends block h k)) (λ k. tt) m))
  if-ends at e block (Some more) h k m =
      rw (fold-roll-CStmt, fold-roll-CStmtKind, fold-roll-CStmt, fold-roll-CStmtKind)
      (ended-ends (none_ends (none_ends (map ends_in block) ∷ none_ends (map ends_in more) ∷ [])) m _ (value_c e scope m).answer _
      (λ v. chosen-ends (none_ends (none_ends (map ends_in block) ∷ none_ends (map ends_in more) ∷ [])) (is_one (scalar_number v))
      (block_of (map runs_c block)) (block_of (map runs_c more))
      (λ k. allows-first (none_ends (map ends_in block)) (none_ends (map ends_in more) ∷ []) (block_of (map runs_c block) scope k).end (block-ends block h k))
      (λ j. allows-rest (none_ends (map ends_in block)) (none_ends (map ends_in more) ∷ []) (block_of (map runs_c more) scope j).end
      (allows-first (none_ends (map ends_in more)) [] (block_of (map runs_c more) scope j).end (block-ends more k j))) m))

  return-ends : (at : Place) (e : Option CExpr) → OfStmt (stmt at (CStmtKind-F.Return e))
  return-ends at None m = rw (fold-roll-CStmt, fold-roll-CStmtKind, fold-roll-CStmt, fold-roll-CStmtKind) refl
  return-ends at (Some e) m =
      rw (fold-roll-CStmt, fold-roll-CStmtKind, fold-roll-CStmt, fold-roll-CStmtKind)
      (ended-ends (record { breaks = false; returns = true }) m _ (value_c e scope m).answer _ (λ v. refl))

  call-ends : (ends : Ends) (result : Option ℤ) → Allows ends (call_end result)
  call-ends ends None = tt
  call-ends ends (Some n) = tt

  -- ---- loops

  turn-ends : (body : Ends) (n : ℕ) (m : Memory) (e : End) (f : Memory → Outcome Memory) → Allows body e →
      RunEnds (record { breaks = false; returns = body.returns }) f → Allows (record { breaks = false; returns = body.returns }) (turn_end n m e f).end
  turn-ends body n m goes_on f h k = k m
  turn-ends body n m breaks f h k = tt
  turn-ends body n m (returns r) f h k = h
  turn-ends body n m traps f h k = tt

  loop-ends : (body : Ends) (n : ℕ) (once : (Memory → Outcome Memory) → Memory → Outcome Memory) (f : Memory → Outcome Memory) →
      ((g : Memory → Outcome Memory) → RunEnds (record { breaks = false; returns = body.returns }) g →
      RunEnds (record { breaks = false; returns = body.returns }) (once g)) →
      RunEnds body f → RunEnds (record { breaks = false; returns = body.returns }) (loop_with_turns n once f)
  unfolding loop_with_turns
  loop-ends body zero once f asks h = asks (ending traps) (λ m. tt)
  loop-ends body (suc n) once f asks h =
      asks (λ m. let o = f m in turn_end o.count o.memory o.end (loop_with_turns n once f))
      (λ m. turn-ends body (f m).count (f m).memory (f m).end (loop_with_turns n once f) (h m) (loop-ends body n once f asks h))

  turn-or-none-ends : (ends : Ends) (b : Bool) (m : Memory) (f : Memory → Outcome Memory) → RunEnds ends f → Allows ends (turn_or_none b m f).end
  turn-or-none-ends ends true m f h = h m
  turn-or-none-ends ends false m f h = tt

  stmt_cases : StmtCases OfStmt
  stmt_cases = record {
    set = λ at p e m.
        let set : Counted Memory = next (location_c p scope m) (λ l. next (value_c e scope m) (λ v. given (Some (set_at m l v)))) in
        rw (fold-roll-CStmt, fold-roll-CStmtKind, fold-roll-CStmt, fold-roll-CStmtKind)
        (ended-ends (record { breaks = false; returns = false }) m (1 + set.count) set.answer going (λ n. tt));
    clear = λ at p name m.
        rw (fold-roll-CStmt, fold-roll-CStmtKind, fold-roll-CStmt, fold-roll-CStmtKind)
        (ended-ends (record { breaks = false; returns = false }) m (1 + (location_c p scope m).count) (location_c p scope m).answer
        (λ l. going (set_at m l zeros)) (λ n. tt));
    call = λ at c m.
        rw (fold-roll-CStmt, fold-roll-CStmtKind, fold-roll-CStmt, fold-roll-CStmtKind)
        (call-ends (record { breaks = false; returns = false }) (call_c c scope m).result);
    branching = if-ends;
    loop = λ at turn e body h m.
        let ends : Ends = record { breaks = false; returns = (none_ends (map ends_in body)).returns } in
        rw (fold-roll-CStmt, fold-roll-CStmtKind, fold-roll-CStmt, fold-roll-CStmtKind)
        (loop-ends (none_ends (map ends_in body)) turn_limit (once_more (value_c e) scope) (block_of (map runs_c body) scope)
        (λ g like k. ended-ends ends k _ (value_c e scope k).answer _ (λ v. turn-or-none-ends ends (is_one (scalar_number v)) k g like))
        (block-ends body h) m);
    break = λ at m. rw (fold-roll-CStmt, fold-roll-CStmtKind, fold-roll-CStmt, fold-roll-CStmtKind) refl;
    returns = return-ends;
  }

  stmt-ends : (s : CStmt) → OfStmt s
  stmt-ends = induct_stmt OfStmt stmt_cases

  every : (stmts : List CStmt) → All OfStmt stmts
  every [] = All-nil OfStmt
  every (s ∷ stmts) = All-cons OfStmt s stmts (stmt-ends s) (every stmts)

  -- a block without `break` and `return` of its own that doesn't trap goes on
  pub block-goes : (stmts : List CStmt) → goes_through stmts ≡ true → (m : Memory) → is_some (result_at (block_c stmts scope m).end) ≡ true →
      (block_c stmts scope m).end ≡ goes_on
  block-goes stmts through m some =
      by (none_ends (map ends_in stmts)) (block_c stmts scope m).end (block-ends stmts (every stmts) m) through some
    where
      none : (a b : Bool) → not (a || b) ≡ true → a ≡ true → ⊥
      none true b h e = cc
      none false b h e = cc

      neither : (a b : Bool) → not (a || b) ≡ true → b ≡ true → ⊥
      neither true b h e = cc
      neither false true h e = cc
      neither false false h e = cc

      by : (ends : Ends) (e : End) → Allows ends e → not (ends.breaks || ends.returns) ≡ true → is_some (result_at e) ≡ true → e ≡ goes_on
      by ends goes_on h none some = refl
      by ends breaks h nothing some = absurd (none ends.breaks ends.returns nothing h)
      by ends (returns n) h nothing some = absurd (neither ends.breaks ends.returns nothing h)
      by ends traps h nothing some = cc
