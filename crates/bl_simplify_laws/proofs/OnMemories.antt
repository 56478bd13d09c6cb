-- A C function depends on nothing but what it gets pointers to: from memories that are the same there it does the same there.
use Rattle.std.proofs.Common.{◌≡◌, ℕ, zero, suc, ◌+◌, ℤ, pos, Bool, true, false, ◌||◌, List, [], ◌∷◌, ◌++◌, map, Option, Some, None}
use Rattle.std.proofs.Common.{refl, ap, sym, subst, ◌∙◌}
use Rattle.std.proofs.lemmas.List.Elements.{All-cons, All-head, All-nil, All-tail}
use Rattle.std.specs.List.{list_any}
use Rattle.std.specs.Prelude.{All, bytes_eq, option_map, unwrap_or, if◌then◌else◌}
use Rattle.bl_tree.specs.Numbers.{checked_of, is_one}
use Rattle.bl_tree.specs.Reduce.{joined}
use Rattle.bl_tree.specs.declared.text.Text.{Text}
use Rattle.bl_tree.specs.declared.place.Place.{Place}
use Rattle.bl_tree.specs.declared.scalar.Scalar.TheVariants.{Bool as OfBool}
use Rattle.bl_tree.specs.declared.scalar.Op.{Op}
use Rattle.bl_tree.specs.declared.scalar.Op.TheVariants.{Add, Sub, Mul, Div, Rem, Minus, BitAnd, BitOr, BitXor, BitNot, Shl, Shr}
use Rattle.bl_tree.specs.declared.scalar.Op.TheVariants.{Eq, Ne, Lt, Le, Gt, Ge, And, Or, Not}
use Rattle.bl_tree.specs.declared.c.CArg.{CArg, fold-CArg, fold-roll-CArg}
use Rattle.bl_tree.specs.declared.c.CCall.{CCall, fold-roll-CCall}
use Rattle.bl_tree.specs.declared.c.CExpr.{CExpr, fold-roll-CExpr}
use Rattle.bl_tree.specs.declared.c.CExprKind.{CExprKind, fold-CExprKind, fold-roll-CExprKind}
use Rattle.bl_tree.specs.declared.c.CFunc.{CFunc}
use Rattle.bl_tree.specs.declared.c.CIndex.{CIndex, fold-CIndex, fold-roll-CIndex}
use Rattle.bl_tree.specs.declared.c.CParam.{CParam}
use Rattle.bl_tree.specs.declared.c.CPlace.{CPlace, fold-roll-CPlace, roll-CPlace}
use Rattle.bl_tree.specs.declared.c.CStep.{CStep, fold-CStep, fold-roll-CStep, roll-CStep}
use Rattle.bl_tree.specs.declared.c.CStmt.{CStmt, fold-roll-CStmt}
use Rattle.bl_tree.specs.declared.c.CStmtKind.{fold-roll-CStmtKind}
use Rattle.bl_tree.specs.declared.c.CStmtKind.TheOpen.{CStmtKind-F}
use Rattle.bl_ctext.specs.declared.builtin.Builtin.{Builtin}
use Rattle.bl_ctext_semantics.specs.Builtin.{builtin_of, builtin_value}
use Rattle.bl_ctext_semantics.specs.Course.{Outcome, ended_by, ending, following, going, loop_with_turns}
use Rattle.bl_ctext_semantics.specs.Course.{traps, turn_end, turn_limit, turn_or_none}
use Rattle.bl_ctext_semantics.specs.Meaning.{ArgumentValue, CStmtMeaning, CallResult, Counted, Evaluates, Meaning, Scope, at_once, block_c, block_of}
use Rattle.bl_ctext_semantics.specs.Meaning.{by_address, by_value, call_c, call_end, called_after, called_as, each_of, function_c, given}
use Rattle.bl_ctext_semantics.specs.Meaning.{location_c, named_location, next, number_of_passed, once_more, pointers_of, result_of, runs_c, two_values}
use Rattle.bl_ctext_semantics.specs.Meaning.{value_c, with_params}
use Rattle.bl_ctext_semantics.specs.Memory.{CValue, Location, Memory, Root, in_frame, same_root, scalar, scalar_number}
use Rattle.bl_ctext_semantics.specs.Memory.{set_at, value_at, variable, with_part, without_frame, zeros}
use Rattle.bl_ctext_semantics.specs.Tables.{Table, found, table_of}
use Rattle.bl_ctext_semantics.proofs.Folds.{arg_c, index_c, kind_c, step_c}
use Rattle.bl_ctext_semantics.proofs.Induction.{ExprCases, Optional, StmtCases, induct_call, induct_expr, induct_place, induct_stmt, stmt}
use Rattle.bl_simplify_laws.specs.Frames.{DependsOnPassed, FunctionsKeep, PassedCounts, SameAt, SameCallAt, TableDepends}
use Rattle.bl_simplify_laws.specs.Live.{SameSeenAt, arg_reads, call_reads, expr_reads, index_reads, kind_reads, place_reads, read_by}
use Rattle.bl_simplify_laws.specs.Live.{read_in_call, read_in_expr, read_in_place, step_reads}
use Rattle.bl_simplify_laws.specs.Observed.{Observed, SeenCall, broke, call_seen_at, failed, gave, returned, observed, observed_at, seen_call, trapped, went_on}
use Rattle.bl_simplify_laws.specs.Spots.{spot_of_place}
use Rattle.bl_simplify_laws.specs.Tables.{has_name}
use Rattle.bl_simplify_laws.proofs.OnFrames.{functions-leave}
use Rattle.bl_simplify_laws.proofs.OnOutcomes.{following-seen, next-same, then_seen, turn-seen, turn_seen}
use Rattle.bl_simplify_laws.proofs.OnSpots.{InSpot, depth-itself, name-itself, next-has, next-with, place-in-spot, some-of}
use Rattle.bl_simplify_laws.proofs.OnTables.{call-seen, leaving, left-seen, of_call}

-- ---- names in lists

any-left : {A : Type 0} (f : A → Bool) (xs ys : List A) → list_any f xs ≡ true → list_any f (xs ++ ys) ≡ true
any-left f [] ys h = cc
any-left f (x ∷ xs) ys h = by (f x) (any-left f xs ys) h
  where
    by : (b : Bool) → (list_any f xs ≡ true → list_any f (xs ++ ys) ≡ true) → (b || list_any f xs) ≡ true → (b || list_any f (xs ++ ys)) ≡ true
    by true later h = refl
    by false later h = later h

any-right : {A : Type 0} (f : A → Bool) (xs ys : List A) → list_any f ys ≡ true → list_any f (xs ++ ys) ≡ true
any-right f [] ys h = h
any-right f (x ∷ xs) ys h = by (f x) (any-right f xs ys h)
  where
    by : (b : Bool) → list_any f (xs ++ ys) ≡ true → (b || list_any f (xs ++ ys)) ≡ true
    by true later = refl
    by false later = later

pub name-left : (names others : List Text) (name : Text) → has_name names name ≡ true → has_name (names ++ others) name ≡ true
name-left names others name h = any-left (λ n. bytes_eq n name) names others h

pub name-right : (names others : List Text) (name : Text) → has_name others name ≡ true → has_name (names ++ others) name ≡ true
name-right names others name h = any-right (λ n. bytes_eq n name) names others h

-- ---- outcomes from two memories

-- what is seen, as it is
pub seen-moved : (after breaking gone : Root → Bool) (s t u v : Observed Memory) → s ≡ t → u ≡ v → SameSeenAt after breaking gone t v →
    SameSeenAt after breaking gone s u
seen-moved after breaking gone s t u v is are h =
    subst (λ x. SameSeenAt after breaking gone x u) (sym is) (subst (λ x. SameSeenAt after breaking gone t x) (sym are) h)

module _ (middle after breaking gone : Root → Bool) where
  -- what follows
  pub then-at : (s t : Observed Memory) (f g : Memory → Observed Memory) → SameSeenAt middle breaking gone s t →
      ((m n : Memory) → SameAt middle m n → SameSeenAt after breaking gone (f m) (g n)) → SameSeenAt after breaking gone (then_seen s f) (then_seen t g)
  then-at trapped trapped f g h k = tt
  then-at (went_on m) (went_on n) f g h k = k m n h
  then-at (broke m) (broke n) f g h k = h
  then-at (returned a m) (returned b n) f g h k = h
  then-at trapped (went_on n) f g h k = absurd h
  then-at trapped (broke n) f g h k = absurd h
  then-at trapped (returned b n) f g h k = absurd h
  then-at (went_on m) trapped f g h k = absurd h
  then-at (went_on m) (broke n) f g h k = absurd h
  then-at (went_on m) (returned b n) f g h k = absurd h
  then-at (broke m) trapped f g h k = absurd h
  then-at (broke m) (went_on n) f g h k = absurd h
  then-at (broke m) (returned b n) f g h k = absurd h
  then-at (returned a m) trapped f g h k = absurd h
  then-at (returned a m) (went_on n) f g h k = absurd h
  then-at (returned a m) (broke n) f g h k = absurd h

  pub following-at : (o p : Outcome Memory) (f g : Memory → Outcome Memory) → SameSeenAt middle breaking gone (observed o) (observed p) →
      ((m n : Memory) → SameAt middle m n → SameSeenAt after breaking gone (observed (f m)) (observed (g n))) →
      SameSeenAt after breaking gone (observed (following o f)) (observed (following p g))
  following-at o p f g h k =
      seen-moved after breaking gone (observed (following o f)) (then_seen (observed o) (λ m. observed (f m))) (observed (following p g))
      (then_seen (observed p) (λ m. observed (g m)))
      (following-seen o.count o.memory o.end f) (following-seen p.count p.memory p.end g)
      (then-at (observed o) (observed p) (λ m. observed (f m)) (λ m. observed (g m)) h k)

module _ (turns after breaking gone : Root → Bool) where
  -- what follows a turn
  turn-at : (s t : Observed Memory) (f g : Memory → Observed Memory) → SameSeenAt turns after gone s t →
      ((m n : Memory) → SameAt turns m n → SameSeenAt after breaking gone (f m) (g n)) → SameSeenAt after breaking gone (turn_seen s f) (turn_seen t g)
  turn-at trapped trapped f g h k = tt
  turn-at (went_on m) (went_on n) f g h k = k m n h
  turn-at (broke m) (broke n) f g h k = h
  turn-at (returned a m) (returned b n) f g h k = h
  turn-at trapped (went_on n) f g h k = absurd h
  turn-at trapped (broke n) f g h k = absurd h
  turn-at trapped (returned b n) f g h k = absurd h
  turn-at (went_on m) trapped f g h k = absurd h
  turn-at (went_on m) (broke n) f g h k = absurd h
  turn-at (went_on m) (returned b n) f g h k = absurd h
  turn-at (broke m) trapped f g h k = absurd h
  turn-at (broke m) (went_on n) f g h k = absurd h
  turn-at (broke m) (returned b n) f g h k = absurd h
  turn-at (returned a m) trapped f g h k = absurd h
  turn-at (returned a m) (went_on n) f g h k = absurd h
  turn-at (returned a m) (broke n) f g h k = absurd h

  -- two runs from memories that are the same before a turn
  abbrev pub TurnsSame : (Memory → Outcome Memory) → (Memory → Outcome Memory) → Type 0
  TurnsSame f g = (m n : Memory) → SameAt turns m n → SameSeenAt after breaking gone (observed (f m)) (observed (g n))

  pub loop-at : (k : ℕ) (once again : (Memory → Outcome Memory) → Memory → Outcome Memory) (f g : Memory → Outcome Memory) →
      ((f g : Memory → Outcome Memory) → TurnsSame f g → TurnsSame (once f) (again g)) →
      ((m n : Memory) → SameAt turns m n → SameSeenAt turns after gone (observed (f m)) (observed (g n))) →
      TurnsSame (loop_with_turns k once f) (loop_with_turns k again g)
  unfolding loop_with_turns
  loop-at zero once again f g asks body m n same = asks (ending traps) (ending traps) (λ m n same. tt) m n same
  loop-at (suc k) once again f g asks body m n same =
      asks (λ m. let o = f m in turn_end o.count o.memory o.end (loop_with_turns k once f))
      (λ m. let o = g m in turn_end o.count o.memory o.end (loop_with_turns k again g))
      (λ m n same. seen-moved after breaking gone _ _ _ _ (turn-seen (f m).count (f m).memory (f m).end (loop_with_turns k once f))
      (turn-seen (g n).count (g n).memory (g n).end (loop_with_turns k again g))
      (turn-at (observed (f m)) (observed (g n)) (λ m. observed (loop_with_turns k once f m)) (λ m. observed (loop_with_turns k again g m)) (body m n same)
      (loop-at k once again f g asks body)))
      m n same

module _ (after breaking gone : Root → Bool) where
  -- a statement that first evaluates something
  pub ended-at : {A : Type 0} (m n : Memory) (j k : ℕ) (o p : Option A) (f g : A → Outcome Memory) → o ≡ p →
      ((a : A) → SameSeenAt after breaking gone (observed (f a)) (observed (g a))) →
      SameSeenAt after breaking gone (observed (ended_by m j o f)) (observed (ended_by n k p g))
  ended-at {A} m n j k o p f g is h = subst (λ p. SameSeenAt after breaking gone (observed (ended_by m j o f)) (observed (ended_by n k p g))) is (by o)
    where
      by : (o : Option A) → SameSeenAt after breaking gone (observed (ended_by m j o f)) (observed (ended_by n k o g))
      by None = tt
      by (Some a) = h a

-- ---- memories after a place was set

pub set-keeps : (counts : Root → Bool) (m n : Memory) (l : Location) (v : CValue) → SameAt counts m n → SameAt counts (set_at m l v) (set_at n l v)
set-keeps counts m n l v same root is = ap (λ u. if same_root l.root root then with_part u l.parts v else u) (same root is)

-- ---- expressions

-- what a call that is a statement gives
call-at : (counts : Root → Bool) (s t : SeenCall) → SameCallAt counts s t → SameSeenAt counts counts counts (of_call s) (of_call t)
call-at counts failed failed h = tt
call-at counts (gave a m) (gave b n) h = h.1
call-at counts failed (gave b n) h = absurd h
call-at counts (gave a m) failed h = absurd h

result-of : SeenCall → Option ℤ
result-of failed = None
result-of (gave a m) = Some a

result-of-seen : (o : Option ℤ) (m : Memory) → result-of (call_seen_at o m) ≡ o
unfolding result-of
result-of-seen None m = refl
result-of-seen (Some a) m = refl

results-same : (counts : Root → Bool) (s t : SeenCall) → SameCallAt counts s t → result-of s ≡ result-of t
unfolding result-of
results-same counts failed failed h = refl
results-same counts (gave a m) (gave b n) h = ap Some h.0
results-same counts failed (gave b n) h = absurd h
results-same counts (gave a m) failed h = absurd h

module _ (counts : Root → Bool) (scope : Scope) where
  -- all that these names lead to counts
  abbrev pub NamesCount : List Text → Type 0
  NamesCount names = (name : Text) → has_name names name ≡ true → (through : Bool) → counts (named_location scope through name).root ≡ true

  pub count-left : (names others : List Text) → NamesCount (names ++ others) → NamesCount names
  count-left names others h name is = h name (name-left names others name is)

  pub count-right : (names others : List Text) → NamesCount (names ++ others) → NamesCount others
  count-right names others h name is = h name (name-right names others name is)

  count-head : (name : Text) (names : List Text) → NamesCount (name ∷ names) → (through : Bool) → counts (named_location scope through name).root ≡ true
  count-head name names h = h name (ap (λ b. b || has_name names name) (name-itself name))

  count-tail : (name : Text) (names : List Text) → NamesCount (name ∷ names) → NamesCount names
  count-tail name names h other is = h other (name-right (name ∷ []) names other is)

  -- what is evaluated is the same from memories that are the same where it counts
  abbrev Same : {A : Type 0} → Evaluates A → Type 0
  Same evaluate = (m n : Memory) → SameAt counts m n → (evaluate scope m).answer ≡ (evaluate scope n).answer

  abbrev Has : {A : Type 0} → (A → Type 0) → Evaluates A → Type 0
  Has P evaluate = (m : Memory) → Optional P (evaluate scope m).answer

  abbrev Passes : ArgumentValue → Type 0
  Passes a = PassedCounts counts (a ∷ [])

  abbrev arg_names : CArg → List Text
  arg_names = fold-CArg _ _ _ _ _ _ _ arg_reads kind_reads call_reads expr_reads index_reads place_reads step_reads

  abbrev kind_names : CExprKind → List Text
  kind_names = fold-CExprKind _ _ _ _ _ _ _ arg_reads kind_reads call_reads expr_reads index_reads place_reads step_reads

  abbrev index_names : CIndex → List Text
  index_names = fold-CIndex _ _ _ _ _ _ _ arg_reads kind_reads call_reads expr_reads index_reads place_reads step_reads

  abbrev step_names : CStep → List Text
  step_names = fold-CStep _ _ _ _ _ _ _ arg_reads kind_reads call_reads expr_reads index_reads place_reads step_reads

  abbrev OfArg : CArg → Type 0
  OfArg a = NamesCount (arg_names a) → Same (arg_c a) × Has Passes (arg_c a)

  abbrev OfKind : CExprKind → Type 0
  OfKind k = NamesCount (kind_names k) → Same (kind_c k)

  abbrev OfCall : CCall → Type 0
  OfCall c =
      NamesCount (read_in_call c) → (m n : Memory) → SameAt counts m n → SameCallAt counts (seen_call (call_c c scope m)) (seen_call (call_c c scope n))

  abbrev OfExpr : CExpr → Type 0
  OfExpr e = NamesCount (read_in_expr e) → Same (value_c e)

  abbrev OfIndex : CIndex → Type 0
  OfIndex i = NamesCount (index_names i) → Same (index_c i)

  abbrev OfPlace : CPlace → Type 0
  OfPlace p = ((read_in_place p).name ≡ (spot_of_place p).name) × (NamesCount (read_in_place p).inside → Same (location_c p))

  abbrev OfStep : CStep → Type 0
  OfStep s = NamesCount (step_names s) → Same (step_c s)

  -- where a place leads counts if its name does
  place-counts : (p : CPlace) → OfPlace p → ((through : Bool) → counts (named_location scope through (read_in_place p).name).root ≡ true) →
      Has (λ l. counts l.root ≡ true) (location_c p)
  place-counts p h own m = by (location_c p scope m).answer (place-in-spot scope p m)
    where
      by : (o : Option Location) → Optional (InSpot scope (spot_of_place p)) o → Optional (λ l. counts l.root ≡ true) o
      by None inside = tt
      by (Some l) inside =
          ap (λ (x : Location). counts x.root) inside.is
          ∙ ap (λ x. counts (named_location scope (spot_of_place p).through x).root) (sym h.0) ∙ own (spot_of_place p).through

  steps-same : (steps : List CStep) → All OfStep steps → NamesCount (joined (map step_names steps)) → Same (each_of (map step_c steps))
  steps-same [] h names m n same = refl
  steps-same (x ∷ xs) h names m n same =
      next-same (step_c x scope m) (step_c x scope n) _ _
      (All-head OfStep x xs h (count-left (step_names x) (joined (map step_names xs)) names) m n same)
      (λ a. next-same (each_of (map step_c xs) scope m) (each_of (map step_c xs) scope n) _ _
      (steps-same xs (All-tail OfStep x xs h) (count-right (step_names x) (joined (map step_names xs)) names) m n same) (λ others. refl))

  args-same : (xs : List CArg) → All OfArg xs → NamesCount (joined (map arg_names xs)) → Same (each_of (map arg_c xs))
  args-same [] h names m n same = refl
  args-same (x ∷ xs) h names m n same =
      next-same (arg_c x scope m) (arg_c x scope n) _ _
      ((All-head OfArg x xs h (count-left (arg_names x) (joined (map arg_names xs)) names)).0 m n same)
      (λ a. next-same (each_of (map arg_c xs) scope m) (each_of (map arg_c xs) scope n) _ _
      (args-same xs (All-tail OfArg x xs h) (count-right (arg_names x) (joined (map arg_names xs)) names) m n same) (λ others. refl))

  one-more : (a : ArgumentValue) (rest : List ArgumentValue) → Passes a → PassedCounts counts rest → PassedCounts counts (a ∷ rest)
  one-more (by_value v) rest h k = k
  one-more (by_address l) rest h k = (h.0, k)

  args-pass : (xs : List CArg) → All OfArg xs → NamesCount (joined (map arg_names xs)) → Has (PassedCounts counts) (each_of (map arg_c xs))
  args-pass [] h names m = tt
  args-pass (x ∷ xs) h names m =
      next-with Passes (PassedCounts counts) (arg_c x scope m) _
      ((All-head OfArg x xs h (count-left (arg_names x) (joined (map arg_names xs)) names)).1 m)
      (λ a passes. next-with (PassedCounts counts) (PassedCounts counts) (each_of (map arg_c xs) scope m) _
      (args-pass xs (All-tail OfArg x xs h) (count-right (arg_names x) (joined (map arg_names xs)) names) m)
      (λ others rest. one-more a others passes rest))

  choice-same : (b : Bool) (f g : Evaluates CValue) → Same f → Same g → Same (if b then f else g)
  choice-same true f g h k = h
  choice-same false f g h k = k

  both-same : (op : Op) (left right : Evaluates CValue) → Same left → Same right → (m n : Memory) → SameAt counts m n →
      (next (left scope m) (λ a. next (right scope m) (λ b. given (option_map scalar (checked_of op OfBool (scalar_number a) (scalar_number b)))))).answer
      ≡ (next (left scope n) (λ a. next (right scope n) (λ b. given (option_map scalar (checked_of op OfBool (scalar_number a) (scalar_number b)))))).answer
  both-same op left right h k m n same =
      next-same (left scope m) (left scope n) _ _ (h m n same) (λ a. next-same (right scope m) (right scope n) _ _ (k m n same) (λ b. refl))

  once-same : (k : ℤ) → Same (at_once k)
  once-same k m n same = refl

  two-same : (op : Op) (left right : Evaluates CValue) → Same left → Same right → Same (two_values op left right)
  two-same And left right h k m n same =
      next-same (left scope m) (left scope n) _ _ (h m n same)
      (λ a. choice-same (is_one (scalar_number a)) right (at_once (pos 0)) k (once-same (pos 0)) m n same)
  two-same Or left right h k m n same =
      next-same (left scope m) (left scope n) _ _ (h m n same)
      (λ a. choice-same (is_one (scalar_number a)) (at_once (pos 1)) right (once-same (pos 1)) k m n same)
  two-same Not left right h k m n same = both-same Not left right h k m n same
  two-same Minus left right h k m n same = both-same Minus left right h k m n same
  two-same BitNot left right h k m n same = both-same BitNot left right h k m n same
  two-same Add left right h k m n same = both-same Add left right h k m n same
  two-same Sub left right h k m n same = both-same Sub left right h k m n same
  two-same Mul left right h k m n same = both-same Mul left right h k m n same
  two-same Div left right h k m n same = both-same Div left right h k m n same
  two-same Rem left right h k m n same = both-same Rem left right h k m n same
  two-same BitAnd left right h k m n same = both-same BitAnd left right h k m n same
  two-same BitOr left right h k m n same = both-same BitOr left right h k m n same
  two-same BitXor left right h k m n same = both-same BitXor left right h k m n same
  two-same Shl left right h k m n same = both-same Shl left right h k m n same
  two-same Shr left right h k m n same = both-same Shr left right h k m n same
  two-same Eq left right h k m n same = both-same Eq left right h k m n same
  two-same Ne left right h k m n same = both-same Ne left right h k m n same
  two-same Lt left right h k m n same = both-same Lt left right h k m n same
  two-same Le left right h k m n same = both-same Le left right h k m n same
  two-same Gt left right h k m n same = both-same Gt left right h k m n same
  two-same Ge left right h k m n same = both-same Ge left right h k m n same

  read-same : (l : Evaluates Location) → Same l → Has (λ p. counts p.root ≡ true) l →
      Same (λ s m. next (l s m) (λ p. given (Some (value_at m p))))
  read-same l h leads m n same = by (l scope m).answer (l scope n).answer (h m n same) (leads m)
    where
      by : (o p : Option Location) → o ≡ p → Optional (λ (x : Location). counts x.root ≡ true) o →
          (next (record { count = (l scope m).count; answer = o }) (λ p. given (Some (value_at m p)))).answer
          ≡ (next (record { count = (l scope n).count; answer = p }) (λ p. given (Some (value_at n p)))).answer
      by None p is leads = ap (λ p. (next (record { count = (l scope n).count; answer = p }) (λ p. given (Some (value_at n p)))).answer) is
      by (Some x) p is leads =
          (λ i. Some (λ way. same x.root leads i (x.parts ++ way)))
          ∙ ap (λ p. (next (record { count = (l scope n).count; answer = p }) (λ p. given (Some (value_at n p)))).answer) is

  module _ (depends : TableDepends scope.known) where
    as-same : (builtin : Option Builtin) (name : Text) (function : Option Meaning) (passed : List ArgumentValue) (m n : Memory) →
        scope.known name ≡ function → PassedCounts counts passed → SameAt counts m n →
        SameCallAt counts (seen_call (called_as builtin function (scope.depth + 1) passed m))
        (seen_call (called_as builtin function (scope.depth + 1) passed n))
    as-same (Some builtin) name function passed m n is passes same = by (builtin_value builtin (map number_of_passed passed))
      where
        by : (o : Option ℤ) → SameCallAt counts (call_seen_at o m) (call_seen_at o n)
        by None = tt
        by (Some k) = (refl, same)
    as-same None name None passed m n is passes same = tt
    as-same None name (Some meaning) passed m n is passes same = depends name meaning is counts (scope.depth + 1) passed passes m n same

    after-same : (name : Text) (j k : ℕ) (p q : Option (List ArgumentValue)) (m n : Memory) → p ≡ q → Optional (PassedCounts counts) p → SameAt counts m n →
        SameCallAt counts (seen_call (called_after scope m name j p)) (seen_call (called_after scope n name k q))
    after-same name j k p q m n is passes same =
        subst (λ q. SameCallAt counts (seen_call (called_after scope m name j p)) (seen_call (called_after scope n name k q))) is (by p passes)
      where
        by : (o : Option (List ArgumentValue)) → Optional (PassedCounts counts) o →
            SameCallAt counts (seen_call (called_after scope m name j o)) (seen_call (called_after scope n name k o))
        by None passes = tt
        by (Some passed) passes = as-same (builtin_of name) name (scope.known name) passed m n refl passes same

    result-same : (c d : CallResult) → SameCallAt counts (seen_call c) (seen_call d) → (result_of c).answer ≡ (result_of d).answer
    result-same c d h =
        ap (option_map scalar)
        (sym (result-of-seen c.result c.memory) ∙ results-same counts (seen_call c) (seen_call d) h ∙ result-of-seen d.result d.memory)

    of-place : (through : Bool) (name : Text) (steps : List CStep) → All OfStep steps →
        OfPlace (roll-CPlace (record { through = through; name = name; steps = steps }))
    of-place through name steps h = (
      rw (fold-roll-CPlace, fold-roll-CPlace) refl,
      λ names m n same.
          let own : NamesCount (joined (map step_names steps)) = rw fold-roll-CPlace at names in
          rw fold-roll-CPlace
          (next-same (each_of (map step_c steps) scope m) (each_of (map step_c steps) scope n) _ _ (steps-same steps h own m n same) (λ ways. refl)),
    )

    step-same : (name : Text) (i : Option CIndex) → Optional OfIndex i → OfStep (roll-CStep (record { member = name; index = i }))
    step-same name None h names m n same = rw fold-roll-CStep refl
    step-same name (Some i) h names m n same =
        let own : NamesCount (index_names i) = rw fold-roll-CStep at names in
        rw fold-roll-CStep (next-same (index_c i scope m) (index_c i scope n) _ _ (h own m n same) (λ parts. refl))

    expr_cases : ExprCases OfArg OfKind OfCall OfExpr OfIndex OfPlace OfStep
    expr_cases = record {
      value = λ e h names.
          let own : NamesCount (read_in_expr e) = rw fold-roll-CArg at names in (
            λ m n same. rw fold-roll-CArg (next-same (value_c e scope m) (value_c e scope n) _ _ (h own m n same) (λ v. refl)),
            λ m. rw fold-roll-CArg (next-has Passes (value_c e scope m) _ (λ v. tt)),
          );
      address = λ p h names.
          let own : NamesCount ((read_in_place p).name ∷ (read_in_place p).inside) = rw fold-roll-CArg at names in (
            λ m n same. rw fold-roll-CArg
                (next-same (location_c p scope m) (location_c p scope n) _ _
                (h.1 (count-tail (read_in_place p).name (read_in_place p).inside own) m n same) (λ l. refl)),
            λ m. rw fold-roll-CArg
                (next-with (λ (l : Location). counts l.root ≡ true) Passes (location_c p scope m) _
                (place-counts p h (count-head (read_in_place p).name (read_in_place p).inside own) m) (λ l is. (is, tt))),
          );
      literal = λ t k names m n same. rw fold-roll-CExprKind refl;
      read = λ p h names m n same.
          let own : NamesCount ((read_in_place p).name ∷ (read_in_place p).inside) = rw fold-roll-CExprKind at names in
          rw fold-roll-CExprKind
          (read-same (location_c p) (h.1 (count-tail (read_in_place p).name (read_in_place p).inside own))
          (place-counts p h (count-head (read_in_place p).name (read_in_place p).inside own)) m n same);
      call = λ c h names m n same.
          let own : NamesCount (read_in_call c) = rw fold-roll-CExprKind at names in
          rw fold-roll-CExprKind (result-same (call_c c scope m) (call_c c scope n) (h own m n same));
      negation = λ e h names m n same.
          let own : NamesCount (read_in_expr e) = rw fold-roll-CExprKind at names in
          rw fold-roll-CExprKind (next-same (value_c e scope m) (value_c e scope n) _ _ (h own m n same) (λ v. refl));
      two = λ op a b h k names m n same.
          let own : NamesCount (read_in_expr a ++ read_in_expr b) = rw fold-roll-CExprKind at names in
          rw fold-roll-CExprKind
          (two-same op (value_c a) (value_c b) (h (count-left (read_in_expr a) (read_in_expr b) own)) (k (count-right (read_in_expr a) (read_in_expr b) own))
          m n same);
      calling = λ name args h names m n same.
          let own : NamesCount (joined (map arg_names args)) = rw fold-roll-CCall at names in
          rw fold-roll-CCall
          (after-same name (each_of (map arg_c args) scope m).count (each_of (map arg_c args) scope n).count (each_of (map arg_c args) scope m).answer
          (each_of (map arg_c args) scope n).answer m n (args-same args h own m n same) (args-pass args h own m) same);
      expr = λ place what h names m n same.
          let own : NamesCount (kind_names what) = rw fold-roll-CExpr at names in
          rw fold-roll-CExpr (h own m n same);
      index = λ signed at length h names m n same.
          let own : NamesCount (read_in_expr at) = rw fold-roll-CIndex at names in
          rw fold-roll-CIndex (next-same (value_c at scope m) (value_c at scope n) _ _ (h own m n same) (λ k. refl));
      place = of-place;
      step = step-same;
    }

    pub expr-at : (e : CExpr) → OfExpr e
    expr-at = induct_expr OfArg OfKind OfCall OfExpr OfIndex OfPlace OfStep expr_cases

    pub place-at : (p : CPlace) → OfPlace p
    place-at = induct_place OfArg OfKind OfCall OfExpr OfIndex OfPlace OfStep expr_cases

    pub call-same : (c : CCall) → OfCall c
    call-same = induct_call OfArg OfKind OfCall OfExpr OfIndex OfPlace OfStep expr_cases

    -- ---- statements

    abbrev RunSame : (Memory → Outcome Memory) → (Memory → Outcome Memory) → Type 0
    RunSame f g = (m n : Memory) → SameAt counts m n → SameSeenAt counts counts counts (observed (f m)) (observed (g n))

    abbrev OfStmt : CStmt → Type 0
    OfStmt s = NamesCount (read_by s) → RunSame (runs_c s scope) (runs_c s scope)

    block-at : (stmts : List CStmt) → All OfStmt stmts → NamesCount (joined (map read_by stmts)) →
        RunSame (block_of (map runs_c stmts) scope) (block_of (map runs_c stmts) scope)
    block-at [] h names m n same = same
    block-at (s ∷ stmts) h names m n same =
        following-at counts counts counts counts (runs_c s scope m) (runs_c s scope n) (block_of (map runs_c stmts) scope) (block_of (map runs_c stmts) scope)
        (All-head OfStmt s stmts h (count-left (read_by s) (joined (map read_by stmts)) names) m n same)
        (block-at stmts (All-tail OfStmt s stmts h) (count-right (read_by s) (joined (map read_by stmts)) names))

    choose-at : (b : Bool) (f g : CStmtMeaning) → RunSame (f scope) (f scope) → RunSame (g scope) (g scope) →
        RunSame ((if b then f else g) scope) ((if b then f else g) scope)
    choose-at true f g h k = h
    choose-at false f g h k = k

    turn-once : (b : Bool) (f g : Memory → Outcome Memory) → RunSame f g → (m n : Memory) → SameAt counts m n →
        SameSeenAt counts counts counts (observed (turn_or_none b m f)) (observed (turn_or_none b n g))
    turn-once true f g h m n same = h m n same
    turn-once false f g h m n same = same

    if-at : (at : Place) (e : CExpr) (block : List CStmt) (more : Option (List CStmt)) → All OfStmt block → Optional (All OfStmt) more →
        OfStmt (stmt at (CStmtKind-F.If e block more))
    if-at at e block None h k names m n same =
        let own : NamesCount (read_in_expr e ++ (joined (map read_by block) ++ [])) = rw (fold-roll-CStmt, fold-roll-CStmtKind) at names in
        let inner : NamesCount (joined (map read_by block) ++ []) = count-right (read_in_expr e) (joined (map read_by block) ++ []) own in
        rw (fold-roll-CStmt, fold-roll-CStmtKind)
        (ended-at counts counts counts m n _ _ (value_c e scope m).answer (value_c e scope n).answer _ _
        (expr-at e (count-left (read_in_expr e) (joined (map read_by block) ++ []) own) m n same)
        (λ v. choose-at (is_one (scalar_number v)) (block_of (map runs_c block)) (block_of [])
        (block-at block h (count-left (joined (map read_by block)) [] inner)) (λ m n same. same) m n same))
    if-at at e block (Some more) h k names m n same =
        let own : NamesCount (read_in_expr e ++ (joined (map read_by block) ++ joined (map read_by more))) =
        rw (fold-roll-CStmt, fold-roll-CStmtKind) at names in
        let inner : NamesCount (joined (map read_by block) ++ joined (map read_by more)) =
        count-right (read_in_expr e) (joined (map read_by block) ++ joined (map read_by more)) own in
        rw (fold-roll-CStmt, fold-roll-CStmtKind)
        (ended-at counts counts counts m n _ _ (value_c e scope m).answer (value_c e scope n).answer _ _
        (expr-at e (count-left (read_in_expr e) (joined (map read_by block) ++ joined (map read_by more)) own) m n same)
        (λ v. choose-at (is_one (scalar_number v)) (block_of (map runs_c block)) (block_of (map runs_c more))
        (block-at block h (count-left (joined (map read_by block)) (joined (map read_by more)) inner))
        (block-at more k (count-right (joined (map read_by block)) (joined (map read_by more)) inner)) m n same))

    return-at : (at : Place) (e : Option CExpr) → OfStmt (stmt at (CStmtKind-F.Return e))
    return-at at None names m n same = rw (fold-roll-CStmt, fold-roll-CStmtKind) (refl, same)
    return-at at (Some e) names m n same =
        let own : NamesCount (read_in_expr e) = rw (fold-roll-CStmt, fold-roll-CStmtKind) at names in
        rw (fold-roll-CStmt, fold-roll-CStmtKind)
        (ended-at counts counts counts m n _ _ (value_c e scope m).answer (value_c e scope n).answer _ _ (expr-at e own m n same) (λ v. (refl, same)))

    call-is-at : (c d : CallResult) → SameCallAt counts (seen_call c) (seen_call d) →
        SameSeenAt counts counts counts (observed_at (call_end c.result) c.memory) (observed_at (call_end d.result) d.memory)
    call-is-at c d h =
        seen-moved counts counts counts _ _ _ _ (call-seen c.result c.memory) (call-seen d.result d.memory) (call-at counts (seen_call c) (seen_call d) h)

    -- a place and a value that are the same from both memories
    set-at : (m n : Memory) → SameAt counts m n → (place : Counted Location) (other : Counted Location) (value : Counted CValue) (more : Counted CValue) →
        place.answer ≡ other.answer → value.answer ≡ more.answer → (after breaking gone : Root → Bool) →
        ((l : Location) (v : CValue) → place.answer ≡ Some l → SameAt after (set_at m l v) (set_at n l v)) → (j k : ℕ) →
        SameSeenAt after breaking gone
        (observed (ended_by m j (next place (λ p. next value (λ v. given (Some (set_at m p v))))).answer going))
        (observed (ended_by n k (next other (λ p. next more (λ v. given (Some (set_at n p v))))).answer going))
    set-at m n same place other value more is are after breaking gone keeps j k =
        subst
        (λ x. SameSeenAt after breaking gone (observed (ended_by m j (next place (λ p. next value (λ v. given (Some (set_at m p v))))).answer going))
        (observed (ended_by n k (next (record { count = other.count; answer = x }) (λ p. next more (λ v. given (Some (set_at n p v))))).answer going))) is
        (subst
        (λ x. SameSeenAt after breaking gone (observed (ended_by m j (next place (λ p. next value (λ v. given (Some (set_at m p v))))).answer going))
        (observed (ended_by n k (next (record { count = other.count; answer = place.answer })
        (λ p. next (record { count = more.count; answer = x }) (λ v. given (Some (set_at n p v))))).answer going))) are
        (by place.answer value.answer refl))
      where
        by : (o : Option Location) (p : Option CValue) → place.answer ≡ o →
            SameSeenAt after breaking gone
            (observed (ended_by m j (next (record { count = place.count; answer = o })
            (λ l. next (record { count = value.count; answer = p }) (λ v. given (Some (set_at m l v))))).answer going))
            (observed (ended_by n k (next (record { count = other.count; answer = o })
            (λ l. next (record { count = more.count; answer = p }) (λ v. given (Some (set_at n l v))))).answer going))
        by None p e = tt
        by (Some l) None e = tt
        by (Some l) (Some v) e = keeps l v e

    -- an assignment, by what it keeps the same
    pub set-stmt-at : (at : Place) (p : CPlace) (e : CExpr) (after breaking gone : Root → Bool) → NamesCount ((read_in_place p).inside ++ read_in_expr e) →
        (m n : Memory) → SameAt counts m n →
        ((l : Location) (v : CValue) → (location_c p scope m).answer ≡ Some l → SameAt after (set_at m l v) (set_at n l v)) →
        SameSeenAt after breaking gone (observed (runs_c (stmt at (CStmtKind-F.Set p e)) scope m)) (observed (runs_c (stmt at (CStmtKind-F.Set p e)) scope n))
    set-stmt-at at p e after breaking gone names m n same keeps =
        rw (fold-roll-CStmt, fold-roll-CStmtKind)
        (set-at m n same (location_c p scope m) (location_c p scope n) (value_c e scope m) (value_c e scope n)
        ((place-at p).1 (count-left (read_in_place p).inside (read_in_expr e) names) m n same)
        (expr-at e (count-right (read_in_place p).inside (read_in_expr e) names) m n same) after breaking gone keeps _ _)

    clear-at : (m n : Memory) (j k : ℕ) (o p : Option Location) → SameAt counts m n → o ≡ p →
        SameSeenAt counts counts counts (observed (ended_by m j o (λ p. going (set_at m p zeros)))) (observed (ended_by n k p (λ p. going (set_at n p zeros))))
    clear-at m n j k o p same is = ended-at counts counts counts m n j k o p _ _ is (λ l. set-keeps counts m n l zeros same)

    stmt_cases : StmtCases OfStmt
    stmt_cases = record {
      set = λ at p e names m n same.
          let own : NamesCount ((read_in_place p).inside ++ read_in_expr e) = rw (fold-roll-CStmt, fold-roll-CStmtKind) at names in
          set-stmt-at at p e counts counts counts own m n same (λ l v is. set-keeps counts m n l v same);
      clear = λ at p name names m n same.
          let own : NamesCount (read_in_place p).inside = rw (fold-roll-CStmt, fold-roll-CStmtKind) at names in
          rw (fold-roll-CStmt, fold-roll-CStmtKind)
          (clear-at m n _ _ (location_c p scope m).answer (location_c p scope n).answer same ((place-at p).1 own m n same));
      call = λ at c names m n same.
          let own : NamesCount (read_in_call c) = rw (fold-roll-CStmt, fold-roll-CStmtKind) at names in
          rw (fold-roll-CStmt, fold-roll-CStmtKind)
          (call-is-at (call_c c scope m) (call_c c scope n) (call-same c own m n same));
      branching = if-at;
      loop = λ at turn e body h names m n same.
          let own : NamesCount (read_in_expr e ++ joined (map read_by body)) = rw (fold-roll-CStmt, fold-roll-CStmtKind) at names in
          rw (fold-roll-CStmt, fold-roll-CStmtKind)
          (loop-at counts counts counts counts turn_limit (once_more (value_c e) scope) (once_more (value_c e) scope) (block_of (map runs_c body) scope)
          (block_of (map runs_c body) scope)
          (λ f g like k l also. ended-at counts counts counts k l _ _ (value_c e scope k).answer (value_c e scope l).answer _ _
          (expr-at e (count-left (read_in_expr e) (joined (map read_by body)) own) k l also)
          (λ v. turn-once (is_one (scalar_number v)) f g like k l also))
          (block-at body h (count-right (read_in_expr e) (joined (map read_by body)) own)) m n same);
      break = λ at names m n same. rw (fold-roll-CStmt, fold-roll-CStmtKind) same;
      returns = return-at;
    }

    pub stmt-at : (s : CStmt) → OfStmt s
    stmt-at = induct_stmt OfStmt stmt_cases

    every : (stmts : List CStmt) → All OfStmt stmts
    every [] = All-nil OfStmt
    every (s ∷ stmts) = All-cons OfStmt s stmts (stmt-at s) (every stmts)

    pub body-at : (stmts : List CStmt) → NamesCount (joined (map read_by stmts)) → RunSame (block_c stmts scope) (block_c stmts scope)
    body-at stmts names = block-at stmts (every stmts) names

-- ---- functions

-- what counts, and the variables of the running function
abbrev with_frame : (Root → Bool) → ℕ → Root → Bool
with_frame counts depth root = in_frame depth root || counts root

params-same : (counts : Root → Bool) (depth : ℕ) (params : List CParam) (passed : List ArgumentValue) (m n : Memory) → SameAt counts m n →
    SameAt counts (with_params depth params passed m) (with_params depth params passed n)
params-same counts depth [] [] m n same = same
params-same counts depth [] (a ∷ rest) m n same = same
params-same counts depth (p ∷ params) [] m n same = same
params-same counts depth (p ∷ params) (by_value v ∷ rest) m n same =
    params-same counts depth params rest (set_at m (record { root = variable depth p.name; parts = [] }) v)
    (set_at n (record { root = variable depth p.name; parts = [] }) v)
    (set-keeps counts m n (record { root = variable depth p.name; parts = [] }) v same)
params-same counts depth (p ∷ params) (by_address l ∷ rest) m n same = params-same counts depth params rest m n same

begins-same : (counts : Root → Bool) (depth : ℕ) (m n : Memory) → SameAt counts m n → SameAt (with_frame counts depth) (without_frame depth m)
    (without_frame depth n)
begins-same counts depth m n same root is = by (in_frame depth root) is
  where
    by : (b : Bool) → (b || counts root) ≡ true → (if b then zeros else m root) ≡ (if b then zeros else n root)
    by true h = refl
    by false h = same root h

ends-same : (counts : Root → Bool) (depth : ℕ) (m n : Memory) → SameAt (with_frame counts depth) m n →
    SameAt counts (without_frame depth m) (without_frame depth n)
ends-same counts depth m n same root is = by (in_frame depth root) refl
  where
    or-both : (b : Bool) → (b || true) ≡ true
    or-both true = refl
    or-both false = refl

    by : (b : Bool) → in_frame depth root ≡ b → (if b then zeros else m root) ≡ (if b then zeros else n root)
    by true h = refl
    by false h = same root (ap (λ c. in_frame depth root || c) is ∙ or-both (in_frame depth root))

pub leaves-same : (counts : Root → Bool) (depth : ℕ) (s t : Observed Memory) →
    SameSeenAt (with_frame counts depth) (with_frame counts depth) (with_frame counts depth) s t → SameCallAt counts (leaving depth s) (leaving depth t)
leaves-same counts depth trapped trapped h = tt
leaves-same counts depth (went_on m) (went_on n) h = (refl, ends-same counts depth m n h)
leaves-same counts depth (broke m) (broke n) h = (refl, ends-same counts depth m n h)
leaves-same counts depth (returned a m) (returned b n) h = (h.0, ends-same counts depth m n h.1)
leaves-same counts depth trapped (went_on n) h = absurd h
leaves-same counts depth trapped (broke n) h = absurd h
leaves-same counts depth trapped (returned b n) h = absurd h
leaves-same counts depth (went_on m) trapped h = absurd h
leaves-same counts depth (went_on m) (broke n) h = absurd h
leaves-same counts depth (went_on m) (returned b n) h = absurd h
leaves-same counts depth (broke m) trapped h = absurd h
leaves-same counts depth (broke m) (went_on n) h = absurd h
leaves-same counts depth (broke m) (returned b n) h = absurd h
leaves-same counts depth (returned a m) trapped h = absurd h
leaves-same counts depth (returned a m) (went_on n) h = absurd h
leaves-same counts depth (returned a m) (broke n) h = absurd h

pointers-count : (counts : Root → Bool) (params : List CParam) (passed : List ArgumentValue) → PassedCounts counts passed → (name : Text) (l : Location) →
    found name (pointers_of params passed) ≡ Some l → counts l.root ≡ true
pointers-count counts [] [] h name l is = cc
pointers-count counts [] (a ∷ rest) h name l is = cc
pointers-count counts (p ∷ params) [] h name l is = cc
pointers-count counts (p ∷ params) (by_value v ∷ rest) h name l is = pointers-count counts params rest h name l is
pointers-count counts (p ∷ params) (by_address k ∷ rest) h name l is = by (bytes_eq p.name name) (pointers-count counts params rest h.1 name l) is
  where
    by : (b : Bool) → (found name (pointers_of params rest) ≡ Some l → counts l.root ≡ true) →
        (if b then Some k else found name (pointers_of params rest)) ≡ Some l → counts l.root ≡ true
    by true later is = subst (λ (x : Location). counts x.root ≡ true) (some-of k l is) h.0
    by false later is = later is

pub functions-depend : (known : Table Meaning) → TableDepends known → (function : CFunc) → DependsOnPassed (function_c known function)
functions-depend known depends function counts depth passed passes m n same =
    let pointers : Table Location = table_of (pointers_of function.params passed) in
    let scope : Scope = record { known = known; depth = depth; pointers = pointers } in
    let start : Memory → Memory = λ memory. with_params depth function.params passed (without_frame depth memory) in
    let o : Memory → Outcome Memory = λ memory. block_c function.body scope (start memory) in
    subst (λ x. SameCallAt counts x (seen_call (function_c known function depth passed n))) (sym (left-seen depth (o m).end (o m).memory))
    (subst (λ x. SameCallAt counts (leaving depth (observed (o m))) x) (sym (left-seen depth (o n).end (o n).memory))
    (leaves-same counts depth (observed (o m)) (observed (o n))
    (body-at (with_frame counts depth) scope depends function.body all-count (start m) (start n)
    (params-same (with_frame counts depth) depth function.params passed (without_frame depth m) (without_frame depth n) (begins-same counts depth m n same)))))
  where
    own-counts : (name : Text) → with_frame counts depth (variable depth name) ≡ true
    own-counts name = ap (λ b. b || counts (variable depth name)) (depth-itself depth)

    or-right : (b c : Bool) → c ≡ true → (b || c) ≡ true
    or-right true c h = refl
    or-right false c h = h

    at : (name : Text) (o : Option Location) → found name (pointers_of function.params passed) ≡ o →
        with_frame counts depth (unwrap_or o (record { root = variable depth name; parts = [] })).root ≡ true
    at name None is = own-counts name
    at name (Some l) is = or-right (in_frame depth l.root) (counts l.root) (pointers-count counts function.params passed passes name l is)

    all-count : (name : Text) → has_name (joined (map read_by function.body)) name ≡ true → (through : Bool) →
        with_frame counts depth (named_location (record { known = known; depth = depth; pointers = table_of (pointers_of function.params passed) }) through
        name).root ≡ true
    all-count name is false = own-counts name
    all-count name is true = at name (found name (pointers_of function.params passed)) refl

pub functions-keep : FunctionsKeep
functions-keep known keeps function = (functions-leave known keeps.leaves function, functions-depend known keeps.depends function)
