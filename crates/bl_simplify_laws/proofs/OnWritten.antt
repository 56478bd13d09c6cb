-- What stays known after statements that don't write it, and loops.
use Rattle.std.proofs.Common.{◌≡◌, ℕ, zero, suc, Bool, true, false, not, inl, inr, List, [], ◌∷◌, map, Option, Some, None, refl, ap, sym, ◌∙◌}
use Rattle.std.specs.Prelude.{if◌then◌else◌}
use Rattle.bl_tree.specs.Numbers.{is_one}
use Rattle.bl_tree.specs.declared.text.Text.{Text}
use Rattle.bl_tree.specs.declared.place.Place.{Place}
use Rattle.bl_tree.specs.declared.c.CExpr.{CExpr}
use Rattle.bl_tree.specs.declared.c.CStmt.{CStmt, fold-roll-CStmt}
use Rattle.bl_tree.specs.declared.c.CStmtKind.{fold-roll-CStmtKind}
use Rattle.bl_ctext_semantics.specs.Course.{End, Outcome, breaks, ended_by, ending, goes_on, loop_with_turns, returns, traps, turn_end, turn_limit}
use Rattle.bl_ctext_semantics.specs.Course.{after_statements, turn_or_none}
use Rattle.bl_ctext_semantics.specs.Meaning.{Scope, block_c, once_more, runs_c, value_c}
use Rattle.bl_ctext_semantics.specs.Memory.{CValue, Memory, scalar_number}
use Rattle.bl_simplify_laws.specs.Known.{Holds, filtered, number_is, number_told}
use Rattle.bl_simplify_laws.specs.Rules.{Facts}
use Rattle.bl_simplify_laws.specs.Observed.{observed}
use Rattle.bl_simplify_laws.specs.Steps.{without_spots}
use Rattle.bl_simplify_laws.specs.Written.{RuleAfterAny, RuleAfterAnyBlock, RuleLoop, RuleLoopBy, loop_stmt, written_by, written_in}
use Rattle.bl_simplify_laws.proofs.OnFrames.{body-leaves, stmt-leaves}
use Rattle.bl_simplify_laws.proofs.OnKnown.{filters}
use Rattle.bl_simplify_laws.proofs.OnOutcomes.{turn-seen, turn_seen}
use Rattle.bl_simplify_laws.proofs.OnSteps.{forgotten-holds, kept-holds, stay-holds}

pub rule-after-any : RuleAfterAny
rule-after-any facts s = record {
  hold = λ scope running memory holds goes.
      kept-holds scope running (written_by s) facts memory (runs_c s scope memory).memory
      (λ root way below spots. stmt-leaves scope root way running.keeps.leaves below s spots memory) holds;
}

pub rule-after-any-block : RuleAfterAnyBlock
rule-after-any-block facts block = record {
  hold = λ scope running memory holds goes.
      kept-holds scope running (written_in block) facts memory (block_c block scope memory).memory
      (λ root way below spots. body-leaves scope root way running.keeps.leaves below block spots memory) holds;
}

-- ---- loops

-- a turn and what follows it where the turn goes on
turn-where : (o p : Outcome Memory) (r q : Memory → Outcome Memory) → observed o ≡ observed p →
    (o.end ≡ goes_on → observed (r o.memory) ≡ observed (q o.memory)) →
    observed (turn_end o.count o.memory o.end r) ≡ observed (turn_end p.count p.memory p.end q)
turn-where o p r q h k =
    by o.end refl ∙ turn-seen o.count o.memory o.end q ∙ ap (λ s. turn_seen s (λ m. observed (q m))) h ∙ sym (turn-seen p.count p.memory p.end q)
  where
    by : (e : End) → o.end ≡ e → observed (turn_end o.count o.memory e r) ≡ observed (turn_end o.count o.memory e q)
    by goes_on is = k is
    by breaks is = refl
    by (returns a) is = refl
    by traps is = refl

module _ (Before Inside : Memory → Type 0) where
  -- what asks the condition of a loop before a turn does the same before turns that do the same
  abbrev AsksWhere : ((Memory → Outcome Memory) → Memory → Outcome Memory) → Type 0
  AsksWhere once =
      (f g : Memory → Outcome Memory) → ((m : Memory) → Inside m → observed (f m) ≡ observed (g m)) → (m : Memory) → Before m →
      observed (once f m) ≡ observed (once g m)

  loop-where : (k : ℕ) (once : (Memory → Outcome Memory) → Memory → Outcome Memory) (f g : Memory → Outcome Memory) → AsksWhere once →
      ((m : Memory) → Inside m → observed (f m) ≡ observed (g m)) → ((m : Memory) → Inside m → (f m).end ≡ goes_on → Before (f m).memory) →
      (m : Memory) → Before m → observed (loop_with_turns k once f m) ≡ observed (loop_with_turns k once g m)
  unfolding loop_with_turns
  loop-where zero once f g asks same keeps m before = asks (ending traps) (ending traps) (λ m within. refl) m before
  loop-where (suc k) once f g asks same keeps m before =
      asks (λ m. let o = f m in turn_end o.count o.memory o.end (loop_with_turns k once f))
      (λ m. let o = g m in turn_end o.count o.memory o.end (loop_with_turns k once g))
      (λ m within. turn-where (f m) (g m) (loop_with_turns k once f) (loop_with_turns k once g) (same m within)
      (λ goes. loop-where k once f g asks same keeps (f m).memory (keeps m within goes)))
      m before

-- the condition, and a turn where it is true
asked-where : (scope : Scope) (facts : Facts) (condition : CExpr) (f g : Memory → Outcome Memory) →
    ((m : Memory) → Holds (filtered facts condition true) scope m → observed (f m) ≡ observed (g m)) → (m : Memory) → Holds facts scope m →
    observed (once_more (value_c condition) scope f m) ≡ observed (once_more (value_c condition) scope g m)
asked-where scope facts condition f g same m holds = by (value_c condition scope m).answer refl
  where
    chosen : (b : Bool) → Holds (filtered facts condition b) scope m → observed (turn_or_none b m f) ≡ observed (turn_or_none b m g)
    chosen true holds = same m holds
    chosen false holds = refl

    by : (o : Option CValue) → (value_c condition scope m).answer ≡ o →
        observed (ended_by m (value_c condition scope m).count o (λ v. turn_or_none (is_one (scalar_number v)) m f))
        ≡ observed (ended_by m (value_c condition scope m).count o (λ v. turn_or_none (is_one (scalar_number v)) m g))
    by None is = refl
    by (Some v) is = chosen (is_one (scalar_number v)) (filters scope m facts holds condition v is)

pub loop-is : (at : Place) (turn : Text) (condition : CExpr) (body : List CStmt) (scope : Scope) (m : Memory) →
    runs_c (loop_stmt at turn condition body) scope m
    ≡ after_statements 1 (loop_with_turns turn_limit (once_more (value_c condition) scope) (block_c body scope) m)
loop-is at turn condition body scope m = rw (fold-roll-CStmt, fold-roll-CStmtKind) refl

pub rule-loop-by : RuleLoopBy
rule-loop-by facts turns at to turn turned condition body new weakens same after = record {
  same = λ scope running memory holds.
      ap observed (loop-is at turn condition body scope memory)
      ∙ loop-where (Holds turns scope) (Holds (filtered turns condition true) scope) turn_limit (once_more (value_c condition) scope) (block_c body scope)
      (block_c new scope) (λ f g h m before. asked-where scope turns condition f g h m before) (same.same scope running) (after.hold scope running) memory
      (weakens scope memory holds)
      ∙ sym (ap observed (loop-is to turned condition new scope memory));
}

-- what is left by a filter was there
filtered-holds : (facts : Facts) (condition : CExpr) (b : Bool) (scope : Scope) (memory : Memory) → Holds (filtered facts condition b) scope memory →
    Holds facts scope memory
filtered-holds [] condition b scope memory h = h
filtered-holds (known ∷ rest) condition b scope memory h =
    by (number_is (not b) (number_told condition known)) (filtered-holds rest condition b scope memory) h
  where
    by : (c : Bool) → (Holds (filtered rest condition b) scope memory → Holds rest scope memory) →
        Holds (if c then filtered rest condition b else known ∷ filtered rest condition b) scope memory → Holds (known ∷ rest) scope memory
    by true later h = inr (later h)
    by false later (inl agrees) = inl agrees
    by false later (inr h) = inr (later h)

pub rule-loop : RuleLoop
rule-loop facts at to turn turned condition body new same =
    rule-loop-by facts (map (without_spots (written_in body)) facts) at to turn turned condition body new
    (λ scope memory holds. forgotten-holds (written_in body) facts scope memory holds) same
    (record {
      hold = λ scope running memory holds goes.
          stay-holds scope running (written_in body) facts memory (block_c body scope memory).memory
          (λ root way below spots. body-leaves scope root way running.keeps.leaves below body spots memory)
          (filtered-holds (map (without_spots (written_in body)) facts) condition true scope memory holds);
    })
