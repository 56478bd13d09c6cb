-- What the rules of a body mark.
use Rattle.std.proofs.Common.{◌≡◌, inl, inr, ℕ, suc, Bool, true, false, List, [], ◌∷◌, ◌++◌, map, if◌then◌else◌, nat_eq, refl, sym, ap, subst, ◌∙◌, eq-eqb}
use Rattle.std.specs.Prelude.{Contains, ⊤}
use Rattle.bl_tree.proofs.Basics.{numbers_differ}
use Rattle.bl_tree.specs.declared.place.Place.{Place}
use Rattle.bl_tree.specs.declared.tree.Expr.{Expr}
use Rattle.bl_tree.specs.declared.tree.Guard.{Guard}
use Rattle.bl_tree.specs.declared.tree.Guard.TheVariants.{Abort, Reset}
use Rattle.bl_graph_nodes.specs.Nodes.{ActAt, CheckAt, DepthEndAt, DepthJoinAt, ForkAt, HeadAt, Node, ResumeAt, StartAt, SurfaceEndAt, SurfaceJoinAt, TestAt}
use Rattle.bl_graph_nodes.specs.Nodes.{are_instant, arguments_of, is_instant}
use Rattle.bl_graph_nodes.specs.Plain.{Act, Again, Await, Block, Bodies, Body as BodyOf, Cobegin, Done, If, Label, Last, Plain, Repeat, Run as RunOf, Then}
use Rattle.bl_graph_nodes.specs.Plain.{Until, When, While}
use Rattle.bl_machine.specs.Uses.{Slots}
use Rattle.bl_machine_pass.specs.Registers.{Registers, after_rule, all_changed, changed, with_flag}
use Rattle.bl_machine_pass.specs.Transitions.{Age, Change, ClearsBoth, ClearsCounter, EndsWhen, Finishes, IsNew, SetsCounter, SetsFlag, SetsMark}
use Rattle.bl_machine_pass.specs.Transitions.{Transition, age_of, body_ends, counters_in, counters_in_each, enter, enter_each, fires, flagged, joins, marked}
use Rattle.bl_machine_pass.specs.Transitions.{once, rule_where, rules, rules_in, rules_in_each, rules_of}
use Rattle.bl_machine_pass_laws_turns.specs.Joins.Stems.{Member}
use Rattle.bl_machine_pass_laws_turns.proofs.OnJoins.Lists.{member}
use Rattle.bl_machine_pass_laws.proofs.OnNumbers.Parts.{check}

-- ---- changes that mark at most the node

-- the change marks nothing
abbrev pub Unmarking : Change → Type 0
Unmarking (SetsFlag n) = ⊤
Unmarking (SetsCounter slot) = ⊤
Unmarking (ClearsCounter k) = ⊤
Unmarking (ClearsBoth k) = ⊤
Unmarking (SetsMark n) = ⊥
Unmarking (EndsWhen start surface depth) = ⊤
Unmarking Finishes = ⊤

-- it marks no other node than this one
abbrev pub MarksAt : Node → Change → Type 0
MarksAt n (SetsFlag m) = ⊤
MarksAt n (SetsCounter slot) = ⊤
MarksAt n (ClearsCounter k) = ⊤
MarksAt n (ClearsBoth k) = ⊤
MarksAt n (SetsMark m) = m ≡ n
MarksAt n (EndsWhen start surface depth) = ⊤
MarksAt n Finishes = ⊤

-- each of these changes does
abbrev pub AllAt : Node → List Change → Type 0
AllAt n [] = ⊤
AllAt n (change ∷ rest) = MarksAt n change × AllAt n rest

-- the rule marks no other node than its own
pub record Tame (rule : Transition) : Type 0 where
  pub on_true : AllAt rule.node rule.on_true
  pub on_false : AllAt rule.node rule.on_false

abbrev AllTame : List Transition → Type 0
AllTame [] = ⊤
AllTame (rule ∷ rest) = Tame rule × AllTame rest

none_at : (n : Node) (change : Change) → Unmarking change → MarksAt n change
none_at n (SetsFlag m) h = tt
none_at n (SetsCounter slot) h = tt
none_at n (ClearsCounter k) h = tt
none_at n (ClearsBoth k) h = tt
none_at n (SetsMark m) h = absurd h
none_at n (EndsWhen start surface depth) h = tt
none_at n Finishes h = tt

frees_at : (n : Node) (ks : List ℕ) (rest : List Change) → AllAt n rest → AllAt n (map ClearsCounter ks ++ rest)
frees_at n [] rest h = h
frees_at n (k ∷ ks) rest h = (tt, frees_at n ks rest h)

forgets_at : (n : Node) (ks : List ℕ) (rest : List Change) → AllAt n rest → AllAt n (map ClearsBoth ks ++ rest)
forgets_at n [] rest h = h
forgets_at n (k ∷ ks) rest h = (tt, forgets_at n ks rest h)

enters : (body : Block) (next : Change) → Unmarking next → Unmarking (enter body next)
enters Done next h = h
enters (Then s rest) next h = tt

enter_at : (n : Node) (body : Block) (next : Change) → Unmarking next → MarksAt n (enter body next)
enter_at n body next h = none_at n (enter body next) (enters body next h)

each_at : (n : Node) (slots : Slots) (l : Label) (k : ℕ) (bodies : Bodies) → AllAt n (enter_each slots l k bodies)
each_at n slots l k Last = tt
each_at n slots l k (BodyOf weak body rest) = (enter_at n body (SetsCounter (slots.ending l k)) tt, each_at n slots l (suc k) rest)

ends_unmarking : (l : Label) (at : Place) (body : Block) → Unmarking (body_ends l at body)
ends_unmarking l at body = by_kind (are_instant body)
  where
    by_kind : (b : Bool) → Unmarking (if b then EndsWhen (StartAt l at) (SurfaceEndAt l at) (DepthEndAt l at) else SetsFlag (DepthEndAt l at))
    by_kind true = tt
    by_kind false = tt

fires_unmarking : (guard : Guard) (l : Label) (at : Place) (body : Block) (next : Change) → Unmarking next → Unmarking (fires guard l at body next)
fires_unmarking Abort l at body next h = h
fires_unmarking Reset l at body next h = enters body (body_ends l at body) (ends_unmarking l at body)

marked_at : (b : Bool) (n : Node) (rest : List Change) → AllAt n rest → AllAt n (marked b n rest)
marked_at true n rest h = (refl, h)
marked_at false n rest h = h

tame_append : (xs ys : List Transition) → AllTame xs → AllTame ys → AllTame (xs ++ ys)
tame_append [] ys one two = two
tame_append (x ∷ xs) ys one two = (one.0, tame_append xs ys one.1 two)

tame_where : (b : Bool) (rule : Transition) → Tame rule → AllTame (rule_where b rule)
tame_where true rule h = (h, tt)
tame_where false rule h = tt

tame_flagged : (n : Node) (on_true : List Change) → AllAt n on_true → Tame (flagged n on_true)
tame_flagged n on_true h = record { on_true = h; on_false = tt }

tame_joins : (slots : Slots) (l : Label) (bodies : Bodies) (age : Age) (n : Node) (next : Change) → Unmarking next →
    Tame (joins slots l bodies age n next)
tame_joins slots l bodies age n next h =
    record { on_true = frees_at n (once (counters_in_each slots l 0 bodies)) (next ∷ []) (none_at n next h, tt); on_false = tt }

tame_check : (slots : Slots) (l : Label) (at : Place) (guard : Guard) (e : Expr) (body : Block) (next : Change) → Unmarking next →
    Tame (check slots l at guard e body next)
tame_check slots l at guard e body next h = record {
  on_true = forgets_at (CheckAt l at e) (once (counters_in slots body)) (fires guard l at body next ∷ [])
      (none_at (CheckAt l at e) (fires guard l at body next) (fires_unmarking guard l at body next h), tt);
  on_false = tt;
}

-- the rules of a `cobegin` after its fork, and of a `when` after its start
abbrev pub fork_rest : Slots → Label → Place → Bodies → Change → List Transition
fork_rest slots l at bodies next =
    joins slots l bodies (age_of (is_instant (Cobegin l at bodies)) (ForkAt l at)) (DepthJoinAt l at) next ∷ rules_in_each slots l 0 bodies

abbrev pub watch_rest : Slots → Label → Place → Guard → Expr → Block → Change → List Transition
watch_rest slots l at guard e body next =
    check slots l at guard e body next ∷ flagged (DepthEndAt l at) (next ∷ []) ∷ rules_in slots body (body_ends l at body)

mutual
  tame_of : (slots : Slots) (s : Plain) (next : Change) → Unmarking next → AllTame (rules_of slots s next)
  tame_of slots (Act l s) next h = (tame_flagged (ActAt l s) (next ∷ []) (none_at (ActAt l s) next h, tt), tt)
  tame_of slots (Await l at e) next h =
      (record { on_true = (tt, tt); on_false = tt }, (record { on_true = (none_at (TestAt l at e) next h, tt); on_false = tt }, tt))
  tame_of slots (RunOf l at target a inputs outputs) next h = (
    record { on_true = (tt, tt); on_false = tt },
    (record { on_true = (none_at (ResumeAt l at (arguments_of target inputs outputs)) next h, tt); on_false = tt }, tt),
  )
  tame_of slots (If l at e body other) next h = (
    record { on_true = (enter_at (TestAt l at e) body next h, tt); on_false = (enter_at (TestAt l at e) other next h, tt) },
    tame_append (rules_in slots body next) (rules_in slots other next) (tame_in slots body next h) (tame_in slots other next h),
  )
  tame_of slots (Cobegin l at bodies) next h = (
    tame_flagged (ForkAt l at) (marked (is_instant (Cobegin l at bodies)) (ForkAt l at) (enter_each slots l 0 bodies))
        (marked_at (is_instant (Cobegin l at bodies)) (ForkAt l at) (enter_each slots l 0 bodies) (each_at (ForkAt l at) slots l 0 bodies)),
    tame_append (rule_where (is_instant (Cobegin l at bodies)) (joins slots l bodies (IsNew (ForkAt l at)) (SurfaceJoinAt l at) next))
        (fork_rest slots l at bodies next)
        (tame_where (is_instant (Cobegin l at bodies)) (joins slots l bodies (IsNew (ForkAt l at)) (SurfaceJoinAt l at) next)
        (tame_joins slots l bodies (IsNew (ForkAt l at)) (SurfaceJoinAt l at) next h))
        (tame_joins slots l bodies (age_of (is_instant (Cobegin l at bodies)) (ForkAt l at)) (DepthJoinAt l at) next h, tame_each slots l 0 bodies),
  )
  tame_of slots (When l at guard e body) next h = (
    tame_flagged (StartAt l at) (marked (are_instant body) (StartAt l at) (enter body (body_ends l at body) ∷ []))
        (marked_at (are_instant body) (StartAt l at) (enter body (body_ends l at body) ∷ [])
        (enter_at (StartAt l at) body (body_ends l at body) (ends_unmarking l at body), tt)),
    tame_append (rule_where (are_instant body) (flagged (SurfaceEndAt l at) (next ∷ []))) (watch_rest slots l at guard e body next)
        (tame_where (are_instant body) (flagged (SurfaceEndAt l at) (next ∷ []))
        (tame_flagged (SurfaceEndAt l at) (next ∷ []) (none_at (SurfaceEndAt l at) next h, tt))) (
          tame_check slots l at guard e body next h,
          (
            tame_flagged (DepthEndAt l at) (next ∷ []) (none_at (DepthEndAt l at) next h, tt),
            tame_in slots body (body_ends l at body) (ends_unmarking l at body),
          ),
        ),
  )
  tame_of slots (Repeat l at body) next h = (
    tame_flagged (HeadAt l at) (enter body (SetsFlag (HeadAt l at)) ∷ []) (enter_at (HeadAt l at) body (SetsFlag (HeadAt l at)) tt, tt),
    tame_in slots body (SetsFlag (HeadAt l at)) tt,
  )
  tame_of slots (Until l at body e) next h = (
    tame_flagged (HeadAt l at) (enter body (SetsFlag (TestAt l at e)) ∷ []) (enter_at (HeadAt l at) body (SetsFlag (TestAt l at e)) tt, tt),
    (record { on_true = (none_at (TestAt l at e) next h, tt); on_false = (tt, tt) }, tame_in slots body (SetsFlag (TestAt l at e)) tt),
  )
  tame_of slots (While l at e body) next h = (
    record { on_true = (enter_at (TestAt l at e) body (SetsFlag (TestAt l at e)) tt, tt); on_false = (none_at (TestAt l at e) next h, tt) },
    tame_in slots body (SetsFlag (TestAt l at e)) tt,
  )
  tame_of slots (Again l at body e) next h = (
    tame_flagged (HeadAt l at) (enter body (SetsFlag (TestAt l at e)) ∷ []) (enter_at (HeadAt l at) body (SetsFlag (TestAt l at e)) tt, tt),
    (record { on_true = (none_at (TestAt l at e) next h, tt); on_false = (tt, tt) }, tame_in slots body (SetsFlag (TestAt l at e)) tt),
  )

  tame_in : (slots : Slots) (body : Block) (next : Change) → Unmarking next → AllTame (rules_in slots body next)
  tame_in slots Done next h = tt
  tame_in slots (Then s rest) next h =
      tame_append (rules_of slots s (enter rest next)) (rules_in slots rest next) (tame_of slots s (enter rest next) (enters rest next h))
      (tame_in slots rest next h)

  tame_each : (slots : Slots) (l : Label) (k : ℕ) (bodies : Bodies) → AllTame (rules_in_each slots l k bodies)
  tame_each slots l k Last = tt
  tame_each slots l k (BodyOf weak body rest) =
      tame_append (rules_in slots body (SetsCounter (slots.ending l k))) (rules_in_each slots l (suc k) rest) (tame_in slots body (SetsCounter (slots.ending l k)) tt)
      (tame_each slots l (suc k) rest)

tame_one : (all : List Transition) (rule : Transition) → AllTame all → Member all rule → Tame rule
tame_one [] rule tame h = absurd h
tame_one (x ∷ all) rule tame (inl e) = subst Tame (sym e) tame.0
tame_one (x ∷ all) rule tame (inr h) = tame_one all rule tame.1 h

-- each rule of a body marks no other node than its own
pub tame_rule : (slots : Slots) (body : Block) (rule : Transition) → Contains (rules slots body) rule → Tame rule
tame_rule slots body rule there = tame_one (rules slots body) rule (tame_in slots body Finishes tt) (member (rules slots body) rule there)

-- ---- marks

either_flag : (b : Bool) (j k m : ℕ) (r : Registers) → (if b then with_flag j r else with_flag k r).marks m ≡ r.marks m
either_flag true j k m r = refl
either_flag false j k m r = refl

change_keeps : (number : Node → ℕ) (n : Node) (change : Change) (r : Registers) (k : ℕ) → MarksAt n change → (k ≡ number n → ⊥) →
    (changed number change r).marks k ≡ r.marks k
change_keeps number n (SetsFlag m) r k at apart = refl
change_keeps number n (SetsCounter slot) r k at apart = refl
change_keeps number n (ClearsCounter j) r k at apart = refl
change_keeps number n (ClearsBoth j) r k at apart = refl
change_keeps number n (SetsMark m) r k at apart =
    ap (λ (b : Bool). if b then true else r.marks k) (numbers_differ k (number m) (λ e. apart (e ∙ ap number at)))
change_keeps number n (EndsWhen start surface depth) r k at apart =
    either_flag (r.marks (number start)) (number surface) (number depth) k r
change_keeps number n Finishes r k at apart = refl

changes_keep : (number : Node → ℕ) (n : Node) (changes : List Change) (r : Registers) (k : ℕ) → AllAt n changes → (k ≡ number n → ⊥) →
    (all_changed number changes r).marks k ≡ r.marks k
changes_keep number n [] r k at apart = refl
changes_keep number n (change ∷ rest) r k at apart =
    changes_keep number n rest (changed number change r) k at.1 apart ∙ change_keeps number n change r k at.0 apart

-- after a rule all other marks are as they were
pub rule_keeps : (number : Node → ℕ) (rule : Transition) (answer : Bool) (r : Registers) (k : ℕ) → Tame rule → (k ≡ number rule.node → ⊥) →
    (after_rule number rule answer r).marks k ≡ r.marks k
rule_keeps number rule true r k tame apart = changes_keep number rule.node rule.on_true r k tame.on_true apart
rule_keeps number rule false r k tame apart = changes_keep number rule.node rule.on_false r k tame.on_false apart

mark_stays : (b x : Bool) → x ≡ true → (if b then true else x) ≡ true
mark_stays true x e = refl
mark_stays false x e = e

change_grows : (number : Node → ℕ) (change : Change) (r : Registers) (k : ℕ) → r.marks k ≡ true → (changed number change r).marks k ≡ true
change_grows number (SetsFlag m) r k e = e
change_grows number (SetsCounter slot) r k e = e
change_grows number (ClearsCounter j) r k e = e
change_grows number (ClearsBoth j) r k e = e
change_grows number (SetsMark m) r k e = mark_stays (nat_eq k (number m)) (r.marks k) e
change_grows number (EndsWhen start surface depth) r k e =
    either_flag (r.marks (number start)) (number surface) (number depth) k r ∙ e
change_grows number Finishes r k e = e

changes_grow : (number : Node → ℕ) (changes : List Change) (r : Registers) (k : ℕ) → r.marks k ≡ true →
    (all_changed number changes r).marks k ≡ true
changes_grow number [] r k e = e
changes_grow number (change ∷ rest) r k e = changes_grow number rest (changed number change r) k (change_grows number change r k e)

-- a construct that may end in the tick in which it begins marks its first node
pub begins_marked : (number : Node → ℕ) (b : Bool) (n : Node) (rest : List Change) (r : Registers) → b ≡ true →
    (all_changed number (marked b n rest) r).marks (number n) ≡ true
begins_marked number true n rest r e =
    changes_grow number rest (changed number (SetsMark n) r) (number n)
    (ap (λ (b : Bool). if b then true else r.marks (number n)) (eq-eqb (number n) (number n) refl))
begins_marked number false n rest r e = absurd (cc)
