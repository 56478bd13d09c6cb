-- What a tree does at a node, by the answer that a store gives.
use Rattle.std.proofs.Common.{◌≡◌, ◌⊎◌, inl, inr, ℕ, Bool, true, false, Option, Some, None, refl, sym, ap, ◌∙◌}
use Rattle.std.specs.Prelude.{option_map}
use Rattle.bl_tree.proofs.Basics.{same_some}
use Rattle.bl_tree.specs.declared.tree.Guard.{Guard as GuardKind}
use Rattle.bl_tree.specs.declared.tree.Guard.TheVariants.{Abort, Reset}
use Rattle.bl_graph_nodes.specs.Nodes.{Node, entry}
use Rattle.bl_graph_nodes.specs.Plain.{Act, Again, Await, Cobegin, If, Plain, Repeat, Run as RunOf, Until, When, While}
use Rattle.bl_graph_nodes.specs.Steps.{end_node, join_node}
use Rattle.bl_ctree.specs.Actions.{Acts, Asks, Copies, Effect, Gives, Performed, Silent, done, effect_on}
use Rattle.bl_ctree.specs.Control.{Body, Check}
use Rattle.bl_ctree.specs.Instances.{Setting}
use Rattle.bl_ctree.specs.Store.{Store}
use Rattle.bl_ctree_laws.specs.Ends.{done_by}
use Rattle.bl_ctree_laws.specs.Pending.{Deed}
use Rattle.bl_ctree_laws.specs.Trees.{Fork, Pause, Tree, Trees, Watch, Nil, Test, Do, Par, Guard, are_done, are_settled}
use Rattle.bl_machine_laws.specs.Numbers.Turns as turns
use Rattle.bl_machine_laws.specs.Numbers.Turns.{InstancePoint}
use Rattle.bl_machine_laws.specs.Numbers.Waiting.{check_of, test_of}

-- ---- answers

-- nothing is tested
abbrev pub is_plain : Effect → Bool
is_plain Silent = true
is_plain (Acts s) = true
is_plain (Asks e) = false
is_plain (Copies callee inputs) = true
is_plain (Gives callee target) = true

done_true : (store : Store) (p : Performed) → Some (done store) ≡ Some p → p.answer ≡ true
done_true store p e = ap (λ x. x.answer) (sym (same_some (done store) p e))

mapped_true : {A : Type 0} (make : A → Store) (x : Option A) (p : Performed) → option_map (λ v. done (make v)) x ≡ Some p → p.answer ≡ true
mapped_true make None p e = absurd cc
mapped_true make (Some v) p e = done_true (make v) p e

-- then the answer is true
pub plain_answer : (w : Setting) (a : Deed) (store : Store) (p : Performed) → is_plain a.effect ≡ true → done_by w a store ≡ Some p →
    p.answer ≡ true
plain_answer w a store p plain e = by_effect a.effect plain e
  where
    by_effect : (effect : Effect) → is_plain effect ≡ true → effect_on w a.instance effect store ≡ Some p → p.answer ≡ true
    by_effect Silent plain e = done_true store p e
    by_effect (Acts s) plain e = mapped_true (λ left. left) _ p e
    by_effect (Asks x) plain e = absurd cc
    by_effect (Copies callee inputs) plain e = mapped_true _ _ p e
    by_effect (Gives callee target) plain e = done_true _ p e

-- what a store makes of a point
pub record PointMade (w : Setting) (i : ℕ) (t : Tree) (n : Node) (store : Store) : Type 0 where
  pub answer : Bool
  pub deed : Deed
  pub after : Tree
  pub left : Store
  pub point : InstancePoint w i t answer deed n after
  pub performs : done_by w deed store ≡ Some (record { answer = answer; store = left })

pub record PointFails (w : Setting) (i : ℕ) (t : Tree) (n : Node) (store : Store) : Type 0 where
  pub answer : Bool
  pub deed : Deed
  pub after : Tree
  pub point : InstancePoint w i t answer deed n after
  pub fails : done_by w deed store ≡ None

abbrev pub PointOver : Setting → ℕ → Tree → Node → Store → Type 0
PointOver w i t n store = PointMade w i t n store ⊎ PointFails w i t n store

-- with the answer that it has
pub answered : (w : Setting) (a : Deed) (store : Store) (p : Performed) (d : Bool) → done_by w a store ≡ Some p → p.answer ≡ d →
    done_by w a store ≡ Some (record { answer = d; store = p.store })
answered w a store p d is same = is ∙ ap (λ x. Some (record { answer = x; store = p.store })) same

module _ {w : Setting} {i : ℕ} {t : Tree} {n : Node} (store : Store) where
  sure : {a : Deed} {t' : Tree} → is_plain a.effect ≡ true → InstancePoint w i t true a n t' → PointOver w i t n store
  sure {a = a} {t' = t'} plain point = by_answer (done_by w a store) refl
    where
      by_answer : (x : Option Performed) → done_by w a store ≡ x → PointOver w i t n store
      by_answer None is = inr (record { answer = true; deed = a; after = t'; point = point; fails = is })
      by_answer (Some p) is = inl (record {
        answer = true;
        deed = a;
        after = t';
        left = p.store;
        point = point;
        performs = answered w a store p true is (plain_answer w a store p plain is);
      })

  asked : {a : Deed} {t' t'' : Tree} → InstancePoint w i t true a n t' → InstancePoint w i t false a n t'' → PointOver w i t n store
  asked {a = a} {t' = t'} {t'' = t''} holds fails = by_answer (done_by w a store) refl
    where
      by_bool : (p : Performed) → done_by w a store ≡ Some p → (b : Bool) → p.answer ≡ b → PointOver w i t n store
      by_bool p is true same = inl (record {
        answer = true;
        deed = a;
        after = t';
        left = p.store;
        point = holds;
        performs = answered w a store p true is same;
      })
      by_bool p is false same = inl (record {
        answer = false;
        deed = a;
        after = t'';
        left = p.store;
        point = fails;
        performs = answered w a store p false is same;
      })

      by_answer : (x : Option Performed) → done_by w a store ≡ x → PointOver w i t n store
      by_answer None is = inr (record { answer = true; deed = a; after = t'; point = holds; fails = is })
      by_answer (Some p) is = by_bool p is p.answer refl

-- ---- trees that act as points

abbrev pub is_run : Plain → Bool
is_run (RunOf l at target a inputs outputs) = true
is_run _ = false

-- the tree itself acts at the node, and it is no `run`
pub data Simple : Tree → Node → Type 0 where
  begins : {s : Plain} → is_run s ≡ false → Simple (Do s) (entry s)
  tests : {s : Pause} → Simple (Test s) (test_of s)
  checks : {s : Watch} {stood : Bool} {c : Tree} → Simple (Guard s Check stood c) (check_of s)
  closes : {s : Watch} {stood : Bool} → Simple (Guard s Body stood Nil) (end_node stood s.label s.place)
  joins : {s : Fork} {stood : Bool} {branches : Trees} → are_settled branches ≡ true → are_done branches ≡ true →
      Simple (Par s stood branches) (join_node stood s.label s.place)

begin_over : {w : Setting} {i : ℕ} (s : Plain) (store : Store) → is_run s ≡ false → PointOver w i (Do s) (entry s) store
begin_over (Act l s) store e = sure store refl turns.acts
begin_over (Await l at test) store e = sure store refl turns.pauses
begin_over (RunOf l at target a inputs outputs) store e = absurd cc
begin_over (If l at test body other) store e = asked store turns.takes turns.passes
begin_over (Cobegin l at bodies) store e = sure store refl turns.forks
begin_over (When l at guard test body) store e = sure store refl turns.guards
begin_over (Repeat l at body) store e = sure store refl turns.repeats
begin_over (Until l at body test) store e = sure store refl turns.repeats_until
begin_over (While l at test body) store e = asked store turns.enters turns.skips
begin_over (Again l at body test) store e = asked store turns.leaves turns.turns

check_over : {w : Setting} {i : ℕ} (s : Watch) (stood : Bool) (c : Tree) (store : Store) →
    PointOver w i (Guard s Check stood c) (check_of s) store
check_over {w} {i} s stood c store = by_kind s.guard refl
  where
    by_kind : (kind : GuardKind) → s.guard ≡ kind → PointOver w i (Guard s Check stood c) (check_of s) store
    by_kind Abort is = asked store (turns.aborts is) turns.lets
    by_kind Reset is = asked store (turns.resets is) turns.lets

pub point_over : {w : Setting} {i : ℕ} {t : Tree} {n : Node} (store : Store) → Simple t n → PointOver w i t n store
point_over store (begins {s = s} e) = begin_over s store e
point_over store tests = asked store turns.goes_on turns.waits
point_over store (checks {s = s} {stood = stood} {c = c}) = check_over s stood c store
point_over store closes = sure store refl turns.guard_ends
point_over store (joins settled done) = sure store refl (turns.joins settled done)
