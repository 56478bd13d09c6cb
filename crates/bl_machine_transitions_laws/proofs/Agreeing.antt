-- Lists whose elements have what a layout tells of their positions, and rules that tell others one by one.
use Rattle.std.proofs.Common.{◌≡◌, ℕ, suc, ◌+◌, List, [], ◌∷◌, ◌++◌, length, Some, refl, ap, ◌∙◌, subst, arith}
use Rattle.std.specs.Prelude.{slice_get, ⊤}
use Rattle.bl_graph_nodes.specs.Nodes.{Node}
use Rattle.bl_machine_pass.specs.Transitions as nodes
use Rattle.bl_machine_transitions.specs.declared.transition.Condition.{Condition}
use Rattle.bl_machine_transitions.specs.declared.transition.Change.{Change}
use Rattle.bl_machine_transitions.specs.Told.{NumberedTransition, Task, all_told, told_rule}

-- ---- elements at positions

-- each element of the list, of which the first has the position, has what is told of its position
abbrev pub Agrees : {X Y : Type 0} → (X → Y) → (ℕ → Y) → ℕ → List X → Type 0
Agrees f at k [] = ⊤
Agrees f at k (x ∷ rest) = (f x ≡ at k) × Agrees f at (suc k) rest

module _ {X Y : Type 0} (f : X → Y) (at : ℕ → Y) where
  -- the same positions
  pub moved : (xs : List X) (j k : ℕ) → j ≡ k → Agrees f at j xs → Agrees f at k xs
  moved xs j k is agrees = subst (λ i. Agrees f at i xs) is agrees

  -- the rest of a list
  pub after : (x : X) (xs : List X) (k j : ℕ) → suc k ≡ j → Agrees f at k (x ∷ xs) → Agrees f at j xs
  after x xs k j is agrees = moved xs (suc k) j is agrees.1

  -- the first of two lists
  pub in_first : (xs ys : List X) (k : ℕ) → Agrees f at k (xs ++ ys) → Agrees f at k xs
  in_first [] ys k agrees = tt
  in_first (x ∷ xs) ys k agrees = (agrees.0, in_first xs ys (suc k) agrees.1)

  -- and the second
  in_second : (xs ys : List X) (k : ℕ) → Agrees f at k (xs ++ ys) → Agrees f at (k + length xs) ys
  in_second [] ys k agrees = let is : k ≡ k + 0 = omega arith in moved ys k (k + 0) is agrees
  in_second (x ∷ xs) ys k agrees =
      let is : suc k + length xs ≡ k + suc (length xs) = omega arith in
      moved ys (suc k + length xs) (k + suc (length xs)) is (in_second xs ys (suc k) agrees.1)

  pub in_second_at : (xs ys : List X) (k j : ℕ) → k + length xs ≡ j → Agrees f at k (xs ++ ys) → Agrees f at j ys
  in_second_at xs ys k j is agrees = moved ys (k + length xs) j is (in_second xs ys k agrees)

  -- what is told of each element
  pub each_agrees : (xs : List X) (k : ℕ) → ((i : ℕ) (x : X) → slice_get xs i ≡ Some x → f x ≡ at (k + i)) → Agrees f at k xs
  each_agrees [] k each = tt
  each_agrees (x ∷ xs) k each =
      let here : k + 0 ≡ k = omega arith in (
        each 0 x refl ∙ ap at here,
        each_agrees xs (suc k) (λ i y is. let there : k + suc i ≡ suc k + i = omega arith in each (suc i) y is ∙ ap at there),
      )

-- ---- rules

-- a rule by its parts
abbrev pub rule_with : ℕ → Condition → Task → List Change → List Change → NumberedTransition
rule_with n condition task on_true on_false = record { number = n; condition = condition; task = task; on_true = on_true; on_false = on_false }

-- two rules with the same parts are one
pub rule_is : (n m : ℕ) (a b : Condition) (t u : Task) (on_true to : List Change) (on_false other : List Change) → n ≡ m →
    a ≡ b → t ≡ u → on_true ≡ to → on_false ≡ other → rule_with n a t on_true on_false ≡ rule_with m b u to other
rule_is n m a b t u on_true to on_false other number condition task sos others =
    ap (λ x. rule_with x a t on_true on_false) number ∙ ap (λ x. rule_with m x t on_true on_false) condition ∙ ap (λ x. rule_with m b x on_true on_false) task
    ∙ ap (λ x. rule_with m b u x on_false) sos
    ∙ ap (λ x. rule_with m b u to x) others

-- the rules of nodes tell these, each with the activity that its node calls
abbrev pub Tells : (Node → ℕ) → List ℕ → List nodes.Transition → List NumberedTransition → Type 0
Tells number [] [] [] = ⊤
Tells number [] [] (o ∷ os) = ⊥
Tells number [] (r ∷ rs) os = ⊥
Tells number (c ∷ cs) [] os = ⊥
Tells number (c ∷ cs) (r ∷ rs) [] = ⊥
Tells number (c ∷ cs) (r ∷ rs) (o ∷ os) = (told_rule number c r ≡ o) × Tells number cs rs os

module _ (number : Node → ℕ) where
  -- one list after another
  pub tells_append : (cs ds : List ℕ) (rs ss : List nodes.Transition) (os ps : List NumberedTransition) → Tells number cs rs os → Tells number ds ss ps →
      Tells number (cs ++ ds) (rs ++ ss) (os ++ ps)
  tells_append [] ds [] ss [] ps one two = two
  tells_append [] ds [] ss (o ∷ os) ps one two = absurd one
  tells_append [] ds (r ∷ rs) ss os ps one two = absurd one
  tells_append (c ∷ cs) ds [] ss os ps one two = absurd one
  tells_append (c ∷ cs) ds (r ∷ rs) ss [] ps one two = absurd one
  tells_append (c ∷ cs) ds (r ∷ rs) ss (o ∷ os) ps one two = (one.0, tells_append cs ds rs ss os ps one.1 two)

  -- so all are told
  pub tells_all : (cs : List ℕ) (rs : List nodes.Transition) (os : List NumberedTransition) → Tells number cs rs os → all_told number cs rs ≡ os
  tells_all [] [] [] tells = refl
  tells_all [] [] (o ∷ os) tells = absurd tells
  tells_all [] (r ∷ rs) os tells = absurd tells
  tells_all (c ∷ cs) [] os tells = absurd tells
  tells_all (c ∷ cs) (r ∷ rs) [] tells = absurd tells
  tells_all (c ∷ cs) (r ∷ rs) (o ∷ os) tells =
      ap (λ x. x ∷ all_told number cs rs) tells.0 ∙ ap (λ xs. o ∷ xs) (tells_all cs rs os tells.1)

  -- there are as many activities as rules
  pub tells_each : (cs : List ℕ) (rs : List nodes.Transition) (os : List NumberedTransition) → Tells number cs rs os → length cs ≡ length rs
  tells_each [] [] [] tells = refl
  tells_each [] [] (o ∷ os) tells = absurd tells
  tells_each [] (r ∷ rs) os tells = absurd tells
  tells_each (c ∷ cs) [] os tells = absurd tells
  tells_each (c ∷ cs) (r ∷ rs) [] tells = absurd tells
  tells_each (c ∷ cs) (r ∷ rs) (o ∷ os) tells = ap suc (tells_each cs rs os tells.1)
