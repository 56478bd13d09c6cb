-- Rules of `run`s: where one begins a counter is set, and where one goes on nothing changes unless the body of what it calls has ended.
use Rattle.std.proofs.Common.{◌≡◌, ℕ, zero, suc, ◌<◌, Bool, true, false, ◌&&◌, List, [], ◌∷◌, ◌++◌, Contains}
use Rattle.std.proofs.Common.{refl, sym, ap, subst, ◌∙◌, arith}
use Rattle.std.specs.List.{list_all}
use Rattle.bl_tree.proofs.Basics.{and_first, and_second}
use Rattle.bl_tree.specs.declared.place.Place.{Place}
use Rattle.bl_graph_nodes.specs.Nodes.{ActAt, Arguments, CheckAt, DepthEndAt, DepthJoinAt, EnterAt, ForkAt, HeadAt, Node, PauseAt, ResumeAt, StartAt}
use Rattle.bl_graph_nodes.specs.Nodes.{SurfaceEndAt, SurfaceJoinAt, TestAt, are_instant, is_instant}
use Rattle.bl_graph_nodes.specs.Plain.{Act, Again, Await, Block, Bodies, Body as BodyOf, Cobegin, Done, If, Label, Last, Plain, Repeat, Run as RunIn, Then}
use Rattle.bl_graph_nodes.specs.Plain.{Until, When, While}
use Rattle.bl_machine.specs.Uses.{Slots}
use Rattle.bl_machine_pass.specs.Registers.{Registers, after_rule, all_changed, due_by, is_at, is_due, with_counter}
use Rattle.bl_machine_pass.specs.Transitions.{Change, Condition, Finishes, SetsCounter, SetsFlag, Transition, body_ends, enter, flagged, rule_where}
use Rattle.bl_machine_pass.specs.Transitions.{ClearsBoth, ClearsCounter, Ended, EndsWhen, Flagged, IsNew, Rested, RestedIn, SetsMark, age_of, joins, rules}
use Rattle.bl_machine_pass.specs.Transitions.{rules_in, rules_in_each, rules_of}

-- whether there are no changes
abbrev pub are_none : List Change → Bool
are_none [] = true
are_none (change ∷ rest) = false

-- whether a change does no more than to set a counter
abbrev sets_counter : Change → Bool
sets_counter (SetsCounter slot) = true
sets_counter _ = false

-- whether it is asked whether the instance rested at one number
abbrev asks_rest : Condition → Bool
asks_rest (Rested slot) = true
asks_rest _ = false

-- what is told of the rule of a `run`'s node
abbrev told_by : Node → Transition → Bool
told_by (EnterAt l at arguments) rule = list_all sets_counter rule.on_true && are_none rule.on_false
told_by (ResumeAt l at arguments) rule = asks_rest rule.condition && are_none rule.on_false
told_by (ActAt l s) rule = true
told_by (TestAt l at e) rule = true
told_by (PauseAt l at) rule = true
told_by (HeadAt l at) rule = true
told_by (StartAt l at) rule = true
told_by (CheckAt l at e) rule = true
told_by (SurfaceEndAt l at) rule = true
told_by (DepthEndAt l at) rule = true
told_by (ForkAt l at) rule = true
told_by (SurfaceJoinAt l at) rule = true
told_by (DepthJoinAt l at) rule = true

abbrev told : Transition → Bool
told rule = told_by rule.node rule

abbrev all_so : List Transition → Type 0
all_so rules = list_all told rules ≡ true

both : (xs ys : List Transition) → all_so xs → all_so ys → all_so (xs ++ ys)
both [] ys one two = two
both (x ∷ xs) ys one two = split (told x) one (both xs ys)
  where
    split : (b : Bool) → (b && list_all told xs) ≡ true → (all_so xs → all_so ys → all_so (xs ++ ys)) → (b && list_all told (xs ++ ys)) ≡ true
    split true h again = again h two
    split false h again = absurd (cc)

where_so : (test : Bool) (rule : Transition) → told rule ≡ true → all_so (rule_where test rule)
where_so true rule h = ap (λ b. b && true) h
where_so false rule h = refl

mutual
  statement_so : (slots : Slots) (s : Plain) (next : Change) → all_so (rules_of slots s next)
  statement_so slots (Act l s) next = refl
  statement_so slots (Await l at e) next = refl
  statement_so slots (RunIn l at target a inputs outputs) next = refl
  statement_so slots (If l at e body other) next =
      both (rules_in slots body next) (rules_in slots other next) (block_so slots body next) (block_so slots other next)
  statement_so slots (Cobegin l at bodies) next =
      let instant = is_instant (Cobegin l at bodies) in
      both (rule_where instant (joins slots l bodies (IsNew (ForkAt l at)) (SurfaceJoinAt l at) next))
      (joins slots l bodies (age_of instant (ForkAt l at)) (DepthJoinAt l at) next ∷ rules_in_each slots l 0 bodies)
      (where_so instant (joins slots l bodies (IsNew (ForkAt l at)) (SurfaceJoinAt l at) next) refl) (bodies_so slots l 0 bodies)
  statement_so slots (When l at guard e body) next =
      both (rule_where (are_instant body) (flagged (SurfaceEndAt l at) (next ∷ []))) _
      (where_so (are_instant body) (flagged (SurfaceEndAt l at) (next ∷ [])) refl) (block_so slots body (body_ends l at body))
  statement_so slots (Repeat l at body) next = block_so slots body (SetsFlag (HeadAt l at))
  statement_so slots (Until l at body e) next = block_so slots body (SetsFlag (TestAt l at e))
  statement_so slots (While l at e body) next = block_so slots body (SetsFlag (TestAt l at e))
  statement_so slots (Again l at body e) next = block_so slots body (SetsFlag (TestAt l at e))

  block_so : (slots : Slots) (body : Block) (next : Change) → all_so (rules_in slots body next)
  block_so slots Done next = refl
  block_so slots (Then s rest) next =
      both (rules_of slots s (enter rest next)) (rules_in slots rest next) (statement_so slots s (enter rest next)) (block_so slots rest next)

  bodies_so : (slots : Slots) (l : Label) (k : ℕ) (bodies : Bodies) → all_so (rules_in_each slots l k bodies)
  bodies_so slots l k Last = refl
  bodies_so slots l k (BodyOf weak body rest) =
      both (rules_in slots body (SetsCounter (slots.ending l k))) (rules_in_each slots l (suc k) rest) (block_so slots body (SetsCounter (slots.ending l k)))
      (bodies_so slots l (suc k) rest)

of_member : (rs : List Transition) (rule : Transition) → all_so rs → Contains rs rule → told rule ≡ true
of_member [] rule all there = let below : there.0 < 0 = there.1 in absurd (omega (arith, below))
of_member (x ∷ rs) rule all (zero, within, is) = subst (λ (r : Transition). told r ≡ true) is (first (told x) all)
  where
    first : (b : Bool) → (b && list_all told rs) ≡ true → b ≡ true
    first true h = refl
    first false h = absurd (cc)
of_member (x ∷ rs) rule all (suc k, within, is) = of_member rs rule (rest (told x) all) (k, omega (arith, within), is)
  where
    rest : (b : Bool) → (b && list_all told rs) ≡ true → list_all told rs ≡ true
    rest true h = h
    rest false h = absurd (cc)

none_is : (changes : List Change) → are_none changes ≡ true → changes ≡ []
none_is [] h = refl
none_is (change ∷ rest) h = absurd (cc)

set_none : (number : Node → ℕ) (changes : List Change) (r : Registers) → list_all sets_counter changes ≡ true →
    (all_changed number changes r).rested ≡ r.rested
set_none number [] r all = refl
set_none number (SetsCounter slot ∷ rest) r all = set_none number rest (with_counter slot.counter slot.value r) all
set_none number (SetsFlag n ∷ rest) r all = absurd (cc)
set_none number (ClearsCounter k ∷ rest) r all = absurd (cc)
set_none number (ClearsBoth k ∷ rest) r all = absurd (cc)
set_none number (SetsMark n ∷ rest) r all = absurd (cc)
set_none number (EndsWhen start surface depth ∷ rest) r all = absurd (cc)
set_none number (Finishes ∷ rest) r all = absurd (cc)

-- what is asked of what counters held depends on nothing else
rest_same : (number : Node → ℕ) (n : Node) (condition : Condition) (r s : Registers) → asks_rest condition ≡ true → r.rested ≡ s.rested →
    due_by number r n condition ≡ due_by number s n condition
rest_same number n (Rested slot) r s asks same = ap (λ rested. is_at rested slot) same
rest_same number n Flagged r s asks same = absurd (cc)
rest_same number n (RestedIn slots) r s asks same = absurd (cc)
rest_same number n (Ended age needed) r s asks same = absurd (cc)

module _ (slots : Slots) (body : Block) (rule : Transition) (there : Contains (rules slots body) rule) (l : Label) (at : Place) (arguments : Arguments) where
  told_of : (n : Node) → rule.node ≡ n → told_by n rule ≡ true
  told_of n is = ap (λ n. told_by n rule) (sym is) ∙ of_member (rules slots body) rule (block_so slots body Finishes) there

  -- where it goes on nothing changes unless the answer is true
  pub resumes_quiet : rule.node ≡ ResumeAt l at arguments → rule.on_false ≡ []
  resumes_quiet is = none_is rule.on_false (and_second (asks_rest rule.condition) (are_none rule.on_false) (told_of (ResumeAt l at arguments) is))

  -- whether it goes on depends on what counters held alone
  pub resumes_rested : (number : Node → ℕ) (r s : Registers) → rule.node ≡ ResumeAt l at arguments → r.rested ≡ s.rested →
      is_due number rule r ≡ is_due number rule s
  resumes_rested number r s is same =
      rest_same number rule.node rule.condition r s
      (and_first (asks_rest rule.condition) (are_none rule.on_false) (told_of (ResumeAt l at arguments) is)) same

  -- where it begins that doesn't change
  pub begins_quiet : (number : Node → ℕ) (answer : Bool) (r : Registers) → rule.node ≡ EnterAt l at arguments →
      (after_rule number rule answer r).rested ≡ r.rested
  begins_quiet number true r is =
      set_none number rule.on_true r
      (and_first (list_all sets_counter rule.on_true) (are_none rule.on_false) (told_of (EnterAt l at arguments) is))
  begins_quiet number false r is =
      ap (λ changes. (all_changed number changes r).rested)
      (none_is rule.on_false (and_second (list_all sets_counter rule.on_true) (are_none rule.on_false) (told_of (EnterAt l at arguments) is)))
