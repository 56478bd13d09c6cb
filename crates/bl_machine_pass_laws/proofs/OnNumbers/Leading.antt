-- What the changes of one rule do to what counters may hold.
use Rattle.std.proofs.Common.{◌≡◌, inl, inr, ℕ, suc, Bool, true, false, List, [], ◌∷◌, ◌++◌, map, if◌then◌else◌, refl, sym, ap, subst, ◌∙◌}
use Rattle.std.proofs.lemmas.Bool.{or_left}
use Rattle.bl_tree.proofs.Basics.{neither_first, neither_second, number_itself, true_false_any}
use Rattle.bl_graph_nodes.specs.Nodes.{Node, entry}
use Rattle.bl_graph_nodes.specs.Plain.{Block, Bodies, Body as BodyOf, Done, Label, Last, Plain, Then}
use Rattle.bl_ctree.specs.Control.{Phase}
use Rattle.bl_ctree_laws.specs.Steps.{turn}
use Rattle.bl_ctree_laws.specs.Trees.{Fork, Tree, Trees, Watch, Guard, Par, Seq, trees_begun, beside, do_block, is_nil, seq}
use Rattle.bl_machine.specs.declared.slots.Slot.{Slot}
use Rattle.bl_machine.specs.Uses.{Slots, is_of, uses_in, uses_in_branch, uses_in_each}
use Rattle.bl_machine_laws.specs.Numbers.Numbers.{At, Next, Over, Rests, into, value_at_counter}
use Rattle.bl_machine_pass.specs.SlotLayout.{BeginsAt, BranchesRestAt}
use Rattle.bl_machine_pass.specs.Registers.{Registers, all_changed, changed}
use Rattle.bl_machine_pass.specs.Transitions.{Change, ClearsBoth, ClearsCounter, SetsCounter, SetsFlag, SetsMark, Transition, counters_in, counters_in_each}
use Rattle.bl_machine_pass.specs.Transitions.{enter, enter_each, marked, once}
use Rattle.bl_machine_pass_laws.specs.Turns.Holds.{BranchesMayHold, Lingers, MayHold}
use Rattle.bl_machine_pass_laws.proofs.OnNumbers.Bools.{either, if_false, if_same, if_true}
use Rattle.bl_machine_pass_laws.proofs.OnNumbers.Changing.{Goes, changed_append, enter_go, forgets_in, forgets_over, frees_each, frees_over, holds_go}
use Rattle.bl_machine_pass_laws.proofs.OnNumbers.Changing.{last_false, last_in}
use Rattle.bl_machine_pass_laws.proofs.OnNumbers.Numbered.{block_may, block_nil, seq_may}
use Rattle.bl_ctree_laws_traces.proofs.OnProgress.Beginning.{seq_unended}
use Rattle.bl_ctree_laws.proofs.Tests.{not_less}

-- Leads slots all low number used c next last c' changes: the changes lead from what counters may hold for the tree c to that for c', where `next`
-- follows; they leave all counters that aren't used; and they end the body where the tree has ended, if that is its end
pub record Leads (slots : Slots) (all : List Transition) (low : ℕ) (number : Node → ℕ) (used : ℕ → Bool) (c : Tree) (next : Next) (last : Bool) (c' : Tree)
    (changes : List Change) : Type 0 where
  pub numbers : (r : Registers) (j : ℕ) → MayHold slots all low c next j (r.counters j) →
      MayHold slots all low c' next j ((all_changed number changes r).counters j)
  pub keeps_unused : (r : Registers) (j : ℕ) → used j ≡ false → (all_changed number changes r).counters j ≡ r.counters j
  pub ends : (r : Registers) → r.over ≡ false → (all_changed number changes r).over ≡ (if is_nil c' then last else false)

-- the number_itself of branches, which never end the body
pub record LeadsEach (slots : Slots) (all : List Transition) (number : Node → ℕ) (l : Label) (k : ℕ) (bodies : Bodies) (branches branches' : Trees)
    (changes : List Change) : Type 0 where
  pub numbers : (r : Registers) (j : ℕ) → BranchesMayHold slots all l k bodies branches j (r.counters j) →
      BranchesMayHold slots all l k bodies branches' j ((all_changed number changes r).counters j)
  pub keeps_unused : (r : Registers) (j : ℕ) → uses_in_each slots l k bodies j ≡ false → (all_changed number changes r).counters j ≡ r.counters j
  pub goes_on : (r : Registers) → r.over ≡ false → (all_changed number changes r).over ≡ false

-- the changes leave nothing of the tree's numbers, but for what may be left at the counter of its list
pub record Clears (slots : Slots) (all : List Transition) (low : ℕ) (number : Node → ℕ) (used : ℕ → Bool) (c : Tree) (next : Next) (changes : List Change) :
    Type 0 where
  pub none : (r : Registers) (j : ℕ) → MayHold slots all low c next j (r.counters j) → Lingers all low j ((all_changed number changes r).counters j)
  pub keeps_unused : (r : Registers) (j : ℕ) → used j ≡ false → (all_changed number changes r).counters j ≡ r.counters j
  pub goes_on : (r : Registers) → (all_changed number changes r).over ≡ r.over

module _ (slots : Slots) (all : List Transition) (low : ℕ) (number : Node → ℕ) where
  -- ---- what is cleared first

  pub clears_nothing : (used : ℕ → Bool) (c : Tree) (next : Next) → ((j v : ℕ) → MayHold slots all low c next j v → Lingers all low j v) →
      Clears slots all low number used c next []
  clears_nothing used c next none = record { none = λ r j e. none j (r.counters j) e; keeps_unused = λ r j off. refl; goes_on = λ r. refl }

  pub clears_each : (used : ℕ → Bool) (c : Tree) (next : Next) (l : Label) (bodies : Bodies) →
      ((j : ℕ) → uses_in_each slots l 0 bodies j ≡ true → used j ≡ true) →
      ((j v : ℕ) → uses_in_each slots l 0 bodies j ≡ false → MayHold slots all low c next j v → Lingers all low j v) →
      Clears slots all low number used c next (map ClearsCounter (once (counters_in_each slots l 0 bodies)))
  clears_each used c next l bodies within none = record {
    none = λ r j e. subst (Lingers all low j) (sym (frees_each number slots l bodies r j)) (either (uses_in_each slots l 0 bodies j)
        (λ on. inl (if_true (uses_in_each slots l 0 bodies j) 0 (r.counters j) on))
        (λ off. subst (Lingers all low j) (sym (if_false (uses_in_each slots l 0 bodies j) 0 (r.counters j) off)) (none j (r.counters j) off e)));
    keeps_unused = λ r j off. frees_each number slots l bodies r j
        ∙ if_false (uses_in_each slots l 0 bodies j) 0 (r.counters j) (not_less (uses_in_each slots l 0 bodies j) (used j) (within j) off);
    goes_on = λ r. frees_over number (once (counters_in_each slots l 0 bodies)) r;
  }

  pub clears_body : (used : ℕ → Bool) (c : Tree) (next : Next) (body : Block) → ((j : ℕ) → uses_in slots body j ≡ true → used j ≡ true) →
      ((j v : ℕ) → uses_in slots body j ≡ false → MayHold slots all low c next j v → Lingers all low j v) →
      Clears slots all low number used c next (map ClearsBoth (once (counters_in slots body)))
  clears_body used c next body within none = record {
    none = λ r j e. subst (Lingers all low j) (sym (forgets_in number slots body r j)) (either (uses_in slots body j)
        (λ on. inl (if_true (uses_in slots body j) 0 (r.counters j) on))
        (λ off. subst (Lingers all low j) (sym (if_false (uses_in slots body j) 0 (r.counters j) off)) (none j (r.counters j) off e)));
    keeps_unused = λ r j off. forgets_in number slots body r j
        ∙ if_false (uses_in slots body j) 0 (r.counters j) (not_less (uses_in slots body j) (used j) (within j) off);
    goes_on = λ r. forgets_over number (once (counters_in slots body)) r;
  }

  -- ---- and then a block begins, or what follows does

  pub block_leads : (used : ℕ → Bool) (c : Tree) (next : Next) (last : Bool) (clear : List Change) (body : Block) (change : Change) →
      Clears slots all low number used c next clear → Goes all low number used change next last →
      Leads slots all low number used c next last (do_block body) (clear ++ enter body change ∷ [])
  block_leads used c next last clear body change clears goes = record {
    numbers = λ r j e. subst (λ (x : Registers). MayHold slots all low (do_block body) next j (x.counters j))
        (sym (changed_append number clear (enter body change ∷ []) r))
        (block_may slots all low body next j ((changed number (enter body change) (all_changed number clear r)).counters j)
        (enters.sets (all_changed number clear r) j (clears.none r j e)));
    keeps_unused = λ r j off. ap (λ (x : Registers). x.counters j) (changed_append number clear (enter body change ∷ []) r)
        ∙ enters.keeps_unused (all_changed number clear r) j off ∙ clears.keeps_unused r j off;
    ends = λ r e. ap (λ (x : Registers). x.over) (changed_append number clear (enter body change ∷ []) r)
        ∙ enters.ends (all_changed number clear r) (clears.goes_on r ∙ e) ∙ block_nil body last;
  }
    where
      enters : Goes all low number used (enter body change) (into body next) (last_in body last)
      enters = enter_go all low number used body change next last goes

  -- a turn of a loop begins
  turn_enters : (body : Block) (x : Plain) (change : Change) → enter (turn body x) change ≡ enter body (SetsFlag (entry x))
  turn_enters Done x change = refl
  turn_enters (Then s rest) x change = refl

  pub turn_leads : (used : ℕ → Bool) (c : Tree) (next : Next) (last : Bool) (body : Block) (x : Plain) (change : Change) →
      ((j v : ℕ) → MayHold slots all low c next j v → Lingers all low j v) → Goes all low number used change next last →
      Leads slots all low number used c next last (do_block (turn body x)) (enter body (SetsFlag (entry x)) ∷ [])
  turn_leads used c next last body x change none goes =
      subst (λ y. Leads slots all low number used c next last (do_block (turn body x)) (y ∷ [])) (turn_enters body x change)
      (block_leads used c next last [] (turn body x) change (clears_nothing used c next none) goes)

  -- it rests
  pub rests_lead : (used : ℕ → Bool) (c : Tree) (next : Next) (last : Bool) (c' : Tree) (slot : Slot) → used slot.counter ≡ true →
      slot.counter ≡ low → ((j v : ℕ) → MayHold slots all low c next j v → Lingers all low j v) →
      ((j v : ℕ) → v ≡ value_at_counter slot j → MayHold slots all low c' next j v) → is_nil c' ≡ false →
      Leads slots all low number used c next last c' (SetsCounter slot ∷ [])
  rests_lead used c next last c' slot there lies none rests unended = record {
    numbers = λ r j e. rests j ((changed number (SetsCounter slot) r).counters j) (holds.sets r j (none j (r.counters j) e));
    keeps_unused = λ r j off. holds.keeps_unused r j off;
    ends = λ r e. e ∙ sym (if_false (is_nil c') last false unended);
  }
    where
      holds : Goes all low number used (SetsCounter slot) (Rests slot) false
      holds = holds_go all low number used slot there lies

  -- nothing changes
  pub stays_lead : (used : ℕ → Bool) (c : Tree) (next : Next) (last : Bool) (c' : Tree) →
      ((j v : ℕ) → MayHold slots all low c next j v → MayHold slots all low c' next j v) → is_nil c' ≡ false →
      Leads slots all low number used c next last c' []
  stays_lead used c next last c' number_itself unended = record {
    numbers = λ r j e. number_itself j (r.counters j) e;
    keeps_unused = λ r j off. refl;
    ends = λ r e. e ∙ sym (if_false (is_nil c') last false unended);
  }

  -- a mark first
  pub marked_lead : (used : ℕ → Bool) (c : Tree) (next : Next) (last : Bool) (c' : Tree) (instant : Bool) (n : Node) (changes : List Change) →
      Leads slots all low number used c next last c' changes → Leads slots all low number used c next last c' (marked instant n changes)
  marked_lead used c next last c' true n changes leads = record {
    numbers = λ r j e. leads.numbers (changed number (SetsMark n) r) j e;
    keeps_unused = λ r j off. leads.keeps_unused (changed number (SetsMark n) r) j off;
    ends = λ r e. leads.ends (changed number (SetsMark n) r) e;
  }
  marked_lead used c next last c' false n changes leads = leads

  -- ---- in constructs around

  pub seq_leads : (used : ℕ → Bool) (c : Tree) (s : Plain) (rest : Block) (next : Next) (last : Bool) (c' : Tree) (changes : List Change) →
      Leads slots all low number used c (At (entry s)) false c' changes →
      Leads slots all low number used (Seq c (Then s rest)) next last (seq c' (Then s rest)) changes
  seq_leads used c s rest next last c' changes leads = record {
    numbers = λ r j e. seq_may slots all low c' s rest next j ((all_changed number changes r).counters j) (leads.numbers r j e);
    keeps_unused = leads.keeps_unused;
    ends = λ r e. leads.ends r e ∙ if_same (is_nil c') false ∙ sym (if_false (is_nil (seq c' (Then s rest))) last false (seq_unended c' s rest));
  }

  pub guard_leads : (used : ℕ → Bool) (whole : Tree) (c : Tree) (next : Next) (last : Bool) (s : Watch) (phase : Phase) (stood : Bool) (c' : Tree)
      (changes : List Change) → ((j : ℕ) → uses_in slots s.body j ≡ true → used j ≡ true) →
      ((j v : ℕ) → MayHold slots all low whole next j v → MayHold slots all low c Over j v) →
      Leads slots all low number (uses_in slots s.body) c Over false c' changes →
      Leads slots all low number used whole next last (Guard s phase stood c') changes
  guard_leads used whole c next last s phase stood c' changes within is leads = record {
    numbers = λ r j e. leads.numbers r j (is j (r.counters j) e);
    keeps_unused = λ r j off. leads.keeps_unused r j (not_less (uses_in slots s.body j) (used j) (within j) off);
    ends = λ r e. leads.ends r e ∙ if_same (is_nil c') false;
  }

-- ---- branches

module _ (slots : Slots) (all : List Transition) (number : Node → ℕ) (l : Label) where
  -- a branch uses the counter at which it rests
  pub own_counter : (k : ℕ) (body : Block) → uses_in_branch slots l k body (slots.ending l k).counter ≡ true
  own_counter k body =
      or_left (is_of (slots.ending l k) (slots.ending l k).counter) (uses_in slots body (slots.ending l k).counter) (number_itself (slots.ending l k).counter)

  -- the branches begin
  enters_in : (k : ℕ) (body : Block) →
      Goes all (slots.ending l k).counter number (uses_in_branch slots l k body) (enter body (SetsCounter (slots.ending l k)))
      (into body (Rests (slots.ending l k))) (last_in body false)
  enters_in k body =
      enter_go all (slots.ending l k).counter number (uses_in_branch slots l k body) body (SetsCounter (slots.ending l k)) (Rests (slots.ending l k)) false
      (holds_go all (slots.ending l k).counter number (uses_in_branch slots l k body) (slots.ending l k) (own_counter k body) refl)

  begun_keeps : (k : ℕ) (bodies : Bodies) (r : Registers) (j : ℕ) → uses_in_each slots l k bodies j ≡ false →
      (all_changed number (enter_each slots l k bodies) r).counters j ≡ r.counters j
  begun_keeps k Last r j off = refl
  begun_keeps k (BodyOf weak body rest) r j off =
      begun_keeps (suc k) rest (changed number (enter body (SetsCounter (slots.ending l k))) r) j
      (neither_second (uses_in_branch slots l k body j) (uses_in_each slots l (suc k) rest j) off)
      ∙ (enters_in k body).keeps_unused r j (neither_first (uses_in_branch slots l k body j) (uses_in_each slots l (suc k) rest j) off)

  -- a branch that doesn't use a counter doesn't rest at it
  none_elsewhere : (k : ℕ) (body : Block) (j v : ℕ) → Lingers all (slots.ending l k).counter j v → uses_in_branch slots l k body j ≡ false → v ≡ 0
  none_elsewhere k body j v (inl none) off = none
  none_elsewhere k body j v (inr left) off =
      true_false_any (uses_in_branch slots l k body j) (ap (uses_in_branch slots l k body) left.0 ∙ own_counter k body) off

  -- the first of some branches may find the number of a place that was left at its counter, and nothing at others
  abbrev FirstLingers : ℕ → Bodies → ℕ → ℕ → Type 0
  FirstLingers k Last j v = v ≡ 0
  FirstLingers k (BodyOf weak body rest) j v = Lingers all (slots.ending l k).counter j v

  none_lingers : (k : ℕ) (bodies : Bodies) (j v : ℕ) → v ≡ 0 → FirstLingers k bodies j v
  none_lingers k Last j v none = none
  none_lingers k (BodyOf weak body rest) j v none = inl none

  begun_numbers : (k : ℕ) (bodies : Bodies) → BranchesRestAt slots l k bodies → (r : Registers) (j : ℕ) → FirstLingers k bodies j (r.counters j) →
      BranchesMayHold slots all l k bodies (trees_begun bodies) j ((all_changed number (enter_each slots l k bodies) r).counters j)
  begun_numbers k Last laid r j e = e
  begun_numbers k (BodyOf weak body rest) laid r j e = (
    λ on. subst (MayHold slots all (slots.ending l k).counter (do_block body) (Rests (slots.ending l k)) j)
        (sym (begun_keeps (suc k) rest (changed number (enter body (SetsCounter (slots.ending l k))) r) j (laid.1 j on)))
        (block_may slots all (slots.ending l k).counter body (Rests (slots.ending l k)) j
        ((changed number (enter body (SetsCounter (slots.ending l k))) r).counters j) ((enters_in k body).sets r j e)),
    λ off. begun_numbers (suc k) rest laid.2 (changed number (enter body (SetsCounter (slots.ending l k))) r) j
        (none_lingers (suc k) rest j ((changed number (enter body (SetsCounter (slots.ending l k))) r).counters j)
        ((enters_in k body).keeps_unused r j off ∙ none_elsewhere k body j (r.counters j) e off)),
  )

  begun_over : (k : ℕ) (bodies : Bodies) (r : Registers) → r.over ≡ false → (all_changed number (enter_each slots l k bodies) r).over ≡ false
  begun_over k Last r e = e
  begun_over k (BodyOf weak body rest) r e =
      begun_over (suc k) rest (changed number (enter body (SetsCounter (slots.ending l k))) r) ((enters_in k body).ends r e ∙ last_false body)

  -- a turn of the first branch, and of a later one
  pub first_leads : (k : ℕ) (weak weak' : Bool) (body : Block) (rest : Bodies) (c c' : Tree) (branches : Trees) (changes : List Change) →
      Leads slots all (slots.ending l k).counter number (uses_in_branch slots l k body) c (Rests (slots.ending l k)) false c' changes →
      LeadsEach slots all number l k (BodyOf weak body rest) (beside weak' c branches) (beside weak' c' branches) changes
  first_leads k weak weak' body rest c c' branches changes leads = record {
    numbers = λ r j e. (
      λ on. leads.numbers r j (e.0 on),
      λ off. subst (BranchesMayHold slots all l (suc k) rest branches j) (sym (leads.keeps_unused r j off)) (e.1 off),
    );
    keeps_unused = λ r j off. leads.keeps_unused r j (neither_first (uses_in_branch slots l k body j) (uses_in_each slots l (suc k) rest j) off);
    goes_on = λ r e. leads.ends r e ∙ if_same (is_nil c') false;
  }

  pub later_leads : (k : ℕ) (weak weak' : Bool) (body : Block) (rest : Bodies) (c : Tree) (branches branches' : Trees) (changes : List Change) →
      ((j : ℕ) → uses_in_branch slots l k body j ≡ true → uses_in_each slots l (suc k) rest j ≡ false) →
      LeadsEach slots all number l (suc k) rest branches branches' changes →
      LeadsEach slots all number l k (BodyOf weak body rest) (beside weak' c branches) (beside weak' c branches') changes
  later_leads k weak weak' body rest c branches branches' changes apart leads = record {
    numbers = λ r j e. (
      λ on. subst (MayHold slots all (slots.ending l k).counter c (Rests (slots.ending l k)) j) (sym (leads.keeps_unused r j (apart j on))) (e.0 on),
      λ off. leads.numbers r j (e.1 off),
    );
    keeps_unused = λ r j off. leads.keeps_unused r j (neither_second (uses_in_branch slots l k body j) (uses_in_each slots l (suc k) rest j) off);
    goes_on = leads.goes_on;
  }

module _ (slots : Slots) (all : List Transition) (low : ℕ) (number : Node → ℕ) where
  -- all begin, at the counter at which the first of them rests
  all_begin : (l : Label) (bodies : Bodies) → BeginsAt slots l low bodies → BranchesRestAt slots l 0 bodies → (r : Registers) (j : ℕ) →
      Lingers all low j (r.counters j) →
      BranchesMayHold slots all l 0 bodies (trees_begun bodies) j ((all_changed number (enter_each slots l 0 bodies) r).counters j)
  all_begin l Last begins laid r j e = absurd begins
  all_begin l (BodyOf weak body rest) begins laid r j e =
      begun_numbers slots all number l 0 (BodyOf weak body rest) laid r j (subst (λ k. Lingers all k j (r.counters j)) (sym begins) e)

  pub fork_leads : (used : ℕ → Bool) (c : Tree) (next : Next) (last : Bool) (s : Fork) (stood : Bool) →
      ((j : ℕ) → uses_in_each slots s.label 0 s.bodies j ≡ true → used j ≡ true) → BeginsAt slots s.label low s.bodies →
      BranchesRestAt slots s.label 0 s.bodies → ((j v : ℕ) → MayHold slots all low c next j v → Lingers all low j v) →
      Leads slots all low number used c next last (Par s stood (trees_begun s.bodies)) (enter_each slots s.label 0 s.bodies)
  fork_leads used c next last s stood within begins laid none = record {
    numbers = λ r j e. all_begin s.label s.bodies begins laid r j (none j (r.counters j) e);
    keeps_unused = λ r j off.
        begun_keeps slots all number s.label 0 s.bodies r j (not_less (uses_in_each slots s.label 0 s.bodies j) (used j) (within j) off);
    ends = λ r e. begun_over slots all number s.label 0 s.bodies r e;
  }

  pub par_leads : (used : ℕ → Bool) (next : Next) (last : Bool) (s : Fork) (stood : Bool) (branches branches' : Trees) (changes : List Change) →
      ((j : ℕ) → uses_in_each slots s.label 0 s.bodies j ≡ true → used j ≡ true) →
      LeadsEach slots all number s.label 0 s.bodies branches branches' changes →
      Leads slots all low number used (Par s stood branches) next last (Par s stood branches') changes
  par_leads used next last s stood branches branches' changes within leads = record {
    numbers = leads.numbers;
    keeps_unused = λ r j off. leads.keeps_unused r j (not_less (uses_in_each slots s.label 0 s.bodies j) (used j) (within j) off);
    ends = leads.goes_on;
  }
