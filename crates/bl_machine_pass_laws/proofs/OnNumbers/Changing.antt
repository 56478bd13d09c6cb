-- What changes do to counters, and to whether the body has ended.
use Rattle.std.proofs.Common.{◌≡◌, inl, inr, ℕ, suc, Bool, true, false, ◌||◌, List, [], ◌∷◌, ◌++◌, map}
use Rattle.std.proofs.Common.{if◌then◌else◌, nat_eq, refl, sym, ap, subst, ◌∙◌}
use Rattle.std.specs.List.{list_any}
use Rattle.std.proofs.lemmas.List.Folds.{list_any-append}
use Rattle.bl_tree.proofs.Basics.{number_test, or_false, or_regroup, same_number}
use Rattle.bl_tree.specs.declared.place.Place.{Place}
use Rattle.bl_graph_nodes.specs.Nodes.{DepthEndAt, Node, StartAt, SurfaceEndAt, are_instant, entry}
use Rattle.bl_graph_nodes.specs.Plain.{Act, Again, Await, Block, Bodies, Body as BodyOf, Cobegin, Done, If, Label, Last, Plain, Repeat, Run as RunOf, Then}
use Rattle.bl_graph_nodes.specs.Plain.{Until, When, While}
use Rattle.bl_machine.specs.declared.slots.Slot.{Slot}
use Rattle.bl_machine.specs.Uses.{Slots, is_of, uses, uses_in, uses_in_each}
use Rattle.bl_machine_laws.specs.Numbers.Numbers.{At, Next, Over, Rests, into, value_at_counter}
use Rattle.bl_machine_pass.specs.Registers.{Registers, all_changed, changed, with_at, with_flag}
use Rattle.bl_machine_pass.specs.Transitions.{Change, ClearsBoth, ClearsCounter, EndsWhen, Finishes, SetsCounter, SetsFlag, Transition, body_ends, counters_in}
use Rattle.bl_machine_pass.specs.Transitions.{counters_in_each, counters_of, enter, once, once_but}
use Rattle.bl_machine_pass_laws.specs.Turns.Holds.{Lingers, NextMayHold}
use Rattle.bl_machine_pass_laws.proofs.OnNumbers.Bools.{either, if_false, if_same, if_true}
use Rattle.bl_ctree_laws.proofs.Tests.{not_less}

-- ---- what follows a part

-- Goes all low number used change next last: where a part holds nothing of its own in a counter the change leaves there what `next` may hold, it
-- leaves all counters that aren't used, and it ends the body exactly where `last` is true
pub record Goes (all : List Transition) (low : ℕ) (number : Node → ℕ) (used : ℕ → Bool) (change : Change) (next : Next) (last : Bool) : Type 0 where
  pub sets : (r : Registers) (j : ℕ) → Lingers all low j (r.counters j) → NextMayHold all low next j ((changed number change r).counters j)
  pub keeps_unused : (r : Registers) (j : ℕ) → used j ≡ false → (changed number change r).counters j ≡ r.counters j
  pub ends : (r : Registers) → r.over ≡ false → (changed number change r).over ≡ last

-- whether the end of the block is that of the body
abbrev pub last_in : Block → Bool → Bool
last_in Done last = last
last_in (Then s rest) last = false

pub last_false : (body : Block) → last_in body false ≡ false
last_false Done = refl
last_false (Then s rest) = refl

-- a value that is set at a counter
pub set_keeps : (used : ℕ → Bool) (k v : ℕ) (counters : ℕ → ℕ) (j : ℕ) → used k ≡ true → used j ≡ false →
    with_at k v counters j ≡ counters j
set_keeps used k v counters j there off =
    if_false (nat_eq j k) v (counters j) (not_less (nat_eq j k) (used j) (λ e. ap used (same_number j k e) ∙ there) off)

module _ (all : List Transition) (low : ℕ) (number : Node → ℕ) (used : ℕ → Bool) where
  pub flags_go : (n : Node) (next : Next) → ((j v : ℕ) → Lingers all low j v → NextMayHold all low next j v) →
      Goes all low number used (SetsFlag n) next false
  flags_go n next opens = record {
    sets = λ r j e. opens j (r.counters j) e;
    keeps_unused = λ r j off. refl;
    ends = λ r e. e;
  }

  -- a number that is set at the first counter of a list replaces what was left there
  holds_at : (slot : Slot) → slot.counter ≡ low → (j v : ℕ) → Lingers all low j v → (if nat_eq j slot.counter then slot.value else v) ≡ value_at_counter slot j
  holds_at slot lies j v (inl e) = ap (λ x. if nat_eq j slot.counter then slot.value else x) e
  holds_at slot lies j v (inr left) =
      let at : nat_eq j slot.counter ≡ true = number_test j slot.counter (left.0 ∙ sym lies) in
      if_true (nat_eq j slot.counter) slot.value v at ∙ sym (if_true (nat_eq j slot.counter) slot.value 0 at)

  pub holds_go : (slot : Slot) → used slot.counter ≡ true → slot.counter ≡ low → Goes all low number used (SetsCounter slot) (Rests slot) false
  holds_go slot there lies = record {
    sets = λ r j e. holds_at slot lies j (r.counters j) e;
    keeps_unused = λ r j off. set_keeps used slot.counter slot.value r.counters j there off;
    ends = λ r e. e;
  }

  pub finishes_go : Goes all low number used Finishes Over true
  finishes_go = record {
    sets = λ r j e. e;
    keeps_unused = λ r j off. refl;
    ends = λ r e. refl;
  }

  -- or_false flag or another
  flag_counters : (b : Bool) (k m : ℕ) (r : Registers) (j : ℕ) → (if b then with_flag k r else with_flag m r).counters j ≡ r.counters j
  flag_counters true k m r j = refl
  flag_counters false k m r j = refl

  flag_over : (b : Bool) (k m : ℕ) (r : Registers) → (if b then with_flag k r else with_flag m r).over ≡ r.over
  flag_over true k m r = refl
  flag_over false k m r = refl

  ends_go : (start surface depth : Node) → Goes all low number used (EndsWhen start surface depth) Over false
  ends_go start surface depth = record {
    sets = λ r j e. subst (Lingers all low j) (sym (flag_counters (r.marks (number start)) (number surface) (number depth) r j)) e;
    keeps_unused = λ r j off. flag_counters (r.marks (number start)) (number surface) (number depth) r j;
    ends = λ r e. flag_over (r.marks (number start)) (number surface) (number depth) r ∙ e;
  }

  ends_or_flags : (b : Bool) (start surface depth : Node) →
      Goes all low number used (if b then EndsWhen start surface depth else SetsFlag depth) Over false
  ends_or_flags true start surface depth = ends_go start surface depth
  ends_or_flags false start surface depth = flags_go depth Over (λ j v e. e)

  pub body_ends_go : (l : Label) (at : Place) (body : Block) → Goes all low number used (body_ends l at body) Over false
  body_ends_go l at body = ends_or_flags (are_instant body) (StartAt l at) (SurfaceEndAt l at) (DepthEndAt l at)

  pub enter_go : (body : Block) (change : Change) (next : Next) (last : Bool) → Goes all low number used change next last →
      Goes all low number used (enter body change) (into body next) (last_in body last)
  enter_go Done change next last goes = goes
  enter_go (Then s rest) change next last goes = flags_go (entry s) (At (entry s)) (λ j v e. e)

-- ---- lists of changes

pub changed_append : (number : Node → ℕ) (xs ys : List Change) (r : Registers) →
    all_changed number (xs ++ ys) r ≡ all_changed number ys (all_changed number xs r)
changed_append number [] ys r = refl
changed_append number (x ∷ xs) ys r = changed_append number xs ys (changed number x r)

or_if : (a b : Bool) (x : ℕ) → (if b then 0 else (if a then 0 else x)) ≡ (if a || b then 0 else x)
or_if true b x = if_same b 0
or_if false b x = refl

-- whether a number is or_false of the list
abbrev pub is_in : ℕ → List ℕ → Bool
is_in j ks = list_any (nat_eq j) ks

module _ (number : Node → ℕ) where
  frees_at : (ks : List ℕ) (r : Registers) (j : ℕ) → (all_changed number (map ClearsCounter ks) r).counters j ≡ (if is_in j ks then 0 else r.counters j)
  frees_at [] r j = refl
  frees_at (k ∷ ks) r j = frees_at ks (changed number (ClearsCounter k) r) j ∙ or_if (nat_eq j k) (is_in j ks) (r.counters j)

  forgets_at : (ks : List ℕ) (r : Registers) (j : ℕ) → (all_changed number (map ClearsBoth ks) r).counters j ≡ (if is_in j ks then 0 else r.counters j)
  forgets_at [] r j = refl
  forgets_at (k ∷ ks) r j = forgets_at ks (changed number (ClearsBoth k) r) j ∙ or_if (nat_eq j k) (is_in j ks) (r.counters j)

  pub frees_over : (ks : List ℕ) (r : Registers) → (all_changed number (map ClearsCounter ks) r).over ≡ r.over
  frees_over [] r = refl
  frees_over (k ∷ ks) r = frees_over ks (changed number (ClearsCounter k) r)

  pub forgets_over : (ks : List ℕ) (r : Registers) → (all_changed number (map ClearsBoth ks) r).over ≡ r.over
  forgets_over [] r = refl
  forgets_over (k ∷ ks) r = forgets_over ks (changed number (ClearsBoth k) r)

-- ---- each number once

-- or_false that wasn't seen stays
once_step : (j k : ℕ) (seen rest : List ℕ) → is_in j seen ≡ false → (b : Bool) → is_in k seen ≡ b →
    ((more : List ℕ) → is_in j more ≡ false → is_in j (once_but more rest) ≡ is_in j rest) →
    is_in j (if b then once_but seen rest else k ∷ once_but (k ∷ seen) rest) ≡ (nat_eq j k || is_in j rest)
once_step j k seen rest off true is again =
    again seen off ∙ sym (ap (λ b. b || is_in j rest) (not_less (nat_eq j k) (is_in j seen) (λ e. ap (λ m. is_in m seen) (same_number j k e) ∙ is) off))
once_step j k seen rest off false is again =
    either (nat_eq j k)
    (λ e. ap (λ b. b || is_in j (once_but (k ∷ seen) rest)) e ∙ sym (ap (λ b. b || is_in j rest) e))
    (λ e. ap (λ b. nat_eq j k || b) (again (k ∷ seen) (ap (λ b. b || is_in j seen) e ∙ off)))

once_but_in : (j : ℕ) (ks seen : List ℕ) → is_in j seen ≡ false → is_in j (once_but seen ks) ≡ is_in j ks
once_but_in j [] seen off = refl
once_but_in j (k ∷ rest) seen off = once_step j k seen rest off (is_in k seen) refl (λ more none. once_but_in j rest more none)

pub once_in : (j : ℕ) (ks : List ℕ) → is_in j (once ks) ≡ is_in j ks
once_in j ks = once_but_in j ks [] refl

-- ---- the counters of a part are those that it uses

module _ (slots : Slots) (j : ℕ) where
  mutual
    counters_used : (s : Plain) → is_in j (counters_of slots s) ≡ uses slots s j
    counters_used (Act l s) = refl
    counters_used (Await l at e) = or_false (nat_eq j (slots.rest l).counter)
    counters_used (RunOf l at target a inputs outputs) = or_false (nat_eq j (slots.rest l).counter)
    counters_used (If l at e body other) =
        list_any-append (nat_eq j) (counters_in slots body) (counters_in slots other)
        ∙ ap (λ b. b || is_in j (counters_in slots other)) (counters_used_in body) ∙ ap (λ b. uses_in slots body j || b) (counters_used_in other)
    counters_used (Cobegin l at bodies) = counters_used_in_each l 0 bodies
    counters_used (When l at guard e body) = counters_used_in body
    counters_used (Repeat l at body) = counters_used_in body
    counters_used (Until l at body e) = counters_used_in body
    counters_used (While l at e body) = counters_used_in body
    counters_used (Again l at body e) = counters_used_in body

    pub counters_used_in : (body : Block) → is_in j (counters_in slots body) ≡ uses_in slots body j
    counters_used_in Done = refl
    counters_used_in (Then s rest) =
        list_any-append (nat_eq j) (counters_of slots s) (counters_in slots rest)
        ∙ ap (λ b. b || is_in j (counters_in slots rest)) (counters_used s) ∙ ap (λ b. uses slots s j || b) (counters_used_in rest)

    pub counters_used_in_each : (l : Label) (k : ℕ) (bodies : Bodies) → is_in j (counters_in_each slots l k bodies) ≡ uses_in_each slots l k bodies j
    counters_used_in_each l k Last = refl
    counters_used_in_each l k (BodyOf weak body rest) =
        ap (λ b. is_of (slots.ending l k) j || b)
        (list_any-append (nat_eq j) (counters_in slots body) (counters_in_each slots l (suc k) rest)
        ∙ ap (λ b. b || is_in j (counters_in_each slots l (suc k) rest)) (counters_used_in body)
        ∙ ap (λ b. uses_in slots body j || b) (counters_used_in_each l (suc k) rest))
        ∙ or_regroup (is_of (slots.ending l k) j) (uses_in slots body j) (uses_in_each slots l (suc k) rest j)

-- ---- what a join and a check clear

module _ (number : Node → ℕ) (slots : Slots) where
  pub frees_each : (l : Label) (bodies : Bodies) (r : Registers) (j : ℕ) →
      (all_changed number (map ClearsCounter (once (counters_in_each slots l 0 bodies))) r).counters j
      ≡ (if uses_in_each slots l 0 bodies j then 0 else r.counters j)
  frees_each l bodies r j =
      frees_at number (once (counters_in_each slots l 0 bodies)) r j
      ∙ ap (λ b. if b then 0 else r.counters j) (once_in j (counters_in_each slots l 0 bodies) ∙ counters_used_in_each slots j l 0 bodies)

  pub forgets_in : (body : Block) (r : Registers) (j : ℕ) →
      (all_changed number (map ClearsBoth (once (counters_in slots body))) r).counters j ≡ (if uses_in slots body j then 0 else r.counters j)
  forgets_in body r j =
      forgets_at number (once (counters_in slots body)) r j
      ∙ ap (λ b. if b then 0 else r.counters j) (once_in j (counters_in slots body) ∙ counters_used_in slots j body)
