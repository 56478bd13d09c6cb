-- Where a counter holds a number something of the tree rests there.
use Rattle.std.proofs.Common.{◌≡◌, ◌⊎◌, inl, inr, ⊎_elim, ℕ, suc, Bool, true, false, if◌then◌else◌, nat_eq, refl, sym, ap, subst, ◌∙◌, eq-eqb, eqb-true}
use Rattle.bl_tree.proofs.Basics.{true_false_any}
use Rattle.bl_graph_nodes.specs.Nodes.{Node, entry, nodes_in}
use Rattle.bl_graph_nodes.specs.Plain.{Block, Bodies, Body as BodyOf, Done, Label, Last, Then}
use Rattle.bl_ctree_laws.specs.Trees.{Tree, Trees, Nil, Wait, Test, Idle, Do, Seq, Par, Guard, Run, beside, is_nil, no_tree}
use Rattle.bl_machine.specs.declared.slots.Slot.{Slot}
use Rattle.bl_machine.specs.Uses.{Slots, uses_in_branch}
use Rattle.bl_machine_laws.specs.Numbers.Numbers.{At, Next, Over, Rests, at_next, numbers_in, numbers_of, value_at_counter}
use Rattle.bl_machine_pass.specs.SlotLayout.{EndOf, RestOf, Spot, slot_at, spots_in, spots_in_each}
use Rattle.bl_machine_pass.specs.Registers.{is_at}
use Rattle.bl_machine_pass_laws_turns.specs.Joins.Stems.{Member, StemEach, Stems}
use Rattle.bl_machine_pass_laws_turns.proofs.OnJoins.Lists.{right}
use Rattle.bl_ctree_laws_traces.proofs.OnProgress.Leading.{is_the_nil}
use Rattle.bl_machine_pass_laws.proofs.OnRooted.Resuming.{slot_is}

-- ---- numbers

-- where something is shown at a counter it is the number
shown_is : (slot : Slot) (j v : ℕ) → (v ≡ 0 → ⊥) → value_at_counter slot j ≡ v → (slot.counter ≡ j) × (slot.value ≡ v)
shown_is slot j v counted e = by_test (nat_eq j slot.counter) refl
  where
    by_test : (b : Bool) → nat_eq j slot.counter ≡ b → (slot.counter ≡ j) × (slot.value ≡ v)
    by_test true test = (sym (eqb-true j slot.counter test), sym (ap (λ b. if b then slot.value else 0) test) ∙ e)
    by_test false test = absurd (counted (sym (sym (ap (λ b. if b then slot.value else 0) test) ∙ e)))

pub shown_there : (slot : Slot) → value_at_counter slot slot.counter ≡ slot.value
shown_there slot = ap (λ b. if b then slot.value else 0) (eq-eqb slot.counter slot.counter refl)

-- ---- what rests

abbrev mutual
  -- RestsAt c p: the tree rests at the place, a branch that has ended at its end
  pub RestsAt : Tree → Spot → Type 0
  RestsAt Nil p = ⊥
  RestsAt (Wait s) p = p ≡ RestOf s.label
  RestsAt (Test s) p = p ≡ RestOf s.label
  RestsAt (Idle body) p = ⊥
  RestsAt (Do s) p = ⊥
  RestsAt (Seq c rest) p = RestsAt c p
  RestsAt (Par s stood branches) p = RestsEach s.label 0 branches p
  RestsAt (Guard s phase stood c) p = RestsAt c p
  RestsAt (Run s callee phase stood c) p = p ≡ RestOf s.label

  -- one of the branches does, from the one with this number on
  pub RestsEach : Label → ℕ → Trees → Spot → Type 0
  RestsEach l k no_tree p = ⊥
  RestsEach l k (beside weak c branches) p = ((is_nil c ≡ true) × (p ≡ EndOf l k)) ⊎ RestsAt c p ⊎ RestsEach l (suc k) branches p

-- a place at which the tree rests, with its number
pub record SpotIn (slots : Slots) (c : Tree) (j v : ℕ) : Type 0 where
  pub spot : Spot
  pub rests : RestsAt c spot
  pub counter : (slot_at slots spot).counter ≡ j
  pub value : (slot_at slots spot).value ≡ v

record SpotInEach (slots : Slots) (l : Label) (k : ℕ) (branches : Trees) (j v : ℕ) : Type 0 where
  spot : Spot
  rests : RestsEach l k branches spot
  counter : (slot_at slots spot).counter ≡ j
  value : (slot_at slots spot).value ≡ v

-- the first branch rests there, or a later one
branch_rests : (slots : Slots) (l : Label) (k : ℕ) (weak weak' : Bool) (body : Block) (rest : Bodies) (c : Tree) (branches : Trees) (j v : ℕ) →
    (v ≡ 0 → ⊥) →
    (numbers_of slots c (Rests (slots.ending l k)) j ≡ v → ((is_nil c ≡ true) × (value_at_counter (slots.ending l k) j ≡ v)) ⊎ SpotIn slots c j v) →
    (numbers_in slots l (suc k) rest branches j ≡ v → SpotInEach slots l (suc k) branches j v) →
    numbers_in slots l k (BodyOf weak body rest) (beside weak' c branches) j ≡ v → SpotInEach slots l k (beside weak' c branches) j v
branch_rests slots l k weak weak' body rest c branches j v counted one others e = by_use (uses_in_branch slots l k body j) refl
  where
    first_rests : ((is_nil c ≡ true) × (value_at_counter (slots.ending l k) j ≡ v)) ⊎ SpotIn slots c j v → SpotInEach slots l k (beside weak' c branches) j v
    first_rests (inl ended) =
        let is = shown_is (slots.ending l k) j v counted ended.1 in
        record { spot = EndOf l k; rests = inl (ended.0, refl); counter = is.0; value = is.1 }
    first_rests (inr it) = record { spot = it.spot; rests = inr (inl it.rests); counter = it.counter; value = it.value }

    by_use : (b : Bool) → uses_in_branch slots l k body j ≡ b → SpotInEach slots l k (beside weak' c branches) j v
    by_use true test =
        first_rests (one (sym (ap (λ b. if b then numbers_of slots c (Rests (slots.ending l k)) j else numbers_in slots l (suc k) rest branches j) test)
        ∙ e))
    by_use false test =
        let it = others (sym (ap (λ b. if b then numbers_of slots c (Rests (slots.ending l k)) j else numbers_in slots l (suc k) rest branches j) test)
        ∙ e) in record { spot = it.spot; rests = inr (inr it.rests); counter = it.counter; value = it.value }

mutual
  -- a counter that doesn't hold 0 holds the number of such a place, or of what follows where the tree has ended
  pub rests : (slots : Slots) (R : Spot → Type 0) (P : Node → Type 0) (c : Tree) (next : Next) (j v : ℕ) → (v ≡ 0 → ⊥) → Stems R P c →
      numbers_of slots c next j ≡ v → ((is_nil c ≡ true) × (at_next next j ≡ v)) ⊎ SpotIn slots c j v
  rests slots R P Nil next j v counted own e = inl (refl, e)
  rests slots R P (Wait s) next j v counted own e =
      let is = shown_is (slots.rest s.label) j v counted e in inr (record { spot = RestOf s.label; rests = refl; counter = is.0; value = is.1 })
  rests slots R P (Test s) next j v counted own e =
      let is = shown_is (slots.rest s.label) j v counted e in inr (record { spot = RestOf s.label; rests = refl; counter = is.0; value = is.1 })
  rests slots R P (Idle body) next j v counted own e = absurd (counted (sym e))
  rests slots R P (Do s) next j v counted own e = absurd (counted (sym e))
  rests slots R P (Seq c Done) next j v counted own e = absurd own
  rests slots R P (Seq c (Then s rest)) next j v counted own e =
      ⊎_elim (λ ended. absurd (counted (sym ended.1)))
      (λ it. inr (record { spot = it.spot; rests = it.rests; counter = it.counter; value = it.value }))
      (rests slots R P c (At (entry s)) j v counted own.0 e)
  rests slots R P (Par s stood branches) next j v counted own e =
      let it = rests_each slots R s.label 0 s.bodies branches j v counted own.1 e in
      inr (record { spot = it.spot; rests = it.rests; counter = it.counter; value = it.value })
  rests slots R P (Guard s phase stood c) next j v counted own e =
      ⊎_elim (λ ended. absurd (counted (sym ended.1)))
      (λ it. inr (record { spot = it.spot; rests = it.rests; counter = it.counter; value = it.value }))
      (rests slots R (Member (nodes_in s.body)) c Over j v counted own.1 e)
  rests slots R P (Run s callee phase stood c) next j v counted own e =
      let is = shown_is (slots.rest s.label) j v counted e in inr (record { spot = RestOf s.label; rests = refl; counter = is.0; value = is.1 })

  rests_each : (slots : Slots) (R : Spot → Type 0) (l : Label) (k : ℕ) (bodies : Bodies) (branches : Trees) (j v : ℕ) → (v ≡ 0 → ⊥) →
      StemEach R bodies branches → numbers_in slots l k bodies branches j ≡ v → SpotInEach slots l k branches j v
  rests_each slots R l k Last no_tree j v counted own e = absurd (counted (sym e))
  rests_each slots R l k Last (beside weak c branches) j v counted own e = absurd own
  rests_each slots R l k (BodyOf weak body rest) no_tree j v counted own e = absurd own
  rests_each slots R l k (BodyOf weak body rest) (beside weak' c branches) j v counted own e =
      branch_rests slots l k weak weak' body rest c branches j v counted
      (λ f. rests slots R (Member (nodes_in body)) c (Rests (slots.ending l k)) j v counted own.0 f)
      (λ f. rests_each slots R l (suc k) rest branches j v counted own.1 f) e

mutual
  -- where a tree rests is a place of the body of which it is left
  pub rests_there : (R : Spot → Type 0) (P : Node → Type 0) (c : Tree) (p : Spot) → Stems R P c → RestsAt c p → R p
  rests_there R P Nil p own h = absurd h
  rests_there R P (Wait s) p own h = subst R (sym h) own
  rests_there R P (Test s) p own h = subst R (sym h) own
  rests_there R P (Idle body) p own h = absurd h
  rests_there R P (Do s) p own h = absurd h
  rests_there R P (Seq c Done) p own h = absurd own
  rests_there R P (Seq c (Then s rest)) p own h = rests_there R P c p own.0 h
  rests_there R P (Par s stood branches) p own h = each_there R s.label 0 s.bodies branches p own.0.spots own.1 h
  rests_there R P (Guard s phase stood c) p own h = rests_there R (Member (nodes_in s.body)) c p own.1 h
  rests_there R P (Run s callee phase stood c) p own h = subst R (sym h) own

  each_there : (R : Spot → Type 0) (l : Label) (k : ℕ) (bodies : Bodies) (branches : Trees) (p : Spot) →
      ((q : Spot) → Member (spots_in_each l k bodies) q → R q) → StemEach R bodies branches → RestsEach l k branches p → R p
  each_there R l k bodies no_tree p spots own h = absurd h
  each_there R l k Last (beside weak c branches) p spots own h = absurd own
  each_there R l k (BodyOf weak body rest) (beside weak' c branches) p spots own (inl ended) = spots p (inl ended.1)
  each_there R l k (BodyOf weak body rest) (beside weak' c branches) p spots own (inr (inl h)) =
      rests_there R (Member (nodes_in body)) c p own.0 h
  each_there R l k (BodyOf weak body rest) (beside weak' c branches) p spots own (inr (inr h)) =
      each_there R l (suc k) rest branches p (λ q there. spots q (inr (right (spots_in body) (spots_in_each l (suc k) rest) q there))) own.1 h

-- ---- a branch and its end

-- the counter of a branch's end holds its number exactly where the branch has ended
pub end_tells : (slots : Slots) (R : Spot → Type 0) (P : Node → Type 0) (c : Tree) (end : Slot) (counters : ℕ → ℕ) → Stems R P c →
    (end.value ≡ 0 → ⊥) → counters end.counter ≡ numbers_of slots c (Rests end) end.counter →
    ((p : Spot) → RestsAt c p → slot_at slots p ≡ end → ⊥) → is_at counters end ≡ is_nil c
end_tells slots R P c end counters own counted held alone = by_end (is_nil c) refl
  where
    not_there : ((is_nil c ≡ true) × (value_at_counter end end.counter ≡ end.value)) ⊎ SpotIn slots c end.counter end.value → is_nil c ≡ false → ⊥
    not_there (inl ended) e = true_false_any (is_nil c) ended.0 e
    not_there (inr it) e = alone it.spot it.rests (slot_is (slot_at slots it.spot) end it.counter it.value)

    unended : (b : Bool) → is_at counters end ≡ b → is_nil c ≡ false → is_at counters end ≡ false
    unended true test e =
        absurd (not_there (rests slots R P c (Rests end) end.counter end.value counted own
        (sym held ∙ eqb-true (counters end.counter) end.value test)) e)
    unended false test e = test

    by_end : (b : Bool) → is_nil c ≡ b → is_at counters end ≡ is_nil c
    by_end true e =
        eq-eqb (counters end.counter) end.value (held ∙ ap (λ (tree : Tree). numbers_of slots tree (Rests end) end.counter) (is_the_nil c e) ∙ shown_there end)
        ∙ sym e
    by_end false e = unended (is_at counters end) refl e ∙ sym e
