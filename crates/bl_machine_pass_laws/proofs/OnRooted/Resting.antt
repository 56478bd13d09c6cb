-- Where a tree rests: the places whose numbers its counters hold.
use Rattle.std.proofs.Common.{◌≡◌, ◌⊎◌, inl, inr, ℕ, suc, Bool, true, false, ◌&&◌, ◌||◌, nat_eq, List, [], ◌∷◌, ◌++◌, refl, ap, sym, ◌∙◌, subst}
use Rattle.std.proofs.Common.{if◌then◌else◌}
use Rattle.std.proofs.lemmas.Bool.{eqb-true}
use Rattle.bl_tree.proofs.Basics.{number_itself}
use Rattle.bl_graph_nodes.specs.Nodes.{entry}
use Rattle.bl_graph_nodes.specs.Plain.{Block, Bodies, Body as BodyOf, Done, Label, Last, Then}
use Rattle.bl_ctree.specs.Control.{Body, Check}
use Rattle.bl_ctree.specs.Instances.{Setting}
use Rattle.bl_ctree_laws.specs.Trees.{Tree, Trees, Nil, Wait, Test, Idle, Do, Seq, Par, Guard, Run, beside, is_nil, no_tree}
use Rattle.bl_ctree_laws_traces.specs.Progress.FitsGraph.{AllFitGraph, FitsGraph}
use Rattle.bl_ctree_laws_traces.specs.Progress.Places.{Place, ahead_of, guarded, in_branch, later_on}
use Rattle.bl_machine.specs.declared.slots.Slot.{Slot}
use Rattle.bl_machine.specs.Uses.{Slots, is_of, uses_in, uses_in_branch, uses_in_each}
use Rattle.bl_machine_laws.specs.Numbers.Numbers.{At, Next, Over, Rests, into, numbers_in, numbers_of, value_at_counter}
use Rattle.bl_machine_pass.specs.SlotLayout.{BranchesRestAt, EndOf, RestOf, Spot, slot_at}
use Rattle.bl_machine_pass.specs.Transitions.{Change, SetsCounter, Transition, body_ends, enter}
use Rattle.bl_machine_pass_laws.specs.Turns.Sits.{Lies, LieEach, SitEach, Sits, UseEach, UsesOnly}
use Rattle.bl_machine_pass_laws.specs.Spots.{Has}
use Rattle.bl_machine_pass_laws.proofs.OnSpots.{has_cases}
use Rattle.bl_machine_pass_laws.proofs.OnRooted.Covers.{has_left, has_right}
use Rattle.bl_ctree_laws_traces.proofs.OnProgress.Leading.{is_the_nil}

-- ---- places

-- the end of a branch, where it has ended
abbrev pub ended_at : Bool → Label → ℕ → List Spot
ended_at true l k = EndOf l k ∷ []
ended_at false l k = []

abbrev mutual
  -- the places at which a tree rests
  pub resting : Tree → List Spot
  resting Nil = []
  resting (Wait s) = RestOf s.label ∷ []
  resting (Test s) = RestOf s.label ∷ []
  resting (Idle body) = []
  resting (Do s) = []
  resting (Seq c rest) = resting c
  resting (Par s stood branches) = resting_each s.label 0 branches
  resting (Guard s phase stood c) = resting c
  resting (Run s callee phase stood c) = RestOf s.label ∷ []

  -- and branches, from the one with this number on
  pub resting_each : Label → ℕ → Trees → List Spot
  resting_each l k no_tree = []
  resting_each l k (beside weak c rest) = ended_at (is_nil c) l k ++ (resting c ++ resting_each l (suc k) rest)

-- the one place of a list
pub only_one : (p q : Spot) → Has (q ∷ []) p → p ≡ q
only_one p q (inl is) = is
only_one p q (inr other) = absurd other

-- ---- numbers

module _ (slots : Slots) where
  -- the number is that of one of these places
  pub record Shows (spots : List Spot) (j v : ℕ) : Type 0 where
    pub spot : Spot
    pub there : Has spots spot
    pub counter : (slot_at slots spot).counter ≡ j
    pub value : (slot_at slots spot).value ≡ v

  shows_left : (xs ys : List Spot) (j v : ℕ) → Shows xs j v → Shows (xs ++ ys) j v
  shows_left xs ys j v one =
      record { spot = one.spot; there = has_left xs ys one.spot one.there; counter = one.counter; value = one.value }

  shows_right : (xs ys : List Spot) (j v : ℕ) → Shows ys j v → Shows (xs ++ ys) j v
  shows_right xs ys j v one =
      record { spot = one.spot; there = has_right xs ys one.spot one.there; counter = one.counter; value = one.value }

  of_value : (spots : List Spot) (j u v : ℕ) → u ≡ v → Shows spots j u → Shows spots j v
  of_value spots j u v is one = subst (Shows spots j) is one

  by_slot : (p : Spot) (j : ℕ) (b : Bool) → nat_eq j (slot_at slots p).counter ≡ b →
      ((if b then (slot_at slots p).value else 0) ≡ 0 → ⊥) → Shows (p ∷ []) j (if b then (slot_at slots p).value else 0)
  by_slot p j true same left = record { spot = p; there = inl refl; counter = sym (eqb-true j (slot_at slots p).counter same); value = refl }
  by_slot p j false same left = absurd (left refl)

  slot_shows : (p : Spot) (j : ℕ) → (value_at_counter (slot_at slots p) j ≡ 0 → ⊥) → Shows (p ∷ []) j (value_at_counter (slot_at slots p) j)
  slot_shows p j left = by_slot p j (nat_eq j (slot_at slots p).counter) refl left

  -- what stands under a construct shows no number once it has ended
  under : (c : Tree) (j : ℕ) → (numbers_of slots c Over j ≡ 0 → ⊥) → (b : Bool) → is_nil c ≡ b →
      (is_nil c ≡ false → Shows (resting c) j (numbers_of slots c Over j)) → Shows (resting c) j (numbers_of slots c Over j)
  under c j left true e inner = absurd (left (ap (λ x. numbers_of slots x Over j) (is_the_nil c e)))
  under c j left false e inner = inner e

  -- a branch shows its end once it has ended
  branch_shows : (l : Label) (k : ℕ) (c : Tree) (branches : Trees) (j : ℕ) → (numbers_of slots c (Rests (slots.ending l k)) j ≡ 0 → ⊥) →
      (b : Bool) → is_nil c ≡ b → (is_nil c ≡ false → Shows (resting c) j (numbers_of slots c (Rests (slots.ending l k)) j)) →
      Shows (ended_at (is_nil c) l k ++ (resting c ++ resting_each l (suc k) branches)) j (numbers_of slots c (Rests (slots.ending l k)) j)
  branch_shows l k c branches j left true e inner =
      let is : numbers_of slots c (Rests (slots.ending l k)) j ≡ value_at_counter (slots.ending l k) j =
      ap (λ x. numbers_of slots x (Rests (slots.ending l k)) j) (is_the_nil c e) in
      of_value (ended_at (is_nil c) l k ++ (resting c ++ resting_each l (suc k) branches)) j _ _ (sym is)
      (subst (λ x. Shows (ended_at x l k ++ (resting c ++ resting_each l (suc k) branches)) j (value_at_counter (slots.ending l k) j)) (sym e)
      (shows_left (EndOf l k ∷ []) (resting c ++ resting_each l (suc k) branches) j _
      (slot_shows (EndOf l k) j (λ none. left (is ∙ none)))))
  branch_shows l k c branches j left false e inner =
      shows_right (ended_at (is_nil c) l k) (resting c ++ resting_each l (suc k) branches) j _
      (shows_left (resting c) (resting_each l (suc k) branches) j _ (inner e))

  -- the counter is that of this branch, or of a later one
  by_use : (l : Label) (k : ℕ) (weak : Bool) (body : Block) (rest : Bodies) (weak' : Bool) (c : Tree) (branches : Trees) (j : ℕ) →
      (numbers_in slots l k (BodyOf weak body rest) (beside weak' c branches) j ≡ 0 → ⊥) →
      ((numbers_of slots c (Rests (slots.ending l k)) j ≡ 0 → ⊥) →
      Shows (resting_each l k (beside weak' c branches)) j (numbers_of slots c (Rests (slots.ending l k)) j)) →
      ((numbers_in slots l (suc k) rest branches j ≡ 0 → ⊥) →
      Shows (resting_each l (suc k) branches) j (numbers_in slots l (suc k) rest branches j)) →
      (b : Bool) → uses_in_branch slots l k body j ≡ b →
      Shows (resting_each l k (beside weak' c branches)) j (numbers_in slots l k (BodyOf weak body rest) (beside weak' c branches) j)
  by_use l k weak body rest weak' c branches j left here later true used =
      let is : numbers_in slots l k (BodyOf weak body rest) (beside weak' c branches) j ≡ numbers_of slots c (Rests (slots.ending l k)) j =
      ap (λ b. if b then numbers_of slots c (Rests (slots.ending l k)) j else numbers_in slots l (suc k) rest branches j) used in
      of_value (resting_each l k (beside weak' c branches)) j _ _ (sym is) (here (λ none. left (is ∙ none)))
  by_use l k weak body rest weak' c branches j left here later false used =
      let is : numbers_in slots l k (BodyOf weak body rest) (beside weak' c branches) j ≡ numbers_in slots l (suc k) rest branches j =
      ap (λ b. if b then numbers_of slots c (Rests (slots.ending l k)) j else numbers_in slots l (suc k) rest branches j) used in
      of_value (resting_each l k (beside weak' c branches)) j _ _ (sym is)
      (shows_right (ended_at (is_nil c) l k) (resting c ++ resting_each l (suc k) branches) j _
      (shows_right (resting c) (resting_each l (suc k) branches) j _ (later (λ none. left (is ∙ none)))))

  module _ (w : Setting) (i : ℕ) where
    mutual
      -- what a counter holds that isn't 0 is the number of a place at which the tree rests
      pub shown_by : (c : Tree) (g : Place) → FitsGraph w i c g → is_nil c ≡ false → (next : Next) (j : ℕ) →
          (numbers_of slots c next j ≡ 0 → ⊥) →
          Shows (resting c) j (numbers_of slots c next j)
      shown_by Nil g live unended next j left = absurd cc
      shown_by (Wait s) g live unended next j left = slot_shows (RestOf s.label) j left
      shown_by (Test s) g live unended next j left = slot_shows (RestOf s.label) j left
      shown_by (Idle body) g live unended next j left = absurd live
      shown_by (Do s) g live unended next j left = absurd (left refl)
      shown_by (Seq c Done) g live unended next j left = absurd live
      shown_by (Seq c (Then s rest)) g live unended next j left = shown_by c (ahead_of (entry s) g) live.0 live.1.unended (At (entry s)) j left
      shown_by (Par s stood branches) g live unended next j left = shown_in s.label 0 s.bodies branches stood g live.0 j left
      shown_by (Guard s Body stood c) g live unended next j left =
          under c j left (is_nil c) refl (λ e. shown_by c (guarded s g) live.0 e Over j left)
      shown_by (Guard s Check stood c) g live unended next j left =
          under c j left (is_nil c) refl (λ e. shown_by c (later_on (guarded s g)) live.0 e Over j left)
      shown_by (Run s callee phase stood c) g live unended next j left = slot_shows (RestOf s.label) j left

      shown_in : (l : Label) (k : ℕ) (bodies : Bodies) (branches : Trees) (stood : Bool) (g : Place) → AllFitGraph w i branches bodies stood g →
          (j : ℕ) → (numbers_in slots l k bodies branches j ≡ 0 → ⊥) → Shows (resting_each l k branches) j (numbers_in slots l k bodies branches j)
      shown_in l k Last no_tree stood g lives j left = absurd (left refl)
      shown_in l k (BodyOf weak body rest) no_tree stood g lives j left = absurd lives
      shown_in l k Last (beside weak c branches) stood g lives j left = absurd lives
      shown_in l k (BodyOf weak body rest) (beside weak' c branches) stood g lives j left =
          by_use l k weak body rest weak' c branches j left
          (λ some. branch_shows l k c branches j some (is_nil c) refl
          (λ e. shown_by c (in_branch stood body g) lives.0 e (Rests (slots.ending l k)) j some))
          (λ some. shown_in l (suc k) rest branches stood g lives.2 j some) (uses_in_branch slots l k body j) refl

  -- ---- each place at which a tree rests

  or_left : (a b : Bool) → a ≡ true → (a || b) ≡ true
  or_left true b e = refl
  or_left false b e = absurd cc

  or_right : (a b : Bool) → b ≡ true → (a || b) ≡ true
  or_right true b e = refl
  or_right false b e = e

  counter_of : (slot : Slot) → is_of slot slot.counter ≡ true
  counter_of slot = number_itself slot.counter

  number_at : (slot : Slot) → value_at_counter slot slot.counter ≡ slot.value
  number_at slot = ap (λ b. if b then slot.value else 0) (counter_of slot)

  end_uses : (b : Bool) (l : Label) (k : ℕ) (p : Spot) → Has (ended_at b l k) p → is_of (slots.ending l k) (slot_at slots p).counter ≡ true
  end_uses true l k p h =
      ap (λ q. is_of (slots.ending l k) (slot_at slots q).counter) (only_one p (EndOf l k) h) ∙ counter_of (slots.ending l k)
  end_uses false l k p h = absurd h

  mutual
    -- it is at a counter that the tree uses
    pub uses_resting : (all : List Transition) (c : Tree) (next : Change) (used : ℕ → Bool) (p : Spot) → Sits slots all c next → UsesOnly slots used c →
        Has (resting c) p → used (slot_at slots p).counter ≡ true
    uses_resting all Nil next used p sits uses h = absurd h
    uses_resting all (Wait s) next used p sits uses (inl is) = ap (λ q. used (slot_at slots q).counter) is ∙ uses
    uses_resting all (Wait s) next used p sits uses (inr other) = absurd other
    uses_resting all (Test s) next used p sits uses (inl is) = ap (λ q. used (slot_at slots q).counter) is ∙ uses
    uses_resting all (Test s) next used p sits uses (inr other) = absurd other
    uses_resting all (Idle body) next used p sits uses h = absurd h
    uses_resting all (Do s) next used p sits uses h = absurd h
    uses_resting all (Seq c rest) next used p sits uses h = uses_resting all c (enter rest next) used p sits.0 uses.0 h
    uses_resting all (Par s stood branches) next used p sits uses h =
        uses.0 (slot_at slots p).counter (uses_each all s.label 0 s.bodies branches p sits.1 uses.1 h)
    uses_resting all (Guard s phase stood c) next used p sits uses h =
        uses.0 (slot_at slots p).counter (uses_resting all c (body_ends s.label s.place s.body) (uses_in slots s.body) p sits.1 uses.1 h)
    uses_resting all (Run s callee phase stood c) next used p sits uses (inl is) = ap (λ q. used (slot_at slots q).counter) is ∙ uses
    uses_resting all (Run s callee phase stood c) next used p sits uses (inr other) = absurd other

    pub uses_each : (all : List Transition) (l : Label) (k : ℕ) (bodies : Bodies) (branches : Trees) (p : Spot) → SitEach slots all l k bodies branches →
        UseEach slots l k bodies branches → Has (resting_each l k branches) p → uses_in_each slots l k bodies (slot_at slots p).counter ≡ true
    uses_each all l k Last no_tree p sits uses h = absurd h
    uses_each all l k (BodyOf weak body rest) no_tree p sits uses h = absurd h
    uses_each all l k Last (beside weak c branches) p sits uses h = absurd sits
    uses_each all l k (BodyOf weak body rest) (beside weak' c branches) p sits uses h =
        elim (has_cases (ended_at (is_nil c) l k) (resting c ++ resting_each l (suc k) branches) p h) [
          | inl end ↦ or_left _ _ (or_left _ _ (end_uses (is_nil c) l k p end))
          | inr more ↦ elim (has_cases (resting c) (resting_each l (suc k) branches) p more) [
            | inl here ↦ or_left _ _ (uses_resting all c (SetsCounter (slots.ending l k)) (uses_in_branch slots l k body) p sits.1 uses.0 here)
            | inr later ↦ or_right _ _ (uses_each all l (suc k) rest branches p sits.2 uses.1 later)
          ]
        ]

  own_number : (slot : Slot) (p q : Spot) → p ≡ q → slot_at slots q ≡ slot → value_at_counter slot (slot_at slots p).counter ≡ (slot_at slots p).value
  own_number slot p q is same =
      let all_same : slot_at slots p ≡ slot = ap (slot_at slots) is ∙ same in
      ap (λ x. value_at_counter slot x.counter) all_same ∙ number_at slot ∙ sym (ap (λ x. x.value) all_same)

  ended_number : (b : Bool) (l : Label) (k : ℕ) (c : Tree) → is_nil c ≡ b → (p : Spot) → Has (ended_at b l k) p →
      numbers_of slots c (Rests (slots.ending l k)) (slot_at slots p).counter ≡ (slot_at slots p).value
  ended_number true l k c e p h =
      ap (λ x. numbers_of slots x (Rests (slots.ending l k)) (slot_at slots p).counter) (is_the_nil c e)
      ∙ own_number (slots.ending l k) p (EndOf l k) (only_one p (EndOf l k) h) refl
  ended_number false l k c e p h = absurd h

  -- the branch uses the counter
  in_this : (l : Label) (k : ℕ) (weak : Bool) (body : Block) (rest : Bodies) (weak' : Bool) (c : Tree) (branches : Trees) (p : Spot) →
      uses_in_branch slots l k body (slot_at slots p).counter ≡ true →
      numbers_of slots c (Rests (slots.ending l k)) (slot_at slots p).counter ≡ (slot_at slots p).value →
      numbers_in slots l k (BodyOf weak body rest) (beside weak' c branches) (slot_at slots p).counter ≡ (slot_at slots p).value
  in_this l k weak body rest weak' c branches p used is =
      ap (λ b. if b then numbers_of slots c (Rests (slots.ending l k)) (slot_at slots p).counter
      else numbers_in slots l (suc k) rest branches (slot_at slots p).counter) used ∙ is

  -- a later one does, and so this one doesn't
  in_later : (l : Label) (k : ℕ) (weak : Bool) (body : Block) (rest : Bodies) (weak' : Bool) (c : Tree) (branches : Trees) (p : Spot) →
      (uses_in_branch slots l k body (slot_at slots p).counter ≡ true → uses_in_each slots l (suc k) rest (slot_at slots p).counter ≡ false) →
      uses_in_each slots l (suc k) rest (slot_at slots p).counter ≡ true →
      numbers_in slots l (suc k) rest branches (slot_at slots p).counter ≡ (slot_at slots p).value →
      numbers_in slots l k (BodyOf weak body rest) (beside weak' c branches) (slot_at slots p).counter ≡ (slot_at slots p).value
  in_later l k weak body rest weak' c branches p apart later is =
      ap (λ b. if b then numbers_of slots c (Rests (slots.ending l k)) (slot_at slots p).counter
      else numbers_in slots l (suc k) rest branches (slot_at slots p).counter) (not_used (uses_in_branch slots l k body (slot_at slots p).counter) refl) ∙ is
    where
      not_used : (b : Bool) → uses_in_branch slots l k body (slot_at slots p).counter ≡ b →
          uses_in_branch slots l k body (slot_at slots p).counter ≡ false
      not_used true e = let none = apart e in absurd (cc (later, none))
      not_used false e = e

  mutual
    -- and that counter holds its number
    pub rests_at : (all : List Transition) (low : ℕ) (c : Tree) (out : Change) (next : Next) (used : ℕ → Bool) (p : Spot) → Sits slots all c out →
        Lies slots low c → UsesOnly slots used c → Has (resting c) p → numbers_of slots c next (slot_at slots p).counter ≡ (slot_at slots p).value
    rests_at all low Nil out next used p sits lies uses h = absurd h
    rests_at all low (Wait s) out next used p sits lies uses (inl is) = own_number (slots.rest s.label) p (RestOf s.label) is refl
    rests_at all low (Wait s) out next used p sits lies uses (inr other) = absurd other
    rests_at all low (Test s) out next used p sits lies uses (inl is) = own_number (slots.rest s.label) p (RestOf s.label) is refl
    rests_at all low (Test s) out next used p sits lies uses (inr other) = absurd other
    rests_at all low (Idle body) out next used p sits lies uses h = absurd h
    rests_at all low (Do s) out next used p sits lies uses h = absurd h
    rests_at all low (Seq c rest) out next used p sits lies uses h =
        rests_at all low c (enter rest out) (into rest next) used p sits.0 lies.0 uses.0 h
    rests_at all low (Par s stood branches) out next used p sits lies uses h =
        rests_in_each all s.label 0 s.bodies branches p sits.1 lies.0.1 lies.1 uses.1 h
    rests_at all low (Guard s phase stood c) out next used p sits lies uses h =
        rests_at all low c (body_ends s.label s.place s.body) Over (uses_in slots s.body) p sits.1 lies.1 uses.1 h
    rests_at all low (Run s callee phase stood c) out next used p sits lies uses (inl is) = own_number (slots.rest s.label) p (RestOf s.label) is refl
    rests_at all low (Run s callee phase stood c) out next used p sits lies uses (inr other) = absurd other

    pub rests_in_each : (all : List Transition) (l : Label) (k : ℕ) (bodies : Bodies) (branches : Trees) (p : Spot) → SitEach slots all l k bodies branches →
        BranchesRestAt slots l k bodies → LieEach slots l k branches → UseEach slots l k bodies branches → Has (resting_each l k branches) p →
        numbers_in slots l k bodies branches (slot_at slots p).counter ≡ (slot_at slots p).value
    rests_in_each all l k Last no_tree p sits laid lies uses h = absurd h
    rests_in_each all l k (BodyOf weak body rest) no_tree p sits laid lies uses h = absurd h
    rests_in_each all l k Last (beside weak c branches) p sits laid lies uses h = absurd sits
    rests_in_each all l k (BodyOf weak body rest) (beside weak' c branches) p sits laid lies uses h =
        elim (has_cases (ended_at (is_nil c) l k) (resting c ++ resting_each l (suc k) branches) p h) [
          | inl end ↦ in_this l k weak body rest weak' c branches p (or_left _ _ (end_uses (is_nil c) l k p end))
              (ended_number (is_nil c) l k c refl p end)
          | inr more ↦ elim (has_cases (resting c) (resting_each l (suc k) branches) p more) [
            | inl here ↦ in_this l k weak body rest weak' c branches p
                (uses_resting all c (SetsCounter (slots.ending l k)) (uses_in_branch slots l k body) p sits.1 uses.0 here)
                (rests_at all (slots.ending l k).counter c (SetsCounter (slots.ending l k)) (Rests (slots.ending l k)) (uses_in_branch slots l k body) p sits.1
                lies.0 uses.0 here)
            | inr later ↦ in_later l k weak body rest weak' c branches p
                (laid.1 (slot_at slots p).counter) (uses_each all l (suc k) rest branches p sits.2 uses.1 later)
                (rests_in_each all l (suc k) rest branches p sits.2 laid.2 lies.1 uses.1 later)
          ]
        ]
