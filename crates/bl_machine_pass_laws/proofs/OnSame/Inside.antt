-- Where a tree rests is a place of its body, and there is such a place.
use Rattle.std.proofs.Common.{◌≡◌, ◌⊎◌, inl, inr, ℕ, suc, Bool, true, false, ◌&&◌, not, List, ◌++◌, refl, ap, sym, ◌∙◌, subst}
use Rattle.std.proofs.lemmas.Bool.{not-true}
use Rattle.bl_tree.proofs.Basics.{and_first, and_second}
use Rattle.bl_graph_nodes.specs.Plain.{Act, Again, Await, Block, Bodies, Body as BodyOf, Cobegin, Done, If, Label, Last, Plain, Repeat, Run as RunOf, Then}
use Rattle.bl_graph_nodes.specs.Plain.{Until, When, While}
use Rattle.bl_ctree.specs.Control.{Phase}
use Rattle.bl_ctree.specs.Instances.{Setting}
use Rattle.bl_ctree_laws.specs.Steps.{call, fork, pause, watch}
use Rattle.bl_ctree_laws.specs.Trees.{Tree, Trees, Nil, Wait, Test, Do, Par, Guard, Run, are_done, are_settled, before, beside, followed, in_body, is_nil}
use Rattle.bl_ctree_laws.specs.Trees.{is_settled, no_tree}
use Rattle.bl_machine.specs.Uses.{Slots}
use Rattle.bl_machine_pass.specs.SlotLayout.{BeginsAt, BlockRestsAt, BranchesRestAt, EndOf, RestOf, Spot, StatementRestsAt, spots_in, spots_in_each, spots_of}
use Rattle.bl_machine_pass_laws.specs.Spots.{Has}
use Rattle.bl_machine_pass_laws.proofs.OnSpots.{has_cases}
use Rattle.bl_machine_pass_laws.proofs.OnRooted.Covers.{has_left, has_right}
use Rattle.bl_machine_pass_laws.proofs.OnRooted.Resting.{ended_at, only_one, resting, resting_each}
use Rattle.bl_machine_pass_laws.specs.Same.Residual.{BegunResidual, InstanceResidualEach, InstanceResidualIn, InstanceResidualOf}

-- ---- settled parts

pub phase_settled : (phase : Phase) (c : Tree) → (in_body phase && (is_settled c && not (is_nil c))) ≡ true → is_settled c ≡ true
phase_settled phase c e = and_first (is_settled c) (not (is_nil c)) (and_second (in_body phase) (is_settled c && not (is_nil c)) e)

pub phase_open : (phase : Phase) (c : Tree) → (in_body phase && (is_settled c && not (is_nil c))) ≡ true → is_nil c ≡ false
phase_open phase c e =
    not-true (is_nil c) (and_second (is_settled c) (not (is_nil c)) (and_second (in_body phase) (is_settled c && not (is_nil c)) e))

-- ---- trees and what follows them

pub resting_followed : (c : Tree) (block : Block) → resting (followed c block) ≡ resting c
resting_followed c Done = refl
resting_followed c (Then s rest) = refl

pub settled_followed : (c : Tree) (block : Block) → is_settled (followed c block) ≡ is_settled c
settled_followed c Done = refl
settled_followed c (Then s rest) = refl

-- a tree that has something left to do isn't settled
pub unsettled : {A : Type 0} (c d : Tree) → c ≡ d → is_settled d ≡ false → is_settled c ≡ true → A
unsettled c d is e settled =
    let both : true ≡ false = sym settled ∙ ap is_settled is ∙ e in
    absurd (cc both)

pub rests_as : (c d : Tree) (p : Spot) → c ≡ d → Has (resting c) p → Has (resting d) p
rests_as c d p is h = subst (λ x. Has (resting x) p) is h

pub end_is : (b : Bool) (l : Label) (k : ℕ) (p : Spot) → Has (ended_at b l k) p → p ≡ EndOf l k
end_is true l k p h = only_one p (EndOf l k) h
end_is false l k p h = absurd h

-- a place of the list
pub record Found (spots : List Spot) : Type 0 where
  pub spot : Spot
  pub there : Has spots spot

module _ (w : Setting) (i : ℕ) where
  -- ---- places of the body

  inside_one : (s : Plain) (c : Tree) (p : Spot) → (BegunResidual w i s c → Has (spots_of s) p) → InstanceResidualOf w i s c → Has (resting c) p → Has (spots_of s) p
  inside_one s c p inner (inl is) h = absurd (rests_as c (Do s) p is h)
  inside_one s c p inner (inr left) h = inner left

  inside_part : (body : Block) (c : Tree) (p : Spot) → (InstanceResidualIn w i body Done c → Has (spots_in body) p) → (c ≡ Nil) ⊎ InstanceResidualIn w i body Done c →
      Has (resting c) p → Has (spots_in body) p
  inside_part body c p inner (inl is) h = absurd (rests_as c Nil p is h)
  inside_part body c p inner (inr left) h = inner left

  mutual
    inside_within : (s : Plain) (c : Tree) (p : Spot) → BegunResidual w i s c → Has (resting c) p → Has (spots_of s) p
    inside_within (Act l s) c p left h = absurd left
    inside_within (Await l at e) c p (inl is) h = rests_as c (Wait (pause l at e)) p is h
    inside_within (Await l at e) c p (inr is) h = rests_as c (Test (pause l at e)) p is h
    inside_within (RunOf l at target a inputs outputs) c p left h =
        rests_as c (Run (call l at target a inputs outputs) left.0 left.1 left.2 left.3) p left.5 h
    inside_within (If l at e body other) c p (inl left) h = has_left (spots_in body) (spots_in other) p (inside_in body Done c p left h)
    inside_within (If l at e body other) c p (inr left) h = has_right (spots_in body) (spots_in other) p (inside_in other Done c p left h)
    inside_within (Cobegin l at bodies) c p left h =
        inside_each l 0 bodies left.1 p left.3 (rests_as c (Par (fork l at bodies) left.0 left.1) p left.2 h)
    inside_within (When l at guard e body) c p left h =
        let inner : Has (resting left.2) p = rests_as c (Guard (watch l at guard e body) left.0 left.1 left.2) p left.3 h in
        inside_part body left.2 p (λ x. inside_in body Done left.2 p x inner) left.4 inner
    inside_within (Repeat l at body) c p left h = inside_in body (Then (Repeat l at body) Done) c p left h
    inside_within (Until l at body e) c p (inl left) h = inside_in body (Then (Again l at body e) Done) c p left h
    inside_within (Until l at body e) c p (inr is) h = absurd (rests_as c (Do (Again l at body e)) p is h)
    inside_within (While l at e body) c p left h = inside_in body (Then (While l at e body) Done) c p left h
    inside_within (Again l at body e) c p (inl left) h = inside_in body (Then (Again l at body e) Done) c p left h
    inside_within (Again l at body e) c p (inr is) h = absurd (rests_as c (Do (Until l at body e)) p is h)

    pub inside_in : (body after : Block) (c : Tree) (p : Spot) → InstanceResidualIn w i body after c → Has (resting c) p → Has (spots_in body) p
    inside_in Done after c p left h = absurd left
    inside_in (Then s rest) after c p (inl left) h =
        let part : Has (resting left.0) p =
        subst (λ x. Has x p) (resting_followed left.0 (before rest after)) (rests_as c (followed left.0 (before rest after)) p left.2 h) in
        has_left (spots_of s) (spots_in rest) p (inside_one s left.0 p (λ x. inside_within s left.0 p x part) left.1 part)
    inside_in (Then s rest) after c p (inr left) h = has_right (spots_of s) (spots_in rest) p (inside_in rest after c p left h)

    pub inside_each : (l : Label) (k : ℕ) (bodies : Bodies) (branches : Trees) (p : Spot) → InstanceResidualEach w i bodies branches →
        Has (resting_each l k branches) p → Has (spots_in_each l k bodies) p
    inside_each l k Last no_tree p left h = h
    inside_each l k Last (beside weak c branches) p left h = absurd left
    inside_each l k (BodyOf weak body rest) no_tree p left h = absurd left
    inside_each l k (BodyOf weak body rest) (beside weak' c branches) p left h =
        elim (has_cases (ended_at (is_nil c) l k) (resting c ++ resting_each l (suc k) branches) p h) [
          | inl end ↦ inl (end_is (is_nil c) l k p end)
          | inr more ↦ elim (has_cases (resting c) (resting_each l (suc k) branches) p more) [
            | inl here ↦ inr (has_left (spots_in body) (spots_in_each l (suc k) rest) p
                (inside_part body c p (λ x. inside_in body Done c p x here) left.1 here))
            | inr later ↦ inr (has_right (spots_in body) (spots_in_each l (suc k) rest) p (inside_each l (suc k) rest branches p left.2 later))
          ]
        ]

  pub inside_of : (s : Plain) (c : Tree) (p : Spot) → InstanceResidualOf w i s c → Has (resting c) p → Has (spots_of s) p
  inside_of s c p left h = inside_one s c p (λ x. inside_within s c p x h) left h

  pub inside_body : (body : Block) (c : Tree) (p : Spot) → (c ≡ Nil) ⊎ InstanceResidualIn w i body Done c → Has (resting c) p → Has (spots_in body) p
  inside_body body c p left h = inside_part body c p (λ x. inside_in body Done c p x h) left h

  -- ---- a tree that rests does so somewhere

  some_as : (c d : Tree) → c ≡ d → Found (resting d) → Found (resting c)
  some_as c d is one = subst (λ x. Found (resting x)) (sym is) one

  settled_as : (c d : Tree) → c ≡ d → is_settled c ≡ true → is_settled d ≡ true
  settled_as c d is settled = subst (λ x. is_settled x ≡ true) is settled

  -- the first branch has ended, or rests
  first_some : (l : Label) (c : Tree) (branches : Trees) → (c ≡ Nil) ⊎ Found (resting c) →
      Found (ended_at (is_nil c) l 0 ++ (resting c ++ resting_each l 1 branches))
  first_some l c branches (inl is) = record {
    spot = EndOf l 0;
    there = has_left (ended_at (is_nil c) l 0) (resting c ++ resting_each l 1 branches) (EndOf l 0)
        (subst (λ x. Has (ended_at (is_nil x) l 0) (EndOf l 0)) (sym is) (inl refl));
  }
  first_some l c branches (inr one) = record {
    spot = one.spot;
    there = has_right (ended_at (is_nil c) l 0) (resting c ++ resting_each l 1 branches) one.spot
        (has_left (resting c) (resting_each l 1 branches) one.spot one.there);
  }

  module _ (slots : Slots) where
    some_one : (s : Plain) (c : Tree) → (BegunResidual w i s c → Found (resting c)) → InstanceResidualOf w i s c → is_settled c ≡ true → Found (resting c)
    some_one s c inner (inl is) settled = unsettled c (Do s) is refl settled
    some_one s c inner (inr left) settled = inner left

    some_body : (body : Block) (c : Tree) → (InstanceResidualIn w i body Done c → Found (resting c)) → (c ≡ Nil) ⊎ InstanceResidualIn w i body Done c → is_nil c
        ≡ false →
        Found (resting c)
    some_body body c inner (inl is) unended =
        let both : true ≡ false = sym (ap is_nil is) ∙ unended in
        absurd (cc both)
    some_body body c inner (inr left) unended = inner left

    first_rests : (body : Block) (c : Tree) → (InstanceResidualIn w i body Done c → Found (resting c)) → (c ≡ Nil) ⊎ InstanceResidualIn w i body Done c →
        (c ≡ Nil) ⊎ Found (resting c)
    first_rests body c inner (inl is) = inl is
    first_rests body c inner (inr left) = inr (inner left)

    mutual
      some_within : (low : ℕ) (s : Plain) (c : Tree) → StatementRestsAt slots low s → BegunResidual w i s c → is_settled c ≡ true → Found (resting c)
      some_within low (Act l s) c laid left settled = absurd left
      some_within low (Await l at e) c laid (inl is) settled = some_as c (Wait (pause l at e)) is (record { spot = RestOf l; there = inl refl })
      some_within low (Await l at e) c laid (inr is) settled = unsettled c (Test (pause l at e)) is refl settled
      some_within low (RunOf l at target a inputs outputs) c laid left settled =
          some_as c (Run (call l at target a inputs outputs) left.0 left.1 left.2 left.3) left.5 (record { spot = RestOf l; there = inl refl })
      some_within low (If l at e body other) c laid (inl left) settled = some_in low body Done c laid.0 left settled
      some_within low (If l at e body other) c laid (inr left) settled = some_in low other Done c laid.1 left settled
      some_within low (Cobegin l at bodies) c laid left settled =
          some_as c (Par (fork l at bodies) left.0 left.1) left.2
          (some_first l low bodies left.1 laid.0 laid.1 left.3
          (and_first (are_settled left.1) (not (are_done left.1)) (settled_as c (Par (fork l at bodies) left.0 left.1) left.2 settled)))
      some_within low (When l at guard e body) c laid left settled =
          let rests = settled_as c (Guard (watch l at guard e body) left.0 left.1 left.2) left.3 settled in
          some_as c (Guard (watch l at guard e body) left.0 left.1 left.2) left.3
          (some_body body left.2 (λ x. some_in low body Done left.2 laid x (phase_settled left.0 left.2 rests)) left.4 (phase_open left.0 left.2 rests))
      some_within low (Repeat l at body) c laid left settled = some_in low body (Then (Repeat l at body) Done) c laid left settled
      some_within low (Until l at body e) c laid (inl left) settled = some_in low body (Then (Again l at body e) Done) c laid left settled
      some_within low (Until l at body e) c laid (inr is) settled = unsettled c (Do (Again l at body e)) is refl settled
      some_within low (While l at e body) c laid left settled = some_in low body (Then (While l at e body) Done) c laid left settled
      some_within low (Again l at body e) c laid (inl left) settled = some_in low body (Then (Again l at body e) Done) c laid left settled
      some_within low (Again l at body e) c laid (inr is) settled = unsettled c (Do (Until l at body e)) is refl settled

      pub some_in : (low : ℕ) (body after : Block) (c : Tree) → BlockRestsAt slots low body → InstanceResidualIn w i body after c → is_settled c ≡ true →
          Found (resting c)
      some_in low Done after c laid left settled = absurd left
      some_in low (Then s rest) after c laid (inl left) settled =
          let block : Block = before rest after in
          let rests : is_settled left.0 ≡ true =
          sym (settled_followed left.0 block) ∙ settled_as c (followed left.0 block) left.2 settled in
          let one = some_one s left.0 (λ x. some_within low s left.0 laid.0 x rests) left.1 rests in
          some_as c (followed left.0 block) left.2 (subst Found (sym (resting_followed left.0 block)) one)
      some_in low (Then s rest) after c laid (inr left) settled = some_in low rest after c laid.1 left settled

      -- a `cobegin` has a first branch
      some_first : (l : Label) (low : ℕ) (bodies : Bodies) (branches : Trees) → BeginsAt slots l low bodies → BranchesRestAt slots l 0 bodies →
          InstanceResidualEach w i bodies branches → are_settled branches ≡ true → Found (resting_each l 0 branches)
      some_first l low Last branches begins laid left settled = absurd begins
      some_first l low (BodyOf weak body rest) no_tree begins laid left settled = absurd left
      some_first l low (BodyOf weak body rest) (beside weak' c branches) begins laid left settled =
          first_some l c branches (first_rests body c
          (λ x. some_in (slots.ending l 0).counter body Done c laid.0 x (and_first (is_settled c) (are_settled branches) settled)) left.1)

    pub some_of : (low : ℕ) (s : Plain) (c : Tree) → StatementRestsAt slots low s → InstanceResidualOf w i s c → is_settled c ≡ true → Found (resting c)
    some_of low s c laid left settled = some_one s c (λ x. some_within low s c laid x settled) left settled
