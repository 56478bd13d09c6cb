-- Trees of one body that rest at the same places go on as one.
use Rattle.std.proofs.Common.{◌≡◌, ◌⊎◌, inl, inr, ℕ, suc, Bool, true, false, not, List, [], ◌∷◌, ◌++◌}
use Rattle.std.proofs.Common.{Option, refl, ap, sym, ◌∙◌, subst}
use Rattle.bl_tree.proofs.Basics.{and_first, and_second, same_some}
use Rattle.bl_tree.specs.declared.place.Place.{Place}
use Rattle.bl_tree.specs.declared.tree.Expr.{Expr}
use Rattle.bl_tree.specs.declared.tree.Path.{Path}
use Rattle.bl_tree.specs.declared.tree.Unit.{Unit as UnitDef}
use Rattle.bl_graph_nodes.specs.Plain.{Act, Again, Await, Block, Bodies, Body as BodyOf, Cobegin, Done, If, Label, Last, Plain, Repeat, Run as RunOf, Then}
use Rattle.bl_graph_nodes.specs.Plain.{Until, When, While, plain_body}
use Rattle.bl_ctree.specs.Control.{Check}
use Rattle.bl_ctree.specs.Instances.{Setting}
use Rattle.bl_ctree_laws.specs.Steps.{call, fork, pause, watch}
use Rattle.bl_ctree_laws.specs.Trees.{Tree, Trees, Nil, Test, Do, Par, Guard, Run, all_woken}
use Rattle.bl_ctree_laws.specs.Trees.{are_done, are_settled, before, beside, followed, is_nil, is_settled, no_tree, woken}
use Rattle.bl_ctree_laws_traces.specs.Progress.Places.{whole}
use Rattle.bl_machine.specs.Uses.{Slots, uses_in}
use Rattle.bl_machine_laws.specs.Numbers.Numbers.{Over, numbers_of}
use Rattle.bl_machine_pass.specs.SlotLayout.{BlockRestsAt, BranchesRestAt, EndOf, SlotsAreDistinct, Spot, StatementRestsAt, slot_at, spots_in, spots_in_each, spots_of}
use Rattle.bl_machine_pass.specs.Transitions.{Finishes, rules}
use Rattle.bl_machine_pass_laws.specs.Spots.{Has, SpotsAreDistinct, SpotsDiffer}
use Rattle.bl_machine_pass_laws.proofs.OnSpots.{has_cases}
use Rattle.bl_machine_pass_laws.proofs.OnRooted.Covers.{differ_apart, differ_left, differ_right, has_left, has_right}
use Rattle.bl_machine_pass_laws.proofs.OnRooted.Resting.{ended_at, resting, resting_each, rests_at, shown_by}
use Rattle.bl_machine_pass_laws.proofs.OnRooted.Rooting.{has_contains}
use Rattle.bl_machine_pass_laws.specs.Same.Laws.{Agree, CallAlike, CountersTell, NumbersTell, RestsBetweenTicks, agree}
use Rattle.bl_machine_pass_laws.specs.Same.Residual.{BegunResidual, InstanceResidualEach, InstanceResidualIn, InstanceResidualOf, OneCalls}
use Rattle.bl_machine_pass_laws.proofs.OnSame.Inside.{end_is, inside_body, inside_each, inside_in, inside_of, phase_open}
use Rattle.bl_machine_pass_laws.proofs.OnSame.Inside.{phase_settled, resting_followed, settled_followed, some_in, some_of, unsettled}
use Rattle.bl_machine_pass_laws.proofs.OnSame.Leaving.{open_in, woken_followed}
use Rattle.bl_machine_pass_laws.proofs.OnRooted.Resuming.{slot_is}

-- ---- two trees that rest

-- they rest, the second one wherever the first one does, and what they have called goes on alike
record Twin (c c' : Tree) : Type 0 where
  settled : is_settled c ≡ true
  settled' : is_settled c' ≡ true
  rests : (p : Spot) → Has (resting c) p → Has (resting c') p
  calls : CallAlike c c'

twin_as : (c d c' d' : Tree) → c ≡ d → c' ≡ d' → Twin c c' → Twin d d'
twin_as c d c' d' is is' twin = subst (λ x. Twin d x) is' (subst (λ x. Twin x c') is twin)

-- the same of what stands before a block in both
twin_parts : (block : Block) (c c' : Tree) → Twin (followed c block) (followed c' block) → Twin c c'
twin_parts Done c c' twin = twin
twin_parts (Then s rest) c c' twin = record { settled = twin.settled; settled' = twin.settled'; rests = twin.rests; calls = twin.calls }

woken_as : (c d c' d' : Tree) → c ≡ d → c' ≡ d' → woken d ≡ woken d' → woken c ≡ woken c'
woken_as c d c' d' is is' same = ap woken is ∙ same ∙ sym (ap woken is')

-- the same of branches from the one with this number on
record Twins (l : Label) (k : ℕ) (branches branches' : Trees) : Type 0 where
  settled : are_settled branches ≡ true
  settled' : are_settled branches' ≡ true
  rests : (p : Spot) → Has (resting_each l k branches) p → Has (resting_each l k branches') p
  calls : (m : Label) (d d' : Tree) → OneCalls branches m d → OneCalls branches' m d' → woken d ≡ woken d'

-- ---- branches

-- where the second tree of branches rests at a place of the first one's body, it is in that branch
in_first : (w : Setting) (i : ℕ) (l : Label) (k : ℕ) (body : Block) (rest : Bodies) (c : Tree) (branches : Trees) (p : Spot) →
    SpotsAreDistinct (EndOf l k ∷ (spots_in body ++ spots_in_each l (suc k) rest)) → InstanceResidualEach w i rest branches → Has (spots_in body) p →
    Has (ended_at (is_nil c) l k ++ (resting c ++ resting_each l (suc k) branches)) p → Has (resting c) p
in_first w i l k body rest c branches p differ left inside h =
    elim (has_cases (ended_at (is_nil c) l k) (resting c ++ resting_each l (suc k) branches) p h) [
      | inl end ↦ absurd (differ.0 (has_left (spots_in body) (spots_in_each l (suc k) rest) (EndOf l k)
          (subst (Has (spots_in body)) (end_is (is_nil c) l k p end) inside)))
      | inr more ↦ elim (has_cases (resting c) (resting_each l (suc k) branches) p more) [
        | inl here ↦ here
        | inr later ↦ absurd (differ_apart (spots_in body) (spots_in_each l (suc k) rest) differ.1 p inside
            (inside_each w i l (suc k) rest branches p left later))
      ]
    ]

-- and where it rests at one of a later body, in a later one
in_later : (w : Setting) (i : ℕ) (l : Label) (k : ℕ) (body : Block) (rest : Bodies) (c : Tree) (branches : Trees) (p : Spot) →
    SpotsAreDistinct (EndOf l k ∷ (spots_in body ++ spots_in_each l (suc k) rest)) → (c ≡ Nil) ⊎ InstanceResidualIn w i body Done c →
    Has (spots_in_each l (suc k) rest) p → Has (ended_at (is_nil c) l k ++ (resting c ++ resting_each l (suc k) branches)) p →
    Has (resting_each l (suc k) branches) p
in_later w i l k body rest c branches p differ left inside h =
    elim (has_cases (ended_at (is_nil c) l k) (resting c ++ resting_each l (suc k) branches) p h) [
      | inl end ↦ absurd (differ.0 (has_right (spots_in body) (spots_in_each l (suc k) rest) (EndOf l k)
          (subst (Has (spots_in_each l (suc k) rest)) (end_is (is_nil c) l k p end) inside)))
      | inr more ↦ elim (has_cases (resting c) (resting_each l (suc k) branches) p more) [
        | inl here ↦ absurd (differ_apart (spots_in body) (spots_in_each l (suc k) rest) differ.1 p (inside_body w i body c p left here) inside)
        | inr later ↦ later
      ]
    ]

-- the end of a branch is no place of its body, nor of a later one: the branch has ended
has_ended : (w : Setting) (i : ℕ) (l : Label) (k : ℕ) (body : Block) (rest : Bodies) (c : Tree) (branches : Trees) →
    SpotsAreDistinct (EndOf l k ∷ (spots_in body ++ spots_in_each l (suc k) rest)) → InstanceResidualIn w i body Done c → InstanceResidualEach w i rest branches →
    (b : Bool) → is_nil c ≡ b → Has (ended_at b l k ++ (resting c ++ resting_each l (suc k) branches)) (EndOf l k) → is_nil c ≡ true
has_ended w i l k body rest c branches differ left others true e h = e
has_ended w i l k body rest c branches differ left others false e h =
    elim (has_cases (resting c) (resting_each l (suc k) branches) (EndOf l k) h) [
      | inl here ↦ absurd (differ.0 (has_left (spots_in body) (spots_in_each l (suc k) rest) (EndOf l k) (inside_in w i body Done c (EndOf l k) left here)))
      | inr later ↦ absurd (differ.0 (has_right (spots_in body) (spots_in_each l (suc k) rest) (EndOf l k)
          (inside_each w i l (suc k) rest branches (EndOf l k) others later)))
    ]

-- a branch that has ended rests at its end
end_there : (l : Label) (k : ℕ) (c : Tree) (branches : Trees) → c ≡ Nil →
    Has (ended_at (is_nil c) l k ++ (resting c ++ resting_each l (suc k) branches)) (EndOf l k)
end_there l k c branches is =
    has_left (ended_at (is_nil c) l k) (resting c ++ resting_each l (suc k) branches) (EndOf l k)
    (subst (λ x. Has (ended_at (is_nil x) l k) (EndOf l k)) (sym is) (inl refl))

-- a place of the first branch, and one of a later branch
in_here : (l : Label) (k : ℕ) (c : Tree) (branches : Trees) (p : Spot) → Has (resting c) p →
    Has (ended_at (is_nil c) l k ++ (resting c ++ resting_each l (suc k) branches)) p
in_here l k c branches p h =
    has_right (ended_at (is_nil c) l k) (resting c ++ resting_each l (suc k) branches) p (has_left (resting c) (resting_each l (suc k) branches) p h)

in_more : (l : Label) (k : ℕ) (c : Tree) (branches : Trees) (p : Spot) → Has (resting_each l (suc k) branches) p →
    Has (ended_at (is_nil c) l k ++ (resting c ++ resting_each l (suc k) branches)) p
in_more l k c branches p h =
    has_right (ended_at (is_nil c) l k) (resting c ++ resting_each l (suc k) branches) p (has_right (resting c) (resting_each l (suc k) branches) p h)

module _ (w : Setting) (i : ℕ) (slots : Slots) where
  -- a `run`: both have called the instance of its place
  same_call : (l : Label) (at : Place) (target : Option Path) (a : ℕ) (inputs : List Expr) (outputs : List Path) (c c' : Tree) →
      BegunResidual w i (RunOf l at target a inputs outputs) c → BegunResidual w i (RunOf l at target a inputs outputs) c' → Twin c c' → woken c ≡ woken c'
  same_call l at target a inputs outputs c c' left left' twin =
      let x : Tree = Run (call l at target a inputs outputs) left.0 left.1 left.2 left.3 in
      let x' : Tree = Run (call l at target a inputs outputs) left'.0 left'.1 left'.2 left'.3 in
      let parts = twin_as c x c' x' left.5 left'.5 twin in
      woken_as c x c' x' left.5 left'.5
      (ap (λ y. Run (call l at target a inputs outputs) y Check true (woken left.3)) (same_some left.0 left'.0 (sym left.4 ∙ left'.4))
      ∙ ap (λ y. Run (call l at target a inputs outputs) left'.0 Check true y) (parts.calls l left.3 left'.3 (refl, refl) (refl, refl)))

  -- a statement that is to begin doesn't rest
  same_one : (s : Plain) (c c' : Tree) → (BegunResidual w i s c → BegunResidual w i s c' → woken c ≡ woken c') → InstanceResidualOf w i s c → InstanceResidualOf w i s c' →
      Twin c c' →
      woken c ≡ woken c'
  same_one s c c' inner (inl is) left' twin = unsettled c (Do s) is refl twin.settled
  same_one s c c' inner (inr left) (inl is) twin = unsettled c' (Do s) is refl twin.settled'
  same_one s c c' inner (inr left) (inr left') twin = inner left left'

  -- nor has what rests ended
  same_part : (body : Block) (c c' : Tree) → (InstanceResidualIn w i body Done c → InstanceResidualIn w i body Done c' → woken c ≡ woken c') →
      (c ≡ Nil) ⊎ InstanceResidualIn w i body Done c → (c' ≡ Nil) ⊎ InstanceResidualIn w i body Done c' → is_nil c ≡ false → is_nil c' ≡ false → woken c
      ≡ woken c'
  same_part body c c' inner (inl is) left' unended unended' =
      let both : true ≡ false = sym (ap is_nil is) ∙ unended in
      absurd (cc both)
  same_part body c c' inner (inr left) (inl is') unended unended' =
      let both : true ≡ false = sym (ap is_nil is') ∙ unended' in
      absurd (cc both)
  same_part body c c' inner (inr left) (inr left') unended unended' = inner left left'

  -- a branch: both have ended, or neither has
  same_branch : (l : Label) (k : ℕ) (body : Block) (rest : Bodies) (c c' : Tree) (branches branches' : Trees) →
      SpotsAreDistinct (EndOf l k ∷ (spots_in body ++ spots_in_each l (suc k) rest)) → BlockRestsAt slots (slots.ending l k).counter body →
      (c ≡ Nil) ⊎ InstanceResidualIn w i body Done c → (c' ≡ Nil) ⊎ InstanceResidualIn w i body Done c' → InstanceResidualEach w i rest branches → InstanceResidualEach w i rest branches' →
      is_settled c ≡ true → is_settled c' ≡ true →
      ((p : Spot) → Has (ended_at (is_nil c) l k ++ (resting c ++ resting_each l (suc k) branches)) p →
      Has (ended_at (is_nil c') l k ++ (resting c' ++ resting_each l (suc k) branches')) p) → CallAlike c c' →
      (InstanceResidualIn w i body Done c → InstanceResidualIn w i body Done c' → Twin c c' → woken c ≡ woken c') → woken c ≡ woken c'
  same_branch l k body rest c c' branches branches' differ laid (inl is) (inl is') others others' settled settled' rests calls inner = ap woken (is ∙ sym is')
  same_branch l k body rest c c' branches branches' differ laid (inl is) (inr left') others others' settled settled' rests calls inner =
      let ended = has_ended w i l k body rest c' branches' differ left' others' (is_nil c') refl (rests (EndOf l k) (end_there l k c branches is)) in
      let both : true ≡ false = sym ended ∙ open_in w i body Done c' left' in
      absurd (cc both)
  same_branch l k body rest c c' branches branches' differ laid (inr left) (inl is') others others' settled settled' rests calls inner =
      let one = some_in w i slots (slots.ending l k).counter body Done c laid left settled in
      absurd (subst (λ x. Has (resting x) one.spot) is' (in_first w i l k body rest c' branches' one.spot differ others'
      (inside_in w i body Done c one.spot left one.there) (rests one.spot (in_here l k c branches one.spot one.there))))
  same_branch l k body rest c c' branches branches' differ laid (inr left) (inr left') others others' settled settled' rests calls inner =
      inner left left' (record {
        settled = settled;
        settled' = settled';
        rests = λ p h. in_first w i l k body rest c' branches' p differ others' (inside_in w i body Done c p left h) (rests p (in_here l k c branches p h));
        calls = calls;
      })

  mutual
    same_within : (low : ℕ) (s : Plain) (c c' : Tree) → SpotsAreDistinct (spots_of s) → StatementRestsAt slots low s → BegunResidual w i s c → BegunResidual w i s c' → Twin c c' →
        woken c ≡ woken c'
    same_within low (Act l s) c c' differ laid left left' twin = absurd left
    same_within low (Await l at e) c c' differ laid (inl is) (inl is') twin = ap woken (is ∙ sym is')
    same_within low (Await l at e) c c' differ laid (inr is) left' twin = unsettled c (Test (pause l at e)) is refl twin.settled
    same_within low (Await l at e) c c' differ laid (inl is) (inr is') twin = unsettled c' (Test (pause l at e)) is' refl twin.settled'
    same_within low (RunOf l at target a inputs outputs) c c' differ laid left left' twin =
        same_call l at target a inputs outputs c c' left left' twin
    same_within low (If l at e body other) c c' differ laid (inl left) (inl left') twin =
        same_in low body Done c c' (differ_left (spots_in body) (spots_in other) differ) laid.0 left left' twin
    same_within low (If l at e body other) c c' differ laid (inr left) (inr left') twin =
        same_in low other Done c c' (differ_right (spots_in body) (spots_in other) differ) laid.1 left left' twin
    same_within low (If l at e body other) c c' differ laid (inl left) (inr left') twin =
        let one = some_in w i slots low body Done c laid.0 left twin.settled in
        absurd (differ_apart (spots_in body) (spots_in other) differ one.spot (inside_in w i body Done c one.spot left one.there)
        (inside_in w i other Done c' one.spot left' (twin.rests one.spot one.there)))
    same_within low (If l at e body other) c c' differ laid (inr left) (inl left') twin =
        let one = some_in w i slots low other Done c laid.1 left twin.settled in
        absurd (differ_apart (spots_in body) (spots_in other) differ one.spot
        (inside_in w i body Done c' one.spot left' (twin.rests one.spot one.there)) (inside_in w i other Done c one.spot left one.there))
    same_within low (Cobegin l at bodies) c c' differ laid left left' twin =
        let x : Tree = Par (fork l at bodies) left.0 left.1 in
        let x' : Tree = Par (fork l at bodies) left'.0 left'.1 in
        let parts = twin_as c x c' x' left.2 left'.2 twin in
        woken_as c x c' x' left.2 left'.2
        (ap (λ y. Par (fork l at bodies) true y) (same_each l 0 bodies left.1 left'.1 differ laid.1 left.3 left'.3 (record {
          settled = and_first (are_settled left.1) (not (are_done left.1)) parts.settled;
          settled' = and_first (are_settled left'.1) (not (are_done left'.1)) parts.settled';
          rests = parts.rests;
          calls = parts.calls;
        })))
    same_within low (When l at guard e body) c c' differ laid left left' twin =
        let x : Tree = Guard (watch l at guard e body) left.0 left.1 left.2 in
        let x' : Tree = Guard (watch l at guard e body) left'.0 left'.1 left'.2 in
        let parts = twin_as c x c' x' left.3 left'.3 twin in
        woken_as c x c' x' left.3 left'.3
        (ap (λ y. Guard (watch l at guard e body) Check true y) (same_part body left.2 left'.2
        (λ y y'. same_in low body Done left.2 left'.2 differ laid y y' (record {
          settled = phase_settled left.0 left.2 parts.settled;
          settled' = phase_settled left'.0 left'.2 parts.settled';
          rests = parts.rests;
          calls = parts.calls;
        })) left.4 left'.4 (phase_open left.0 left.2 parts.settled) (phase_open left'.0 left'.2 parts.settled')))
    same_within low (Repeat l at body) c c' differ laid left left' twin =
        same_in low body (Then (Repeat l at body) Done) c c' differ laid left left' twin
    same_within low (Until l at body e) c c' differ laid (inl left) (inl left') twin =
        same_in low body (Then (Again l at body e) Done) c c' differ laid left left' twin
    same_within low (Until l at body e) c c' differ laid (inr is) left' twin = unsettled c (Do (Again l at body e)) is refl twin.settled
    same_within low (Until l at body e) c c' differ laid (inl left) (inr is') twin = unsettled c' (Do (Again l at body e)) is' refl twin.settled'
    same_within low (While l at e body) c c' differ laid left left' twin =
        same_in low body (Then (While l at e body) Done) c c' differ laid left left' twin
    same_within low (Again l at body e) c c' differ laid (inl left) (inl left') twin =
        same_in low body (Then (Again l at body e) Done) c c' differ laid left left' twin
    same_within low (Again l at body e) c c' differ laid (inr is) left' twin = unsettled c (Do (Until l at body e)) is refl twin.settled
    same_within low (Again l at body e) c c' differ laid (inl left) (inr is') twin = unsettled c' (Do (Until l at body e)) is' refl twin.settled'

    -- both are left of one statement: they rest at a place of it
    same_in : (low : ℕ) (body after : Block) (c c' : Tree) → SpotsAreDistinct (spots_in body) → BlockRestsAt slots low body → InstanceResidualIn w i body after c →
        InstanceResidualIn w i body after c' → Twin c c' → woken c ≡ woken c'
    same_in low Done after c c' differ laid left left' twin = absurd left
    same_in low (Then s rest) after c c' differ laid (inl left) (inl left') twin =
        let block : Block = before rest after in
        let parts : Twin left.0 left'.0 =
        twin_parts block left.0 left'.0 (twin_as c (followed left.0 block) c' (followed left'.0 block) left.2 left'.2 twin) in
        let same = same_one s left.0 left'.0
        (λ x x'. same_within low s left.0 left'.0 (differ_left (spots_of s) (spots_in rest) differ) laid.0 x x' parts) left.1 left'.1 parts in
        woken_as c (followed left.0 block) c' (followed left'.0 block) left.2 left'.2
        (woken_followed left.0 block ∙ ap (λ x. followed x block) same ∙ sym (woken_followed left'.0 block))
    same_in low (Then s rest) after c c' differ laid (inr left) (inr left') twin =
        same_in low rest after c c' (differ_right (spots_of s) (spots_in rest) differ) laid.1 left left' twin
    same_in low (Then s rest) after c c' differ laid (inl left) (inr left') twin =
        let block : Block = before rest after in
        let settled : is_settled left.0 ≡ true = sym (settled_followed left.0 block) ∙ sym (ap is_settled left.2) ∙ twin.settled in
        let one = some_of w i slots low s left.0 laid.0 left.1 settled in
        let there : Has (resting c) one.spot =
        subst (λ x. Has (resting x) one.spot) (sym left.2) (subst (λ x. Has x one.spot) (sym (resting_followed left.0 block)) one.there) in
        absurd (differ_apart (spots_of s) (spots_in rest) differ one.spot (inside_of w i s left.0 one.spot left.1 one.there)
        (inside_in w i rest after c' one.spot left' (twin.rests one.spot there)))
    same_in low (Then s rest) after c c' differ laid (inr left) (inl left') twin =
        let block : Block = before rest after in
        let one = some_in w i slots low rest after c laid.1 left twin.settled in
        let there : Has (resting left'.0) one.spot =
        subst (λ x. Has x one.spot) (resting_followed left'.0 block)
        (subst (λ x. Has (resting x) one.spot) left'.2 (twin.rests one.spot one.there)) in
        absurd (differ_apart (spots_of s) (spots_in rest) differ one.spot (inside_of w i s left'.0 one.spot left'.1 there)
        (inside_in w i rest after c one.spot left one.there))

    same_each : (l : Label) (k : ℕ) (bodies : Bodies) (branches branches' : Trees) → SpotsAreDistinct (spots_in_each l k bodies) → BranchesRestAt slots l k bodies →
        InstanceResidualEach w i bodies branches → InstanceResidualEach w i bodies branches' → Twins l k branches branches' → all_woken branches ≡ all_woken branches'
    same_each l k Last no_tree no_tree differ laid left left' twins = refl
    same_each l k Last no_tree (beside weak c branches) differ laid left left' twins = absurd left'
    same_each l k Last (beside weak c branches) branches' differ laid left left' twins = absurd left
    same_each l k (BodyOf weak body rest) no_tree branches' differ laid left left' twins = absurd left
    same_each l k (BodyOf weak body rest) (beside weak1 c branches) no_tree differ laid left left' twins = absurd left'
    same_each l k (BodyOf weak body rest) (beside weak1 c branches) (beside weak2 c' branches') differ laid left left' twins =
        let here = same_branch l k body rest c c' branches branches' differ laid.0 left.1 left'.1 left.2 left'.2
        (and_first (is_settled c) (are_settled branches) twins.settled) (and_first (is_settled c') (are_settled branches') twins.settled') twins.rests
        (λ m d d' one two. twins.calls m d d' (inl one) (inl two))
        (λ x x' both.
        same_in (slots.ending l k).counter body Done c c' (differ_left (spots_in body) (spots_in_each l (suc k) rest) differ.1) laid.0 x x' both) in
        let later = same_each l (suc k) rest branches branches' (differ_right (spots_in body) (spots_in_each l (suc k) rest) differ.1) laid.2 left.2 left'.2
        (record {
          settled = and_second (is_settled c) (are_settled branches) twins.settled;
          settled' = and_second (is_settled c') (are_settled branches') twins.settled';
          rests = λ p h. in_later w i l k body rest c' branches' p differ left'.1 (inside_each w i l (suc k) rest branches p left.2 h)
              (twins.rests p (in_more l k c branches p h));
          calls = λ m d d' one two. twins.calls m d d' (inr one) (inr two);
        }) in
        ap (λ x. beside x (woken c) (all_woken branches)) (sym left.0 ∙ left'.0)
        ∙ (ap (λ x. beside weak2 x (all_woken branches)) here ∙ ap (λ x. beside weak2 (woken c') x) later)

  same_body : (low : ℕ) (body : Block) (c c' : Tree) → SpotsAreDistinct (spots_in body) → BlockRestsAt slots low body → (c ≡ Nil) ⊎ InstanceResidualIn w i body Done c →
      (c' ≡ Nil) ⊎ InstanceResidualIn w i body Done c' → is_nil c ≡ false → is_nil c' ≡ false → Twin c c' → woken c ≡ woken c'
  same_body low body c c' differ laid left left' unended unended' twin =
      same_part body c c' (λ x x'. same_in low body Done c c' differ laid x x' twin) left left' unended unended'

-- ---- the law

module _ (w : Setting) (i : ℕ) (slots : Slots) (body : Block) (c c' : Tree) (laid : SlotsAreDistinct slots body) (one : RestsBetweenTicks w i slots body c)
    (two : RestsBetweenTicks w i slots body c') (same : (j : ℕ) → numbers_of slots c Over j ≡ numbers_of slots c' Over j) where
  -- the second tree rests wherever the first one does: the number of the place tells it
  rests_too : (p : Spot) → Has (resting c) p → Has (resting c') p
  rests_too p h =
      let j : ℕ = (slot_at slots p).counter in
      let here : numbers_of slots c Over j ≡ (slot_at slots p).value =
      rests_at slots (rules slots body) 0 c Finishes Over (uses_in slots body) p one.placed.sits one.placed.lies one.placed.uses h in
      let there : numbers_of slots c' Over j ≡ (slot_at slots p).value = sym (same j) ∙ here in
      let inside = has_contains (spots_in body) p (inside_body w i body c p one.left h) in
      let found = shown_by slots w i c' (whole two.stood body) two.live two.unended Over j (λ none. laid.counted p inside (sym there ∙ none)) in
      let is : found.spot ≡ p =
      laid.alone found.spot p (has_contains (spots_in body) found.spot (inside_body w i body c' found.spot two.left found.there)) inside
      (slot_is (slot_at slots found.spot) (slot_at slots p) found.counter (found.value ∙ there)) in
      subst (Has (resting c')) is found.there

pub numbers_tell : SpotsDiffer → NumbersTell
numbers_tell differ w i slots unit c c' laid one two same calls =
    same_body w i slots 0 (plain_body unit.body) c c' (differ unit.body []) laid.rests one.left two.left one.unended two.unended (record {
      settled = one.settled;
      settled' = two.settled;
      rests = rests_too w i slots (plain_body unit.body) c c' laid one two same;
      calls = calls;
    })

-- and the trees under their `run`s do by the same law
agreed : {w : Setting} {slots : UnitDef → Slots} {c c' : Tree} → SpotsDiffer → Agree w slots c c' → woken c ≡ woken c'
agreed {w = w} {slots = slots} {c = c} {c' = c'} differ (agree {i = i} {unit = unit} laid one two same inner) =
    numbers_tell differ w i (slots unit) unit c c' laid one two same (λ l d d' here there. agreed differ (inner l d d' here there))

pub counters_tell : SpotsDiffer → CountersTell
counters_tell differ w slots c c' all = agreed differ all
