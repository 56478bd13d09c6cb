-- What a tree may still write, as a list of static paths, is what the definition tests.
use Rattle.std.proofs.Common.{◌≡◌, ℕ, suc, Bool, true, false, ◌&&◌, ◌||◌, List, [], ◌∷◌, ◌++◌, map, refl, sym, ap, ◌∙◌, subst, append_assoc, append-nil}
use Rattle.std.proofs.Common.{if◌then◌else◌}
use Rattle.std.specs.Prelude.{Result, IfOk, OnOk}
use Rattle.std.proofs.Math.Bool.{and_assoc, or_assoc}
use Rattle.bl_tree.specs.declared.tree.Stmt.{Stmt}
use Rattle.bl_tree.specs.declared.static_path.Static.{Static}
use Rattle.bl_effects.specs.Surface.{block_instant, block_surface, surface_of}
use Rattle.bl_effects.proofs.GatherLemmas.{on_ok}
use Rattle.bl_effects.proofs.InstantLemmas.{surface_agrees}
use Rattle.bl_ctree.specs.Control.{Control, Branches, Nil, Wait, Test, Idle, Do, Turn, Seq, Par, Guard, Run, no_branch, branch, Phase, Check, Body, is_settled}
use Rattle.bl_ctree.specs.Instances.{Setting}
use Rattle.bl_ctree.specs.Pending.{anew, any_writes, is_reset, item_may_end, item_surface, items_may_end, items_surface, lie_over, may_end, may_write}
use Rattle.bl_ctree.specs.Pending.{outputs_of_kind, run_may_end, run_writes, target_of_kind}
use Rattle.bl_ctree.specs.Positions.{Item, Begin, Again, Located, Position, items_from, kind_of}
use Rattle.bl_ctree.specs.Store.{Location, home, overlap}
use Rattle.bl_ctree_pending.specs.Writes.{all_write_paths, anew_paths, item_paths, items_paths, run_paths, surface_paths, write_paths}

module _ (w : Setting) (i : ℕ) (at : Location) where
  over-append : (xs ys : List Static) → lie_over w i (xs ++ ys) at ≡ (lie_over w i xs at || lie_over w i ys at)
  over-append [] ys = refl
  over-append (x ∷ xs) ys =
      ap (λ b. overlap at (home w (record { instance = i; path = x })) || b) (over-append xs ys)
      ∙ sym (or_assoc (overlap at (home w (record { instance = i; path = x }))) (lie_over w i xs at) (lie_over w i ys at))

  over_if : (b : Bool) (xs : List Static) → lie_over w i (if b then xs else []) at ≡ (b && lie_over w i xs at)
  over_if true xs = refl
  over_if false xs = refl

  item_over : (item : Item) → lie_over w i (item_paths item) at ≡ item_surface w i item at
  item_over (Begin s) = refl
  item_over (Again s) = refl

  items_over : (items : List Item) → lie_over w i (items_paths items) at ≡ items_surface w i items at
  items_over [] = refl
  items_over (item ∷ rest) =
      over-append (item_paths item) (if item_may_end item then items_paths rest else [])
      ∙ ap (λ b. b || lie_over w i (if item_may_end item then items_paths rest else []) at) (item_over item)
      ∙ ap (λ b. item_surface w i item at || b) (over_if (item_may_end item) (items_paths rest) ∙ ap (λ b. item_may_end item && b) (items_over rest))

  anew_over : (s : Located) (phase : Phase) → lie_over w i (anew_paths s phase) at ≡ anew w i s phase at
  anew_over s Check = over_if (is_reset (kind_of s)) (surface_paths s)
  anew_over s Body = refl

  run_over : (s : Located) (settled ends : Bool) → lie_over w i (run_paths s settled ends) at ≡ run_writes w i s settled ends at
  run_over s true ends = refl
  run_over s false ends =
      over-append (outputs_of_kind (kind_of s)) (if ends then target_of_kind (kind_of s) else [])
      ∙ ap (λ b. lie_over w i (outputs_of_kind (kind_of s)) at || b) (over_if ends (target_of_kind (kind_of s)))

  mutual
    pub writes_over : (c : Control) → lie_over w i (write_paths c) at ≡ may_write w i c at
    writes_over Nil = refl
    writes_over (Wait s) = refl
    writes_over (Test s) = refl
    writes_over (Idle items) = refl
    writes_over (Do s) = refl
    writes_over (Turn s) = refl
    writes_over (Seq c rest) =
        over-append (write_paths c) (if may_end c then items_paths rest else [])
        ∙ ap (λ b. b || lie_over w i (if may_end c then items_paths rest else []) at) (writes_over c)
        ∙ ap (λ b. may_write w i c at || b) (over_if (may_end c) (items_paths rest) ∙ ap (λ b. may_end c && b) (items_over rest))
    writes_over (Par s stood branches) = all_over branches
    writes_over (Guard s phase stood c) =
        over-append (write_paths c) (anew_paths s phase)
        ∙ ap (λ b. b || lie_over w i (anew_paths s phase) at) (writes_over c)
        ∙ ap (λ b. may_write w i c at || b) (anew_over s phase)
    writes_over (Run s callee phase stood c) = run_over s (is_settled (Run s callee phase stood c)) (run_may_end phase (may_end c))

    all_over : (branches : Branches) → lie_over w i (all_write_paths branches) at ≡ any_writes w i branches at
    all_over no_branch = refl
    all_over (branch weak c rest) =
        over-append (write_paths c) (all_write_paths rest)
        ∙ ap (λ b. b || lie_over w i (all_write_paths rest) at) (writes_over c)
        ∙ ap (λ b. may_write w i c at || b) (all_over rest)

-- ---- blocks

-- the items of a block that is left, and what follows it
block_ends : (position : Position) (k : ℕ) (body : List Stmt) (after : List Item)
    → items_may_end (items_from position k body ++ after) ≡ (block_instant (map surface_of body) && items_may_end after)
block_ends position k [] after = refl
block_ends position k (s ∷ body) after =
    ap (λ b. b && items_may_end (items_from position (suc k) body ++ after)) (sym (surface_agrees s))
    ∙ ap (λ b. (surface_of s).instant && b) (block_ends position (suc k) body after)
    ∙ sym (and_assoc (surface_of s).instant (block_instant (map surface_of body)) (items_may_end after))

regroup : (a b : Bool) (ws rest after : List Static) →
    ws ++ (if a then rest ++ (if b then after else []) else []) ≡ (ws ++ (if a then rest else [])) ++ (if a && b then after else [])
regroup true b ws rest after = sym (append_assoc ws rest (if b then after else []))
regroup false b ws rest after = sym (append-nil (ws ++ []))

block_writes : (position : Position) (k : ℕ) (body : List Stmt) (after : List Item)
    → items_paths (items_from position k body ++ after) ≡ block_surface (map surface_of body)
    ++ (if block_instant (map surface_of body) then items_paths after else [])
block_writes position k [] after = refl
block_writes position k (s ∷ body) after =
    ap (λ b. (surface_of s).writes ++ (if b then items_paths (items_from position (suc k) body ++ after) else [])) (sym (surface_agrees s))
    ∙ ap (λ rest. (surface_of s).writes ++ (if (surface_of s).instant then rest else [])) (block_writes position (suc k) body after)
    ∙ regroup (surface_of s).instant (block_instant (map surface_of body)) ((surface_of s).writes) (block_surface (map surface_of body)) (items_paths after)

-- what is told of the statements that are left of a block, and then of what follows the block, is told of the items
module _ (position : Position) (k : ℕ) (left made : List Stmt) (same : made ≡ left) (after : List Item) (ends : Bool)
    (told : ends ≡ block_instant (map surface_of made)) where
  whole_ends : items_may_end (items_from position k left ++ after) ≡ (ends && items_may_end after)
  whole_ends = block_ends position k left after ∙ ap (λ b. b && items_may_end after) (sym (told ∙ ap (λ body. block_instant (map surface_of body)) same))

  pub goes_on_ends : {E : Type 0} (r : Result Bool E) → ends ≡ true → IfOk r (λ all. all ≡ items_may_end after) →
      IfOk r (λ all. all ≡ items_may_end (items_from position k left ++ after))
  goes_on_ends r passes rest = subst (λ whole. IfOk r (λ all. all ≡ whole)) (sym (whole_ends ∙ ap (λ b. b && items_may_end after) passes)) rest

  pub stops_ends : ends ≡ false → false ≡ items_may_end (items_from position k left ++ after)
  stops_ends stops = sym (whole_ends ∙ ap (λ b. b && items_may_end after) stops)

  whole_writes : items_paths (items_from position k left ++ after) ≡ block_surface (map surface_of made) ++ (if ends then items_paths after else [])
  whole_writes =
      block_writes position k left after
      ∙ ap (λ b. block_surface (map surface_of left) ++ (if b then items_paths after else []))
      (sym (told ∙ ap (λ body. block_instant (map surface_of body)) same))
      ∙ ap (λ body. block_surface (map surface_of body) ++ (if ends then items_paths after else [])) (sym same)

  pub goes_on_writes : {A E : Type 0} (r : Result A E) (before between found : List Static) → ends ≡ true →
      between ≡ before ++ block_surface (map surface_of made)
      → OnOk r (found ≡ between ++ items_paths after) → OnOk r (found ≡ before ++ items_paths (items_from position k left ++ after))
  goes_on_writes r before between found passes first rest =
      on_ok (found ≡ between ++ items_paths after) (found ≡ before ++ items_paths (items_from position k left ++ after)) r
      (λ last. last ∙ ap (λ ws. ws ++ items_paths after) first ∙ append_assoc before (block_surface (map surface_of made)) (items_paths after)
      ∙ sym (ap (λ ws. before ++ ws) (whole_writes ∙ ap (λ b. block_surface (map surface_of made) ++ (if b then items_paths after else [])) passes)))
      rest

  pub stops_writes : (before between : List Static) → ends ≡ false → between ≡ before ++ block_surface (map surface_of made) →
      between ≡ before ++ items_paths (items_from position k left ++ after)
  stops_writes before between stops first =
      first ∙ ap (λ ws. before ++ ws) (sym (append-nil (block_surface (map surface_of made))))
      ∙ sym (ap (λ ws. before ++ ws) (whole_writes ∙ ap (λ b. block_surface (map surface_of made) ++ (if b then items_paths after else [])) stops))
