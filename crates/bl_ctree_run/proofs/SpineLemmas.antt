-- What the spine of a tree leads to: the points of its `cobegin` are those of the tree, and the tree after one of them differs in one branch.
use Rattle.std.proofs.Common.{◌≡◌, ◌≢◌, ◌≤◌, ℕ, zero, suc, Bool, false, List, [], ◌∷◌, ◌++◌, map, length, arith, refl, sym, ap, ◌∙◌, Some, if◌then◌else◌}
use Rattle.std.specs.Prelude.{slice_get, slice_set}
use Rattle.bl_ctree.specs.Actions.{Silent}
use Rattle.bl_ctree.specs.Control.{Control, Branches, Nil, Wait, Test, Idle, Do, Turn, Seq, Par, Guard, Run, no_branch, branch, Check, Body, is_nil, seq}
use Rattle.bl_ctree.specs.Instances.{Setting}
use Rattle.bl_ctree.specs.Nodes.{Seen, branches_of}
use Rattle.bl_ctree.specs.Points.{giving, points, sure}
use Rattle.bl_ctree.specs.Positions.{Item, kind_of}
use Rattle.bl_ctree.specs.Store.{homes}
use Rattle.bl_ctree_pending.specs.Writes.{write_paths}
use Rattle.bl_ctree_enabled.specs.Laws.{PointsAreListed, ReplacedIsListed}
use Rattle.bl_ctree_enabled.specs.Listing.{EnabledView, IsRight, Lists, each_branch, enabled, spots_in, top_of, with_branch}
use Rattle.bl_ctree_enabled.specs.Spots.{moved, spot_below}
use Rattle.bl_ctree_enabled.proofs.NodeLemmas.{of_each}
use Rattle.bl_ctree_run.specs.inner.Spines.{fork_at, with_fork}
use Rattle.bl_ctree_run.specs.inner.Spots.{after_by, after_in, spot_told, told_point}
use Rattle.bl_ctree_run.proofs.OwnLemmas.{guard_inside, run_inside, seq_points}

-- ---- where the spine ends, and where it leads on

-- a branch whose number is too large changes nothing
pub none_moved : (bs : List Seen) (k : ℕ) (d : Control) → length bs ≤ k → moved bs k (λ c. d) ≡ bs
none_moved [] k d past = refl
none_moved (b ∷ bs) zero d past = absurd (omega arith)
none_moved (b ∷ bs) (suc k) d past = ap (λ rest. b ∷ rest) (none_moved bs k d (omega arith))

pub none_put : (c : Control) (k : ℕ) (d : Control) → length (top_of c) ≤ k → with_branch c k d ≡ c
none_put Nil k d past = refl
none_put (Wait s) k d past = refl
none_put (Test s) k d past = refl
none_put (Idle items) k d past = refl
none_put (Do s) k d past = refl
none_put (Turn s) k d past = refl
none_put (Seq c rest) k d past = refl
none_put (Par s stood branches) k d past =
    ap (λ bs. Par s stood (branches_of bs)) (none_moved (each_branch branches) k d past) ∙ ap (Par s stood) (of_each branches)
none_put (Guard s phase stood c) k d past = refl
none_put (Run s callee phase stood c) k d past = refl

-- ---- a tree whose spine has branches has not ended

module _ (k : ℕ) (b : Seen) where
  pub forks_on : (i : ℕ) (c : Control) → slice_get (fork_at i c).branches k ≡ Some b → is_nil c ≡ false
  forks_on i Nil is = absurd cc
  forks_on i (Wait s) is = refl
  forks_on i (Test s) is = refl
  forks_on i (Idle items) is = refl
  forks_on i (Do s) is = refl
  forks_on i (Turn s) is = refl
  forks_on i (Seq c rest) is = refl
  forks_on i (Par s stood branches) is = refl
  forks_on i (Guard s phase stood c) is = refl
  forks_on i (Run s callee phase stood c) is = refl

  stays_on : (i : ℕ) (c d : Control) → slice_get (fork_at i c).branches k ≡ Some b → is_nil (with_fork c k d) ≡ false
  stays_on i Nil d is = absurd cc
  stays_on i (Wait s) d is = refl
  stays_on i (Test s) d is = refl
  stays_on i (Idle items) d is = refl
  stays_on i (Do s) d is = refl
  stays_on i (Turn s) d is = refl
  stays_on i (Seq c []) d is = refl
  stays_on i (Seq c (item ∷ rest)) d is = refl
  stays_on i (Par s stood branches) d is = refl
  stays_on i (Guard s Check stood c) d is = refl
  stays_on i (Guard s Body stood c) d is = refl
  stays_on i (Run s callee Check stood c) d is = refl
  stays_on i (Run s callee Body stood c) d is = refl

pub seq_stays : (c : Control) (item : Item) (rest : List Item) → is_nil c ≡ false → Seq c (item ∷ rest) ≡ seq c (item ∷ rest)
seq_stays Nil item rest is = absurd cc
seq_stays (Wait s) item rest is = refl
seq_stays (Test s) item rest is = refl
seq_stays (Idle items) item rest is = refl
seq_stays (Do s) item rest is = refl
seq_stays (Turn s) item rest is = refl
seq_stays (Seq c items) item rest is = refl
seq_stays (Par s stood branches) item rest is = refl
seq_stays (Guard s phase stood c) item rest is = refl
seq_stays (Run s callee phase stood c) item rest is = refl

-- ---- the tree after a point of one of the branches

module _ (w : Setting) (rest : List ℕ) (answer : Bool) where
  moved_in : (i : ℕ) (bs : Branches) (k : ℕ) (b : Seen) → slice_get (each_branch bs) k ≡ Some b
      → branches_of (moved (each_branch bs) k (λ c. after_by w i b.tree rest answer)) ≡ after_in w i bs k rest answer
  moved_in i no_branch k b is = absurd cc
  moved_in i (branch weak c others) zero b is =
      let whole : ◌≡◌ {A = Seen} (record { weak = weak; tree = c }) b = cc in
      let same : c ≡ b.tree = ap (λ (b : Seen). b.tree) whole in
      ap (λ tree. branch weak (after_by w i tree rest answer) (branches_of (each_branch others))) (sym same)
      ∙ ap (branch weak (after_by w i c rest answer)) (of_each others)
  moved_in i (branch weak c others) (suc k) b is = ap (branch weak c) (moved_in i others k b is)

  pub leads_into : (i : ℕ) (c : Control) (k : ℕ) (b : Seen) → slice_get (fork_at i c).branches k ≡ Some b
      → with_fork c k (after_by w (fork_at i c).instance b.tree rest answer) ≡ after_by w i c (k ∷ rest) answer
  leads_into i Nil k b is = absurd cc
  leads_into i (Wait s) k b is = absurd cc
  leads_into i (Test s) k b is = absurd cc
  leads_into i (Idle items) k b is = absurd cc
  leads_into i (Do s) k b is = absurd cc
  leads_into i (Turn s) k b is = absurd cc
  leads_into i (Seq c []) k b is = absurd cc
  leads_into i (Seq c (item ∷ items)) k b is =
      seq_stays (with_fork c k (after_by w (fork_at i c).instance b.tree rest answer)) item items
      (stays_on k b i c (after_by w (fork_at i c).instance b.tree rest answer) is)
      ∙ ap (λ c. seq c (item ∷ items)) (leads_into i c k b is)
  leads_into i (Par s stood branches) k b is = ap (Par s stood) (moved_in i branches k b is)
  leads_into i (Guard s Check stood c) k b is = absurd cc
  leads_into i (Guard s Body stood c) k b is =
      ap (Guard s Body stood) (leads_into i c k b is)
      ∙ sym (ap (λ (t : Bool). if t then Nil else Guard s Body stood (after_by w i c (k ∷ rest) answer)) (forks_on k b i c is))
  leads_into i (Run s callee Check stood c) k b is = absurd cc
  leads_into i (Run s callee Body stood c) k b is =
      ap (Run s callee Body stood) (leads_into callee c k b is)
      ∙ sym (ap (λ (t : Bool). if t then Nil else Run s callee Body stood (after_by w callee c (k ∷ rest) answer)) (forks_on k b callee c is))

-- ---- the points

module _ (w : Setting) (l : EnabledView) where
  not_over : (i : ℕ) (c : Control) → Lists w (fork_at i c) l → enabled l ≢ [] → is_nil c ≡ false
  not_over i Nil lists some = absurd (some (ap enabled lists))
  not_over i (Wait s) lists some = refl
  not_over i (Test s) lists some = refl
  not_over i (Idle items) lists some = refl
  not_over i (Do s) lists some = refl
  not_over i (Turn s) lists some = refl
  not_over i (Seq c rest) lists some = refl
  not_over i (Par s stood branches) lists some = refl
  not_over i (Guard s phase stood c) lists some = refl
  not_over i (Run s callee phase stood c) lists some = refl

  module _ (law : PointsAreListed) where
    -- where some point may act by the listing, it lists all that may
    pub spine_points : (i : ℕ) (c : Control) → Lists w (fork_at i c) l → enabled l ≢ [] → map (spot_below w []) (points w i c) ≡ enabled l
    spine_points i Nil lists some = law w i Nil l lists some
    spine_points i (Wait s) lists some = law w i (Wait s) l lists some
    spine_points i (Test s) lists some = law w i (Test s) l lists some
    spine_points i (Idle items) lists some = law w i (Idle items) l lists some
    spine_points i (Do s) lists some = law w i (Do s) l lists some
    spine_points i (Turn s) lists some = law w i (Turn s) l lists some
    spine_points i (Seq c []) lists some = law w i (Seq c []) l lists some
    spine_points i (Seq c (item ∷ rest)) lists some = seq_points w [] i c (item ∷ rest) ∙ spine_points i c lists some
    spine_points i (Par s stood branches) lists some = law w i (Par s stood branches) l lists some
    spine_points i (Guard s Check stood c) lists some = law w i (Guard s Check stood c) l lists some
    spine_points i (Guard s Body stood c) lists some =
        guard_inside w [] i s stood c
        ∙ ap (λ (t : Bool). map (spot_told w []) (map told_point (if t then sure i s Silent Nil else [])) ++ map (spot_below w []) (points w i c))
        (not_over i c lists some)
        ∙ spine_points i c lists some
    spine_points i (Run s callee Check stood c) lists some = law w i (Run s callee Check stood c) l lists some
    spine_points i (Run s callee Body stood c) lists some =
        run_inside w [] i s callee stood c
        ∙ ap (λ (t : Bool). map (spot_told w []) (map told_point (if t then giving i s callee (kind_of s) else []))
        ++ map (spot_below w []) (points w callee c))
        (not_over callee c lists some)
        ∙ spine_points callee c lists some

-- ---- one branch changes

module _ (law : ReplacedIsListed) (w : Setting) (k : ℕ) (d : Control) (l new : EnabledView) where
  pub spine_replaced : (i : ℕ) (c : Control) → Lists w (fork_at i c) l
      → new.homes ≡ slice_set l.homes k (homes w (fork_at i c).instance (write_paths d))
      → new.spots ≡ slice_set l.spots k (spots_in w (fork_at i c).instance k d) → IsRight new
      → Lists w (fork_at i (with_fork c k d)) new
  spine_replaced i Nil lists is_homes is_spots right = law w i Nil k d l new lists is_homes is_spots right
  spine_replaced i (Wait s) lists is_homes is_spots right = law w i (Wait s) k d l new lists is_homes is_spots right
  spine_replaced i (Test s) lists is_homes is_spots right = law w i (Test s) k d l new lists is_homes is_spots right
  spine_replaced i (Idle items) lists is_homes is_spots right = law w i (Idle items) k d l new lists is_homes is_spots right
  spine_replaced i (Do s) lists is_homes is_spots right = law w i (Do s) k d l new lists is_homes is_spots right
  spine_replaced i (Turn s) lists is_homes is_spots right = law w i (Turn s) k d l new lists is_homes is_spots right
  spine_replaced i (Seq c []) lists is_homes is_spots right = law w i (Seq c []) k d l new lists is_homes is_spots right
  spine_replaced i (Seq c (item ∷ rest)) lists is_homes is_spots right = spine_replaced i c lists is_homes is_spots right
  spine_replaced i (Par s stood branches) lists is_homes is_spots right = law w i (Par s stood branches) k d l new lists is_homes is_spots right
  spine_replaced i (Guard s Check stood c) lists is_homes is_spots right = law w i (Guard s Check stood c) k d l new lists is_homes is_spots right
  spine_replaced i (Guard s Body stood c) lists is_homes is_spots right = spine_replaced i c lists is_homes is_spots right
  spine_replaced i (Run s callee Check stood c) lists is_homes is_spots right =
      law w i (Run s callee Check stood c) k d l new lists is_homes is_spots right
  spine_replaced i (Run s callee Body stood c) lists is_homes is_spots right = spine_replaced callee c lists is_homes is_spots right
