-- The path of a point leads to what the tree becomes by it.
use Rattle.std.proofs.Common.{◌≡◌, ℕ, zero, suc, ◌+◌, ◌-◌, ◌<◌, ◌≤◌, Bool, true, false, ◌&&◌, List, [], ◌∷◌, ◌++◌, map, take, drop, length, get_or, refl, sym}
use Rattle.std.proofs.Common.{ap, ◌∙◌, subst, ⊎_elim, append_assoc, arith, if◌then◌else◌}
use Rattle.std.proofs.Math.Seq.{take-length}
use Rattle.std.proofs.lemmas.List.{length-drop}
use Rattle.bl_tree.specs.declared.tree.StmtKind.TheOpen.{StmtKind-F}
use Rattle.bl_ctree.proofs.Elements.{of-append, of-filter, of-map}
use Rattle.bl_ctree.specs.Actions.{Silent}
use Rattle.bl_ctree.specs.Control.{Control, Branches, Nil, Wait, Test, Idle, Do, Turn, Seq, Par, Guard, Run, no_branch, branch, Check, Body, are_done}
use Rattle.bl_ctree.specs.Control.{are_settled, is_nil, seq}
use Rattle.bl_ctree.specs.Instances.{Setting}
use Rattle.bl_ctree.specs.Nodes.{Seen, branch_seen, branches_of, control_of, node_control, seen_of}
use Rattle.bl_ctree.specs.declared.node.Branch.{Branch, fold_out-Branch, out-Branch}
use Rattle.bl_ctree.specs.Pending.{any_meets, meets}
use Rattle.bl_ctree.specs.Points.{IsMember, here, there, Point, begins, branch_points, checks, copying, free_of, giving, in_first, in_later, joining, one_on}
use Rattle.bl_ctree.specs.Points.{points, sure, tests, turns_on, within}
use Rattle.bl_ctree.specs.Positions.{Located, kind_of}
use Rattle.bl_ctree_enabled.specs.Spots.{moved}
use Rattle.bl_ctree_run.specs.inner.Spots.{after_by, after_in, first_after}
use Rattle.bl_ctree_run.proofs.OwnLemmas.{Own, no_point, one_point, own_giving, own_is}

abbrev pub Leads : Setting → ℕ → Control → Bool → Point Control → Type 0
Leads w i c d p = p.after d ≡ after_by w i c p.path d

only : (all : List (Point Control)) → Own all → (p : Point Control) → IsMember (Point Control) p all → (d : Bool) → p.after d ≡ first_after all d
only all no_point p m d = elim m [ ]
only all (one_point q e) p here d = refl
only all (one_point q e) p (there m) d = elim m [ ]

-- a point of a list of branches: the number of its branch, and the way from there
pub record LeadsIn (w : Setting) (i : ℕ) (bs : Branches) (d : Bool) (p : Point Branches) : Type 0 where
  pub k : ℕ
  pub rest : List ℕ
  pub path : p.path ≡ k ∷ rest
  pub after : p.after d ≡ after_in w i bs k rest d

in_first_leads : (w : Setting) (i : ℕ) (weak : Bool) (c : Control) (others : Branches) (d : Bool) (q : Point Control) → Leads w i c d q
    → LeadsIn w i (branch weak c others) d (in_first (λ c. branch weak c others) q)
in_first_leads w i weak c others d q leads = record { k = 0; rest = q.path; path = refl; after = ap (λ c. branch weak c others) leads }

in_later_leads : (w : Setting) (i : ℕ) (weak : Bool) (c : Control) (others : Branches) (d : Bool) (q : Point Branches) → LeadsIn w i others d q
    → LeadsIn w i (branch weak c others) d (in_later (branch weak c) q)
in_later_leads w i weak c others d q leads = record { k = suc leads.k; rest = leads.rest; path = ap one_on leads.path; after = ap (branch weak c) leads.after }

par_leads : (w : Setting) (i : ℕ) (s : Located) (stood : Bool) (bs : Branches) (d : Bool) (q : Point Branches) →
    LeadsIn w i bs d q → Leads w i (Par s stood bs) d (within (Par s stood) q)
par_leads w i s stood bs d q leads = ap (Par s stood) leads.after ∙ sym (ap (λ path. after_by w i (Par s stood bs) path d) leads.path)

join_leads : (w : Setting) (i : ℕ) (s : Located) (stood : Bool) (bs : Branches) (d : Bool) (b : Bool) (p : Point Control)
    → IsMember (Point Control) p (if b then sure i s Silent Nil else []) → Leads w i (Par s stood bs) d p
join_leads w i s stood bs d true p here = refl
join_leads w i s stood bs d true p (there m) = elim m [ ]
join_leads w i s stood bs d false p m = elim m [ ]

-- where the body has ended, and where it has not
ended : (all : List (Point Control)) → Own all → (inner : List (Point Control)) (around : Control → Control)
    (after : List ℕ → Bool → Control) (b : Bool)
    → ((d : Bool) → first_after all d ≡ Nil) → ((q : Point Control) → IsMember (Point Control) q inner → (d : Bool) → q.after d ≡ after q.path d)
    → (p : Point Control) → IsMember (Point Control) p (if b then all else map (within around) inner) → (d : Bool) →
    p.after d ≡ (if b then Nil else around (after p.path d))
ended all o inner around after true ends each p m d = only all o p m d ∙ ends d
ended all o inner around after false ends each p m d =
    let image = of-map (within around) inner m in
    subst (λ (p : Point Control). p.after d ≡ around (after p.path d)) image.is (ap around (each image.source image.among d))

giving_ends : (i : ℕ) (s : Located) (callee : ℕ) (d : Bool) → first_after (giving i s callee (kind_of s)) d ≡ Nil
giving_ends i s callee d = by (kind_of s)
  where
    by : (k : _) → first_after (giving i s callee k) d ≡ Nil
    by (StmtKind-F.Run target a inputs outputs) = refl
    by (StmtKind-F.Declare k initial) = refl
    by (StmtKind-F.Assign path e) = refl
    by (StmtKind-F.Call f inputs outputs) = refl
    by (StmtKind-F.Return e) = refl
    by (StmtKind-F.When guard e body) = refl
    by (StmtKind-F.If arms other) = refl
    by (StmtKind-F.Cobegin branches) = refl
    by (StmtKind-F.Until body e) = refl
    by (StmtKind-F.Repeat body) = refl
    by (StmtKind-F.Await e) = refl
    by (StmtKind-F.While e body) = refl

mutual
  pub leads_on : (w : Setting) (i : ℕ) (c : Control) (p : Point Control) → IsMember (Point Control) p (points w i c) → (d : Bool) → Leads w i c d p
  leads_on w i Nil p m d = elim m [ ]
  leads_on w i (Wait s) p m d = elim m [ ]
  leads_on w i (Test s) p m d = only (tests i s (kind_of s)) (own_is w i (Test s)) p m d
  leads_on w i (Idle items) p m d = elim m [ ]
  leads_on w i (Do s) p m d = only (begins w i s (kind_of s)) (own_is w i (Do s)) p m d
  leads_on w i (Turn s) p m d = only (turns_on i s (kind_of s)) (own_is w i (Turn s)) p m d
  leads_on w i (Seq c rest) p m d =
      let image = of-map (within (λ c. seq c rest)) (points w i c) m in
      subst (λ (p : Point Control). p.after d ≡ seq (after_by w i c p.path d) rest) image.is
      (ap (λ c. seq c rest) (leads_on w i c image.source image.among d))
  leads_on w i (Par s stood branches) p m d =
      ⊎_elim (λ (own : IsMember (Point Control) p (joining i s branches)). join_leads w i s stood branches d (are_settled branches && are_done branches) p own)
      (λ (inner : IsMember (Point Control) p (map (within (Par s stood)) (branch_points w i branches))).
      let image = of-map (within (Par s stood)) (branch_points w i branches) inner in
      subst (Leads w i (Par s stood branches) d) image.is (par_leads w i s stood branches d image.source (leads_in w i branches image.source image.among d)))
      (of-append (joining i s branches) m)
  leads_on w i (Guard s Check stood c) p m d = only (checks i s stood c (kind_of s)) (own_is w i (Guard s Check stood c)) p m d
  leads_on w i (Guard s Body stood c) p m d =
      ended (sure i s Silent Nil) (one_point _ refl) (points w i c) (Guard s Body stood) (after_by w i c) (is_nil c) (λ d. refl)
      (λ q m d. leads_on w i c q m d) p m d
  leads_on w i (Run s callee Check stood c) p m d = only (copying i s callee stood c (kind_of s)) (own_is w i (Run s callee Check stood c)) p m d
  leads_on w i (Run s callee Body stood c) p m d =
      ended (giving i s callee (kind_of s)) (own_giving i s callee (kind_of s)) (points w callee c) (Run s callee Body stood)
      (after_by w callee c) (is_nil c) (giving_ends i s callee) (λ q m d. leads_on w callee c q m d) p m d

  leads_in : (w : Setting) (i : ℕ) (bs : Branches) (p : Point Branches) → IsMember (Point Branches) p (branch_points w i bs) →
      (d : Bool) → LeadsIn w i bs d p
  leads_in w i no_branch p m d = elim m [ ]
  leads_in w i (branch weak c others) p m d =
      ⊎_elim
      (λ (one : IsMember (Point Branches) p (map (in_first (λ c. branch weak c others)) (free_of (any_meets w i others) (points w i c)))).
      let image = of-map (in_first (λ c. branch weak c others)) (free_of (any_meets w i others) (points w i c)) one in
      subst (LeadsIn w i (branch weak c others) d) image.is
      (in_first_leads w i weak c others d image.source (leads_on w i c image.source (of-filter _ (points w i c) image.among).among d)))
      (λ (later : IsMember (Point Branches) p (map (in_later (branch weak c)) (free_of (meets w i c) (branch_points w i others)))).
      let image = of-map (in_later (branch weak c)) (free_of (meets w i c) (branch_points w i others)) later in
      subst (LeadsIn w i (branch weak c others) d) image.is
      (in_later_leads w i weak c others d image.source (leads_in w i others image.source (of-filter _ (branch_points w i others) image.among).among d)))
      (of-append (map (in_first (λ c. branch weak c others)) (free_of (any_meets w i others) (points w i c))) m)

-- ---- as the code goes

after_in_moved : (w : Setting) (i : ℕ) (bs : List Seen) (k : ℕ) (path : List ℕ) (d : Bool)
    → after_in w i (branches_of bs) k path d ≡ branches_of (moved bs k (λ c. after_by w i c path d))
after_in_moved w i [] k path d = refl
after_in_moved w i (b ∷ bs) zero path d = refl
after_in_moved w i (b ∷ bs) (suc k) path d = ap (branch b.weak b.tree) (after_in_moved w i bs k path d)

pub seen_out : (b : Branch) → seen_of b ≡ record { weak = (out-Branch b).weak; tree = control_of (out-Branch b).tree }
seen_out b = fold_out-Branch Control Seen node_control branch_seen b

-- a Par of which a branch moved
pub par_after : (w : Setting) (i : ℕ) (s : Located) (stood : Bool) (bs made : List Seen) (path : List ℕ) (k : ℕ) (rest : List ℕ) (d : Bool)
    → path ≡ k ∷ rest → made ≡ moved bs k (λ c. after_by w i c rest d)
    → Par s stood (branches_of made) ≡ after_by w i (Par s stood (branches_of bs)) path d
par_after w i s stood bs made path k rest d is_path is_made =
    ap (λ bs. Par s stood (branches_of bs)) is_made ∙ ap (Par s stood) (sym (after_in_moved w i bs k rest d))
    ∙ sym (ap (λ path. after_by w i (Par s stood (branches_of bs)) path d) is_path)

-- no branch has the number
pub moved_none : {A : Type 0} (g : A → Seen) (xs : List A) (k : ℕ) (f : Control → Control) → length xs ≤ k → map g xs ≡ moved (map g xs) k f
moved_none g [] k f past = refl
moved_none g (x ∷ xs) zero f past = absurd (omega arith)
moved_none g (x ∷ xs) (suc k) f past = ap (λ rest. g x ∷ rest) (moved_none g xs k f (omega arith))

-- a branch with another tree
pub moved_at : (xs : List Branch) (k : ℕ) (x : Branch) (f : Control → Control) (made : Control) → k < length xs →
    x ≡ get_or xs k x → made ≡ f (control_of (out-Branch x).tree)
    → moved (map seen_of xs) k (λ c. made) ≡ moved (map seen_of xs) k f
moved_at [] k x f made within is same = refl
moved_at (y ∷ xs) zero x f made within is same =
    ap (λ c. record { weak = (seen_of y).weak; tree = c } ∷ map seen_of xs)
    (same ∙ ap f (sym (ap (λ b. b.tree) (seen_out x)) ∙ ap (λ b. (seen_of b).tree) is))
moved_at (y ∷ xs) (suc k) x f made within is same = ap (λ rest. seen_of y ∷ rest) (moved_at xs k x f made (omega arith) is same)

-- the branches in front of one that gets another tree, that one, and those behind it
pub moved_one : (xs : List Branch) (k : ℕ) (x : Branch) (c : Control) → k < length xs → x ≡ get_or xs k x
    → map seen_of (take k xs) ++ (record { weak = (out-Branch x).weak; tree = c } ∷ map seen_of (drop (suc k) xs)) ≡ moved (map seen_of xs) k (λ d. c)
moved_one [] k x c within is = absurd (omega arith)
moved_one (y ∷ xs) zero x c within is =
    ap (λ (weak : Bool). record { weak = weak; tree = c } ∷ map seen_of (drop 1 (y ∷ xs)))
    (sym (ap (λ b. b.weak) (seen_out x)) ∙ ap (λ b. (seen_of b).weak) is)
    ∙ ap (λ rest. record { weak = (seen_of y).weak; tree = c } ∷ map seen_of rest) (drop_none xs)
  where
    drop_none : (ys : List Branch) → drop 1 (y ∷ ys) ≡ ys
    drop_none [] = refl
    drop_none (y ∷ ys) = refl
moved_one (y ∷ xs) (suc k) x c within is = ap (λ rest. seen_of y ∷ rest) (moved_one xs k x c (omega arith) is)

rest_of : (k : ℕ) (xs : List Branch) → take (length xs - (k + 1)) (drop (k + 1) xs) ≡ drop (suc k) xs
rest_of k xs =
    let next : k + 1 ≡ suc k = omega arith in
    ap (λ n. take n (drop (k + 1) xs)) (sym (length-drop (k + 1) xs)) ∙ take-length (drop (k + 1) xs) ∙ ap (λ n. drop n xs) next

-- as the parts are appended one behind another
pub parts_made : (xs : List Branch) (k : ℕ) (x : Branch) (c : Control) (none front made all : List Seen) → k < length xs →
    x ≡ get_or xs k x → none ≡ []
    → front ≡ none ++ map seen_of (take k xs) → made ≡ front ++ record { weak = (out-Branch x).weak; tree = c } ∷ []
    → all ≡ made ++ map seen_of (take (length xs - (k + 1)) (drop (k + 1) xs)) → all ≡ moved (map seen_of xs) k (λ d. c)
parts_made xs k x c none front made all within is is_none is_front is_made is_all =
    let one : Seen = record { weak = (out-Branch x).weak; tree = c } in
    let behind = map seen_of (drop (suc k) xs) in
    is_all ∙ ap (λ rest. made ++ map seen_of rest) (rest_of k xs)
    ∙ ap (λ made. made ++ behind) is_made
    ∙ append_assoc front (one ∷ []) behind
    ∙ ap (λ front. front ++ (one ∷ behind)) (is_front ∙ ap (λ none. none ++ map seen_of (take k xs)) is_none)
    ∙ moved_one xs k x c within is
