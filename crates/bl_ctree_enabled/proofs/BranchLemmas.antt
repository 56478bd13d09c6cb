-- The points of branches, one branch after another.
use Rattle.std.proofs.Common.{◌≡◌, ℕ, zero, suc, ◌+◌, Bool, true, false, not, ◌&&◌, ◌||◌, cond, List, [], ◌∷◌, ◌++◌, map, filter, take, drop, refl, sym, ap}
use Rattle.std.proofs.Common.{◌∙◌, arith, append_assoc}
use Rattle.std.specs.List.{list_any}
use Rattle.std.proofs.lemmas.List.Elements.{filter-append}
use Rattle.std.proofs.lemmas.List.Folds.{list_any-append}
use Rattle.bl_tree.proofs.Basics.{map_append, or_false}
use Rattle.bl_ctree.specs.Actions.{Action, reads_of}
use Rattle.bl_ctree.specs.Control.{Control, Branches, branch}
use Rattle.bl_ctree.specs.Instances.{Setting}
use Rattle.bl_ctree.specs.Nodes.{Seen, branches_of}
use Rattle.bl_ctree.specs.Pending.{any_meets, any_writes, may_write, meets}
use Rattle.bl_ctree.specs.Points.{Point, branch_points, free_of, in_first, in_later, one_on, points}
use Rattle.bl_ctree.specs.Store.{Location}
use Rattle.bl_ctree_enabled.specs.Spots.{Spot, homes_seen, is_free_of, meets_one, spot_below, taken}
use Rattle.bl_ctree_pending.proofs.WriteLemmas.{writes_over}

-- ---- what meets what

pub any_same : {A : Type 0} (f g : A → Bool) (xs : List A) → ((x : A) → f x ≡ g x) → list_any f xs ≡ list_any g xs
any_same f g [] same = refl
any_same f g (x ∷ xs) same = λ i. same x i || any_same f g xs same i

or_four : (a b c d : Bool) → ((a || b) || (c || d)) ≡ ((a || c) || (b || d))
or_four true b true d = refl
or_four true b false d = refl
or_four false true true d = refl
or_four false true false d = refl
or_four false false true d = refl
or_four false false false d = refl

pub any_or : {A : Type 0} (f g : A → Bool) (xs : List A) → list_any (λ x. f x || g x) xs ≡ (list_any f xs || list_any g xs)
any_or f g [] = refl
any_or f g (x ∷ xs) = ap (λ b. (f x || g x) || b) (any_or f g xs) ∙ or_four (f x) (g x) (list_any f xs) (list_any g xs)

pub taken-append : (xs ys : List (List Location)) (reads : List Location) → taken (xs ++ ys) reads ≡ (taken xs reads || taken ys reads)
taken-append xs ys reads =
    any_same (meets_one (xs ++ ys)) (λ at. meets_one xs at || meets_one ys at) reads (λ at. list_any-append (λ homes. list_any _ homes) xs ys)
    ∙ any_or (meets_one xs) (meets_one ys) reads

branches_over : (w : Setting) (i : ℕ) (at : Location) (bs : List Seen) → meets_one (map (homes_seen w i) bs) at ≡ any_writes w i (branches_of bs) at
branches_over w i at [] = refl
branches_over w i at (b ∷ bs) =
    ap (λ t. t || meets_one (map (homes_seen w i) bs) at) (writes_over w i at b.tree) ∙ ap (λ t. may_write w i b.tree at || t) (branches_over w i at bs)

pub taken_others : (w : Setting) (i : ℕ) (bs : List Seen) (a : Action) → taken (map (homes_seen w i) bs) (reads_of w a) ≡ any_meets w i (branches_of bs) a
taken_others w i bs a = any_same (meets_one (map (homes_seen w i) bs)) (any_writes w i (branches_of bs)) (reads_of w a) (λ at. branches_over w i at bs)

pub taken_one : (w : Setting) (i : ℕ) (b : Seen) (a : Action) → taken (homes_seen w i b ∷ []) (reads_of w a) ≡ meets w i b.tree a
taken_one w i b a =
    taken_others w i (b ∷ []) a ∙ any_same (any_writes w i (branches_of (b ∷ []))) (may_write w i b.tree) (reads_of w a)
    (λ at. or_false (may_write w i b.tree at))

-- ---- lists

module _ {A B C : Type 0} (g : A → B) (shown : B → C) (h : A → C) (t : A → Bool) (F G : C → Bool)
    (same : (p : A) → shown (g p) ≡ h p) (free : (p : A) → G (h p) ≡ (F (h p) && t p)) where
  free_step : (p : A) (ps : List A) (b c : Bool) → t p ≡ b → F (h p) ≡ c → filter F (map shown (map g (filter t ps))) ≡ filter G (map h ps)
      → filter F (map shown (map g (cond b (p ∷ filter t ps) (filter t ps)))) ≡ cond (c && b) (h p ∷ filter G (map h ps)) (filter G (map h ps))
  free_step p ps true true is passes rest =
      ap (λ x. cond (F x) (x ∷ filter F (map shown (map g (filter t ps)))) (filter F (map shown (map g (filter t ps))))) (same p)
      ∙ ap (λ b. cond b (h p ∷ filter F (map shown (map g (filter t ps)))) (filter F (map shown (map g (filter t ps))))) passes
      ∙ ap (λ rest. h p ∷ rest) rest
  free_step p ps true false is passes rest =
      ap (λ x. cond (F x) (x ∷ filter F (map shown (map g (filter t ps)))) (filter F (map shown (map g (filter t ps))))) (same p)
      ∙ ap (λ b. cond b (h p ∷ filter F (map shown (map g (filter t ps)))) (filter F (map shown (map g (filter t ps))))) passes
      ∙ rest
  free_step p ps false true is passes rest = rest
  free_step p ps false false is passes rest = rest

  -- what is kept of those that pass, as they are shown
  pub kept_free : (ps : List A) → filter F (map shown (map g (filter t ps))) ≡ filter G (map h ps)
  kept_free [] = refl
  kept_free (p ∷ ps) =
      free_step p ps (t p) (F (h p)) refl refl (kept_free ps)
      ∙ sym (ap (λ b. cond b (h p ∷ filter G (map h ps)) (filter G (map h ps))) (free p))

-- ---- one branch after another

abbrev pub numbered : ℕ → List ℕ → List ℕ
numbered k [] = []
numbered k (j ∷ path) = (k + j) ∷ path

-- a point of the branches from the one with number k on
abbrev pub spot_from : Setting → List ℕ → ℕ → Point Branches → Spot
spot_from w path k p = record (spot_below w [] p) { path = path ++ numbered k p.path }

-- whether the point reads nothing that these may still write
abbrev pub is_free : List (List Location) → Spot → Bool
is_free others spot = not (taken others spot.reads)

pub not_or : (a b : Bool) → not (a || b) ≡ (not a && not b)
not_or true b = refl
not_or false b = refl

pub drop_map : {A B : Type 0} (f : A → B) (k : ℕ) (xs : List A) → drop k (map f xs) ≡ map f (drop k xs)
drop_map f zero [] = refl
drop_map f zero (x ∷ xs) = refl
drop_map f (suc k) [] = refl
drop_map f (suc k) (x ∷ xs) = drop_map f k xs

pub take_more : {A : Type 0} (k : ℕ) (xs : List A) (x : A) (rest : List A) → drop k xs ≡ x ∷ rest → take (suc k) xs ≡ take k xs ++ x ∷ []
take_more zero [] x rest e = absurd cc
take_more zero (y ∷ xs) x rest e = let same : y ≡ x = cc in ap (λ z. z ∷ []) same
take_more (suc k) [] x rest e = absurd cc
take_more (suc k) (y ∷ xs) x rest e = ap (λ zs. y ∷ zs) (take_more k xs x rest e)

module _ (w : Setting) (i : ℕ) (path : List ℕ) where
  abbrev behind : List Seen → List (Point Branches)
  behind bs = branch_points w i (branches_of bs)

  spot_first : (k : ℕ) (weak : Bool) (others : Branches) (p : Point Control) →
      spot_from w path k (in_first (λ c. branch weak c others) p) ≡ spot_below w (path ++ k ∷ []) p
  spot_first k weak others p =
      let same : k + 0 ≡ k = omega arith in
      ap (λ j. record (spot_below w [] p) { path = path ++ j ∷ p.path }) same
      ∙ ap (λ all. record (spot_below w [] p) { path = all }) (sym (append_assoc path (k ∷ []) p.path))

  one_numbered : (k : ℕ) (ks : List ℕ) → numbered k (one_on ks) ≡ numbered (suc k) ks
  one_numbered k [] = refl
  one_numbered k (j ∷ ks) = let same : k + suc j ≡ suc k + j = omega arith in ap (λ j. j ∷ ks) same

  spot_later : (k : ℕ) (weak : Bool) (c : Control) (p : Point Branches) → spot_from w path k (in_later (branch weak c) p) ≡ spot_from w path (suc k) p
  spot_later k weak c p = ap (λ ks. record (spot_below w [] p) { path = path ++ ks }) (one_numbered k p.path)

  -- the first of these branches, beside those in front of it, and those behind it
  pub one_branch : (front : List (List Location)) (k : ℕ) (b : Seen) (bs : List Seen)
      → filter (is_free front) (map (spot_from w path k) (behind (b ∷ bs)))
      ≡ filter (λ s. is_free front s && is_free (map (homes_seen w i) bs) s) (map (spot_below w (path ++ k ∷ [])) (points w i b.tree))
      ++ filter (is_free (front ++ homes_seen w i b ∷ [])) (map (spot_from w path (suc k)) (behind bs))
  one_branch front k b bs =
      let firsts = map (in_first (λ c. branch b.weak c (branches_of bs))) (free_of (any_meets w i (branches_of bs)) (points w i b.tree)) in
      let laters = map (in_later (branch b.weak b.tree)) (free_of (meets w i b.tree) (behind bs)) in
      ap (filter (is_free front)) (map_append (spot_from w path k) firsts laters)
      ∙ filter-append (is_free front) (map (spot_from w path k) firsts) (map (spot_from w path k) laters)
      ∙ ap (λ xs. xs ++ filter (is_free front) (map (spot_from w path k) laters))
      (kept_free (in_first (λ c. branch b.weak c (branches_of bs))) (spot_from w path k) (spot_below w (path ++ k ∷ []))
      (λ p. not (any_meets w i (branches_of bs) p.action))
      (is_free front) (λ s. is_free front s && is_free (map (homes_seen w i) bs) s) (spot_first k b.weak (branches_of bs))
      (λ p. ap (λ t. is_free front (spot_below w [] p) && not t) (taken_others w i bs p.action)) (points w i b.tree))
      ∙ ap (λ ys. filter (λ s. is_free front s && is_free (map (homes_seen w i) bs) s) (map (spot_below w (path ++ k ∷ [])) (points w i b.tree)) ++ ys)
      (kept_free (in_later (branch b.weak b.tree)) (spot_from w path k) (spot_from w path (suc k)) (λ p. not (meets w i b.tree p.action))
      (is_free front) (is_free (front ++ homes_seen w i b ∷ [])) (spot_later k b.weak b.tree)
      (λ p. ap not (taken-append front (homes_seen w i b ∷ []) (reads_of w p.action))
      ∙ not_or (taken front (reads_of w p.action)) (taken (homes_seen w i b ∷ []) (reads_of w p.action))
      ∙ ap (λ t. is_free front (spot_below w [] p) && not t) (taken_one w i b p.action)) (behind bs))

  none_taken : (reads : List Location) → taken [] reads ≡ false
  none_taken [] = refl
  none_taken (at ∷ reads) = none_taken reads

  spot_at_start : (p : Point Branches) → spot_from w path 0 p ≡ spot_below w path p
  spot_at_start p = ap (λ ks. record (spot_below w [] p) { path = path ++ ks }) (from_zero p.path)
    where
      from_zero : (ks : List ℕ) → numbered 0 ks ≡ ks
      from_zero [] = refl
      from_zero (j ∷ ks) = let same : 0 + j ≡ j = omega arith in ap (λ j. j ∷ ks) same

  start_list : (ps : List (Point Branches)) → filter (is_free []) (map (spot_from w path 0) ps) ≡ map (spot_below w path) ps
  start_list [] = refl
  start_list (p ∷ ps) =
      ap (λ b. cond (not b) (spot_from w path 0 p ∷ filter (is_free []) (map (spot_from w path 0) ps))
      (filter (is_free []) (map (spot_from w path 0) ps))) (none_taken (spot_from w path 0 p).reads)
      ∙ (λ i. spot_at_start p i ∷ start_list ps i)

  -- before the first branch
  pub branches_start : (bs : List Seen) → filter (is_free []) (map (spot_from w path 0) (behind bs)) ≡ map (spot_below w path) (behind bs)
  branches_start bs = start_list (behind bs)

  -- one more branch
  pub branches_step : (all : List Seen) (ps : List (List Location)) (k : ℕ) (b : Seen) → ps ≡ map (homes_seen w i) all →
      drop k all ≡ b ∷ drop (suc k) all
      → filter (is_free (take k ps)) (map (spot_from w path k) (behind (drop k all)))
      ≡ filter (is_free_of ps k) (map (spot_below w (path ++ k ∷ [])) (points w i b.tree))
      ++ filter (is_free (take (suc k) ps)) (map (spot_from w path (suc k)) (behind (drop (suc k) all)))
  branches_step all ps k b is here =
      let rest = drop (suc k) all in
      let ahead : drop k ps ≡ homes_seen w i b ∷ map (homes_seen w i) rest =
      ap (drop k) is ∙ drop_map (homes_seen w i) k all ∙ ap (map (homes_seen w i)) here in
      let later : drop (k + 1) ps ≡ map (homes_seen w i) rest =
      (let more : k + 1 ≡ suc k = omega arith in ap (λ n. drop n ps) more) ∙ ap (drop (suc k)) is ∙ drop_map (homes_seen w i) (suc k) all in
      ap (λ all. filter (is_free (take k ps)) (map (spot_from w path k) (behind all))) here
      ∙ one_branch (take k ps) k b rest
      ∙ ap (λ others. filter (λ s. is_free (take k ps) s && is_free others s) (map (spot_below w (path ++ k ∷ [])) (points w i b.tree))
      ++ filter (is_free (take k ps ++ homes_seen w i b ∷ [])) (map (spot_from w path (suc k)) (behind rest))) (sym later)
      ∙ ap (λ front. filter (is_free_of ps k) (map (spot_below w (path ++ k ∷ [])) (points w i b.tree))
      ++ filter (is_free front) (map (spot_from w path (suc k)) (behind rest)))
      (sym (take_more k ps (homes_seen w i b) (map (homes_seen w i) rest) ahead))
