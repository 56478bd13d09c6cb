-- What a breadth-first search keeps, and what it finds in the end.
use Rattle.std.proofs.Common.{◌≡◌, ℕ, zero, suc, ◌+◌, ◌-◌, ◌<◌, ◌≤◌, Bool, true, false, cond, List, [], ◌∷◌, ◌++◌, ◌⊎◌, inl, inr, ⊎_elim, length, get_or, set}
use Rattle.std.proofs.Common.{take, drop, reverse, refl, sym, ap, subst, ◌∙◌, arith}
use Rattle.std.specs.Prelude.{All, Contains, nat_eq, replicate}
use Rattle.std.proofs.lemmas.Bool.{cases_eq, cases_lt}
use Rattle.std.proofs.lemmas.Bool.Decides.{nat_tests}
use Rattle.std.proofs.lemmas.List.{drop-append-le, get_or-replicate, get_or_default, take_more, get_or-set_other, get_or-set_same, get_or_append_left}
use Rattle.std.proofs.lemmas.List.{get_or_past, get_or_push, length-replicate, length-set, length_push}
use Rattle.std.proofs.lemmas.List.Elements.{All-head, All-nil, All-push}
use Rattle.std.proofs.lemmas.List.Sums.{sum_by-set}
use Rattle.bl_tree.proofs.Basics.{contains_first, contains_further, contains_none, first_or_further}
use Rattle.bl_tree.specs.declared.graph.Edge.{Edge}
use Rattle.bl_cause.specs.declared.way_back.Reached.{Reached}
use Rattle.bl_cause.specs.declared.way_back.Step.{Step}
use Rattle.bl_cause.specs.Walks.{ClosedWalk, EdgeWalk}
use Rattle.bl_cause.specs.inner.Lists.{Rows, RowsWithin, Within, edges_from, unseen}
use Rattle.bl_cause.specs.inner.Steps.{Closed, Earlier, Ends, Leaves, Sees, Tree, gone, gone_along, gone_unless}
use Rattle.bl_cause.proofs.ListLemmas.{filter_keeps, filter_there, filter_true, reverse_push}
use Rattle.bl_cause.proofs.RowLemmas.{row_within}
use Rattle.bl_cause.proofs.NumberLemmas.{ends_tail}

-- ---- nodes seen

-- of a node that is seen now, it was seen before or is the new one
pub seen_cases : (seen : List Bool) (at node : ℕ) → get_or (set seen at true) node false ≡ true → (get_or seen node false ≡ true) ⊎ (at ≡ node)
seen_cases seen at node h =
    ⊎_elim (λ (is : node ≡ at). inr (sym is)) (λ (not : node ≡ at → ⊥). inl (sym (get_or-set_other seen at node true false not) ∙ h))
    (cases_eq node at)

pub seen_kept : (seen : List Bool) (at node : ℕ) → get_or seen node false ≡ true → get_or (set seen at true) node false ≡ true
seen_kept seen at node h =
    ⊎_elim
    (λ (is : node ≡ at).
    ⊎_elim
    (λ (lt : at < length seen). ap (λ n. get_or (set seen at true) n false) is ∙ get_or-set_same seen at true false lt)
    (λ (ge : length seen ≤ at).
    let none = get_or_past seen at false ge in
    absurd (true_isnt_false (sym h ∙ ap (λ n. get_or seen n false) is ∙ none)))
    (cases_lt at (length seen)))
    (λ (not : node ≡ at → ⊥). get_or-set_other seen at node true false not ∙ h)
    (cases_eq node at)
  where
    true_isnt_false : true ≡ false → ⊥
    true_isnt_false e = cc

pub seen_new : (seen : List Bool) (at : ℕ) → at < length seen → get_or (set seen at true) at false ≡ true
seen_new seen at lt = get_or-set_same seen at true false lt

abbrev open_one : Bool → ℕ
open_one one = cond one 0 1

pub unseen_set : (seen : List Bool) (at : ℕ) → at < length seen → get_or seen at false ≡ false → unseen (set seen at true) + 1 ≡ unseen seen
unseen_set seen at lt is =
    let sums = sum_by-set open_one seen at true false lt in
    let one : open_one (get_or seen at false) ≡ 1 = ap open_one is in
    omega (arith, sums, one)

pub none_seen : (count node : ℕ) → get_or (replicate count false) node false ≡ true → ⊥
none_seen count node h =
    ⊎_elim
    (λ (lt : node < count). clash (sym h ∙ get_or-replicate count node false false lt))
    (λ (ge : count ≤ node). clash (sym h ∙ get_or_past (replicate count false) node false (let e = length-replicate count false in omega (arith, e, ge))))
    (cases_lt node count)
  where
    clash : true ≡ false → ⊥
    clash e = cc

-- ---- steps

pub ends_push : (node : ℕ) (steps : List Step) (step : Step) → Ends node steps → Ends node (steps ++ step ∷ [])
ends_push node [] step h = absurd h
ends_push node (one ∷ steps) step h =
    ⊎_elim (λ (is : one.edge.to ≡ node). inl is) (λ (later : Ends node steps). inr (ends_push node steps step later)) h

pub ends_last : (node : ℕ) (steps : List Step) (step : Step) → step.edge.to ≡ node → Ends node (steps ++ step ∷ [])
ends_last node [] step is = inl is
ends_last node (one ∷ steps) step is = inr (ends_last node steps step is)

pub ends_cases : (node : ℕ) (steps : List Step) (step : Step) → Ends node (steps ++ step ∷ []) → Ends node steps ⊎ (step.edge.to ≡ node)
ends_cases node [] step h = ⊎_elim (λ (is : step.edge.to ≡ node). inr is) (λ (none : ⊥). absurd none) h
ends_cases node (one ∷ steps) step h =
    ⊎_elim
    (λ (is : one.edge.to ≡ node). inl (inl is))
    (λ (later : Ends node (steps ++ step ∷ [])).
    ⊎_elim (λ (a : Ends node steps). inl (inr a)) (λ (b : step.edge.to ≡ node). inr b) (ends_cases node steps step later))
    h

pub ends_at : (steps : List Step) (k : ℕ) (d : Step) → k < length steps → Ends (get_or steps k d).edge.to steps
ends_at [] k d lt = absurd (omega arith)
ends_at (step ∷ steps) zero d lt = inl refl
ends_at (step ∷ steps) (suc k) d lt = inr (ends_at steps k d (omega arith))

-- the steps from a position on, without the one at it
pub ends_drop : (node : ℕ) (steps : List Step) (at : ℕ) (d : Step) → at < length steps → Ends node (drop at steps) →
    ((get_or steps at d).edge.to ≡ node) ⊎ Ends node (drop (suc at) steps)
ends_drop node [] at d lt h = absurd (omega arith)
ends_drop node (step ∷ steps) zero d lt h = h
ends_drop node (step ∷ steps) (suc at) d lt h = ends_drop node steps at d (omega arith) h

pub ends_all : (node : ℕ) (steps : List Step) (at : ℕ) → length steps ≤ at → Ends node (drop at steps) → ⊥
ends_all node [] zero le h = h
ends_all node [] (suc at) le h = h
ends_all node (step ∷ steps) zero le h = omega arith
ends_all node (step ∷ steps) (suc at) le h = ends_all node steps at (omega arith) h

-- ---- one edge

seen_step : (before : ℕ) (edge : Edge) (r : Reached) → length (gone before edge r).seen ≡ length r.seen
seen_step before edge r = by (get_or r.seen edge.to false)
  where
    by : (b : Bool) → length (gone_unless b before edge r).seen ≡ length r.seen
    by true = refl
    by false = length-set r.seen edge.to true

counted_step : (before : ℕ) (edge : Edge) (r : Reached) → edge.to < length r.seen →
    unseen (gone before edge r).seen + length (gone before edge r).steps ≡ unseen r.seen + length r.steps
counted_step before edge r lt =
    elim (get_or r.seen edge.to false) as (λ b. get_or r.seen edge.to false ≡ b →
    unseen (gone_unless b before edge r).seen + length (gone_unless b before edge r).steps ≡ unseen r.seen + length r.steps) [
      | true ↦ λ is. refl
      | false ↦ λ is.
          let one = unseen_set r.seen edge.to lt is in
          let more = length_push r.steps (record { edge = edge; before = before }) in
          omega (arith, one, more)
    ] refl

within_step : (count before : ℕ) (edge : Edge) (r : Reached) → edge.to < count → All (λ step. step.edge.to < count) r.steps →
    All (λ step. step.edge.to < count) (gone before edge r).steps
within_step count before edge r lt all = by (get_or r.seen edge.to false)
  where
    by : (b : Bool) → All (λ step. step.edge.to < count) (gone_unless b before edge r).steps
    by true = all
    by false = All-push (λ step. step.edge.to < count) r.steps (record { edge = edge; before = before }) all lt

grows_step : (before : ℕ) (edge : Edge) (r : Reached) → length r.steps ≤ length (gone before edge r).steps
grows_step before edge r = by (get_or r.seen edge.to false)
  where
    by : (b : Bool) → length r.steps ≤ length (gone_unless b before edge r).steps
    by true = omega arith
    by false = let more = length_push r.steps (record { edge = edge; before = before }) in omega (arith, more)

earlier_push : (steps : List Step) (step : Step) → step.before < length steps → Earlier steps → Earlier (steps ++ step ∷ [])
earlier_push steps step lt h k d pos in' =
    ⊎_elim
    (λ (old : k < length steps).
    let e = get_or_append_left steps (step ∷ []) d k old in
    subst (λ s. s.before < k) (sym e) (h k d pos old))
    (λ (new : length steps ≤ k).
    let more = length_push steps step in
    let is : length steps ≡ k = omega (arith, more, in', new) in
    let e = get_or_push steps step d k is in
    subst (λ s. s.before < k) (sym e) (omega (arith, lt, is)))
    (cases_lt k (length steps))

earlier_step : (before : ℕ) (edge : Edge) (r : Reached) → before < length r.steps → Earlier r.steps → Earlier (gone before edge r).steps
earlier_step before edge r lt h = by (get_or r.seen edge.to false)
  where
    by : (b : Bool) → Earlier (gone_unless b before edge r).steps
    by true = h
    by false = earlier_push r.steps (record { edge = edge; before = before }) lt h

tree_push : (edges : List Edge) (first : Edge) (steps : List Step) (step : Step) → step.before < length steps → Contains edges step.edge →
    ((d : Step) → step.edge.from ≡ (get_or steps step.before d).edge.to) → Earlier steps → Tree edges first steps →
    Tree edges first (steps ++ step ∷ [])
tree_push edges first steps step lt there follows earlier h = record {
  begins = λ d. let e = get_or_append_left steps (step ∷ []) d 0 h.some in ap (λ s. s.edge) e ∙ h.begins d;
  some = (let more = length_push steps step in let some = h.some in omega (arith, more, some));
  there = λ k d pos in'. there_at k d pos in' (cases_lt k (length steps));
  follows = λ k d pos in'. follows_at k d pos in' (cases_lt k (length steps));
}
  where
    more : length (steps ++ step ∷ []) ≡ length steps + 1
    more = length_push steps step

    there_at : (k : ℕ) (d : Step) → 0 < k → k < length (steps ++ step ∷ []) → (k < length steps) ⊎ (length steps ≤ k) →
        Contains edges (get_or (steps ++ step ∷ []) k d).edge
    there_at k d pos in' case =
        ⊎_elim
        (λ (old : k < length steps). subst (λ s. Contains edges s.edge) (sym (get_or_append_left steps (step ∷ []) d k old)) (h.there k d pos old))
        (λ (new : length steps ≤ k).
        let is : length steps ≡ k = (let m = more in omega (arith, m, in', new)) in
        subst (λ s. Contains edges s.edge) (sym (get_or_push steps step d k is)) there)
        case

    follows_at : (k : ℕ) (d : Step) → 0 < k → k < length (steps ++ step ∷ []) → (k < length steps) ⊎ (length steps ≤ k) →
        (get_or (steps ++ step ∷ []) k d).edge.from ≡ (get_or (steps ++ step ∷ []) (get_or (steps ++ step ∷ []) k d).before d).edge.to
    follows_at k d pos in' case =
        ⊎_elim
        (λ (old : k < length steps).
        let e = get_or_append_left steps (step ∷ []) d k old in
        let down : (get_or steps k d).before < length steps = (let b = earlier k d pos old in omega (arith, b, old)) in
        ap (λ s. s.edge.from) e ∙ h.follows k d pos old
        ∙ ap (λ s. s.edge.to) (sym (get_or_append_left steps (step ∷ []) d (get_or steps k d).before down))
        ∙ ap (λ s. (get_or (steps ++ step ∷ []) s.before d).edge.to) (sym e))
        (λ (new : length steps ≤ k).
        let is : length steps ≡ k = (let m = more in omega (arith, m, in', new)) in
        let e = get_or_push steps step d k is in
        ap (λ s. s.edge.from) e ∙ follows d
        ∙ ap (λ s. s.edge.to) (sym (get_or_append_left steps (step ∷ []) d step.before lt))
        ∙ ap (λ s. (get_or (steps ++ step ∷ []) s.before d).edge.to) (sym e))
        case

-- a step further back stays where it is
kept_step : (before at : ℕ) (edge : Edge) (r : Reached) (d : Step) → at < length r.steps → get_or (gone before edge r).steps at d ≡ get_or r.steps at d
kept_step before at edge r d lt = by (get_or r.seen edge.to false)
  where
    by : (b : Bool) → get_or (gone_unless b before edge r).steps at d ≡ get_or r.steps at d
    by true = refl
    by false = get_or_append_left r.steps (record { edge = edge; before = before } ∷ []) d at lt

tree_step : (edges : List Edge) (first : Edge) (before : ℕ) (edge : Edge) (r : Reached) → before < length r.steps → Contains edges edge →
    ((d : Step) → edge.from ≡ (get_or r.steps before d).edge.to) → Earlier r.steps → Tree edges first r.steps →
    Tree edges first (gone before edge r).steps
tree_step edges first before edge r lt there follows earlier h = by (get_or r.seen edge.to false)
  where
    by : (b : Bool) → Tree edges first (gone_unless b before edge r).steps
    by true = h
    by false = tree_push edges first r.steps (record { edge = edge; before = before }) lt there follows earlier h

sees_step : (before : ℕ) (edge : Edge) (r : Reached) → edge.to < length r.seen → Sees r.seen r.steps →
    Sees (gone before edge r).seen (gone before edge r).steps
sees_step before edge r lt h = by (get_or r.seen edge.to false)
  where
    step : Step
    step = record { edge = edge; before = before }

    by : (b : Bool) → Sees (gone_unless b before edge r).seen (gone_unless b before edge r).steps
    by true = h
    by false = record {
      ends = λ node is.
          ⊎_elim
          (λ (old : get_or r.seen node false ≡ true). ends_push node r.steps (record { edge = edge; before = before }) (h.ends node old))
          (λ (new : edge.to ≡ node). ends_last node r.steps (record { edge = edge; before = before }) new)
          (seen_cases r.seen edge.to node is);
      met = λ node is.
          ⊎_elim
          (λ (old : Ends node r.steps). seen_kept r.seen edge.to node (h.met node old))
          (λ (new : edge.to ≡ node). subst (λ n. get_or (set r.seen edge.to true) n false ≡ true) new (seen_new r.seen edge.to lt))
          (ends_cases node r.steps (record { edge = edge; before = before }) is);
    }

-- an edge that was gone along, or whose end was seen, needs no more care
leaves_step : (edges : List Edge) (at before : ℕ) (edge : Edge) (row : List Edge) (r : Reached) → edge.to < length r.seen → at ≤ length r.steps →
    Leaves edges r.seen (drop at r.steps) (edge ∷ row) → Leaves edges (gone before edge r).seen (drop at (gone before edge r).steps) row
leaves_step edges at before edge row r lt le h =
    elim (get_or r.seen edge.to false) as (λ b. get_or r.seen edge.to false ≡ b →
    Leaves edges (gone_unless b before edge r).seen (drop at (gone_unless b before edge r).steps) row) [
      | true ↦ λ is. λ x there from.
          ⊎_elim
          (λ (good : get_or r.seen x.to false ≡ true). inl good)
          (λ (rest : Ends x.from (drop at r.steps) ⊎ Contains (edge ∷ row) x).
          ⊎_elim
          (λ (one : Ends x.from (drop at r.steps)). inr (inl one))
          (λ (two : Contains (edge ∷ row) x).
          ⊎_elim
          (λ (same : edge ≡ x). inl (subst (λ it. get_or r.seen it.to false ≡ true) same is))
          (λ (later : Contains row x). inr (inr later))
          (first_or_further edge row x two))
          rest)
          (h x there from)
      | false ↦ λ is. λ x there from.
          let step : Step = record { edge = edge; before = before } in
          let dropped = drop-append-le at r.steps (step ∷ []) le in
          ⊎_elim
          (λ (old : get_or r.seen x.from false ≡ true).
          ⊎_elim
          (λ (good : get_or r.seen x.to false ≡ true). inl (seen_kept r.seen edge.to x.to good))
          (λ (rest : Ends x.from (drop at r.steps) ⊎ Contains (edge ∷ row) x).
          ⊎_elim
          (λ (one : Ends x.from (drop at r.steps)). inr (inl (subst (Ends x.from) (sym dropped) (ends_push x.from (drop at r.steps) step one))))
          (λ (two : Contains (edge ∷ row) x).
          ⊎_elim
          (λ (same : edge ≡ x). inl (subst (λ it. get_or (set r.seen edge.to true) it.to false ≡ true) same (seen_new r.seen edge.to lt)))
          (λ (later : Contains row x). inr (inr later))
          (first_or_further edge row x two))
          rest)
          (h x there old))
          (λ (new : edge.to ≡ x.from). inr (inl (subst (Ends x.from) (sym dropped) (ends_last x.from (drop at r.steps) step new))))
          (seen_cases r.seen edge.to x.from from)
    ] refl

-- ---- all edges of a row

head_to : (count : ℕ) (edge : Edge) (row : List Edge) → Within count (edge ∷ row) → edge.to < count
head_to count edge row h = (All-head (λ edge. (edge.from < count) × (edge.to < count)) edge row h).1

pub seen_along : (before : ℕ) (row : List Edge) (r : Reached) → length (gone_along before row r).seen ≡ length r.seen
seen_along before [] r = refl
seen_along before (edge ∷ row) r = seen_along before row (gone before edge r) ∙ seen_step before edge r

pub grows_along : (before : ℕ) (row : List Edge) (r : Reached) → length r.steps ≤ length (gone_along before row r).steps
grows_along before [] r = omega arith
grows_along before (edge ∷ row) r =
    let one = grows_step before edge r in let rest = grows_along before row (gone before edge r) in omega (arith, one, rest)

pub counted_along : (before : ℕ) (row : List Edge) (r : Reached) → Within (length r.seen) row →
    unseen (gone_along before row r).seen + length (gone_along before row r).steps ≡ unseen r.seen + length r.steps
counted_along before [] r within = refl
counted_along before (edge ∷ row) r within =
    counted_along before row (gone before edge r) (subst (λ n. Within n row) (sym (seen_step before edge r)) (ends_tail (length r.seen) edge row within))
    ∙ counted_step before edge r (head_to (length r.seen) edge row within)

pub within_along : (count before : ℕ) (row : List Edge) (r : Reached) → Within count row → All (λ step. step.edge.to < count) r.steps →
    All (λ step. step.edge.to < count) (gone_along before row r).steps
within_along count before [] r within all = all
within_along count before (edge ∷ row) r within all =
    within_along count before row (gone before edge r) (ends_tail count edge row within)
    (within_step count before edge r (head_to count edge row within) all)

pub earlier_along : (before : ℕ) (row : List Edge) (r : Reached) → before < length r.steps → Earlier r.steps → Earlier (gone_along before row r).steps
earlier_along before [] r lt h = h
earlier_along before (edge ∷ row) r lt h =
    earlier_along before row (gone before edge r) (let more = grows_step before edge r in omega (arith, more, lt)) (earlier_step before edge r lt h)

pub tree_along : (edges : List Edge) (first : Edge) (before : ℕ) (row : List Edge) (r : Reached) → before < length r.steps →
    ((edge : Edge) → Contains row edge → Contains edges edge) →
    ((edge : Edge) (d : Step) → Contains row edge → edge.from ≡ (get_or r.steps before d).edge.to) →
    Earlier r.steps → Tree edges first r.steps → Tree edges first (gone_along before row r).steps
tree_along edges first before [] r lt there follows earlier h = h
tree_along edges first before (edge ∷ row) r lt there follows earlier h =
    tree_along edges first before row (gone before edge r) (let more = grows_step before edge r in omega (arith, more, lt))
    (λ it c. there it (contains_further edge row it c))
    (λ it d c. follows it d (contains_further edge row it c) ∙ ap (λ s. s.edge.to) (sym (kept_step before before edge r d lt)))
    (earlier_step before edge r lt earlier)
    (tree_step edges first before edge r lt (there edge (contains_first edge row)) (λ d. follows edge d (contains_first edge row)) earlier h)

pub sees_along : (before : ℕ) (row : List Edge) (r : Reached) → Within (length r.seen) row → Sees r.seen r.steps →
    Sees (gone_along before row r).seen (gone_along before row r).steps
sees_along before [] r within h = h
sees_along before (edge ∷ row) r within h =
    sees_along before row (gone before edge r) (subst (λ n. Within n row) (sym (seen_step before edge r)) (ends_tail (length r.seen) edge row within))
    (sees_step before edge r (head_to (length r.seen) edge row within) h)

pub leaves_along : (edges : List Edge) (at before : ℕ) (row : List Edge) (r : Reached) → Within (length r.seen) row → at ≤ length r.steps →
    Leaves edges r.seen (drop at r.steps) row → Leaves edges (gone_along before row r).seen (drop at (gone_along before row r).steps) []
leaves_along edges at before [] r within le h = h
leaves_along edges at before (edge ∷ row) r within le h =
    leaves_along edges at before row (gone before edge r)
    (subst (λ n. Within n row) (sym (seen_step before edge r)) (ends_tail (length r.seen) edge row within))
    (let more = grows_step before edge r in omega (arith, more, le))
    (leaves_step edges at before edge row r (head_to (length r.seen) edge row within) le h)

-- ---- the steps one after another

-- where the steps up to one were gone on from, the edges of that one are next
pub leaves_next : (edges : List Edge) (seen : List Bool) (steps : List Step) (at : ℕ) (d : Step) → at < length steps →
    Leaves edges seen (drop at steps) [] → Leaves edges seen (drop (at + 1) steps) (edges_from edges (get_or steps at d).edge.to)
leaves_next edges seen steps at d lt h x there from =
    ⊎_elim
    (λ (good : get_or seen x.to false ≡ true). inl good)
    (λ (rest : Ends x.from (drop at steps) ⊎ Contains [] x).
    ⊎_elim
    (λ (one : Ends x.from (drop at steps)).
    ⊎_elim
    (λ (this : (get_or steps at d).edge.to ≡ x.from).
    let yes : nat_eq x.from (get_or steps at d).edge.to ≡ true = grind (arith, nat_tests) in
    inr (inr (filter_keeps (λ it. nat_eq it.from (get_or steps at d).edge.to) edges x there yes)))
    (λ (later : Ends x.from (drop (suc at) steps)).
    let next : suc at ≡ at + 1 = omega arith in
    inr (inl (subst (λ n. Ends x.from (drop n steps)) next later)))
    (ends_drop x.from steps at d lt one))
    (λ (two : Contains [] x). absurd (contains_none x two))
    rest)
    (h x there from)

-- what was seen at first: the end of the first edge alone
pub sees_first : (count : ℕ) (first : Edge) → first.to < count →
    Sees (set (replicate count false) first.to true) (record { edge = first; before = 0 } ∷ [])
sees_first count first lt = record {
  ends = λ node is.
      ⊎_elim (λ (old : get_or (replicate count false) node false ≡ true). absurd (none_seen count node old)) (λ (new : first.to ≡ node). inl new)
      (seen_cases (replicate count false) first.to node is);
  met = λ node is.
      ⊎_elim
      (λ (new : first.to ≡ node).
      subst (λ n. get_or (set (replicate count false) first.to true) n false ≡ true) new
      (seen_new (replicate count false) first.to (let e = length-replicate count false in omega (arith, e, lt))))
      (λ (none : ⊥). absurd none) is;
}

pub leaves_first : (edges : List Edge) (count : ℕ) (first : Edge) →
    Leaves edges (set (replicate count false) first.to true) (record { edge = first; before = 0 } ∷ []) []
leaves_first edges count first x there from =
    ⊎_elim (λ (old : get_or (replicate count false) x.from false ≡ true). absurd (none_seen count x.from old)) (λ (new : first.to ≡ x.from).
    inr (inl (inl new)))
    (seen_cases (replicate count false) first.to x.from from)

pub earlier_first : (first : Edge) → Earlier (record { edge = first; before = 0 } ∷ [])
earlier_first first k d pos lt = absurd (omega arith)

pub tree_first : (edges : List Edge) (first : Edge) → Tree edges first (record { edge = first; before = 0 } ∷ [])
tree_first edges first = record {
  begins = λ d. refl;
  some = omega arith;
  there = λ k d pos lt. absurd (omega arith);
  follows = λ k d pos lt. absurd (omega arith);
}

-- when all steps were gone on from, no edge leads out of them
pub closed_done : (edges : List Edge) (seen : List Bool) (steps : List Step) (at : ℕ) → length steps ≤ at → Sees seen steps →
    Leaves edges seen (drop at steps) [] → Closed edges steps
closed_done edges seen steps at le sees h x there from =
    ⊎_elim
    (λ (good : get_or seen x.to false ≡ true). sees.ends x.to good)
    (λ (rest : Ends x.from (drop at steps) ⊎ Contains [] x).
    ⊎_elim (λ (one : Ends x.from (drop at steps)). absurd (ends_all x.from steps at le one)) (λ (two : Contains [] x). absurd (contains_none x two)) rest)
    (h x there (sees.met x.from from))

-- ---- what it means for closed walks

ends_follow : (edges : List Edge) (steps : List Step) → Closed edges steps → (first last : ℕ) (walk : List Edge) → EdgeWalk edges first walk last →
    Ends first steps → Ends last steps
ends_follow edges steps closed first last [] w h = subst (λ n. Ends n steps) w h
ends_follow edges steps closed first last (edge ∷ walk) w h =
    ends_follow edges steps closed edge.to last walk w.2 (closed edge w.0 (subst (λ n. Ends n steps) (sym w.1) h))

-- no step ends where the edge begins: no closed walk begins with it
pub no_way_back : (edges : List Edge) (first : Edge) (steps : List Step) → Tree edges first steps → Closed edges steps →
    (Ends first.from steps → ⊥) →
    (rest : List Edge) → ClosedWalk edges (first ∷ rest) → ⊥
no_way_back edges first steps tree closed none rest w =
    none (ends_follow edges steps closed first.to first.from rest w.1
    (subst (λ edge. Ends edge.to steps) (tree.begins (record { edge = first; before = 0 })) (ends_at steps 0 (record { edge = first; before = 0 }) tree.some)))

pub row_there : (edges : List Edge) (node : ℕ) (edge : Edge) → Contains (edges_from edges node) edge → Contains edges edge
row_there edges node edge h = filter_there (λ it. nat_eq it.from node) edges edge h

pub row_from : (edges : List Edge) (node : ℕ) (edge : Edge) → Contains (edges_from edges node) edge → edge.from ≡ node
row_from edges node edge h = let yes = filter_true (λ it. nat_eq it.from node) edges edge h in grind (arith, nat_tests)

-- ---- the whole search

-- what is read where there is no step
abbrev pub blank : Step
blank = record { edge = record { from = 0; to = 0; by_data = false }; before = 0 }

-- what the search keeps when the steps before a position were gone on from
pub record Under (rows : List (List Edge)) (first : Edge) (r : Reached) (at : ℕ) : Type 0 where
  pub length_stays : length r.seen ≡ length rows
  pub inside : at ≤ length r.steps
  pub within : All (λ step. step.edge.to < length rows) r.steps
  pub earlier : Earlier r.steps
  pub sees : Sees r.seen r.steps
  pub tree : (edges : List Edge) → Rows (edges_from edges) (length rows) rows → Tree edges first r.steps
  pub leaves : (edges : List Edge) → Rows (edges_from edges) (length rows) rows → Leaves edges r.seen (drop at r.steps) []

pub under_first : (rows : List (List Edge)) (first : Edge) (r : Reached) → first.to < length rows →
    r.seen ≡ set (replicate (length rows) false) first.to true → r.steps ≡ record { edge = first; before = 0 } ∷ [] → Under rows first r 0
under_first rows first r lt seen steps = subst (λ it. Under rows first it 0) (sym whole) (record {
  length_stays = length-set (replicate (length rows) false) first.to true ∙ length-replicate (length rows) false;
  inside = omega arith;
  within = All-push (λ step. step.edge.to < length rows) [] (record { edge = first; before = 0 }) (All-nil (λ step. step.edge.to < length rows)) lt;
  earlier = earlier_first first;
  sees = sees_first (length rows) first lt;
  tree = λ edges all. tree_first edges first;
  leaves = λ edges all. leaves_first edges (length rows) first;
})
  where
    whole : r ≡ record { seen = set (replicate (length rows) false) first.to true; steps = record { edge = first; before = 0 } ∷ [] }
    whole i = record { seen = seen i; steps = steps i }

pub node_within : (rows : List (List Edge)) (first : Edge) (r : Reached) (at : ℕ) → at < length r.steps → Under rows first r at →
    (get_or r.steps at blank).edge.to < length rows
node_within rows first r at lt h = h.within at blank lt

pub under_row : (rows : List (List Edge)) (first : Edge) (r : Reached) (at : ℕ) (row : List Edge) → RowsWithin (length rows) rows →
    at < length r.steps →
    row ≡ get_or rows (get_or r.steps at blank).edge.to [] → Under rows first r at → Within (length r.seen) row
under_row rows first r at row within lt is h =
    subst (λ n. Within n row) (sym h.length_stays)
    (subst (Within (length rows)) (sym is) (row_within (length rows) rows (get_or r.steps at blank).edge.to within (node_within rows first r at lt h)))

pub under_next : (rows : List (List Edge)) (first : Edge) (r : Reached) (at : ℕ) (row : List Edge) (next : Reached) → RowsWithin (length rows) rows →
    at < length r.steps → row ≡ get_or rows (get_or r.steps at blank).edge.to [] → next ≡ gone_along at row r → Under rows first r at →
    Under rows first next (at + 1)
under_next rows first r at row next within lt is gone h = subst (λ it. Under rows first it (at + 1)) (sym gone) (record {
  length_stays = seen_along at row r ∙ h.length_stays;
  inside = (let more = grows_along at row r in omega (arith, more, lt));
  within = within_along (length rows) at row r (subst (λ n. Within n row) h.length_stays here) h.within;
  earlier = earlier_along at row r lt h.earlier;
  sees = sees_along at row r here h.sees;
  tree = λ edges all.
      tree_along edges first at row r lt
      (λ edge inside. row_there edges node edge (subst (λ it. Contains it edge) (of edges all) inside))
      (λ edge d inside. row_from edges node edge (subst (λ it. Contains it edge) (of edges all) inside) ∙ ap (λ s.
      s.edge.to) (get_or_default r.steps at blank d lt))
      h.earlier (h.tree edges all);
  leaves = λ edges all.
      leaves_along edges (at + 1) at row r here (omega (arith, lt))
      (subst (Leaves edges r.seen (drop (at + 1) r.steps)) (sym (of edges all)) (leaves_next edges r.seen r.steps at blank lt (h.leaves edges all)));
})
  where
    node : ℕ
    node = (get_or r.steps at blank).edge.to

    here : Within (length r.seen) row
    here = under_row rows first r at row within lt is h

    of : (edges : List Edge) → Rows (edges_from edges) (length rows) rows → row ≡ edges_from edges (get_or r.steps at blank).edge.to
    of edges all = is ∙ all.row (get_or r.steps at blank).edge.to (node_within rows first r at lt h)

pub under_less : (rows : List (List Edge)) (first : Edge) (r : Reached) (at : ℕ) (row : List Edge) (next : Reached) → RowsWithin (length rows) rows →
    at < length r.steps → row ≡ get_or rows (get_or r.steps at blank).edge.to [] → next ≡ gone_along at row r → Under rows first r at →
    unseen next.seen + (length next.steps - (at + 1)) < unseen r.seen + (length r.steps - at)
under_less rows first r at row next within lt is gone h =
    subst (λ it. unseen it.seen + (length it.steps - (at + 1)) < unseen r.seen + (length r.steps - at)) (sym gone)
    (let more = grows_along at row r in
    let same = counted_along at row r (under_row rows first r at row within lt is h) in
    omega (arith, more, same, lt))

-- a node at which no step so far ends, nor the next
pub no_end_more : (node : ℕ) (steps : List Step) (k : ℕ) (d : Step) → k < length steps → (Ends node (take k steps) → ⊥) →
    ((get_or steps k d).edge.to ≡ node → ⊥) → Ends node (take (k + 1) steps) → ⊥
no_end_more node steps k d lt none other h =
    ⊎_elim none other (ends_cases node (take k steps) (get_or steps k d) (subst (Ends node) (take_more steps k d lt) h))

-- a walk from the end of the first step, one step further back
pub back_more : (edges : List Edge) (first : Edge) (steps : List Step) (at last : ℕ) (walk longer : List Edge) (d e : Step) → 0 < at →
    at < length steps →
    Earlier steps → Tree edges first steps → longer ≡ walk ++ (get_or steps at e).edge ∷ [] →
    EdgeWalk edges (get_or steps at d).edge.to (reverse walk) last → EdgeWalk edges (get_or steps (get_or steps at e).before d).edge.to (reverse longer) last
back_more edges first steps at last walk longer d e pos lt earlier tree more h =
    subst (λ it. EdgeWalk edges (get_or steps (get_or steps at e).before d).edge.to it last) (sym turned) (
      tree.there at e pos lt,
      (tree.follows at e pos lt ∙ ap (λ s. s.edge.to) (get_or_default steps (get_or steps at e).before e d (let b = earlier at e pos lt in
          omega (arith, b, lt)))),
      subst (λ s. EdgeWalk edges s.edge.to (reverse walk) last) (get_or_default steps at d e lt) h,
    )
  where
    turned : reverse longer ≡ (get_or steps at e).edge ∷ reverse walk
    turned = ap reverse more ∙ reverse_push walk (get_or steps at e).edge
