-- What a depth-first search keeps, how it ends, and what its order tells.
use Rattle.std.proofs.Common.{◌≡◌, ℕ, zero, suc, ◌+◌, ◌-◌, ◌*◌, ◌<◌, ◌≤◌, Bool, true, false, cond, Option, Some, None, List, [], ◌∷◌, ◌++◌, ◌⊎◌, inl, inr}
use Rattle.std.proofs.Common.{⊎_elim, length, get_or, set, reverse, refl, sym, ap, subst, ◌∙◌, arith}
use Rattle.std.specs.Prelude.{All, Contains, nat_eq, replicate, slice_get, sum_by}
use Rattle.std.proofs.lemmas.Bool.{cases_lt}
use Rattle.std.proofs.lemmas.Bool.Decides.{nat_tests}
use Rattle.std.proofs.lemmas.List.{length-replicate, length-set, length_push, reverse-append}
use Rattle.std.proofs.lemmas.List.Elements.{All-append, All-cons, All-head, All-nil, All-pop, All-push, All-tail}
use Rattle.std.proofs.lemmas.List.Folds.{sum_by-replicate}
use Rattle.std.proofs.lemmas.List.Sums.{sum_by-cons, sum_by_push}
use Rattle.std.proofs.lemmas.Option.{get_or_from_slice_get, slice_get_cases, slice_get_within}
use Rattle.bl_tree.specs.declared.graph.Edge.{Edge}
use Rattle.bl_cause.specs.declared.finishing.Frame.{Frame}
use Rattle.bl_cause.specs.inner.Lists.{In, Rows, RowsWithin, Within, edges_from, unseen}
use Rattle.bl_cause.specs.inner.Orders.{Looked, Nested, Open, Reaches, SearchInvariant, SearchState, Sorted, advanced, after_entering, at_edge, entered_unless}
use Rattle.bl_cause.proofs.ListLemmas.{filter_keeps, reverse_push}
use Rattle.bl_cause.proofs.RowLemmas.{row_within}
use Rattle.bl_cause.proofs.StepLemmas.{none_seen, row_from, row_there, seen_cases, seen_kept, seen_new, unseen_set}
use Rattle.bl_cause.proofs.WalkLemmas.{reaches_edge, reaches_itself, reaches_then}

-- the state with a frame put on top
abbrev pub with_frame : SearchState → Frame → SearchState
with_frame s frame = record { seen = s.seen; stack = s.stack ++ frame ∷ []; order = s.order }

-- the frame with one more edge looked at
abbrev pub next_of : Frame → Frame
next_of frame = record { node = frame.node; next = frame.next + 1 }

-- a frame of a node of which no edge was looked at
abbrev pub fresh : ℕ → Frame
fresh node = record { node = node; next = 0 }

module _ (edges : List Edge) (rows : List (List Edge)) where
  -- ---- the edges that were looked at

  looked_kept : (seen : List Bool) (at : ℕ) (frame : Frame) → Looked rows seen frame → Looked rows (set seen at true) frame
  looked_kept seen at frame h k d lt in' = seen_kept seen at (get_or (get_or rows frame.node []) k d).to (h k d lt in')

  looked_fresh : (seen : List Bool) (node : ℕ) → Looked rows seen (fresh node)
  looked_fresh seen node k d lt in' = absurd (omega arith)

  looked_next : (seen : List Bool) (frame : Frame) (edge : Edge) → slice_get (get_or rows frame.node []) frame.next ≡ Some edge →
      get_or seen edge.to false ≡ true → Looked rows seen frame → Looked rows seen (next_of frame)
  looked_next seen frame edge is met h k d lt in' =
      ⊎_elim
      (λ (old : k < frame.next). h k d old in')
      (λ (new : frame.next ≤ k).
      let same : frame.next ≡ k = omega arith in
      let at = get_or_from_slice_get (get_or rows frame.node []) frame.next edge d is in
      subst (λ n. get_or seen (get_or (get_or rows frame.node []) n d).to false ≡ true) same
      (subst (λ it. get_or seen it.to false ≡ true) (sym at) met))
      (cases_lt k frame.next)

  nested_kept : (seen : List Bool) (at : ℕ) (stack : List Frame) → Nested edges rows seen stack → Nested edges rows (set seen at true) stack
  nested_kept seen at [] h = tt
  nested_kept seen at (frame ∷ stack) h = (h.0, looked_kept seen at frame h.1, nested_kept seen at stack h.2)

  -- ---- a node is entered

  pub keeps_entered : (s : SearchState) (node : ℕ) → node < length s.seen → SearchInvariant edges rows s →
      ((outer : ℕ) → Open outer (reverse s.stack) → Reaches edges outer node) → SearchInvariant edges rows (after_entering node s)
  keeps_entered s node lt h reach =
      elim (get_or s.seen node false) as (λ b. get_or s.seen node false ≡ b → SearchInvariant edges rows (entered_unless b node s)) [
        | true ↦ λ is. h
        | false ↦ λ is. record {
          nested = subst (Nested edges rows (set s.seen node true)) (sym (reverse_push s.stack (fresh node)))
              (reach, looked_fresh (set s.seen node true) node, nested_kept s.seen node (reverse s.stack) h.nested);
          sorted = h.sorted;
          held = λ at yes.
              ⊎_elim
              (λ (old : get_or s.seen at false ≡ true).
              ⊎_elim
              (λ (done : In at (reverse s.order)). inl done)
              (λ (open' : Open at (reverse s.stack)). inr (subst (Open at) (sym (reverse_push s.stack (fresh node))) (inr open')))
              (h.held at old))
              (λ (new : node ≡ at). inr (subst (Open at) (sym (reverse_push s.stack (fresh node))) (inl new)))
              (seen_cases s.seen node at yes);
          counted =
              (let c = h.counted in
              let one = unseen_set s.seen node lt is in
              let more = length_push s.stack (fresh node) in
              let same = length-set s.seen node true in
              omega (arith, c, one, more, same));
        }
      ] refl

  -- ---- a frame is advanced

  -- every node is open or done that an edge of a node ends at of which all edges were looked at
  keeps_done : (s : SearchState) (frame : Frame) → SearchInvariant edges rows (with_frame s frame) → get_or rows frame.node [] ≡ edges_from edges frame.node →
      length (get_or rows frame.node []) ≤ frame.next → SearchInvariant edges rows (at_edge frame None s)
  keeps_done s frame h row le =
      let nested : Nested edges rows s.seen (frame ∷ reverse s.stack) = subst (Nested edges rows s.seen) (reverse_push s.stack frame) h.nested in
      let held : (node : ℕ) → get_or s.seen node false ≡ true → In node (reverse s.order) ⊎ Open node (frame ∷ reverse s.stack) =
      (λ node yes. subst (λ stack. In node (reverse s.order) ⊎ Open node stack) (reverse_push s.stack frame) (h.held node yes)) in
      record {
        nested = nested.2;
        sorted = subst (Sorted edges) (sym (reverse_push s.order frame.node)) (
          (λ edge there from.
              let inside : Contains (get_or rows frame.node []) edge =
              subst (λ it. Contains it edge) (sym row) (filter_keeps (λ it.
              nat_eq it.from frame.node) edges edge there (same_test edge.from frame.node from)) in
              ⊎_elim
              (λ (done : In edge.to (reverse s.order)). inl done)
              (λ (open' : Open edge.to (frame ∷ reverse s.stack)).
              ⊎_elim
              (λ (is : frame.node ≡ edge.to). inr (subst (λ n. Reaches edges n frame.node) is (reaches_itself edges frame.node)))
              (λ (outer : Open edge.to (reverse s.stack)). inr (nested.0 edge.to outer))
              open')
              (held edge.to
              (looked_all s.seen frame edge nested.1 le inside))),
          h.sorted,
        );
        held = λ node yes.
            ⊎_elim
            (λ (done : In node (reverse s.order)). inl (subst (In node) (sym (reverse_push s.order frame.node)) (inr done)))
            (λ (open' : Open node (frame ∷ reverse s.stack)).
            ⊎_elim
            (λ (is : frame.node ≡ node). inl (subst (In node) (sym (reverse_push s.order frame.node)) (inl is)))
            (λ (outer : Open node (reverse s.stack)). inr outer)
            open')
            (held node yes);
        counted =
            (let c = h.counted in
            let one = length_push s.order frame.node in
            let two = length_push s.stack frame in
            omega (arith, c, one, two));
      }
    where
      same_test : (a b : ℕ) → a ≡ b → nat_eq a b ≡ true
      same_test a b is = grind (arith, nat_tests)

      looked_all : (seen : List Bool) (frame : Frame) (edge : Edge) → Looked rows seen frame → length (get_or rows frame.node []) ≤ frame.next →
          Contains (get_or rows frame.node []) edge → get_or seen edge.to false ≡ true
      looked_all seen frame edge h le inside =
          let lt = inside.1 in
          subst (λ it. get_or seen it.to false ≡ true) inside.2 (h inside.0 edge (omega (arith, lt, le)) lt)

  -- the next edge is looked at: its end was seen before, or is entered
  keeps_looks : (s : SearchState) (frame : Frame) (edge : Edge) → SearchInvariant edges rows (with_frame s frame) →
      get_or rows frame.node [] ≡ edges_from edges frame.node →
      slice_get (get_or rows frame.node []) frame.next ≡ Some edge → edge.to < length s.seen → SearchInvariant edges rows (at_edge frame (Some edge) s)
  keeps_looks s frame edge h row is lt =
      elim (get_or s.seen edge.to false) as (λ b. get_or s.seen edge.to false ≡ b →
      SearchInvariant edges rows (entered_unless b edge.to (with_frame s (next_of frame)))) [
        | true ↦ λ yes. record {
          nested = subst (Nested edges rows s.seen) (sym (reverse_push s.stack (next_of frame)))
              (nested.0, looked_next s.seen frame edge is yes nested.1, nested.2);
          sorted = h.sorted;
          held = λ node seen. subst (λ stack. In node (reverse s.order) ⊎ Open node stack) (sym (reverse_push s.stack (next_of frame))) (held node seen);
          counted = (let c = h.counted in let two = length_push s.stack frame in let three = length_push s.stack (next_of frame) in
              omega (arith, c, two, three));
        }
        | false ↦ λ no. record {
          nested = subst (Nested edges rows (set s.seen edge.to true)) (sym turned) (
            (λ outer open'.
                ⊎_elim
                (λ (this : frame.node ≡ outer). subst (λ n. Reaches edges n edge.to) this leads)
                (λ (further : Open outer (reverse s.stack)). reaches_then edges outer frame.node edge.to (nested.0 outer further) leads)
                open'),
            looked_fresh (set s.seen edge.to true) edge.to,
            (
              nested.0,
              looked_next (set s.seen edge.to true) frame edge is (seen_new s.seen edge.to lt) (looked_kept s.seen edge.to frame nested.1),
              nested_kept s.seen edge.to (reverse s.stack) nested.2,
            ),
          );
          sorted = h.sorted;
          held = λ node seen.
              subst (λ stack. In node (reverse s.order) ⊎ Open node stack) (sym turned)
              (⊎_elim
              (λ (old : get_or s.seen node false ≡ true).
              ⊎_elim (λ (done : In node (reverse s.order)). inl done) (λ (open' : Open node (frame ∷ reverse s.stack)). inr (inr open')) (held node old))
              (λ (new : edge.to ≡ node). inr (inl new))
              (seen_cases s.seen edge.to node seen));
          counted =
              (let c = h.counted in
              let one = unseen_set s.seen edge.to lt no in
              let two = length_push s.stack frame in
              let three = length_push s.stack (next_of frame) in
              let four = length_push (s.stack ++ next_of frame ∷ []) (fresh edge.to) in
              let same = length-set s.seen edge.to true in
              omega (arith, c, one, two, three, four, same));
        }
      ] refl
    where
      nested : Nested edges rows s.seen (frame ∷ reverse s.stack)
      nested = subst (Nested edges rows s.seen) (reverse_push s.stack frame) h.nested

      held : (node : ℕ) → get_or s.seen node false ≡ true → In node (reverse s.order) ⊎ Open node (frame ∷ reverse s.stack)
      held node met = subst (λ stack. In node (reverse s.order) ⊎ Open node stack) (reverse_push s.stack frame) (h.held node met)

      turned : reverse ((s.stack ++ next_of frame ∷ []) ++ fresh edge.to ∷ []) ≡ fresh edge.to ∷ (next_of frame ∷ reverse s.stack)
      turned = reverse_push (s.stack ++ next_of frame ∷ []) (fresh edge.to) ∙ ap (λ rest. fresh edge.to ∷ rest) (reverse_push s.stack (next_of frame))

      inside : Contains (edges_from edges frame.node) edge
      inside = subst (λ it. Contains it edge) row (
        frame.next,
        slice_get_within (get_or rows frame.node []) frame.next edge is,
        get_or_from_slice_get
            (get_or rows frame.node []) frame.next edge edge is,
      )

      leads : Reaches edges frame.node edge.to
      leads = subst (λ n. Reaches edges n edge.to) (row_from edges frame.node edge inside) (reaches_edge edges edge (row_there edges frame.node edge inside))

  pub keeps_advanced : (s : SearchState) (frame : Frame) → SearchInvariant edges rows (with_frame s frame) → get_or rows frame.node [] ≡ edges_from edges frame.node →
      Within (length s.seen) (get_or rows frame.node []) → SearchInvariant edges rows (advanced frame (get_or rows frame.node []) s)
  keeps_advanced s frame h row within =
      ⊎_elim
      (λ (some : (x : Edge) × (frame.next < length (get_or rows frame.node [])) × (slice_get (get_or rows frame.node []) frame.next ≡ Some x) ×
      (get_or (get_or rows frame.node []) frame.next x ≡ x)).
      let end = within frame.next some.0 some.1 in
      subst (λ found. SearchInvariant edges rows (at_edge frame found s)) (sym some.2)
      (keeps_looks s frame some.0 h row some.2 (subst (λ it. it.to < length s.seen) some.3 end.1)))
      (λ (none : (length (get_or rows frame.node []) ≤ frame.next) × (slice_get (get_or rows frame.node []) frame.next ≡ None)).
      subst (λ found. SearchInvariant edges rows (at_edge frame found s)) (sym none.1) (keeps_done s frame h row none.0))
      (slice_get_cases (get_or rows frame.node []) frame.next).1

-- ---- what stays as it is

entered_length : (node : ℕ) (s : SearchState) → length (after_entering node s).seen ≡ length s.seen
entered_length node s = by (get_or s.seen node false)
  where
    by : (b : Bool) → length (entered_unless b node s).seen ≡ length s.seen
    by true = refl
    by false = length-set s.seen node true

pub advanced_length : (frame : Frame) (row : List Edge) (s : SearchState) → length (advanced frame row s).seen ≡ length s.seen
advanced_length frame row s = by (slice_get row frame.next)
  where
    by : (found : Option Edge) → length (at_edge frame found s).seen ≡ length s.seen
    by None = refl
    by (Some edge) = entered_length edge.to (with_frame s (next_of frame))

entered_seen : (node : ℕ) (s : SearchState) (at : ℕ) → get_or s.seen at false ≡ true → get_or (after_entering node s).seen at false ≡ true
entered_seen node s at good = by (get_or s.seen node false)
  where
    by : (b : Bool) → get_or (entered_unless b node s).seen at false ≡ true
    by true = good
    by false = seen_kept s.seen node at good

pub advanced_seen : (frame : Frame) (row : List Edge) (s : SearchState) (at : ℕ) → get_or s.seen at false ≡ true →
    get_or (advanced frame row s).seen at false ≡ true
advanced_seen frame row s at good = by (slice_get row frame.next)
  where
    by : (found : Option Edge) → get_or (at_edge frame found s).seen at false ≡ true
    by None = good
    by (Some edge) = entered_seen edge.to (with_frame s (next_of frame)) at good

-- the nodes of the frames are nodes
abbrev pub FramesWithin : ℕ → List Frame → Type 0
FramesWithin count stack = All (λ frame. frame.node < count) stack

frames_push : (count : ℕ) (stack : List Frame) (frame : Frame) → FramesWithin count stack → frame.node < count →
    FramesWithin count (stack ++ frame ∷ [])
frames_push count stack frame all lt = All-push (λ frame. frame.node < count) stack frame all lt

entered_frames : (count node : ℕ) (s : SearchState) → node < count → FramesWithin count s.stack → FramesWithin count (after_entering node s).stack
entered_frames count node s lt all = by (get_or s.seen node false)
  where
    by : (b : Bool) → FramesWithin count (entered_unless b node s).stack
    by true = all
    by false = frames_push count s.stack (fresh node) all lt

pub advanced_frames : (count : ℕ) (frame : Frame) (row : List Edge) (s : SearchState) → Within count row → frame.node < count → FramesWithin count s.stack →
    FramesWithin count (advanced frame row s).stack
advanced_frames count frame row s within lt all = by (slice_get row frame.next) refl
  where
    by : (found : Option Edge) → slice_get row frame.next ≡ found → FramesWithin count (at_edge frame found s).stack
    by None is = all
    by (Some edge) is =
        let end = within frame.next edge (slice_get_within row frame.next edge is) in
        let to : edge.to < count = subst (λ it. it.to < count) (get_or_from_slice_get row frame.next edge edge is) end.1 in
        entered_frames count edge.to (with_frame s (next_of frame)) to (frames_push count s.stack (next_of frame) all lt)

entered_order : (node : ℕ) (s : SearchState) → (after_entering node s).order ≡ s.order
entered_order node s = by (get_or s.seen node false)
  where
    by : (b : Bool) → (entered_unless b node s).order ≡ s.order
    by true = refl
    by false = refl

pub advanced_order : (count : ℕ) (frame : Frame) (row : List Edge) (s : SearchState) → frame.node < count → All (λ node. node < count) s.order →
    All (λ node. node < count) (advanced frame row s).order
advanced_order count frame row s lt all = by (slice_get row frame.next)
  where
    by : (found : Option Edge) → All (λ node. node < count) (at_edge frame found s).order
    by None = All-push (λ node. node < count) s.order frame.node all lt
    by (Some edge) = subst (λ order. All (λ node. node < count) order) (sym (entered_order edge.to (with_frame s (next_of frame)))) all

-- ---- the search ends

-- how many edges the rows have together
abbrev pub total : List (List Edge) → ℕ
total rows = sum_by (λ row. length row) rows

-- what a frame has still to do
abbrev pub left_of : List (List Edge) → Frame → ℕ
left_of rows frame = 1 + (length (get_or rows frame.node []) - frame.next)

-- what a search has still to do
abbrev pub work : List (List Edge) → SearchState → ℕ
work rows s = unseen s.seen * (2 + total rows) + sum_by (left_of rows) s.stack

row_in_total : (rows : List (List Edge)) (node : ℕ) → length (get_or rows node []) ≤ total rows
row_in_total [] node = omega arith
row_in_total (row ∷ rows) zero = let e = sum_by-cons (λ row. length row) row rows in omega (arith, e)
row_in_total (row ∷ rows) (suc node) = let rest = row_in_total rows node in let e = sum_by-cons (λ row. length row) row rows in omega (arith, rest, e)

-- a product of a number that falls by one
times_less : (u v m : ℕ) → u + 1 ≡ v → u * m + m ≡ v * m
times_less u v m is = let e = ap (λ n. n * m) is in omega (arith, e)

advanced_done : (rows : List (List Edge)) (frame : Frame) (s : SearchState) → work rows (at_edge frame None s) < work rows (with_frame s frame)
advanced_done rows frame s = let one = sum_by_push (left_of rows) s.stack frame in omega (arith, one)

advanced_looks : (rows : List (List Edge)) (frame : Frame) (s : SearchState) (edge : Edge) → frame.next < length (get_or rows frame.node []) →
    edge.to < length s.seen → work rows (at_edge frame (Some edge) s) < work rows (with_frame s frame)
advanced_looks rows frame s edge more lt =
    elim (get_or s.seen edge.to false) as (λ b. get_or s.seen edge.to false ≡ b →
    work rows (entered_unless b edge.to (with_frame s (next_of frame))) < work rows (with_frame s frame)) [
      | true ↦ λ is.
          let one = sum_by_push (left_of rows) s.stack frame in
          let two = sum_by_push (left_of rows) s.stack (next_of frame) in
          omega (arith, one, two, more)
      | false ↦ λ is.
          let one = sum_by_push (left_of rows) s.stack frame in
          let two = sum_by_push (left_of rows) s.stack (next_of frame) in
          let three = sum_by_push (left_of rows) (s.stack ++ next_of frame ∷ []) (fresh edge.to) in
          let fall = times_less (unseen (set s.seen edge.to true)) (unseen s.seen) (2 + total rows) (unseen_set s.seen edge.to lt is) in
          let row = row_in_total rows edge.to in
          less_work (unseen (set s.seen edge.to true) * (2 + total rows)) (unseen s.seen * (2 + total rows)) (total rows)
          (length (get_or rows frame.node []) - frame.next) (length (get_or rows frame.node []) - (frame.next + 1)) (length (get_or rows edge.to []))
          (sum_by (left_of rows) s.stack) (sum_by (left_of rows) (s.stack ++ next_of frame ∷ []))
          (sum_by (left_of rows) ((s.stack ++ next_of frame ∷ []) ++ fresh edge.to ∷ [])) (sum_by (left_of rows) (s.stack ++ frame ∷ []))
          fall (omega (arith, more)) row two three one
    ] refl
  where
    less_work : (a b t p q r x y z w : ℕ) → a + (2 + t) ≡ b → q < p → r ≤ t → y ≡ x + (1 + q) → z ≡ y + (1 + (r - 0)) →
        w ≡ x + (1 + p) → a + z < b + w
    less_work a b t p q r x y z w fall less row two three one = omega arith

pub advanced_work : (rows : List (List Edge)) (frame : Frame) (s : SearchState) → Within (length s.seen) (get_or rows frame.node []) →
    work rows (advanced frame (get_or rows frame.node []) s) < work rows (with_frame s frame)
advanced_work rows frame s within = by (slice_get (get_or rows frame.node []) frame.next) refl
  where
    by : (found : Option Edge) → slice_get (get_or rows frame.node []) frame.next ≡ found →
        work rows (at_edge frame found s) < work rows (with_frame s frame)
    by None is = advanced_done rows frame s
    by (Some edge) is =
        let lt = slice_get_within (get_or rows frame.node []) frame.next edge is in
        let end = within frame.next edge lt in
        advanced_looks rows frame s edge lt
        (subst (λ it. it.to < length s.seen) (get_or_from_slice_get (get_or rows frame.node []) frame.next edge edge is) end.1)

-- ---- at the beginning and at the end

pub unseen_none : (count : ℕ) → unseen (replicate count false) ≡ count
unseen_none count = let e = sum_by-replicate (λ one. cond one 0 1) count false in omega (arith, e)

pub keeps_first : (edges : List Edge) (rows : List (List Edge)) (count : ℕ) →
    SearchInvariant edges rows (record { seen = replicate count false; stack = []; order = [] })
keeps_first edges rows count = record {
  nested = tt;
  sorted = tt;
  held = λ node yes. absurd (none_seen count node yes);
  counted = (let one = unseen_none count in let two = length-replicate count false in omega (arith, one, two));
}

-- without frames a node that was seen is done
pub all_done : (edges : List Edge) (rows : List (List Edge)) (s : SearchState) → s.stack ≡ [] → SearchInvariant edges rows s → (node : ℕ) →
    get_or s.seen node false ≡ true → In node (reverse s.order)
all_done edges rows s empty h node met =
    ⊎_elim (λ (done : In node (reverse s.order)). done)
    (λ (open' : Open node (reverse s.stack)). absurd (subst (λ stack. Open node (reverse stack)) empty open'))
    (h.held node met)

-- ---- one frame after another

-- what is kept while a search goes on from a state
pub record Going (rows : List (List Edge)) (before s : SearchState) : Type 0 where
  pub length_stays : length s.seen ≡ length before.seen
  pub frames : FramesWithin (length before.seen) s.stack
  pub order : All (λ node. node < length before.seen) s.order
  pub seen : (node : ℕ) → get_or before.seen node false ≡ true → get_or s.seen node false ≡ true
  pub keeps : (edges : List Edge) → Rows (edges_from edges) (length before.seen) rows → SearchInvariant edges rows before → SearchInvariant edges rows s

pub going_first : (rows : List (List Edge)) (s : SearchState) → FramesWithin (length s.seen) s.stack → All (λ node. node < length s.seen) s.order →
    Going rows s s
going_first rows s frames order = record {
  length_stays = refl;
  frames = frames;
  order = order;
  seen = λ node met. met;
  keeps = λ edges all keep. keep;
}

-- the state with the top frame taken off
abbrev pub popped : SearchState → List Frame → SearchState
popped s rest = record { seen = s.seen; stack = rest; order = s.order }

whole_again : (s : SearchState) (rest : List Frame) (frame : Frame) → s.stack ≡ rest ++ frame ∷ [] → s ≡ with_frame (popped s rest) frame
whole_again s rest frame is i = record { seen = s.seen; stack = is i; order = s.order }

pub frame_within : (rows : List (List Edge)) (before s : SearchState) (rest : List Frame) (frame : Frame) → s.stack ≡ rest ++ frame ∷ [] →
    Going rows before s →
    frame.node < length before.seen
frame_within rows before s rest frame is h = (All-pop (λ frame. frame.node < length before.seen) s.stack rest (Some frame) is h.frames).1

pub going_next : (rows : List (List Edge)) (before s next : SearchState) (rest : List Frame) (frame : Frame) (row : List Edge) →
    RowsWithin (length before.seen) rows →
    s.stack ≡ rest ++ frame ∷ [] → row ≡ get_or rows frame.node [] → next ≡ advanced frame row (popped s rest) → Going rows before s →
    Going rows before next
going_next rows before s next rest frame row within is same advance h = subst (Going rows before) (sym (advance ∙ ap (λ it.
    advanced frame it (popped s rest)) same)) (record {
      length_stays = advanced_length frame (get_or rows frame.node []) (popped s rest) ∙ h.length_stays;
      frames = advanced_frames (length before.seen) frame (get_or rows frame.node []) (popped s rest) here lt
          (All-pop (λ frame. frame.node < length before.seen) s.stack rest (Some frame) is h.frames).0;
      order = advanced_order (length before.seen) frame (get_or rows frame.node []) (popped s rest) lt h.order;
      seen = λ node met. advanced_seen frame (get_or rows frame.node []) (popped s rest) node (h.seen node met);
      keeps = λ edges all keep.
          keeps_advanced edges rows (popped s rest) frame (subst (SearchInvariant edges rows) (whole_again s rest frame is) (h.keeps edges all keep))
          (all.row frame.node lt) (subst (λ n. Within n (get_or rows frame.node [])) (sym h.length_stays) here);
    })
  where
    lt : frame.node < length before.seen
    lt = frame_within rows before s rest frame is h

    here : Within (length before.seen) (get_or rows frame.node [])
    here = row_within (length before.seen) rows frame.node within lt

pub going_less : (rows : List (List Edge)) (before s next : SearchState) (rest : List Frame) (frame : Frame) (row : List Edge) →
    RowsWithin (length before.seen) rows →
    s.stack ≡ rest ++ frame ∷ [] → row ≡ get_or rows frame.node [] → next ≡ advanced frame row (popped s rest) → Going rows before s →
    work rows next < work rows s
going_less rows before s next rest frame row within is same advance h =
    let lt = frame_within rows before s rest frame is h in
    let here = row_within (length before.seen) rows frame.node within lt in
    let less = advanced_work rows frame (popped s rest) (subst (λ n. Within n (get_or rows frame.node [])) (sym h.length_stays) here) in
    let e = ap (work rows) (advance ∙ ap (λ it. advanced frame it (popped s rest)) same) in
    let f = ap (work rows) (whole_again s rest frame is) in
    omega (arith, less, e, f)

-- ---- one node after another

-- what is kept when the search was done from so many nodes
pub record Searched (rows : List (List Edge)) (k : ℕ) (s : SearchState) : Type 0 where
  pub length_stays : length s.seen ≡ length rows
  pub empty : s.stack ≡ []
  pub nodes : All (λ node. node < length rows) s.order
  pub seen : (node : ℕ) → node < k → get_or s.seen node false ≡ true
  pub keeps : (edges : List Edge) → Rows (edges_from edges) (length rows) rows → SearchInvariant edges rows s

pub searched_first : (rows : List (List Edge)) → Searched rows 0 (record { seen = replicate (length rows) false; stack = []; order = [] })
searched_first rows = record {
  length_stays = length-replicate (length rows) false;
  empty = refl;
  nodes = All-nil (λ node. node < length rows);
  seen = λ node lt. absurd (omega arith);
  keeps = λ edges all. keeps_first edges rows (length rows);
}

-- a node was entered
pub entered_going : (rows : List (List Edge)) (k : ℕ) (s next : SearchState) → k < length rows → next ≡ after_entering k s → Searched rows k s →
    (length next.seen ≡ length rows) × FramesWithin (length next.seen) next.stack × All (λ node. node < length next.seen) next.order
entered_going rows k s next lt is h = subst (λ it. (length it.seen ≡ length rows) × FramesWithin (length it.seen) it.stack × All (λ node.
    node < length it.seen) it.order) (sym is) (
      same,
      subst (λ n. FramesWithin n (after_entering k s).stack) (sym same)
          (entered_frames (length rows) k s lt (subst (FramesWithin (length rows)) (sym h.empty) (All-nil (λ frame. frame.node < length rows)))),
      subst (λ n. All (λ node. node < n) (after_entering k s).order) (sym same) (subst (λ order. All (λ node.
          node < length rows) order) (sym (entered_order k s)) h.nodes),
    )
  where
    same : length (after_entering k s).seen ≡ length rows
    same = entered_length k s ∙ h.length_stays

entered_new : (node : ℕ) (s : SearchState) → node < length s.seen → get_or (after_entering node s).seen node false ≡ true
entered_new node s lt = by (get_or s.seen node false) refl
  where
    by : (b : Bool) → get_or s.seen node false ≡ b → get_or (entered_unless b node s).seen node false ≡ true
    by true is = is
    by false is = seen_new s.seen node lt

pub searched_next : (rows : List (List Edge)) (k : ℕ) (s next last : SearchState) → k < length rows → next ≡ after_entering k s →
    length last.seen ≡ length next.seen →
    last.stack ≡ [] → All (λ node. node < length last.seen) last.order →
    ((node : ℕ) → get_or next.seen node false ≡ true → get_or last.seen node false ≡ true) →
    ((edges : List Edge) → Rows (edges_from edges) (length next.seen) rows → SearchInvariant edges rows next → SearchInvariant edges rows last) → Searched rows k s →
    Searched rows (k + 1) last
searched_next rows k s next last lt is stays empty order seen keeps h = record {
  length_stays = same;
  empty = empty;
  nodes = subst (λ n. All (λ node. node < n) last.order) same order;
  seen = λ node below.
      ⊎_elim
      (λ (old : node < k). seen node (subst (λ it. get_or it.seen node false ≡ true) (sym is) (entered_seen k s node (h.seen node old))))
      (λ (new : k ≤ node).
      let this : k ≡ node = omega arith in
      seen node (subst (λ n. get_or next.seen n false ≡ true) this (subst (λ it. get_or it.seen k false ≡ true) (sym is) (entered_new k s inside))))
      (cases_lt node k);
  keeps = λ edges all.
      keeps edges (subst (λ n. Rows (edges_from edges) n rows) (sym whole) all)
      (subst (SearchInvariant edges rows) (sym is)
      (keeps_entered edges rows s k inside (h.keeps edges all)
      (λ outer open'. absurd (subst (λ stack. Open outer (reverse stack)) h.empty open'))));
}
  where
    whole : length next.seen ≡ length rows
    whole = ap (λ it. length it.seen) is ∙ entered_length k s ∙ h.length_stays

    same : length last.seen ≡ length rows
    same = stays ∙ whole

    inside : k < length s.seen
    inside = let e = h.length_stays in omega (arith, e, lt)

-- ---- the order in the end

pub record Done (edges : List Edge) (count : ℕ) (order : List ℕ) : Type 0 where
  pub sorted : Sorted edges (reverse order)
  pub all : (node : ℕ) → node < count → In node (reverse order)
  pub few : length order ≤ count

pub order_done : (edges : List Edge) (count : ℕ) (rows view : List (List Edge)) (s : SearchState) → Rows (edges_from edges) count rows → view ≡ rows →
    length s.seen ≡ length view → s.stack ≡ [] → ((node : ℕ) → node < length view → get_or s.seen node false ≡ true) →
    ((edges : List Edge) → Rows (edges_from edges) (length view) view → SearchInvariant edges view s) → Done edges count s.order
order_done edges count rows view s all same stays empty seen keeps = record {
  sorted = keep.sorted;
  all = λ node lt. all_done edges view s empty keep node (seen node (omega (arith, lt, size)));
  few = (let c = keep.counted in let none = ap length empty in omega (arith, c, stays, size, none));
}
  where
    size : length view ≡ count
    size = ap length same ∙ all.one_each

    keep : SearchInvariant edges view s
    keep = keeps edges (subst (λ n. Rows (edges_from edges) n view) (sym size) (subst (Rows (edges_from edges) count) (sym same) all))

pub all_reverse : (count : ℕ) (xs : List ℕ) → All (λ node. node < count) xs → All (λ node. node < count) (reverse xs)
all_reverse count [] h = h
all_reverse count (x ∷ xs) h =
    subst (λ it. All (λ node. node < count) it) (sym (reverse-append (x ∷ []) xs))
    (All-append (λ node. node < count) (reverse xs) (x ∷ []) (all_reverse count xs (All-tail (λ node. node < count) x xs h))
    (All-cons (λ node. node < count) x [] (All-head (λ node. node < count) x xs h) (All-nil (λ node. node < count))))
