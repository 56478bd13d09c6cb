-- Edges that were found, with more of them.
use Rattle.std.proofs.Common.{◌≡◌, ℕ, suc, ◌+◌, ◌<◌, Bool, true, false, cond, List, [], ◌∷◌, ◌++◌, length, take, Option, Some, refl, sym, ap, subst, ◌∙◌}
use Rattle.std.proofs.Common.{append-nil, arith, get_or, ◌-◌, ◌≤◌}
use Rattle.std.specs.BTreeMap.{is_at}
use Rattle.std.specs.Map.{lookup}
use Rattle.std.specs.Prelude.{slice_get}
use Rattle.std.proofs.lemmas.List.{take_more}
use Rattle.std.proofs.lemmas.Option.{slice_get-get_or, slice_get_read}
use Rattle.std.proofs.lemmas.List.Elements.{Contains-get_or}
use Rattle.bl_tree.specs.Order.{static_cmp}
use Rattle.bl_tree.specs.declared.graph.Edge.{Edge}
use Rattle.bl_tree.specs.declared.static_path.Static.{Static}
use Rattle.bl_graph.specs.declared.accesses.Access.{Access}
use Rattle.bl_graph.specs.declared.flow.Flow.{Flow}
use Rattle.bl_graph.specs.declared.flow.Span.{Span}
use Rattle.bl_graph.specs.declared.flow.notes.Notes.{Notes}
use Rattle.bl_graph.specs.Accesses.{links, writers_at, writers_of}
use Rattle.bl_graph.specs.Graph.{edge_between}
use Rattle.bl_graph.specs.inner.Found.{EndBy, links_at, links_in, links_met, links_to, swept, writes_at, writes_before, writes_in, writes_to}
use Rattle.bl_graph.specs.inner.Gains.{Gains}
use Rattle.bl_graph.specs.inner.Noted.{HasNotesAndFronts, Note, NotingAll, front, numbers_at, numbers_met, numbers_to, with_fronts}
use Rattle.bl_graph.proofs.AccessLemmas.{gains_none, gains_same, gains_then}
use Rattle.bl_graph.proofs.MemberLemmas.{each-append}
use Rattle.bl_graph.proofs.NoteLemmas.{all_noted_then, stands_writers, tables_kept}

-- ---- links

pub links-append : (to : ℕ) (xs ys : List ℕ) → links to (xs ++ ys) ≡ links to xs ++ links to ys
links-append to = each-append (λ from. edge_between from to true ∷ [])

pub links_met-append : (ns : List Note) (to : ℕ) (xs ys : List Static) → links_met ns to (xs ++ ys) ≡ links_met ns to xs ++ links_met ns to ys
links_met-append ns to = each-append (λ path. links to (numbers_met ns path))

pub links_both : (a b c : List Access) (to : ℕ) (xs ys : List ℕ) → Gains a b (links to xs) → Gains b c (links to ys) → Gains a c (links to (xs ++ ys))
links_both a b c to xs ys one two =
    gains_same a c (links to xs ++ links to ys) (links to (xs ++ ys)) (sym (links-append to xs ys)) (gains_then a b c (links to xs) (links to ys) one two)

-- from the nodes at one more front
pub fronts_step : (a b c : List Access) (to : ℕ) (ns : List Note) (path : Static) (k next : ℕ) → next ≡ suc k →
    Gains a b (links to (numbers_to ns path k)) → Gains b c (links to (numbers_at (front path k) ns)) →
    Gains a c (links to (numbers_to ns path next))
fronts_step a b c to ns path k next is one two =
    subst (λ n. Gains a c (links to (numbers_to ns path n))) (sym is) (links_both a b c to (numbers_to ns path k) (numbers_at (front path k) ns) one two)

pub fronts_end : (a b : List Access) (to : ℕ) (ns : List Note) (path : Static) (k n : ℕ) → k ≡ n →
    Gains a b (links to (numbers_to ns path k)) → Gains a b (links to (numbers_to ns path n))
fronts_end a b to ns path k n is = subst (λ n. Gains a b (links to (numbers_to ns path n))) is

-- from the nodes at a front
pub front_linked : (a b : List Access) (to : ℕ) (notes : Notes) (ns : List Note) (at path : Static) (found : Option ℕ) → at ≡ path →
    found ≡ lookup (is_at (static_cmp at)) notes.exactly → HasNotesAndFronts (writers_of a) notes ns →
    Gains a b (links to (writers_at (writers_of a) found)) → Gains a b (links to (numbers_at path ns))
front_linked a b to notes ns at path found same is tells =
    gains_same a b (links to (writers_at (writers_of a) found)) (links to (numbers_at path ns))
    (ap (λ p. links to (writers_at (writers_of a) p)) (is ∙ ap (λ p. lookup (is_at (static_cmp p)) notes.exactly) same)
    ∙ ap (links to) (stands_writers (writers_of a) (lookup (is_at (static_cmp path)) notes.exactly) (numbers_at path ns) (tells.exactly path)))

-- from the nodes below a path, and from those at its fronts
pub met_both : (a b c : List Access) (to : ℕ) (notes : Notes) (ns : List Note) (path : Static) (found : Option ℕ) →
    found ≡ lookup (is_at (static_cmp path)) notes.within → HasNotesAndFronts (writers_of a) notes ns →
    Gains a b (links to (writers_at (writers_of a) found)) →
    (HasNotesAndFronts (writers_of b) notes ns → Gains b c (links to (numbers_to ns path (length path.fields)))) →
    Gains a c (links to (numbers_met ns path))
met_both a b c to notes ns path found is tells one two =
    links_both a b c to (numbers_at path (with_fronts ns)) (numbers_to ns path (length path.fields))
    (gains_same a b (links to (writers_at (writers_of a) found)) (links to (numbers_at path (with_fronts ns)))
    (ap (λ p. links to (writers_at (writers_of a) p)) is
    ∙ ap (links to) (stands_writers (writers_of a) (lookup (is_at (static_cmp path)) notes.within) (numbers_at path (with_fronts ns)) (tells.within path)))
    one)
    (two (tables_kept a b (links to (writers_at (writers_of a) found)) one notes ns tells))

pub met_step : (a b c : List Access) (ns : List Note) (to : ℕ) (paths : List Static) (i : ℕ) (path : Static) → i < length paths →
    path ≡ get_or paths i path → Gains a b (links_met ns to (take i paths)) → Gains b c (links to (numbers_met ns path)) →
    Gains a c (links_met ns to (take (i + 1) paths))
met_step a b c ns to paths i path lt is one two =
    gains_same a c (links_met ns to (take i paths) ++ links to (numbers_met ns path)) (links_met ns to (take (i + 1) paths))
    (ap (λ rest. links_met ns to (take i paths) ++ rest) (sym (append-nil (links to (numbers_met ns path))))
    ∙ sym (links_met-append ns to (take i paths) (path ∷ []))
    ∙ ap (λ p. links_met ns to (take i paths ++ p ∷ [])) is
    ∙ ap (links_met ns to) (sym (take_more paths i path lt)))
    (gains_then a b c (links_met ns to (take i paths)) (links to (numbers_met ns path)) one two)

pub met_end : (a b : List Access) (ns : List Note) (to : ℕ) (paths all : List Static) → paths ≡ all →
    Gains a b (links_met ns to paths) → Gains a b (links_met ns to all)
met_end a b ns to paths all is = subst (λ ps. Gains a b (links_met ns to ps)) is

pub linked_where : (a b : List Access) (test : Bool) (edges : List Edge) → test ≡ true → Gains a b edges → Gains a b (cond test edges [])
linked_where a b test edges is = subst (λ t. Gains a b (cond t edges [])) (sym is)

pub linked_elsewhere : (a : List Access) (test : Bool) (edges : List Edge) → test ≡ false → Gains a a (cond test edges [])
linked_elsewhere a test edges is = subst (λ t. Gains a a (cond t edges [])) (sym is) (gains_none a)

-- ---- nodes of branches

-- the node at a number by its offset
abbrev At : List Flow → ℕ → ℕ → Flow → Type 0
At nodes from k flow = slice_get nodes (from + k) ≡ Some flow

node_at : (nodes : List Flow) (from i : ℕ) (flow : Flow) → from ≤ i → i < length nodes → flow ≡ get_or nodes i flow →
    At nodes from (i - from) flow
node_at nodes from i flow le lt is =
    let same : from + (i - from) ≡ i = omega arith in
    subst (λ j. slice_get nodes j ≡ Some flow) (sym same) (slice_get_read nodes (length nodes) i flow refl lt is)

pub nodes_step : (a b c : List Access) (ns : List Note) (nodes : List Flow) (deep : Bool) (from i : ℕ) (flow : Flow) → from ≤ i → i < length nodes →
    flow ≡ get_or nodes i flow → Gains a b (links_to ns nodes deep from (i - from)) → Gains b c (links_at ns deep i (Some flow)) →
    Gains a c (links_to ns nodes deep from (i + 1 - from))
nodes_step a b c ns nodes deep from i flow le lt is one two =
    let next : i + 1 - from ≡ suc (i - from) = omega arith in
    let same : from + (i - from) ≡ i = omega arith in
    subst (λ n. Gains a c (links_to ns nodes deep from n)) (sym next)
    (subst (λ found. Gains a c (links_to ns nodes deep from (i - from) ++ links_at ns deep (from + (i - from)) found))
    (sym (node_at nodes from i flow le lt is))
    (subst (λ j. Gains a c (links_to ns nodes deep from (i - from) ++ links_at ns deep j (Some flow))) (sym same)
    (gains_then a b c (links_to ns nodes deep from (i - from)) (links_at ns deep i (Some flow)) one two)))

pub nodes_end : (a b : List Access) (ns : List Note) (nodes : List Flow) (deep : Bool) (from k n : ℕ) → k ≡ n →
    Gains a b (links_to ns nodes deep from k) → Gains a b (links_to ns nodes deep from n)
nodes_end a b ns nodes deep from k n is = subst (λ n. Gains a b (links_to ns nodes deep from n)) is

pub noted_step : (a b c : List Access) (old between new : Notes) (nodes : List Flow) (deep : Bool) (from i : ℕ) (flow : Flow) → from ≤ i →
    i < length nodes → flow ≡ get_or nodes i flow → NotingAll a b old between (writes_to nodes deep from (i - from)) →
    NotingAll b c between new (writes_at deep i (Some flow)) → NotingAll a c old new (writes_to nodes deep from (i + 1 - from))
noted_step a b c old between new nodes deep from i flow le lt is one two =
    let next : i + 1 - from ≡ suc (i - from) = omega arith in
    let same : from + (i - from) ≡ i = omega arith in
    subst (λ n. NotingAll a c old new (writes_to nodes deep from n)) (sym next)
    (subst (λ found. NotingAll a c old new (writes_to nodes deep from (i - from) ++ writes_at deep (from + (i - from)) found))
    (sym (node_at nodes from i flow le lt is))
    (subst (λ j. NotingAll a c old new (writes_to nodes deep from (i - from) ++ writes_at deep j (Some flow))) (sym same)
    (all_noted_then a b c old between new (writes_to nodes deep from (i - from)) (writes_at deep i (Some flow)) one two)))

pub noted_end : (a b : List Access) (old new : Notes) (nodes : List Flow) (deep : Bool) (from k n : ℕ) → k ≡ n →
    NotingAll a b old new (writes_to nodes deep from k) → NotingAll a b old new (writes_to nodes deep from n)
noted_end a b old new nodes deep from k n is = subst (λ n. NotingAll a b old new (writes_to nodes deep from n)) is

-- one more branch
pub branch_found : (a b c d : List Access) (old new : Notes) (nodes : List Flow) (deep : Bool) (branches : List Span) (k : ℕ) (by : Span) →
    k < length branches → Gains a b (swept nodes deep branches k) →
    Gains b c (links_to (writes_before nodes deep branches k) nodes deep (get_or branches k by).first
    ((get_or branches k by).end - (get_or branches k by).first)) → Gains c d [] → Gains a d (swept nodes deep branches (k + 1))
branch_found a b c d old new nodes deep branches k by lt one two three =
    let next : k + 1 ≡ suc k = omega arith in
    let span = get_or branches k by in
    let there : slice_get branches k ≡ Some span = slice_get-get_or branches k by lt in
    subst (λ n. Gains a d (swept nodes deep branches n)) (sym next)
    (subst (λ found. Gains a d (swept nodes deep branches k ++ links_in (writes_before nodes deep branches k) nodes deep found)) (sym there)
    (gains_then a b d (swept nodes deep branches k) (links_in (writes_before nodes deep branches k) nodes deep (Some span)) one
    (gains_same b d (links_in (writes_before nodes deep branches k) nodes deep (Some span) ++ [])
    (links_in (writes_before nodes deep branches k) nodes deep (Some span)) (append-nil _)
    (gains_then b c d (links_in (writes_before nodes deep branches k) nodes deep (Some span)) [] two three))))

pub branch_noted : (c d : List Access) (old new : Notes) (nodes : List Flow) (deep : Bool) (branches : List Span) (k : ℕ) (by : Span) →
    k < length branches → HasNotesAndFronts (writers_of c) old (writes_before nodes deep branches k) →
    NotingAll c d old new (writes_to nodes deep (get_or branches k by).first ((get_or branches k by).end - (get_or branches k by).first)) →
    HasNotesAndFronts (writers_of d) new (writes_before nodes deep branches (k + 1))
branch_noted c d old new nodes deep branches k by lt has more =
    let next : k + 1 ≡ suc k = omega arith in
    let span = get_or branches k by in
    let there : slice_get branches k ≡ Some span = slice_get-get_or branches k by lt in
    subst (λ n. HasNotesAndFronts (writers_of d) new (writes_before nodes deep branches n)) (sym next)
    (subst (λ found. HasNotesAndFronts (writers_of d) new (writes_before nodes deep branches k ++ writes_in nodes deep found)) (sym there)
    (more.keeps (writes_before nodes deep branches k) has))

pub swept_end : (a b : List Access) (nodes : List Flow) (deep : Bool) (branches : List Span) (k n : ℕ) → k ≡ n →
    Gains a b (swept nodes deep branches k) → Gains a b (swept nodes deep branches n)
swept_end a b nodes deep branches k n is = subst (λ n. Gains a b (swept nodes deep branches n)) is

pub ends_by : (branches : List Span) (last k : ℕ) (d : Span) → k < length branches → EndBy branches last →
    ((get_or branches k d).first ≤ (get_or branches k d).end) × ((get_or branches k d).end ≤ last)
ends_by branches last k d lt by = by (get_or branches k d) (Contains-get_or branches k d lt)
