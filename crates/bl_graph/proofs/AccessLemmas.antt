-- What accesses tell, with more of them behind.
use Rattle.std.proofs.Common.{◌≡◌, ℕ, suc, ◌+◌, List, [], ◌∷◌, ◌++◌, length, Option, Some, refl, sym, ap, subst, ◌∙◌}
use Rattle.std.proofs.Common.{append_assoc, append-nil, arith, true, zero-add, ⊎_elim}
use Rattle.std.specs.Prelude.{Contains, slice_get}
use Rattle.std.proofs.lemmas.List.Elements.{Contains-append_cases}
use Rattle.bl_tree.proofs.Basics.{contains_none, first_or_further, get_in_front, get_last}
use Rattle.bl_tree.specs.declared.graph.Edge.{Edge}
use Rattle.bl_graph.specs.declared.accesses.Access.{Access}
use Rattle.bl_graph.specs.declared.accesses.Access.TheVariants.{Read, Write}
use Rattle.bl_graph.specs.Accesses.{WritersAndEdges, flows, links, told, told_by, told_with, writers_at, writers_of}
use Rattle.bl_graph.specs.Graph.{edge_between}
use Rattle.bl_graph.specs.inner.Gains.{Gains}

-- ---- one access more

pub told-append : (t : WritersAndEdges) (xs ys : List Access) → told_by t (xs ++ ys) ≡ told_by (told_by t xs) ys
told-append t [] ys = refl
told-append t (x ∷ xs) ys = told-append (told_with t x) xs ys

pub told-push : (xs : List Access) (x : Access) → told (xs ++ x ∷ []) ≡ told_with (told xs) x
told-push xs x = told-append (record { writers = []; edges = [] }) xs (x ∷ [])

length_push : {A : Type 0} (xs : List A) (x : A) → length (xs ++ x ∷ []) ≡ suc (length xs)
length_push [] x = refl
length_push (y ∷ xs) x = ap suc (length_push xs x)

one_more : (t : WritersAndEdges) (x : Access) → length (told_with t x).writers ≡ suc (length t.writers)
one_more t (Write node before) = length_push t.writers (writers_at t.writers before ++ node ∷ [])
one_more t (Read node from) = length_push t.writers []

as_many : (t : WritersAndEdges) (xs : List Access) → length (told_by t xs).writers ≡ length t.writers + length xs
as_many t [] = omega arith
as_many t (x ∷ xs) =
    let first = one_more t x in
    let rest = as_many (told_with t x) xs in
    omega arith

-- there are as many lists of writers as accesses
pub each_writers : (xs : List Access) → length (writers_of xs) ≡ length xs
each_writers xs = as_many (record { writers = []; edges = [] }) xs ∙ zero-add (length xs)

-- ---- gains

pub gains_none : (a : List Access) → Gains a a []
gains_none a = record { keeps = λ k writers is. is; grows = sym (append-nil (flows a)) }

pub gains_then : (a b c : List Access) (xs ys : List Edge) → Gains a b xs → Gains b c ys → Gains a c (xs ++ ys)
gains_then a b c xs ys one two = record {
  keeps = λ k writers is. two.keeps k writers (one.keeps k writers is);
  grows = two.grows ∙ ap (λ es. es ++ ys) one.grows ∙ append_assoc (flows a) xs ys;
}

pub gains_same : (a b : List Access) (xs ys : List Edge) → xs ≡ ys → Gains a b xs → Gains a b ys
gains_same a b xs ys is = subst (Gains a b) is

pub gains_write : (a b : List Access) (node : ℕ) (before : Option ℕ) → b ≡ a ++ Write node before ∷ [] → Gains a b []
gains_write a b node before is = record {
  keeps = λ k writers there. subst (λ xs. slice_get (writers_of xs) k ≡ Some writers) (sym is)
      (subst (λ (t : WritersAndEdges). slice_get t.writers k ≡ Some writers) (sym (told-push a (Write node before)))
      (get_in_front (writers_of a) ((writers_at (writers_of a) before ++ node ∷ []) ∷ []) k writers there));
  grows = ap flows is ∙ ap (λ (t : WritersAndEdges). t.edges) (told-push a (Write node before)) ∙ sym (append-nil (flows a));
}

-- the writers of a write that comes last
pub write_stands : (a b : List Access) (node : ℕ) (before : Option ℕ) → b ≡ a ++ Write node before ∷ [] → (position : ℕ) → position ≡ length a
    → slice_get (writers_of b) position ≡ Some (writers_at (writers_of a) before ++ node ∷ [])
write_stands a b node before is position last =
    ap (λ xs. slice_get (writers_of xs) position) is ∙ ap (λ (t : WritersAndEdges). slice_get t.writers position) (told-push a (Write node before))
    ∙ ap (slice_get (writers_of a ++ (writers_at (writers_of a) before ++ node ∷ []) ∷ [])) (last ∙ sym (each_writers a))
    ∙ get_last (writers_of a) (writers_at (writers_of a) before ++ node ∷ [])

pub gains_read : (a b : List Access) (node from : ℕ) → b ≡ a ++ Read node from ∷ []
    → Gains a b (links node (writers_at (writers_of a) (Some from)))
gains_read a b node from is = record {
  keeps = λ k writers there. subst (λ xs. slice_get (writers_of xs) k ≡ Some writers) (sym is)
      (subst (λ (t : WritersAndEdges). slice_get t.writers k ≡ Some writers) (sym (told-push a (Read node from)))
      (get_in_front (writers_of a) ([] ∷ []) k writers there));
  grows = ap flows is ∙ ap (λ (t : WritersAndEdges). t.edges) (told-push a (Read node from));
}

-- ---- kinds of edges

links_by_data : (to : ℕ) (nodes : List ℕ) (edge : Edge) → Contains (links to nodes) edge → edge.by_data ≡ true
links_by_data to [] edge there = absurd (contains_none edge there)
links_by_data to (node ∷ nodes) edge there =
    ⊎_elim (λ (is : edge_between node to true ≡ edge). sym (ap (λ (e : Edge). e.by_data) is)) (λ later. links_by_data to nodes edge later)
    (first_or_further (edge_between node to true) (links to nodes) edge there)

told_by_data : (t : WritersAndEdges) (xs : List Access) → ((edge : Edge) → Contains t.edges edge → edge.by_data ≡ true) → (edge : Edge)
    → Contains (told_by t xs).edges edge → edge.by_data ≡ true
told_by_data t [] all edge there = all edge there
told_by_data t (Write node before ∷ xs) all edge there = told_by_data (told_with t (Write node before)) xs all edge there
told_by_data t (Read node from ∷ xs) all edge there =
    told_by_data (told_with t (Read node from)) xs (λ e has. ⊎_elim (all e) (links_by_data node (writers_at t.writers (Some from)) e)
    (Contains-append_cases t.edges (links node (writers_at t.writers (Some from))) e has)) edge there

-- all edges that accesses make are by data
pub flows_by_data : (xs : List Access) (edge : Edge) → Contains (flows xs) edge → edge.by_data ≡ true
flows_by_data xs = told_by_data (record { writers = []; edges = [] }) xs (λ edge there. absurd (contains_none edge there))
