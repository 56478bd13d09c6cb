-- Edges of a tick graph that make a closed walk.
use Rattle.std.proofs.Common.{◌≡◌, ℕ, zero, suc, ◌<◌, List, [], ◌∷◌, ◌++◌, ⊎_elim, length, map, take, ◌+◌, drop, get_or, Option, Some, None, Bool, true, false, not, ◌&&◌, cond, arith, refl, sym, ap, subst, ◌∙◌}
use Rattle.std.specs.Prelude.{Contains, nat_eq, nat_lt, slice_get, unwrap_or}
use Rattle.std.proofs.lemmas.Bool.{and_parts, not-true}
use Rattle.std.proofs.lemmas.List.Elements.{Contains-append_left, Contains-append_right}
use Rattle.std.proofs.lemmas.List.{take_more}
use Rattle.std.proofs.lemmas.Option.{slice_get-get_or}
use Rattle.bl_tree.proofs.Basics.{contains_at, contains_first, contains_further, contains_none, first_or_further, get_in_front, get_last, less_from, same_number, same_some}
use Rattle.bl_tree.specs.declared.graph.Edge.{Edge}
use Rattle.bl_graph.specs.declared.accesses.Access.{Access}
use Rattle.bl_graph.specs.declared.accesses.Access.TheVariants.{Read, Write}
use Rattle.bl_graph.specs.Accesses.{WritersAndEdges, flows, links, told, told_by, told_with, writers_at, writers_of}
use Rattle.bl_graph.specs.Graph.{edge_between}
use Rattle.bl_graph.proofs.AccessLemmas.{each_writers, told-append}
use Rattle.bl_cause.specs.Walks.{EdgeWalk}
use Rattle.bl_cause.specs.inner.Walked.{edge_of, step_back, up_to, write_of}
use Rattle.bl_cause.specs.declared.guess.Passed.{Passed}
use Rattle.bl_cause.proofs.WalkLemmas.{walk_append}

-- ---- what accesses tell stays told

pub writers_stay : (t : WritersAndEdges) (xs : List Access) (k : ℕ) (nodes : List ℕ) → slice_get t.writers k ≡ Some nodes →
    slice_get (told_by t xs).writers k ≡ Some nodes
writers_stay t [] k nodes is = is
writers_stay t (Write node before ∷ xs) k nodes is =
    writers_stay (told_with t (Write node before)) xs k nodes
    (get_in_front t.writers ((writers_at t.writers before ++ node ∷ []) ∷ []) k nodes is)
writers_stay t (Read node from ∷ xs) k nodes is =
    writers_stay (told_with t (Read node from)) xs k nodes (get_in_front t.writers ([] ∷ []) k nodes is)

edge_stays : (t : WritersAndEdges) (xs : List Access) (edge : Edge) → Contains t.edges edge → Contains (told_by t xs).edges edge
edge_stays t [] edge there = there
edge_stays t (Write node before ∷ xs) edge there = edge_stays (told_with t (Write node before)) xs edge there
edge_stays t (Read node from ∷ xs) edge there =
    edge_stays (told_with t (Read node from)) xs edge (Contains-append_left t.edges (links node (writers_at t.writers (Some from))) edge there)

link_there : (to node : ℕ) (nodes : List ℕ) → Contains nodes node → Contains (links to nodes) (edge_between node to true)
link_there to node [] there = absurd (contains_none node there)
link_there to node (x ∷ nodes) there =
    ⊎_elim
    (λ (is : x ≡ node). subst (λ n. Contains (links to (x ∷ nodes)) (edge_between n to true)) is (contains_first (edge_between x to true) (links to nodes)))
    (λ later. contains_further (edge_between x to true) (links to nodes) (edge_between node to true) (link_there to node nodes later))
    (first_or_further x nodes node there)

-- ---- one of the accesses

split_at : {A : Type 0} (xs : List A) (j : ℕ) (x : A) → slice_get xs j ≡ Some x → xs ≡ take j xs ++ x ∷ drop (suc j) xs
split_at [] j x is = cc
split_at (y ∷ xs) zero x is = ap (λ z. z ∷ xs) (same_some y x is)
split_at (y ∷ xs) (suc j) x is = ap (λ rest. y ∷ rest) (split_at xs j x is)

front_length : {A : Type 0} (xs : List A) (j : ℕ) (x : A) → slice_get xs j ≡ Some x → length (take j xs) ≡ j
front_length [] j x is = cc
front_length (y ∷ xs) zero x is = refl
front_length (y ∷ xs) (suc j) x is = ap suc (front_length xs j x is)

told_split : (accesses : List Access) (j : ℕ) (x : Access) → slice_get accesses j ≡ Some x →
    told accesses ≡ told_by (told_with (told (take j accesses)) x) (drop (suc j) accesses)
told_split accesses j x is =
    ap told (split_at accesses j x is) ∙ told-append (record { writers = []; edges = [] }) (take j accesses) (x ∷ drop (suc j) accesses)

-- the writers of a write
write_at : (accesses : List Access) (j node : ℕ) (before : Option ℕ) → slice_get accesses j ≡ Some (Write node before) →
    slice_get (writers_of accesses) j ≡ Some (writers_at (writers_of (take j accesses)) before ++ node ∷ [])
write_at accesses j node before is =
    let t = told (take j accesses) in
    let own = writers_at t.writers before ++ node ∷ [] in
    let size : length t.writers ≡ j = each_writers (take j accesses) ∙ front_length accesses j (Write node before) is in
    subst (λ (u : WritersAndEdges). slice_get u.writers j ≡ Some own) (sym (told_split accesses j (Write node before) is))
    (writers_stay (told_with t (Write node before)) (drop (suc j) accesses) j own
    (subst (λ n. slice_get (t.writers ++ own ∷ []) n ≡ Some own) size (get_last t.writers own)))

-- the writers of earlier accesses are those that they had before
earlier_same : (accesses : List Access) (j : ℕ) (x : Access) → slice_get accesses j ≡ Some x → (k : ℕ) → k < j →
    writers_at (writers_of accesses) (Some k) ≡ writers_at (writers_of (take j accesses)) (Some k)
earlier_same accesses j x is k lt =
    let t = told (take j accesses) in
    let size : length t.writers ≡ j = each_writers (take j accesses) ∙ front_length accesses j x is in
    let below : k < length t.writers = subst (λ n. k < n) (sym size) lt in
    let there : slice_get t.writers k ≡ Some (get_or t.writers k []) = slice_get-get_or t.writers k [] below in
    ap (λ (u : WritersAndEdges). writers_at u.writers (Some k)) (told_split accesses j x is)
    ∙ ap (λ found. unwrap_or found [])
    (writers_stay (told_with t x) (drop (suc j) accesses) k (get_or t.writers k []) (one_stays t x k (get_or t.writers k []) there) ∙ sym there)
  where
    one_stays : (t : WritersAndEdges) (x : Access) (k : ℕ) (nodes : List ℕ) → slice_get t.writers k ≡ Some nodes →
        slice_get (told_with t x).writers k ≡ Some nodes
    one_stays t x k nodes is = writers_stay t (x ∷ []) k nodes is

-- a write's node is one of its writers
own_writer : (accesses : List Access) (j node : ℕ) (before : Option ℕ) → slice_get accesses j ≡ Some (Write node before) →
    Contains (writers_at (writers_of accesses) (Some j)) node
own_writer accesses j node before is =
    let own = writers_at (writers_of (take j accesses)) before in
    subst (λ found. Contains (unwrap_or found []) node) (sym (write_at accesses j node before is))
    (Contains-append_right own (node ∷ []) node (contains_first node []))

-- the writers of the write before it are among them
before_writer : (accesses : List Access) (j node k other : ℕ) → slice_get accesses j ≡ Some (Write node (Some k)) → k < j →
    Contains (writers_at (writers_of accesses) (Some k)) other → Contains (writers_at (writers_of accesses) (Some j)) other
before_writer accesses j node k other is lt there =
    let own = writers_at (writers_of (take j accesses)) (Some k) in
    subst (λ found. Contains (unwrap_or found []) other) (sym (write_at accesses j node (Some k) is))
    (Contains-append_left own (node ∷ []) other
    (subst (λ nodes. Contains nodes other) (earlier_same accesses j (Write node (Some k)) is k lt) there))

earlier_writer : (accesses : List Access) (j node : ℕ) (before : Option ℕ) (other : ℕ) → slice_get accesses j ≡ Some (Write node before) →
    Contains (writers_at (writers_of accesses) (step_back before j)) other → Contains (writers_at (writers_of accesses) (Some j)) other
earlier_writer accesses j node None other is there = absurd (contains_none other there)
earlier_writer accesses j node (Some k) other is there = step (nat_lt k j) refl there
  where
    step : (t : Bool) → nat_lt k j ≡ t → Contains (writers_at (writers_of accesses) (cond t (Some k) None)) other →
        Contains (writers_at (writers_of accesses) (Some j)) other
    step true lt there = before_writer accesses j node k other is (less_from k j lt) there
    step false lt there = absurd (contains_none other there)

-- what is read of an access that writes
write_of_is : (found : Option Access) (node : ℕ) (before : Option ℕ) → write_of found ≡ Some (node, before) → found ≡ Some (Write node before)
write_of_is None node before is = cc
write_of_is (Some (Read reader from)) node before is = cc
write_of_is (Some (Write writer earlier)) node before is =
    let both = same_some (writer, earlier) (node, before) is in λ i. Some (Write (both i).0 (both i).1)

-- what is told of a write at a position
pub writer_told : (accesses : List Access) (j node : ℕ) (before : Option ℕ) → Some (node, before) ≡ write_of (slice_get accesses j) →
    Contains (writers_at (writers_of accesses) (Some j)) node
writer_told accesses j node before is = own_writer accesses j node before (write_of_is (slice_get accesses j) node before (sym is))

pub before_told : (accesses : List Access) (j node : ℕ) (before : Option ℕ) (other : ℕ) → Some (node, before) ≡ write_of (slice_get accesses j) →
    Contains (writers_at (writers_of accesses) (step_back before j)) other → Contains (writers_at (writers_of accesses) (Some j)) other
before_told accesses j node before other is there =
    earlier_writer accesses j node before other (write_of_is (slice_get accesses j) node before (sym is)) there

pub earlier_less : (before : Option ℕ) (j : ℕ) → up_to (step_back before j) < suc j
earlier_less None j = omega arith
earlier_less (Some k) j = step (nat_lt k j) refl
  where
    step : (t : Bool) → nat_lt k j ≡ t → up_to (cond t (Some k) None) < suc j
    step true lt = let below = less_from k j lt in omega (arith, below)
    step false lt = omega arith

-- a read makes the edges from the writers of an earlier access
pub read_makes : (accesses : List Access) (j to from node : ℕ) → slice_get accesses j ≡ Some (Read to from) → from < j →
    Contains (writers_at (writers_of accesses) (Some from)) node → Contains (flows accesses) (edge_between node to true)
read_makes accesses j to from node is lt there =
    let t = told (take j accesses) in
    let own = writers_at t.writers (Some from) in
    subst (λ (u : WritersAndEdges). Contains u.edges (edge_between node to true)) (sym (told_split accesses j (Read to from) is))
    (edge_stays (told_with t (Read to from)) (drop (suc j) accesses) (edge_between node to true)
    (Contains-append_right t.edges (links to own) (edge_between node to true)
    (link_there to node own (subst (λ nodes. Contains nodes node) (earlier_same accesses j (Read to from) is from lt) there))))

-- ---- walks

-- edges that follow on each other, so far
pub passed_more : (edges : List Edge) (first at : ℕ) (walk : List Passed) (i : ℕ) (d : Passed) → i < length walk →
    EdgeWalk edges first (map edge_of (take i walk)) at → (get_or walk i d).edge.from ≡ at → Contains edges (get_or walk i d).edge →
    EdgeWalk edges first (map edge_of (take (i + 1) walk)) (get_or walk i d).edge.to
passed_more edges first at walk i d lt so from there =
    let passed = get_or walk i d in
    subst (λ xs. EdgeWalk edges first xs passed.edge.to)
    (sym (map-append edge_of (take i walk) (passed ∷ [])) ∙ ap (map edge_of) (sym (take_more walk i d lt)))
    (walk_append edges first at passed.edge.to (map edge_of (take i walk)) (passed.edge ∷ []) so (there, from, refl))
  where
    map-append : {A B : Type 0} (f : A → B) (xs ys : List A) → map f (xs ++ ys) ≡ map f xs ++ map f ys
    map-append f [] ys = refl
    map-append f (x ∷ xs) ys = ap (λ rest. f x ∷ rest) (map-append f xs ys)

-- ---- edges that are checked

pub control_there : (control : List Edge) (at : ℕ) (found edge : Edge) → slice_get control at ≡ Some found → edge.by_data ≡ false →
    ((nat_eq found.from edge.from && nat_eq found.to edge.to) && not found.by_data) ≡ true → Contains control edge
control_there control at found edge there kind is =
    let all = and_parts (nat_eq found.from edge.from && nat_eq found.to edge.to) (not found.by_data) is in
    let both = and_parts (nat_eq found.from edge.from) (nat_eq found.to edge.to) all.0 in
    let from = same_number found.from edge.from both.0 in
    let to = same_number found.to edge.to both.1 in
    let kinds = not-true found.by_data all.1 ∙ sym kind in
    let same : found ≡ edge = λ i. record { from = from i; to = to i; by_data = kinds i } in
    subst (Contains control) same (contains_at control at found there)

pub made_there : (accesses : List Access) (at node from : ℕ) (edge : Edge) (access : Access) (writer : Bool) → edge.by_data ≡ true →
    slice_get accesses at ≡ Some access → access ≡ Read node from →
    (writer ≡ true → Contains (writers_at (writers_of accesses) (Some from)) edge.from) →
    ((nat_eq node edge.to && nat_lt from at) && writer) ≡ true → Contains (flows accesses) edge
made_there accesses at node from edge access writer kind there is_read writes is =
    let all = and_parts (nat_eq node edge.to && nat_lt from at) writer is in
    let both = and_parts (nat_eq node edge.to) (nat_lt from at) all.0 in
    let to = same_number node edge.to both.0 in
    let same : edge_between edge.from node true ≡ edge = λ i. record { from = edge.from; to = to i; by_data = sym kind i } in
    subst (Contains (flows accesses)) same
    (read_makes accesses at node from edge.from (there ∙ ap Some is_read) (less_from from at both.1) (writes all.1))
