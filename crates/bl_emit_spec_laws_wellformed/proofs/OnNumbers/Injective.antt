-- No two nodes of a body have one number.
use Rattle.std.proofs.Common.{◌≡◌, ℕ, zero, suc, ◌+◌, ◌<◌, ◌≤◌, ◌^◌, Bool, true, false, not, ◌&&◌, ◌||◌}
use Rattle.std.proofs.Common.{List, [], ◌∷◌, map, length, Some, refl, sym, ap, ◌∙◌, arith}
use Rattle.std.proofs.lemmas.Bool.{eqb-true}
use Rattle.std.proofs.lemmas.Bool.Decides.{nat_tests}
use Rattle.std.proofs.lemmas.List.{length_push}
use Rattle.std.proofs.lemmas.List.Folds.{list_any-append}
use Rattle.std.proofs.lemmas.List.Sorted.{Contains-permutation, length_permutation}
use Rattle.std.proofs.lemmas.Option.{same_Some, slice_get_within}
use Rattle.std.proofs.lemmas.Slice.Eq.{bytes_eq-Decides}
use Rattle.std.specs.List.{list_any}
use Rattle.std.specs.Prelude.{Contains, IsPermutation, bytes_eq, get_or, nat_eq, nat_lt, slice_get, if◌then◌else◌}
use Rattle.std.proofs.lemmas.Bool.{and_from, or_from}
use Rattle.bl_tree.proofs.Basics.{and_first, and_second, less_test, number_itself, or_true}
use Rattle.bl_machine.specs.Blocks.{up_to}
use Rattle.bl_graph_nodes.specs.Nodes.{ActAt, CheckAt, DepthEndAt, DepthJoinAt, EnterAt, ForkAt, HeadAt, Node, PauseAt, ResumeAt}
use Rattle.bl_graph_nodes.specs.Nodes.{StartAt, SurfaceEndAt, SurfaceJoinAt, TestAt, label_of, nodes_in}
use Rattle.bl_graph_nodes.specs.Plain.{Label, Position, plain_body}
use Rattle.bl_machine_pass.specs.Numbered.{position_where, same_label, same_node, sort}
use Rattle.bl_ctree_laws_traces.proofs.OnReady.Keys.{Differ, Same, bodies_differ_so, sort_of}
use Rattle.bl_emit_spec_laws_wellformed.specs.Names.{are_numbers}
use Rattle.bl_emit_spec_laws_wellformed.specs.Numbers.{NodesNumbered}
use Rattle.bl_ctree_laws_traces.proofs.OnReady.Keys.{has_at, turned}

-- ---- tests

-- ---- where something is found

position_le : {X : Type 0} (test : X → Bool) (xs : List X) → position_where test xs ≤ length xs
position_le test [] = omega arith
position_le test (x ∷ xs) = by (test x) (position_le test xs)
  where
    by : (b : Bool) → position_where test xs ≤ length xs → (if b then 0 else suc (position_where test xs)) ≤ suc (length xs)
    by true rest = omega arith
    by false rest = omega (arith, rest)

found_at : (k : ℕ) (xs : List ℕ) → list_any (nat_eq k) xs ≡ true → slice_get xs (position_where (nat_eq k) xs) ≡ Some k
found_at k [] h = absurd (cc)
found_at k (x ∷ xs) h = by (nat_eq k x) refl h (found_at k xs)
  where
    by : (b : Bool) → nat_eq k x ≡ b → (b || list_any (nat_eq k) xs) ≡ true →
        (list_any (nat_eq k) xs ≡ true → slice_get xs (position_where (nat_eq k) xs) ≡ Some k) →
        slice_get (x ∷ xs) (if b then 0 else suc (position_where (nat_eq k) xs)) ≡ Some k
    by true is h rest = ap Some (sym (eqb-true k x is))
    by false is h rest = rest h

contains_of : (k : ℕ) (xs : List ℕ) → list_any (nat_eq k) xs ≡ true → Contains xs k
contains_of k [] h = absurd (cc)
contains_of k (x ∷ xs) h = by (nat_eq k x) refl h (contains_of k xs)
  where
    by : (b : Bool) → nat_eq k x ≡ b → (b || list_any (nat_eq k) xs) ≡ true → (list_any (nat_eq k) xs ≡ true → Contains xs k) →
        Contains (x ∷ xs) k
    by true is h rest = (0, omega arith, sym (eqb-true k x is))
    by false is h rest = let later = rest h in (suc later.0, (let lt = later.1 in omega (arith, lt)), later.2)

listed_of : (k : ℕ) (xs : List ℕ) → Contains xs k → list_any (nat_eq k) xs ≡ true
listed_of k [] has = absurd (let lt = has.1 in omega (arith, lt))
listed_of k (x ∷ xs) has = by has.0 has.1 has.2 (listed_of k xs)
  where
    first : (b : Bool) → b ≡ true → (b || list_any (nat_eq k) xs) ≡ true
    first true h = refl
    first false h = absurd (cc)

    later : (b : Bool) → list_any (nat_eq k) xs ≡ true → (b || list_any (nat_eq k) xs) ≡ true
    later true h = refl
    later false h = h

    by : (i : ℕ) → i < length (x ∷ xs) → get_or (x ∷ xs) i k ≡ k → (Contains xs k → list_any (nat_eq k) xs ≡ true) →
        list_any (nat_eq k) (x ∷ xs) ≡ true
    by zero lt is rest = first (nat_eq k x) (ap (nat_eq k) is ∙ number_itself k)
    by (suc i) lt is rest = later (nat_eq k x) (rest (i, omega (arith, lt), is))

in_first : (n k : ℕ) → k < n → list_any (nat_eq k) (up_to n) ≡ true
in_first zero k less = absurd (omega (arith, less))
in_first (suc n) k less = list_any-append (nat_eq k) (up_to n) (n ∷ []) ∙ by (nat_eq k n) refl (in_first n k)
  where
    by : (b : Bool) → nat_eq k n ≡ b → (k < n → list_any (nat_eq k) (up_to n) ≡ true) →
        (list_any (nat_eq k) (up_to n) || (b || false)) ≡ true
    by true is rest = or_true (list_any (nat_eq k) (up_to n))
    by false is rest = let lt : k < n = grind (arith, nat_tests, less, is) in ap (λ t. t || false) (rest lt)

-- ---- nodes

same_sort : (n : Node) → sort_of n ≡ sort n
same_sort (ActAt l s) = refl
same_sort (TestAt l at e) = refl
same_sort (PauseAt l at) = refl
same_sort (EnterAt l at arguments) = refl
same_sort (ResumeAt l at arguments) = refl
same_sort (HeadAt l at) = refl
same_sort (StartAt l at) = refl
same_sort (CheckAt l at e) = refl
same_sort (SurfaceEndAt l at) = refl
same_sort (DepthEndAt l at) = refl
same_sort (ForkAt l at) = refl
same_sort (SurfaceJoinAt l at) = refl
same_sort (DepthJoinAt l at) = refl

node_itself : (n : Node) → same_node n n ≡ true
node_itself n =
    and_from (same_label (label_of n) (label_of n)) (nat_eq (sort n) (sort n))
    (and_from (bytes_eq (label_of n).position (label_of n).position) (nat_eq (label_of n).passed (label_of n).passed)
    ((bytes_eq-Decides (label_of n).position (label_of n).position).1 refl) (number_itself (label_of n).passed)) (number_itself (sort n))

abbrev label_with : Position → ℕ → Label
label_with position passed = record { position = position; passed = passed }

same_of : (n m : Node) → same_node n m ≡ true → Same n m
same_of n m h =
    let labels = and_first (same_label (label_of n) (label_of m)) (nat_eq (sort n) (sort m)) h in
    let position : (label_of n).position ≡ (label_of m).position =
    (bytes_eq-Decides (label_of n).position (label_of m).position).0
    (and_first (bytes_eq (label_of n).position (label_of m).position) (nat_eq (label_of n).passed (label_of m).passed) labels) in
    let passed : (label_of n).passed ≡ (label_of m).passed =
    eqb-true (label_of n).passed (label_of m).passed
    (and_second (bytes_eq (label_of n).position (label_of m).position) (nat_eq (label_of n).passed (label_of m).passed) labels) in record {
      label = (λ i. label_with (position i) (passed i));
      sort = same_sort n
          ∙ eqb-true (sort n) (sort m) (and_second (same_label (label_of n) (label_of m)) (nat_eq (sort n) (sort m)) h) ∙ sym (same_sort m);
    }

index_at : (xs : List Node) (i : ℕ) (n : Node) → Differ xs → slice_get xs i ≡ Some n → position_where (same_node n) xs ≡ i
index_at [] i n differ there = absurd (cc)
index_at (x ∷ xs) zero n differ there = by (same_node n x) (ap (same_node n) (same_Some x n there) ∙ node_itself n)
  where
    by : (b : Bool) → b ≡ true → (if b then 0 else suc (position_where (same_node n) xs)) ≡ 0
    by true h = refl
    by false h = absurd (cc)
index_at (x ∷ xs) (suc i) n differ there = by (same_node n x) refl (index_at xs i n differ.1 there)
  where
    by : (b : Bool) → same_node n x ≡ b → position_where (same_node n) xs ≡ i →
        (if b then 0 else suc (position_where (same_node n) xs)) ≡ suc i
    by true is rest = absurd (differ.0 (has_at xs i x n there (turned n x (same_of n x is))))
    by false is rest = ap suc rest

-- ---- numbers

module _ (nodes : List Node) (order : List ℕ) (differ : Differ nodes) (small : length nodes < 2 ^ 64)
    (all : IsPermutation (up_to (length nodes)) order) where
  abbrev place : ℕ → ℕ
  place i = position_where (nat_eq i) order

  abbrev number : Node → ℕ
  number n = place (position_where (same_node n) nodes)

  there : (i : ℕ) → i < length nodes → slice_get order (place i) ≡ Some i
  there i less =
      found_at i order
      (listed_of i order
      (Contains-permutation (up_to (length nodes)) order i all (contains_of i (up_to (length nodes)) (in_first (length nodes) i less))))

  length_first : (n : ℕ) → length (up_to n) ≡ n
  length_first zero = refl
  length_first (suc n) = length_push (up_to n) n ∙ (let rest = length_first n in omega (arith, rest))

  long : length order ≡ length nodes
  long = length_permutation (up_to (length nodes)) order all ∙ length_first (length nodes)

  place_small : (i : ℕ) → place i < 2 ^ 64
  place_small i = let le : place i ≤ length order = position_le (nat_eq i) order in let is = long in omega (arith, le, is, small)

  apart : (i j : ℕ) → i < length nodes → j < length nodes → nat_eq i j ≡ false → nat_eq (place i) (place j) ≡ false
  apart i j less least other = by (nat_eq (place i) (place j)) refl
    where
      by : (b : Bool) → nat_eq (place i) (place j) ≡ b → b ≡ false
      by false is = refl
      by true is =
          let same : i ≡ j =
          same_Some i j (sym (there i less) ∙ ap (slice_get order) (eqb-true (place i) (place j) is) ∙ there j least) in
          absurd (let no : true ≡ false = sym (number_itself i) ∙ ap (nat_eq i) same ∙ other in cc)

  number_at : (i : ℕ) (n : Node) → slice_get nodes i ≡ Some n → number n ≡ place i
  number_at i n is = ap place (index_at nodes i n differ is)

  none_later : (p i : ℕ) (xs : List Node) → p < i → ((j : ℕ) → slice_get xs j ≡ slice_get nodes (i + j)) →
      list_any (nat_eq (place p)) (map number xs) ≡ false
  none_later p i [] less behind = refl
  none_later p i (x ∷ xs) less behind =
      let here : slice_get nodes (i + 0) ≡ Some x = sym (behind 0) in
      let none : i + 0 ≡ i = omega arith in
      let own : slice_get nodes i ≡ Some x = ap (slice_get nodes) (sym none) ∙ here in
      let within : i < length nodes = slice_get_within nodes i x own in
      let before : p < length nodes = omega (arith, less, within) in
      let other : nat_eq p i ≡ false = grind (arith, nat_tests, less) in
      let next : p < i + 1 = omega (arith, less) in
      or_from (nat_eq (place p) (number x)) (list_any (nat_eq (place p)) (map number xs))
      (ap (nat_eq (place p)) (number_at i x own) ∙ apart p i before within other)
      (none_later p (i + 1) xs next (λ j. behind (suc j) ∙ ap (slice_get nodes) (let same : i + suc j ≡ (i + 1) + j = omega arith in same)))

  numbers_from : (i : ℕ) (xs : List Node) → ((j : ℕ) → slice_get xs j ≡ slice_get nodes (i + j)) → are_numbers (map number xs) ≡ true
  numbers_from i [] behind = refl
  numbers_from i (x ∷ xs) behind =
      let none : i + 0 ≡ i = omega arith in
      let own : slice_get nodes i ≡ Some x = ap (slice_get nodes) (sym none) ∙ sym (behind 0) in
      let later = λ (j : ℕ). behind (suc j) ∙ ap (slice_get nodes) (let same : i + suc j ≡ (i + 1) + j = omega arith in same) in
      let next : i < i + 1 = omega arith in
      and_from (nat_lt (number x) (2 ^ 64)) (not (list_any (nat_eq (number x)) (map number xs)) && are_numbers (map number xs))
      (less_test (number x) (2 ^ 64) (place_small (position_where (same_node x) nodes)))
      (and_from (not (list_any (nat_eq (number x)) (map number xs))) (are_numbers (map number xs))
      (ap (λ k. not (list_any (nat_eq k) (map number xs))) (number_at i x own) ∙ ap not (none_later i (i + 1) xs next later))
      (numbers_from (i + 1) xs later))

  all_numbers : are_numbers (map number nodes) ≡ true
  all_numbers = numbers_from 0 nodes (λ j. ap (slice_get nodes) (let same : j ≡ 0 + j = omega arith in same))

pub numbered : NodesNumbered
numbered body order all small = record {
  differ = all_numbers (nodes_in (plain_body body)) order (bodies_differ_so body []) small all;
  few = λ n. place_small (nodes_in (plain_body body)) order (bodies_differ_so body []) small all
      (position_where (same_node n) (nodes_in (plain_body body)));
}
