-- The nodes that tables give at a path are those that were noted with a path that overlaps it.
use Rattle.std.proofs.Common.{◌≡◌, ℕ, zero, suc, ◌<◌, ◌≤◌, Bool, true, false, cond, ◌||◌, ◌⊎◌, inl, inr, List, [], ◌∷◌, ◌++◌, length, take, take_all, refl, sym}
use Rattle.std.proofs.Common.{ap, subst, ◌∙◌, arith, nat_eq, eq-eqb}
use Rattle.std.specs.BTreeMap.{is_at}
use Rattle.std.specs.Cmp.{eq_by_cmp_equiv}
use Rattle.std.specs.Prelude.{Contains}
use Rattle.std.proofs.lemmas.Bool.{cases_eq}
use Rattle.std.proofs.lemmas.List.Elements.{Contains-append_cases, Contains-append_left, Contains-append_right}
use Rattle.std.proofs.lemmas.Bool.{and_from, and_parts, or_left, or_right}
use Rattle.bl_tree.proofs.Basics.{at_most_itself, contains_none, contains_one, either_of, none_at_most, same_number}
use Rattle.bl_tree.specs.Order.{static_cmp, static_cmp_total}
use Rattle.bl_tree.specs.Static.{is_front, overlaps}
use Rattle.bl_tree.specs.declared.static_path.Static.{Static}
use Rattle.bl_graph.specs.inner.Noted.{Note, front, fronts_of, note, numbers_at, numbers_met, numbers_to, with_fronts}
use Rattle.bl_graph.proofs.MemberLemmas.{each_from, each_to, one_in, one_like, upto_from, upto_to}
use Rattle.bl_graph.proofs.NoteLemmas.{same_path}

-- ---- fronts of paths

le_more : (m n : ℕ) → m ≤ n → suc m ≤ suc n
le_more m n le = omega arith

pub lt_of : (m n : ℕ) → m ≤ n → (m ≡ n → ⊥) → m < n
lt_of m n le other = omega arith

front_is : (xs ys : List ℕ) → is_front xs ys ≡ true → (length xs ≤ length ys) × (xs ≡ take (length xs) ys)
front_is [] ys is = (none_at_most (length ys), refl)
front_is (x ∷ xs) [] is = absurd (cc)
front_is (x ∷ xs) (y ∷ ys) is =
    let both = and_parts (nat_eq x y) (is_front xs ys) is in
    let rest = front_is xs ys both.1 in
    let same = same_number x y both.0 in
    (le_more (length xs) (length ys) rest.0, λ i. same i ∷ rest.1 i)

front_take : (xs : List ℕ) (k : ℕ) → is_front (take k xs) xs ≡ true
front_take xs zero = refl
front_take [] (suc k) = refl
front_take (x ∷ xs) (suc k) = and_from (nat_eq x x) (is_front (take k xs) xs) (eq-eqb x x refl) (front_take xs k)

whole_front : (path : Static) → front path (length path.fields) ≡ path
whole_front path = ap (λ fields. record { root = path.root; fields = fields }) (take_all (length path.fields) path.fields (at_most_itself (length path.fields)))

-- a path overlaps its fronts
overlaps_front : (path : Static) (k : ℕ) → overlaps path (front path k) ≡ true
overlaps_front path k =
    and_from (nat_eq path.root path.root) (is_front path.fields (take k path.fields) || is_front (take k path.fields) path.fields)
    (eq-eqb path.root path.root refl)
    (or_right (is_front path.fields (take k path.fields)) (is_front (take k path.fields) path.fields) (front_take path.fields k))

front_overlaps : (path : Static) (k : ℕ) → overlaps (front path k) path ≡ true
front_overlaps path k =
    and_from (nat_eq path.root path.root) (is_front (take k path.fields) path.fields || is_front path.fields (take k path.fields))
    (eq-eqb path.root path.root refl)
    (or_left (is_front (take k path.fields) path.fields) (is_front path.fields (take k path.fields)) (front_take path.fields k))

path_of : (a b : Static) (fields : List ℕ) → a.root ≡ b.root → a.fields ≡ fields → a ≡ record { root = b.root; fields = fields }
path_of a b fields roots is = λ i. record { root = roots i; fields = is i }

-- one of two paths that overlap is a front of the other
overlap_cases : (a b : Static) → overlaps a b ≡ true →
    ((k : ℕ) × (k ≤ length a.fields) × (b ≡ front a k)) ⊎ ((k : ℕ) × (k < length b.fields) × (a ≡ front b k))
overlap_cases a b is =
    let both = and_parts (nat_eq a.root b.root) (is_front a.fields b.fields || is_front b.fields a.fields) is in
    let roots = same_number a.root b.root both.0 in
    elim (either_of (is_front a.fields b.fields) (is_front b.fields a.fields) both.1) [
      | inl one ↦ shorter roots (front_is a.fields b.fields one).0 (front_is a.fields b.fields one).1
      | inr two ↦ let longer = front_is b.fields a.fields two in
          inl (length b.fields, longer.0, path_of b a (take (length b.fields) a.fields) (sym roots) longer.1)
    ]
  where
    shorter : a.root ≡ b.root → length a.fields ≤ length b.fields → a.fields ≡ take (length a.fields) b.fields →
        ((k : ℕ) × (k ≤ length a.fields) × (b ≡ front a k)) ⊎ ((k : ℕ) × (k < length b.fields) × (a ≡ front b k))
    shorter roots le same = elim (cases_eq (length a.fields) (length b.fields)) [
      | inl equal ↦ inl (
        length a.fields,
        at_most_itself (length a.fields),
        path_of b a (take (length a.fields) a.fields) (sym roots)
            (sym (take_all (length b.fields) b.fields (at_most_itself (length b.fields))) ∙ ap (λ n. take n b.fields) (sym equal) ∙ sym same
            ∙ sym (take_all (length a.fields) a.fields (at_most_itself (length a.fields)))),
      )
      | inr other ↦ inr (
        length a.fields,
        lt_of (length a.fields) (length b.fields) le other,
        path_of a b (take (length a.fields) b.fields) roots same,
      )
    ]

-- ---- notes at a path

pub where_from : {A : Type 0} (test : Bool) (xs : List A) (x : A) → Contains (cond test xs []) x → (test ≡ true) × Contains xs x
where_from true xs x there = (refl, there)
where_from false xs x there = absurd (contains_none x there)

pub where_to : {A : Type 0} (test : Bool) (xs : List A) (x : A) → test ≡ true → Contains xs x → Contains (cond test xs []) x
where_to test xs x is there = subst (λ t. Contains (cond t xs []) x) (sym is) there

tied : (p q : Static) → p ≡ q → is_at (static_cmp p) q ≡ true
tied p q is = subst (λ q. is_at (static_cmp p) q ≡ true) is ((eq_by_cmp_equiv static_cmp_total).refl p)

-- a node was noted with exactly this path
record NotedAt (ns : List Note) (path : Static) (i : ℕ) : Type 0 where
  found : Note
  there : Contains ns found
  is_node : found.node ≡ i
  is_path : found.path ≡ path

at_from : (path : Static) (ns : List Note) (i : ℕ) → Contains (numbers_at path ns) i → NotedAt ns path i
at_from path ns i there =
    let n = each_from (λ n. cond (is_at (static_cmp n.path) path) (n.node ∷ []) []) ns i there in
    let made = where_from (is_at (static_cmp n.0.path) path) (n.0.node ∷ []) i n.2 in
    record { found = n.0; there = n.1; is_node = contains_one n.0.node i made.1; is_path = same_path n.0.path path made.0 }

at_to : (path : Static) (ns : List Note) (n : Note) → Contains ns n → n.path ≡ path → Contains (numbers_at path ns) n.node
at_to path ns n there is =
    each_to (λ n. cond (is_at (static_cmp n.path) path) (n.node ∷ []) []) ns n n.node there
    (where_to (is_at (static_cmp n.path) path) (n.node ∷ []) n.node (tied n.path path is) (one_in n.node))

-- ---- notes with all fronts

-- it was made of a note
record FrontOf (ns : List Note) (m : Note) : Type 0 where
  found : Note
  there : Contains ns found
  is_node : m.node ≡ found.node
  count : ℕ
  is_path : m.path ≡ front found.path count

fronts_from : (ns : List Note) (m : Note) → Contains (with_fronts ns) m → FrontOf ns m
fronts_from ns m there =
    let n = each_from (λ n. fronts_of n ++ n ∷ []) ns m there in
    elim (Contains-append_cases (fronts_of n.0) (n.0 ∷ []) m n.2) [
      | inl shorter ↦
          let k = upto_from (λ k. note n.0.node (front n.0.path k) ∷ []) (length n.0.path.fields) m shorter in
          let is = contains_one (note n.0.node (front n.0.path k.0)) m k.2 in
          record { found = n.0; there = n.1; is_node = ap (λ x. x.node) (sym is); count = k.0; is_path = ap (λ x. x.path) (sym is) }
      | inr itself ↦
          let is = contains_one n.0 m itself in
          record {
            found = n.0;
            there = n.1;
            is_node = ap (λ x. x.node) (sym is);
            count = length n.0.path.fields;
            is_path = ap (λ x. x.path) (sym is) ∙ sym (whole_front n.0.path);
          }
    ]

whole_note : (n : Note) (k : ℕ) → k ≡ length n.path.fields → n ≡ note n.node (front n.path k)
whole_note n k is = ap (λ path. note n.node path) (sym (whole_front n.path) ∙ ap (front n.path) (sym is))

fronts_in : (ns : List Note) (n : Note) (k : ℕ) → Contains ns n → k ≤ length n.path.fields → Contains (with_fronts ns) (note n.node (front n.path k))
fronts_in ns n k there le =
    each_to (λ n. fronts_of n ++ n ∷ []) ns n (note n.node (front n.path k)) there (elim (cases_eq k (length n.path.fields)) [
      | inl same ↦ Contains-append_right (fronts_of n) (n ∷ []) (note n.node (front n.path k))
          (one_like n (note n.node (front n.path k)) (whole_note n k same))
      | inr other ↦ Contains-append_left (fronts_of n) (n ∷ []) (note n.node (front n.path k))
          (upto_to (λ k. note n.node (front n.path k) ∷ []) (length n.path.fields) k (note n.node (front n.path k))
          (lt_of k (length n.path.fields) le other) (one_in (note n.node (front n.path k))))
    ])

-- ---- paths that overlap

-- a node was noted with a path that overlaps this one
pub record Met (ns : List Note) (path : Static) (i : ℕ) : Type 0 where
  pub found : Note
  pub there : Contains ns found
  pub is_node : found.node ≡ i
  pub overlap : overlaps found.path path ≡ true

pub met_from : (ns : List Note) (path : Static) (i : ℕ) → Contains (numbers_met ns path) i → Met ns path i
met_from ns path i there =
    elim (Contains-append_cases (numbers_at path (with_fronts ns)) (numbers_to ns path (length path.fields)) i there) [
      | inl below ↦
          let a = at_from path (with_fronts ns) i below in
          let f = fronts_from ns a.found a.there in
          record {
            found = f.found;
            there = f.there;
            is_node = sym f.is_node ∙ a.is_node;
            overlap = subst (λ p. overlaps f.found.path p ≡ true) (sym f.is_path ∙ a.is_path) (overlaps_front f.found.path f.count);
          }
      | inr above ↦
          let k = upto_from (λ k. numbers_at (front path k) ns) (length path.fields) i above in
          let a = at_from (front path k.0) ns i k.2 in
          record {
            found = a.found;
            there = a.there;
            is_node = a.is_node;
            overlap = subst (λ p. overlaps p path ≡ true) (sym a.is_path) (front_overlaps path k.0);
          }
    ]

pub met_to : (ns : List Note) (path : Static) (n : Note) → Contains ns n → overlaps n.path path ≡ true → Contains (numbers_met ns path) n.node
met_to ns path n there is = elim (overlap_cases n.path path is) [
  | inl longer ↦ Contains-append_left (numbers_at path (with_fronts ns)) (numbers_to ns path (length path.fields)) n.node
      (at_to path (with_fronts ns) (note n.node (front n.path longer.0)) (fronts_in ns n longer.0 there longer.1) (sym longer.2))
  | inr shorter ↦ Contains-append_right (numbers_at path (with_fronts ns)) (numbers_to ns path (length path.fields)) n.node
      (upto_to (λ k. numbers_at (front path k) ns) (length path.fields) shorter.0 n.node shorter.1 (at_to (front path shorter.0) ns n there shorter.2))
]
