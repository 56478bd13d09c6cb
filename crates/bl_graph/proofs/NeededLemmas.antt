-- The accesses that reads need, and these among others.
use Rattle.std.proofs.Common.{◌≡◌, ℕ, zero, suc, ◌+◌, ◌<◌, ◌≤◌, Bool, true, false, cond, ◌||◌, List, [], ◌∷◌, ◌++◌, length, map, take, get_or, set, Option, Some, None}
use Rattle.std.proofs.Common.{refl, sym, ap, subst, ◌∙◌, append_assoc, append-nil, arith, ⊎_elim, get_or-set_other, get_or-set_same, length-set}
use Rattle.std.specs.Prelude.{nat_lt, slice_get, slice_index, unwrap_or}
use Rattle.std.proofs.lemmas.Bool.{cases_eq, cases_lt}
use Rattle.std.proofs.lemmas.Bool.Decides.{nat_tests}
use Rattle.std.proofs.lemmas.List.{take_more}
use Rattle.std.proofs.lemmas.Option.{slice_get-get_or}
use Rattle.bl_tree.proofs.Basics.{get_in_front, get_last, less_from, less_test, same_some}
use Rattle.bl_graph.specs.declared.accesses.Access.{Access}
use Rattle.bl_graph.specs.declared.accesses.Access.TheVariants.{Read, Write}
use Rattle.bl_graph.specs.Accesses.{WritersAndEdges, flows, links, writers_at, writers_of}
use Rattle.bl_graph.specs.Graph.{edge_between}
use Rattle.bl_graph.specs.inner.Needed.{AreNeeded, after_need, is_marked, mark_earlier, moved, named_by, new_position, reads, with_needed}
use Rattle.bl_graph.specs.inner.Parts.{shifted}
use Rattle.bl_graph.proofs.AccessLemmas.{each_writers, told-push}

-- ---- lists

not_less : (a b : ℕ) → nat_lt a b ≡ false → b ≤ a
not_less a b is = grind (arith, nat_tests)

get_past : {A : Type 0} (xs : List A) (k : ℕ) → length xs ≤ k → slice_get xs k ≡ None
get_past [] k le = refl
get_past (x ∷ xs) zero le = absurd (none (length xs) le)
  where
    none : (n : ℕ) → suc n ≤ zero → ⊥
    none n le = omega (arith, le)
get_past (x ∷ xs) (suc k) le = get_past xs k (less (length xs) k le)
  where
    less : (m n : ℕ) → suc m ≤ suc n → m ≤ n
    less m n le = omega (arith, le)

index_front : (xs : List ℕ) (y k : ℕ) → k < length xs → slice_index (xs ++ y ∷ []) k ≡ slice_index xs k
index_front [] y k lt = absurd (none k lt)
  where
    none : (k : ℕ) → k < zero → ⊥
    none k lt = omega (arith, lt)
index_front (x ∷ xs) y zero lt = refl
index_front (x ∷ xs) y (suc k) lt = index_front xs y k (less k (length xs) lt)
  where
    less : (m n : ℕ) → suc m < suc n → m < n
    less m n lt = omega (arith, lt)

index_last : (xs : List ℕ) (y : ℕ) → slice_index (xs ++ y ∷ []) (length xs) ≡ y
index_last [] y = refl
index_last (x ∷ xs) y = index_last xs y

length_more : {A : Type 0} (xs : List A) (x : A) → length (xs ++ x ∷ []) ≡ suc (length xs)
length_more [] x = refl
length_more (y ∷ xs) x = ap suc (length_more xs x)

map_both : {A B : Type 0} (f : A → B) (xs ys : List A) → map f (xs ++ ys) ≡ map f xs ++ map f ys
map_both f [] ys = refl
map_both f (x ∷ xs) ys = ap (λ rest. f x ∷ rest) (map_both f xs ys)

-- what was before another access stays
front_stays : (xs : List Access) (x : Access) (k : ℕ) (nodes : List ℕ) → slice_get (writers_of xs) k ≡ Some nodes →
    slice_get (writers_of (xs ++ x ∷ [])) k ≡ Some nodes
front_stays xs (Write node before) k nodes is =
    subst (λ (t : WritersAndEdges). slice_get t.writers k ≡ Some nodes) (sym (told-push xs (Write node before)))
    (get_in_front (writers_of xs) ((writers_at (writers_of xs) before ++ node ∷ []) ∷ []) k nodes is)
front_stays xs (Read node from) k nodes is =
    subst (λ (t : WritersAndEdges). slice_get t.writers k ≡ Some nodes) (sym (told-push xs (Read node from)))
    (get_in_front (writers_of xs) ([] ∷ []) k nodes is)

-- the writers of an access that stands in front of another
front_writers : (xs : List Access) (x : Access) (k : ℕ) → k < length xs → writers_at (writers_of (xs ++ x ∷ [])) (Some k) ≡ writers_at (writers_of xs) (Some k)
front_writers xs x k lt =
    let below : k < length (writers_of xs) = subst (λ n. k < n) (sym (each_writers xs)) lt in
    let there : slice_get (writers_of xs) k ≡ Some (get_or (writers_of xs) k []) = slice_get-get_or (writers_of xs) k [] below in
    ap (λ found. unwrap_or found []) (front_stays xs x k (get_or (writers_of xs) k []) there ∙ sym there)

-- the writers of the last access
abbrev own_writers : List (List ℕ) → Access → List ℕ
own_writers writers (Write node before) = writers_at writers before ++ node ∷ []
own_writers writers (Read node from) = []

last_writers : (xs : List Access) (x : Access) → slice_get (writers_of (xs ++ x ∷ [])) (length xs) ≡ Some (own_writers (writers_of xs) x)
last_writers xs (Write node before) =
    ap (λ (t : WritersAndEdges). slice_get t.writers (length xs)) (told-push xs (Write node before))
    ∙ ap (slice_get (writers_of xs ++ (writers_at (writers_of xs) before ++ node ∷ []) ∷ [])) (sym (each_writers xs))
    ∙ get_last (writers_of xs) (writers_at (writers_of xs) before ++ node ∷ [])
last_writers xs (Read node from) =
    ap (λ (t : WritersAndEdges). slice_get t.writers (length xs)) (told-push xs (Read node from))
    ∙ ap (slice_get (writers_of xs ++ [] ∷ [])) (sym (each_writers xs)) ∙ get_last (writers_of xs) []

-- ---- accesses among others

-- nodes that are counted from the first on
abbrev far : ℕ → List ℕ → List ℕ
far first nodes = map (λ node. first + node) nodes

links_far : (first to : ℕ) (nodes : List ℕ) → links (first + to) (far first nodes) ≡ map (shifted first) (links to nodes)
links_far first to [] = refl
links_far first to (node ∷ nodes) = ap (λ es. edge_between (first + node) (first + to) true ∷ es) (links_far first to nodes)

-- so many accesses were moved behind those before
pub record Moving (first : ℕ) (before into front : List Access) (positions : List ℕ) (needed : List Bool) : Type 0 where
  pub edges : flows into ≡ flows before ++ map (shifted first) (flows front)
  pub many : length positions ≡ length front
  pub stands : (k : ℕ) → k < length front → is_marked needed k ≡ true →
      slice_get (writers_of into) (slice_index positions k) ≡ Some (far first (writers_at (writers_of front) (Some k)))

pub moving_none : (first : ℕ) (before : List Access) (needed : List Bool) → Moving first before before [] [] needed
moving_none first before needed = record {
  edges = sym (append-nil (flows before));
  many = refl;
  stands = λ k lt marked. absurd (none k lt);
}
  where
    none : (k : ℕ) → k < zero → ⊥
    none k lt = omega (arith, lt)

module _ (first : ℕ) (before into front : List Access) (positions : List ℕ) (needed : List Bool)
    (m : Moving first before into front positions needed) where
  -- the writers that an earlier access stands for
  named_far : (e : Option ℕ) → ((k : ℕ) → e ≡ Some k → k < length front → is_marked needed k ≡ true)
      → writers_at (writers_of into) (new_position positions (length front) e) ≡ far first (writers_at (writers_of front) e)
  named_far None marked = refl
  named_far (Some k) marked = step (nat_lt k (length front)) refl
    where
      less : nat_lt k (length front) ≡ true → k < length front
      less is = less_from k (length front) is

      past : nat_lt k (length front) ≡ false → length (writers_of front) ≤ k
      past is = subst (λ n. n ≤ k) (sym (each_writers front)) (not_less k (length front) is)

      step : (t : Bool) → nat_lt k (length front) ≡ t
          → writers_at (writers_of into) (cond t (Some (slice_index positions k)) None) ≡ far first (writers_at (writers_of front) (Some k))
      step true is = ap (λ found. unwrap_or found []) (m.stands k (less is) (marked k refl (less is)))
      step false is = ap (λ found. far first (unwrap_or found [])) (sym (get_past (writers_of front) k (past is)))

  -- the writers that a read names
  read_far : (from own : ℕ) → own ≡ length into → (from < length front → is_marked needed from ≡ true)
      → writers_at (writers_of into) (Some (unwrap_or (new_position positions (length front) (Some from)) own)) ≡ far first (writers_at (writers_of front) (Some from))
  read_far from own is_own marked = step (nat_lt from (length front)) refl
    where
      less : nat_lt from (length front) ≡ true → from < length front
      less is = less_from from (length front) is

      past : nat_lt from (length front) ≡ false → length (writers_of front) ≤ from
      past is = subst (λ n. n ≤ from) (sym (each_writers front)) (not_less from (length front) is)

      own_past : length (writers_of into) ≤ own
      own_past = let size = each_writers into in omega (arith, is_own, size)

      step : (t : Bool) → nat_lt from (length front) ≡ t
          → writers_at (writers_of into) (Some (unwrap_or (cond t (Some (slice_index positions from)) None) own)) ≡ far first (writers_at (writers_of front) (Some from))
      step true is = ap (λ found. unwrap_or found []) (m.stands from (less is) (marked (less is)))
      step false is =
          ap (λ found. unwrap_or found []) (get_past (writers_of into) own own_past)
          ∙ ap (λ found. far first (unwrap_or found [])) (sym (get_past (writers_of front) from (past is)))

  -- the writers of the access itself
  own_far : (own : ℕ) (x : Access) → ((k : ℕ) → named_by x ≡ Some k → k < length front → is_marked needed k ≡ true)
      → own_writers (writers_of into) (moved first positions (length front) own x) ≡ far first (own_writers (writers_of front) x)
  own_far own (Write node earlier) marked =
      ap (λ found. found ++ (first + node) ∷ []) (named_far earlier marked)
      ∙ sym (map_both (λ node. first + node) (writers_at (writers_of front) earlier) (node ∷ []))
  own_far own (Read node from) marked = refl

  more_edges : (own : ℕ) (x : Access) → own ≡ length into → ((k : ℕ) → named_by x ≡ Some k → k < length front → is_marked needed k ≡ true)
      → flows (into ++ moved first positions (length front) own x ∷ []) ≡ flows before ++ map (shifted first) (flows (front ++ x ∷ []))
  more_edges own (Write node earlier) is_own marked =
      ap (λ (t : WritersAndEdges). t.edges) (told-push into (moved first positions (length front) own (Write node earlier))) ∙ m.edges
      ∙ ap (λ (t : WritersAndEdges). flows before ++ map (shifted first) t.edges) (sym (told-push front (Write node earlier)))
  more_edges own (Read node from) is_own marked =
      ap (λ (t : WritersAndEdges). t.edges) (told-push into (moved first positions (length front) own (Read node from)))
      ∙ ap (λ nodes. flows into ++ links (first + node) nodes) (read_far from own is_own (marked from refl))
      ∙ ap (λ es. flows into ++ es) (links_far first node (writers_at (writers_of front) (Some from)))
      ∙ ap (λ es. es ++ map (shifted first) (links node (writers_at (writers_of front) (Some from)))) m.edges
      ∙ append_assoc (flows before) (map (shifted first) (flows front)) (map (shifted first) (links node (writers_at (writers_of front) (Some from))))
      ∙ ap (λ es. flows before ++ es) (sym (map_both (shifted first) (flows front) (links node (writers_at (writers_of front) (Some from)))))
      ∙ ap (λ (t : WritersAndEdges). flows before ++ map (shifted first) t.edges) (sym (told-push front (Read node from)))

  -- where those so far stand, one more stands too
  more_stand : (x : Access) (own : ℕ) (after : List Access)
      → ((k : ℕ) (nodes : List ℕ) → slice_get (writers_of into) k ≡ Some nodes → slice_get (writers_of after) k ≡ Some nodes)
      → (is_marked needed (length front) ≡ true → slice_get (writers_of after) own ≡ Some (far first (own_writers (writers_of front) x)))
      → (k : ℕ) → k < length (front ++ x ∷ []) → is_marked needed k ≡ true
      → slice_get (writers_of after) (slice_index (positions ++ own ∷ []) k) ≡ Some (far first (writers_at (writers_of (front ++ x ∷ [])) (Some k)))
  more_stand x own after stay own_stands k lt marked =
      ⊎_elim
      (λ (less : k < length front).
      ap (slice_get (writers_of after)) (index_front positions own k (subst (λ n. k < n) (sym m.many) less))
      ∙ stay (slice_index positions k) (far first (writers_at (writers_of front) (Some k))) (m.stands k less marked)
      ∙ ap (λ nodes. Some (far first nodes)) (sym (front_writers front x k less)))
      (λ (past : length front ≤ k).
      let last : k ≡ length front = let size = length_more front x in omega (arith, lt, past, size) in
      ap (λ n. slice_get (writers_of after) (slice_index (positions ++ own ∷ []) n)) (last ∙ sym m.many)
      ∙ ap (slice_get (writers_of after)) (index_last positions own)
      ∙ own_stands (subst (λ n. is_marked needed n ≡ true) last marked)
      ∙ ap (λ found. Some (far first (unwrap_or found []))) (sym (last_writers front x))
      ∙ ap (λ n. Some (far first (writers_at (writers_of (front ++ x ∷ [])) (Some n)))) (sym last))
      (cases_lt k (length front))

  many_more : (x : Access) (own : ℕ) → length (positions ++ own ∷ []) ≡ length (front ++ x ∷ [])
  many_more x own = length_more positions own ∙ ap suc m.many ∙ sym (length_more front x)

  -- one access more
  moving_one : (x : Access) (own : ℕ) → own ≡ length into → (is : Bool) → is_marked needed (length front) ≡ is
      → (reads x ≡ true → is_marked needed (length front) ≡ true)
      → (is_marked needed (length front) ≡ true → (k : ℕ) → named_by x ≡ Some k → k < length front → is_marked needed k ≡ true)
      → Moving first before (with_needed is first positions (length front) own x into) (front ++ x ∷ []) (positions ++ own ∷ []) needed
  moving_one x own is_own true marked read_is named = record {
    edges = more_edges own x is_own (named marked);
    many = many_more x own;
    stands = more_stand x own (into ++ moved first positions (length front) own x ∷ [])
        (λ k nodes. front_stays into (moved first positions (length front) own x) k nodes)
        (λ again. ap (slice_get (writers_of (into ++ moved first positions (length front) own x ∷ []))) is_own
        ∙ last_writers into (moved first positions (length front) own x) ∙ ap Some (own_far own x (named marked)));
  }
  moving_one (Write node earlier) own is_own false marked read_is named = record {
    edges = m.edges ∙ ap (λ (t : WritersAndEdges). flows before ++ map (shifted first) t.edges) (sym (told-push front (Write node earlier)));
    many = many_more (Write node earlier) own;
    stands = more_stand (Write node earlier) own into (λ k nodes is. is) (λ again. absurd (no_true (sym marked ∙ again)));
  }
    where
      no_true : false ≡ true → ⊥
      no_true is = cc
  moving_one (Read node from) own is_own false marked read_is named = absurd (no_true (sym marked ∙ read_is refl))
    where
      no_true : false ≡ true → ⊥
      no_true is = cc

-- the same of a list so far
pub moving_step : (first : ℕ) (before into after from : List Access) (positions view more : List ℕ) (needed : List Bool) (i own : ℕ) (d : Access) (b : Bool)
    → i < length from → length needed ≡ length from → AreNeeded from 0 needed → view ≡ positions → own ≡ length into
    → after ≡ with_needed (get_or needed i b) first view i own (get_or from i d) into → more ≡ positions ++ own ∷ []
    → Moving first before into (take i from) positions needed → Moving first before after (take (i + 1) from) more needed
moving_step first before into after from positions view more needed i own d b lt size are seen is_own after_is more_is m =
    let x = get_or from i d in
    let there : slice_get from i ≡ Some x = slice_get-get_or from i d lt in
    let front : length (take i from) ≡ i = front_is from i lt in
    let test : is_marked needed i ≡ get_or needed i b = get_or_same needed i false b (subst (λ n. i < n) (sym size) lt) in
    subst (λ xs. Moving first before after xs more needed) (sym (take_more from i d lt))
    (subst (λ ps. Moving first before after (take i from ++ x ∷ []) ps needed) (sym more_is)
    (subst (λ xs. Moving first before xs (take i from ++ x ∷ []) (positions ++ own ∷ []) needed)
    (ap (λ n. with_needed (get_or needed i b) first positions n own x into) front
    ∙ ap (λ ps. with_needed (get_or needed i b) first ps i own x into) (sym seen) ∙ sym after_is)
    (moving_one first before into (take i from) positions needed m x own is_own (get_or needed i b) (ap (is_marked needed) front ∙ test)
    (λ read. ap (is_marked needed) front ∙ are.reads_are i x (zero_le i) there read)
    (λ marked k named below. are.named_are i x k (zero_le i) there (ap (is_marked needed) (sym front) ∙ marked) named
    (subst (λ n. k < n) front below)))))
  where
    zero_le : (n : ℕ) → 0 ≤ n
    zero_le n = omega arith

    front_is : (xs : List Access) (i : ℕ) → i < length xs → length (take i xs) ≡ i
    front_is xs zero lt = refl
    front_is [] (suc i) lt = absurd (none i lt)
      where
        none : (i : ℕ) → suc i < zero → ⊥
        none i lt = omega (arith, lt)
    front_is (y ∷ xs) (suc i) lt = ap suc (front_is xs i (less i (length xs) lt))
      where
        less : (m n : ℕ) → suc m < suc n → m < n
        less m n lt = omega (arith, lt)

    get_or_same : (xs : List Bool) (i : ℕ) (d e : Bool) → i < length xs → get_or xs i d ≡ get_or xs i e
    get_or_same [] i d e lt = absurd (none i lt)
      where
        none : (i : ℕ) → i < zero → ⊥
        none i lt = omega (arith, lt)
    get_or_same (x ∷ xs) zero d e lt = refl
    get_or_same (x ∷ xs) (suc i) d e lt = get_or_same xs i d e (less i (length xs) lt)
      where
        less : (m n : ℕ) → suc m < suc n → m < n
        less m n lt = omega (arith, lt)

-- ---- marks

marked_same : (needed : List Bool) (at k : ℕ) → at < length needed → is_marked needed k ≡ true → is_marked (set needed at true) k ≡ true
marked_same needed at k lt marked =
    ⊎_elim (λ (is : at ≡ k). subst (λ n. is_marked (set needed at true) n ≡ true) is (get_or-set_same needed at true false lt))
    (λ (other : at ≡ k → ⊥). get_or-set_other needed at k true false (λ is. other (sym is)) ∙ marked) (cases_eq at k)

-- a mark that is only there after one was set is the one that was set
marked_before : (needed : List Bool) (at k : ℕ) → (at ≡ k → ⊥) → is_marked (set needed at true) k ≡ true → is_marked needed k ≡ true
marked_before needed at k other marked = sym (get_or-set_other needed at k true false (λ is. other (sym is))) ∙ marked

mark_keeps : (e : Option ℕ) (p : ℕ) (needed : List Bool) (k : ℕ) → p < length needed → is_marked needed k ≡ true →
    is_marked (mark_earlier e p needed) k ≡ true
mark_keeps None p needed k lt marked = marked
mark_keeps (Some e) p needed k lt marked = step (nat_lt e p) refl
  where
    less : nat_lt e p ≡ true → e < p
    less is = less_from e p is

    within : nat_lt e p ≡ true → e < length needed
    within is = let below = less is in omega (arith, below, lt)

    step : (t : Bool) → nat_lt e p ≡ t → is_marked (cond t (set needed e true) needed) k ≡ true
    step true is = marked_same needed e k (within is) marked
    step false is = marked

-- what is behind is marked only if it was before
mark_later : (e : Option ℕ) (p : ℕ) (needed : List Bool) (k : ℕ) → p ≤ k → is_marked (mark_earlier e p needed) k ≡ true → is_marked needed k ≡ true
mark_later None p needed k le marked = marked
mark_later (Some e) p needed k le marked = step (nat_lt e p) refl marked
  where
    other : nat_lt e p ≡ true → e ≡ k → ⊥
    other is same = let below = less_from e p is in omega (arith, below, le, same)

    step : (t : Bool) → nat_lt e p ≡ t → is_marked (cond t (set needed e true) needed) k ≡ true → is_marked needed k ≡ true
    step true is marked = marked_before needed e k (other is) marked
    step false is marked = marked

mark_there : (e p : ℕ) (needed : List Bool) → e < p → p < length needed → is_marked (mark_earlier (Some e) p needed) e ≡ true
mark_there e p needed lt below =
    ap (λ t. is_marked (cond t (set needed e true) needed) e) (less_test e p lt) ∙ get_or-set_same needed e true false (within e p (length needed) lt below)
  where
    within : (e p n : ℕ) → e < p → p < n → e < n
    within e p n one two = omega (arith, one, two)

mark_size : (e : Option ℕ) (p : ℕ) (needed : List Bool) → length (mark_earlier e p needed) ≡ length needed
mark_size None p needed = refl
mark_size (Some e) p needed = step (nat_lt e p)
  where
    step : (t : Bool) → length (cond t (set needed e true) needed) ≡ length needed
    step true = length-set needed e true
    step false = refl

pub need_size : (x : Access) (p : ℕ) (needed : List Bool) → length (after_need x p needed) ≡ length needed
need_size x p needed = step (reads x || is_marked needed p)
  where
    step : (t : Bool) → length (cond t (mark_earlier (named_by x) p (set needed p true)) needed) ≡ length needed
    step true = mark_size (named_by x) p (set needed p true) ∙ length-set needed p true
    step false = refl

same_access : (accesses : List Access) (p k : ℕ) (d access : Access) → p ≡ k → p < length accesses → slice_get accesses k ≡ Some access →
    access ≡ get_or accesses p d
same_access accesses p k d access is lt there =
    same_some access (get_or accesses p d) (sym there ∙ ap (slice_get accesses) (sym is) ∙ slice_get-get_or accesses p d lt)

-- one position more, from the end on
pub needed_step : (accesses : List Access) (p : ℕ) (d : Access) (needed : List Bool) → p < length accesses → length needed ≡ length accesses →
    AreNeeded accesses (suc p) needed → AreNeeded accesses p (after_need (get_or accesses p d) p needed)
needed_step accesses p d needed lt size are = step (reads (get_or accesses p d) || is_marked needed p) refl
  where
    below : p < length needed
    below = subst (λ n. p < n) (sym size) lt

    later : (k : ℕ) → p ≤ k → (p ≡ k → ⊥) → suc p ≤ k
    later k le other = omega (arith, le, other)

    true_not_false : true ≡ false → ⊥
    true_not_false is = cc

    neither : (a b : Bool) → (a || b) ≡ false → (a ≡ false) × (b ≡ false)
    neither true b is = absurd (true_not_false is)
    neither false b is = (refl, is)

    step : (t : Bool) → (reads (get_or accesses p d) || is_marked needed p) ≡ t → AreNeeded accesses p (cond t (mark_earlier (named_by (get_or accesses p d)) p (set needed p true)) needed)
    step false none =
        let both = neither (reads (get_or accesses p d)) (is_marked needed p) none in
        record {
          reads_are = λ k access from there read.
              ⊎_elim (λ (is : p ≡ k). absurd (true_not_false (sym read ∙ ap reads (same_access accesses p k d access is lt there) ∙ both.0)))
              (λ (other : p ≡ k → ⊥). are.reads_are k access (later k from other) there read) (cases_eq p k);
          named_are = λ k access earlier from there marked named before.
              ⊎_elim (λ (is : p ≡ k). absurd (true_not_false (sym marked ∙ ap (is_marked needed) (sym is) ∙ both.1)))
              (λ (other : p ≡ k → ⊥). are.named_are k access earlier (later k from other) there marked named before) (cases_eq p k);
        }
    step true some =
        let one = set needed p true in
        let inside : p < length one = subst (λ n. p < n) (sym (length-set needed p true)) below in
        record {
          reads_are = λ k access from there read.
              mark_keeps (named_by (get_or accesses p d)) p one k inside
              (⊎_elim (λ (is : p ≡ k). subst (λ n. is_marked one n ≡ true) is (get_or-set_same needed p true false below))
              (λ (other : p ≡ k → ⊥). marked_same needed p k below (are.reads_are k access (later k from other) there read)) (cases_eq p k));
          named_are = λ k access earlier from there marked named before.
              ⊎_elim
              (λ (is : p ≡ k).
              let names : named_by (get_or accesses p d) ≡ Some earlier = ap named_by (sym (same_access accesses p k d access is lt there)) ∙ named in
              subst (λ e. is_marked (mark_earlier e p one) earlier ≡ true) (sym names)
              (mark_there earlier p one (subst (λ n. earlier < n) (sym is) before) inside))
              (λ (other : p ≡ k → ⊥).
              mark_keeps (named_by (get_or accesses p d)) p one earlier inside (marked_same needed p earlier below
              (are.named_are k access earlier (later k from other) there
              (marked_before needed p k other (mark_later (named_by (get_or accesses p d)) p one k from marked)) named before)))
              (cases_eq p k);
        }

-- behind the last access none is asked for
pub none_needed : (accesses : List Access) (needed : List Bool) → AreNeeded accesses (length accesses) needed
none_needed accesses needed = record {
  reads_are = λ k access from there read. absurd (no_access accesses k access from there);
  named_are = λ k access earlier from there marked named below. absurd (no_access accesses k access from there);
}
  where
    no_access : (xs : List Access) (k : ℕ) (x : Access) → length xs ≤ k → slice_get xs k ≡ Some x → ⊥
    no_access xs k x past there = no_some x (sym (get_past xs k past) ∙ there)
      where
        no_some : (x : Access) → None ≡ Some x → ⊥
        no_some x is = cc
