-- Which turns stand behind another one in their block.
use Rattle.std.proofs.Common.{◌≡◌, ◌⊎◌, inl, inr, ℕ, zero, suc, ◌+◌, Bool, true, false, List, [], ◌∷◌, ◌++◌, Contains, Some}
use Rattle.std.proofs.Common.{refl, sym, ap, subst, ◌∙◌, arith, length, map, append_assoc}
use Rattle.std.specs.Prelude.{option_to_list, slice_get}
use Rattle.bl_tree.proofs.Basics.{contains_first, contains_further, get_behind, get_in_front, none_is_some, same_some}
use Rattle.bl_tree.specs.Reduce.{joined}
use Rattle.bl_emit_spec.specs.Activities.{first_positions, picked}
use Rattle.bl_emit_spec_laws.specs.Calls.Built.{last_of, last_positions}
use Rattle.bl_emit_spec_laws.specs.Passes.{behind_first, behind_firsts}
use Rattle.bl_emit_spec_laws.proofs.OnPlaced.Lists.{Within, picked_many}

-- ---- lists one after another

-- ---- picked elements

picked_both : {X : Type 0} (all : List X) (xs ys : List ℕ) → picked all (xs ++ ys) ≡ picked all xs ++ picked all ys
picked_both all [] ys = refl
picked_both {X} all (k ∷ xs) ys =
    ap (λ (later : List X). option_to_list (slice_get all k) ++ later) (picked_both all xs ys)
    ∙ sym (append_assoc (option_to_list (slice_get all k)) (picked all xs) (picked all ys))

-- picked block by block
pub picked_joined : {X : Type 0} (all : List X) (blocks : List (List ℕ)) → joined (map (picked all) blocks) ≡ picked all (joined blocks)
picked_joined all [] = refl
picked_joined {X} all (block ∷ rest) =
    ap (λ (later : List X). picked all block ++ later) (picked_joined all rest) ∙ sym (picked_both all block (joined rest))

-- ---- marks

all_true : {X Y : Type 0} (xs : List X) (ys : List Y) → length xs ≡ length ys → map (λ (x : X). true) xs ≡ map (λ (y : Y). true) ys
all_true [] [] is = refl
all_true [] (y ∷ ys) is = absurd (omega (arith, is))
all_true (x ∷ xs) [] is = absurd (omega (arith, is))
all_true (x ∷ xs) (y ∷ ys) is =
    ap (λ (marks : List Bool). true ∷ marks) (all_true xs ys (let less : length xs ≡ length ys = omega (arith, is) in less))

same_first : {X Y : Type 0} (xs : List X) (ys : List Y) → length xs ≡ length ys → behind_first xs ≡ behind_first ys
same_first [] [] is = refl
same_first [] (y ∷ ys) is = absurd (omega (arith, is))
same_first (x ∷ xs) [] is = absurd (omega (arith, is))
same_first (x ∷ xs) (y ∷ ys) is =
    ap (λ (marks : List Bool). false ∷ marks) (all_true xs ys (let less : length xs ≡ length ys = omega (arith, is) in less))

-- picked elements stand behind others as their positions do
pub marks_picked : {X : Type 0} (all : List X) (blocks : List (List ℕ)) → Within all (joined blocks) →
    behind_firsts (map (picked all) blocks) ≡ behind_firsts blocks
marks_picked all [] within = refl
marks_picked all (block ∷ rest) within =
    let one = same_first (picked all block) block
    (picked_many all block (λ k p at. within k p (get_in_front block (joined rest) k p at))) in
    let more = marks_picked all rest (λ k p at. within (length block + k) p (get_behind block (joined rest) k ∙ at)) in
    ap (λ (marks : List Bool). marks ++ behind_firsts (map (picked all) rest)) one ∙ ap (λ (marks : List Bool). behind_first block ++ marks) more

-- ---- neighbours

-- two numbers that stand one behind the other in a block
pub record Neighbours (blocks : List (List ℕ)) (p : ℕ) : Type 0 where
  pub q : ℕ
  pub next : p ≡ suc q
  pub i : ℕ
  pub j : ℕ
  pub first : slice_get (joined blocks) q ≡ Some i
  pub second : slice_get (joined blocks) p ≡ Some j
  pub block : List ℕ
  pub there : Contains blocks block
  pub k : ℕ
  pub one : slice_get block k ≡ Some i
  pub two : slice_get block (suc k) ≡ Some j

-- in the first block, or behind it
record InFirst (x : ℕ) (xs : List ℕ) (q : ℕ) : Type 0 where
  i : ℕ
  j : ℕ
  one : slice_get (x ∷ xs) q ≡ Some i
  two : slice_get xs q ≡ Some j

record InRest (xs : List ℕ) (marks : List Bool) (q : ℕ) : Type 0 where
  r : ℕ
  is : q ≡ length xs + r
  set : slice_get marks r ≡ Some true

first_or_rest : (x : ℕ) (xs : List ℕ) (marks : List Bool) (q : ℕ) → slice_get (map (λ (y : ℕ). true) xs ++ marks) q ≡ Some true →
    InFirst x xs q ⊎ InRest xs marks q
first_or_rest x [] marks q set = let none : q ≡ 0 + q = omega arith in inr (record { r = q; is = none; set = set })
first_or_rest x (y ∷ ys) marks zero set = inl (record { i = x; j = y; one = refl; two = refl })
first_or_rest x (y ∷ ys) marks (suc q) set = by (first_or_rest y ys marks q set)
  where
    by : InFirst y ys q ⊎ InRest ys marks q → InFirst x (y ∷ ys) (suc q) ⊎ InRest (y ∷ ys) marks (suc q)
    by (inl first) = inl (record { i = first.i; j = first.j; one = first.one; two = first.two })
    by (inr rest) =
        let at = rest.is in
        let next : suc q ≡ suc (length ys) + rest.r = omega (arith, at) in inr (record { r = rest.r; is = next; set = rest.set })

pub neighbours : (blocks : List (List ℕ)) (p : ℕ) → slice_get (behind_firsts blocks) p ≡ Some true → Neighbours blocks p
neighbours [] p set = none_is_some true set
neighbours ([] ∷ rest) p set =
    let n = neighbours rest p set in
    record {
      q = n.q;
      next = n.next;
      i = n.i;
      j = n.j;
      first = n.first;
      second = n.second;
      block = n.block;
      there = contains_further [] rest n.block n.there;
      k = n.k;
      one = n.one;
      two = n.two;
    }
neighbours ((x ∷ xs) ∷ rest) zero set = absurd (cc)
neighbours ((x ∷ xs) ∷ rest) (suc p) set =
    by (λ r there. neighbours rest r there) (first_or_rest x xs (behind_firsts rest) p set)
  where
    by : ((r : ℕ) → slice_get (behind_firsts rest) r ≡ Some true → Neighbours rest r) → InFirst x xs p ⊎ InRest xs (behind_firsts rest) p →
        Neighbours ((x ∷ xs) ∷ rest) (suc p)
    by more (inl f) = record {
      q = p;
      next = refl;
      i = f.i;
      j = f.j;
      first = get_in_front (x ∷ xs) (joined rest) p f.i f.one;
      second = get_in_front xs (joined rest) p f.j f.two;
      block = x ∷ xs;
      there = contains_first (x ∷ xs) rest;
      k = p;
      one = f.one;
      two = f.two;
    }
    by more (inr later) =
        let n = more later.r later.set in
        let at = later.is in
        let next = n.next in
        let second : slice_get (xs ++ joined rest) p ≡ Some n.j =
        ap (λ (k : ℕ). slice_get (xs ++ joined rest) k) later.is ∙ get_behind xs (joined rest) later.r ∙ n.second in
        record {
          q = suc (length xs + n.q);
          next = (let same : suc p ≡ suc (suc (length xs + n.q)) = omega (arith, at, next) in same);
          i = n.i;
          j = n.j;
          first = get_behind xs (joined rest) n.q ∙ n.first;
          second = second;
          block = n.block;
          there = contains_further (x ∷ xs) rest n.block n.there;
          k = n.k;
          one = n.one;
          two = n.two;
        }

-- ---- first and last positions

-- what stands behind a block
record Later (js : List ℕ) (marks : List Bool) (p : ℕ) : Type 0 where
  r : ℕ
  at : slice_get js r ≡ Some p
  unset : slice_get marks r ≡ Some true → ⊥

-- a position that isn't marked stands behind a block's other ones
past_others : (xs js : List ℕ) (marks : List Bool) (k p : ℕ) → slice_get (xs ++ js) k ≡ Some p →
    (slice_get (map (λ (y : ℕ). true) xs ++ marks) k ≡ Some true → ⊥) → Later js marks p
past_others [] js marks k p at unset = record { r = k; at = at; unset = unset }
past_others (y ∷ ys) js marks zero p at unset = absurd (unset refl)
past_others (y ∷ ys) js marks (suc k) p at unset = past_others ys js marks k p at unset

-- it is the first one of a block
pub first_there : (blocks : List (List ℕ)) (k p : ℕ) → slice_get (joined blocks) k ≡ Some p →
    (slice_get (behind_firsts blocks) k ≡ Some true → ⊥) → Contains (first_positions blocks) p
first_there [] k p at unset = none_is_some p at
first_there ([] ∷ rest) k p at unset = first_there rest k p at unset
first_there ((x ∷ xs) ∷ rest) zero p at unset = subst (λ (q : ℕ). Contains (x ∷ first_positions rest) q) (same_some x p at) (contains_first x (first_positions rest))
first_there ((x ∷ xs) ∷ rest) (suc k) p at unset =
    let later = past_others xs (joined rest) (behind_firsts rest) k p at unset in
    contains_further x (first_positions rest) p (first_there rest later.r p later.at later.unset)

-- behind the positions of a block
past_all : (xs : List ℕ) (marks : List Bool) (k : ℕ) → slice_get (map (λ (y : ℕ). true) xs ++ marks) (length xs + k) ≡ slice_get marks k
past_all [] marks k = let none : 0 + k ≡ k = omega arith in ap (λ (n : ℕ). slice_get marks n) none
past_all (y ∷ ys) marks k =
    let next : suc (length ys) + k ≡ suc (length ys + k) = omega arith in
    ap (λ (n : ℕ). slice_get (map (λ (y : ℕ). true) (y ∷ ys) ++ marks) n) next ∙ past_all ys marks k

-- where a position stands among all, and whether the position at another place stands behind a contains_further one of its block
pub record Unmarked (blocks : List (List ℕ)) (p : ℕ) (other : ℕ → ℕ) : Type 0 where
  pub k : ℕ
  pub at : slice_get (joined blocks) k ≡ Some p
  pub unset : slice_get (behind_firsts blocks) (other k) ≡ Some true → ⊥

some_false : {A : Type 0} → Some false ≡ Some true → A
some_false is = absurd (cc)

-- the first one of a block isn't marked
pub first_unmarked : (blocks : List (List ℕ)) (p : ℕ) → Contains (first_positions blocks) p → Unmarked blocks p (λ k. k)
first_unmarked [] p (k, below, is) = absurd (omega (arith, below))
first_unmarked ([] ∷ rest) p there = let found = first_unmarked rest p there in record { k = found.k; at = found.at; unset = found.unset }
first_unmarked ((x ∷ xs) ∷ rest) p (zero, below, is) = record { k = 0; at = ap Some is; unset = λ set. some_false set }
first_unmarked ((x ∷ xs) ∷ rest) p (suc k, below, is) =
    let found = first_unmarked rest p (k, omega (arith, below), is) in
    record {
      k = suc (length xs + found.k);
      at = get_behind xs (joined rest) found.k ∙ found.at;
      unset = λ set. found.unset (sym (past_all xs (behind_firsts rest) found.k) ∙ set);
    }

-- nothing is marked before the first one
none_before : (blocks : List (List ℕ)) → slice_get (behind_firsts blocks) 0 ≡ Some true → ⊥
none_before [] set = none_is_some true set
none_before ([] ∷ rest) set = none_before rest set
none_before ((x ∷ xs) ∷ rest) set = some_false set

last_at : (x : ℕ) (xs js : List ℕ) → slice_get (x ∷ (xs ++ js)) (length xs) ≡ Some (last_of x xs)
last_at x [] js = refl
last_at x (y ∷ ys) js = last_at y ys js

-- what follows the last one of a block isn't marked
pub last_unmarked : (blocks : List (List ℕ)) (p : ℕ) → Contains (last_positions blocks) p → Unmarked blocks p suc
last_unmarked [] p (k, below, is) = absurd (omega (arith, below))
last_unmarked ([] ∷ rest) p there = let found = last_unmarked rest p there in record { k = found.k; at = found.at; unset = found.unset }
last_unmarked ((x ∷ xs) ∷ rest) p (zero, below, is) =
    let none : length xs + 0 ≡ length xs = omega arith in
    record {
      k = length xs;
      at = last_at x xs (joined rest) ∙ ap Some is;
      unset = λ set. none_before rest
          (sym (past_all xs (behind_firsts rest) 0)
          ∙ (ap (λ (n : ℕ). slice_get (map (λ (y : ℕ). true) xs ++ behind_firsts rest) n) none ∙ set));
    }
last_unmarked ((x ∷ xs) ∷ rest) p (suc k, below, is) =
    let found = last_unmarked rest p (k, omega (arith, below), is) in
    let next : length xs + suc found.k ≡ suc (length xs + found.k) = omega arith in
    record {
      k = suc (length xs + found.k);
      at = get_behind xs (joined rest) found.k ∙ found.at;
      unset = λ set. found.unset
          (sym (past_all xs (behind_firsts rest) (suc found.k))
          ∙ (ap (λ (n : ℕ). slice_get (map (λ (y : ℕ). true) xs ++ behind_firsts rest) n) next ∙ set));
    }

-- a position behind which none is marked is the last one of its block, or stands behind the block
last_or_later : (x : ℕ) (xs js : List ℕ) (marks : List Bool) (k p : ℕ) → slice_get (x ∷ (xs ++ js)) k ≡ Some p →
    (slice_get (map (λ (y : ℕ). true) xs ++ marks) k ≡ Some true → ⊥) →
    (last_of x xs ≡ p) ⊎ ((r : ℕ) × (slice_get js r ≡ Some p) × (slice_get marks (suc r) ≡ Some true → ⊥))
last_or_later x [] js marks zero p at unset = inl (same_some x p at)
last_or_later x [] js marks (suc k) p at unset = inr (k, at, unset)
last_or_later x (y ∷ ys) js marks zero p at unset = absurd (unset refl)
last_or_later x (y ∷ ys) js marks (suc k) p at unset = last_or_later y ys js marks k p at unset

pub last_there : (blocks : List (List ℕ)) (k p : ℕ) → slice_get (joined blocks) k ≡ Some p →
    (slice_get (behind_firsts blocks) (suc k) ≡ Some true → ⊥) → Contains (last_positions blocks) p
last_there [] k p at unset = none_is_some p at
last_there ([] ∷ rest) k p at unset = last_there rest k p at unset
last_there ((x ∷ xs) ∷ rest) k p at unset = by (λ r. last_there rest r p) (last_or_later x xs (joined rest) (behind_firsts rest) k p at unset)
  where
    by : ((r : ℕ) → slice_get (joined rest) r ≡ Some p → (slice_get (behind_firsts rest) (suc r) ≡ Some true → ⊥) → Contains (last_positions rest) p) →
        (last_of x xs ≡ p) ⊎ ((r : ℕ) × (slice_get (joined rest) r ≡ Some p) × (slice_get (behind_firsts rest) (suc r) ≡ Some true → ⊥)) →
        Contains (last_of x xs ∷ last_positions rest) p
    by more (inl is) = subst (λ (q : ℕ). Contains (last_of x xs ∷ last_positions rest) q) is (contains_first (last_of x xs) (last_positions rest))
    by more (inr later) = contains_further (last_of x xs) (last_positions rest) p (more later.0 later.1 later.2)
