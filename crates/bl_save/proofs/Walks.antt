-- Steps of the walks over the cells of a runner.
use Rattle.std.proofs.Common.{◌≡◌, ◌≢◌, ℕ, zero, suc, ◌+◌, ◌<◌, ◌≤◌, List, [], ◌∷◌, ◌++◌, length, map}
use Rattle.std.proofs.Common.{take, drop, refl, sym, ap, ◌∙◌, subst, arith, ℤ, Bool, true, false, Option, Some, None}
use Rattle.std.specs.Prelude.{◌&&◌, ◌==◌, slice_get, slice_set, slice_index, option_map, if◌then◌else◌}
use Rattle.std.proofs.Math.Seq.{take-suc-set}
use Rattle.std.proofs.lemmas.Bool.Decides.{nat_tests}
use Rattle.std.proofs.lemmas.List.{append-nil, append_assoc, drop-drop, drop_all, length-drop, length-take, take_all}
use Rattle.bl_tree.proofs.Basics.{plus_one}
use Rattle.bl_tree.specs.declared.scalar.Scalar.{Scalar}
use Rattle.bl_tree.specs.Ports.{in_ranges}
use Rattle.bl_tree.specs.Scalar.{in_range}
use Rattle.bl_crun.specs.Running.{Running, with_cell}
use Rattle.bl_save.specs.Bytes.{size_of, cell_bytes, cells_bytes}
use Rattle.bl_save.specs.States.{with_numbers}
use Rattle.bl_save.specs.inner.Shapes.{Allowed, exactly, misfit, earlier, cell_shape, cells_shape}
use Rattle.bl_save.proofs.Cells.{number_of, number-back}
use Rattle.bl_save.proofs.Shaped.{length-shape, misfit-append, misfit-within}
use Rattle.bl_save.proofs.States.{length-cell_shape, number-take, numbers_in, size-some, splits-cell}

-- what is left of a list at an element
pub drop-get : {X : Type 0} (xs : List X) (k : ℕ) (x : X) → slice_get xs k ≡ Some x → drop k xs ≡ x ∷ drop (k + 1) xs
drop-get [] k x is = absurd (cc)
drop-get {X = X} (y ∷ xs) zero x is = let same : y ≡ x = cc in ap (λ (z : X). z ∷ xs) same
drop-get (y ∷ xs) (suc k) x is = drop-get xs k x is ∙ ap (λ (n : ℕ). x ∷ drop n (y ∷ xs)) (more k)
  where
    more : (k : ℕ) → suc (k + 1) ≡ suc k + 1
    more k = omega arith

-- ---- saving

-- one cell more is written
pub push-step : (front : List ℕ) (kinds : List Scalar) (ns : List ℤ) (k : ℕ) (kind : Scalar) (n : ℤ) → slice_get kinds k ≡ Some kind →
    slice_get ns k ≡ Some n →
    (front ++ cell_bytes kind n) ++ cells_bytes (drop (k + 1) kinds) (drop (k + 1) ns) ≡ front ++ cells_bytes (drop k kinds) (drop k ns)
push-step front kinds ns k kind n first second =
    let cells : cells_bytes (drop k kinds) (drop k ns) ≡ cell_bytes kind n ++ cells_bytes (drop (k + 1) kinds) (drop (k + 1) ns) =
    rw (drop-get kinds k kind first, drop-get ns k n second) refl in
    append_assoc front (cell_bytes kind n) (cells_bytes (drop (k + 1) kinds) (drop (k + 1) ns)) ∙ ap (λ (s : List ℕ). front ++ s) (sym cells)

-- and is in its range
pub range-step : (kinds : List Scalar) (ns : List ℤ) (k : ℕ) (kind : Scalar) (n : ℤ) → slice_get kinds k ≡ Some kind →
    slice_get ns k ≡ Some n → in_range kind n ≡ true →
    in_ranges (drop (k + 1) kinds) (drop (k + 1) ns) ≡ in_ranges (drop k kinds) (drop k ns)
range-step kinds ns k kind n first second range =
    let whole : in_ranges (drop k kinds) (drop k ns) ≡ (in_range kind n && in_ranges (drop (k + 1) kinds) (drop (k + 1) ns)) =
    rw (drop-get kinds k kind first, drop-get ns k n second) refl in
    sym (whole ∙ ap (λ (b : Bool). b && in_ranges (drop (k + 1) kinds) (drop (k + 1) ns)) range)

-- ---- where bytes leave the shape of cells

-- a place that is counted from further on
abbrev pub later : ℕ → Option ℕ → Option ℕ
later at o = option_map (λ n. at + n) o

-- a place that is counted from two places on
pub later-later : (a b : ℕ) (o : Option ℕ) → later a (later b o) ≡ later (a + b) o
later-later a b None = refl
later-later a b (Some n) = ap Some (omega arith)

-- how bytes at a cell leave its shape and that of those behind it
pub cell-misfit : (kind : Scalar) (kinds : List Scalar) (bytes : List ℕ) →
    misfit (cells_shape (kind ∷ kinds)) bytes ≡
    earlier (misfit (cell_shape kind) (take (size_of kind) bytes)) (size_of kind) (misfit (cells_shape kinds) (drop (size_of kind) bytes))
cell-misfit kind kinds bytes =
    misfit-append (cell_shape kind) (cells_shape kinds) bytes
    ∙ ap (λ (k : ℕ). earlier (misfit (cell_shape kind) (take k bytes)) k (misfit (cells_shape kinds) (drop k bytes))) (length-cell_shape kind)

-- where the bytes from one place on leave the shape of the cells from one on
abbrev pub left_at : List Scalar → List ℕ → ℕ → ℕ → Option ℕ
left_at kinds bytes k at = misfit (cells_shape (drop k kinds)) (drop at bytes)

-- the place of a cell that doesn't fit
pub misfit-here : (kinds : List Scalar) (bytes : List ℕ) (k at : ℕ) (kind : Scalar) (inside : ℕ) → slice_get kinds k ≡ Some kind →
    misfit (cell_shape kind) (take (size_of kind) (drop at bytes)) ≡ Some inside → later at (left_at kinds bytes k at) ≡ Some (at + inside)
misfit-here kinds bytes k at kind inside is leaves =
    ap (λ (ks : List Scalar). later at (misfit (cells_shape ks) (drop at bytes))) (drop-get kinds k kind is)
    ∙ ap (later at) (cell-misfit kind (drop (k + 1) kinds) (drop at bytes))
    ∙ ap (λ (o : Option ℕ). later at (earlier o (size_of kind) (misfit (cells_shape (drop (k + 1) kinds)) (drop (size_of kind) (drop at bytes))))) leaves

-- a cell that fits
pub misfit-later : (kinds : List Scalar) (bytes : List ℕ) (k at : ℕ) (kind : Scalar) → slice_get kinds k ≡ Some kind →
    misfit (cell_shape kind) (take (size_of kind) (drop at bytes)) ≡ None →
    later at (left_at kinds bytes k at) ≡ later (at + size_of kind) (left_at kinds bytes (k + 1) (at + size_of kind))
misfit-later kinds bytes k at kind is fits =
    ap (λ (ks : List Scalar). later at (misfit (cells_shape ks) (drop at bytes))) (drop-get kinds k kind is)
    ∙ ap (later at) (cell-misfit kind (drop (k + 1) kinds) (drop at bytes))
    ∙ ap (λ (o : Option ℕ). later at (earlier o (size_of kind) (misfit (cells_shape (drop (k + 1) kinds)) (drop (size_of kind) (drop at bytes))))) fits
    ∙ later-later at (size_of kind) (misfit (cells_shape (drop (k + 1) kinds)) (drop (size_of kind) (drop at bytes)))
    ∙ ap (λ (bs : List ℕ). later (at + size_of kind) (misfit (cells_shape (drop (k + 1) kinds)) bs)) (drop-drop (size_of kind) at bytes)

-- a cell that fits has all its bytes
pub fits-long : (bytes : List ℕ) (at : ℕ) (kind : Scalar) → misfit (cell_shape kind) (take (size_of kind) (drop at bytes)) ≡ None →
    at + size_of kind ≤ length bytes
fits-long bytes at kind fits =
    let long = length-shape (cell_shape kind) (take (size_of kind) (drop at bytes)) fits in
    let size = length-cell_shape kind in
    let some = (size-some kind).0 in
    omega (arith, length-take (size_of kind) (drop at bytes), length-drop at bytes)

-- the place at which one doesn't is none behind the last byte
pub misfit-within-bytes : (bytes : List ℕ) (at : ℕ) (kind : Scalar) (inside : ℕ) →
    misfit (cell_shape kind) (take (size_of kind) (drop at bytes)) ≡ Some inside →
    at ≤ length bytes → at + inside ≤ length bytes
misfit-within-bytes bytes at kind inside leaves within =
    let near = misfit-within (cell_shape kind) (take (size_of kind) (drop at bytes)) inside leaves in
    omega (arith, length-take (size_of kind) (drop at bytes), length-drop at bytes)

-- behind the last cell
pub misfit-end : (kinds : List Scalar) (bytes : List ℕ) (k at : ℕ) → length kinds ≤ k → left_at kinds bytes k at ≡ misfit [] (drop at bytes)
misfit-end kinds bytes k at all = ap (λ (ks : List Scalar). misfit (cells_shape ks) (drop at bytes)) (drop_all k kinds all)

-- no byte is left there, or one is
pub misfit-none-left : (bytes : List ℕ) (at : ℕ) → at ≡ length bytes → misfit [] (drop at bytes) ≡ None
misfit-none-left bytes at all = ap (misfit []) (drop_all at bytes (omega arith))

pub misfit-some-left : (bytes : List ℕ) (at : ℕ) → at < length bytes → misfit [] (drop at bytes) ≡ Some 0
misfit-some-left bytes at few = some (drop at bytes) (omega (arith, length-drop at bytes))
  where
    some : (bs : List ℕ) → 0 < length bs → misfit [] bs ≡ Some 0
    some [] none = absurd (omega arith)
    some (b ∷ bs) one = refl

-- ---- restoring

-- a number whose bytes come first is the one that they stand for
pub number-is : (kind : Scalar) (n : ℤ) (bytes : List ℕ) → in_range kind n ≡ true → cell_bytes kind n ≡ take (size_of kind) bytes →
    n ≡ number_of kind bytes
number-is kind n bytes range written =
    sym (number-back kind n [] range) ∙ ap (number_of kind) (append-nil (cell_bytes kind n) ∙ written) ∙ number-take kind bytes

-- one cell more is set
pub put-step : (kinds : List Scalar) (bytes : List ℕ) (cells : List ℤ) (k at : ℕ) (kind : Scalar) (n : ℤ) → slice_get kinds k ≡ Some kind →
    k < length cells →
    n ≡ number_of kind (drop at bytes) →
    take (k + 1) (slice_set cells k n) ++ numbers_in (drop (k + 1) kinds) (drop (at + size_of kind) bytes) ≡
    take k cells ++ numbers_in (drop k kinds) (drop at bytes)
put-step kinds bytes cells k at kind n is within number =
    let front : take (k + 1) (slice_set cells k n) ≡ take k cells ++ n ∷ [] = ap (λ (i : ℕ). take i (slice_set cells k n)) (plus_one k)
    ∙ take-suc-set cells k n within in
    let behind : drop (at + size_of kind) bytes ≡ drop (size_of kind) (drop at bytes) = sym (drop-drop (size_of kind) at bytes) in
    ap (λ (s : List ℤ). s ++ numbers_in (drop (k + 1) kinds) (drop (at + size_of kind) bytes)) front
    ∙ append_assoc (take k cells) (n ∷ []) (numbers_in (drop (k + 1) kinds) (drop (at + size_of kind) bytes))
    ∙ ap (λ (bs : List ℕ). take k cells ++ n ∷ numbers_in (drop (k + 1) kinds) bs) behind
    ∙ ap (λ (m : ℤ). take k cells ++ m ∷ numbers_in (drop (k + 1) kinds) (drop (size_of kind) (drop at bytes))) number
    ∙ ap (λ (ks : List Scalar). take k cells ++ numbers_in ks (drop at bytes)) (sym (drop-get kinds k kind is))

-- the runner with one cell more
pub record Puts (first r after : Running) (k : ℕ) (n : ℤ) : Type 0 where
  pub same : after ≡ with_numbers first after.cells
  pub cells : after.cells ≡ slice_set r.cells k n

pub puts : (first r after : Running) (k : ℕ) (n m : ℤ) → r ≡ with_numbers first r.cells → m ≡ n → after ≡ with_cell r k m →
    Puts first r after k n
puts first r after k n m same number put =
    let made : after ≡ with_cell r k n = put ∙ ap (with_cell r k) number in
    let cells : after.cells ≡ slice_set r.cells k n = ap (λ (x : Running). x.cells) made in
    record {
      same = made ∙ ap (λ (x : Running). with_cell x k n) same ∙ ap (with_numbers first) (sym cells);
      cells = cells;
    }

-- behind the last cell all are set
pub put-end : (kinds : List Scalar) (bytes : List ℕ) (cells ns : List ℤ) (k at : ℕ) → length kinds ≤ k → length cells ≡ length kinds →
    take k cells ++ numbers_in (drop k kinds) (drop at bytes) ≡ ns → cells ≡ ns
put-end kinds bytes cells ns k at all long is =
    let none : numbers_in (drop k kinds) (drop at bytes) ≡ [] = ap (λ (ks : List Scalar). numbers_in ks (drop at bytes)) (drop_all k kinds all) in
    let whole : take k cells ≡ cells = take_all k cells (omega arith) in
    sym (append-nil cells) ∙ ap (λ (s : List ℤ). s ++ []) (sym whole) ∙ ap (λ (s : List ℤ). take k cells ++ s) (sym none) ∙ is

-- the parts of bytes that fit the cells from one on
pub record FitsFrom (kinds : List Scalar) (bytes : List ℕ) (k at : ℕ) (kind : Scalar) : Type 0 where
  pub front : misfit (cell_shape kind) (take (size_of kind) (drop at bytes)) ≡ None
  pub back : left_at kinds bytes (k + 1) (at + size_of kind) ≡ None

pub fits-from : (kinds : List Scalar) (bytes : List ℕ) (k at : ℕ) (kind : Scalar) → slice_get kinds k ≡ Some kind →
    left_at kinds bytes k at ≡ None → FitsFrom kinds bytes k at kind
fits-from kinds bytes k at kind is fits =
    let here : misfit (cells_shape (kind ∷ drop (k + 1) kinds)) (drop at bytes) ≡ None =
    subst (λ (ks : List Scalar). misfit (cells_shape ks) (drop at bytes) ≡ None) (drop-get kinds k kind is) fits in
    let parts = splits-cell kind (drop (k + 1) kinds) (drop at bytes) here in
    record {
      front = parts.front;
      back = subst (λ (bs : List ℕ). misfit (cells_shape (drop (k + 1) kinds)) bs ≡ None) (drop-drop (size_of kind) at bytes) parts.back;
    }

-- ---- the header

-- where bytes leave what a state begins with and a shape behind it
abbrev pub left_in : List ℕ → List Allowed → List ℕ → ℕ → Option ℕ
left_in wanted shape bytes k = misfit (map exactly (drop k wanted) ++ shape) (drop k bytes)

-- a byte that is wanted
pub same-byte : (wanted : List ℕ) (shape : List Allowed) (bytes : List ℕ) (k b : ℕ) → slice_get wanted k ≡ Some b →
    slice_get bytes k ≡ Some b →
    later k (left_in wanted shape bytes k) ≡ later (k + 1) (left_in wanted shape bytes (k + 1))
same-byte wanted shape bytes k b first second =
    ap (λ (ws : List ℕ). later k (misfit (map exactly ws ++ shape) (drop k bytes))) (drop-get wanted k b first)
    ∙ ap (λ (bs : List ℕ). later k (misfit (exactly b ∷ (map exactly (drop (k + 1) wanted) ++ shape)) bs)) (drop-get bytes k b second)
    ∙ ap (λ (t : Bool). later k (if t then option_map suc (left_in wanted shape bytes (k + 1)) else Some 0)) (equal b)
    ∙ shifted (left_in wanted shape bytes (k + 1))
  where
    equal : (b : ℕ) → (b == b) ≡ true
    equal b = grind (arith, nat_tests)

    shifted : (o : Option ℕ) → later k (option_map suc o) ≡ later (k + 1) o
    shifted None = refl
    shifted (Some n) = ap Some (omega arith)

-- another byte
pub other-byte : (wanted : List ℕ) (shape : List Allowed) (bytes : List ℕ) (k w b : ℕ) → slice_get wanted k ≡ Some w →
    slice_get bytes k ≡ Some b → b ≢ w →
    later k (left_in wanted shape bytes k) ≡ Some k
other-byte wanted shape bytes k w b first second differ =
    ap (λ (ws : List ℕ). later k (misfit (map exactly ws ++ shape) (drop k bytes))) (drop-get wanted k w first)
    ∙ ap (λ (bs : List ℕ). later k (misfit (exactly w ∷ (map exactly (drop (k + 1) wanted) ++ shape)) bs)) (drop-get bytes k b second)
    ∙ ap (λ (t : Bool). later k (if t then option_map suc (left_in wanted shape bytes (k + 1)) else Some 0)) (unequal b w differ)
    ∙ ap Some (omega arith)
  where
    unequal : (b w : ℕ) → b ≢ w → (b == w) ≡ false
    unequal b w differ = grind (arith, nat_tests)

-- no byte
pub no-byte : (wanted : List ℕ) (shape : List Allowed) (bytes : List ℕ) (k w : ℕ) → slice_get wanted k ≡ Some w → length bytes ≤ k →
    later k (left_in wanted shape bytes k) ≡ Some k
no-byte wanted shape bytes k w first few =
    ap (λ (ws : List ℕ). later k (misfit (map exactly ws ++ shape) (drop k bytes))) (drop-get wanted k w first)
    ∙ ap (λ (bs : List ℕ). later k (misfit (exactly w ∷ (map exactly (drop (k + 1) wanted) ++ shape)) bs)) (drop_all k bytes few)
    ∙ ap Some (omega arith)

-- the byte at a place
get-index : (xs : List ℕ) (k : ℕ) → k < length xs → slice_get xs k ≡ Some (slice_index xs k)
get-index [] k within = absurd (omega arith)
get-index (x ∷ xs) zero within = refl
get-index (x ∷ xs) (suc k) within = get-index xs k (omega arith)

-- the steps of the loop: a byte that is wanted, another one, and none
pub same-at : (wanted : List ℕ) (shape : List Allowed) (bytes : List ℕ) (k : ℕ) → k < length wanted → k < length bytes →
    slice_index bytes k ≡ slice_index wanted k →
    later k (left_in wanted shape bytes k) ≡ later (k + 1) (left_in wanted shape bytes (k + 1))
same-at wanted shape bytes k inside within is =
    same-byte wanted shape bytes k (slice_index wanted k) (get-index wanted k inside) (get-index bytes k within ∙ ap Some is)

pub other-at : (wanted : List ℕ) (shape : List Allowed) (bytes : List ℕ) (k : ℕ) → k < length wanted → k < length bytes →
    slice_index bytes k ≢ slice_index wanted k →
    later k (left_in wanted shape bytes k) ≡ Some k
other-at wanted shape bytes k inside within differ =
    other-byte wanted shape bytes k (slice_index wanted k) (slice_index bytes k) (get-index wanted k inside) (get-index bytes k within) differ

pub none-at : (wanted : List ℕ) (shape : List Allowed) (bytes : List ℕ) (k : ℕ) → k < length wanted → length bytes ≤ k →
    later k (left_in wanted shape bytes k) ≡ Some k
none-at wanted shape bytes k inside few = no-byte wanted shape bytes k (slice_index wanted k) (get-index wanted k inside) few

-- behind the last byte that is wanted
pub header-end : (wanted : List ℕ) (shape : List Allowed) (bytes : List ℕ) (k : ℕ) → k ≡ length wanted →
    later k (left_in wanted shape bytes k) ≡ earlier None (length wanted) (misfit shape (drop (length wanted) bytes))
header-end wanted shape bytes k all =
    ap (λ (i : ℕ). later i (left_in wanted shape bytes i)) all
    ∙ ap (λ (ws : List ℕ). later (length wanted) (misfit (map exactly ws ++ shape) (drop (length wanted) bytes)))
    (drop_all (length wanted) wanted (omega arith))

-- behind the last cell: no byte is left, or one is
pub cells-end-none : (kinds : List Scalar) (bytes : List ℕ) (k at : ℕ) → length kinds ≤ k → at ≡ length bytes →
    later at (left_at kinds bytes k at) ≡ None
cells-end-none kinds bytes k at all none = ap (later at) (misfit-end kinds bytes k at all ∙ misfit-none-left bytes at none)

pub cells-end-some : (kinds : List Scalar) (bytes : List ℕ) (k at : ℕ) → length kinds ≤ k → at < length bytes →
    later at (left_at kinds bytes k at) ≡ Some at
cells-end-some kinds bytes k at all few = ap (later at) (misfit-end kinds bytes k at all ∙ misfit-some-left bytes at few) ∙ ap Some (omega arith)
