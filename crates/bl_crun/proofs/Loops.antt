-- The loops over rows.
use Rattle.std.proofs.Common.{◌≡◌, ℕ, zero, suc, ◌+◌, ◌≤◌, ◌<◌, ℤ, pos, Bool, true, false, ◌&&◌, List, [], ◌∷◌, ◌++◌, length, take, drop, get_or}
use Rattle.std.proofs.Common.{slice_get, slice_set, Some, refl, ap, sym, ◌∙◌, arith, drop-cons, get_or-drop, length-drop, length-set, take-suc}
use Rattle.std.proofs.lemmas.List.{take_more_set}
use Rattle.std.proofs.lemmas.Option.{get_or_from_slice_get, slice_get-get_or, slice_get_within}
use Rattle.bl_tree.specs.declared.row.Column.{Column}
use Rattle.bl_tree.specs.Scalar.{in_range}
use Rattle.bl_tree.specs.Ports.{in_ranges, types_of}
use Rattle.bl_ctext_semantics_laws.specs.Flat.{cell_at, with_args}
use Rattle.bl_crun_code.specs.Vm.{VmState}
use Rattle.bl_crun_code_vm.specs.Steps.{with_cells}

-- an input is set
pub args-step : (at k : ℕ) (ins cells all : List ℤ) (n : ℤ) → slice_get ins k ≡ Some n → with_args (at + k) (drop k ins) cells ≡ all →
    with_args (at + (k + 1)) (drop (k + 1) ins) (slice_set cells (at + k) n) ≡ all
args-step at k ins cells all n there before =
    let here : drop k ins ≡ n ∷ drop (suc k) ins =
    drop-cons ins k (pos 0) (slice_get_within ins k n there) ∙ ap (λ x. x ∷ drop (suc k) ins) (get_or_from_slice_get ins k n (pos 0) there) in
    let e : at + (k + 1) ≡ suc (at + k) = omega arith in
    let f : k + 1 ≡ suc k = omega arith in
    ap (λ j. with_args j (drop (k + 1) ins) (slice_set cells (at + k) n)) e ∙ ap (λ j. with_args (suc (at + k)) (drop j ins) (slice_set cells (at + k) n)) f
    ∙ ap (λ l. with_args (at + k) l cells) (sym here) ∙ before

-- an output is read
pub outs-step : (at k : ℕ) (outs cells : List ℤ) (n : ℤ) → k < length outs → slice_get cells (at + k) ≡ Some n →
    take k outs ≡ take k (drop at cells) →
    take (k + 1) (slice_set outs k n) ≡ take (k + 1) (drop at cells)
outs-step at k outs cells n within there before =
    let is : get_or (drop at cells) k (pos 0) ≡ n = get_or-drop at cells k (pos 0) ∙ get_or_from_slice_get cells (at + k) n (pos 0) there in
    let f : k + 1 ≡ suc k = omega arith in
    let inside : k < length (drop at cells) = let h = slice_get_within cells (at + k) n there in let d = length-drop at cells in omega arith in
    take_more_set outs k n within ∙ ap (λ l. l ++ n ∷ []) before ∙ ap (λ x. take k (drop at cells) ++ x ∷ []) (sym is)
    ∙ sym (ap (λ j. take j (drop at cells)) f ∙ take-suc (drop at cells) k (pos 0) inside)

pub outs-next : (at k : ℕ) (outs next old cells : List ℤ) (n : ℤ) → next ≡ slice_set outs k n → k < length outs →
    slice_get cells (at + k) ≡ Some n →
    length outs ≡ length old → take k outs ≡ take k (drop at cells) →
    (length next ≡ length old) × (take (k + 1) next ≡ take (k + 1) (drop at cells))
outs-next at k outs next old cells n is within there long before = (
  ap length is ∙ length-set outs k n ∙ long,
  ap (take (k + 1)) is ∙ outs-step at k outs cells n within there before,
)

-- ---- ranges

pub ranges-step : (k : ℕ) (columns : List Column) (row : List ℤ) (c : Column) (n : ℤ) (all : Bool) → slice_get columns k ≡ Some c →
    slice_get row k ≡ Some n →
    in_range c.ty n ≡ true →
    in_ranges (types_of (drop k columns)) (drop k row) ≡ all → in_ranges (types_of (drop (k + 1) columns)) (drop (k + 1) row) ≡ all
ranges-step k columns row c n all col num ok before = split k columns row col num before
  where
    some_is : {A : Type 0} (a b : A) → Some a ≡ Some b → a ≡ b
    some_is a b h = cc

    split : (k : ℕ) (columns : List Column) (row : List ℤ) → slice_get columns k ≡ Some c → slice_get row k ≡ Some n →
        in_ranges (types_of (drop k columns)) (drop k row) ≡ all → in_ranges (types_of (drop (k + 1) columns)) (drop (k + 1) row) ≡ all
    split k [] row col num before = cc
    split k (d ∷ columns) [] col num before = cc
    split zero (d ∷ columns) (m ∷ row) col num before =
        ap (λ b. b && in_ranges (types_of columns) row)
        (sym (ap (λ (x : Column). in_range x.ty m) (some_is d c col) ∙ ap (in_range c.ty) (some_is m n num) ∙ ok)) ∙ before
    split (suc k) (d ∷ columns) (m ∷ row) col num before =
        let e : suc k + 1 ≡ suc (k + 1) = omega arith in
        ap (λ j. in_ranges (types_of (drop j (d ∷ columns))) (drop j (m ∷ row))) e ∙ split k columns row col num before

pub ranges-fail : (k : ℕ) (columns : List Column) (row : List ℤ) (c : Column) (n : ℤ) (all : Bool) → slice_get columns k ≡ Some c →
    slice_get row k ≡ Some n →
    in_range c.ty n ≡ false →
    in_ranges (types_of (drop k columns)) (drop k row) ≡ all → all ≡ false
ranges-fail k columns row c n all col num bad before = split k columns row col num before
  where
    some_is : {A : Type 0} (a b : A) → Some a ≡ Some b → a ≡ b
    some_is a b h = cc

    split : (k : ℕ) (columns : List Column) (row : List ℤ) → slice_get columns k ≡ Some c → slice_get row k ≡ Some n →
        in_ranges (types_of (drop k columns)) (drop k row) ≡ all → all ≡ false
    split k [] row col num before = cc
    split k (d ∷ columns) [] col num before = cc
    split zero (d ∷ columns) (m ∷ row) col num before =
        sym before ∙ ap (λ b. b && in_ranges (types_of columns) row)
        (ap (λ (x : Column). in_range x.ty m) (some_is d c col) ∙ ap (in_range c.ty) (some_is m n num) ∙ bad)
    split (suc k) (d ∷ columns) (m ∷ row) col num before = split k columns row col num before

pub ranges-long : (columns : List Column) (row : List ℤ) → (length columns ≡ length row → ⊥) → in_ranges (types_of columns) row ≡ false
ranges-long [] [] differ = absurd (differ refl)
ranges-long [] (n ∷ row) differ = refl
ranges-long (c ∷ columns) [] differ = refl
ranges-long (c ∷ columns) (n ∷ row) differ =
    false-second (in_range c.ty n) (in_ranges (types_of columns) row) (ranges-long columns row (λ e. differ (ap suc e)))
  where
    false-second : (a b : Bool) → b ≡ false → (a && b) ≡ false
    false-second true b h = h
    false-second false b h = refl

-- ---- the loop that sets inputs

pub set-step : (r m n : VmState) (at k : ℕ) (ins all : List ℤ) (x : ℤ) → m ≡ with_cells r m.cells →
    n ≡ with_cells m (slice_set m.cells (at + k) x) →
    slice_get ins k ≡ Some x →
    with_args (at + k) (drop k ins) m.cells ≡ all →
    (n ≡ with_cells r n.cells) × (with_args (at + (k + 1)) (drop (k + 1) ins) n.cells ≡ all)
set-step r m n at k ins all x first then there before =
    let cells : n.cells ≡ slice_set m.cells (at + k) x = ap (λ (s : VmState). s.cells) then in (
      then ∙ ap (λ (s : VmState). with_cells s (slice_set m.cells (at + k) x)) first ∙ ap (with_cells r) (sym cells),
      ap (with_args (at + (k + 1)) (drop (k + 1) ins)) cells ∙ args-step at k ins m.cells all x there before,
    )

-- a cell that is there
pub cell-there : (cells : List ℤ) (k : ℕ) (n : ℤ) → k < length cells → n ≡ cell_at cells k → slice_get cells k ≡ Some n
cell-there cells k n h is = slice_get-get_or cells k (pos 0) h ∙ ap Some (sym is)

pub column-there : (columns : List Column) (k : ℕ) (c : Column) → k < length columns → c ≡ get_or columns k c → slice_get columns k ≡ Some c
column-there columns k c h is = slice_get-get_or columns k c h ∙ ap Some (sym is)
