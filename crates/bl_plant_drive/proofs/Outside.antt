-- A number outside its range is one that was given in this tick.
use Rattle.std.proofs.Common.{◌≡◌, ℕ, zero, suc, ◌+◌, ◌<◌, ◌≤◌, ℤ, pos, Bool, true, false, ◌&&◌}
use Rattle.std.proofs.Common.{List, [], ◌∷◌, ◌++◌, length, take, replicate}
use Rattle.std.proofs.Common.{Option, Some, refl, ap, sym, ◌∙◌, append_assoc, arith, length-append, take_all}
use Rattle.std.specs.List.{AllByRecursion, flat_map, list_all, slice_get}
use Rattle.std.proofs.lemmas.Grind.{flat_map-append}
use Rattle.std.proofs.lemmas.List.{length-replicate}
use Rattle.std.proofs.lemmas.List.Folds.{list_all-append}
use Rattle.bl_tree.proofs.Basics.{and_first, and_second, same_some}
use Rattle.bl_plant_drive.specs.Drives.{IsFirstOutside}
use Rattle.bl_plant_drive.specs.Roles.{IsGone, Plays, Role, inputs_at, inputs_before, last_row, numbers_at}
use Rattle.bl_tree.specs.Ports.{RowsFit, in_ranges, row_fits, types_of}
use Rattle.bl_tree.specs.Scalar.{in_range}
use Rattle.bl_tree.specs.declared.row.Column.{Column}
use Rattle.bl_tree.specs.declared.scalar.Scalar.{Scalar}
use Rattle.bl_tree.specs.declared.scalar.Scalar.TheVariants as scalar
use Rattle.bl_tree.specs.declared.scalar.Width.TheVariants as width

-- ---- ranges

range-at : (columns : List Column) (numbers : List ℤ) (k : ℕ) (c : Column) (n : ℤ) → in_ranges (types_of columns) numbers ≡ true →
    slice_get columns k ≡ Some c → slice_get numbers k ≡ Some n → in_range c.ty n ≡ true
range-at [] numbers k c n fit column number = cc
range-at (d ∷ columns) [] k c n fit column number = cc
range-at (d ∷ columns) (m ∷ numbers) zero c n fit column number =
    sym (ap (λ (x : Column). in_range x.ty m) (same_some d c column) ∙ ap (in_range c.ty) (same_some m n number))
    ∙ and_first (in_range d.ty m) (in_ranges (types_of columns) numbers) fit
range-at (d ∷ columns) (m ∷ numbers) (suc k) c n fit column number =
    range-at columns numbers k c n (and_second (in_range d.ty m) (in_ranges (types_of columns) numbers) fit) column number

zero-fits : (s : Scalar) → in_range s (pos 0) ≡ true
zero-fits scalar.Bool = refl
zero-fits (scalar.Int width.W8) = refl
zero-fits (scalar.Int width.W16) = refl
zero-fits (scalar.Int width.W32) = refl
zero-fits (scalar.Int width.W64) = refl
zero-fits (scalar.Nat width.W8) = refl
zero-fits (scalar.Nat width.W16) = refl
zero-fits (scalar.Nat width.W32) = refl
zero-fits (scalar.Nat width.W64) = refl
zero-fits (scalar.Bits width.W8) = refl
zero-fits (scalar.Bits width.W16) = refl
zero-fits (scalar.Bits width.W32) = refl
zero-fits (scalar.Bits width.W64) = refl

zeros-at : (n k : ℕ) (x : ℤ) → slice_get (replicate n (pos 0)) k ≡ Some x → x ≡ pos 0
zeros-at zero k x e = cc
zeros-at (suc n) zero x e = sym (same_some (pos 0) x e)
zeros-at (suc n) (suc k) x e = zeros-at n k x e

behind-front : (front : List ℤ) (rest more : List ℤ) (k : ℕ) (x : ℤ) → slice_get rest k ≡ Some x →
    slice_get (front ++ (rest ++ more)) (length front + k) ≡ Some x
behind-front [] rest more k x e = ap (slice_get (rest ++ more)) (omega arith) ∙ in-front rest more k x e
  where
    in-front : (rest more : List ℤ) (k : ℕ) (x : ℤ) → slice_get rest k ≡ Some x → slice_get (rest ++ more) k ≡ Some x
    in-front [] more k x e = cc
    in-front (r ∷ rest) more zero x e = e
    in-front (r ∷ rest) more (suc k) x e = in-front rest more k x e
behind-front (f ∷ front) rest more k x e =
    ap (slice_get (f ∷ (front ++ (rest ++ more)))) (let s : suc (length front) + k ≡ suc (length front + k) = omega arith in s)
    ∙ behind-front front rest more k x e

-- ---- widths

pub last-wide : (w : ℕ) (first : List ℤ) (rows : List (List ℤ)) → length first ≡ w → AllByRecursion (λ row. length row ≡ w) rows →
    length (last_row first rows) ≡ w
last-wide w first [] is all = is
last-wide w first (row ∷ rows) is all = last-wide w row rows all.0 all.1

take-wide : (w k : ℕ) (rows : List (List ℤ)) → AllByRecursion (λ row. length row ≡ w) rows → AllByRecursion (λ row. length row ≡ w) (take k rows)
take-wide w zero rows all = tt
take-wide w (suc k) [] all = tt
take-wide w (suc k) (row ∷ rows) all = (all.0, take-wide w k rows all.1)

numbers-wide : (k : ℕ) (r : Role) → AllByRecursion (λ row. length row ≡ r.plant.width) r.part.given → length (numbers_at k r) ≡ r.plant.width
numbers-wide k r all =
    last-wide r.plant.width (replicate r.plant.width (pos 0)) (take (suc k) r.part.given) (length-replicate r.plant.width (pos 0))
    (take-wide r.plant.width (suc k) r.part.given all)

same-wide : (j k : ℕ) (outs told : List (List ℤ)) (n : ℕ) (cast : List Role) → AllByRecursion (Plays outs told n) cast →
    length (inputs_at j cast) ≡ length (inputs_at k cast)
same-wide j k outs told n [] plays = refl
same-wide j k outs told n (r ∷ cast) plays =
    let here : length (numbers_at j r) ≡ length (numbers_at k r) = numbers-wide j r plays.0.widths ∙ sym (numbers-wide k r plays.0.widths) in
    let others = same-wide j k outs told n cast plays.1 in
    length-append (numbers_at j r) (inputs_at j cast) ∙ both here others ∙ sym (length-append (numbers_at k r) (inputs_at k cast))
  where
    both : {a b c d : ℕ} → a ≡ b → c ≡ d → a + c ≡ b + d
    both e f = omega (arith, e, f)

-- ---- the plant gave in this tick

kept-numbers : (r : Role) (m : ℕ) → length r.part.given ≤ suc m → numbers_at (suc m) r ≡ numbers_at m r
kept-numbers r m low =
    ap (last_row (replicate r.plant.width (pos 0)))
    (take_all (suc (suc m)) r.part.given (omega (arith, low)) ∙ sym (take_all (suc m) r.part.given low))

pub none-outside : (columns : List Column) (ins outs : List (List ℤ)) (asked : List Role) (role : Role) (others : List Role) (column : ℕ) (number : ℤ)
    (n : ℕ) → n ≡ length ins → RowsFit columns ins → ins ≡ inputs_before ((asked ++ role ∷ []) ++ others) (length ins) →
    AllByRecursion (Plays outs outs (suc n)) asked → Plays outs outs (suc n) role → role.part.gone ≡ true →
    IsFirstOutside columns (length (inputs_at n asked)) (numbers_at n role) column number → ⊥
none-outside columns ins outs asked role others column number zero long fit are earlier plays over outside =
    let was : IsGone outs 1 role = plays.gone over in
    let low = was.earlier in
    let nothing : numbers_at 0 role ≡ replicate role.plant.width (pos 0) =
    ap (λ (g : List (List ℤ)). last_row (replicate role.plant.width (pos 0)) (take 1 g)) (no-rows role.part.given low) in
    let is : number ≡ pos 0 = zeros-at role.plant.width outside.at number (ap (λ z. slice_get z outside.at) (sym nothing) ∙ outside.is) in
    let bad : true ≡ false = sym (zero-fits outside.input.ty) ∙ ap (in_range outside.input.ty) (sym is) ∙ outside.outside in
    cc
  where
    no-rows : (rows : List (List ℤ)) → length rows < 1 → rows ≡ []
    no-rows [] low = refl
    no-rows (row ∷ rows) low = let l : suc (length rows) < 1 = low in absurd (omega (arith, l))
none-outside columns ins outs asked role others column number (suc m) long fit are earlier plays over outside =
    let was : IsGone outs (suc (suc m)) role = plays.gone over in
    let low = was.earlier in
    let cast : List Role = (asked ++ role ∷ []) ++ others in
    let rows : ins ≡ inputs_before cast m ++ inputs_at m cast ∷ [] = are ∙ ap (inputs_before cast) (sym long) in
    let last-fits : row_fits columns (inputs_at m cast) ≡ true =
    and_first (row_fits columns (inputs_at m cast)) true
    (and_second (list_all (row_fits columns) (inputs_before cast m)) (list_all (row_fits columns) (inputs_at m cast ∷ []))
    (sym (list_all-append (row_fits columns) (inputs_before cast m) (inputs_at m cast ∷ [])) ∙ ap (list_all (row_fits columns)) (sym rows) ∙ fit)) in
    let split : inputs_at m cast ≡ inputs_at m asked ++ (numbers_at m role ++ inputs_at m others) =
    ap (flat_map (numbers_at m)) (append_assoc asked (role ∷ []) others) ∙ flat_map-append (numbers_at m) asked (role ∷ others) in
    let before : number-at (numbers_at m role) ≡ Some number =
    ap number-at (sym (kept-numbers role m (omega (arith, low)))) ∙ outside.is in
    let there : slice_get (inputs_at m cast) (length (inputs_at m asked) + outside.at) ≡ Some number =
    ap (λ z. slice_get z (length (inputs_at m asked) + outside.at)) split
    ∙ behind-front (inputs_at m asked) (numbers_at m role) (inputs_at m others) outside.at number before in
    let wide : length (inputs_at (suc m) asked) ≡ length (inputs_at m asked) = same-wide (suc m) m outs outs (suc (suc m)) asked earlier in
    let holds : in_range outside.input.ty number ≡ true =
    range-at columns (inputs_at m cast) (length (inputs_at m asked) + outside.at) outside.input number last-fits
    (ap (λ w. slice_get columns (w + outside.at)) (sym wide) ∙ outside.input_is) there in
    let bad : true ≡ false = sym holds ∙ outside.outside in
    cc
  where
    number-at : List ℤ → Option ℤ
    number-at numbers = slice_get numbers outside.at
