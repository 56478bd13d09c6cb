-- Rows of inputs and outputs in the cells.
use Rattle.std.proofs.Common.{◌≡◌, ℕ, zero, suc, ◌+◌, ◌-◌, ◌<◌, ◌≤◌, ℤ, pos, true, ◌&&◌, List, [], ◌∷◌, map, length, take, drop, slice_get, slice_set}
use Rattle.std.proofs.Common.{Some, refl, ap, sym, ◌∙◌, arith, drop-cons, get_or}
use Rattle.std.specs.Prelude.{filter_map, option_map}
use Rattle.std.specs.List.{cons_option, list_all}
use Rattle.std.proofs.lemmas.List.{drop-take, length-map}
use Rattle.std.proofs.lemmas.Option.{get_or_from_slice_get, slice_get-get_or, slice_get-map, slice_get_within}
use Rattle.std.proofs.lemmas.Bool.{and_from}
use Rattle.bl_tree.proofs.Basics.{and_first, and_second, same_some}
use Rattle.bl_tree.specs.declared.scalar.Scalar.{Scalar}
use Rattle.bl_tree.specs.declared.scalar.Scalar.TheVariants.{Bool as OfBool}
use Rattle.bl_tree.specs.declared.c.CMember.{CMember}
use Rattle.bl_tree.specs.declared.c.CType.{CType}
use Rattle.bl_tree.specs.declared.c.CType.TheVariants.{Scalar as OfScalar, Struct as OfStruct}
use Rattle.bl_tree.specs.Scalar.{in_range}
use Rattle.bl_ctext_semantics.specs.Cells.{Cell, column_of, column_typed, numbers_of, outputs_in, port, with_inputs}
use Rattle.bl_ctext_semantics.specs.Memory.{Root, input_object, output_object, Memory, scalar_number, scalar, set_at, value_at}
use Rattle.bl_ctext_semantics_laws.specs.Fitting.{cell_holds}
use Rattle.bl_ctext_semantics_laws.specs.Flat.{with_args}
use Rattle.bl_tree.specs.Ports.{in_ranges, types_of}
use Rattle.bl_crun.proofs.Cells.{Separate, numbers-set}

-- ---- lists

pub set-taken : (n : ℕ) (xs : List ℤ) (k : ℕ) (x : ℤ) → take n (slice_set xs k x) ≡ slice_set (take n xs) k x
set-taken zero xs k x = refl
set-taken (suc n) [] k x = refl
set-taken (suc n) (y ∷ ys) zero x = refl
set-taken (suc n) (y ∷ ys) (suc k) x = ap (λ l. y ∷ l) (set-taken n ys k x)

pub args-taken : (n at : ℕ) (ns xs : List ℤ) → take n (with_args at ns xs) ≡ with_args at ns (take n xs)
args-taken n at [] xs = refl
args-taken n at (m ∷ ns) xs = args-taken n (suc at) ns (slice_set xs at m) ∙ ap (with_args (suc at) ns) (set-taken n xs at m)

take-taken : (n m : ℕ) (xs : List ℤ) → n ≤ m → take n (take m xs) ≡ take n xs
take-taken zero m xs h = refl
take-taken (suc n) zero xs h = absurd (omega arith)
take-taken (suc n) (suc m) [] h = refl
take-taken (suc n) (suc m) (x ∷ xs) h = ap (λ l. x ∷ l) (take-taken n m xs (omega arith))

pub within-taken : (n at m : ℕ) (xs : List ℤ) → ((j : ℕ) → n ≡ suc j → at + suc j ≤ m) → take n (drop at (take m xs)) ≡ take n (drop at xs)
within-taken zero at m xs fits = refl
within-taken (suc n) at m xs fits =
    let h = fits n refl in
    let e : m ≡ at + (m - at) = omega arith in
    ap (λ k. take (suc n) (drop at (take k xs))) e ∙ ap (take (suc n)) (drop-take at (m - at) xs) ∙ take-taken (suc n) (m - at) (drop at xs) (omega arith)

-- ---- ranges

pub ranges-are : (cs : List Cell) (memory : Memory) → list_all (cell_holds memory) cs ≡ in_ranges (map (λ c. c.kind) cs) (numbers_of cs memory)
ranges-are [] memory = refl
ranges-are (c ∷ cs) memory = ap (λ b. in_range c.kind (scalar_number (value_at memory c.location)) && b) (ranges-are cs memory)

pub ranges-long : (ts : List Scalar) (ns : List ℤ) → in_ranges ts ns ≡ true → length ns ≡ length ts
ranges-long [] [] h = refl
ranges-long [] (n ∷ ns) h = cc
ranges-long (t ∷ ts) [] h = cc
ranges-long (t ∷ ts) (n ∷ ns) h = ap suc (ranges-long ts ns (and_second (in_range t n) _ h))

pub ranges-set : (ts : List Scalar) (ns : List ℤ) (k : ℕ) (t : Scalar) (n : ℤ) → in_ranges ts ns ≡ true → slice_get ts k ≡ Some t →
    in_range t n ≡ true →
    in_ranges ts (slice_set ns k n) ≡ true
ranges-set [] ns k t n all there h = cc
ranges-set (u ∷ ts) [] k t n all there h = cc
ranges-set (u ∷ ts) (m ∷ ns) zero t n all there h = and_from _ _ (ap (λ s. in_range s n) (same_some u t there) ∙ h) (and_second (in_range u m) _ all)
ranges-set (u ∷ ts) (m ∷ ns) (suc k) t n all there h =
    and_from _ _ (and_first (in_range u m) _ all) (ranges-set ts ns k t n (and_second (in_range u m) _ all) there h)

pub ranges-at : (ts : List Scalar) (ns : List ℤ) (k : ℕ) (t : Scalar) (n : ℤ) → in_ranges ts ns ≡ true → slice_get ts k ≡ Some t →
    slice_get ns k ≡ Some n →
    in_range t n ≡ true
ranges-at [] ns k t n all there is = cc
ranges-at (u ∷ ts) [] k t n all there is = cc
ranges-at (u ∷ ts) (m ∷ ns) zero t n all there is =
    ap (λ s. in_range s n) (sym (same_some u t there)) ∙ ap (in_range u) (sym (same_some m n is)) ∙ and_first (in_range u m) _ all
ranges-at (u ∷ ts) (m ∷ ns) (suc k) t n all there is = ranges-at ts ns k t n (and_second (in_range u m) _ all) there is

-- ---- inputs and outputs

-- these are scalar members of an object, whose cells are those of a list from one on
abbrev pub StandAt : List Cell → ℕ → Root → List CMember → Type 0
StandAt cs at root ms =
    (k : ℕ) (m : CMember) → slice_get ms k ≡ Some m →
    (kind : Scalar) × ((m.ty ≡ OfScalar kind) × (slice_get cs (at + k) ≡ Some (record { location = port root m; kind = kind })))

stand-later : (cs : List Cell) (at : ℕ) (root : Root) (m : CMember) (ms : List CMember) → StandAt cs at root (m ∷ ms) → StandAt cs (suc at) root ms
stand-later cs at root m ms stand k n there =
    let p = stand (suc k) n there in
    let e : at + suc k ≡ suc at + k = omega arith in
    (p.0, (p.1.0, ap (slice_get cs) (sym e) ∙ p.1.1))

stand-first : (cs : List Cell) (at : ℕ) (root : Root) (m : CMember) (ms : List CMember) → StandAt cs at root (m ∷ ms) →
    (kind : Scalar) × ((m.ty ≡ OfScalar kind) × (slice_get cs at ≡ Some (record { location = port root m; kind = kind })))
stand-first cs at root m ms stand =
    let p = stand 0 m refl in
    let e : at + 0 ≡ at = omega arith in
    (p.0, (p.1.0, ap (slice_get cs) (sym e) ∙ p.1.1))

-- the numbers of cells whose inputs were set
pub inputs-set : (cs : List Cell) (apart : Separate cs) (at : ℕ) (ms : List CMember) (ns : List ℤ) (memory : Memory) → StandAt cs at input_object ms →
    length ns ≡ length ms →
    numbers_of cs (with_inputs ms ns memory) ≡ with_args at ns (numbers_of cs memory)
inputs-set cs apart at [] [] memory stand long = refl
inputs-set cs apart at [] (n ∷ ns) memory stand long = absurd (omega arith)
inputs-set cs apart at (m ∷ ms) [] memory stand long = absurd (omega arith)
inputs-set cs apart at (m ∷ ms) (n ∷ ns) memory stand long =
    let p = stand-first cs at input_object m ms stand in
    inputs-set cs apart (suc at) ms ns (set_at memory (port input_object m) (scalar n)) (stand-later cs at input_object m ms stand) (omega arith)
    ∙ ap (with_args (suc at) ns) (numbers-set cs at (record { location = port input_object m; kind = p.0 }) memory n apart p.1.1)

-- the outputs among the numbers of cells
pub outputs-taken : (cs : List Cell) (at : ℕ) (ms : List CMember) (memory : Memory) → StandAt cs at output_object ms →
    outputs_in ms memory ≡ take (length ms) (drop at (numbers_of cs memory))
outputs-taken cs at [] memory stand = refl
outputs-taken cs at (m ∷ ms) memory stand =
    let p = stand-first cs at output_object m ms stand in
    let there : slice_get (numbers_of cs memory) at ≡ Some (scalar_number (value_at memory (port output_object m))) =
    slice_get-map (λ (c : Cell). scalar_number (value_at memory c.location)) cs at
    ∙ ap (option_map (λ (c : Cell). scalar_number (value_at memory c.location))) p.1.1 in
    let is = get_or_from_slice_get (numbers_of cs memory) at (scalar_number (value_at memory (port output_object m))) (pos 0) there in
    ap (λ x. x ∷ outputs_in ms memory) (sym is)
    ∙ ap (λ l. get_or (numbers_of cs memory) at (pos 0) ∷ l) (outputs-taken cs (suc at) ms memory (stand-later cs at output_object m ms stand))
    ∙ ap (take (suc (length ms)))
    (sym (drop-cons (numbers_of cs memory) at (pos 0)
    (slice_get_within (numbers_of cs memory) at (scalar_number (value_at memory (port output_object m))) there)))

-- ---- columns

abbrev kind_in : CType → Scalar
kind_in (OfScalar kind) = kind
kind_in (OfStruct name) = OfBool

columns-are : (cs : List Cell) (at : ℕ) (root : Root) (ms : List CMember) → StandAt cs at root ms →
    filter_map column_of ms ≡ map (λ m. record { name = drop 2 m.name; ty = kind_in m.ty }) ms
columns-are cs at root [] stand = refl
columns-are cs at root (m ∷ ms) stand =
    let p = stand-first cs at root m ms stand in
    let e : column_of m ≡ Some (record { name = drop 2 m.name; ty = kind_in m.ty }) =
    ap (column_typed m.name) p.1.0 ∙ ap (λ t. Some (record { name = drop 2 m.name; ty = kind_in t })) (sym p.1.0) in
    ap (λ o. cons_option o (filter_map column_of ms)) e
    ∙ ap (λ l. record { name = drop 2 m.name; ty = kind_in m.ty } ∷ l) (columns-are cs (suc at) root ms (stand-later cs at root m ms stand))

pub columns-long : (cs : List Cell) (at : ℕ) (root : Root) (ms : List CMember) → StandAt cs at root ms → length (filter_map column_of ms) ≡ length ms
columns-long cs at root ms stand = ap length (columns-are cs at root ms stand) ∙ length-map ms (λ m. record { name = drop 2 m.name; ty = kind_in m.ty })

types-are : (ms : List CMember) → types_of (map (λ m. record { name = drop 2 m.name; ty = kind_in m.ty }) ms) ≡ map (λ m. kind_in m.ty) ms
types-are [] = refl
types-are (m ∷ ms) = ap (λ l. kind_in m.ty ∷ l) (types-are ms)

-- inputs in their ranges keep the cells in theirs
inputs-range : (cs : List Cell) (at : ℕ) (ms : List CMember) (ins ns : List ℤ) → StandAt cs at input_object ms →
    in_ranges (map (λ m. kind_in m.ty) ms) ins ≡ true →
    in_ranges (map (λ c. c.kind) cs) ns ≡ true → in_ranges (map (λ c. c.kind) cs) (with_args at ins ns) ≡ true
inputs-range cs at [] [] ns stand fit all = all
inputs-range cs at [] (n ∷ ins) ns stand fit all = cc
inputs-range cs at (m ∷ ms) [] ns stand fit all = cc
inputs-range cs at (m ∷ ms) (n ∷ ins) ns stand fit all =
    let p = stand-first cs at input_object m ms stand in
    inputs-range cs (suc at) ms ins (slice_set ns at n) (stand-later cs at input_object m ms stand) (and_second (in_range (kind_in m.ty) n) _ fit)
    (ranges-set (map (λ c. c.kind) cs) ns at p.0 n all (slice_get-map (λ (c : Cell). c.kind) cs at ∙ ap (option_map (λ (c : Cell). c.kind)) p.1.1)
    (ap (λ t. in_range (kind_in t) n) (sym p.1.0) ∙ and_first (in_range (kind_in m.ty) n) _ fit))

pub inputs-fit : (cs : List Cell) (at : ℕ) (ms : List CMember) (ins ns : List ℤ) → StandAt cs at input_object ms →
    in_ranges (types_of (filter_map column_of ms)) ins ≡ true →
    in_ranges (map (λ c. c.kind) cs) ns ≡ true → in_ranges (map (λ c. c.kind) cs) (with_args at ins ns) ≡ true
inputs-fit cs at ms ins ns stand fit all =
    inputs-range cs at ms ins ns stand (ap (λ ts. in_ranges ts ins) (sym (ap types_of (columns-are cs at input_object ms stand) ∙ types-are ms)) ∙ fit) all

-- the numbers of ports, of cells in their ranges
ports-range : (cs : List Cell) (at : ℕ) (root : Root) (ms : List CMember) (ns : List ℤ) → StandAt cs at root ms →
    in_ranges (map (λ c. c.kind) cs) ns ≡ true →
    in_ranges (map (λ m. kind_in m.ty) ms) (take (length ms) (drop at ns)) ≡ true
ports-range cs at root [] ns stand all = refl
ports-range cs at root (m ∷ ms) ns stand all =
    let p = stand-first cs at root m ms stand in
    let kind : slice_get (map (λ c. c.kind) cs) at ≡ Some p.0 =
    slice_get-map (λ (c : Cell). c.kind) cs at ∙ ap (option_map (λ (c : Cell). c.kind)) p.1.1 in
    let low = slice_get_within (map (λ (c : Cell). c.kind) cs) at p.0 kind in
    let long = ranges-long (map (λ (c : Cell). c.kind) cs) ns all in
    let within : at < length ns = omega arith in
    ap (λ l. in_ranges (kind_in m.ty ∷ map (λ m. kind_in m.ty) ms) (take (suc (length ms)) l)) (drop-cons ns at (pos 0) within)
    ∙ and_from _ _
    (ap (λ t. in_range (kind_in t) (get_or ns at (pos 0))) p.1.0
    ∙ ranges-at (map (λ (c : Cell). c.kind) cs) ns at p.0 (get_or ns at (pos 0)) all kind (slice_get-get_or ns at (pos 0) within))
    (ports-range cs (suc at) root ms ns (stand-later cs at root m ms stand) all)

pub outputs-fit : (cs : List Cell) (at : ℕ) (ms : List CMember) (ns : List ℤ) → StandAt cs at output_object ms →
    in_ranges (map (λ c. c.kind) cs) ns ≡ true →
    in_ranges (types_of (filter_map column_of ms)) (take (length ms) (drop at ns)) ≡ true
outputs-fit cs at ms ns stand all =
    ap (λ ts. in_ranges ts (take (length ms) (drop at ns))) (ap types_of (columns-are cs at output_object ms stand) ∙ types-are ms)
    ∙ ports-range cs at output_object ms ns stand all

pub inputs-long : (cs : List Cell) (at : ℕ) (ms : List CMember) (ins : List ℤ) → StandAt cs at input_object ms →
    in_ranges (types_of (filter_map column_of ms)) ins ≡ true → length ins ≡ length ms
inputs-long cs at ms ins stand fit =
    ranges-long (types_of (filter_map column_of ms)) ins fit ∙ ap (λ cols. length (types_of cols)) (columns-are cs at input_object ms stand)
    ∙ ap length (types-are ms) ∙ length-map ms (λ m. kind_in m.ty)
