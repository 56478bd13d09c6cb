-- What the callees of an activity take.
use Rattle.std.proofs.Common.{◌≡◌, ℕ, zero, suc, ◌+◌, ◌*◌, ◌<◌, ◌≤◌, Bool, true, false, List, [], ◌∷◌, ◌++◌, map}
use Rattle.std.proofs.Common.{length, take}
use Rattle.std.proofs.Common.{Some, refl, ap, ◌∙◌, arith, length-append}
use Rattle.std.proofs.lemmas.List.{map-append}
use Rattle.std.proofs.lemmas.List.Elements.{All-head, All-tail, Contains-get_or}
use Rattle.std.specs.Prelude.{All, Contains, slice_get, if◌then◌else◌}
use Rattle.bl_tree.specs.declared.c.CMember.{CMember}
use Rattle.bl_tree.specs.Reduce.{greatest, joined, total}
use Rattle.bl_ctext_semantics.specs.Sizes.{Sizes, size_of_member}
use Rattle.bl_ctext_semantics.specs.Tables.{entry_or}
use Rattle.bl_emit_functions.specs.Functions.{memory_name}
use Rattle.bl_emit_spec.specs.Activities.{word_of_run, Activity, RunAt, activity_view, frame_member, memory_member, struct_member}
use Rattle.bl_emit_spec.specs.Blocks.{name_in}
use Rattle.bl_emit_spec.specs.Names.{callee_name, frame_name}
use Rattle.bl_tree.proofs.ReduceLemmas.{total-append}

-- ---- lists

pub all_such : {A : Type 0} (P : A → Type 0) (xs : List A) → ((x : A) → Contains xs x → P x) → All P xs
all_such P xs each k d less = each _ (Contains-get_or xs k d less)

pub got_before : {A : Type 0} (xs : List A) (k u : ℕ) (x : A) → slice_get xs k ≡ Some x → u < k → (y : A) × (slice_get xs u ≡ Some y)
got_before [] k u x there less = absurd (cc)
got_before (y ∷ xs) zero u x there less = absurd (omega (arith, less))
got_before (y ∷ xs) (suc k) zero x there less = (y, refl)
got_before (y ∷ xs) (suc k) (suc u) x there less = got_before xs k u x there (omega (arith, less))

-- ---- sums and greatest

module _ (frames memories reach most : ℕ → ℕ) where
  abbrev pub Fits : ℕ → Type 0
  Fits u = frames u + memories u + reach u + 4 ≤ most u

  pub sums-less : (us : List ℕ) → All Fits us →
      total (map frames us) + total (map memories us) + total (map reach us) + 4 * length us ≤ total (map most us)
  sums-less [] all = omega arith
  sums-less (u ∷ us) all =
      let one = All-head Fits u us all in
      let rest = sums-less us (All-tail Fits u us all) in
      omega (arith, one, rest)

pub greatest-less : (one other : ℕ → ℕ) (us : List ℕ) → All (λ u. one u ≤ other u) us → greatest (map one us) ≤ greatest (map other us)
greatest-less one other [] all = omega arith
greatest-less one other (u ∷ us) all =
    let first = All-head (λ u. one u ≤ other u) u us all in
    let rest = greatest-less one other us (All-tail (λ u. one u ≤ other u) u us all) in
    omega (arith, first, rest)

-- ---- members for callees

module _ (known : Sizes) (a : Activity) where
  abbrev pub frame_at : ℕ → ℕ
  frame_at u = entry_or 0 known (frame_name (name_in (slice_get a.earlier u)))

  abbrev pub memory_at : ℕ → ℕ
  memory_at u = entry_or 0 known (memory_name (name_in (slice_get a.earlier u)))

  abbrev units_run : List RunAt → List ℕ
  units_run runs = map (λ (run : RunAt). run.unit) runs

  abbrev member_cells : List CMember → ℕ
  member_cells members = total (map (size_of_member known) members)

  pub frames-are : (runs : List RunAt) → member_cells (map (frame_member a) runs) ≡ total (map frame_at (units_run runs))
  frames-are [] = refl
  frames-are (run ∷ runs) = let rest = frames-are runs in omega (arith, rest)

  abbrev where_remembered : Bool → RunAt → List CMember
  where_remembered b run =
      if b then struct_member (callee_name (word_of_run a.earlier run)) (memory_name (name_in (slice_get a.earlier run.unit))) ∷ [] else []

  memory-one : (b : Bool) (run : RunAt) → member_cells (where_remembered b run) ≤ memory_at run.unit
  memory-one true run = omega arith
  memory-one false run = omega arith

  pub memories-less : (runs : List RunAt) → member_cells (joined (map (memory_member a) runs)) ≤ total (map memory_at (units_run runs))
  memories-less [] = omega arith
  memories-less (run ∷ runs) =
      let split = ap total (map-append (size_of_member known) (memory_member a run) (joined (map (memory_member a) runs)))
      ∙ total-append (map (size_of_member known) (memory_member a run)) (map (size_of_member known) (joined (map (memory_member a) runs))) in
      let one = memory-one ((activity_view a).remembers run.unit) run in
      let rest = memories-less runs in
      omega (arith, split, one, rest)

  few-one : (b : Bool) (run : RunAt) → length (where_remembered b run) ≤ 1
  few-one true run = omega arith
  few-one false run = omega arith

  pub memories-few : (runs : List RunAt) → length (joined (map (memory_member a) runs)) ≤ length runs
  memories-few [] = omega arith
  memories-few (run ∷ runs) =
      let split = length-append (memory_member a run) (joined (map (memory_member a) runs)) in
      let one = few-one ((activity_view a).remembers run.unit) run in
      let rest = memories-few runs in
      omega (arith, split, one, rest)
