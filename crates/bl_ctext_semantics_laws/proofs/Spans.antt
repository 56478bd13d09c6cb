-- What cells have after some of them were written.
use Rattle.std.proofs.Common.{◌≡◌, ℕ, zero, suc, ◌+◌, ◌-◌, ◌≤◌, ◌<◌, inl, inr, ⊎_elim, ℤ, pos, Bool, true, false, ◌&&◌, List, [], ◌∷◌, ◌++◌, length}
use Rattle.std.proofs.Common.{take, drop, get_or, refl, ap, ◌∙◌, arith, length-set, get_or-set_same, get_or-set_other, length-append, length-take-le}
use Rattle.std.proofs.Common.{length-drop, get_or-take, get_or-drop}
use Rattle.std.specs.Prelude.{nat_le, slice_set, if◌then◌else◌}
use Rattle.std.specs.List.{copy_within}
use Rattle.std.proofs.lemmas.Grind.{common_steps}
use Rattle.std.proofs.lemmas.List.{get_or_append_left, get_or-append_right}
use Rattle.bl_ctext_semantics_laws.specs.Flat.{Cells, cell_at, copied, with_args, zeroed}
use Rattle.bl_ctext_semantics_laws.proofs.Entries.{Apart}

pub set-there : (cells : Cells) (k : ℕ) (n : ℤ) → k < length cells → cell_at (slice_set cells k n) k ≡ n
set-there cells k n h = get_or-set_same cells k n (pos 0) h

pub set-elsewhere : (cells : Cells) (k j : ℕ) (n : ℤ) → Apart k 1 j 1 → cell_at (slice_set cells k n) j ≡ cell_at cells j
set-elsewhere cells k j n apart =
    get_or-set_other cells k j n (pos 0) (λ same. ⊎_elim (λ (l : k + 1 ≤ j). absurd (omega arith)) (λ (r : j + 1 ≤ k). absurd (omega arith)) apart)

-- ---- cells set to 0

pub length-zeroed : (n at : ℕ) (cells : Cells) → length (zeroed n at cells) ≡ length cells
length-zeroed zero at cells = refl
length-zeroed (suc n) at cells = length-zeroed n (suc at) (slice_set cells at (pos 0)) ∙ length-set cells at (pos 0)

pub zeroed-elsewhere : (n at : ℕ) (cells : Cells) (j : ℕ) → Apart at n j 1 → cell_at (zeroed n at cells) j ≡ cell_at cells j
zeroed-elsewhere zero at cells j apart = refl
zeroed-elsewhere (suc n) at cells j apart =
    let rest : Apart (suc at) n j 1 = ⊎_elim (λ (l : at + suc n ≤ j). inl (omega arith)) (λ (r : j + 1 ≤ at). inr (omega arith)) apart in
    let here : Apart at 1 j 1 = ⊎_elim (λ (l : at + suc n ≤ j). inl (omega arith)) (λ (r : j + 1 ≤ at). inr (omega arith)) apart in
    zeroed-elsewhere n (suc at) (slice_set cells at (pos 0)) j rest ∙ set-elsewhere cells at j (pos 0) here

pub zeroed-there : (n at : ℕ) (cells : Cells) (k : ℕ) → k < n → at + n ≤ length cells → cell_at (zeroed n at cells) (at + k) ≡ pos 0
zeroed-there zero at cells k h room = absurd (omega arith)
zeroed-there (suc n) at cells zero h room =
    let e : at + zero ≡ at = omega arith in
    ap (cell_at (zeroed n (suc at) (slice_set cells at (pos 0)))) e
    ∙ zeroed-elsewhere n (suc at) (slice_set cells at (pos 0)) at (inr (omega arith)) ∙ set-there cells at (pos 0) (omega arith)
zeroed-there (suc n) at cells (suc k) h room =
    let e : at + suc k ≡ suc at + k = omega arith in
    let l = length-set cells at (pos 0) in
    ap (cell_at (zeroed n (suc at) (slice_set cells at (pos 0)))) e ∙ zeroed-there n (suc at) (slice_set cells at (pos 0)) k (omega arith) (omega arith)

-- ---- arguments

pub length-args : (at : ℕ) (ns : List ℤ) (cells : Cells) → length (with_args at ns cells) ≡ length cells
length-args at [] cells = refl
length-args at (n ∷ ns) cells = length-args (suc at) ns (slice_set cells at n) ∙ length-set cells at n

pub args-elsewhere : (at : ℕ) (ns : List ℤ) (cells : Cells) (j : ℕ) → Apart at (length ns) j 1 → cell_at (with_args at ns cells) j ≡ cell_at cells j
args-elsewhere at [] cells j apart = refl
args-elsewhere at (n ∷ ns) cells j apart =
    let rest : Apart (suc at) (length ns) j 1 = ⊎_elim (λ (l : at + suc (length ns) ≤ j). inl (omega arith))
    (λ (r : j + 1 ≤ at). inr (omega arith)) apart in
    let here : Apart at 1 j 1 = ⊎_elim (λ (l : at + suc (length ns) ≤ j). inl (omega arith)) (λ (r : j + 1 ≤ at). inr (omega arith)) apart in
    args-elsewhere (suc at) ns (slice_set cells at n) j rest ∙ set-elsewhere cells at j n here

-- ---- copies

module _ (size from at : ℕ) (cells : Cells) (source : from + size ≤ length cells) (target : at + size ≤ length cells) where
  span : from + size - from ≡ size
  span = omega arith

  abbrev pasted : Cells
  pasted = take at cells ++ take size (drop from cells) ++ drop (at + size) cells

  chosen : (b c : Bool) → nat_le (from + size) (length cells) ≡ b → nat_le (at + size) (length cells) ≡ c →
      (if b && c then copy_within cells from (from + size) at else cells) ≡ pasted
  chosen true true hb hc = ap (λ n. take at cells ++ take n (drop from cells) ++ drop (at + n) cells) span
  chosen true false hb hc = absurd (grind (arith, common_steps))
  chosen false c hb hc = absurd (grind (arith, common_steps))

  copied-is : copied size from at cells ≡ pasted
  copied-is = chosen (nat_le (from + size) (length cells)) (nat_le (at + size) (length cells)) refl refl

  long-first : length (take at cells) ≡ at
  long-first = length-take-le at cells (omega arith)

  long-second : length (take size (drop from cells)) ≡ size
  long-second = let e = length-drop from cells in length-take-le size (drop from cells) (omega arith)

  abbrev head : Cells
  head = take at cells ++ take size (drop from cells)

  long-head : length head ≡ at + size
  long-head =
      let a = length-append (take at cells) (take size (drop from cells)) in
      let d = long-first in
      let e = long-second in
      omega arith

  pub length-copied : length (copied size from at cells) ≡ length cells
  length-copied =
      let a : length pasted ≡ length head + length (drop (at + size) cells) = length-append head (drop (at + size) cells) in
      let c = length-drop (at + size) cells in
      let d = long-head in
      ap length copied-is ∙ omega arith

  pub copied-there : (k : ℕ) → k < size → cell_at (copied size from at cells) (at + k) ≡ cell_at cells (from + k)
  copied-there k h =
      let e : at + k - at ≡ k = omega arith in
      let l = long-head in
      ap (λ c. cell_at c (at + k)) copied-is
      ∙ get_or_append_left head (drop (at + size) cells) (pos 0) (at + k) (omega arith)
      ∙ get_or-append_right (take at cells) (take size (drop from cells)) at (at + k) (pos 0) long-first (omega arith)
      ∙ ap (λ j. get_or (take size (drop from cells)) j (pos 0)) e
      ∙ get_or-take size (drop from cells) k (pos 0) h ∙ get_or-drop from cells k (pos 0)

  pub copied-elsewhere : (j : ℕ) → Apart at size j 1 → cell_at (copied size from at cells) j ≡ cell_at cells j
  copied-elsewhere j apart = ap (λ c. cell_at c j) copied-is ∙ ⊎_elim behind before apart
    where
      before : j + 1 ≤ at → cell_at pasted j ≡ cell_at cells j
      before h =
          let l = long-first in
          let m = long-head in
          get_or_append_left head (drop (at + size) cells) (pos 0) j (omega arith)
          ∙ get_or_append_left (take at cells) (take size (drop from cells)) (pos 0) j (omega arith) ∙ get_or-take at cells j (pos 0) (omega arith)

      behind : at + size ≤ j → cell_at pasted j ≡ cell_at cells j
      behind h =
          let e : at + size + (j - (at + size)) ≡ j = omega arith in
          get_or-append_right head (drop (at + size) cells) (at + size) j (pos 0) long-head h
          ∙ get_or-drop (at + size) cells (j - (at + size)) (pos 0) ∙ ap (cell_at cells) e
