-- Many cells set one after the other.
use Rattle.std.proofs.Common.{◌≡◌, ℕ, suc, zero, ◌+◌, ◌-◌, ◌≤◌, ◌<◌, ℤ, pos, List, [], ◌∷◌, length, drop, arith, sym, ◌∙◌, ap, refl, get_or, min, ◌^◌, ◌≢◌}
use Rattle.std.proofs.Common.{⊎_elim}
use Rattle.std.proofs.str.Laws.{order}
use Rattle.std.specs.Prelude.{slice_set}
use Rattle.std.proofs.lemmas.List.{set-set, set_comm, set_past, drop_all}
use Rattle.std.proofs.Math.Seq.{drop-cons}
use Rattle.bl_ctext_semantics_laws.specs.Flat.{Cells, frame_begun, with_args, zeroed}
use Rattle.bl_ctext_semantics_laws.proofs.Spans.{length-args, length-zeroed}

pub zeroed-past : (n at : ℕ) (cells : Cells) → length cells ≤ at → zeroed n at cells ≡ cells
zeroed-past zero at cells h = refl
zeroed-past (suc n) at cells h =
    let e : slice_set cells at (pos 0) ≡ cells = set_past cells at (pos 0) h in
    let after : length cells ≤ suc at = omega arith in
    ap (λ (c : Cells). zeroed n (suc at) c) e ∙ zeroed-past n (suc at) cells after

pub zeroed-one : (n at : ℕ) (cells : Cells) → 0 < n → zeroed n at cells ≡ zeroed (n - 1) (at + 1) (slice_set cells at (pos 0))
zeroed-one zero at cells h = absurd (omega arith)
zeroed-one (suc n) at cells h =
    let a : suc n - 1 ≡ n = omega arith in
    let b : at + 1 ≡ suc at = omega arith in
    rw (a, b) refl

pub with_args-past : (at : ℕ) (args : List ℤ) (cells : Cells) → length cells ≤ at → with_args at args cells ≡ cells
with_args-past at [] cells h = refl
with_args-past at (n ∷ args) cells h =
    let e : slice_set cells at n ≡ cells = set_past cells at n h in
    let after : length cells ≤ suc at = omega arith in
    ap (λ (c : Cells). with_args (suc at) args c) e ∙ with_args-past (suc at) args cells after

-- the next argument
pub with_args-one : (at k : ℕ) (args : List ℤ) (cells : Cells) → k < length args →
    with_args at (drop k args) cells ≡ with_args (at + 1) (drop (k + 1) args) (slice_set cells at (get_or args k (pos 0)))
with_args-one at k args cells h =
    let b : at + 1 ≡ suc at = omega arith in
    let d : k + 1 ≡ suc k = omega arith in
    rw (b, d) (rw (drop-cons args k (pos 0)) refl)

-- ---- loops that set one cell after the other

pub zero-more : (size at k : ℕ) (cells all : Cells) → k < at + size → zeroed (at + size - k) k cells ≡ all →
    zeroed (at + size - (k + 1)) (k + 1) (slice_set cells k (pos 0)) ≡ all
zero-more size at k cells all less h =
    let some : 0 < at + size - k = omega arith in
    let e : at + size - k - 1 ≡ at + size - (k + 1) = omega arith in
    ap (λ (n : ℕ). zeroed n (k + 1) (slice_set cells k (pos 0))) (sym e) ∙ (sym (zeroed-one (at + size - k) k cells some) ∙ h)

pub zero-last : (size at k : ℕ) (cells all : Cells) → min (min (at + size) (2 ^ 64 - 1)) (length cells) ≤ k → length cells < 2 ^ 64 →
    zeroed (at + size - k) k cells ≡ all → cells ≡ all
zero-last size at k cells all end small h =
    ⊎_elim
    (λ less. let past : length cells ≤ k = omega (arith, less) in sym (zeroed-past (at + size - k) k cells past) ∙ h)
    (λ more. let e : at + size - k ≡ 0 = omega (arith, more) in ap (λ (n : ℕ). zeroed n k cells) (sym e) ∙ h)
    (order k (at + size))

pub put-more : (at k : ℕ) (args : List ℤ) (cells all : Cells) → at ≤ k → k < at + length args → with_args k (drop (k - at) args) cells ≡ all →
    with_args (k + 1) (drop (k + 1 - at) args) (slice_set cells k (get_or args (k - at) (pos 0))) ≡ all
put-more at k args cells all low less h =
    let inside : k - at < length args = omega arith in
    let e : k - at + 1 ≡ k + 1 - at = omega arith in
    ap (λ (n : ℕ). with_args (k + 1) (drop n args) (slice_set cells k (get_or args (k - at) (pos 0)))) (sym e)
    ∙ (sym (with_args-one k (k - at) args cells inside) ∙ h)

pub put-last : (at k : ℕ) (args : List ℤ) (cells all : Cells) → min (min (at + length args) (2 ^ 64 - 1)) (length cells) ≤ k →
    length cells < 2 ^ 64 → at ≤ k →
    with_args k (drop (k - at) args) cells ≡ all → cells ≡ all
put-last at k args cells all end small low h =
    ⊎_elim
    (λ less. let past : length cells ≤ k = omega (arith, less) in sym (with_args-past k (drop (k - at) args) cells past) ∙ h)
    (λ more. let e : drop (k - at) args ≡ [] = drop_all (k - at) args (omega (arith, more)) in ap (λ (a : List ℤ). with_args k a cells) (sym e) ∙ h)
    (order k (at + length args))

-- ---- frames: arguments first, and 0 behind them

set-zeroed : (m at k : ℕ) (n : ℤ) (cells : Cells) → k < at → slice_set (zeroed m at cells) k n ≡ zeroed m at (slice_set cells k n)
set-zeroed zero at k n cells h = refl
set-zeroed (suc m) at k n cells h =
    let next : k < suc at = omega arith in
    let other : at ≢ k = omega arith in
    set-zeroed m (suc at) k n (slice_set cells at (pos 0)) next
    ∙ ap (λ (c : Cells). zeroed m (suc at) c) (set_comm cells at k (pos 0) n other)

pub frame-begun : (args : List ℤ) (size base : ℕ) (cells : Cells) →
    with_args base args (zeroed size base cells) ≡ zeroed (size - length args) (base + length args) (with_args base args cells)
frame-begun [] size base cells =
    let a : size - 0 ≡ size = omega arith in
    let b : base + 0 ≡ base = omega arith in
    rw (a, b) refl
frame-begun (n ∷ args) zero base cells =
    let a : 0 - length (n ∷ args) ≡ 0 = omega arith in
    rw a refl
frame-begun (n ∷ args) (suc size) base cells =
    let a : suc size - length (n ∷ args) ≡ size - length args = omega arith in
    let b : base + length (n ∷ args) ≡ suc base + length args = omega arith in
    let below : base < suc base = omega arith in
    ap (λ (c : Cells). with_args (suc base) args c)
    (set-zeroed size (suc base) base n (slice_set cells base (pos 0)) below ∙ ap (λ (c : Cells). zeroed size (suc base) c) (set-set cells base (pos 0) n))
    ∙ frame-begun args size (suc base) (slice_set cells base n)
    ∙ sym (ap (λ (k : ℕ). zeroed k (base + length (n ∷ args)) (with_args (suc base) args (slice_set cells base n))) a
    ∙ ap (λ (k : ℕ). zeroed (size - length args) k (with_args (suc base) args (slice_set cells base n))) b)

-- ---- no change of cells changes how many there are

pub length-frame : (size base : ℕ) (args : List ℤ) (cells : Cells) → length (frame_begun size base args cells) ≡ length cells
length-frame size base args cells = length-args base args (zeroed size base cells) ∙ length-zeroed size base cells
