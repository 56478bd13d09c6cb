-- Numbers as bytes, and back.
use Rattle.std.proofs.Common.{◌/◌, ◌%◌, ◌≡◌, ℕ, zero, suc, ◌+◌, ◌-◌, ◌*◌, ◌^◌, ◌<◌, ◌≤◌, List, []}
use Rattle.std.proofs.Common.{◌∷◌, length, take, slice_index, refl, sym, ap, ◌∙◌, arith}
use Rattle.std.proofs.Math.Nat.{div-one, pow-succ'}
use Rattle.std.proofs.lemmas.Nat.{div-mul-add, mod-mul-add}
use Rattle.std.specs.Int.{byte_at, bytes_high_first}
use Rattle.byteorder.specs.Endian.{big_from}
use Rattle.byteorder.specs.Numbers.{big_from-cons, big_from-lt}

-- a byte of a number, by its place
byte_at-pow : (k n : ℕ) → byte_at k n ≡ n / 256 ^ k % 256
byte_at-pow zero n = ap (λ (m : ℕ). m % 256) (sym (div-one n))
byte_at-pow (suc k) n = refl

-- the lowest bytes of a number that bytes stand for are these bytes
pub bytes-number : (k q : ℕ) (bs : List ℕ) → k ≤ length bs → ((i : ℕ) → slice_index bs i < 256) →
    bytes_high_first k (q * 256 ^ k + big_from 0 k bs) ≡ take k bs
bytes-number zero q bs long small = refl
bytes-number (suc k) q [] long small = absurd (omega arith)
bytes-number (suc k) q (b ∷ bs) long small =
    let inner : (i : ℕ) → slice_index bs i < 256 = λ i. small (suc i) in
    let byte : b < 256 = small 0 in
    let low = big_from-lt 0 k bs inner in
    let moved = big_from-cons 0 k b bs in
    let power = pow-succ' 256 k in
    let x : ℕ = q * 256 ^ suc k + big_from 0 (suc k) (b ∷ bs) in
    let split : x ≡ (q * 256 + b) * 256 ^ k + big_from 0 k bs = rw (moved, power) (omega arith) in
    let top : byte_at k x ≡ b = byte_at-pow k x ∙ ap (λ (n : ℕ). n / 256 ^ k % 256) split
    ∙ ap (λ (n : ℕ). n % 256) (div-mul-add (q * 256 + b) (256 ^ k) (big_from 0 k bs) low)
    ∙ mod-mul-add q 256 b byte in
    let rest : bytes_high_first k x ≡ take k bs = ap (bytes_high_first k) split ∙ bytes-number k (q * 256 + b) bs (omega arith) inner in
    rw (top, rest) refl

-- the low bits of a negative number
pub low-negative : (m h n : ℕ) → 2 ^ 128 ≡ h * m + m → n < m → (2 ^ 128 - suc n) % m ≡ m - suc n
low-negative m h n is small =
    let e : 2 ^ 128 - suc n ≡ h * m + (m - suc n) = omega arith in
    rw e (mod-mul-add h m (m - suc n) (omega arith))
