-- Bytes that have a shape, and those that leave it.
use Rattle.std.proofs.Common.{◌≡◌, ℕ, zero, suc, ◌+◌, ◌<◌, ◌≤◌, List, [], ◌∷◌}
use Rattle.std.proofs.Common.{◌++◌, length, map, take, drop, replicate, slice_index, refl, sym, ap, ◌∙◌, subst, arith, Bool, true, false}
use Rattle.std.proofs.Common.{Option, Some, None}
use Rattle.std.specs.Prelude.{◌==◌, nat_le, option_map, if◌then◌else◌}
use Rattle.std.proofs.lemmas.Bool.Decides.{nat_tests}
use Rattle.bl_save.specs.inner.Shapes.{Allowed, exactly, at_most, allows, misfit, earlier}

-- ---- shapes that are joined

-- where bytes leave a shape of two parts: in the first part, or else in the second
pub misfit-append : (first second : List Allowed) (bytes : List ℕ) →
    misfit (first ++ second) bytes ≡ earlier (misfit first (take (length first) bytes)) (length first) (misfit second (drop (length first) bytes))
misfit-append [] second bytes = same (misfit second bytes)
  where
    same : (o : Option ℕ) → o ≡ option_map (λ n. 0 + n) o
    same None = refl
    same (Some n) = ap Some (omega arith)
misfit-append (a ∷ first) second [] = refl
misfit-append (a ∷ first) second (byte ∷ bytes) =
    ap (λ (o : Option ℕ). if allows a byte then option_map suc o else Some 0) (misfit-append first second bytes)
    ∙ step (allows a byte) (misfit first (take (length first) bytes)) (misfit second (drop (length first) bytes))
  where
    step : (b : Bool) (front later : Option ℕ) → (if b then option_map suc (earlier front (length first) later) else Some 0) ≡
        earlier (if b then option_map suc front else Some 0) (suc (length first)) later
    step false front later = refl
    step true (Some n) later = refl
    step true None None = refl
    step true None (Some n) = ap Some (omega arith)

-- bytes that have a shape of two parts have the first and then the second
pub record Splits (first second : List Allowed) (bytes : List ℕ) : Type 0 where
  pub front : misfit first (take (length first) bytes) ≡ None
  pub back : misfit second (drop (length first) bytes) ≡ None

pub splits : (first second : List Allowed) (bytes : List ℕ) → misfit (first ++ second) bytes ≡ None → Splits first second bytes
splits first second bytes fits =
    cases (misfit first (take (length first) bytes)) (misfit second (drop (length first) bytes)) refl refl (sym (misfit-append first second bytes) ∙ fits)
  where
    cases : (o p : Option ℕ) → misfit first (take (length first) bytes) ≡ o → misfit second (drop (length first) bytes) ≡ p →
        earlier o (length first) p ≡ None → Splits first second bytes
    cases (Some n) p front back none = absurd (cc)
    cases None (Some n) front back none = absurd (cc)
    cases None None front back none = record { front = front; back = back }

-- bytes that have a shape are as many
pub length-shape : (shape : List Allowed) (bytes : List ℕ) → misfit shape bytes ≡ None → length bytes ≡ length shape
length-shape [] [] fits = refl
length-shape [] (byte ∷ bytes) fits = absurd (cc)
length-shape (a ∷ shape) [] fits = absurd (cc)
length-shape (a ∷ shape) (byte ∷ bytes) fits = ap suc (length-shape shape bytes (rest (allows a byte) (misfit shape bytes) fits))
  where
    rest : (b : Bool) (o : Option ℕ) → (if b then option_map suc o else Some 0) ≡ None → o ≡ None
    rest true None is = refl
    rest true (Some n) is = absurd (cc)
    rest false o is = absurd (cc)

-- the first of two parts and the second
pub joins : (first second : List Allowed) (front back : List ℕ) → misfit first front ≡ None → misfit second back ≡ None →
    misfit (first ++ second) (front ++ back) ≡ None
joins [] second [] back fits later = later
joins [] second (byte ∷ front) back fits later = absurd (cc)
joins (a ∷ first) second [] back fits later = absurd (cc)
joins (a ∷ first) second (byte ∷ front) back fits later = both (allows a byte) (misfit first front) fits (λ is. joins first second front back is later)
  where
    both : (b : Bool) (o : Option ℕ) → (if b then option_map suc o else Some 0) ≡ None →
        (o ≡ None → misfit (first ++ second) (front ++ back) ≡ None) →
        (if b then option_map suc (misfit (first ++ second) (front ++ back)) else Some 0) ≡ None
    both true None is go = ap (option_map suc) (go refl)
    both true (Some n) is go = absurd (cc)
    both false o is go = absurd (cc)

-- ---- one byte alone at each place

-- such a byte may stand there
pub exactly-fits : (bytes : List ℕ) → misfit (map exactly bytes) bytes ≡ None
exactly-fits [] = refl
exactly-fits (byte ∷ bytes) = rw (same byte) (ap (option_map suc) (exactly-fits bytes))
  where
    same : (n : ℕ) → (n == n) ≡ true
    same n = grind (arith, nat_tests)

-- and no other may
pub exactly-is : (wanted bytes : List ℕ) → misfit (map exactly wanted) bytes ≡ None → bytes ≡ wanted
exactly-is [] [] fits = refl
exactly-is [] (byte ∷ bytes) fits = absurd (cc)
exactly-is (n ∷ wanted) [] fits = absurd (cc)
exactly-is (n ∷ wanted) (byte ∷ bytes) fits = both (byte == n) (misfit (map exactly wanted) bytes) refl fits (exactly-is wanted bytes)
  where
    both : (b : Bool) (o : Option ℕ) → (byte == n) ≡ b → (if b then option_map suc o else Some 0) ≡ None → (o ≡ None → bytes ≡ wanted) →
        byte ∷ bytes ≡ n ∷ wanted
    both true None equal is go = let e : byte ≡ n = grind (arith, nat_tests) in rw (e, go refl) refl
    both true (Some k) equal is go = absurd (cc)
    both false o equal is go = absurd (cc)

-- ---- any byte

-- too few bytes leave it behind the last
pub any-ends : (k : ℕ) (bytes : List ℕ) → length bytes < k → ((i : ℕ) → slice_index bytes i < 256) →
    misfit (replicate k (at_most 255)) bytes ≡ Some (length bytes)
any-ends zero bytes few small = absurd (omega arith)
any-ends (suc k) [] few small = refl
any-ends (suc k) (byte ∷ bytes) few small =
    let low : byte < 256 = small 0 in
    let passes : nat_le byte 255 ≡ true = grind (arith, nat_tests) in
    rw passes (ap (option_map suc) (any-ends k bytes (omega arith) (λ i. small (suc i))))

-- all that has it is made of bytes
pub any-bytes : (k : ℕ) (bytes : List ℕ) → misfit (replicate k (at_most 255)) bytes ≡ None → (i : ℕ) → slice_index bytes i < 256
any-bytes k [] fits i = omega arith
any-bytes zero (byte ∷ bytes) fits i = absurd (cc)
any-bytes (suc k) (byte ∷ bytes) fits i = both (nat_le byte 255) (misfit (replicate k (at_most 255)) bytes) refl fits (any-bytes k bytes) i
  where
    both : (b : Bool) (o : Option ℕ) → nat_le byte 255 ≡ b → (if b then option_map suc o else Some 0) ≡ None →
        (o ≡ None → (i : ℕ) → slice_index bytes i < 256) →
        (i : ℕ) → slice_index (byte ∷ bytes) i < 256
    both true (Some n) low is go i = absurd (cc)
    both false o low is go i = absurd (cc)
    both true None low is go zero = grind (arith, nat_tests)
    both true None low is go (suc i) = go refl i

-- ---- bytes that leave a shape

-- some bytes have a shape
abbrev pub filler : List Allowed → List ℕ
filler [] = []
filler (exactly n ∷ shape) = n ∷ filler shape
filler (at_most n ∷ shape) = 0 ∷ filler shape

-- those have it
pub filler-fits : (shape : List Allowed) → misfit shape (filler shape) ≡ None
filler-fits [] = refl
filler-fits (exactly n ∷ shape) = rw (same n) (ap (option_map suc) (filler-fits shape))
  where
    same : (k : ℕ) → (k == k) ≡ true
    same k = grind (arith, nat_tests)
filler-fits (at_most n ∷ shape) = rw (least n) (ap (option_map suc) (filler-fits shape))
  where
    least : (k : ℕ) → nat_le 0 k ≡ true
    least k = grind (arith, nat_tests)

-- bytes before the place at which they leave a shape begin some that have it
pub record Completes (shape : List Allowed) (front : List ℕ) : Type 0 where
  pub rest : List ℕ
  pub fits : misfit shape (front ++ rest) ≡ None

pub completes : (n : ℕ) (shape : List Allowed) (bytes : List ℕ) (at : ℕ) → misfit shape bytes ≡ Some at → n ≤ at →
    Completes shape (take n bytes)
completes zero shape bytes at leaves early = record { rest = filler shape; fits = filler-fits shape }
completes (suc n) [] [] at leaves early = absurd (cc)
completes (suc n) [] (byte ∷ bytes) at leaves early = let none : 0 ≡ at = cc in absurd (omega arith)
completes (suc n) (a ∷ shape) [] at leaves early = let none : 0 ≡ at = cc in absurd (omega arith)
completes (suc n) (a ∷ shape) (byte ∷ bytes) at leaves early = both (allows a byte) (misfit shape bytes) refl refl leaves (completes n shape bytes)
  where
    both : (b : Bool) (o : Option ℕ) → allows a byte ≡ b → misfit shape bytes ≡ o → (if b then option_map suc o else Some 0) ≡ Some at →
        ((at : ℕ) → misfit shape bytes ≡ Some at → n ≤ at → Completes shape (take n bytes)) → Completes (a ∷ shape) (byte ∷ take n bytes)
    both false o passes is leaves go = let none : 0 ≡ at = cc in absurd (omega arith)
    both true None passes is leaves go = absurd (cc)
    both true (Some later) passes is leaves go =
        let next : suc later ≡ at = cc in
        let inner = go later is (omega arith) in
        record { rest = inner.rest; fits = rw passes (ap (option_map suc) inner.fits) }

-- it is at most behind the last byte
pub misfit-within : (shape : List Allowed) (bytes : List ℕ) (at : ℕ) → misfit shape bytes ≡ Some at → at ≤ length bytes
misfit-within [] [] at leaves = absurd (cc)
misfit-within [] (byte ∷ bytes) at leaves = let none : 0 ≡ at = cc in omega arith
misfit-within (a ∷ shape) [] at leaves = let none : 0 ≡ at = cc in omega arith
misfit-within (a ∷ shape) (byte ∷ bytes) at leaves = both (allows a byte) (misfit shape bytes) refl leaves (misfit-within shape bytes)
  where
    both : (b : Bool) (o : Option ℕ) → misfit shape bytes ≡ o → (if b then option_map suc o else Some 0) ≡ Some at →
        ((at : ℕ) → misfit shape bytes ≡ Some at → at ≤ length bytes) → at ≤ suc (length bytes)
    both false o is leaves go = let none : 0 ≡ at = cc in omega arith
    both true None is leaves go = absurd (cc)
    both true (Some later) is leaves go = let next : suc later ≡ at = cc in let inner = go later is in omega arith

-- no place is none
none-before : (o : Option ℕ) → option_map suc o ≡ None → o ≡ None
none-before None is = refl
none-before (Some n) is = absurd (cc)

-- with the byte at that place they begin none
pub leaves-there : (shape : List Allowed) (bytes : List ℕ) (at : ℕ) (rest : List ℕ) → misfit shape bytes ≡ Some at → at < length bytes →
    misfit shape (take (suc at) bytes ++ rest) ≡ None → ⊥
leaves-there shape [] at rest leaves within fits = absurd (omega arith)
leaves-there [] (byte ∷ bytes) at rest leaves within fits = absurd (cc)
leaves-there (a ∷ shape) (byte ∷ bytes) at rest leaves within fits =
    both (allows a byte) (misfit shape bytes) refl refl leaves (λ later. leaves-there shape bytes later rest)
  where
    both : (b : Bool) (o : Option ℕ) → allows a byte ≡ b → misfit shape bytes ≡ o → (if b then option_map suc o else Some 0) ≡ Some at →
        ((later : ℕ) → misfit shape bytes ≡ Some later → later < length bytes →
        misfit shape (take (suc later) bytes ++ rest) ≡ None → ⊥) → ⊥
    both false o passes is leaves go = absurd (cc (rw passes at fits))
    both true None passes is leaves go = absurd (cc)
    both true (Some later) passes is leaves go =
        let next : suc later ≡ at = cc in
        let here : misfit (a ∷ shape) (take (suc (suc later)) (byte ∷ bytes) ++ rest) ≡ None =
        subst (λ (i : ℕ). misfit (a ∷ shape) (take (suc i) (byte ∷ bytes) ++ rest) ≡ None) (sym next) fits in
        go later is (omega arith) (none-before (misfit shape (take (suc later) bytes ++ rest)) (rw passes at here))
