-- A position leads back to the offset at which a character begins there.
use Rattle.std.proofs.Common.{◌≡◌, ◌⊎◌, ℕ, zero, suc, ◌+◌, ◌<◌, ◌≤◌, Bool, true, false, not, ◌&&◌, ◌||◌, cond, nat_eq, nat_lt, List, [], ◌∷◌, length, take, drop, refl, sym, ap, ◌∙◌, arith}
use Rattle.std.proofs.lemmas.Bool.Decides.{nat_tests}
use Rattle.bl_lsp_text.specs.declared.position.Position.{Position}
use Rattle.bl_lsp_text.specs.declared.stand.Stand.{Stand}
use Rattle.bl_lsp_text.specs.Positions.{BeginsBehind, at_start, ends_line, goes_on, precedes, offset_from, passed, passed_all, position_by, stops, units_at}

-- one reader has come no further than another
abbrev NoFurther : Stand → Stand → Type 0
NoFurther one other = (one.line < other.line) ⊎ ((one.line ≡ other.line) × (one.unit ≤ other.unit))

-- one reader has come less far than another
abbrev Less : Stand → Stand → Type 0
Less one other = (one.line < other.line) ⊎ ((one.line ≡ other.line) × (one.unit < other.unit))

no_further-joined : (a b c : Stand) → NoFurther a b → NoFurther b c → NoFurther a c
no_further-joined a b c p q = grind arith

less-joined : (a b c : Stand) → Less a b → NoFurther b c → Less a c
less-joined a b c p q = grind arith

passed-no_further : (stand : Stand) (byte : ℕ) → NoFurther stand (passed stand byte)
passed-no_further stand byte = grind (arith, nat_tests)

itself : (stand : Stand) → NoFurther stand stand
itself stand = grind arith

passed_all-no_further : (stand : Stand) (bytes : List ℕ) → NoFurther stand (passed_all stand bytes)
passed_all-no_further stand [] = itself stand
passed_all-no_further stand (byte ∷ bytes) =
    no_further-joined stand (passed stand byte) (passed_all (passed stand byte) bytes) (passed-no_further stand byte)
    (passed_all-no_further (passed stand byte) bytes)

-- where a character begins, the reader comes further
further : (stand : Stand) (byte : ℕ) → goes_on stand byte ≡ false → Less stand (passed stand byte)
further stand byte begins = grind (arith, nat_tests)

-- a byte that ends a line
line-ends : (stand : Stand) (byte : ℕ) → goes_on stand byte ≡ false → ends_line byte ≡ true → stand.line < (passed stand byte).line
line-ends stand byte begins ends = grind (arith, nat_tests)

before-itself : (p : Position) → precedes p p ≡ false
before-itself p = grind (arith, nat_tests)

comes-before : (one other : Stand) → Less one other → precedes (position_by one) (position_by other) ≡ true
comes-before one other less = grind (arith, nat_tests)

not-at-end : (stand : Stand) (byte : ℕ) (later : Stand) → (ends_line byte ≡ true → stand.line < (passed stand byte).line) →
    NoFurther (passed stand byte) later → nat_eq stand.line later.line && ends_line byte ≡ false
not-at-end stand byte later ends no_further = grind (arith, nat_tests)

-- a reader stops where it has come to the position, and a character begins
stops-there : (stand : Stand) (target : Position) (byte : ℕ) → goes_on stand byte ≡ false → precedes (position_by stand) target ≡ false →
    stops stand target byte ≡ true
stops-there stand target byte begins here = rw (begins, here)

-- and not before
passes : (stand : Stand) (byte : ℕ) (later : Stand) (within : Bool) → goes_on stand byte ≡ within → NoFurther (passed stand byte) later →
    stops stand (position_by later) byte ≡ false
passes stand byte later true within no_further = rw within
passes stand byte later false begins no_further =
    rw (begins, comes-before stand later (less-joined stand (passed stand byte) later (further stand byte begins) no_further))
    (not-at-end stand byte later (line-ends stand byte begins) no_further)

pub leads-back : (stand : Stand) (bytes : List ℕ) (n : ℕ) → n ≤ length bytes → BeginsBehind (passed_all stand (take n bytes)) (drop n bytes) →
    offset_from stand (position_by (passed_all stand (take n bytes))) bytes ≡ n
leads-back stand [] zero within begins = refl
leads-back stand [] (suc n) within begins = absurd (omega arith)
leads-back stand (byte ∷ bytes) zero within begins = rw (stops-there stand (position_by stand) byte begins (before-itself (position_by stand)))
leads-back stand (byte ∷ bytes) (suc n) within begins =
    rw (passes stand byte (passed_all (passed stand byte) (take n bytes)) (goes_on stand byte) refl
    (passed_all-no_further (passed stand byte) (take n bytes)))
    (ap suc (leads-back (passed stand byte) bytes n (omega arith) begins))
