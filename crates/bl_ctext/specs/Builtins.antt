-- The functions of the prelude: their names, and what each of them does.
use Rattle.std.specs.Prelude.{ℕ, true, false, List, [], ◌∷◌, ◌++◌, map, codes}
use Rattle.bl_tree.specs.declared.scalar.Scalar.{Scalar}
use Rattle.bl_tree.specs.declared.scalar.Scalar.TheVariants.{Int, Nat, Bits}
use Rattle.bl_tree.specs.declared.scalar.Width.TheVariants.{W8, W16, W32, W64}
use Rattle.bl_tree.specs.declared.scalar.Op.TheVariants.{Add, Sub, Mul, Div, Rem, Minus, BitAnd, BitOr, BitXor, BitNot, Shl, Shr}
use Rattle.bl_tree.specs.Reduce.{joined}
use Rattle.bl_ctext.specs.declared.builtin.Builtin.{Builtin}
use Rattle.bl_ctext.specs.declared.builtin.Builtin.TheVariants.{Two, One, Cast, Index, Turn, Stop}

-- the signed types, by the last words of the functions' names
abbrev pub int_types : List (List ℕ × Scalar)
int_types = (codes "i8", Int W8) ∷ (codes "i16", Int W16) ∷ (codes "i32", Int W32) ∷ (codes "i64", Int W64) ∷ []

-- the unsigned types, by the last words of the functions' names
abbrev pub nat_types : List (List ℕ × Scalar)
nat_types = (codes "n8", Nat W8) ∷ (codes "n16", Nat W16) ∷ (codes "n32", Nat W32) ∷ (codes "n64", Nat W64) ∷ []

-- the types of binary digits, by the last words of the functions' names
abbrev pub bits_types : List (List ℕ × Scalar)
bits_types = (codes "b8", Bits W8) ∷ (codes "b16", Bits W16) ∷ (codes "b32", Bits W32) ∷ (codes "b64", Bits W64) ∷ []

-- operations by the middle words of the functions' names
abbrev pub Operations : Type 0
Operations = List (List ℕ × (Scalar → Builtin))

-- the operations for every type
abbrev pub for_all : Operations
for_all =
    (codes "add", λ t. Two Add t) ∷ (codes "sub", λ t. Two Sub t) ∷ (codes "mul", λ t. Two Mul t) ∷ (codes "div", λ t. Two Div t)
    ∷ (codes "rem", λ t. Two Rem t) ∷
    (codes "of_s", λ t. Cast true t) ∷ (codes "of_u", λ t. Cast false t) ∷ []

-- the operations for signed types and for those of binary digits
abbrev pub for_signs : Operations
for_signs = (codes "neg", λ t. One Minus t) ∷ []

-- the operations for binary digits alone
abbrev pub for_bits : Operations
for_bits =
    (codes "not", λ t. One BitNot t) ∷ (codes "and", λ t. Two BitAnd t) ∷ (codes "or", λ t. Two BitOr t) ∷ (codes "xor", λ t. Two BitXor t) ∷
    (codes "shl", λ t. Two Shl t) ∷ (codes "shr", λ t. Two Shr t) ∷ []

-- each of the operations on each of the types, named `bl_`, the operation, `_` and the type
abbrev pub each_on : Operations → List (List ℕ × Scalar) → List (List ℕ × Builtin)
each_on operations types = joined (map (λ o. map (λ t. (codes "bl_" ++ (o.0 ++ (codes "_" ++ t.0)), o.1 t.1)) types) operations)

-- every function of the prelude by name
abbrev pub builtins : List (List ℕ × Builtin)
builtins =
    (codes "bl_turn", Turn) ∷ (codes "bl_ix_s", Index true) ∷ (codes "bl_ix_u", Index false) ∷ (codes "bl_trap", Stop) ∷
    (each_on for_all (int_types ++ (nat_types ++ bits_types)) ++ (each_on for_signs (int_types ++ bits_types) ++ each_on for_bits bits_types))
