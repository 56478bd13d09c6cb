-- Values and arguments in a C text and over numbered cells.
use Rattle.std.proofs.Common.{◌≡◌, ℕ, ℤ, pos, negsuc, Bool, true, false, not, List, [], ◌∷◌, map, Option, Some, None, refl, ap, sym, subst, ◌∙◌, arith}
use Rattle.std.specs.Prelude.{if◌then◌else◌}
use Rattle.std.proofs.lemmas.Int.{ints}
use Rattle.std.proofs.lemmas.Slice.Eq.{bytes_eq-Decides}
use Rattle.std.proofs.lemmas.Bool.{and_from}
use Rattle.bl_tree.proofs.Basics.{and_first, and_second}
use Rattle.bl_tree.specs.declared.scalar.Scalar.{Scalar}
use Rattle.bl_tree.specs.declared.scalar.Scalar.TheVariants.{Bool as OfBool, Int, Nat, Bits}
use Rattle.bl_tree.specs.declared.scalar.Width.{Width}
use Rattle.bl_tree.specs.declared.scalar.Width.TheVariants.{W8, W16, W32, W64}
use Rattle.bl_tree.specs.declared.scalar.Op.{Op}
use Rattle.bl_tree.specs.declared.scalar.Op.TheVariants.{Add, Sub, Mul, Div, Rem, Minus, BitAnd, BitOr, BitXor, BitNot, Shl, Shr, Eq, Ne, Lt, Le, Gt}
use Rattle.bl_tree.specs.declared.scalar.Op.TheVariants.{Ge, And, Or, Not}
use Rattle.bl_tree.specs.declared.c.CType.{CType}
use Rattle.bl_tree.specs.declared.c.CType.TheVariants.{Scalar as OfScalar, Struct as OfStruct}
use Rattle.bl_tree.specs.Scalar.{in_range}
use Rattle.bl_tree.specs.Numbers.{number_of}
use Rattle.bl_ctext.specs.Spellable.{is_literal}
use Rattle.bl_ctext_semantics.specs.Memory.{CValue, Location, Memory, scalar_number}
use Rattle.bl_ctext_semantics.specs.Meaning.{ArgumentValue, by_value, by_address, number_of_passed}
use Rattle.bl_ctext_semantics.specs.Sizes.{Sizes}
use Rattle.bl_ctext_semantics.specs.Faults.{JudgedArg, Variable, agree, by_value as by_value_of, fit_each, fits_arg, fits_param, if_typed, same_scalar}
use Rattle.bl_ctext_semantics.specs.Faults.{same_type, same_width, takes}
use Rattle.bl_tree.specs.Ports.{in_ranges}
use Rattle.bl_ctext_semantics_laws.proofs.Ways.{Lists, Shaped, Structs}
use Rattle.bl_ctext_semantics_laws.proofs.Standing.{World}
use Rattle.bl_ctext_semantics_laws.proofs.Running.{AddressAt, PassedAll, PassedFor, Valued, ValuedAs}

-- ---- types

same-width : (v w : Width) → same_width v w ≡ true → v ≡ w
same-width W8 W8 h = refl
same-width W16 W16 h = refl
same-width W32 W32 h = refl
same-width W64 W64 h = refl
same-width W8 W16 h = cc
same-width W8 W32 h = cc
same-width W8 W64 h = cc
same-width W16 W8 h = cc
same-width W16 W32 h = cc
same-width W16 W64 h = cc
same-width W32 W8 h = cc
same-width W32 W16 h = cc
same-width W32 W64 h = cc
same-width W64 W8 h = cc
same-width W64 W16 h = cc
same-width W64 W32 h = cc

pub same-scalar : (s t : Scalar) → same_scalar s t ≡ true → s ≡ t
same-scalar OfBool OfBool h = refl
same-scalar (Int v) (Int w) h = ap Int (same-width v w h)
same-scalar (Nat v) (Nat w) h = ap Nat (same-width v w h)
same-scalar (Bits v) (Bits w) h = ap Bits (same-width v w h)
same-scalar OfBool (Int w) h = cc
same-scalar OfBool (Nat w) h = cc
same-scalar OfBool (Bits w) h = cc
same-scalar (Int v) OfBool h = cc
same-scalar (Int v) (Nat w) h = cc
same-scalar (Int v) (Bits w) h = cc
same-scalar (Nat v) OfBool h = cc
same-scalar (Nat v) (Int w) h = cc
same-scalar (Nat v) (Bits w) h = cc
same-scalar (Bits v) OfBool h = cc
same-scalar (Bits v) (Int w) h = cc
same-scalar (Bits v) (Nat w) h = cc

pub same-type : (s t : CType) → same_type s t ≡ true → s ≡ t
same-type (OfScalar s) (OfScalar t) h = ap OfScalar (same-scalar s t h)
same-type (OfStruct m) (OfStruct n) h = ap OfStruct ((bytes_eq-Decides m n).0 h)
same-type (OfScalar s) (OfStruct n) h = cc
same-type (OfStruct m) (OfScalar t) h = cc

-- ---- numbers in range

int-widens : (w : Width) (n : ℤ) → in_range (Int w) n ≡ true → in_range (Int W64) n ≡ true
int-widens W8 n h = grind (arith, ints)
int-widens W16 n h = grind (arith, ints)
int-widens W32 n h = grind (arith, ints)
int-widens W64 n h = h

nat-widens : (w : Width) (n : ℤ) → in_range (Nat w) n ≡ true → in_range (Nat W64) n ≡ true
nat-widens W8 n h = grind (arith, ints)
nat-widens W16 n h = grind (arith, ints)
nat-widens W32 n h = grind (arith, ints)
nat-widens W64 n h = h

pub literal-fits : (t : Scalar) (n : ℤ) → is_literal t n ≡ true → in_range t n ≡ true
literal-fits OfBool (pos n) h = grind (arith, ints)
literal-fits OfBool (negsuc n) h = cc
literal-fits (Int W8) (pos n) h = grind (arith, ints)
literal-fits (Int W16) (pos n) h = grind (arith, ints)
literal-fits (Int W32) (pos n) h = grind (arith, ints)
literal-fits (Int W64) (pos n) h = grind (arith, ints)
literal-fits (Int W8) (negsuc n) h = grind (arith, ints)
literal-fits (Int W16) (negsuc n) h = grind (arith, ints)
literal-fits (Int W32) (negsuc n) h = grind (arith, ints)
literal-fits (Int W64) (negsuc n) h = grind (arith, ints)
literal-fits (Nat W8) (pos n) h = grind (arith, ints)
literal-fits (Nat W16) (pos n) h = grind (arith, ints)
literal-fits (Nat W32) (pos n) h = grind (arith, ints)
literal-fits (Nat W64) (pos n) h = grind (arith, ints)
literal-fits (Nat w) (negsuc n) h = cc
literal-fits (Bits w) n h = cc

pub truth-fits : (b : Bool) → in_range OfBool (number_of b) ≡ true
truth-fits true = refl
truth-fits false = refl

module _ (known : Sizes) (lists : Lists) (structs : Structs) (shaped : Shaped known lists structs) (limit : ℕ) (w : World) (memory : Memory) where
  abbrev ValueAs : CType → CValue → ℤ → Type 0
  ValueAs = ValuedAs known lists structs shaped limit w memory

  abbrev Value : Option CType → CValue → ℤ → Type 0
  Value = Valued known lists structs shaped limit w memory

  -- ---- operands

  pub operand-number : (op : Op) (ty : Option CType) (v : CValue) (n : ℤ) → if_typed ty (takes op) ≡ true → Value ty v n → scalar_number v ≡ n
  operand-number op None v n h valued = absurd valued
  operand-number op (Some (OfScalar kind)) v n h valued = valued.0
  operand-number Eq (Some (OfStruct name)) v n h valued = cc
  operand-number Ne (Some (OfStruct name)) v n h valued = cc
  operand-number Lt (Some (OfStruct name)) v n h valued = cc
  operand-number Le (Some (OfStruct name)) v n h valued = cc
  operand-number Gt (Some (OfStruct name)) v n h valued = cc
  operand-number Ge (Some (OfStruct name)) v n h valued = cc
  operand-number And (Some (OfStruct name)) v n h valued = cc
  operand-number Or (Some (OfStruct name)) v n h valued = cc
  operand-number Add (Some (OfStruct name)) v n h valued = cc
  operand-number Sub (Some (OfStruct name)) v n h valued = cc
  operand-number Mul (Some (OfStruct name)) v n h valued = cc
  operand-number Div (Some (OfStruct name)) v n h valued = cc
  operand-number Rem (Some (OfStruct name)) v n h valued = cc
  operand-number Minus (Some (OfStruct name)) v n h valued = cc
  operand-number BitAnd (Some (OfStruct name)) v n h valued = cc
  operand-number BitOr (Some (OfStruct name)) v n h valued = cc
  operand-number BitXor (Some (OfStruct name)) v n h valued = cc
  operand-number BitNot (Some (OfStruct name)) v n h valued = cc
  operand-number Shl (Some (OfStruct name)) v n h valued = cc
  operand-number Shr (Some (OfStruct name)) v n h valued = cc
  operand-number Not (Some (OfStruct name)) v n h valued = cc

  -- a value of a type that agrees with another is one of the other
  pub value-agrees : (ty : Option CType) (other : CType) (v : CValue) (n : ℤ) → agree ty (Some other) ≡ true → Value ty v n → ValueAs other v n
  value-agrees None other v n h valued = absurd valued
  value-agrees (Some ty) other v n h valued = subst (λ t. ValueAs t v n) (same-type ty other h) valued

  -- the same, for what `&&` and `||` take
  pub value-typed : (ty : Option CType) (other : CType) (v : CValue) (n : ℤ) → if_typed ty (λ t. same_type t other) ≡ true →
      Value ty v n → ValueAs other v n
  value-typed None other v n h valued = absurd valued
  value-typed (Some ty) other v n h valued = subst (λ t. ValueAs t v n) (same-type ty other h) valued

  -- ---- arguments

  abbrev pub Passes : JudgedArg → ArgumentValue → ℤ → Type 0
  Passes j (by_value v) n = (j.address ≡ false) × Value j.ty v n
  Passes j (by_address place) n = (j.address ≡ true) × AddressAt known lists structs shaped limit w j.ty place n

  abbrev pub PassedList : List JudgedArg → List ArgumentValue → List ℤ → Type 0
  PassedList [] [] [] = Unit {0}
  PassedList (j ∷ js) (v ∷ vs) (n ∷ ns) = Passes j v n × PassedList js vs ns
  PassedList [] (v ∷ vs) ns = ⊥
  PassedList [] [] (n ∷ ns) = ⊥
  PassedList (j ∷ js) [] ns = ⊥
  PassedList (j ∷ js) (v ∷ vs) [] = ⊥

  pointer-so : (pointer address : Bool) → (if pointer then address else not address) ≡ true → address ≡ pointer
  pointer-so true true h = refl
  pointer-so true false h = cc
  pointer-so false true h = cc
  pointer-so false false h = refl

  value-for : (ty : CType) (given : Option CType) (v : CValue) (n : ℤ) → if_typed given (fits_param false ty) ≡ true →
      Value given v n → ValueAs ty v n
  value-for ty None v n h valued = absurd valued
  value-for ty (Some t) v n h valued = subst (λ x. ValueAs x v n) (sym (same-type ty t h)) valued

  address-for : (ty : CType) (given : Option CType) (place : Location) (n : ℤ) → if_typed given (fits_param false ty) ≡ true →
      AddressAt known lists structs shaped limit w given place n →
      AddressAt known lists structs shaped limit w (Some ty) place n
  address-for ty None place n h at = absurd at.placed
  address-for ty (Some t) place n h at = subst (λ x. AddressAt known lists structs shaped limit w (Some x) place n) (sym (same-type ty t h)) at

  passed-for : (p : Variable) (j : JudgedArg) (v : ArgumentValue) (n : ℤ) → fits_arg false p j ≡ true → Passes j v n →
      PassedFor known lists structs shaped limit w memory p v n
  passed-for p j (by_value v) n h passes = (
    sym (pointer-so p.pointer j.address (and_first _ _ h))
        ∙ passes.0,
    value-for p.ty j.ty v n (and_second (if p.pointer then j.address else not j.address) _ h) passes.1,
  )
  passed-for p j (by_address place) n h passes = (
    sym (pointer-so p.pointer j.address (and_first _ _ h))
        ∙ passes.0,
    address-for p.ty j.ty place n (and_second (if p.pointer then j.address else not j.address) _ h) passes.1,
  )

  -- arguments that fit a function of the file
  pub passed-all : (params : List Variable) (js : List JudgedArg) (vs : List ArgumentValue) (ns : List ℤ) →
      fit_each false params js ≡ true → PassedList js vs ns →
      PassedAll known lists structs shaped limit w memory params vs ns
  passed-all [] [] [] [] h passes = tt
  passed-all (p ∷ ps) (j ∷ js) (v ∷ vs) (n ∷ ns) h passes =
      (passed-for p j v n (and_first _ _ h) passes.0, passed-all ps js vs ns (and_second (fits_arg false p j) _ h) passes.1)
  passed-all [] (j ∷ js) vs ns h passes = cc
  passed-all (p ∷ ps) [] vs ns h passes = cc
  passed-all [] [] (v ∷ vs) ns h passes = absurd passes
  passed-all [] [] [] (n ∷ ns) h passes = absurd passes
  passed-all (p ∷ ps) (j ∷ js) [] ns h passes = absurd passes
  passed-all (p ∷ ps) (j ∷ js) (v ∷ vs) [] h passes = absurd passes

  -- ---- arguments of the prelude's functions

  abbrev Fitting : Scalar → CValue → ℤ → Type 0
  Fitting t v n = (scalar_number v ≡ n) × (in_range t n ≡ true)

  scalar-as : (t : Scalar) (ty : CType) (v : CValue) (n : ℤ) → same_type (OfScalar t) ty ≡ true → ValueAs ty v n → Fitting t v n
  scalar-as t ty v n h valued = subst (λ x. ValueAs x v n) (sym (same-type (OfScalar t) ty h)) valued

  widened : (t : Scalar) (ty : CType) (v : CValue) (n : ℤ) → fits_param true (OfScalar t) ty ≡ true → ValueAs ty v n → Fitting t v n
  widened (Int W64) (OfScalar (Int w)) v n h valued = (valued.0, int-widens w n valued.1)
  widened (Int W64) (OfScalar OfBool) v n h valued = cc
  widened (Int W64) (OfScalar (Nat w)) v n h valued = cc
  widened (Int W64) (OfScalar (Bits w)) v n h valued = cc
  widened (Int W64) (OfStruct name) v n h valued = cc
  widened (Nat W64) (OfScalar (Nat w)) v n h valued = (valued.0, nat-widens w n valued.1)
  widened (Nat W64) (OfScalar OfBool) v n h valued = cc
  widened (Nat W64) (OfScalar (Int w)) v n h valued = cc
  widened (Nat W64) (OfScalar (Bits w)) v n h valued = cc
  widened (Nat W64) (OfStruct name) v n h valued = cc
  widened OfBool ty v n h valued = scalar-as OfBool ty v n h valued
  widened (Int W8) ty v n h valued = scalar-as (Int W8) ty v n h valued
  widened (Int W16) ty v n h valued = scalar-as (Int W16) ty v n h valued
  widened (Int W32) ty v n h valued = scalar-as (Int W32) ty v n h valued
  widened (Nat W8) ty v n h valued = scalar-as (Nat W8) ty v n h valued
  widened (Nat W16) ty v n h valued = scalar-as (Nat W16) ty v n h valued
  widened (Nat W32) ty v n h valued = scalar-as (Nat W32) ty v n h valued
  widened (Bits w) ty v n h valued = scalar-as (Bits w) ty v n h valued

  widened-if : (t : Scalar) (ty : Option CType) (v : CValue) (n : ℤ) → if_typed ty (fits_param true (OfScalar t)) ≡ true →
      Value ty v n → Fitting t v n
  widened-if t None v n h valued = absurd valued
  widened-if t (Some ty) v n h valued = widened t ty v n h valued

  number-fits : (t : Scalar) (j : JudgedArg) (v : ArgumentValue) (n : ℤ) → fits_arg true (by_value_of t) j ≡ true → Passes j v n →
      (number_of_passed v ≡ n) × (in_range t n ≡ true)
  number-fits t j (by_value v) n h passes = widened-if t j.ty v n (and_second (not j.address) _ h) passes.1
  number-fits t j (by_address place) n h passes =
      absurd (let x : not true ≡ true = sym (ap not passes.0) ∙ and_first (not j.address) _ h in cc)

  -- arguments that fit a function of the prelude
  pub numbers-fit : (ts : List Scalar) (js : List JudgedArg) (vs : List ArgumentValue) (ns : List ℤ) → fit_each true (map by_value_of ts) js ≡ true →
      PassedList js vs ns →
      (map number_of_passed vs ≡ ns) × (in_ranges ts ns ≡ true)
  numbers-fit [] [] [] [] h passes = (refl, refl)
  numbers-fit (t ∷ ts) (j ∷ js) (v ∷ vs) (n ∷ ns) h passes =
      let first = number-fits t j v n (and_first _ _ h) passes.0 in
      let rest = numbers-fit ts js vs ns (and_second (fits_arg true (by_value_of t) j) _ h) passes.1 in
      (ap (λ x. x ∷ map number_of_passed vs) first.0 ∙ ap (λ xs. n ∷ xs) rest.0, and_from _ _ first.1 rest.1)
  numbers-fit [] (j ∷ js) vs ns h passes = cc
  numbers-fit (t ∷ ts) [] vs ns h passes = cc
  numbers-fit [] [] (v ∷ vs) ns h passes = absurd passes
  numbers-fit [] [] [] (n ∷ ns) h passes = absurd passes
  numbers-fit (t ∷ ts) (j ∷ js) [] ns h passes = absurd passes
  numbers-fit (t ∷ ts) (j ∷ js) (v ∷ vs) [] h passes = absurd passes
