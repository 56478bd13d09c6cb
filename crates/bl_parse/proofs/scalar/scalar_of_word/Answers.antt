use Rattle.std.proofs.Common.{sym, subst}
use Rattle.bl_tree.specs.declared.scalar.Scalar.TheVariants.{Bool as OfBool, Int, Nat, Bits}
use Rattle.bl_tree.specs.declared.scalar.Width.TheVariants.{W8, W16, W32, W64}
use Rattle.bl_tree.specs.declared.token.TokenKind.TheVariants.{Word}
use Rattle.bl_parse.specs.Operators.{IsScalar}
use Rattle.bl_parse.proofs.scalar.scalar_of_word.Goals as goal

pub returns-in-Bool-clause-is : goal.returns-in-Bool-clause-is
returns-in-Bool-clause-is c = subst (λ k. IsScalar (Word k) OfBool) (sym c.in-Bool.is) IsScalar.bool

pub returns-in-Int8-clause-is : goal.returns-in-Int8-clause-is
returns-in-Int8-clause-is c = subst (λ k. IsScalar (Word k) (Int W8)) (sym c.in-Int8.is) IsScalar.int8

pub returns-in-Int16-clause-is : goal.returns-in-Int16-clause-is
returns-in-Int16-clause-is c = subst (λ k. IsScalar (Word k) (Int W16)) (sym c.in-Int16.is) IsScalar.int16

pub returns-in-Int32-clause-is : goal.returns-in-Int32-clause-is
returns-in-Int32-clause-is c = subst (λ k. IsScalar (Word k) (Int W32)) (sym c.in-Int32.is) IsScalar.int32

pub returns-in-Int64-clause-is : goal.returns-in-Int64-clause-is
returns-in-Int64-clause-is c = subst (λ k. IsScalar (Word k) (Int W64)) (sym c.in-Int64.is) IsScalar.int64

pub returns-in-Nat8-clause-is : goal.returns-in-Nat8-clause-is
returns-in-Nat8-clause-is c = subst (λ k. IsScalar (Word k) (Nat W8)) (sym c.in-Nat8.is) IsScalar.nat8

pub returns-in-Nat16-clause-is : goal.returns-in-Nat16-clause-is
returns-in-Nat16-clause-is c = subst (λ k. IsScalar (Word k) (Nat W16)) (sym c.in-Nat16.is) IsScalar.nat16

pub returns-in-Nat32-clause-is : goal.returns-in-Nat32-clause-is
returns-in-Nat32-clause-is c = subst (λ k. IsScalar (Word k) (Nat W32)) (sym c.in-Nat32.is) IsScalar.nat32

pub returns-in-Nat64-clause-is : goal.returns-in-Nat64-clause-is
returns-in-Nat64-clause-is c = subst (λ k. IsScalar (Word k) (Nat W64)) (sym c.in-Nat64.is) IsScalar.nat64

pub returns-in-Bits8-clause-is : goal.returns-in-Bits8-clause-is
returns-in-Bits8-clause-is c = subst (λ k. IsScalar (Word k) (Bits W8)) (sym c.in-Bits8.is) IsScalar.bits8

pub returns-in-Bits16-clause-is : goal.returns-in-Bits16-clause-is
returns-in-Bits16-clause-is c = subst (λ k. IsScalar (Word k) (Bits W16)) (sym c.in-Bits16.is) IsScalar.bits16

pub returns-in-Bits32-clause-is : goal.returns-in-Bits32-clause-is
returns-in-Bits32-clause-is c = subst (λ k. IsScalar (Word k) (Bits W32)) (sym c.in-Bits32.is) IsScalar.bits32

pub returns-in-Bits64-clause-is : goal.returns-in-Bits64-clause-is
returns-in-Bits64-clause-is c = subst (λ k. IsScalar (Word k) (Bits W64)) (sym c.in-Bits64.is) IsScalar.bits64
