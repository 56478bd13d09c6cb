-- Keywords and their list.
use Rattle.std.specs.Prelude.{ℕ, Bool, nat_eq}
use Rattle.bl_tree.specs.declared.token.Keyword.{Keyword}
use Rattle.bl_tree.specs.declared.token.Keyword.TheVariants as keyword

-- the position of the keyword in the list of keywords
abbrev pub position : Keyword → ℕ
position keyword.Function = 0
position keyword.Activity = 1
position keyword.Returns = 2
position keyword.Return = 3
position keyword.Struct = 4
position keyword.Var = 5
position keyword.Let = 6
position keyword.Const = 7
position keyword.If = 8
position keyword.Then = 9
position keyword.Elseif = 10
position keyword.Else = 11
position keyword.End = 12
position keyword.Await = 13
position keyword.Run = 14
position keyword.Cobegin = 15
position keyword.Weak = 16
position keyword.With = 17
position keyword.When = 18
position keyword.Abort = 19
position keyword.Reset = 20
position keyword.Repeat = 21
position keyword.Until = 22
position keyword.While = 23
position keyword.Prev = 24
position keyword.As = 25
position keyword.Not = 26
position keyword.And = 27
position keyword.Or = 28
position keyword.True = 29
position keyword.False = 30
position keyword.Bool = 31
position keyword.Int8 = 32
position keyword.Int16 = 33
position keyword.Int32 = 34
position keyword.Int64 = 35
position keyword.Nat8 = 36
position keyword.Nat16 = 37
position keyword.Nat32 = 38
position keyword.Nat64 = 39
position keyword.Bits8 = 40
position keyword.Bits16 = 41
position keyword.Bits32 = 42
position keyword.Bits64 = 43

-- whether two keywords are one
abbrev pub same_word : Keyword → Keyword → Bool
same_word one other = nat_eq (position one) (position other)
