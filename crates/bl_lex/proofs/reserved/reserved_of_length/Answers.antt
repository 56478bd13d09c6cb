use Rattle.std.proofs.Common.{refl, arith}
use Rattle.bl_lex.specs.Spelling.{keywords, words_outside}
use Rattle.bl_lex.proofs.ReservedWords.{is_right, is_listed, are_reserved, none_reserved}
use Rattle.bl_lex.proofs.reserved.reserved_of_length.Goals as goal

pub returns-in-2 : goal.returns-in-2
unfolding keywords words_outside is_right is_listed
returns-in-2 c = rw c.in-2.is (are_reserved 2 _ refl refl refl)

pub returns-in-3 : goal.returns-in-3
unfolding keywords words_outside is_right is_listed
returns-in-3 c = rw c.in-3.is (are_reserved 3 _ refl refl refl)

pub returns-in-4 : goal.returns-in-4
unfolding keywords words_outside is_right is_listed
returns-in-4 c = rw c.in-4.is (are_reserved 4 _ refl refl refl)

pub returns-in-5 : goal.returns-in-5
unfolding keywords words_outside is_right is_listed
returns-in-5 c = rw c.in-5.is (are_reserved 5 _ refl refl refl)

pub returns-in-6 : goal.returns-in-6
unfolding keywords words_outside is_right is_listed
returns-in-6 c = rw c.in-6.is (are_reserved 6 _ refl refl refl)

pub returns-in-7 : goal.returns-in-7
unfolding keywords words_outside is_right is_listed
returns-in-7 c = rw c.in-7.is (are_reserved 7 _ refl refl refl)

pub returns-in-8 : goal.returns-in-8
unfolding keywords words_outside is_right is_listed
returns-in-8 c = rw c.in-8.is (are_reserved 8 _ refl refl refl)

pub returns-in-9 : goal.returns-in-9
unfolding keywords words_outside is_right is_listed
returns-in-9 c = rw c.in-9.is (are_reserved 9 _ refl refl refl)

pub returns-in_default : goal.returns-in_default
returns-in_default c = none_reserved _ (λ h. omega arith)
