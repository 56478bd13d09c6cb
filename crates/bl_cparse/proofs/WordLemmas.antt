-- What words of types, of constants and of operators are.
use Rattle.std.proofs.Common.{◌≡◌, Bool, true, false, ◌||◌, [], ◌∷◌, ◌++◌, codes, refl, ap, ◌∙◌}
use Rattle.bl_tree.specs.declared.scalar.Width.{Width}
use Rattle.bl_tree.specs.declared.scalar.Width.TheVariants.{W8, W16, W32, W64}
use Rattle.bl_tree.specs.declared.scalar.Scalar.{Scalar}
use Rattle.bl_tree.specs.declared.scalar.Scalar.TheVariants as scalar
use Rattle.bl_ctext.specs.Token.{Token}
use Rattle.bl_ctext.specs.Names.{is_among}
use Rattle.bl_ctext.specs.Spelling.{scalar_word}
use Rattle.bl_ctext.specs.Spellable.{is_c_scalar}
use Rattle.bl_cparse_syntax.specs.declared.grammar.Group.TheVariants.{ScalarTypes, Operators, PlainLiterals}
use Rattle.bl_cparse_syntax.specs.Pieces.{is_same}
use Rattle.bl_cparse_syntax.specs.Classes.{matches}
use Rattle.bl_cparse_syntax.specs.Classes.Class.{exactly, one_of}
use Rattle.bl_cparse_syntax.specs.Tables.{has}
use Rattle.bl_cparse_syntax.specs.Follow.{constant_starts}
use Rattle.bl_cparse.specs.inner.Reading.{exactly_one, literal_starts}

bool_stands : matches (one_of ScalarTypes) (codes "bool") ≡ true
unfolding matches is_among
bool_stands = refl

int_stands : (w : Width) → matches (one_of ScalarTypes) (scalar_word (scalar.Int w)) ≡ true
unfolding matches is_among
int_stands W8 = refl
int_stands W16 = refl
int_stands W32 = refl
int_stands W64 = refl

nat_stands : (w : Width) → matches (one_of ScalarTypes) (scalar_word (scalar.Nat w)) ≡ true
unfolding matches is_among
nat_stands W8 = refl
nat_stands W16 = refl
nat_stands W32 = refl
nat_stands W64 = refl

-- no test that is asked holds

none_of_nine : (a b c d e f g h i : Bool) → a ≡ false → b || (c || (d || (e || false))) ≡ false → f || (g || (h || (i || false))) ≡ false
    → a || (b || (c || (d || (e || (f || (g || (h || (i || false)))))))) ≡ false
none_of_nine a b c d e f g h i ea eb ef = rw ea (by_four b c d e eb)
  where
    by_four : (b c d e : Bool) → b || (c || (d || (e || false))) ≡ false → b || (c || (d || (e || (f || (g || (h || (i || false))))))) ≡ false
    by_four false false false false e = ef
    by_four true c d e x = cc
    by_four false true d e x = cc
    by_four false false true e x = cc
    by_four false false false true x = cc

pub no_scalar : (t : Token) → matches (exactly (codes "bool")) t ≡ false →
    has (exactly_one (codes "int8_t") (codes "int16_t") (codes "int32_t") (codes "int64_t")) t ≡ false
    → has (exactly_one (codes "uint8_t") (codes "uint16_t") (codes "uint32_t") (codes "uint64_t")) t ≡ false → matches (one_of ScalarTypes) t ≡ false
unfolding matches is_among is_same
no_scalar t a b c = none_of_nine (matches (exactly (codes "bool")) t) (matches (exactly (codes "int8_t")) t)
    (matches (exactly (codes "int16_t")) t) (matches (exactly (codes "int32_t")) t) (matches (exactly (codes "int64_t")) t)
    (matches (exactly (codes "uint8_t")) t) (matches (exactly (codes "uint16_t")) t) (matches (exactly (codes "uint32_t")) t)
    (matches (exactly (codes "uint64_t")) t) a b c

none_of_eight : (eq ne lt le gt ge both either : Bool) → eq ≡ false → ne ≡ false → both ≡ false → either ≡ false →
    lt || (le || (gt || (ge || false))) ≡ false
    → eq || (ne || (lt || (le || (gt || (ge || (both || (either || false))))))) ≡ false
none_of_eight eq ne lt le gt ge both either ea eb ec ed h = rw (ea, eb, ec, ed) h

pub no_operator : (t : Token) → matches (exactly (codes "==")) t ≡ false → matches (exactly (codes "!=")) t ≡ false →
    matches (exactly (codes "&&")) t ≡ false → matches (exactly (codes "||")) t ≡ false
    → has (exactly_one (codes "<") (codes "<=") (codes ">") (codes ">=")) t ≡ false → matches (one_of Operators) t ≡ false
unfolding matches is_among is_same
no_operator t a b c d h = none_of_eight (matches (exactly (codes "==")) t) (matches (exactly (codes "!=")) t)
    (matches (exactly (codes "<")) t) (matches (exactly (codes "<=")) t) (matches (exactly (codes ">")) t)
    (matches (exactly (codes ">=")) t) (matches (exactly (codes "&&")) t) (matches (exactly (codes "||")) t) a b c d h

none_of_six : (a b c d e f : Bool) → a ≡ false → b ≡ false → c || (d || (e || (f || false))) ≡ false →
    a || (b || (c || (d || (e || (f || false))))) ≡ false
none_of_six a b c d e f ea eb h = rw (ea, eb) h

pub no_plain : (t : Token) → matches (exactly (codes "true")) t ≡ false → matches (exactly (codes "false")) t ≡ false →
    has (exactly_one (codes "INT8_MIN") (codes "INT16_MIN") (codes "INT32_MIN") (codes "INT64_MIN")) t ≡ false
    → matches (one_of PlainLiterals) t ≡ false
unfolding matches is_among is_same
no_plain t a b h = none_of_six (matches (exactly (codes "true")) t) (matches (exactly (codes "false")) t)
    (matches (exactly (codes "INT8_MIN")) t) (matches (exactly (codes "INT16_MIN")) t) (matches (exactly (codes "INT32_MIN")) t)
    (matches (exactly (codes "INT64_MIN")) t) a b h

pub no_literal : (t : Token) → matches (one_of PlainLiterals) t ≡ false → has constant_starts t ≡ false → has literal_starts t ≡ false
no_literal t plain constant = rw plain constant

pub scalar_stands : (t : Token) (s : Scalar) → t ≡ scalar_word s → is_c_scalar s ≡ true → matches (one_of ScalarTypes) t ≡ true
scalar_stands t s e h = ap (matches (one_of ScalarTypes)) e ∙ by_scalar s h
  where
    by_scalar : (s : Scalar) → is_c_scalar s ≡ true → matches (one_of ScalarTypes) (scalar_word s) ≡ true
    by_scalar scalar.Bool h = bool_stands
    by_scalar (scalar.Int w) h = int_stands w
    by_scalar (scalar.Nat w) h = nat_stands w
    by_scalar (scalar.Bits w) h = cc
