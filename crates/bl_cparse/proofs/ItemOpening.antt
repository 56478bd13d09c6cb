-- What is expected of structs and functions, by the piece that stands next.
use Rattle.std.proofs.Common.{◌≡◌, ℕ, ◌-◌, Bool, true, false, List, [], ◌∷◌, ◌++◌, map, codes, refl, sym, subst}
use Rattle.bl_ctext.specs.Token.{Token}
use Rattle.bl_ctext.specs.Names.{is_among, is_name, is_struct_name, is_function_name, is_turn_name}
use Rattle.bl_grammar.specs.declared.symbol.Symbol.TheVariants.{Terminal}
use Rattle.bl_cparse_syntax.specs.declared.grammar.Digits.TheVariants.{Elements}
use Rattle.bl_cparse_syntax.specs.declared.grammar.Group.TheVariants.{StructWords, FunctionWords}
use Rattle.bl_cparse_syntax.specs.declared.grammar.Part.TheVariants.{File, Structs, Struct, StructName, Members, Member, TypeName, Length, Funcs, Func}
use Rattle.bl_cparse_syntax.specs.declared.grammar.Part.TheVariants.{PlainFunc, FuncRest, FuncName, Params, ParamRest, Param, Star, Locals, Local, Stmts}
use Rattle.bl_cparse_syntax.specs.Pieces.{is_same, first_piece}
use Rattle.bl_cparse_syntax.specs.Classes.{Class, matches, spells_number}
use Rattle.bl_cparse_syntax.specs.Classes.Class.{exactly, one_of, a_name, number}
use Rattle.bl_cparse_syntax.specs.Grammar.{Wanted, Production, IsAmong, productions, needing_none, word, name, digits, the}
use Rattle.bl_cparse_syntax.specs.Grammar.IsAmong.{here, later}
use Rattle.bl_cparse_syntax.specs.Tables.{has, starts, absent}
use Rattle.bl_cparse_syntax.specs.Expects.{Expects}
use Rattle.bl_cparse_syntax.proofs.Expecting.{expects_nothing}
use Rattle.bl_cparse_syntax.proofs.ClassLemmas.{exactly_is}
use Rattle.bl_cparse.specs.inner.Reading.{sign, name_of, scalar_type, part, local_starts}
use Rattle.bl_cparse_syntax_laws.proofs.Pieces.{name_is, struct_word, function_word}
use Rattle.bl_cparse.proofs.TokenLemmas.{name_struct, name_function}
use Rattle.bl_cparse.proofs.ReadLemmas.{seated, opened, begun, omitted, next, passed, other_next}

pub funcs_more : {room : ℕ} {ts : List Token} → (ts ≡ [] → ⊥) → Expects (part Funcs room ∷ []) ts →
    Expects (part Func room ∷ part Funcs room ∷ []) ts
funcs_more {room} {ts} off e = let o = opened e in by_one o.production o.is_one o.name o.expects
  where
    by_one : (p : Production) → IsAmong p (productions Funcs) → (own : Token) → Expects (map (seated room own) p.shapes ++ []) ts →
        Expects (part Func room ∷ part Funcs room ∷ []) ts
    by_one p here own e = e
    by_one p (later here) own e = absurd (off (expects_nothing ts e))
    by_one p (later (later is)) own e = elim is [ ]

module _ {room : ℕ} {rest : List Wanted} {ts : List Token} where
  pub file_opens : Expects (part File room ∷ rest) ts → Expects (part Struct room ∷ part Structs room ∷ part Func room ∷ part Funcs room ∷ rest) ts
  file_opens e = let o = opened e in by_one o.production o.is_one o.name o.expects
    where
      by_one : (p : Production) → IsAmong p (productions File) → (own : Token) →
          Expects (map (seated room own) p.shapes ++ rest) ts →
          Expects (part Struct room ∷ part Structs room ∷ part Func room ∷ part Funcs room ∷ rest) ts
      by_one p here own e = e
      by_one p (later is) own e = elim is [ ]

  pub structs_more : matches (exactly (codes "struct")) (first_piece ts) ≡ true → Expects (part Structs room ∷ rest) ts →
      Expects (part Struct room ∷ part Structs room ∷ rest) ts
  unfolding starts matches is_same is_among is_name spells_number is_turn_name
  structs_more is e = (begun (needing_none (the Struct ∷ the Structs ∷ [])) here refl (rw is refl) e).1

  pub structs_end : matches (exactly (codes "struct")) (first_piece ts) ≡ false → Expects (part Structs room ∷ rest) ts → Expects rest ts
  unfolding starts absent
  structs_end off e = omitted refl (rw off refl) e

  pub struct_opens : Expects (part Struct room ∷ rest) ts →
      Expects (sign (codes "struct") ∷ part StructName room ∷ sign (codes "{") ∷ part Member (room - 1) ∷ part Members (room - 1)
      ∷ sign (codes "}") ∷ sign (codes ";") ∷ rest) ts
  struct_opens e = let o = opened e in by_one o.production o.is_one o.name o.expects
    where
      by_one : (p : Production) → IsAmong p (productions Struct) → (own : Token) →
          Expects (map (seated room own) p.shapes ++ (rest)) ts →
          Expects (sign (codes "struct") ∷ part StructName room ∷ sign (codes "{") ∷ part Member (room - 1)
          ∷ part Members (room - 1) ∷ sign (codes "}") ∷ sign (codes ";") ∷ rest) ts
      by_one p here own e = e
      by_one p (later is) own e = elim is [ ]

  pub members_more : matches (exactly (codes "}")) (first_piece ts) ≡ false →
      Expects (part Members room ∷ sign (codes "}") ∷ rest) ts → Expects (part Member room ∷ part Members room ∷ sign (codes "}") ∷ rest) ts
  members_more off e = let o = opened e in by_one o.production o.is_one o.name o.expects
    where
      by_one : (p : Production) → IsAmong p (productions Members) → (own : Token) →
          Expects (map (seated room own) p.shapes ++ (sign (codes "}") ∷ rest)) ts →
          Expects (part Member room ∷ part Members room ∷ sign (codes "}") ∷ rest) ts
      by_one p here own e = e
      by_one p (later here) own e = absurd (other_next off e)
      by_one p (later (later is)) own e = elim is [ ]

  pub members_end : first_piece ts ≡ codes "}" → Expects (part Members room ∷ rest) ts → Expects rest ts
  unfolding starts absent matches is_same is_among
  members_end is e = omitted refl (rw is refl) e

  pub member_opens : Expects (part Member room ∷ rest) ts → Expects (part TypeName room ∷ name_of ∷ part Length room ∷ sign (codes ";") ∷ rest) ts
  member_opens e = let o = opened e in by_one o.production o.is_one o.name o.expects
    where
      by_one : (p : Production) → IsAmong p (productions Member) → (own : Token) →
          Expects (map (seated room own) p.shapes ++ (rest)) ts →
          Expects (part TypeName room ∷ name_of ∷ part Length room ∷ sign (codes ";") ∷ rest) ts
      by_one p here own e = e
      by_one p (later is) own e = elim is [ ]

  pub length_stands : matches (exactly (codes "[")) (first_piece ts) ≡ true → Expects (part Length room ∷ rest) ts →
      Expects (sign (codes "[") ∷ Terminal (number Elements) ∷ sign (codes "]") ∷ rest) ts
  unfolding starts matches is_same is_among is_name spells_number is_turn_name
  length_stands is e = (begun (needing_none (word (codes "[") ∷ digits Elements ∷ word (codes "]") ∷ [])) here refl (rw is refl) e).1

  pub length_absent : matches (exactly (codes "[")) (first_piece ts) ≡ false → Expects (part Length room ∷ rest) ts → Expects rest ts
  unfolding starts absent
  length_absent off e = omitted refl (rw off refl) e

  pub type_struct : matches (exactly (codes "struct")) (first_piece ts) ≡ true → Expects (part TypeName room ∷ rest) ts →
      Expects (sign (codes "struct") ∷ part StructName room ∷ rest) ts
  unfolding starts matches is_same is_among is_name spells_number is_turn_name
  type_struct is e = (begun (needing_none (word (codes "struct") ∷ the StructName ∷ [])) (later here) refl (rw is refl) e).1

  pub type_scalar : matches (exactly (codes "struct")) (first_piece ts) ≡ false → Expects (part TypeName room ∷ rest) ts →
      Expects (scalar_type ∷ rest) ts
  type_scalar off e = let o = opened e in by_one o.production o.is_one o.name o.expects
    where
      by_one : (p : Production) → IsAmong p (productions TypeName) → (own : Token) →
          Expects (map (seated room own) p.shapes ++ (rest)) ts → Expects (scalar_type ∷ rest) ts
      by_one p here own e = e
      by_one p (later here) own e = absurd (other_next off e)
      by_one p (later (later is)) own e = elim is [ ]

  pub func_static : matches (exactly (codes "static")) (first_piece ts) ≡ true → Expects (part Func room ∷ rest) ts →
      Expects (sign (codes "static") ∷ part PlainFunc room ∷ rest) ts
  unfolding starts matches is_same is_among is_name spells_number is_turn_name
  func_static is e = (begun (needing_none (word (codes "static") ∷ the PlainFunc ∷ [])) here refl (rw is refl) e).1

  pub func_plain : matches (exactly (codes "static")) (first_piece ts) ≡ false → Expects (part Func room ∷ rest) ts →
      Expects (part PlainFunc room ∷ rest) ts
  func_plain off e = let o = opened e in by_one o.production o.is_one o.name o.expects
    where
      by_one : (p : Production) → IsAmong p (productions Func) → (own : Token) →
          Expects (map (seated room own) p.shapes ++ (rest)) ts → Expects (part PlainFunc room ∷ rest) ts
      by_one p here own e = absurd (other_next off e)
      by_one p (later here) own e = e
      by_one p (later (later is)) own e = elim is [ ]

  pub func_void : matches (exactly (codes "void")) (first_piece ts) ≡ true → Expects (part PlainFunc room ∷ rest) ts →
      Expects (sign (codes "void") ∷ part FuncRest room ∷ rest) ts
  unfolding starts matches is_same is_among is_name spells_number is_turn_name
  func_void is e = (begun (needing_none (word (codes "void") ∷ the FuncRest ∷ [])) here refl (rw is refl) e).1

  pub func_scalar : matches (exactly (codes "void")) (first_piece ts) ≡ false → Expects (part PlainFunc room ∷ rest) ts →
      Expects (scalar_type ∷ part FuncRest room ∷ rest) ts
  func_scalar off e = let o = opened e in by_one o.production o.is_one o.name o.expects
    where
      by_one : (p : Production) → IsAmong p (productions PlainFunc) → (own : Token) →
          Expects (map (seated room own) p.shapes ++ (rest)) ts → Expects (scalar_type ∷ part FuncRest room ∷ rest) ts
      by_one p here own e = absurd (other_next off e)
      by_one p (later here) own e = e
      by_one p (later (later is)) own e = elim is [ ]

  pub func_opens : Expects (part FuncRest room ∷ rest) ts →
      Expects (part FuncName room ∷ sign (codes "(") ∷ part Params (room - 1) ∷ sign (codes ")") ∷ sign (codes "{")
      ∷ part Locals (room - 1) ∷ part Stmts (room - 1) ∷ sign (codes "}") ∷ rest) ts
  func_opens e = let o = opened e in by_one o.production o.is_one o.name o.expects
    where
      by_one : (p : Production) → IsAmong p (productions FuncRest) → (own : Token) →
          Expects (map (seated room own) p.shapes ++ (rest)) ts →
          Expects (part FuncName room ∷ sign (codes "(") ∷ part Params (room - 1) ∷ sign (codes ")") ∷ sign (codes "{")
          ∷ part Locals (room - 1) ∷ part Stmts (room - 1) ∷ sign (codes "}") ∷ rest) ts
      by_one p here own e = e
      by_one p (later is) own e = elim is [ ]

  pub params_none : matches (exactly (codes ")")) (first_piece ts) ≡ true → Expects (part Params room ∷ rest) ts → Expects rest ts
  unfolding starts absent matches is_same is_among
  params_none is e = omitted refl (rw (sym (exactly_is (codes ")") (first_piece ts) is)) refl) e

  pub params_some : matches (exactly (codes ")")) (first_piece ts) ≡ false → Expects (part Params room ∷ sign (codes ")") ∷ rest) ts →
      Expects (part Param room ∷ part ParamRest room ∷ sign (codes ")") ∷ rest) ts
  params_some off e = let o = opened e in by_one o.production o.is_one o.name o.expects
    where
      by_one : (p : Production) → IsAmong p (productions Params) → (own : Token) →
          Expects (map (seated room own) p.shapes ++ (sign (codes ")") ∷ rest)) ts →
          Expects (part Param room ∷ part ParamRest room ∷ sign (codes ")") ∷ rest) ts
      by_one p here own e = e
      by_one p (later here) own e = absurd (other_next off e)
      by_one p (later (later is)) own e = elim is [ ]

  pub param_more : matches (exactly (codes ",")) (first_piece ts) ≡ true → Expects (part ParamRest room ∷ rest) ts →
      Expects (sign (codes ",") ∷ part Param room ∷ part ParamRest room ∷ rest) ts
  unfolding starts matches is_same is_among is_name spells_number is_turn_name
  param_more is e = (begun (needing_none (word (codes ",") ∷ the Param ∷ the ParamRest ∷ [])) here refl (rw is refl) e).1

  pub params_end : matches (exactly (codes ",")) (first_piece ts) ≡ false → Expects (part ParamRest room ∷ rest) ts → Expects rest ts
  unfolding starts absent
  params_end off e = omitted refl (rw off refl) e

  pub param_opens : Expects (part Param room ∷ rest) ts → Expects (part TypeName room ∷ part Star room ∷ name_of ∷ rest) ts
  param_opens e = let o = opened e in by_one o.production o.is_one o.name o.expects
    where
      by_one : (p : Production) → IsAmong p (productions Param) → (own : Token) →
          Expects (map (seated room own) p.shapes ++ (rest)) ts → Expects (part TypeName room ∷ part Star room ∷ name_of ∷ rest) ts
      by_one p here own e = e
      by_one p (later is) own e = elim is [ ]

  pub star_stands : matches (exactly (codes "*")) (first_piece ts) ≡ true → Expects (part Star room ∷ rest) ts → Expects (sign (codes "*") ∷ rest) ts
  unfolding starts matches is_same is_among is_name spells_number is_turn_name
  star_stands is e = (begun (needing_none (word (codes "*") ∷ [])) here refl (rw is refl) e).1

  pub star_absent : matches (exactly (codes "*")) (first_piece ts) ≡ false → Expects (part Star room ∷ rest) ts → Expects rest ts
  unfolding starts absent
  star_absent off e = omitted refl (rw off refl) e

  pub locals_more : has local_starts (first_piece ts) ≡ true → Expects (part Locals room ∷ rest) ts →
      Expects (part Local room ∷ part Locals room ∷ rest) ts
  unfolding starts matches is_same is_among is_name spells_number is_turn_name
  locals_more is e = (begun (needing_none (the Local ∷ the Locals ∷ [])) here refl (is) e).1

  pub locals_end : has local_starts (first_piece ts) ≡ false → Expects (part Locals room ∷ rest) ts → Expects rest ts
  unfolding starts absent
  locals_end off e = omitted refl off e

  pub local_struct : matches (exactly (codes "struct")) (first_piece ts) ≡ true → Expects (part Local room ∷ rest) ts →
      Expects (sign (codes "struct") ∷ part StructName room ∷ name_of ∷ sign (codes "=") ∷ sign (codes "{") ∷ sign (codes "0")
      ∷ sign (codes "}") ∷ sign (codes ";") ∷ rest) ts
  unfolding starts matches is_same is_among is_name spells_number is_turn_name
  local_struct is e = (begun (needing_none (word (codes "struct") ∷ the StructName ∷ name ∷ word (codes "=") ∷ word (codes "{")
      ∷ word (codes "0") ∷ word (codes "}") ∷ word (codes ";") ∷ [])) (later here) refl (rw is refl) e).1

  pub local_scalar : matches (exactly (codes "struct")) (first_piece ts) ≡ false → Expects (part Local room ∷ rest) ts →
      Expects (scalar_type ∷ name_of ∷ sign (codes "=") ∷ sign (codes "0") ∷ sign (codes ";") ∷ rest) ts
  local_scalar off e = let o = opened e in by_one o.production o.is_one o.name o.expects
    where
      by_one : (p : Production) → IsAmong p (productions Local) → (own : Token) →
          Expects (map (seated room own) p.shapes ++ (rest)) ts →
          Expects (scalar_type ∷ name_of ∷ sign (codes "=") ∷ sign (codes "0") ∷ sign (codes ";") ∷ rest) ts
      by_one p here own e = e
      by_one p (later here) own e = absurd (other_next off e)
      by_one p (later (later is)) own e = elim is [ ]

-- a piece that stands for a part, and what it is
pub record Named (test : Token → Bool) (rest : List Wanted) (ts : List Token) : Type 0 where
  pub class : Class
  pub is : test (first_piece ts) ≡ true
  pub expects : Expects (Terminal class ∷ rest) ts

pub struct_name_stands : {room : ℕ} {rest : List Wanted} {ts : List Token} → Expects (part StructName room ∷ rest) ts → Named is_struct_name rest ts
struct_name_stands {room} {rest} {ts} e = let o = opened e in by_one o.production o.is_one o.name o.expects
  where
    by_one : (p : Production) → IsAmong p (productions StructName) → (own : Token) →
        Expects (map (seated room own) p.shapes ++ rest) ts → Named is_struct_name rest ts
    by_one p here own e = record { class = a_name; is = name_struct (first_piece ts) (name_is (first_piece ts) (next e).matched); expects = e }
    by_one p (later here) own e = record { class = one_of StructWords; is = struct_word (first_piece ts) (next e).matched; expects = e }
    by_one p (later (later is)) own e = elim is [ ]

pub function_name_stands : {room : ℕ} {rest : List Wanted} {ts : List Token} → Expects (part FuncName room ∷ rest) ts → Named is_function_name rest ts
function_name_stands {room} {rest} {ts} e = let o = opened e in by_one o.production o.is_one o.name o.expects
  where
    by_one : (p : Production) → IsAmong p (productions FuncName) → (own : Token) →
        Expects (map (seated room own) p.shapes ++ rest) ts → Named is_function_name rest ts
    by_one p here own e = record { class = a_name; is = name_function (first_piece ts) (name_is (first_piece ts) (next e).matched); expects = e }
    by_one p (later here) own e = record { class = one_of FunctionWords; is = function_word (first_piece ts) (next e).matched; expects = e }
    by_one p (later (later is)) own e = elim is [ ]

-- where a `*` may stand, and where `static` may

pub star_reads : {room : ℕ} {rest : List Wanted} {old new : List Token} (b : Bool) →
    b ≡ matches (exactly (codes "*")) (first_piece old) → (b ≡ true → old ≡ codes "*" ∷ new) → (b ≡ false → new ≡ old)
    → Expects (part Star room ∷ rest) old → Expects rest new
star_reads true is h k e = passed (h refl) (star_stands (sym is) e)
star_reads {rest = rest} false is h k e = subst (λ (ts : List Token). Expects rest ts) (sym (k refl)) (star_absent (sym is) e)

pub static_reads : {room : ℕ} {rest : List Wanted} {old new : List Token} (b : Bool) →
    b ≡ matches (exactly (codes "static")) (first_piece old) → (b ≡ true → old ≡ codes "static" ∷ new) → (b ≡ false → new ≡ old)
    → Expects (part Func room ∷ rest) old → Expects (part PlainFunc room ∷ rest) new
static_reads true is h k e = passed (h refl) (func_static (sym is) e)
static_reads {room = room} {rest = rest} false is h k e =
    subst (λ (ts : List Token). Expects (part PlainFunc room ∷ rest) ts) (sym (k refl)) (func_plain (sym is) e)
