-- What is expected of statements, by the piece that stands next.
use Rattle.std.proofs.Common.{◌≡◌, ℕ, ◌-◌, ◌≤◌, true, false, List, [], ◌∷◌, ◌++◌, map, codes, refl, sym, ap, ◌∙◌, subst}
use Rattle.std.specs.Prelude.{Result, Ok, Err, IfOk, MatchResult}
use Rattle.bl_ctext.specs.Token.{Token}
use Rattle.bl_ctext.specs.Names.{is_among, is_name, is_turn_name}
use Rattle.bl_grammar.proofs.Predictive.{not_both}
use Rattle.bl_cparse_syntax.specs.declared.grammar.Part.{Part}
use Rattle.bl_cparse_syntax.specs.declared.grammar.Part.TheVariants.{Stmts, Stmt, Else, Turns, AfterName, AssignTail, Value, AfterOpen, Expr, Simple, Inside}
use Rattle.bl_cparse_syntax.specs.declared.grammar.Part.TheVariants.{StructName, Index, Steps, Args}
use Rattle.bl_cparse_syntax.specs.declared.grammar.Part.TheVariants as APart
use Rattle.bl_cparse_syntax.specs.Pieces.{is_same, first_piece}
use Rattle.bl_cparse_syntax.specs.Classes.{matches, spells_number}
use Rattle.bl_cparse_syntax.specs.Classes.Class.{exactly}
use Rattle.bl_cparse_syntax.specs.Grammar.{Wanted, Production, IsAmong, productions, needing_none, needing, word, name, the, within_brackets}
use Rattle.bl_cparse_syntax.specs.Grammar.IsAmong.{here, later}
use Rattle.bl_cparse_syntax.specs.Tables.{has, starts, absent}
use Rattle.bl_cparse_syntax.specs.Expects.{Expects}
use Rattle.bl_cparse_syntax.proofs.ClassLemmas.{exactly_is}
use Rattle.bl_cparse_syntax_laws.proofs.Pieces.{name_is}
use Rattle.bl_cparse.specs.declared.refusal.CRefusal.{CRefusal}
use Rattle.bl_cparse.specs.inner.Reading.{sign, name_of, prelude_function, part, behind_turn, other_starts, GoesOnAPlace}
use Rattle.bl_cparse.specs.Places.{WantsMemory}
use Rattle.bl_cparse.proofs.ReadLemmas.{seated, opened, begun, omitted, next, other_next}
use Rattle.bl_cparse.proofs.ExprOpening.{four_off, name_has, steps_more, simple_expr}

module _ {room : ℕ} {rest : List Wanted} {ts : List Token} where
  pub stmts_end : matches (exactly (codes "}")) (first_piece ts) ≡ true → Expects (part Stmts room ∷ rest) ts → Expects rest ts
  unfolding starts absent matches is_same is_among is_name
  stmts_end is e = omitted refl (rw (sym (exactly_is (codes "}") (first_piece ts) is)) refl) e

  pub stmts_more : matches (exactly (codes "}")) (first_piece ts) ≡ false → Expects (part Stmts room ∷ sign (codes "}") ∷ rest) ts →
      Expects (part Stmt room ∷ part Stmts room ∷ sign (codes "}") ∷ rest) ts
  stmts_more off e = let o = opened e in by_one o.production o.is_one o.has_room o.name o.expects
    where
      by_one : (p : Production) → IsAmong p (productions Stmts) → p.needs ≤ room → (own : Token) →
          Expects (map (seated room own) p.shapes ++ (sign (codes "}") ∷ rest)) ts →
          Expects (part Stmt room ∷ part Stmts room ∷ sign (codes "}") ∷ rest) ts
      by_one p here enough own e = e
      by_one p (later here) enough own e = absurd (other_next off e)
      by_one p (later (later is)) enough own e = elim is [ ]

  pub stmt_if : matches (exactly (codes "if")) (first_piece ts) ≡ true → Expects (part Stmt room ∷ rest) ts →
      (1 ≤ room) × Expects (sign (codes "if") ∷ sign (codes "(") ∷ part Expr (room - 1) ∷ sign (codes ")") ∷ sign (codes "{")
      ∷ part Stmts (room - 1) ∷ sign (codes "}") ∷ part Else room ∷ rest) ts
  unfolding starts matches is_same is_among is_name spells_number is_turn_name
  stmt_if is e = (begun (needing 1 (word (codes "if") ∷ word (codes "(") ∷ within_brackets 1 Expr ∷ word (codes ")") ∷ word (codes "{")
      ∷ within_brackets 1 Stmts ∷ word (codes "}") ∷ the Else ∷ [])) (later (later (later here))) refl (rw is refl) e)

  pub stmt_turns : matches (exactly (codes "{")) (first_piece ts) ≡ true → Expects (part Stmt room ∷ rest) ts →
      (3 ≤ room) × Expects (sign (codes "{") ∷ sign (codes "uint32_t") ∷ part Turns room ∷ rest) ts
  unfolding starts matches is_same is_among is_name spells_number is_turn_name
  stmt_turns is e = (begun (needing 3 (word (codes "{") ∷ word (codes "uint32_t") ∷ the Turns ∷ []))
      (later (later (later (later here)))) refl (rw is refl) e)

  pub stmt_break : matches (exactly (codes "break")) (first_piece ts) ≡ true → Expects (part Stmt room ∷ rest) ts →
      Expects (sign (codes "break") ∷ sign (codes ";") ∷ rest) ts
  unfolding starts matches is_same is_among is_name spells_number is_turn_name
  stmt_break is e = (begun (needing_none (word (codes "break") ∷ word (codes ";") ∷ [])) (later (later (later (later (later here))))) refl (rw is refl) e).1

  pub stmt_return : matches (exactly (codes "return")) (first_piece ts) ≡ true → Expects (part Stmt room ∷ rest) ts →
      Expects (sign (codes "return") ∷ part APart.Result room ∷ rest) ts
  unfolding starts matches is_same is_among is_name spells_number is_turn_name
  stmt_return is e = (begun (needing_none (word (codes "return") ∷ the APart.Result ∷ []))
      (later (later (later (later (later (later here)))))) refl (rw is refl) e).1

  pub stmt_through : matches (exactly (codes "(")) (first_piece ts) ≡ true → Expects (part Stmt room ∷ rest) ts →
      (1 ≤ room) × Expects (sign (codes "(") ∷ sign (codes "*") ∷ name_of ∷ sign (codes ")") ∷ part AssignTail room ∷ rest) ts
  unfolding starts matches is_same is_among is_name spells_number is_turn_name
  stmt_through is e = (begun (needing 1 (word (codes "(") ∷ word (codes "*") ∷ name ∷ word (codes ")") ∷ the AssignTail ∷ []))
      (later (later here)) refl (rw is refl) e)

  pub stmt_named : is_name (first_piece ts) ≡ true → Expects (part Stmt room ∷ rest) ts → Expects (name_of ∷ part AfterName room ∷ rest) ts
  unfolding starts matches is_same is_among is_name spells_number is_turn_name
  stmt_named is e = (begun (needing_none (name ∷ the AfterName ∷ [])) here refl (name_has (first_piece ts) is) e).1

  pub stmt_prelude : is_name (first_piece ts) ≡ false → matches (exactly (codes "(")) (first_piece ts) ≡ false →
      has other_starts (first_piece ts) ≡ false → Expects (part Stmt room ∷ rest) ts →
      (1 ≤ room) × Expects (prelude_function ∷ sign (codes "(") ∷ part Args (room - 1) ∷ sign (codes ")") ∷ sign (codes ";") ∷ rest) ts
  stmt_prelude other paren off e = let o = opened e in by_one o.production o.is_one o.has_room o.name o.expects
    where
      by_one : (p : Production) → IsAmong p (productions Stmt) → p.needs ≤ room → (own : Token) →
          Expects (map (seated room own) p.shapes ++ (rest)) ts →
          (1 ≤ room) × Expects (prelude_function ∷ sign (codes "(") ∷ part Args (room - 1) ∷ sign (codes ")") ∷ sign (codes ";") ∷ rest) ts
      by_one p here enough own e = absurd (not_both _ (name_is (first_piece ts) (next e).matched) other)
      by_one p (later here) enough own e = (enough, e)
      by_one p (later (later here)) enough own e = absurd (other_next paren e)
      by_one p (later (later (later here))) enough own e =
          absurd (other_next (four_off (matches (exactly (codes "if")) (first_piece ts)) (matches (exactly (codes "{")) (first_piece ts))
          (matches (exactly (codes "break")) (first_piece ts)) (matches (exactly (codes "return")) (first_piece ts)) off).0 e)
      by_one p (later (later (later (later here)))) enough own e =
          absurd (other_next (four_off (matches (exactly (codes "if")) (first_piece ts)) (matches (exactly (codes "{")) (first_piece ts))
          (matches (exactly (codes "break")) (first_piece ts)) (matches (exactly (codes "return")) (first_piece ts)) off).1.0 e)
      by_one p (later (later (later (later (later here))))) enough own e =
          absurd (other_next (four_off (matches (exactly (codes "if")) (first_piece ts)) (matches (exactly (codes "{")) (first_piece ts))
          (matches (exactly (codes "break")) (first_piece ts)) (matches (exactly (codes "return")) (first_piece ts)) off).1.1.0 e)
      by_one p (later (later (later (later (later (later here)))))) enough own e =
          absurd (other_next (four_off (matches (exactly (codes "if")) (first_piece ts)) (matches (exactly (codes "{")) (first_piece ts))
          (matches (exactly (codes "break")) (first_piece ts)) (matches (exactly (codes "return")) (first_piece ts)) off).1.1.1 e)
      by_one p (later (later (later (later (later (later (later is))))))) enough own e = elim is [ ]

  pub else_stands : matches (exactly (codes "else")) (first_piece ts) ≡ true → Expects (part Else room ∷ rest) ts →
      Expects (sign (codes "else") ∷ sign (codes "{") ∷ part Stmts (room - 1) ∷ sign (codes "}") ∷ rest) ts
  unfolding starts matches is_same is_among is_name spells_number is_turn_name
  else_stands is e = (begun (needing_none (word (codes "else") ∷ word (codes "{") ∷ within_brackets 1 Stmts ∷ word (codes "}") ∷ [])) here refl
      (rw is refl) e).1

  pub else_absent : matches (exactly (codes "else")) (first_piece ts) ≡ false → Expects (part Else room ∷ rest) ts → Expects rest ts
  unfolding starts absent
  else_absent off e = omitted refl (rw off refl) e

  pub name_called : matches (exactly (codes "(")) (first_piece ts) ≡ true → Expects (part AfterName room ∷ rest) ts →
      (1 ≤ room) × Expects (sign (codes "(") ∷ part Args (room - 1) ∷ sign (codes ")") ∷ sign (codes ";") ∷ rest) ts
  unfolding starts matches is_same is_among is_name spells_number is_turn_name
  name_called is e = (begun (needing 1 (word (codes "(") ∷ within_brackets 1 Args ∷ word (codes ")") ∷ word (codes ";") ∷ [])) here refl (rw is refl) e)

  pub name_assigned : matches (exactly (codes "(")) (first_piece ts) ≡ false → Expects (part AfterName room ∷ rest) ts →
      Expects (part AssignTail room ∷ rest) ts
  name_assigned off e = let o = opened e in by_one o.production o.is_one o.has_room o.name o.expects
    where
      by_one : (p : Production) → IsAmong p (productions AfterName) → p.needs ≤ room → (own : Token) →
          Expects (map (seated room own) p.shapes ++ (rest)) ts → Expects (part AssignTail room ∷ rest) ts
      by_one p here enough own e = absurd (other_next off e)
      by_one p (later here) enough own e = e
      by_one p (later (later is)) enough own e = elim is [ ]

  pub assign_more : matches (exactly (codes ".")) (first_piece ts) ≡ true → Expects (part AssignTail room ∷ rest) ts →
      Expects (sign (codes ".") ∷ name_of ∷ part Index room ∷ part AssignTail room ∷ rest) ts
  unfolding starts matches is_same is_among is_name spells_number is_turn_name
  assign_more is e = (begun (needing_none (word (codes ".") ∷ name ∷ the Index ∷ the AssignTail ∷ [])) (later here) refl (rw is refl) e).1

  pub assign_value : matches (exactly (codes ".")) (first_piece ts) ≡ false → Expects (part AssignTail room ∷ rest) ts →
      Expects (sign (codes "=") ∷ part Value room ∷ sign (codes ";") ∷ rest) ts
  assign_value off e = let o = opened e in by_one o.production o.is_one o.has_room o.name o.expects
    where
      by_one : (p : Production) → IsAmong p (productions AssignTail) → p.needs ≤ room → (own : Token) →
          Expects (map (seated room own) p.shapes ++ (rest)) ts → Expects (sign (codes "=") ∷ part Value room ∷ sign (codes ";") ∷ rest) ts
      by_one p here enough own e = e
      by_one p (later here) enough own e = absurd (other_next off e)
      by_one p (later (later is)) enough own e = elim is [ ]

  pub value_bracketed : matches (exactly (codes "(")) (first_piece ts) ≡ true → Expects (part Value room ∷ rest) ts →
      (1 ≤ room) × Expects (sign (codes "(") ∷ part AfterOpen room ∷ rest) ts
  unfolding starts matches is_same is_among is_name spells_number is_turn_name
  value_bracketed is e = (begun (needing 1 (word (codes "(") ∷ the AfterOpen ∷ [])) here refl (rw is refl) e)

  pub value_simple : matches (exactly (codes "(")) (first_piece ts) ≡ false → Expects (part Value room ∷ rest) ts → Expects (part Expr room ∷ rest) ts
  value_simple off e = let o = opened e in by_one o.production o.is_one o.has_room o.name o.expects
    where
      by_one : (p : Production) → IsAmong p (productions Value) → p.needs ≤ room → (own : Token) →
          Expects (map (seated room own) p.shapes ++ (rest)) ts → Expects (part Expr room ∷ rest) ts
      by_one p here enough own e = absurd (other_next off e)
      by_one p (later here) enough own e = simple_expr e
      by_one p (later (later is)) enough own e = elim is [ ]

  pub open_struct : matches (exactly (codes "struct")) (first_piece ts) ≡ true → Expects (part AfterOpen room ∷ rest) ts →
      Expects (sign (codes "struct") ∷ part StructName room ∷ sign (codes ")") ∷ sign (codes "{") ∷ sign (codes "0") ∷ sign (codes "}") ∷ rest) ts
  unfolding starts matches is_same is_among is_name spells_number is_turn_name
  open_struct is e = (begun (needing_none (word (codes "struct") ∷ the StructName ∷ word (codes ")") ∷ word (codes "{") ∷ word (codes "0")
      ∷ word (codes "}") ∷ [])) here refl (rw is refl) e).1

  pub open_inside : matches (exactly (codes "struct")) (first_piece ts) ≡ false → Expects (part AfterOpen room ∷ rest) ts →
      Expects (part Inside room ∷ rest) ts
  open_inside off e = let o = opened e in by_one o.production o.is_one o.has_room o.name o.expects
    where
      by_one : (p : Production) → IsAmong p (productions AfterOpen) → p.needs ≤ room → (own : Token) →
          Expects (map (seated room own) p.shapes ++ (rest)) ts → Expects (part Inside room ∷ rest) ts
      by_one p here enough own e = absurd (other_next off e)
      by_one p (later here) enough own e = e
      by_one p (later (later is)) enough own e = elim is [ ]

  pub result_none : matches (exactly (codes ";")) (first_piece ts) ≡ true → Expects (part APart.Result room ∷ rest) ts →
      Expects (sign (codes ";") ∷ rest) ts
  unfolding starts matches is_same is_among is_name spells_number is_turn_name
  result_none is e = (begun (needing_none (word (codes ";") ∷ [])) here refl (rw is refl) e).1

  pub result_value : matches (exactly (codes ";")) (first_piece ts) ≡ false → Expects (part APart.Result room ∷ rest) ts →
      Expects (part Expr room ∷ sign (codes ";") ∷ rest) ts
  result_value off e = let o = opened e in by_one o.production o.is_one o.has_room o.name o.expects
    where
      by_one : (p : Production) → IsAmong p (productions APart.Result) → p.needs ≤ room → (own : Token) →
          Expects (map (seated room own) p.shapes ++ (rest)) ts → Expects (part Expr room ∷ sign (codes ";") ∷ rest) ts
      by_one p here enough own e = absurd (other_next off e)
      by_one p (later here) enough own e = e
      by_one p (later (later is)) enough own e = elim is [ ]

  -- a loop behind the type of its turns, whose name is the piece that stands next
  pub turns_open : Expects (part Turns room ∷ rest) ts →
      (turn : Token) × ((is_turn_name turn ≡ true) × Expects (sign turn ∷ (behind_turn turn room ++ rest)) ts)
  turns_open e = let o = opened e in by_one o.production o.is_one o.name o.is_turn o.expects
    where
      by_one : (p : Production) → IsAmong p (productions Turns) → (own : Token) → is_turn_name own ≡ true →
          Expects (map (seated room own) p.shapes ++ rest) ts
          → (turn : Token) × ((is_turn_name turn ≡ true) × Expects (sign turn ∷ (behind_turn turn room ++ rest)) ts)
      by_one p here own is e = (own, (is, e))
      by_one p (later is) own t e = elim is [ ]

-- a member goes on with a place
pub tail_more : (tail : Part) → GoesOnAPlace tail → {room : ℕ} {rest : List Wanted} {ts : List Token} →
    matches (exactly (codes ".")) (first_piece ts) ≡ true → Expects (part tail room ∷ rest) ts
    → Expects (sign (codes ".") ∷ name_of ∷ part Index room ∷ part tail room ∷ rest) ts
tail_more tail GoesOnAPlace.steps is e = steps_more is e
tail_more tail GoesOnAPlace.assigned is e = assign_more is e

pub none_starts : (ts : List Token) → matches (exactly (codes "if")) (first_piece ts) ≡ false →
    matches (exactly (codes "{")) (first_piece ts) ≡ false → matches (exactly (codes "break")) (first_piece ts) ≡ false
    → matches (exactly (codes "return")) (first_piece ts) ≡ false → has other_starts (first_piece ts) ≡ false
none_starts ts a b c d = rw (a, b, c, d) refl

-- a turn's name that was read is the one that is expected
pub turn_read : (room : ℕ) (rest : List Wanted) (old new : List Token) (turn : Token) (r : Result Token CRefusal) →
    first_piece old ≡ turn → IfOk r (λ t. old ≡ t ∷ new) → MatchResult r (λ t. Expects (behind_turn turn room ++ rest) new) WantsMemory
    → MatchResult r (λ t. Expects (behind_turn t room ++ rest) new) WantsMemory
turn_read room rest old new turn (Ok t) is read e = subst (λ (u : Token). Expects (behind_turn u room ++ rest) new) (sym is ∙ ap first_piece read) e
turn_read room rest old new turn (Err x) is read e = e
