-- Scopes that correspond do so after each mark.
use Rattle.std.proofs.Common.{◌≡◌, ℕ, suc, ◌+◌, Bool, true, false, cond, List, [], ◌∷◌, ◌++◌, refl, sym, ap, ap₂, ◌∙◌, arith}
use Rattle.std.specs.Map.{lookup}
use Rattle.std.specs.Option.{option_or}
use Rattle.std.specs.Prelude.{Option, Some, None, bytes_eq, map, ⊤}
use Rattle.bl_tree.specs.declared.place.Place.{Place}
use Rattle.bl_joined.specs.Trees.{placed_name}
use Rattle.bl_names_scopes.specs.declared.kind.Kind.{Kind}
use Rattle.bl_names_scopes.specs.declared.kind.Kind.TheVariants as kind
use Rattle.bl_names_scopes.specs.declared.scopes.Counts.{Counts}
use Rattle.bl_names_scopes.specs.declared.scopes.Declaration.{Declaration}
use Rattle.bl_names_scopes.specs.Marks.{Mark, Marks, closes, declares, opens, uses}
use Rattle.bl_names_scopes.specs.Scopes.{Declared, Scopes, after, bound, bound_around, count_of, counted, declaration_of, declared, enter, found}
use Rattle.bl_names_scopes.specs.Scopes.{scopes_outside, with_name}
use Rattle.bl_parse_tree.specs.declared.name.Name.{Name}
use Rattle.bl_names_scopes_laws_places.specs.Agree.{SameAround, SameDeclaration, SameScope, ScopesAgree, other_position, placed_mark, placed_marks}
use Rattle.bl_names_scopes_laws_places.specs.Laws.{AgreementStays}

module _ (renumber : ℕ → ℕ) where
  -- two answers for a name: no declaration, or corresponding ones
  abbrev pub SameFound : Option Declaration → Option Declaration → Type 0
  SameFound None None = ⊤
  SameFound None (Some d) = ⊥
  SameFound (Some d) None = ⊥
  SameFound (Some d) (Some e) = SameDeclaration renumber d e

  -- ---- looking names up

  by_tests : (b c : Bool) (d e : Declaration) (one other : Option Declaration) → b ≡ c → SameDeclaration renumber d e → SameFound one other →
      SameFound (cond c (Some d) one) (cond b (Some e) other)
  by_tests true true d e one other is same rest = same
  by_tests true false d e one other is same rest = absurd cc
  by_tests false true d e one other is same rest = absurd cc
  by_tests false false d e one other is same rest = rest

  pub found_agrees : (name : List ℕ) (one other : Declared) → SameScope renumber one other → SameFound (found one name) (found other name)
  found_agrees name [] [] same = tt
  found_agrees name [] (second ∷ other) same = absurd same
  found_agrees name (first ∷ one) [] same = absurd same
  found_agrees name (first ∷ one) (second ∷ other) same =
      by_tests (bytes_eq name second.0) (bytes_eq name first.0) first.1 second.1 (found one name) (found other name) (ap (bytes_eq name) same.0)
      same.1.0 (found_agrees name one other same.1.1)

  or_agrees : (a b c d : Option Declaration) → SameFound a b → SameFound c d → SameFound (option_or a c) (option_or b d)
  or_agrees None None c d first second = second
  or_agrees None (Some y) c d first second = absurd first
  or_agrees (Some x) None c d first second = absurd first
  or_agrees (Some x) (Some y) c d first second = first

  around_agrees : (name : List ℕ) (one other : List Declared) → SameAround renumber one other →
      SameFound (bound_around one name) (bound_around other name)
  around_agrees name [] [] same = tt
  around_agrees name [] (scope ∷ other) same = absurd same
  around_agrees name (scope ∷ one) [] same = absurd same
  around_agrees name (first ∷ one) (second ∷ other) same =
      or_agrees (found first name) (found second name) (bound_around one name) (bound_around other name) (found_agrees name first second same.0)
      (around_agrees name one other same.1)

  pub bound_agrees : (name : List ℕ) (one other : Scopes) → ScopesAgree renumber one other → SameFound (bound one name) (bound other name)
  bound_agrees name one other agree =
      or_agrees (found one.inner name) (found other.inner name) (bound_around one.outer name) (bound_around other.outer name)
      (found_agrees name one.inner other.inner agree.inner) (around_agrees name one.outer other.outer agree.outer)

  -- ---- declaring names

  pushed_agrees : (one other : Declared) (name : List ℕ) (d e : Declaration) → SameScope renumber one other → SameDeclaration renumber d e →
      SameScope renumber (one ++ (name, d) ∷ []) (other ++ (name, e) ∷ [])
  pushed_agrees [] [] name d e same alike = (refl, (alike, tt))
  pushed_agrees [] (second ∷ other) name d e same alike = absurd same
  pushed_agrees (first ∷ one) [] name d e same alike = absurd same
  pushed_agrees (first ∷ one) (second ∷ other) name d e same alike =
      (same.0, (same.1.0, pushed_agrees one other name d e same.1.1 alike))

  declared_agrees : (f : Place → Place) (before after_it : Option Declaration) (one other : Declared) (name : Name) (of : Kind) (k m : ℕ) →
      SameFound before after_it → SameScope renumber one other → m ≡ other_position renumber of k →
      SameScope renumber (declared before one name of k) (declared after_it other (placed_name f name) of m)
  declared_agrees f None None one other name of k m found_so same is =
      pushed_agrees one other name.text (declaration_of name of k) (declaration_of (placed_name f name) of m) same
      (record { kind = refl; position = is })
  declared_agrees f None (Some e) one other name of k m found_so same is = absurd found_so
  declared_agrees f (Some d) None one other name of k m found_so same is = absurd found_so
  declared_agrees f (Some d) (Some e) one other name of k m found_so same is = same

  at_zero : (n : ℕ) → n + 0 ≡ n
  at_zero n = omega arith

  count_agrees : (one other : Scopes) → ScopesAgree renumber one other → (of : Kind) →
      count_of other.counts of ≡ other_position renumber of (count_of one.counts of)
  count_agrees one other agree kind.Struct = agree.structs
  count_agrees one other agree kind.Constant =
      sym (at_zero other.counts.constants) ∙ sym (agree.constants 0) ∙ ap renumber (at_zero one.counts.constants)
  count_agrees one other agree kind.Variable = agree.variables
  count_agrees one other agree kind.Function = agree.units
  count_agrees one other agree kind.Activity = agree.units
  count_agrees one other agree kind.Field = refl

  one_more : (n k : ℕ) → (n + 1) + k ≡ n + (1 + k)
  one_more n k = omega arith

  -- scopes that correspond with other names in the innermost, and with one declaration of this kind more
  counted_agrees : (one other : Scopes) → ScopesAgree renumber one other → (of : Kind) (inner changed : Declared) → SameScope renumber inner changed →
      ScopesAgree renumber (record { inner = inner; outer = one.outer; counts = counted one.counts of })
      (record { inner = changed; outer = other.outer; counts = counted other.counts of })
  counted_agrees one other agree kind.Struct inner changed same = record {
    inner = same;
    outer = agree.outer;
    structs = ap (λ n. n + 1) agree.structs;
    units = agree.units;
    variables = agree.variables;
    constants = agree.constants;
  }
  counted_agrees one other agree kind.Constant inner changed same = record {
    inner = same;
    outer = agree.outer;
    structs = agree.structs;
    units = agree.units;
    variables = agree.variables;
    constants = λ k.
        ap renumber (one_more one.counts.constants k) ∙ agree.constants (1 + k) ∙ sym (one_more other.counts.constants k);
  }
  counted_agrees one other agree kind.Variable inner changed same = record {
    inner = same;
    outer = agree.outer;
    structs = agree.structs;
    units = agree.units;
    variables = ap (λ n. n + 1) agree.variables;
    constants = agree.constants;
  }
  counted_agrees one other agree kind.Function inner changed same = record {
    inner = same;
    outer = agree.outer;
    structs = agree.structs;
    units = ap (λ n. n + 1) agree.units;
    variables = refl;
    constants = agree.constants;
  }
  counted_agrees one other agree kind.Activity inner changed same = record {
    inner = same;
    outer = agree.outer;
    structs = agree.structs;
    units = ap (λ n. n + 1) agree.units;
    variables = refl;
    constants = agree.constants;
  }
  counted_agrees one other agree kind.Field inner changed same = record {
    inner = same;
    outer = agree.outer;
    structs = agree.structs;
    units = agree.units;
    variables = agree.variables;
    constants = agree.constants;
  }

  -- ---- marks

  outside_agrees : (one other : List Declared) (c d : Counts) → SameAround renumber one other →
      SameScope renumber (scopes_outside one c).inner (scopes_outside other d).inner
      × SameAround renumber (scopes_outside one c).outer (scopes_outside other d).outer
  outside_agrees [] [] c d same = (tt, tt)
  outside_agrees [] (scope ∷ other) c d same = absurd same
  outside_agrees (scope ∷ one) [] c d same = absurd same
  outside_agrees (first ∷ one) (second ∷ other) c d same = same

  counts_outside : (scopes : List Declared) (c : Counts) → (scopes_outside scopes c).counts ≡ c
  counts_outside [] c = refl
  counts_outside (scope ∷ outer) c = refl

  module _ (f : Place → Place) where
    pub enter_agrees : (one other : Scopes) → ScopesAgree renumber one other → (mark : Mark) →
        ScopesAgree renumber (enter one mark) (enter other (placed_mark f mark))
    enter_agrees one other agree opens = record {
      inner = tt;
      outer = (agree.inner, agree.outer);
      structs = agree.structs;
      units = agree.units;
      variables = agree.variables;
      constants = agree.constants;
    }
    enter_agrees one other agree closes =
        let around = outside_agrees one.outer other.outer one.counts other.counts agree.outer in
        let first = counts_outside one.outer one.counts in
        let second = counts_outside other.outer other.counts in
        record {
          inner = around.0;
          outer = around.1;
          structs = ap (λ (c : Counts). c.structs) second ∙ agree.structs ∙ sym (ap (λ (c : Counts). c.structs) first);
          units = ap (λ (c : Counts). c.units) second ∙ agree.units ∙ sym (ap (λ (c : Counts). c.units) first);
          variables = ap (λ (c : Counts). c.variables) second ∙ agree.variables ∙ sym (ap (λ (c : Counts). c.variables) first);
          constants = λ k.
              ap (λ (c : Counts). renumber (c.constants + k)) first ∙ agree.constants k ∙ sym (ap (λ (c : Counts). c.constants + k) second);
        }
    enter_agrees one other agree (declares name of) =
        counted_agrees one other agree of (declared (found one.inner name.text) one.inner name of (count_of one.counts of))
        (declared (found other.inner name.text) other.inner (placed_name f name) of (count_of other.counts of))
        (declared_agrees f (found one.inner name.text) (found other.inner name.text) one.inner other.inner name of (count_of one.counts of)
        (count_of other.counts of) (found_agrees name.text one.inner other.inner agree.inner) agree.inner (count_agrees one other agree of))
    enter_agrees one other agree (uses name wanted) = agree

    pub after_agrees : (one other : Scopes) → ScopesAgree renumber one other → (marks : Marks) →
        ScopesAgree renumber (after one marks) (after other (placed_marks f marks))
    after_agrees one other agree [] = agree
    after_agrees one other agree (mark ∷ rest) =
        after_agrees (enter one mark) (enter other (placed_mark f mark)) (enter_agrees one other agree mark) rest

pub agreement_stays : AgreementStays
agreement_stays f renumber one other agree marks = after_agrees renumber f one other agree marks
