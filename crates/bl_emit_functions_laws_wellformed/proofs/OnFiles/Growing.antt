-- A table that tells the chains still does so once a C function joins it.
use Rattle.std.proofs.Common.{◌≡◌, ℕ, zero, suc, ◌<◌, ◌≤◌, inr, ⊎_elim, Bool, true, false, not, ◌||◌, List, []}
use Rattle.std.proofs.Common.{◌∷◌, ◌++◌, map, take}
use Rattle.std.proofs.Common.{Option, Some, None, refl, sym, ap, ◌∙◌, subst, arith}
use Rattle.std.proofs.lemmas.Bool.{cases_lt}
use Rattle.std.proofs.lemmas.List.Folds.{list_all-append}
use Rattle.std.proofs.lemmas.Option.{same_Some}
use Rattle.std.proofs.lemmas.Slice.Eq.{bytes_eq-Decides}
use Rattle.std.specs.List.{list_all}
use Rattle.std.specs.Option.{option_or}
use Rattle.std.specs.Prelude.{bytes_eq, slice_get, unwrap_or, if◌then◌else◌}
use Rattle.bl_tree.proofs.Basics.{and_first, and_second}
use Rattle.bl_tree.specs.declared.rule.Rule.TheVariants as rule
use Rattle.bl_tree.specs.declared.scalar.Scalar.{Scalar as ScalarType}
use Rattle.bl_tree.specs.declared.text.Text.{Text}
use Rattle.bl_tree.specs.declared.tree.StructDef.{StructDef}
use Rattle.bl_tree.specs.declared.tree.Unit.{Unit as UnitDef}
use Rattle.bl_tree.specs.Words.{are_distinct, is_among, is_name}
use Rattle.bl_limits_measures.specs.Units.{chain_at}
use Rattle.bl_ctext_semantics.specs.Faults.{depth_of_function}
use Rattle.bl_emit_acts.specs.Expressions.{function_name}
use Rattle.bl_emit_acts.specs.Types.{unit_name}
use Rattle.bl_emit_functions.specs.Functions.{function_code}
use Rattle.bl_emit_functions_laws_wellformed.specs.Files.Laws.{ChainsGrow, ChainsShort}
use Rattle.bl_emit_functions_laws_wellformed.proofs.OnFiles.Chains.{follow}

-- ---- names

abbrev pub names : List UnitDef → List (List ℕ)
names units = map (λ (unit : UnitDef). unit.name) units

pub distinct_behind : (xs ys : List (List ℕ)) → are_distinct (xs ++ ys) ≡ true → are_distinct ys ≡ true
distinct_behind [] ys h = h
distinct_behind (x ∷ xs) ys h = distinct_behind xs ys (and_second (not (is_among x (xs ++ ys))) (are_distinct (xs ++ ys)) h)

-- a text that is none of the names
other_name : (text : List ℕ) (units : List UnitDef) (k : ℕ) (unit : UnitDef) → not (is_among text (names units)) ≡ true →
    slice_get units k ≡ Some unit → text ≡ unit.name → ⊥
other_name text [] k unit none there same = absurd (cc)
other_name text (first ∷ units) zero unit none there same =
    not_first (bytes_eq text first.name) (is_among text (names units)) none
    ((bytes_eq-Decides text first.name).1 (same ∙ ap (λ (unit : UnitDef). unit.name) (sym (same_Some first unit there))))
  where
    not_first : (a b : Bool) → not (a || b) ≡ true → a ≡ true → ⊥
    not_first true b h is = cc
    not_first false b h is = cc
other_name text (first ∷ units) (suc k) unit none there same =
    other_name text units k unit (not_second (bytes_eq text first.name) (is_among text (names units)) none) there same
  where
    not_second : (a b : Bool) → not (a || b) ≡ true → not b ≡ true
    not_second true b h = absurd (cc)
    not_second false b h = h

-- two units of one name are one
pub one_place : (units : List UnitDef) (j k : ℕ) (a b : UnitDef) → are_distinct (names units) ≡ true → slice_get units j ≡ Some a →
    slice_get units k ≡ Some b → a.name ≡ b.name → j ≡ k
one_place [] j k a b distinct here there same = absurd (cc)
one_place (first ∷ units) zero zero a b distinct here there same = refl
one_place (first ∷ units) zero (suc k) a b distinct here there same =
    absurd (other_name first.name units k b (and_first (not (is_among first.name (names units))) (are_distinct (names units)) distinct) there
    (ap (λ (unit : UnitDef). unit.name) (same_Some first a here) ∙ same))
one_place (first ∷ units) (suc j) zero a b distinct here there same =
    absurd (other_name first.name units j a (and_first (not (is_among first.name (names units))) (are_distinct (names units)) distinct) here
    (ap (λ (unit : UnitDef). unit.name) (same_Some first b there) ∙ sym same))
one_place (first ∷ units) (suc j) (suc k) a b distinct here there same =
    ap suc (one_place units j k a b (and_second (not (is_among first.name (names units))) (are_distinct (names units)) distinct) here there same)

pub named_at : (units : List UnitDef) (k : ℕ) (unit : UnitDef) → list_all is_name (names units) ≡ true → slice_get units k ≡ Some unit →
    is_name unit.name ≡ true
named_at [] k unit all there = absurd (cc)
named_at (first ∷ units) zero unit all there =
    ap (λ (unit : UnitDef). is_name unit.name) (sym (same_Some first unit there)) ∙ and_first (is_name first.name) (list_all is_name (names units)) all
named_at (first ∷ units) (suc k) unit all there =
    named_at units k unit (and_second (is_name first.name) (list_all is_name (names units)) all) there

-- ---- tables

-- an entry under another name
pub still_none : (o : Option ℕ) (b : Bool) (d : ℕ) → o ≡ None → b ≡ false → option_or o (if b then Some d else None) ≡ None
still_none None true d is other = absurd (cc)
still_none None false d is other = refl
still_none (Some n) b d is other = absurd (cc)

pub unnamed_other : (name : Text) → is_name name ≡ true → bytes_eq (unit_name name) (unit_name []) ≡ false
unnamed_other [] named = absurd (cc)
unnamed_other (c ∷ name) named = refl

pub prelude_other : (name word : Text) (s : ScalarType) → bytes_eq (unit_name name) (function_name word s) ≡ false
prelude_other name word s = refl

pub at_most : (o : Option ℕ) (b : Bool) (d most : ℕ) → unwrap_or o 0 ≤ most → (b ≡ true → d ≤ most)
    → unwrap_or (option_or o (if b then Some d else None)) 0 ≤ most
at_most (Some n) b d most old new = old
at_most None true d most old new = new refl
at_most None false d most old new = old

pub grow : (structs : List StructDef) (units : List UnitDef) (entry : ℕ) → ChainsGrow structs units entry
grow structs units entry k unit depths keeps there known = record {
  prelude = λ word s.
      still_none (depths (function_name word s)) (bytes_eq (unit_name unit.name) (function_name word s)) d (known.prelude word s)
      (prelude_other unit.name word s);
  unnamed = still_none (depths (unit_name [])) (bytes_eq (unit_name unit.name) (unit_name [])) d known.unnamed (unnamed_other unit.name named);
  of_units = λ f other found.
      at_most (depths (unit_name other.name)) (bytes_eq (unit_name unit.name) (unit_name other.name)) d (chain_at units f) (known.of_units f other found)
      (same_unit f other found);
}
  where
    d : ℕ
    d = depth_of_function depths (function_code structs (take k units) unit)

    struct_names : List (List ℕ)
    struct_names = map (λ (def : StructDef). def.name) structs

    named : is_name unit.name ≡ true
    named =
        named_at units k unit
        (and_second (list_all is_name struct_names) (list_all is_name (names units)) (sym (list_all-append is_name struct_names (names units)) ∙ keeps.named))
        there

    same_unit : (f : ℕ) (other : UnitDef) → slice_get units f ≡ Some other → bytes_eq (unit_name unit.name) (unit_name other.name) ≡ true →
        d ≤ chain_at units f
    same_unit f other found same =
        let text : unit.name ≡ other.name = (bytes_eq-Decides unit.name other.name).0 same in
        let place : k ≡ f = one_place units k f unit other (distinct_behind struct_names (names units) keeps.distinct) there found text in
        subst (λ f. d ≤ chain_at units f) place (follow structs units k unit depths there known)

pub short : (structs : List StructDef) (units : List UnitDef) (entry : ℕ) → ChainsShort structs units entry
short structs units entry k unit depths passes there known =
    let less : depth_of_function depths (function_code structs (take k units) unit) ≤ chain_at units k = follow structs units k unit depths there known in
    ⊎_elim
    (λ (long : 100 < chain_at units k). absurd (passes rule.Frames unit.place []
    (inr (record { position = k; unit = unit; heads = there; long = long; at_name = refl }), refl)))
    (λ (few : chain_at units k ≤ 100). omega (arith, less, few))
    (cases_lt 100 (chain_at units k))
