-- The face of a tree that passes behind faces stands behind them, and declares what is known at its end.
use Rattle.std.proofs.Common.{◌≡◌, ℕ, ◌≤◌, ◌<◌, zero, suc, true, false, List, [], ◌∷◌, ◌++◌, length, drop, inl, inr, Some, refl, sym, ap, subst, ◌∙◌}
use Rattle.std.proofs.Common.{append-nil, arith}
use Rattle.std.specs.Prelude.{Bool, Contains, nat_le, slice_get, slice_index}
use Rattle.std.specs.List.{list_all}
use Rattle.std.proofs.lemmas.Bool.{leb-false, leb-true}
use Rattle.std.proofs.lemmas.Bool.{and_from}
use Rattle.bl_tree.proofs.Basics.{contains_at, first_empty}
use Rattle.bl_face.specs.declared.face.Face.{Face}
use Rattle.bl_limits.specs.Rules.{NestingPasses}
use Rattle.bl_limits_measures.specs.Types.{nesting_by, struct_nestings}
use Rattle.bl_module.proofs.FaceLemmas.{after-append, items-append, stand-append}
use Rattle.bl_module.proofs.Keeping.{face_keeps}
use Rattle.bl_module.specs.Behind.{after_items as walk_over, before_items, items_stand}
use Rattle.bl_module.specs.declared.behind.Behind.{Behind}
use Rattle.bl_module.specs.declared.walk.Walk.{Walk}
use Rattle.bl_module.specs.Faces.{FacesStand, all_items, behind_faces, items_of}
use Rattle.bl_module.specs.Own.{face_items, next_behind}
use Rattle.bl_module.specs.Rules.{TreePasses, here, in_bytes, in_graphs, in_names, in_nesting, in_own, in_tree, in_types, in_units, is_last, known_at, known_in}
use Rattle.bl_module.specs.Rules.{named_in, own_units}
use Rattle.bl_module_laws_faces.proofs.Adding.{Adds, Agrees, Shallow}
use Rattle.bl_module_laws_faces.proofs.Fresh.{marks_fresh}
use Rattle.bl_module_laws_faces.proofs.Goes.{Goes, goes}
use Rattle.bl_module_laws_faces.proofs.Here.{Here}
use Rattle.bl_module_laws_faces.proofs.Items.{items_add}
use Rattle.bl_module_laws_faces.proofs.Start.{BeginsWith, begins_behind}
use Rattle.bl_module_laws_faces.specs.Declared.{FaceAdds}
use Rattle.bl_module_laws_faces.specs.Laws.{FaceDeclares, TreeDeclares, TreesHaveFaces}
use Rattle.bl_names.proofs.FitLemmas.{marks_fit}
use Rattle.bl_names.specs.Named.{blank_constant, blank_struct, blank_unit, blanks}
use Rattle.bl_names.specs.Order.{order_of}
use Rattle.bl_names_scopes.specs.Marks.{marks_of}
use Rattle.bl_names_scopes.specs.Rules.{PassesBehind as NamesPass}
use Rattle.bl_names_scopes.specs.Scopes.{Scopes, opened_by}
use Rattle.bl_names_tree.specs.declared.named.Named.{Named}
use Rattle.bl_parse_tree.specs.declared.raw.Raw.{Raw}
use Rattle.bl_parse_tree.specs.WellFormed.{RawIsWellFormed}
use Rattle.bl_rules.proofs.Layers.{TokensAreOne, TreesAreOne, one_tree}
use Rattle.bl_tree.proofs.ReduceLemmas.{joined-append}
use Rattle.bl_tree.specs.declared.rule.Rule.TheVariants as rule
use Rattle.bl_tree.specs.declared.tree.StructDef.{StructDef}
use Rattle.bl_tree.specs.declared.tree.Var.{Var}
use Rattle.bl_tree.specs.Reduce.{joined}
use Rattle.bl_tree.specs.Rules.{further_places}
use Rattle.bl_types.specs.declared.environment.Environment.{Environment}
use Rattle.bl_types.specs.declared.environment.Known.{Known}
use Rattle.bl_types.specs.Programs.{after_items, failures_behind, program_behind}
use Rattle.bl_types.specs.Rules.{PassesBehind as TypesPass}
use Rattle.bl_types_laws.proofs.Reached.{same_counts}
use Rattle.bl_types_laws_places.specs.Agree.{SameHeads, SameStructs}
use Rattle.bl_lex.specs.Tokens.{Lexes}
use Rattle.bl_parse.specs.Programs.{Spells}
use Rattle.bl_parse_syntax.specs.Rules.{PassesDepth}
use Rattle.bl_tree.specs.declared.token.Token.{Token}
use Rattle.bl_types_laws.proofs.ItemTurns.{none_contained}

-- ---- what passes

no_failure : (last : Bool) (env : Environment) (named : Named) → TypesPass last env named → failures_behind last env named ≡ []
no_failure last env named passes =
    none_contained (failures_behind last env named)
    (λ failure there. passes failure.rule failure.at (further_places failure.further)
    (record { failure = failure; is_there = there; of_rule = refl; at_place = refl; further = refl }))

module _ (behind : Behind) (last : Bool) (raw : Raw) (passes : TreePasses behind last raw) where
  names_pass : NamesPass (opened_by behind.headings) (marks_of raw.items)
  names_pass rule at further fails = passes rule at (here further) (in_names further fails refl)

  types_pass : TypesPass last (known_at behind) (named_in behind raw)
  types_pass rule at also fails = passes rule at also (in_types names_pass fails)

  nesting_passes : NestingPasses (length behind.structs) (known_in behind raw).structs (own_units behind raw)
  nesting_passes rule at also fails =
      passes rule at also (in_own names_pass types_pass
      (in_nesting (λ r p a f. passes r p a (in_own names_pass types_pass (in_units f)))
      (λ r p a f. passes r p a (in_own names_pass types_pass (in_graphs (λ r p a f. passes r p a (in_own names_pass types_pass (in_units f))) f))) fails))

-- ---- types that aren't nested too deep

at_most : (n m : ℕ) → (m < n → ⊥) → n ≤ m
at_most n m never =
    elim (nat_le n m) as (λ test. nat_le n m ≡ test → n ≤ m) [
      | true ↦ λ is. leb-true n m is
      | false ↦ λ is. absurd (never (leb-false n m is))
    ] refl

test_at_most : (n m : ℕ) → (m < n → ⊥) → nat_le n m ≡ true
test_at_most n m never =
    elim (nat_le n m) as (λ test. nat_le n m ≡ test → test ≡ true) [
      | true ↦ λ is. refl
      | false ↦ λ is. absurd (never (leb-false n m is))
    ] refl

all_by : {A : Type 0} (test : A → Bool) (xs : List A) → ((x : A) → Contains xs x → test x ≡ true) → list_all test xs ≡ true
all_by test [] each = refl
all_by test (x ∷ xs) each =
    and_from (test x) (list_all test xs) (each x (zero, omega arith, refl))
    (all_by test xs (λ y there. let less = there.1 in each y (suc there.0, omega arith, there.2)))

-- an element from a position on
behind_position : {A : Type 0} (xs : List A) (n k : ℕ) (x : A) → n ≤ k → slice_get xs k ≡ Some x → Contains (drop n xs) x
behind_position xs zero k x from there = contains_at xs k x there
behind_position [] (suc n) k x from there = absurd (cc)
behind_position (y ∷ xs) (suc n) zero x from there = absurd (omega (arith, from))
behind_position (y ∷ xs) (suc n) (suc k) x from there = behind_position xs n k x (omega (arith, from)) there

shallow : (named : Named) (known : Known) (from_structs from_units : ℕ) → NestingPasses from_structs known.structs (drop from_units known.units) →
    Shallow named known from_structs from_units
shallow named known from_structs from_units passes = record {
  structs = λ k def own there. at_most (slice_index (struct_nestings known.structs) k) 100
      (λ deep. passes rule.Cells def.place []
      (inl (record { position = k; later = own; def = def; is_there = there; deep = deep; at_name = refl }), refl));
  units = λ k unit own there.
      all_by (λ (var : Var). nat_le (nesting_by (struct_nestings known.structs) var.ty) 100) unit.vars
      (λ var of_unit. test_at_most (nesting_by (struct_nestings known.structs) var.ty) 100
      (λ deep. passes rule.Cells var.place [] (
        inr (record {
          unit = unit;
          of_program = behind_position known.units from_units k unit own there;
          var = var;
          of_unit = of_unit;
          deep = deep;
          at_name = refl;
        }),
        refl,
      )));
}

-- ---- one face more

pub faces_next : (faces : List Face) (face : Face) → all_items (faces ++ face ∷ []) ≡ all_items faces ++ face.items
faces_next faces face =
    ap joined (items-append faces (face ∷ [])) ∙ joined-append (items_of faces) (face.items ∷ [])
    ∙ ap (λ rest. all_items faces ++ rest) (append-nil face.items)

module _ (faces : List Face) (last : Bool) (raw : Raw) (face : Face) (stand : FacesStand faces) (formed : RawIsWellFormed raw.items)
    (passes : TreePasses (behind_faces faces) last raw) (is_face : face.items ≡ face_items (behind_faces faces) raw) where
  abbrev walk : Walk
  walk = walk_over before_items (all_items faces)

  abbrev behind : Behind
  behind = behind_faces faces

  abbrev named : Named
  named = named_in behind raw

  abbrev env : Environment
  env = known_at behind

  abbrev known : Known
  known = known_in behind raw

  abbrev scopes : Scopes
  scopes = opened_by behind.headings

  none : (after_items named (order_of raw.items) env).failures ≡ []
  none = first_empty (program_behind env named).failures _ (no_failure last env named (types_pass behind last raw passes))

  -- where these are the structs in the end
  begun : (whole rest : List StructDef) → whole ≡ behind.structs ++ rest → BeginsWith (struct_nestings whole) walk
  begun whole rest front = begins_behind (all_items faces) whole rest front stand

  here_by : (nestings : List ℕ) → BeginsWith nestings walk → Here named scopes raw.items env
  here_by nestings begins = record {
    at = record {
      below = begins.below;
      none = begins.none;
      fits = marks_fit scopes (marks_of raw.items) (names_pass behind last raw passes);
      structs = record { before = blanks blank_struct behind.headings; there = refl; is_at = begins.blank_structs };
      constants = record { before = blanks blank_constant behind.headings; there = refl; is_at = begins.blank_constants };
      units = record { before = blanks blank_unit behind.headings; there = refl; is_at = begins.blank_units };
      counts = same_counts env scopes begins.structs begins.constants begins.units (sym begins.none);
      between = begins.between;
      kinds = begins.kinds;
    };
    told = begins.told;
    stand = formed.stand;
    fresh = marks_fresh scopes (marks_of raw.items) (names_pass behind last raw passes);
  }

  gone : Goes env (program_behind env named).env
  gone = goes named raw.items scopes env (here_by (struct_nestings behind.structs) (begun behind.structs [] (sym (append-nil behind.structs)))) none

  begins : BeginsWith (struct_nestings known.structs) walk
  begins = begun known.structs gone.later gone.structs

  agrees : Agrees named known (length behind.structs) (length behind.units) scopes env walk
  agrees = record { names = begins.names; structs = refl; units = refl; own_structs = omega arith; own_units = omega arith }

  adds : Adds named known (length behind.structs) (length behind.units) raw.items walk (face_items behind raw)
  adds = items_add named known (length behind.structs) (length behind.units)
      (shallow named known (length behind.structs) (length behind.units) (nesting_passes behind last raw passes)) raw.items scopes env walk
      (here_by (struct_nestings known.structs) begins) agrees none refl refl refl

  next_is : walk_over before_items (all_items (faces ++ face ∷ [])) ≡ walk_over walk (face_items behind raw)
  next_is = ap (walk_over before_items) (faces_next faces face) ∙ after-append before_items (all_items faces) face.items ∙ ap (walk_over walk) is_face

  pub face_adds : FaceAdds faces face raw
  face_adds = record {
    stand = ap (items_stand before_items) (faces_next faces face) ∙ stand-append before_items (all_items faces) face.items
        ∙ and_from (items_stand before_items (all_items faces)) (items_stand walk face.items) stand (ap (items_stand walk) is_face ∙ adds.stand);
    headings = ap (λ (w : Walk). w.behind.headings) next_is ∙ adds.headings;
    structs = subst (λ (w : Walk). SameStructs w.behind.structs known.structs) (sym next_is) adds.structs;
    constants = ap (λ (w : Walk). w.behind.constants) next_is ∙ adds.constants;
    units = subst (λ (w : Walk). SameHeads w.behind.units known.units) (sym next_is) adds.units;
  }

pub tree_declares : TreeDeclares
tree_declares faces last raw face stand formed passes is_face = face_adds faces last raw face stand formed passes is_face

-- ---- texts

abbrev pub SpelledKeeps : Type 0
SpelledKeeps = (text : List ℕ) (tokens : List Token) (raw : Raw) → Lexes text tokens → PassesDepth tokens → Spells text tokens raw → RawIsWellFormed raw.items

pub face_declares : TokensAreOne → TreesAreOne → SpelledKeeps → FaceDeclares
face_declares one trees keeps faces taken text face raw good parses =
    tree_declares faces (is_last taken raw) raw face good.stand
    (keeps text parses.tokens raw parses.lexes parses.passes.depth parses.spells)
    (λ r p a f. good.passes r p a (in_tree raw (λ r p a f. good.passes r p a (in_bytes f)) parses f))
    (good.is_face.is ∙ ap (face_items (behind_faces faces)) (one_tree one trees text good.is_face.raw raw good.is_face.parses parses))

-- ---- trees have faces

pub trees_have_faces : TreesHaveFaces
trees_have_faces faces raw formed =
    let behind : Behind = behind_faces faces in
    (record { items = face_items behind raw; keeps = face_keeps (known_in behind raw) (next_behind behind) raw.items formed.stand }, refl)
