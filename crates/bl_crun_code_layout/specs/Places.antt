-- How the code of places begins, and their indices.
use Rattle.std.specs.Prelude.{◌≡◌, ◌+◌, ℕ, pos, List, [], ◌∷◌, ◌++◌, map, slice_get, Option, Some, None, option_and_then, option_map, if◌then◌else◌}
use Rattle.bl_tree.specs.declared.c.CType.{CType}
use Rattle.bl_tree.specs.declared.c.CIndex.{CIndex, out-CIndex}
use Rattle.bl_tree.specs.declared.c.CPlace.{CPlace, out-CPlace}
use Rattle.bl_tree.specs.declared.c.CStep.{CStep, out-CStep}
use Rattle.bl_ctext_semantics.specs.Sizes.{size_of_type}
use Rattle.bl_ctext_semantics_laws.specs.Layout.{MemberOffset, capped}
use Rattle.bl_ctext_semantics_laws.specs.Reaching.{Ground, Reach, Term, laid_in, near, through}
use Rattle.bl_crun_code.specs.Code.{FunctionEntry, Valued, expr_valued, literal_valued, reach_of_place, start_operand}
use Rattle.bl_crun_code_layout.specs.declared.place.IndexTerm.{IndexTerm}
use Rattle.bl_crun_code_layout.specs.declared.place.Walk.{Walk}
use Rattle.bl_crun_code_layout.specs.declared.place.Way.{Way}

-- the index of a step, before which so many stand
abbrev pub index_at : List CStep → ℕ → Option CIndex
index_at steps n = option_and_then (λ step. (out-CStep step).index) (slice_get steps n)

-- the value of an index; one that isn't there counts as 0
abbrev pub index_valued : Ground FunctionEntry → Option CIndex → Valued
index_valued here None = literal_valued (pos 0)
index_valued here (Some index) = expr_valued (out-CIndex index).at here

-- an index with the code of the expression that chooses the element
abbrev pub term_of : Ground FunctionEntry → List CStep → IndexTerm → Term Valued
term_of here steps t = record { length = t.length; size = t.size; index = index_valued here (index_at steps t.step) }

-- how a place is reached that was walked to: what it starts with, its indices, and the type of what stands there
pub record IsWalkTo (here : Ground FunctionEntry) (at : CPlace) (walk : Walk) : Type 0 where
  pub start : walk.start ≡ start_operand (reach_of_place at here).start (reach_of_place at here).passed
  pub terms : map (term_of here (out-CPlace at).steps) walk.terms.items ≡ (reach_of_place at here).terms
  pub ty : option_map (λ t. t.now) walk.ty ≡ (reach_of_place at here).ty

-- how a part of a place is reached, as far as its steps were followed
abbrev pub reach_so_far : Ground FunctionEntry → List CStep → Way → Reach Valued
reach_so_far here steps w = record {
  start = if w.pointer then through w.at else near w.at;
  passed = w.passed;
  terms = map (term_of here steps) w.terms.items;
  ty = option_map (λ t. t.now) w.ty;
}

-- the type of a member that was found
abbrev pub type_of_found : Option MemberOffset → Option CType
type_of_found found = option_map (λ l. l.it.ty) found

-- how many cells stand before a member that was found
abbrev pub cells_before : Option MemberOffset → ℕ
cells_before None = 0
cells_before (Some l) = l.at

-- the element that a step chooses in a member that was found, none without an index
abbrev pub term_if : Ground FunctionEntry → Option MemberOffset → Option CIndex → List (Term Valued)
term_if here None index = []
term_if here (Some l) None = []
term_if here (Some l) (Some index) =
    record { length = (out-CIndex index).length; size = size_of_type here.sizes l.it.ty; index = expr_valued (out-CIndex index).at here } ∷ []

-- the index that was found, where there is one
abbrev pub terms_found : Ground FunctionEntry → List CStep → Option IndexTerm → List (Term Valued)
terms_found here steps None = []
terms_found here steps (Some t) = term_of here steps t ∷ []

-- a place and one step more
abbrev pub one_step_on : Ground FunctionEntry → Reach Valued → CStep → Reach Valued
one_step_on here r step =
    let found : Option MemberOffset = laid_in here r.ty (out-CStep step).member in
    record {
      start = r.start;
      passed = capped (r.passed + cells_before found);
      terms = r.terms ++ term_if here found (out-CStep step).index;
      ty = type_of_found found;
    }

-- a place and further steps, one after the other
abbrev pub followed_by : Ground FunctionEntry → Reach Valued → List CStep → Reach Valued
followed_by here r [] = r
followed_by here r (step ∷ steps) = followed_by here (one_step_on here r step) steps
