-- Expressions and acts of an instance look at homes alone.
use Rattle.std.proofs.Common.{◌≡◌, ℕ, zero, suc, ◌+◌, List, [], ◌∷◌, ◌++◌, map, Option, Some, None, refl, sym, ap, ◌∙◌, arith}
use Rattle.std.specs.Prelude.{option_map, option_and_then, slice_get, unwrap_or}
use Rattle.std.specs.List.{range_with_len}
use Rattle.bl_tree.specs.declared.static_path.Static.{Static}
use Rattle.bl_tree.specs.declared.tree.Expr.{Expr}
use Rattle.bl_tree.specs.declared.tree.Stmt.{Stmt}
use Rattle.bl_tree.specs.declared.value.Value.{Value}
use Rattle.bl_tree.specs.declared.value.Value.TheVariants.{Parts}
use Rattle.bl_tree.specs.Apart.{roots_in}
use Rattle.bl_tree.specs.Effects.{reads, writes}
use Rattle.bl_tree.specs.Static.{mentions}
use Rattle.bl_tree.specs.Typing.{TypingContext}
use Rattle.bl_eval.specs.Standing.{outcome_of, scope_of, site_at, value_of}
use Rattle.bl_eval.specs.Values.{value_at}
use Rattle.bl_ctree.specs.declared.instance.Instance.{Instance}
use Rattle.bl_ctree.specs.Instances.{Setting}
use Rattle.bl_ctree.specs.Store.{Frame, Location, Store, home, homes, value_among, variable_among, view_at, whole_of}
use Rattle.bl_eval_laws.specs.Local.{Alike, LeftAlike, SameAt, at_path, named_by}
use Rattle.bl_eval_laws.proofs.OnLocal.Acting.{acts_are_local}
use Rattle.bl_eval_laws.proofs.OnLocal.Locality.{values_are_local_too, value_within}
use Rattle.bl_eval_laws.proofs.OnLocal.Puts.{parts_of}
use Rattle.bl_ctree_laws_confluence.specs.Stores.{OutcomesThereAreLocal, SameThere, ValuesThereAreLocal, ViewsAreLocal, before_of, homes_of, now_of, onward}
use Rattle.bl_ctree_laws_confluence.proofs.OnStores.Homes.{homes_lead_on}

-- ---- variables by their numbers

get_mapped : (f : ℕ → Value) (xs : List ℕ) (k : ℕ) → slice_get (map f xs) k ≡ option_map f (slice_get xs k)
get_mapped f [] zero = refl
get_mapped f [] (suc k) = refl
get_mapped f (x ∷ xs) zero = refl
get_mapped f (x ∷ xs) (suc k) = get_mapped f xs k

-- the number at a place of a range
pub range_at : (first count k j : ℕ) → slice_get (range_with_len first count) k ≡ Some j → j ≡ first + k
range_at first zero zero j e = absurd cc
range_at first zero (suc k) j e = absurd cc
range_at first (suc count) zero j e = let is : first ≡ j = cc in omega arith
range_at first (suc count) (suc k) j e = let is : j ≡ (first + 1) + k = range_at (first + 1) count k j e in omega arith

-- two functions of the numbers of variables that agree at one agree there in their lists
mapped_same : (f g : ℕ → Value) (count k : ℕ) → f k ≡ g k →
    slice_get (map f (range_with_len 0 count)) k ≡ slice_get (map g (range_with_len 0 count)) k
mapped_same f g count k same =
    get_mapped f (range_with_len 0 count) k ∙ by_number (slice_get (range_with_len 0 count) k) refl ∙ sym (get_mapped g (range_with_len 0 count) k)
  where
    by_number : (o : Option ℕ) → slice_get (range_with_len 0 count) k ≡ o → option_map f o ≡ option_map g o
    by_number None e = refl
    by_number (Some j) e =
        let is : j ≡ k = (let sum : j ≡ 0 + k = range_at 0 count k j e in omega arith) in ap (λ j. Some (f j)) is ∙ ap Some same
        ∙ ap (λ j. Some (g j)) (sym is)

-- and those that agree at the fields
mapped_alike : (f g : ℕ → Value) (count k : ℕ) (fields : List ℕ) → value_at fields (f k) ≡ value_at fields (g k) →
    option_and_then (value_at fields) (slice_get (map f (range_with_len 0 count)) k)
    ≡ option_and_then (value_at fields) (slice_get (map g (range_with_len 0 count)) k)
mapped_alike f g count k fields same =
    ap (option_and_then (value_at fields)) (get_mapped f (range_with_len 0 count) k) ∙ by_number (slice_get (range_with_len 0 count) k) refl
    ∙ sym (ap (option_and_then (value_at fields)) (get_mapped g (range_with_len 0 count) k))
  where
    by_number : (o : Option ℕ) → slice_get (range_with_len 0 count) k ≡ o →
        option_and_then (value_at fields) (option_map f o) ≡ option_and_then (value_at fields) (option_map g o)
    by_number None e = refl
    by_number (Some j) e =
        let is : j ≡ k = (let sum : j ≡ 0 + k = range_at 0 count k j e in omega arith) in
        ap (λ j. value_at fields (f j)) is ∙ same ∙ ap (λ j. value_at fields (g j)) (sym is)

-- ---- values at homes

pub nothing_there : (f : ℕ) (fields : List ℕ) → value_at (f ∷ fields) (Parts []) ≡ None
nothing_there f fields = ap (λ all. option_and_then (value_at fields) (option_and_then (λ all. slice_get all f) all)) (parts_of []) ∙ empty f
  where
    empty : (f : ℕ) → option_and_then (value_at fields) (slice_get [] f) ≡ None
    empty zero = refl
    empty (suc f) = refl

-- a value or nothing fitting, seen at fields
or_parts : (fields : List ℕ) (o o' : Option Value) → option_and_then (value_at fields) o ≡ option_and_then (value_at fields) o' →
    value_at fields (unwrap_or o (Parts [])) ≡ value_at fields (unwrap_or o' (Parts []))
or_parts fields None None e = refl
or_parts fields (Some a) (Some b) e = e
or_parts [] None (Some b) e = absurd cc
or_parts [] (Some a) None e = absurd cc
or_parts (f ∷ fields) None (Some b) e = nothing_there f fields ∙ e
or_parts (f ∷ fields) (Some a) None e = e ∙ sym (nothing_there f fields)

-- what is onward from a home is in what is at the home
among_onward : (values : Frame → List Value) (store : Store) (at : Location) (fields : List ℕ) →
    value_among values store (onward at fields) ≡ option_and_then (value_at fields) (value_among values store at)
among_onward values store at fields = by_frame (slice_get store at.instance)
  where
    by_value : (value : Option Value) →
        option_and_then (value_at (at.path.fields ++ fields)) value ≡ option_and_then (value_at fields) (option_and_then (value_at at.path.fields) value)
    by_value None = refl
    by_value (Some value) = value_within at.path.fields fields value

    by_frame : (frame : Option Frame) →
        option_and_then (λ frame. option_and_then (value_at (at.path.fields ++ fields)) (slice_get (values frame) at.path.root)) frame
        ≡ option_and_then (value_at fields)
        (option_and_then (λ frame. option_and_then (value_at at.path.fields) (slice_get (values frame) at.path.root)) frame)
    by_frame None = refl
    by_frame (Some frame) = by_value (slice_get (values frame) at.path.root)

module _ (w : Setting) (s t : Store) (i : ℕ) where
  path_alike : (path : Static) →
      value_among now_of s (home w (record { instance = i; path = path })) ≡ value_among now_of t (home w (record { instance = i; path = path })) →
      at_path (view_at w s i).now path ≡ at_path (view_at w t i).now path
  path_alike path same =
      let at = home w (whole_of i path.root) in
      let onward_same = sym (among_onward now_of s at path.fields) ∙ sym (ap (value_among now_of s) (homes_lead_on w i path)) ∙ same
      ∙ ap (value_among now_of t) (homes_lead_on w i path) ∙ among_onward now_of t at path.fields in
      mapped_alike (variable_among now_of w s i) (variable_among now_of w t i) _ path.root path.fields
      (or_parts path.fields (value_among now_of s at) (value_among now_of t at) onward_same)

  paths_alike : (paths : List Static) → SameThere now_of (homes w i paths) s t → Alike paths (view_at w s i).now (view_at w t i).now
  paths_alike [] same = tt
  paths_alike (path ∷ rest) same = (path_alike path same.0, paths_alike rest same.1)

  before_same : (variables : List ℕ) → SameThere before_of (homes_of w i variables) s t → SameAt variables (view_at w s i).before (view_at w t i).before
  before_same [] same = tt
  before_same (k ∷ rest) same = (
    mapped_same (variable_among before_of w s i) (variable_among before_of w t i) _ k (ap (λ o. unwrap_or o (Parts [])) same.0),
    before_same rest same.1,
  )

  value_by_site : (e : Expr) (site : Option TypingContext) → SameThere now_of (homes w i (mentions e)) s t → SameThere before_of (homes_of w i (roots_in e)) s t →
      option_and_then (λ site. value_of site e (view_at w s i)) site ≡ option_and_then (λ site. value_of site e (view_at w t i)) site
  value_by_site e None same near = refl
  value_by_site e (Some site) same near =
      values_are_local_too (scope_of site) e (view_at w s i).now (view_at w t i).now (view_at w s i).before (view_at w t i).before
      (paths_alike (mentions e) same) (before_same (roots_in e) near)

  value_by_instance : (e : Expr) (instance : Option Instance) → SameThere now_of (homes w i (mentions e)) s t →
      SameThere before_of (homes_of w i (roots_in e)) s t →
      option_and_then (λ instance. option_and_then (λ site. value_of site e (view_at w s i)) (site_at w.structs w.units instance.unit)) instance
      ≡ option_and_then (λ instance. option_and_then (λ site. value_of site e (view_at w t i)) (site_at w.structs w.units instance.unit)) instance
  value_by_instance e None same near = refl
  value_by_instance e (Some instance) same near = value_by_site e (site_at w.structs w.units instance.unit) same near

  outcome_by_site : (act : Stmt) (site : Option TypingContext) → SameThere now_of (homes w i (reads act ++ writes act)) s t →
      SameThere before_of (homes_of w i (named_by act)) s t →
      LeftAlike (writes act) (option_and_then (λ site. outcome_of site act (view_at w s i)) site)
      (option_and_then (λ site. outcome_of site act (view_at w t i)) site)
  outcome_by_site act None same near = tt
  outcome_by_site act (Some site) same near =
      acts_are_local (scope_of site) act (view_at w s i).now (view_at w t i).now (view_at w s i).before (view_at w t i).before
      (paths_alike (reads act ++ writes act) same) (before_same (named_by act) near)

  outcome_by_instance : (act : Stmt) (instance : Option Instance) → SameThere now_of (homes w i (reads act ++ writes act)) s t →
      SameThere before_of (homes_of w i (named_by act)) s t →
      LeftAlike (writes act)
      (option_and_then (λ instance. option_and_then (λ site. outcome_of site act (view_at w s i)) (site_at w.structs w.units instance.unit)) instance)
      (option_and_then (λ instance. option_and_then (λ site. outcome_of site act (view_at w t i)) (site_at w.structs w.units instance.unit)) instance)
  outcome_by_instance act None same near = tt
  outcome_by_instance act (Some instance) same near = outcome_by_site act (site_at w.structs w.units instance.unit) same near

pub views_are_local : ViewsAreLocal
views_are_local = record {
  now = λ w s t i paths same. paths_alike w s t i paths same;
  before = λ w s t i variables same. before_same w s t i variables same;
}

pub values_there_are_local : ValuesThereAreLocal
values_there_are_local w s t i e same near = value_by_instance w s t i e (slice_get w.instances i) same near

pub outcomes_there_are_local : OutcomesThereAreLocal
outcomes_there_are_local w s t i act same near = outcome_by_instance w s t i act (slice_get w.instances i) same near
