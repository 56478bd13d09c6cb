-- What actions do, step by step.
use Rattle.std.proofs.Common.{◌≡◌, ℕ, List, [], ◌∷◌, ◌++◌, Option, Some, None, refl, sym, ap, ◌∙◌}
use Rattle.std.specs.Prelude.{option_and_then, option_map, slice_get, unwrap_or}
use Rattle.bl_tree.specs.declared.tree.Expr.{Expr}
use Rattle.bl_tree.specs.declared.value.Value.{Value}
use Rattle.bl_eval.specs.Values.{value_at}
use Rattle.bl_tree.specs.declared.static_path.Static.{Static}
use Rattle.bl_tree.specs.Static.{whole}
use Rattle.bl_ctree.specs.Actions.{value_there, values_there}
use Rattle.bl_ctree.specs.Instances.{Setting}
use Rattle.bl_ctree.specs.Store.{Location, Store, home, put, put_path, put_written, remember, whole_of, with_frame}
use Rattle.bl_ctree_store.specs.declared.writing.Put.{Put}
use Rattle.bl_ctree_store.specs.Own.{now_there, with_value_before}
use Rattle.bl_ctree_store.specs.Seen.{location_of, put_all, put_one}
use Rattle.bl_ctree_store.proofs.StoreLemmas.{remembers}
use Rattle.bl_eval.proofs.StepLemmas.{put_behind}

-- ---- values one after another

module _ (w : Setting) (store : Store) (i : ℕ) where
  values_first : (e : Expr) (rest : List Expr) (value : Value) → value_there w store i e ≡ Some value
      → values_there w store i (e ∷ rest) ≡ option_map (λ values. value ∷ values) (values_there w store i rest)
  values_first e rest value is = ap (option_and_then (λ value. option_map (λ values. value ∷ values) (values_there w store i rest))) is

  pub values_step : (all rest : List Expr) (e : Expr) (value : Value) (before made : List Value) (found : Option (List Value)) →
      all ≡ e ∷ rest → value_there w store i e ≡ Some value
      → made ≡ before ++ value ∷ []
      → option_map (λ values. before ++ values) (values_there w store i all) ≡ found →
      option_map (λ values. made ++ values) (values_there w store i rest) ≡ found
  values_step all rest e value before made found is gives is_made h =
      ap (λ made. option_map (λ values. made ++ values) (values_there w store i rest)) is_made
      ∙ put_behind before value (values_there w store i rest)
      ∙ ap (option_map (λ values. before ++ values)) (sym (values_first e rest value gives))
      ∙ ap (λ all. option_map (λ values. before ++ values) (values_there w store i all)) (sym is) ∙ h

  pub values_stop : (all rest : List Expr) (e : Expr) (before : List Value) (found : Option (List Value)) → all ≡ e ∷ rest →
      value_there w store i e ≡ None
      → option_map (λ values. before ++ values) (values_there w store i all) ≡ found → None ≡ found
  values_stop all rest e before found is gives h =
      sym (ap (λ all. option_map (λ values. before ++ values) (values_there w store i all)) is
      ∙ ap (λ one. option_map (λ values. before ++ values)
      (option_and_then (λ value. option_map (λ values. value ∷ values) (values_there w store i rest)) one)) gives) ∙ h

-- ---- what is put

pub put_all-append : (xs ys : List Put) (store : Store) → put_all (xs ++ ys) store ≡ put_all ys (put_all xs store)
put_all-append [] ys store = refl
put_all-append (p ∷ xs) ys store = put_all-append xs ys (put_one p store)

-- one more value is put, that of a static path
pub put_more : (w : Setting) (i : ℕ) (variables : List Value) (path : Static) (into made : List Put) (p : Put) (value : Value)
    → option_and_then (value_at path.fields) (slice_get variables path.root) ≡ Some value →
    location_of p.at ≡ home w (record { instance = i; path = path }) → p.value ≡ value
    → made ≡ into ++ p ∷ [] → (store : Store) → put_all made store ≡ put_path w i variables path (put_all into store)
put_more w i variables path into made p value found at is is_made store =
    ap (λ puts. put_all puts store) is_made ∙ put_all-append into (p ∷ []) store
    ∙ ap (λ at. put at p.value (put_all into store)) at
    ∙ ap (λ value. put (home w (record { instance = i; path = path })) value (put_all into store)) is
    ∙ sym (ap (λ found. unwrap_or (option_map (λ value. put (home w (record { instance = i; path = path })) value
    (put_all into store)) found) (put_all into store)) found)

-- one more value is at its home
pub put_all_more : (puts : List Put) (p : Put) (first before after : Store) → before ≡ put_all puts first →
    after ≡ put_one p before → after ≡ put_all (puts ++ p ∷ []) first
put_all_more puts p first before after is is_after = is_after ∙ ap (put_one p) is ∙ sym (put_all-append puts (p ∷ []) first)

-- ---- declarations

-- where the statement wrote no value of the variable
pub nothing_put : (w : Setting) (i k : ℕ) (variables : List Value) (store : Store) → slice_get variables k ≡ None →
    put_written w i variables (whole k ∷ []) store ≡ store
nothing_put w i k variables store none =
    ap (λ found. unwrap_or (option_map (λ value. put (home w (whole_of i k)) value store) (option_and_then (value_at []) found)) store) none

-- where it wrote one
pub one_put : (w : Setting) (i k : ℕ) (variables : List Value) (value : Value) (at : Location) (store : Store) →
    slice_get variables k ≡ Some value → at ≡ home w (whole_of i k)
    → put_written w i variables (whole k ∷ []) store ≡ put at value store
one_put w i k variables value at store found is =
    ap (λ found. unwrap_or (option_map (λ value. put (home w (whole_of i k)) value store) (option_and_then (value_at []) found)) store) found
    ∙ ap (λ at. put at value store) (sym is)

-- the declared variable has before what it has now
pub remembered : (i k : ℕ) (store before after : Store) (value : Option Value) → before ≡ store → value ≡ now_there store i k →
    after ≡ with_value_before i k value before
    → with_frame i (remember k) store ≡ after
remembered i k store before after value is is_value is_after =
    remembers i k store ∙ ap (λ value. with_value_before i k value store) (sym is_value) ∙ ap (with_value_before i k value) (sym is) ∙ sym is_after
