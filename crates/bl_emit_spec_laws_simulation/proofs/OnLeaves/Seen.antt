-- What an instance sees of a store, number by number.
use Rattle.std.proofs.Common.{◌≡◌, ℕ, zero, suc, ◌+◌, ◌<◌, arith, ℤ, List, [], ◌∷◌, ◌++◌, length, Option, Some, None}
use Rattle.std.proofs.Common.{refl, sym, ap, ◌∙◌}
use Rattle.std.proofs.lemmas.List.{append-nil, append_assoc}
use Rattle.std.specs.Prelude.{option_and_then, slice_get, unwrap_or}
use Rattle.bl_tree.specs.declared.static_path.Static.{Static}
use Rattle.bl_tree.specs.declared.value.Value.{Value}
use Rattle.bl_tree.specs.declared.value.Value.TheOpen.{Value-F}
use Rattle.bl_tree.specs.declared.value.Value.TheVariants.{Parts, outs-Parts}
use Rattle.bl_eval.specs.Values.{number_in, parts_at, value_at}
use Rattle.bl_eval.specs.Values as values
use Rattle.bl_ctree.specs.Instances.{Setting}
use Rattle.bl_ctree.specs.Store.{Frame, Location, Store, home, value_among, variable_among, vars_at, view_at, whole_of}
use Rattle.bl_ctree_laws_confluence.specs.Stores.{HomesLeadOn, now_of, onward}
use Rattle.bl_emit_acts_laws_simulation.specs.Encodes.{number_within}
use Rattle.bl_eval_laws.proofs.OnLocal.Locality.{value_within}
use Rattle.bl_machine_pass_laws_typing.proofs.OnSeen.Seeing.{mapped_got}

-- the path that goes by positions from a variable of an instance
abbrev pub path_at : ℕ → ℕ → List ℕ → Location
path_at i k ks = record { instance = i; path = record { root = k; fields = ks } }

-- the number that stands at a home
abbrev pub number_of_home : Store → Location → Option ℤ
number_of_home store at = option_and_then number_in (value_among now_of store at)

-- ---- where nothing stands is no number

nothing_at : {A : Type 0} (none : List A) → none ≡ [] → (k : ℕ) → slice_get none k ≡ None
nothing_at [] is zero = refl
nothing_at [] is (suc k) = refl
nothing_at (x ∷ xs) is k = absurd cc

no_number : (ks : List ℕ) → number_within ks (Parts []) ≡ None
no_number [] = ap (λ (layer : Value-F Value). values.number_at layer) (outs-Parts [])
no_number (k ∷ ks) =
    ap (λ o. option_and_then number_in (option_and_then (value_at ks) o))
    (ap (λ (layer : Value-F Value). option_and_then (λ all. slice_get all k) (parts_at layer)) (outs-Parts []) ∙ nothing_at [] refl k)

number_or_none : (ks : List ℕ) (o : Option Value) → number_within ks (unwrap_or o (Parts [])) ≡ option_and_then (number_within ks) o
number_or_none ks None = no_number ks
number_or_none ks (Some value) = refl

-- ---- onward

behind_value : (qs rest : List ℕ) (u : Value) → number_within (qs ++ rest) u ≡ option_and_then (number_within rest) (value_at qs u)
behind_value qs rest u = ap (option_and_then number_in) (value_within qs rest u) ∙ by (value_at qs u)
  where
    by : (o : Option Value) → option_and_then number_in (option_and_then (value_at rest) o) ≡ option_and_then (number_within rest) o
    by None = refl
    by (Some x) = refl

onward_number : (store : Store) (at : Location) (qs rest : List ℕ) →
    option_and_then (number_within (qs ++ rest)) (value_among now_of store at)
    ≡ option_and_then (number_within rest) (value_among now_of store (onward at qs))
onward_number store at qs rest = by_frame (slice_get store at.instance)
  where
    by_part : (v : Value) (o : Option Value) → value_at at.path.fields v ≡ o →
        option_and_then (number_within (qs ++ rest)) o ≡ option_and_then (number_within rest) (option_and_then (value_at qs) o)
    by_part v None is = refl
    by_part v (Some u) is = behind_value qs rest u

    by_value : (o : Option Value) →
        option_and_then (number_within (qs ++ rest)) (option_and_then (value_at at.path.fields) o)
        ≡ option_and_then (number_within rest) (option_and_then (value_at (at.path.fields ++ qs)) o)
    by_value None = refl
    by_value (Some v) =
        by_part v (value_at at.path.fields v) refl ∙ sym (ap (option_and_then (number_within rest)) (value_within at.path.fields qs v))

    by_frame : (o : Option Frame) →
        option_and_then (number_within (qs ++ rest))
        (option_and_then (λ frame. option_and_then (value_at at.path.fields) (slice_get (now_of frame) at.path.root)) o)
        ≡ option_and_then (number_within rest)
        (option_and_then (λ frame. option_and_then (value_at (at.path.fields ++ qs)) (slice_get (now_of frame) at.path.root)) o)
    by_frame None = refl
    by_frame (Some frame) = by_value (slice_get (now_of frame) at.path.root)

-- ---- what is seen

module _ (leads : HomesLeadOn) (w : Setting) where
  -- the number at positions of a variable's value stands at the home of the path that goes there
  pub seen_number : (store : Store) (i k : ℕ) (value : Value) (ks : List ℕ) → slice_get (view_at w store i).now k ≡ Some value →
      number_within ks value ≡ number_of_home store (home w (path_at i k ks))
  seen_number store i k value ks is =
      let at = home w (whole_of i k) in
      let path : Static = record { root = k; fields = ks } in
      ap (number_within ks) (sym (mapped_got (variable_among now_of w store i) (length (vars_at w i)) k value is))
      ∙ (number_or_none ks (value_among now_of store at)
      ∙ (ap (λ ks. option_and_then (number_within ks) (value_among now_of store at)) (sym (append-nil ks))
      ∙ (onward_number store at ks []
      ∙ ap (number_of_home store) (sym (leads w i path)))))

  -- a variable that stands for a path has at its positions the home of the longer path
  pub home_further : (i j k x : ℕ) (qs rest : List ℕ) → home w (whole_of j x) ≡ home w (path_at i k qs) →
      home w (path_at j x rest) ≡ home w (path_at i k (qs ++ rest))
  home_further i j k x qs rest same =
      let path : Static = record { root = k; fields = qs } in
      let longer : Static = record { root = k; fields = qs ++ rest } in
      let own : Static = record { root = x; fields = rest } in
      let at = home w (whole_of i k) in
      leads w j own
      ∙ (ap (λ at. onward at rest) (same ∙ leads w i path)
      ∙ (ap (λ (fields : List ℕ). record { instance = at.instance; path = record { root = at.path.root; fields = fields } })
      (append_assoc at.path.fields qs rest)
      ∙ sym (leads w i longer)))
