-- What the uses among marks are bound to.
use Rattle.std.proofs.Common.{◌≡◌, List, [], ◌∷◌, ◌++◌, map, refl, sym, ap, subst, ◌∙◌, append-nil, append_assoc}
use Rattle.std.specs.Prelude.{option_map}
use Rattle.bl_parse_tree.specs.declared.item.RawField.{RawField}
use Rattle.bl_parse_tree.specs.declared.item.RawItem.{RawItem}
use Rattle.bl_parse_tree.specs.declared.name.Name.{Name}
use Rattle.bl_names_scopes.specs.declared.kind.Kind.{Kind}
use Rattle.bl_names_scopes.specs.Marks.{Marks, closes, declared_after, declares, field_mark, in_scope, marks_of, opens, uses}
use Rattle.bl_names_scopes.specs.Scopes.{Scopes, after, enter, file_scope}
use Rattle.bl_names.specs.Named.{opened}
use Rattle.bl_names.proofs.FitLemmas.{Fits}
use Rattle.bl_names.proofs.StillLemmas.{Still, after-append}
use Rattle.bl_names_laws.specs.Bound.{EachLeads, uses_behind}
use Rattle.bl_names_laws.specs.Referents.{Referents}
use Rattle.bl_names_laws.proofs.Listed.{bound_name, name_at}

-- the names of the declarations to which the uses among marks are bound, where these scopes are open
abbrev pub bindings : Scopes → Marks → Referents
bindings scopes [] = []
bindings scopes (opens ∷ rest) = bindings (enter scopes opens) rest
bindings scopes (closes ∷ rest) = bindings (enter scopes closes) rest
bindings scopes (declares name kind ∷ rest) = bindings (enter scopes (declares name kind)) rest
bindings scopes (uses name wanted ∷ rest) = bound_name scopes name ∷ bindings scopes rest

pub bindings_append : (scopes : Scopes) (first second : Marks) → bindings scopes (first ++ second)
    ≡ bindings scopes first ++ bindings (after scopes first) second
bindings_append scopes [] second = refl
bindings_append scopes (opens ∷ first) second = bindings_append (enter scopes opens) first second
bindings_append scopes (closes ∷ first) second = bindings_append (enter scopes closes) first second
bindings_append scopes (declares name kind ∷ first) second = bindings_append (enter scopes (declares name kind)) first second
bindings_append scopes (uses name wanted ∷ first) second = ap (λ rest. bound_name scopes name ∷ rest) (bindings_append scopes first second)

-- behind uses
pub bindings_behind : (scopes : Scopes) (first second : Marks) → Still first → bindings scopes (first ++ second)
    ≡ bindings scopes first ++ bindings scopes second
bindings_behind scopes first second still = bindings_append scopes first second ∙ ap (λ s. bindings scopes first ++ bindings s second) (still scopes)

-- the end of a scope, and a declaration behind uses, use nothing
pub bindings_own : (scopes : Scopes) (marks : Marks) → bindings scopes (in_scope marks) ≡ bindings (opened scopes) marks
bindings_own scopes marks = bindings_append (opened scopes) marks (closes ∷ []) ∙ append-nil (bindings (opened scopes) marks)

pub bindings_declared : (scopes : Scopes) (marks : Marks) (name : Name) (kind : Kind) → bindings scopes (declared_after marks name kind)
    ≡ bindings scopes marks
bindings_declared scopes marks name kind = bindings_append scopes marks (declares name kind ∷ []) ∙ append-nil (bindings scopes marks)

-- nor do the names of fields
pub bindings_fields : (scopes : Scopes) (fields : List RawField) → bindings scopes (map field_mark fields) ≡ []
bindings_fields scopes [] = refl
bindings_fields scopes (field ∷ fields) = bindings_fields (enter scopes (field_mark field)) fields

-- ---- the uses of a program

module _ (items : List RawItem) where
  -- where each use fits, it is bound to a declaration
  pub each_bound : (before rest : Marks) → marks_of items ≡ before ++ rest → Fits (after file_scope before) rest
      → EachLeads items (uses_behind before rest) (bindings (after file_scope before) rest)
  each_bound before [] there fits = tt
  each_bound before (opens ∷ rest) there fits =
      let here : after file_scope (before ++ (opens ∷ [])) ≡ enter (after file_scope before) opens = after-append file_scope before (opens ∷ []) in
      subst (λ s. EachLeads items (uses_behind (before ++ (opens ∷ [])) rest) (bindings s rest)) here
      (each_bound (before ++ (opens ∷ [])) rest (there ∙ sym (append_assoc before (opens ∷ []) rest)) (subst (λ s. Fits s rest) (sym here) fits.1))
  each_bound before (closes ∷ rest) there fits =
      let here : after file_scope (before ++ (closes ∷ [])) ≡ enter (after file_scope before) closes = after-append file_scope before (closes ∷ []) in
      subst (λ s. EachLeads items (uses_behind (before ++ (closes ∷ [])) rest) (bindings s rest)) here
      (each_bound (before ++ (closes ∷ [])) rest (there ∙ sym (append_assoc before (closes ∷ []) rest)) (subst (λ s. Fits s rest) (sym here) fits.1))
  each_bound before (declares name kind ∷ rest) there fits =
      let here : after file_scope (before ++ (declares name kind ∷ [])) ≡ enter (after file_scope before) (declares name kind) =
      after-append file_scope before (declares name kind ∷ []) in
      subst (λ s. EachLeads items (uses_behind (before ++ (declares name kind ∷ [])) rest) (bindings s rest)) here
      (each_bound (before ++ (declares name kind ∷ [])) rest (there ∙ sym (append_assoc before (declares name kind ∷ []) rest))
      (subst (λ s. Fits s rest) (sym here) fits.1))
  each_bound before (uses name wanted ∷ rest) there fits =
      let here : after file_scope (before ++ (uses name wanted ∷ [])) ≡ after file_scope before =
      after-append file_scope before (uses name wanted ∷ []) in (
        record {
          declaration = fits.0.declaration;
          binds = record {
            scopes = after file_scope before;
            stands = record { before = before; rest = rest; there = there; are_open = refl };
            is_bound = fits.0.is_bound;
          };
          is_here = refl;
          is_led = ap (option_map (name_at name.text)) fits.0.is_bound;
        },
        subst (λ s. EachLeads items (uses_behind (before ++ (uses name wanted ∷ [])) rest) (bindings s rest)) here
            (each_bound (before ++ (uses name wanted ∷ [])) rest (there ∙ sym (append_assoc before (uses name wanted ∷ []) rest))
            (subst (λ s. Fits s rest) (sym here) fits.1)),
      )
