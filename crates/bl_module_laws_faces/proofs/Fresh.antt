-- Where rule Duplicate holds behind a start, each name is declared where its scope doesn't have it yet.
use Rattle.std.proofs.Common.{◌≡◌, [], ◌∷◌, ◌++◌, inl, Some, None, refl, sym, subst, ◌∙◌, append_assoc}
use Rattle.std.specs.Prelude.{⊤}
use Rattle.bl_names.proofs.StillLemmas.{after-append}
use Rattle.bl_names_scopes.specs.declared.kind.Kind.{Kind}
use Rattle.bl_names_scopes.specs.Marks.{Mark, Marks, closes, declares, opens, uses}
use Rattle.bl_names_scopes.specs.Rules.{PassesBehind}
use Rattle.bl_names_scopes.specs.Scopes.{Scopes, after, enter, found}
use Rattle.bl_parse_tree.specs.declared.name.Name.{Name}
use Rattle.bl_tree.specs.declared.rule.Rule.TheVariants as rule

abbrev pub FreshAt : Scopes → Mark → Type 0
FreshAt scopes opens = ⊤
FreshAt scopes closes = ⊤
FreshAt scopes (declares name kind) = found scopes.inner name.text ≡ None
FreshAt scopes (uses name wanted) = ⊤

-- each name that the marks declare is new in its scope
abbrev pub Fresh : Scopes → Marks → Type 0
Fresh scopes [] = ⊤
Fresh scopes (mark ∷ rest) = FreshAt scopes mark × Fresh (enter scopes mark) rest

pub fresh_first : (scopes : Scopes) (first second : Marks) → Fresh scopes (first ++ second) → Fresh scopes first
fresh_first scopes [] second fresh = tt
fresh_first scopes (mark ∷ first) second fresh = (fresh.0, fresh_first (enter scopes mark) first second fresh.1)

pub fresh_second : (scopes : Scopes) (first second : Marks) → Fresh scopes (first ++ second) → Fresh (after scopes first) second
fresh_second scopes [] second fresh = fresh
fresh_second scopes (mark ∷ first) second fresh = fresh_second (enter scopes mark) first second fresh.1

module _ (start : Scopes) (marks : Marks) (passes : PassesBehind start marks) where
  declares_fresh : (before : Marks) (name : Name) (kind : Kind) (rest : Marks) → marks ≡ before ++ (declares name kind ∷ rest) →
      found (after start before).inner name.text ≡ None
  declares_fresh before name kind rest there =
      elim (found (after start before).inner name.text) as (λ earlier. found (after start before).inner name.text ≡ earlier → earlier ≡ None) [
        | None ↦ λ is. refl
        | Some d ↦ λ is. absurd (passes rule.Duplicate name.place (d.place ∷ []) (inl (
          refl,
          record {
            name = name;
            kind = kind;
            scopes = after start before;
            stands = record { before = before; rest = rest; there = there; are_open = refl };
            earlier = d;
            twice = is;
            at_later = refl;
            at_earlier = refl;
          },
        )))
      ] refl

  mark_fresh : (before : Marks) (mark : Mark) (rest : Marks) → marks ≡ before ++ (mark ∷ rest) → FreshAt (after start before) mark
  mark_fresh before opens rest there = tt
  mark_fresh before closes rest there = tt
  mark_fresh before (declares name kind) rest there = declares_fresh before name kind rest there
  mark_fresh before (uses name wanted) rest there = tt

  rest_fresh : (before rest : Marks) → marks ≡ before ++ rest → Fresh (after start before) rest
  rest_fresh before [] there = tt
  rest_fresh before (mark ∷ rest) there = (
    mark_fresh before mark rest there,
    subst (λ s. Fresh s rest) (after-append start before (mark ∷ []))
        (rest_fresh (before ++ (mark ∷ [])) rest (there ∙ sym (append_assoc before (mark ∷ []) rest))),
  )

  -- each name that marks declare which pass is new in its scope
  pub marks_fresh : Fresh start marks
  marks_fresh = rest_fresh [] marks refl
