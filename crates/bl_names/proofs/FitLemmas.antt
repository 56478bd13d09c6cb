-- Where the rules on names hold, each use is bound to a declaration that suits it.
use Rattle.std.proofs.Common.{◌≡◌, true, false, List, [], ◌∷◌, ◌++◌, inl, inr, Some, None, refl, sym, subst, ◌∙◌, append_assoc}
use Rattle.std.specs.Prelude.{⊤}
use Rattle.bl_tree.specs.declared.rule.Rule.TheVariants as rule
use Rattle.bl_names_scopes.specs.declared.kind.Wanted.{Wanted}
use Rattle.bl_names_scopes.specs.declared.scopes.Declaration.{Declaration}
use Rattle.bl_names_scopes.specs.Kinds.{suits}
use Rattle.bl_names_scopes.specs.Marks.{Mark, Marks, opens, closes, declares, uses, marks_of}
use Rattle.bl_names_scopes.specs.Rules.{MarkStands, Passes, PassesBehind}
use Rattle.bl_names_scopes.specs.Scopes.{Scopes, after, bound, enter, file_scope}
use Rattle.bl_parse_tree.specs.declared.item.RawItem.{RawItem}
use Rattle.bl_parse_tree.specs.declared.name.Name.{Name}
use Rattle.bl_names.proofs.StillLemmas.{Still, after-append}

-- a name is bound to a declaration of a kind that is wanted
pub record IsFit (scopes : Scopes) (name : Name) (wanted : Wanted) : Type 0 where
  pub declaration : Declaration
  pub is_bound : bound scopes name.text ≡ Some declaration
  pub is_suited : suits wanted declaration.kind ≡ true

abbrev pub FitsAt : Scopes → Mark → Type 0
FitsAt scopes opens = ⊤
FitsAt scopes closes = ⊤
FitsAt scopes (declares name kind) = ⊤
FitsAt scopes (uses name wanted) = IsFit scopes name wanted

-- each use among the marks is
abbrev pub Fits : Scopes → Marks → Type 0
Fits scopes [] = ⊤
Fits scopes (mark ∷ rest) = FitsAt scopes mark × Fits (enter scopes mark) rest

pub fits_first : (scopes : Scopes) (first second : Marks) → Fits scopes (first ++ second) → Fits scopes first
fits_first scopes [] second fits = tt
fits_first scopes (mark ∷ first) second fits = (fits.0, fits_first (enter scopes mark) first second fits.1)

pub fits_second : (scopes : Scopes) (first second : Marks) → Fits scopes (first ++ second) → Fits (after scopes first) second
fits_second scopes [] second fits = fits
fits_second scopes (mark ∷ first) second fits = fits_second (enter scopes mark) first second fits.1

-- behind uses
pub fits_behind : (scopes : Scopes) (first second : Marks) → Still first → Fits scopes (first ++ second) → Fits scopes second
fits_behind scopes first second still fits = subst (λ s. Fits s second) (still scopes) (fits_second scopes first second fits)

module _ (start : Scopes) (marks : Marks) (passes : PassesBehind start marks) where
  stands_at : (before : Marks) (mark : Mark) (rest : Marks) → marks ≡ before ++ (mark ∷ rest) →
      MarkStands start marks mark (after start before)
  stands_at before mark rest there = record { before = before; rest = rest; there = there; are_open = refl }

  use_fits : (before : Marks) (name : Name) (wanted : Wanted) (rest : Marks) → marks ≡ before ++ (uses name wanted ∷ rest)
      → IsFit (after start before) name wanted
  use_fits before name wanted rest there =
      elim (bound (after start before) name.text) as (λ found. bound (after start before) name.text ≡ found
      → IsFit (after start before) name wanted) [
        | None ↦ λ is. absurd (passes rule.Unknown name.place [] (inr (inl (
          refl,
          record {
            name = name;
            wanted = wanted;
            scopes = after start before;
            stands = stands_at before (uses name wanted) rest there;
            unbound = is;
            at_use = refl;
            alone = refl;
          },
        ))))
        | Some d ↦ λ is.
            elim (suits wanted d.kind) as (λ test. suits wanted d.kind ≡ test → IsFit (after start before) name wanted) [
              | true ↦ λ suited. record { declaration = d; is_bound = is; is_suited = suited }
              | false ↦ λ unfit. absurd (passes rule.Kind name.place (d.place ∷ []) (inr (inr (
                refl,
                record {
                  name = name;
                  wanted = wanted;
                  declaration = d;
                  binds = record { scopes = after start before; stands = stands_at before (uses name wanted) rest there; is_bound = is };
                  unfit = unfit;
                  at_use = refl;
                  at_declaration = refl;
                },
              ))))
            ] refl
      ] refl

  mark_fits : (before : Marks) (mark : Mark) (rest : Marks) → marks ≡ before ++ (mark ∷ rest) → FitsAt (after start before) mark
  mark_fits before opens rest there = tt
  mark_fits before closes rest there = tt
  mark_fits before (declares name kind) rest there = tt
  mark_fits before (uses name wanted) rest there = use_fits before name wanted rest there

  rest_fits : (before rest : Marks) → marks ≡ before ++ rest → Fits (after start before) rest
  rest_fits before [] there = tt
  rest_fits before (mark ∷ rest) there = (
    mark_fits before mark rest there,
    subst (λ s. Fits s rest) (after-append start before (mark ∷ []))
        (rest_fits (before ++ (mark ∷ [])) rest (there ∙ sym (append_assoc before (mark ∷ []) rest))),
  )

  pub marks_fit : Fits start marks
  marks_fit = rest_fits [] marks refl

-- in a program nothing is declared before
pub program_fits : (items : List RawItem) → Passes items → Fits file_scope (marks_of items)
program_fits items passes = marks_fit file_scope (marks_of items) passes
