-- What fails at marks behind a start is what the rules on names say of them.
use Rattle.std.proofs.Common.{◌≡◌, true, false, cond, List, ◌∷◌, ◌++◌, ◌⊎◌, inl, inr, ⊎_elim, Option, Some, None, refl, ap, sym, ◌∙◌, subst}
use Rattle.bl_tree.specs.declared.place.Place.{Place}
use Rattle.bl_tree.specs.declared.rule.Failure.{Failure}
use Rattle.bl_tree.specs.declared.rule.Further.TheVariants.{Nothing, One}
use Rattle.bl_tree.specs.declared.rule.Refusal.{Refusal}
use Rattle.bl_tree.specs.declared.rule.Rule.{Rule}
use Rattle.bl_tree.specs.declared.rule.Rule.TheVariants as rule
use Rattle.bl_tree.specs.Rules.{FailsAmong, Refuses, further_places}
use Rattle.bl_tree.proofs.FirstLemmas.{In, alike_first, alike_passes, contains_in, first_fails, in_contains, is_cause, none_passes}
use Rattle.bl_parse_tree.specs.declared.name.Name.{Name}
use Rattle.bl_names_scopes.specs.declared.kind.Wanted.{Wanted}
use Rattle.bl_names_scopes.specs.declared.scopes.Declaration.{Declaration}
use Rattle.bl_names_scopes.specs.Cause.{IsCauseBehind}
use Rattle.bl_names_scopes.specs.inner.Failures.{declared_twice, failure, failure_at, misused}
use Rattle.bl_names_scopes.specs.inner.Judged.{first_failure}
use Rattle.bl_names_scopes.specs.Kinds.{suits}
use Rattle.bl_names_scopes.specs.Marks.{Mark, Marks, opens, closes, declares, uses}
use Rattle.bl_names_scopes.specs.Rules.{FailsBehind, FailsDuplicate, FailsKind, FailsUnknown, MarkStands, PassesBehind}
use Rattle.bl_names_scopes.specs.Scopes.{Scopes, after, bound, found}
use Rattle.bl_names_scopes.proofs.TellLemmas.{first_is_told, told, told_from, told_to}

-- ---- what fails at a mark

record IsTwice (name : Name) (o : Option Declaration) (f : Failure) : Type 0 where
  pub earlier : Declaration
  pub is_some : o ≡ Some earlier
  pub made : f ≡ failure rule.Duplicate name.place (One earlier.place)

twice_from : (name : Name) (o : Option Declaration) (f : Failure) → declared_twice name o ≡ Some f → IsTwice name o f
twice_from name (Some earlier) f is = record { earlier = earlier; is_some = refl; made = cc }
twice_from name None f is = absurd (cc)

record IsUnknown (name : Name) (o : Option Declaration) (f : Failure) : Type 0 where
  pub is_none : o ≡ None
  pub made : f ≡ failure rule.Unknown name.place Nothing

record IsUnfit (name : Name) (wanted : Wanted) (o : Option Declaration) (f : Failure) : Type 0 where
  pub declaration : Declaration
  pub is_some : o ≡ Some declaration
  pub unfit : suits wanted declaration.kind ≡ false
  pub made : f ≡ failure rule.Kind name.place (One declaration.place)

misused_from : (name : Name) (wanted : Wanted) (o : Option Declaration) (f : Failure) → misused name wanted o ≡ Some f
    → IsUnknown name o f ⊎ IsUnfit name wanted o f
misused_from name wanted None f is = inl (record { is_none = refl; made = cc })
misused_from name wanted (Some d) f is =
    elim (suits wanted d.kind) as (λ test. suits wanted d.kind ≡ test → cond test None (Some (failure rule.Kind name.place (One d.place))) ≡ Some f
    → IsUnknown name (Some d) f ⊎ IsUnfit name wanted (Some d) f) [
      | true ↦ λ test h. absurd (cc)
      | false ↦ λ test h. inr (record { declaration = d; is_some = refl; unfit = test; made = cc })
    ] refl is

unfit_to : (name : Name) (wanted : Wanted) (d : Declaration) → suits wanted d.kind ≡ false
    → misused name wanted (Some d) ≡ Some (failure rule.Kind name.place (One d.place))
unfit_to name wanted d fails = ap (λ test. cond test None (Some (failure rule.Kind name.place (One d.place)))) fails

-- ---- as the rules say it

abbrev FailsAs : Scopes → Marks → Failure → Type 0
FailsAs start marks f = FailsBehind start marks f.rule f.at (further_places f.further)

module _ (start : Scopes) (marks : Marks) where
  stands_at : (before : Marks) (mark : Mark) (rest : Marks) → marks ≡ before ++ (mark ∷ rest) →
      MarkStands start marks mark (after start before)
  stands_at before mark rest there = record { before = before; rest = rest; there = there; are_open = refl }

  fails_here : (before : Marks) (mark : Mark) (rest : Marks) (f : Failure) → marks ≡ before ++ (mark ∷ rest)
      → failure_at (after start before) mark ≡ Some f → FailsAs start marks f
  fails_here before opens rest f there says = absurd (cc)
  fails_here before closes rest f there says = absurd (cc)
  fails_here before (declares name kind) rest f there says =
      let scopes : Scopes = after start before in
      let from = twice_from name (found scopes.inner name.text) f says in
      subst (FailsAs start marks) (sym from.made)
      (inl (
        refl,
        record {
          name = name;
          kind = kind;
          scopes = scopes;
          stands = stands_at before (declares name kind) rest there;
          earlier = from.earlier;
          twice = from.is_some;
          at_later = refl;
          at_earlier = refl;
        },
      ))
  fails_here before (uses name wanted) rest f there says =
      let scopes : Scopes = after start before in
      ⊎_elim
      (λ (unknown : IsUnknown name (bound scopes name.text) f).
      subst (FailsAs start marks) (sym unknown.made)
      (inr (inl (
        refl,
        record {
          name = name;
          wanted = wanted;
          scopes = scopes;
          stands = stands_at before (uses name wanted) rest there;
          unbound = unknown.is_none;
          at_use = refl;
          alone = refl;
        },
      ))))
      (λ (unfit : IsUnfit name wanted (bound scopes name.text) f).
      subst (FailsAs start marks) (sym unfit.made)
      (inr (inr (
        refl,
        record {
          name = name;
          wanted = wanted;
          declaration = unfit.declaration;
          binds = record { scopes = scopes; stands = stands_at before (uses name wanted) rest there; is_bound = unfit.is_some };
          unfit = unfit.unfit;
          at_use = refl;
          at_declaration = refl;
        },
      ))))
      (misused_from name wanted (bound scopes name.text) f says)

  -- each failure is one of a rule
  told_fails : (of : Rule) (at : Place) (also : List Place) → FailsAmong (told start marks) of at also → FailsBehind start marks of at also
  told_fails of at also among =
      let f = among.failure in
      let happens = told_from start marks f (contains_in f (told start marks) among.is_there) in
      subst (λ r. FailsBehind start marks r at also) (sym among.of_rule)
      (subst (λ p. FailsBehind start marks f.rule p also) (sym among.at_place)
      (subst (FailsBehind start marks f.rule f.at) (sym among.further) (fails_here happens.before happens.mark happens.rest f happens.there happens.says)))

  -- what is said of a mark that stands in the program is among its failures
  is_among : (f : Failure) (mark : Mark) (scopes : Scopes) → MarkStands start marks mark scopes → failure_at scopes mark ≡ Some f
      → (of : Rule) (at : Place) (also : List Place) → of ≡ f.rule → at ≡ f.at → also ≡ further_places f.further →
      FailsAmong (told start marks) of at also
  is_among f mark scopes stands says of at also rule_is at_is also_is = record {
    failure = f;
    is_there = in_contains f (told start marks)
        (subst (λ l. In f (told start l)) (sym stands.there)
        (told_to start stands.before mark stands.rest f (ap (λ s. failure_at s mark) (sym stands.are_open) ∙ says)));
    of_rule = rule_is;
    at_place = at_is;
    further = also_is;
  }

  -- where a rule fails, that is one of the failures
  fails_told : (of : Rule) (at : Place) (also : List Place) → FailsBehind start marks of at also → FailsAmong (told start marks) of at also
  fails_told of at also fails =
      ⊎_elim
      (λ (p : (of ≡ rule.Duplicate) × FailsDuplicate start marks at also). let h = p.1 in
      is_among (failure rule.Duplicate h.name.place (One h.earlier.place)) (declares h.name h.kind) h.scopes h.stands (ap (declared_twice h.name) h.twice)
      of at also p.0 h.at_later h.at_earlier)
      (λ rest. ⊎_elim
      (λ (p : (of ≡ rule.Unknown) × FailsUnknown start marks at also). let h = p.1 in
      is_among (failure rule.Unknown h.name.place Nothing) (uses h.name h.wanted) h.scopes h.stands (ap (misused h.name h.wanted) h.unbound)
      of at also p.0 h.at_use h.alone)
      (λ (p : (of ≡ rule.Kind) × FailsKind start marks at also). let h = p.1 in
      is_among (failure rule.Kind h.name.place (One h.declaration.place)) (uses h.name h.wanted) h.binds.scopes h.binds.stands
      (ap (misused h.name h.wanted) h.binds.is_bound ∙ unfit_to h.name h.wanted h.declaration h.unfit)
      of at also p.0 h.at_use h.at_declaration) rest) fails

  -- ---- the verdict

  pub passes : None ≡ first_failure start marks → PassesBehind start marks
  passes none =
      alike_passes (FailsAmong (told start marks)) (FailsBehind start marks) told_fails fails_told
      (none_passes (told start marks) (sym (none ∙ first_is_told start marks)))

  pub has_cause : (first : Failure) (refusal : Refusal) → Some first ≡ first_failure start marks → Refuses first refusal → IsCauseBehind start marks refusal
  has_cause first refusal is =
      is_cause (FailsBehind start marks) first refusal
      (alike_first (FailsAmong (told start marks)) (FailsBehind start marks) told_fails fails_told first.rule first.at (further_places first.further)
      (first_fails (told start marks) first (sym (is ∙ first_is_told start marks))))
