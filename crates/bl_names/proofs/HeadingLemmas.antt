-- What stands for headings, one after another.
use Rattle.std.proofs.Common.{◌≡◌, ℕ, ◌+◌, ◌<◌, List, [], ◌∷◌, ◌++◌, map, drop, length, get_or, refl, sym, ap, ◌∙◌, append-nil, append_assoc}
use Rattle.bl_tree.proofs.Basics.{drop_next}
use Rattle.bl_names_scopes.specs.declared.heading.Heading.{Heading}
use Rattle.bl_names_scopes.specs.declared.kind.Kind.{Kind}
use Rattle.bl_names_scopes.specs.declared.kind.Kind.TheVariants.{Struct, Constant, Variable, Function, Activity, Field}
use Rattle.bl_names_scopes.specs.Scopes.{after, enter, heading_mark}
use Rattle.bl_parse_tree.specs.declared.name.Name.{Name}
use Rattle.bl_names.specs.declared.state.State.{State}
use Rattle.bl_names.specs.Named.{blank_constant, blank_struct, blank_unit, blanks}
use Rattle.bl_names.specs.inner.Past.{with_blank, with_heading}

blank_structs : (kind : Kind) (name : Name) (state : State) → (with_blank kind name state).structs ≡ state.structs ++ blank_struct kind name
blank_structs Struct name state = refl
blank_structs Constant name state = sym (append-nil state.structs)
blank_structs Variable name state = sym (append-nil state.structs)
blank_structs Function name state = sym (append-nil state.structs)
blank_structs Activity name state = sym (append-nil state.structs)
blank_structs Field name state = sym (append-nil state.structs)

blank_constants : (kind : Kind) (name : Name) (state : State) → (with_blank kind name state).constants ≡ state.constants ++ blank_constant kind name
blank_constants Struct name state = sym (append-nil state.constants)
blank_constants Constant name state = refl
blank_constants Variable name state = sym (append-nil state.constants)
blank_constants Function name state = sym (append-nil state.constants)
blank_constants Activity name state = sym (append-nil state.constants)
blank_constants Field name state = sym (append-nil state.constants)

blank_units : (kind : Kind) (name : Name) (state : State) → (with_blank kind name state).units ≡ state.units ++ blank_unit kind name
blank_units Struct name state = sym (append-nil state.units)
blank_units Constant name state = sym (append-nil state.units)
blank_units Variable name state = sym (append-nil state.units)
blank_units Function name state = refl
blank_units Activity name state = refl
blank_units Field name state = sym (append-nil state.units)

same_scopes : (kind : Kind) (name : Name) (state : State) → (with_blank kind name state).scopes ≡ state.scopes
same_scopes Struct name state = refl
same_scopes Constant name state = refl
same_scopes Variable name state = refl
same_scopes Function name state = refl
same_scopes Activity name state = refl
same_scopes Field name state = refl

same_vars : (kind : Kind) (name : Name) (state : State) → (with_blank kind name state).vars ≡ state.vars
same_vars Struct name state = refl
same_vars Constant name state = refl
same_vars Variable name state = refl
same_vars Function name state = refl
same_vars Activity name state = refl
same_vars Field name state = refl

-- behind headings that follow
abbrev pub behind : State → List Heading → State
behind state headings = record state {
  scopes = after state.scopes (map heading_mark headings);
  structs = state.structs ++ blanks blank_struct headings;
  constants = state.constants ++ blanks blank_constant headings;
  units = state.units ++ blanks blank_unit headings;
}

-- behind one, and then the others
behind_one : (state : State) (heading : Heading) (rest : List Heading) → behind (with_heading state heading) rest ≡ behind state (heading ∷ rest)
behind_one state heading rest = let seen : State = record state { scopes = enter state.scopes (heading_mark heading) } in λ i. record {
  scopes = after (same_scopes heading.kind heading.name seen i) (map heading_mark rest);
  structs = (ap (λ l. l ++ blanks blank_struct rest) (blank_structs heading.kind heading.name seen)
      ∙ append_assoc state.structs (blank_struct heading.kind heading.name) (blanks blank_struct rest)) i;
  constants = (ap (λ l. l ++ blanks blank_constant rest) (blank_constants heading.kind heading.name seen)
      ∙ append_assoc state.constants (blank_constant heading.kind heading.name) (blanks blank_constant rest)) i;
  units = (ap (λ l. l ++ blanks blank_unit rest) (blank_units heading.kind heading.name seen)
      ∙ append_assoc state.units (blank_unit heading.kind heading.name) (blanks blank_unit rest)) i;
  vars = same_vars heading.kind heading.name seen i;
}

pub behind_next : (headings : List Heading) (k : ℕ) (heading : Heading) (state new found : State) → k < length headings → heading ≡ get_or headings k heading
    → new ≡ with_heading state heading → behind state (drop k headings) ≡ found → behind new (drop (k + 1) headings) ≡ found
behind_next headings k heading state new found within is step h =
    ap (λ s. behind s (drop (k + 1) headings)) step ∙ behind_one state heading (drop (k + 1) headings)
    ∙ ap (behind state) (sym (drop_next headings k heading within is)) ∙ h
