-- What is made of a tree with its types keeps what a program keeps.
use Rattle.std.proofs.Common.{◌≡◌, true, List, ap, sym, subst, ◌∙◌}
use Rattle.std.specs.Prelude.{IsTrue}
use Rattle.bl_tree.specs.declared.tree.Unit.{Unit as UnitDef}
use Rattle.bl_tree.specs.Program.{IsWellTyped}
use Rattle.bl_names_tree.specs.declared.named.Named.{Named}
use Rattle.bl_parse_tree.specs.declared.raw.Raw.{Raw}
use Rattle.bl_parse_tree.specs.Starts.{ascends}
use Rattle.bl_types.specs.declared.environment.Typed.{Typed}
use Rattle.bl_types.specs.Programs.{typed_program}
use Rattle.bl_types_laws.specs.Standing.{are_shallow}
use Rattle.bl_types_laws.specs.Starts.{all_starts}
use Rattle.bl_types_program.specs.Programs.{named_of, typed_of}

typed_is : (raw : Raw) (named : Named) (typed : Typed) → named ≡ named_of raw → typed ≡ typed_program named → typed ≡ typed_of raw
typed_is raw named typed n t = t ∙ ap typed_program n

pub kept : (raw : Raw) (named : Named) (typed : Typed) → named ≡ named_of raw → typed ≡ typed_program named →
    IsWellTyped (typed_of raw).structs (typed_of raw).units (typed_of raw).entry → IsWellTyped typed.structs typed.units typed.entry
kept raw named typed n t keeps = subst (λ made. IsWellTyped made.structs made.units made.entry) (sym (typed_is raw named typed n t)) keeps

pub shallow : (raw : Raw) (named : Named) (typed : Typed) (units : List UnitDef) → named ≡ named_of raw → typed ≡ typed_program named →
    units ≡ typed.units → are_shallow (typed_of raw).units ≡ true → are_shallow units ≡ true
shallow raw named typed units n t same holds = ap are_shallow (same ∙ ap (λ made. made.units) (typed_is raw named typed n t)) ∙ holds

pub ordered : (raw : Raw) (named : Named) (typed : Typed) (units : List UnitDef) → named ≡ named_of raw → typed ≡ typed_program named →
    units ≡ typed.units → IsTrue (ascends (all_starts (typed_of raw).units)) → IsTrue (ascends (all_starts units))
ordered raw named typed units n t same holds =
    subst (λ units. IsTrue (ascends (all_starts units))) (sym (same ∙ ap (λ made. made.units) (typed_is raw named typed n t))) holds
