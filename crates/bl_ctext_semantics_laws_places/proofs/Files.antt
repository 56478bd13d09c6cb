-- Files that differ in places alone.
use Rattle.std.proofs.Common.{◌≡◌, List, [], ◌∷◌, map, refl, ap, sym, ◌∙◌}
use Rattle.std.specs.Prelude.{◌↔◌}
use Rattle.bl_ctext.specs.declared.file.CFile.{CFile}
use Rattle.bl_ctext_semantics.specs.Faults.{Fault, WellFormed, faults_in}
use Rattle.bl_ctext_semantics.specs.Parts.{Parts, parts_of}
use Rattle.bl_cparse_syntax_laws.specs.Placeless.{SameButPlaces}
use Rattle.bl_ctext_semantics_laws_places.specs.Behaviour.{behaviour_of, clauses_failing}
use Rattle.bl_ctext_semantics_laws_places.proofs.Faults.{faults-bare, placeless}
use Rattle.bl_ctext_semantics_laws_places.proofs.Judged.{bare}
use Rattle.bl_ctext_semantics_laws_places.proofs.Lists.{map-twice}
use Rattle.bl_ctext_semantics_laws_places.proofs.Runs.{bound-same, cells-same, inputs-same, needed-same, outputs-same, start-same, start_cells-same, ticks-same}
use Rattle.bl_ctext_semantics_laws_places.proofs.Runs.{traces-same}

-- what is the same of a file without its places is the same of both
by_placeless : {A : Type 0} (f : Parts → A) → ((file : Parts) → f (placeless file) ≡ f file) → (file other : CFile) → SameButPlaces file other →
    f (parts_of file) ≡ f (parts_of other)
by_placeless f same file other h =
    let bare_same : placeless (parts_of file) ≡ placeless (parts_of other) = λ i. record { structs = h.0 i; funcs = h.1 i } in
    sym (same (parts_of file)) ∙ ap f bare_same ∙ same (parts_of other)

clauses-bare : (file : Parts) → clauses_failing (placeless file) ≡ clauses_failing file
clauses-bare file = ap (λ faults. map (λ (f : Fault). f.clause) faults) (faults-bare file) ∙ map-twice (λ (f : Fault). f.clause) bare (faults_in file)

behaviour-bare : (file : Parts) → behaviour_of (placeless file) ≡ behaviour_of file
behaviour-bare file = λ i. record {
  inputs = inputs-same file i;
  outputs = outputs-same file i;
  cells = cells-same file i;
  needed = needed-same file i;
  bound = bound-same file i;
  started = start_cells-same file i;
  start = start-same file i;
  tick = ticks-same file i;
  trace = traces-same file i;
}

pub clauses-same : (file other : CFile) → SameButPlaces file other → clauses_failing (parts_of file) ≡ clauses_failing (parts_of other)
clauses-same = by_placeless clauses_failing clauses-bare

pub behaviour-same : (file other : CFile) → SameButPlaces file other → behaviour_of (parts_of file) ≡ behaviour_of (parts_of other)
behaviour-same = by_placeless behaviour_of behaviour-bare

-- nothing fails where no clause does
none_fails : (faults : List Fault) → map (λ (f : Fault). f.clause) faults ≡ [] → faults ≡ []
none_fails [] h = refl
none_fails (fault ∷ faults) h = absurd (let no_first : fault.clause ∷ map (λ (f : Fault). f.clause) faults ≡ [] = h in cc)

formed_as : (file other : Parts) → clauses_failing file ≡ clauses_failing other → WellFormed file → WellFormed other
formed_as file other same formed =
    record { none = none_fails (faults_in other) (sym same ∙ ap (λ faults. map (λ (f : Fault). f.clause) faults) formed.none) }

pub formed-same : (file other : CFile) → SameButPlaces file other → WellFormed (parts_of file) ↔ WellFormed (parts_of other)
formed-same file other h =
    let same = clauses-same file other h in
    (formed_as (parts_of file) (parts_of other) same, formed_as (parts_of other) (parts_of file) (sym same))
