-- Good files and their joined texts.
use Rattle.std.proofs.Common.{◌≡◌, ℕ, suc, ◌+◌, List, [], ◌∷◌, ◌++◌, length, refl, inl, inr, arith}
use Rattle.std.proofs.lemmas.List.Elements.{All-head, All-tail}
use Rattle.std.specs.Prelude.{All}
use Rattle.bl_tree.proofs.Basics.{none_plus}
use Rattle.bl_face.specs.declared.face.Face.{Face}
use Rattle.bl_module.specs.Faces.{behind_faces}
use Rattle.bl_module.specs.Rules.{known_at}
use Rattle.bl_module_laws_faces.specs.Laws.{FaceDeclares, TreeDeclares, TreesHaveFaces}
use Rattle.bl_names_laws_files.specs.Globals.{renumber}
use Rattle.bl_names_scopes.specs.Marks.{Mark, Marks}
use Rattle.bl_names_scopes.specs.Rules.{PassesBehind}
use Rattle.bl_names_scopes.specs.Scopes.{Scopes, file_scope}
use Rattle.bl_names_tree.specs.declared.named.Named.{Named}
use Rattle.bl_parse_tree.specs.declared.raw.Raw.{Raw}
use Rattle.bl_rules.specs.Rules.{TreePasses}
use Rattle.bl_tree.specs.declared.place.Place.{Place}
use Rattle.bl_types.specs.Programs.{fresh}
use Rattle.bl_types_laws_places.specs.Agree.{EnvironmentsAgree}
use Rattle.bl_types_program.specs.Programs.{named_of, typed_of}
use Rattle.bl_module_laws.proofs.Borders.{Border, IsNamedOf, changed}
use Rattle.bl_module_laws.proofs.Good.{all_pass}
use Rattle.bl_module_laws.proofs.Nesting.{limits_nesting}
use Rattle.bl_module_laws.proofs.Parts.{NameLaws, TypeLaws, UnitLaws}
use Rattle.bl_module_laws.proofs.Passing.{from_whole, limits_alone, limits_pass}
use Rattle.bl_module_laws.proofs.Read.{AllParsed, TextLaws, joined_tree}
use Rattle.bl_module_laws.proofs.Turns.{GoodFrom, in_turn_from, in_turn_to}
use Rattle.bl_module_laws.proofs.Units.{graphs_none, units_none}
use Rattle.bl_module_laws.proofs.Whole.{WholePasses}
use Rattle.bl_module_laws.proofs.WholeFiles.{AllTextsPass, AloneLaws, MarkedLast, all_good}
use Rattle.bl_module_laws.specs.Laws.{GoodFilesPass, MarksAreInLast, ParsesAlone, PassingFilesAreGood}

-- ---- before the first file

no_mark : (before rest : Marks) (mark : Mark) → [] ≡ before ++ (mark ∷ rest) → ⊥
no_mark [] rest mark is = cc
no_mark (other ∷ before) rest mark is = cc

none_pass : (start : Scopes) → PassesBehind start []
none_pass start of at also (inl fails) = no_mark fails.1.stands.before fails.1.stands.rest _ fails.1.stands.there
none_pass start of at also (inr (inl fails)) = no_mark fails.1.stands.before fails.1.stands.rest _ fails.1.stands.there
none_pass start of at also (inr (inr fails)) = no_mark fails.1.binds.stands.before fails.1.binds.stands.rest _ fails.1.binds.stands.there

first_next : (j : ℕ) → renumber [] (0 + j) ≡ 0 + j
first_next j = omega arith

first_agree : (f : Place → Place) → EnvironmentsAgree (changed f []) (known_at (behind_faces [])) fresh
first_agree f = record {
  structs = refl;
  constants = λ k. refl;
  next = first_next;
  units = refl;
  vars = refl;
  kind = inl refl;
  result = refl;
}

-- nothing is known before the first file
first_border : (named : Named) → Border named [] (behind_faces [])
first_border named = record {
  passes = record { names = none_pass file_scope; none = refl; units = units_none; graphs = graphs_none };
  declare = refl;
  agree = first_agree;
  unmarked = refl;
}

is_named : (raw : Raw) → IsNamedOf (named_of raw) raw.items
is_named raw = record { structs = refl; constants = refl; units = refl }

-- ---- good files

parsed_of : (count : ℕ) (before : List Face) (texts : List (List ℕ)) (faces : List Face) → GoodFrom count before texts faces → AllParsed texts
parsed_of count before [] faces good = tt
parsed_of count before (text ∷ texts) [] good = absurd good
parsed_of count before (text ∷ texts) (face ∷ faces) good =
    (record { raw = good.0.is_face.raw; parses = good.0.is_face.parses }, parsed_of count (before ++ face ∷ []) texts faces good.1)

module _ (joins : TextLaws) (names : NameLaws) (types : TypeLaws) (units : UnitLaws) where
  pub good_files_pass : FaceDeclares → GoodFilesPass
  good_files_pass declares texts faces raw some good parses of at also fails =
      let in_turn = in_turn_from (length texts) texts faces good in
      let parsed = parsed_of (length texts) [] texts faces in_turn in
      limits_alone raw
      (all_pass names types units declares (named_of raw) raw.items (is_named raw) (length texts) [] texts faces in_turn parsed [] 0
      (joined_tree joins texts parsed raw parses) (none_plus (length texts)) some (first_border (named_of raw))) of at also fails

  -- ---- files that pass together

  parsed_alone : (texts : List (List ℕ)) → All ParsesAlone texts → AllParsed texts
  parsed_alone [] alone = tt
  parsed_alone (text ∷ texts) alone =
      let one = All-head ParsesAlone text texts alone in
      (record { raw = one.raw; parses = one.parses }, parsed_alone texts (All-tail ParsesAlone text texts alone))

  all_alone : (texts : List (List ℕ)) → All ParsesAlone texts → AllTextsPass texts
  all_alone [] alone = tt
  all_alone (text ∷ texts) alone = ((All-head ParsesAlone text texts alone).passes, all_alone texts (All-tail ParsesAlone text texts alone))

  marked_last : (texts : List (List ℕ)) → MarksAreInLast texts → (parsed : AllParsed texts) → MarkedLast texts parsed
  marked_last [] marks parsed = tt
  marked_last (text ∷ []) marks parsed = tt
  marked_last (text ∷ (other ∷ texts)) marks parsed = (
    marks 0 text parsed.0.raw refl (omega arith) parsed.0.parses,
    marked_last (other ∷ texts) (λ k its raw there less parses. marks (suc k) its raw there (omega (arith, less)) parses) parsed.1,
  )

  whole_passes : (raw : Raw) → TreePasses raw → WholePasses (named_of raw) raw.items
  whole_passes raw passes =
      let found = units.peeled (typed_of raw).units in record {
        items = from_whole raw passes;
        peeled_units = found.peeled_units;
        are = found.are;
        nesting = limits_nesting (typed_of raw).structs found.peeled_units (typed_of raw).entry (limits_pass raw passes found.peeled_units found.are);
      }

  pub passing_files_are_good : AloneLaws → TreeDeclares → TreesHaveFaces → PassingFilesAreGood
  passing_files_are_good alone_laws declares have texts raw alone marks parses passes =
      let parsed = parsed_alone texts alone in
      let good =
      all_good alone_laws names types units declares have (named_of raw) raw.items (is_named raw) (whole_passes raw passes) (length texts) [] texts parsed
      (all_alone texts alone) (marked_last texts marks parsed) [] 0 (joined_tree joins texts parsed raw parses) (none_plus (length texts)) refl
      (first_border (named_of raw)) in
      record { faces = good.faces; good = in_turn_to (length texts) texts good.faces good.good }
