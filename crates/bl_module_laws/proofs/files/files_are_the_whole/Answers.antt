use Rattle.bl_module_laws.proofs.Parts.{NameLaws, TypeLaws, UnitLaws}
use Rattle.bl_module_laws.proofs.Read.{TextLaws}
use Rattle.bl_module_laws.proofs.Together.{good_files_pass, passing_files_are_good}
use Rattle.bl_module_laws.proofs.WholeFiles.{AloneLaws}
use Rattle.bl_module_laws.proofs.files.files_are_the_whole.Goals as goal

text_laws : goal.After-trees_have_faces → TextLaws
text_laws c = record {
  tokens_one = c.tokens_are_one.ensures;
  trees_one = c.a_text_has_one_tree.ensures;
  lex = c.joined_texts_have_joined_tokens.ensures;
  pass = c.joined_tokens_pass.ensures;
  spell = c.joined_tokens_spell_joined_items.ensures;
}

alone_laws : goal.After-trees_have_faces → AloneLaws
alone_laws c = record {
  tokens_one = c.tokens_are_one.ensures;
  trees_one = c.a_text_has_one_tree.ensures;
  tokens_pass = c.first_failure_is_one.ensures.none;
  well_formed = c.what_is_spelled_keeps.ensures.keeps;
}

name_laws : goal.After-trees_have_faces → NameLaws
name_laws c = record {
  marks_move = c.marks_move.ensures;
  passing_agrees = c.scopes_agree.ensures.passing;
  marks_in_turn = c.marks_in_turn.ensures.marks;
  scopes_in_turn = c.marks_in_turn.ensures.scopes;
  passing_in_turn = c.marks_in_turn.ensures.passing;
  given = c.items_in_turn.ensures.given;
  counted = c.items_in_turn.ensures.counted;
  headings_open = c.headings_open.ensures.open;
  declared = c.headings_open.ensures.in_turn;
  declared_placed = c.headings_open.ensures.placed;
  blanks = c.headings_open.ensures.blanks;
  placed = c.items_are_placed.ensures;
  file_named = c.file_named.ensures;
  renumber = c.globals_in_turn.ensures.renumbered;
  globals_move = c.globals_in_turn.ensures.moved;
  globals_placed = c.globals_in_turn.ensures.placed;
  globals_counted = c.globals_in_turn.ensures.counted;
}

type_laws : goal.After-trees_have_faces → TypeLaws
type_laws c = record { follow = c.items_follow.ensures; known = c.items_are_known.ensures; agree = c.items_agree.ensures }

unit_laws : goal.After-trees_have_faces → UnitLaws
unit_laws c = record {
  units = c.failures_move.ensures.passing;
  graphs = c.failures_move-2.ensures.passing;
  nesting = c.nesting_moves.ensures.passing;
  peeled = c.units_are_peeled_in_one_way.ensures.there;
}

pub returns-clause-good : goal.returns-clause-good
returns-clause-good c = good_files_pass (text_laws c) (name_laws c) (type_laws c) (unit_laws c) c.faces_declare.ensures.text

pub returns-clause-whole : goal.returns-clause-whole
returns-clause-whole c =
    passing_files_are_good (text_laws c) (name_laws c) (type_laws c) (unit_laws c) (alone_laws c) c.faces_declare.ensures.tree c.trees_have_faces.ensures
