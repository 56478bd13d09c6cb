use Rattle.std.proofs.Common.{List, [], ap, ◌∙◌}
use Rattle.bl_tree.specs.declared.text.Text.{Text}
use Rattle.bl_emit_tables.specs.Words.{kept_word}
use Rattle.bl_emit_tables.proofs.GrowLemmas.{room}
use Rattle.bl_emit_tables.proofs.WordLemmas.{word_put}
use Rattle.bl_emit_tables.proofs.words.put.Goals as goal

pub set-requires : goal.set-requires
set-requires c = room [] c.args.words.now c.grow.new.words c.args.number c.in_ok-grow.ensures

pub returns : goal.returns
returns c = λ k.
    ap (λ (words : List Text). kept_word words k) c.set.ensures
    ∙ word_put c.args.words.now c.grow.new.words c.args.number k c.args.word c.in_ok-grow.ensures
