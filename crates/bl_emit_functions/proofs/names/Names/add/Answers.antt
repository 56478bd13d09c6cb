use Rattle.std.proofs.Common.{◌≡◌, ◌||◌, OnOk, map, ap, sym, subst, ◌∙◌}
use Rattle.std.specs.Prelude.{bytes_eq}
use Rattle.bl_tree.specs.declared.text.Text.{Text}
use Rattle.bl_tree.specs.Words.{is_among}
use Rattle.bl_emit_functions.proofs.Among.{among-more}
use Rattle.bl_emit_functions.proofs.names.Names.add.Goals as goal
use Rattle.bl_emit_functions.proofs.names.Names.add.Goals.{in-Ok, in-Err}

pub returns : goal.returns
returns c =
    elim c.match-insert.branch [
      | in-Ok w ↦
          subst (λ r. OnOk r ((asked : Text) → is_among asked (map (λ name. name.now) c.insert.new.self.keys)
          ≡ is_among asked c.args.self.now || bytes_eq c.args.name.now asked)) (sym w.result-is)
          (λ asked. ap (λ keys. is_among asked (map (λ name. name.now) keys)) w.in-Ok.ensures.keys
          ∙ among-more asked c.args.name c.self.inside.set.keys
          ∙ ap (λ names. is_among asked names || bytes_eq c.args.name.now asked) c.self.view_is)
      | in-Err w ↦
          subst (λ r. OnOk r ((asked : Text) → is_among asked (map (λ name. name.now) c.insert.new.self.keys)
          ≡ is_among asked c.args.self.now || bytes_eq c.args.name.now asked)) (sym w.result-is) tt
    ]
