use Rattle.std.proofs.Common.{◌≡◌, ◌∙◌, ◌++◌, ap, List, [], ℕ, pos, codes, append_assoc, rules}
use Rattle.std.proofs.lemmas.Int.{to_z-of_z}
use Rattle.std.specs.Int.{w128}
use Rattle.bl_gen.specs.Outputs.{line_text}
use Rattle.bl_gen.proofs.outputs.lines.Goals as goal

-- four pieces, one behind the other
four_pieces : (t0 t1 t2 t3 t4 a b c d : List ℕ) → t0 ≡ [] → t1 ≡ t0 ++ a → t2 ≡ t1 ++ b → t3 ≡ t2 ++ c → t4 ≡ t3 ++ d →
    t4 ≡ a ++ (b ++ (c ++ d))
four_pieces t0 t1 t2 t3 t4 a b c d e0 e1 e2 e3 e4 = rw (e4, e3, e2, e1, e0) (simp append_assoc)

pub returns : goal.returns
returns c =
    four_pieces c.new-text.result.items c.append_line.new.text.items c.append_line-2.new.text.items c.append_line-3.new.text.items
    c.append_line-4.new.text.items (line_text (codes "stages ") (pos c.args.stages)) (line_text (codes "ticks ") (pos c.args.ticks))
    (line_text (codes "sum ") c.args.sum) (line_text (codes "last ") c.args.last) c.new-text.ensures.items
    (c.in_ok-append_line.ensures
    ∙ ap (λ n. c.new-text.result.items ++ line_text (codes "stages ") n) (to_z-of_z w128 c.from.result (search rules) ∙ c.from.ensures))
    (c.in_ok-append_line-2.ensures
    ∙ ap (λ n. c.append_line.new.text.items ++ line_text (codes "ticks ") n) (to_z-of_z w128 c.from-2.result (search rules) ∙ c.from-2.ensures))
    (c.in_ok-append_line-3.ensures
    ∙ ap (λ n. c.append_line-2.new.text.items ++ line_text (codes "sum ") n) (to_z-of_z w128 c.args.sum (search rules)))
    (c.in_ok-append_line-4.ensures
    ∙ ap (λ n. c.append_line-3.new.text.items ++ line_text (codes "last ") n) (to_z-of_z w128 c.args.last (search rules)))
