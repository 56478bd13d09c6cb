use Rattle.std.proofs.Common.{◌∙◌, rules}
use Rattle.bl_ctext_semantics.proofs.TableLemmas.{found_builtin}
use Rattle.bl_ctext_semantics.proofs.MapLemmas.{only_second}
use Rattle.bl_ctext_semantics.proofs.prelude.Builtins.new.Goals as goal

pub invariant_of-result : goal.invariant_of-result
invariant_of-result c =
    record { complete = λ asked. c.in_ok-fill.ensures asked ∙ only_second _ _ (search (rules, c.new-by_name.ensures.empty)) ∙ found_builtin asked }
