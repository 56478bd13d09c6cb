use Rattle.std.proofs.Common.{◌≡◌, List, rules, subst, true}
use Rattle.bl_tree.specs.Reduce.{all_of}
use Rattle.bl_ctext.specs.Spellable.{has_any, is_spellable, spells_struct}
use Rattle.bl_simplify.proofs.OnFiles.{spelled_with}
use Rattle.bl_simplify.proofs.files.with_functions.Goals as goal

pub invariant_of-result : goal.invariant_of-result
invariant_of-result c =
    let old = c.args.old.now in
    let copied : c.in_ok-copied_structs.field-0 ≡ old.structs = search rules in
    record {
      spellable = spelled_with old.structs c.in_ok-copied_structs.field-0 old.funcs c.args.funcs old.spellable copied
          (λ some any spelled. subst (λ f. is_spellable some f ≡ true) c.deref.ensures (c.spell.ensures c.if-spell.true some any spelled));
    }
