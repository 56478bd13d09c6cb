use Rattle.std.proofs.Common.{◌≡◌, ◌∙◌, ◌&&◌, ap}
use Rattle.std.specs.Prelude.{codes, is_some}
use Rattle.bl_tree.specs.declared.c.CMember.{CMember}
use Rattle.bl_ctext_semantics.specs.Tables.{Table}
use Rattle.bl_ctext_semantics.specs.inner.Checked.{checked_structs}
use Rattle.bl_ctext_semantics.specs.Faults.{faults_in, interface_structs, struct_table}
use Rattle.bl_ctext_semantics.proofs.FirstLemmas.{first_place-append}
use Rattle.bl_ctext_semantics.proofs.MapLemmas.{same_table}
use Rattle.bl_ctext_semantics.proofs.check.first_failing.Goals as goal

pub returns : goal.returns
unfolding faults_in
returns c =
    let structs : checked_structs c.in_ok-declared.declared.structs ≡ struct_table c.args.structs.now =
    same_table (checked_structs c.in_ok-declared.declared.structs) (struct_table c.args.structs.now) c.in_ok-declared.ensures.table in
    let all = λ (t : Table (Table CMember)). is_some (t (codes "bl_state")) && (is_some (t (codes "bl_in")) && is_some (t (codes "bl_out"))) in
    let there : c.has_interface.result ≡ all (struct_table c.args.structs.now) = c.has_interface.ensures ∙ ap all structs in
    rw (
      c.earlier-2.ensures,
      c.in_ok-declared.ensures.first,
      c.earlier.ensures,
      c.in_ok-inside.ensures,
      c.earlier-outside.ensures,
      c.unless-missing.ensures interface_structs,
      there,
      structs,
      c.last_place.ensures,
      c.judge_interface.ensures,
    )
    (simp first_place-append)
