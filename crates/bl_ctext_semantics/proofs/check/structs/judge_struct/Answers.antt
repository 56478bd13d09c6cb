use Rattle.std.proofs.Common.{◌≡◌, ◌∙◌, ap, map}
use Rattle.bl_ctext_semantics.specs.Faults.{all_distinct, distinct_names, declared_before, short_chain, interface_members}
use Rattle.bl_ctext_semantics.specs.inner.Maps.{bytes_of}
use Rattle.bl_ctext_semantics.specs.Tables.{no_entries}
use Rattle.bl_ctext_semantics.proofs.FirstLemmas.{first_place-append}
use Rattle.bl_ctext_semantics.proofs.check.structs.judge_struct.Goals as goal

pub returns : goal.returns
returns c =
    let apart : c.in_ok-apart.apart ≡ all_distinct no_entries (map (λ m. m.name) c.args.of.now.members) =
    c.in_ok-apart.ensures ∙ ap (λ l. all_distinct no_entries (bytes_of l)) c.deref-2.ensures.value ∙ ap (all_distinct no_entries) c.in_ok-names.ensures
    ∙ ap (λ l. all_distinct no_entries (map (λ m. m.name) l)) c.deref.ensures in
    rw (
      c.earlier-2.ensures,
      c.earlier-inside.ensures,
      c.earlier.ensures,
      c.earlier-last.ensures,
      c.unless-5.ensures distinct_names,
      c.unless-3.ensures declared_before,
      c.unless-4.ensures distinct_names,
      c.unless.ensures short_chain,
      c.unless-2.ensures interface_members,
      c.has_struct.ensures,
      c.deref-4.ensures,
      c.members_are_declared.ensures,
      c.deref-3.ensures,
      apart,
      c.struct_depth-shallow.ensures,
      c.interface_fits.ensures,
    )
    (simp first_place-append)
