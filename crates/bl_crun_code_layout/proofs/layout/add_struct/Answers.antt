use Rattle.std.proofs.Common.{◌≡◌, ℕ, List, false, ap, sym, ◌∙◌}
use Rattle.std.specs.Prelude.{is_some, bytes_eq, Some}
use Rattle.std.specs.Map.{update}
use Rattle.std.proofs.lemmas.Map.Text.{hash_map_updates_str}
use Rattle.bl_ctext_semantics.specs.inner.Maps.{text_at}
use Rattle.bl_ctext_semantics.specs.Tables.{table_of, with_entry}
use Rattle.bl_ctext_semantics.proofs.MapLemmas.{inserted, same_table, struct_added}
use Rattle.bl_ctext_semantics_laws.specs.Layout.{layout_of, members_laid}
use Rattle.bl_crun_code_layout.specs.Views.{members_in, sizes_in}
use Rattle.bl_crun_code_layout.proofs.layout.add_struct.Goals as goal

pub returns-in-Ok : goal.returns-in-Ok
returns-in-Ok c =
    let name = c.args.of.now.name in
    let absent : is_some (text_at c.args.structs.now name) ≡ false =
    ap (λ n. is_some (text_at c.args.structs.now n)) (sym c.deref.ensures) ∙ sym c.has.ensures ∙ c.if-has.false in
    let put : (asked : List ℕ) → text_at c.insert.new.self asked ≡ with_entry (text_at c.args.structs.now) name c.in_ok-laid.laid asked =
    λ asked. hash_map_updates_str c.as_str.result.now c.args.structs.now c.insert.new.self _ c.in-Ok.ensures.updates asked
    ∙ ap (λ n. update bytes_eq (text_at c.args.structs.now) n (Some c.in_ok-laid.laid) asked) c.as_str.ensures
    ∙ inserted (text_at c.args.structs.now) name c.in_ok-laid.laid absent asked in
    let whole : members_in c.in_ok-laid.laid ≡ (layout_of (sizes_in c.args.sizes.now) c.args.of.now).1 =
    same_table (members_in c.in_ok-laid.laid) (layout_of (sizes_in c.args.sizes.now) c.args.of.now).1
    (λ asked. c.in_ok-laid.ensures asked ∙ ap (λ l. table_of (members_laid (sizes_in c.args.sizes.now) 0 l) asked) c.deref-2.ensures) in
    struct_added members_in (text_at c.args.structs.now) (text_at c.insert.new.self) name c.in_ok-laid.laid
    (layout_of (sizes_in c.args.sizes.now) c.args.of.now).1 whole put
