use Rattle.std.proofs.Common.{◌+◌, ap, ◌∙◌}
use Rattle.bl_ctext_semantics.specs.Sizes.{size_of_member}
use Rattle.bl_ctext_semantics_laws.specs.Layout.{capped}
use Rattle.bl_crun_code_layout.specs.Views.{sizes_in}
use Rattle.bl_crun_code_layout.proofs.Layouts.{behind-saturated}
use Rattle.bl_crun_code_layout.proofs.layout.past.Goals as goal

pub returns : goal.returns
returns c =
    c.behind.ensures ∙ ap (λ n. capped (c.args.at + n)) c.member_size.ensures
    ∙ behind-saturated c.args.at (size_of_member (sizes_in c.args.sizes.now) c.args.member.now)
