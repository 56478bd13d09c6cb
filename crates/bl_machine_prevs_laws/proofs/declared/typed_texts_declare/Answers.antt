use Rattle.bl_machine_prevs_laws.proofs.OnDeclared.Program.{typed_from_text}
use Rattle.bl_machine_prevs_laws.proofs.declared.typed_texts_declare.Goals as goal

pub returns : goal.returns
returns c = typed_from_text c.plain_statements.ensures c.what_is_typed_keeps.ensures.keeps
    c.what_is_typed_is_declared.ensures
