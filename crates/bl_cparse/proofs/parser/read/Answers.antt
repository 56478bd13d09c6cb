use Rattle.std.proofs.Common.{◌≡◌, ℕ, List, ◌++◌, length, drop, sym, subst, ◌∙◌}
use Rattle.bl_ctext.specs.declared.prelude.TheConstants.{PRELUDE}
use Rattle.bl_ctext.specs.Prelude.{prelude}
use Rattle.bl_ctext.specs.Token.{Token, SpacedC}
use Rattle.bl_cparse_syntax.specs.Pieces.{pieces}
use Rattle.bl_cparse_syntax.specs.Grammar.{most_open}
use Rattle.bl_cparse.proofs.FileLemmas.{spells, is_file, whole_tokens, passes_tokens, passes_flat, expected}
use Rattle.bl_cparse.proofs.ReadLemmas.{wanting}
use Rattle.bl_cparse.proofs.parser.read.Goals as goal

pub returns-clause-file : goal.returns-clause-file
returns-clause-file c =
    subst (λ (ts : List Token). (rest : List ℕ) × ((c.args.text.now ≡ prelude ++ rest) × SpacedC ts rest)) (sym c.placed.ensures.tokens)
    (spells c.in_ok-structs.structs c.in_ok-funcs.funcs c.args.text.now (drop (length PRELUDE.now) c.args.text.now) c.structs.new.r
    c.requires.begins
    (sym c.new-reader.ensures ∙ c.in_ok-structs.ensures.read.0) c.in_ok-funcs.ensures.read.0
    (passes_tokens c.args.text.now (length PRELUDE.now) c.requires.passes))

pub placed-requires-clause-spellable : goal.placed-requires-clause-spellable
placed-requires-clause-spellable c =
    is_file c.in_ok-structs.structs c.in_ok-funcs.funcs (pieces (drop (length PRELUDE.now) c.args.text.now))
    (whole_tokens c.in_ok-structs.structs c.in_ok-funcs.funcs (pieces (drop (length PRELUDE.now) c.args.text.now)) c.structs.new.r
    (sym c.new-reader.ensures ∙ c.in_ok-structs.ensures.read.0) c.in_ok-funcs.ensures.read.0)
    c.in_ok-structs.ensures.read.1.0 c.in_ok-funcs.ensures.read.1.0 c.in_ok-structs.ensures.read.1.1 c.in_ok-funcs.ensures.read.1.1
    (passes_flat c.args.text.now (length PRELUDE.now) c.requires.passes)

pub returns-in_err-structs-clause-memory : goal.returns-in_err-structs-clause-memory
returns-in_err-structs-clause-memory c = wanting _ _ _ c.from_residual.ensures.1
    (c.in_err-structs.ensures.follows most_open _ (expected c.new-reader.result c.args.text.now c.new-reader.ensures c.requires.passes))

pub returns-in_err-funcs-clause-memory : goal.returns-in_err-funcs-clause-memory
returns-in_err-funcs-clause-memory c = wanting _ _ _ c.from_residual-in_err-funcs.ensures.1
    (c.in_err-funcs.ensures.follows (c.in_ok-structs.ensures.follows most_open _
    (expected c.new-reader.result c.args.text.now c.new-reader.ensures c.requires.passes)))
