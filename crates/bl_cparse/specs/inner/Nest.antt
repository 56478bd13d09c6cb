-- Statements that are read in part: those in braces that are still open.
use Rattle.std.specs.Prelude.{Bool, ◌&&◌, List, [], ◌∷◌, ◌++◌, map, codes}
use Rattle.bl_tree.specs.Reduce.{all_of, joined}
use Rattle.bl_ctext.specs.Token.{Token}
use Rattle.bl_ctext.specs.Names.{is_turn_name}
use Rattle.bl_ctext.specs.Spelling.{stmt_tokens, condition_tokens, braced, turn_declared, turn_counted}
use Rattle.bl_ctext.specs.Spellable.{spells_expr, spells_stmt}
use Rattle.bl_cparse.specs.declared.parser.stmt.Opened.{Opened}
use Rattle.bl_cparse.specs.declared.parser.stmt.Opened.TheVariants.{Then, Else, Turns}
use Rattle.bl_cparse.specs.declared.parser.stmt.Frame.{Frame}
use Rattle.bl_cparse.specs.declared.parser.stmt.Nest.{Nest}

-- the front of a statement up to the brace of the part that is open
abbrev pub opened_tokens : Opened → List Token
opened_tokens (Then test) = codes "if" ∷ (condition_tokens test ++ codes "{" ∷ [])
opened_tokens (Else test then_part) = codes "if" ∷ (condition_tokens test ++ (braced (map stmt_tokens then_part) ++ codes "else" ∷ codes "{" ∷ []))
opened_tokens (Turns turn test) = turn_declared turn ++ (condition_tokens test ++ turn_counted turn)

-- whether what is read of an open statement has a spelling
abbrev pub spells_opened : Opened → Bool
spells_opened (Then test) = spells_expr test
spells_opened (Else test then_part) = spells_expr test && all_of (map spells_stmt then_part)
spells_opened (Turns turn test) = is_turn_name turn && spells_expr test

-- the statements before an open one, and its front
abbrev pub frame_tokens : Frame → List Token
frame_tokens f = joined (map stmt_tokens f.before) ++ opened_tokens f.opened

-- whether the statements before an open one and what is read of it have a spelling
abbrev pub spells_frame : Frame → Bool
spells_frame f = all_of (map spells_stmt f.before) && spells_opened f.opened

-- all that is read of a function's body
abbrev pub nest_tokens : Nest → List Token
nest_tokens n = joined (map frame_tokens n.outer.items) ++ joined (map stmt_tokens n.body)

-- whether all that is read of a function's body has a spelling
abbrev pub spells_nest : Nest → Bool
spells_nest n = all_of (map spells_frame n.outer.items) && all_of (map spells_stmt n.body)
