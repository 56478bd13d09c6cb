-- The command that a parse read, by what the getters of its matches give.
use Rattle.std.proofs.Common.{◌≡◌, Bool, false, true, refl, sym, ap₂, List, Option, Some, None, codes, option_map}
use Rattle.std.specs.Prelude.{Box}
use Rattle.std.specs.Box.{box_value}
use Rattle.std.specs.Str.{bytes_eq}
use Rattle.std.proofs.lemmas.Slice.Eq.{bytes_eq-Decides}
use Rattle.clap.specs.Walk.{Row, Text}
use Rattle.clap.specs.Words.{subcommand_name_of, subcommand_rows, subcommand_rows_of}
use Rattle.clap.specs.declared.parser.matches.ArgMatches.{ArgMatches}
use Rattle.clap.specs.declared.parser.matches.ArgMatches.TheViews.{out-ArgMatches, out-SubCommand}
use Rattle.clap.specs.declared.parser.matches.SubCommand.{SubCommand}
use Rattle.bl_top_args.specs.inner.CommandLine.{named_read}

parts_join : {Z : Type 0} (o : Option (Box SubCommand Z)) (name : Text) (rows : List Row) →
    Some name ≡ option_map (λ b. (out-SubCommand (box_value b)).name.now) o
    → Some rows ≡ option_map (λ p. p.1) (subcommand_rows o) → subcommand_rows o ≡ Some (name, rows)
parts_join None name rows e f = cc
parts_join (Some b) name rows e f =
    let a : name ≡ (out-SubCommand (box_value b)).name.now = cc in
    let p : rows ≡ _ = cc in
    ap₂ (λ (x : Text) (y : List Row). Some (x, y)) (sym a) (sym p)

-- the name and the rows of a subcommand are those that its two parts give
pub command_is : (matches : ArgMatches) (name : Text) (rows : List Row) → Some name ≡ subcommand_name_of matches →
    Some rows ≡ option_map (λ p. p.1) (subcommand_rows_of matches)
    → subcommand_rows_of matches ≡ Some (name, rows)
command_is matches name rows = parts_join (out-ArgMatches matches).subcommand name rows

-- a name that is not this one
differs : (label name : Text) → (name ≡ label → ⊥) → bytes_eq label name ≡ false
differs label name other = go (bytes_eq label name) refl
  where
    go : (b : Bool) → bytes_eq label name ≡ b → b ≡ false
    go true e = absurd (other (sym ((bytes_eq-Decides label name).0 e)))
    go false e = refl

-- no job is read of a command with a name that is none of these
pub unnamed_read : (name : Text) (first second third : Option Text) → (name ≡ codes "check" → ⊥) → (name ≡ codes "build" → ⊥) →
    (name ≡ codes "run" → ⊥) → (name ≡ codes "walk" → ⊥) → (name ≡ codes "exec" → ⊥) →
    (name ≡ codes "gen" → ⊥) → (name ≡ codes "bound" → ⊥) →
    (name ≡ codes "count" → ⊥) → (name ≡ codes "save" → ⊥) → (name ≡ codes "resume" → ⊥) → named_read name first second third ≡ None
unnamed_read name first second third check build run walk exec gen bound count save resume =
    rw (
      differs (codes "check") name check,
      differs (codes "build") name build,
      differs (codes "run") name run,
      differs (codes "walk") name walk,
      differs (codes "exec") name exec,
      differs (codes "gen") name gen,
      differs (codes "bound") name bound,
      differs (codes "count") name count,
      differs (codes "save") name save,
      differs (codes "resume") name resume,
    ) refl
