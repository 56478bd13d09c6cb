-- What is known while a `run` is read.
use Rattle.std.specs.Prelude.{ℕ, List}
use Rattle.bl_tree.specs.declared.token.Token.{Token}
use Rattle.bl_parse.specs.declared.parts.Started.{Started}
use Rattle.bl_parse.specs.At.{SpellsName}
use Rattle.bl_parse.specs.Statements.{SpellsReceiver}

-- maybe what receives the result, and a name
pub record SpellsStarted (text : List ℕ) (tokens : List Token) (started : Started) (from to : ℕ) : Type 0 where
  pub m : ℕ
  pub receiver : SpellsReceiver text tokens started.receiver from m
  pub name : SpellsName text tokens started.activity m to
